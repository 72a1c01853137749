-- `frame::put_header` meets its contract: four bytes stored one by one, then one number or two, each right behind what was laid.
-- The second is put into a part of its own. Assumes nothing.
use Rattle.std.proofs.Common.{arith, Bool, ◌≡◌, refl, ◌∙◌, ◌+◌, ◌*◌, ◌≤◌, ℕ, ◌∷◌, length, length-set}
use borrow.Author.Tests.{ne_eqb}
use mir.Val.{bool_byte}
use Rattle.numbers.specs.Bytes.{laid, pick}
use Rattle.numbers.specs.Numbers.{bytes_be}
use Rattle.numbers.proofs.Laws.{length_be}
use Rattle.frame.specs.Rules.{header_size, fault_of}
use Rattle.frame.specs.declared.Header.{Header}
use Rattle.frame.proofs.Laws.{fault_none, version_range, header_range, flag_is, flag_most}
use Rattle.frame.proofs.Buffers.{front_put, number_alone, header_one, header_more}
use Rattle.frame.proofs.put_header.Goals as goal

-- a version that is listed
listed : (h : Header) → fault_of h ≡ 0 → (1 ≤ h.version) × (h.version ≤ 5)
listed h e = version_range h.version (fault_none h e).version

-- the flag as a number, eight times
flag_bit : (f : Bool) (b : ℕ) → b ≡ bool_byte f → b * 8 ≡ pick f 8 0
flag_bit f b e = rw e (flag_is f)

-- out has the header's 8 or 12 bytes
room : (h : Header) (n : ℕ) → header_size h.version ≤ n → 8 ≤ n
room h n e = omega (arith, header_range h.version)

-- where there is a message id, out has its four bytes too
id_room : (h : Header) (n : ℕ) → (h.version ≡ 1 → ⊥) → header_size h.version ≤ n → 12 ≤ n
unfolding header_size
id_room h n more e =
    let z : header_size h.version ≡ 12 = rw (ne_eqb h.version 1 more) in
    omega arith

pub overflow_mul-out : goal.overflow_mul-out
overflow_mul-out c = let v = listed c.args.header c.requires.0 in record { fits = omega arith }

pub overflow_add-out : goal.overflow_add-out
overflow_add-out c =
    let v = listed c.args.header c.requires.0 in
    record { fits = omega (arith, c.from.ensures, flag_is c.args.header.flag, flag_most c.args.header.flag) }

pub overflow_add-out-2 : goal.overflow_add-out-2
overflow_add-out-2 c =
    let v = listed c.args.header c.requires.0 in
    let s = fault_none c.args.header c.requires.0 in
    record { fits = omega (arith, c.from.ensures, flag_is c.args.header.flag, flag_most c.args.header.flag) }

pub bounds-out-0 : goal.bounds-out-0
bounds-out-0 c = let r = room c.args.header (length c.args.out.now) c.requires.1 in omega arith

pub bounds-out-1 : goal.bounds-out-1
bounds-out-1 c = let r = room c.args.header (length c.args.out.now) c.requires.1 in simp length-set (omega arith)

pub bounds-out-2 : goal.bounds-out-2
bounds-out-2 c = let r = room c.args.header (length c.args.out.now) c.requires.1 in simp length-set (omega arith)

pub bounds-out-3 : goal.bounds-out-3
bounds-out-3 c = let r = room c.args.header (length c.args.out.now) c.requires.1 in simp length-set (omega arith)

pub returns-then-header-eq1 : goal.returns-then-header-eq1
returns-then-header-eq1 c =
    let h = c.args.header in
    let r = room h (length c.args.out.now) c.requires.1 in
    header_one h (c.from.result * 8) c.args.out.now _ (flag_bit c.args.header.flag c.from.result c.from.ensures) (omega arith)
    (front_put _ h.service.0 h.info h.session.0 h.size c.args.out.now _ r c.put_be4.ensures)

pub slice_bounds-put_be4-end : goal.slice_bounds-put_be4-end
slice_bounds-put_be4-end c =
    let kept : length c.put_be4.new.out ≡ length c.args.out.now = c.put_be4.auto.out ∙ simp length-set in
    let r = id_room c.args.header (length c.args.out.now) (λ e. omega arith) c.requires.1 in
    omega (arith, kept)

pub returns : goal.returns
returns c =
    let h = c.args.header in
    let r = room h (length c.args.out.now) c.requires.1 in
    let eight = (h.version * 16 + (c.from.result * 8) + h.kind) ∷ h.service.0 ∷ h.info ∷ h.session.0 ∷ bytes_be 4 h.size in
    let front : c.put_be4.new.out ≡ laid eight c.args.out.now = front_put _ h.service.0 h.info h.session.0 h.size c.args.out.now _ r c.put_be4.ensures in
    header_more h (c.from.result * 8) c.args.out.now _ (flag_bit c.args.header.flag c.from.result c.from.ensures) (λ e. omega arith)
    (number_alone eight h.message.0 8 c.args.out.now _ _ _
    (rw (length_be 4 h.size)) (id_room h (length c.args.out.now) (λ e. omega arith) c.requires.1) front c.put_be4-2.ensures refl)
