-- `sender::Sendable::put_next` meets its contract: the chunk at a place lies inside the message, its number is a byte, and the frame is put as planned.
-- Assumes nothing.
use mathlib.Core.Path.{◌≡◌, ◌∙◌, ap}
use native.Mathlib.Omega.{arith}
use Prim.Native.Nat.{ℕ, ◌-◌, ◌*◌, ◌≤◌, ◌<◌}
use mathlib.Core.List.{List}
use lib.ListN.{length}
use Rattle.frame.specs.Message.{frame_number}
use Rattle.frame.specs.Write.{put_of}
use Rattle.frame.proofs.Laws.{largest_range}
use Rattle.frame.proofs.Message.{number_byte}
use Rattle.sender.specs.declared.Outgoing.{Outgoing}
use Rattle.sender.specs.Sender.{Ready, plan, bytes_of, chunk_of, count_of}
use Rattle.sender.proofs.Counts.{small_start, small_end, chunk_range, starts, chunk_cut, some_chunk}
use Rattle.sender.proofs.Laws.{next_fault}
use Rattle.sender.proofs.Sendable.put_next.Goals as goal

-- what 10 leaves of the chunk
chunk : (o : Outgoing) → Ready o → (1 ≤ o.chunk) × (o.chunk ≤ 131072)
chunk o r =
    let w = chunk_range o.version o.chunk r.chunk in
    (w.0, omega (arith, largest_range o.version))

-- it starts inside the message
inside : (o : Outgoing) (m : List ℕ) (place count : ℕ) → Ready o → count ≡ count_of o m → 1 ≤ place → place ≤ count → 1 ≤ length m → (place - 1) * o.chunk < length m
inside o m place count r e low high some = starts o m some (chunk o r).0 (place - 1) (omega arith)

pub overflow_mul-start : goal.overflow_mul-start
overflow_mul-start c =
    let k = chunk c.args.self.outgoing c.args.self.ready in
    record { fits = small_start _ _ (omega arith) (omega arith) }

pub overflow_add-start : goal.overflow_add-start
overflow_add-start c =
    let k = chunk c.args.self.outgoing c.args.self.ready in
    record { fits = small_end _ _ _ (omega arith) (omega arith) (omega arith) }

pub overflow_cast-number : goal.overflow_cast-number
overflow_cast-number c = omega (arith, c.frame_number-number.ensures, number_byte c.args.place c.args.count)

pub slice_bounds-put-count : goal.slice_bounds-put-count
slice_bounds-put-count c =
    let a = c.args in
    let i = inside a.self.outgoing a.message.now a.place a.count c.args.self.ready c.requires.count_value.0 c.requires.le_place.0 c.requires.le_place.1 c.requires.le_place.2 in
    omega (arith, c.min-end.ensures)

pub slice_bounds-put-start : goal.slice_bounds-put-start
slice_bounds-put-start c =
    let a = c.args in
    let i = inside a.self.outgoing a.message.now a.place a.count c.args.self.ready c.requires.count_value.0 c.requires.le_place.0 c.requires.le_place.1 c.requires.le_place.2 in
    omega (arith, c.min-end.ensures)

pub put-requires : goal.put-requires
put-requires c =
    let a = c.args in
    let o = a.self.outgoing in
    let m = a.message.now in
    let k = chunk o c.args.self.ready in
    let i = inside o m a.place a.count c.args.self.ready c.requires.count_value.0 c.requires.le_place.0 c.requires.le_place.1 c.requires.le_place.2 in
    let l = some_chunk o m (omega arith) k.0 a.place (omega arith) (omega arith) in
    let cut = chunk_cut o m a.place c.min-end.result c.min-end.ensures (omega arith) in
    rw cut (next_fault o c.args.self.ready c.frame_number-number.result (length (chunk_of o m a.place)) l.0 l.1)

pub returns : goal.returns
returns c =
    let a = c.args in
    let o = a.self.outgoing in
    let m = a.message.now in
    let i = inside o m a.place a.count c.args.self.ready c.requires.count_value.0 c.requires.le_place.0 c.requires.le_place.1 c.requires.le_place.2 in
    let cut = chunk_cut o m a.place c.min-end.result c.min-end.ensures (omega arith) in
    let n : c.frame_number-number.result ≡ frame_number a.place (count_of o m)
    = c.frame_number-number.ensures ∙ ap (frame_number a.place) c.requires.count_value.0 in
    c.put.ensures ∙ ap (λ (l : List ℕ). put_of (bytes_of (plan o 3 c.frame_number-number.result l)) a.out.now) cut
    ∙ ap (λ (x : ℕ). put_of (bytes_of (plan o 3 x (chunk_of o m a.place))) a.out.now) n
