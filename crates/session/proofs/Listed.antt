-- Every refusal of this crate is one of document 01's: what bars a frame, and a decision's. Assumes nothing.
use Prim.Native.Nat.{ℕ, ◌+◌, ◌≤◌, max}
use mathlib.Core.Path.{◌≡◌, refl, sym, subst, ◌∙◌}
use mathlib.Core.Bool.{false, ◌&&◌, ◌||◌, not}
use native.Mathlib.Omega.{arith}
use lib.Dec.{eqb, leb}
use Rattle.figures.specs.Refusal.{Listed}
use Rattle.figures.proofs.Listed.{listed, ListedOrNone}
use Rattle.numbers.proofs.Choices.{either, unless_elim}
use Rattle.frame.specs.declared.Header.{Header}
use Rattle.frame.specs.Message.{totals_fit}
use Rattle.session.specs.declared.Reassembly.{Reassembly}
use Rattle.session.specs.declared.Row.{Row}
use Rattle.session.specs.declared.Said.{Said}
use Rattle.session.specs.declared.Act.{Act}
use Rattle.session.specs.declared.Act.TheVariants.{Refuse, Drop, Accept, Beat, Start, NoStart, Stop, Close, NoEnd, Claim, Append, Deliver, Single}
use Rattle.session.specs.Rows.{message_at}
use Rattle.session.specs.Rules.{version_fits, mtu_fits, service_fits, command_fits, barred_by}
use Rattle.session.specs.Decide.{place_of, need_of, held_of, first_of, due_number, sized, next_for, single_of, startable, starting_of, endable, is_hash, hash_of, ending_of, control_of, content_of}

bars_listed : (major mtu : ℕ) (r : Row) (h : Header) → ListedOrNone (barred_by major mtu r h)
unfolding barred_by
bars_listed major mtu r h =
    unless_elim ListedOrNone (not h.flag) 13 _ (λ _ _. listed 13 refl) λ _.
    unless_elim ListedOrNone (version_fits major r h.version) 14 _ (λ _ _. listed 14 refl) λ _.
    unless_elim ListedOrNone (mtu_fits mtu r h.size) 15 _ (λ _ _. listed 15 refl) λ _.
    unless_elim ListedOrNone (service_fits r h) 16 _ (λ _ _. listed 16 refl) λ _.
    unless_elim ListedOrNone (command_fits r h) 17 0 (λ _ _. listed 17 refl) (λ _ z. absurd (z refl))

pub barred_listed : (major mtu : ℕ) (r : Row) (h : Header) {n : ℕ} → n ≡ barred_by major mtu r h → 1 ≤ n → Listed n
barred_listed major mtu r h {n} e l = subst Listed (sym e) (bars_listed major mtu r h (λ z. let none : n ≡ 0 = e ∙ z in omega arith))

-- a decision: where it refuses, the number is one of those
abbrev pub ListedAct : Act → Type 0
ListedAct (Refuse n) = Listed n
ListedAct (Drop n) = Listed n
ListedAct Accept = Unit {0}
ListedAct Beat = Unit {0}
ListedAct Start = Unit {0}
ListedAct NoStart = Unit {0}
ListedAct Stop = Unit {0}
ListedAct Close = Unit {0}
ListedAct (NoEnd named) = Unit {0}
ListedAct (Claim total count) = Unit {0}
ListedAct Append = Unit {0}
ListedAct Deliver = Unit {0}
ListedAct Single = Unit {0}

pub control_listed : (r : Row) (h : Header) (said : Said) → ListedAct (control_of r h said)
unfolding control_of starting_of ending_of
control_listed r h said =
    either ListedAct (eqb h.info 0x01) _ _
    (λ _. unless_elim ListedAct (startable r h.service.0 && (not (eqb r.version 5) || said.readable)) NoStart Start (λ _. tt) (λ _. tt)) λ _.
    either ListedAct (eqb h.info 0x04) _ _
    (λ _.
    unless_elim ListedAct (endable r h.service.0) (NoEnd false) _ (λ _. tt) λ _.
    unless_elim ListedAct (is_hash said.hash (hash_of r h.service.0)) (NoEnd (eqb r.version 5)) _ (λ _. tt) λ _.
    either ListedAct (eqb h.service.0 0x07) Close Stop (λ _. tt) (λ _. tt)) λ _.
    either ListedAct (eqb h.info 0x00) Beat Accept (λ _. tt) (λ _. tt)

pub first_listed : (r : Row) (others : ℕ) (h : Header) (total count : ℕ) → ListedAct (first_of r others h total count)
unfolding first_of
first_listed r others h total count =
    unless_elim ListedAct (totals_fit total count) (Refuse 18) _ (λ _. listed 18 refl) λ _.
    unless_elim ListedAct (not (message_at r (place_of h.service.0)).live) (Refuse 19) _ (λ _. listed 19 refl) λ _.
    unless_elim ListedAct (leb (held_of r + need_of total) r.cap) (Refuse 20) _ (λ _. listed 20 refl) λ _.
    unless_elim ListedAct (leb (others + max (held_of r + need_of total) r.guarantee) 256) (Refuse 21) (Claim total count) (λ _. listed 21 refl) (λ _. tt)

pub next_listed : (m : Reassembly) (room : ℕ) (h : Header) → ListedAct (next_for m room h)
unfolding next_for
next_listed m room h =
    unless_elim ListedAct m.live (Refuse 22) _ (λ _. listed 22 refl) λ _.
    unless_elim ListedAct (eqb h.message.0 m.id.0) (Refuse 23) _ (λ _. listed 23 refl) λ _.
    unless_elim ListedAct (eqb h.info (due_number m)) (Drop 24) _ (λ _. listed 24 refl) λ _.
    unless_elim ListedAct (sized m h.size) (Drop 25) _ (λ _. listed 25 refl) λ _.
    unless_elim ListedAct (eqb m.frames 1) Append _ (λ _. tt) λ _.
    unless_elim ListedAct (leb m.total room) (Refuse 11) Deliver (λ _. listed 11 refl) (λ _. tt)

pub single_listed : (room : ℕ) (h : Header) → ListedAct (single_of room h)
unfolding single_of
single_listed room h = unless_elim ListedAct (leb h.size room) (Refuse 11) Single (λ _. listed 11 refl) (λ _. tt)

pub content_listed : (r : Row) (others room : ℕ) (h : Header) (total count : ℕ) → ListedAct (content_of r others room h total count)
unfolding content_of
content_listed r others room h total count =
    either ListedAct (eqb h.kind 1) _ _ (λ _. single_listed room h) λ _.
    either ListedAct (eqb h.kind 2) _ _ (λ _. first_listed r others h total count) (λ _. next_listed (message_at r (place_of h.service.0)) room h)
