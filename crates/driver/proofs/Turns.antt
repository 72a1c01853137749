-- The pool that `new` fills, the answer of a call as a line, and what a line leaves. Assumes nothing.
use Rattle.std.proofs.Common.{◌≡◌, ℕ, suc, ◌+◌, ◌-◌, ◌%◌, ◌<◌, ◌≤◌, min, true, eqb, List, [], ◌++◌, length, take, set, ap, ◌∙◌, append-nil, add-one, arith, take_all, take-suc-set}
use lib.Seq.{append_snoc}
use Rattle.std.proofs.Common.{Result, Ok, Err, refl}
use Rattle.std.specs.Result.{is_ok, IfErr}
use Rattle.figures.specs.Refusal.{refusal_in}
use Rattle.text.specs.declared.Text.{Text}
use Rattle.text.specs.Said.{Started, Longer}
use Rattle.words.specs.declared.Command.{Command}
use Rattle.payload.specs.declared.version.Version.{Version}
use Rattle.link.specs.declared.Grant.{Grant}
use Rattle.state.specs.Layout.{link_of}
use Rattle.state.specs.Calls.{call_in, Told, told_of, Made, create_in}
use Rattle.driver.specs.Spelling.{Holds, text_line}
use Rattle.driver.specs.Answers.{untouched_out, lent_out, wide_at}
use Rattle.driver.specs.States.{state_text}
use Rattle.driver.specs.Turns.{Left, leaving, pool_from, new_pool, version_of, created_text, new_by, new_of, grant_of, answer_line, checks_text, called_by, called_of}
use Rattle.driver.proofs.Answers.{lent_front}
use Rattle.driver.proofs.Spelling.{held, held_more, line_held}

-- the loop that fills a pool: what is filled, followed by what is to come
module _ (pool : List ℕ) (next i n : ℕ) (all : length pool ≡ n) where
  pub pool_turn : i < n → take (i + 1) (set pool i next) ++ pool_from ((next + 7) % 256) (n - (i + 1)) ≡ take i pool ++ pool_from next (n - i)
  unfolding pool_from
  pool_turn h =
      let z : n - i ≡ suc (n - (i + 1)) = omega arith in
      let h' : i < length pool = omega arith in
      rw (z, add-one, take-suc-set pool i next h', append_snoc)

  pub pool_end : n ≤ i → take i pool ++ pool_from next (n - i) ≡ pool
  unfolding pool_from
  pool_end h =
      let z : n - i ≡ 0 = omega arith in
      rw (z, append-nil) (take_all i pool (omega arith))

-- whether it is done is told by its number, since a refusal's is 10
pub done_is : {A : Type 0} (r : Result A ℕ) → IfErr r (λ n. n ≡ 10) → is_ok r ≡ eqb (refusal_in r) 0
done_is (Ok u) e = refl
done_is (Err n) e = rw e

-- what `new` leaves
pub new_is : (c : Command) (state pool : List ℕ) {v : Version} {mtu : ℕ} {m : Made} {p w : List ℕ} {t : Text}
    → v ≡ version_of c → mtu ≡ wide_at c 3 → m ≡ create_in state v mtu → p ≡ new_pool pool → Started (created_text m.refused) t → w ≡ text_line t []
    → leaving (eqb m.refused 0) m.state p w ≡ new_of c state pool
new_is c state pool {v} {mtu} {m} {p} {w} {t} e f g h s l =
    ap (λ (x : List ℕ). leaving (eqb m.refused 0) m.state x w) h
    ∙ ap (leaving (eqb m.refused 0) m.state (new_pool pool)) (l ∙ line_held (held s) [])
    ∙ ap (new_by pool) (g ∙ ap (λ (x : Version). create_in state x mtu) e ∙ ap (create_in state (version_of c)) f)

-- what a call leaves, spelled: its answer, the checks, the state
pub called_is : (o : Told) {w : List ℕ} {t u r : Text} → Holds (answer_line o.values) t → Longer t (checks_text o.out o.pool) u
    → Longer u (state_text (link_of o.state)) r → w ≡ text_line r o.out → leaving true o.state o.pool w ≡ called_by o
called_is o h f g l = ap (leaving true o.state o.pool) (l ∙ line_held (held_more (held_more h f) g) o.out)

-- what a call with an out buffer leaves, and one with the buffer that is lent
module _ (c : Command) (input state pool out : List ℕ) where
  pub call_is : {g : Grant} {o : Told} {t : Left} → g ≡ grant_of c → o ≡ told_of (call_in state pool input out g) → t ≡ called_by o
      → t ≡ called_of c input state pool out
  call_is e f h = h ∙ ap called_by (f ∙ ap (λ (x : Grant). told_of (call_in state pool input out x)) e)

  pub lent_call_is : {n : ℕ} {t : Left} → out ≡ untouched_out → n ≡ min c.lent 131084 → t ≡ called_of c input state pool (take n out)
      → t ≡ called_of c input state pool (lent_out c)
  lent_call_is e f h = h ∙ ap (called_of c input state pool) (lent_front c.lent e f)
