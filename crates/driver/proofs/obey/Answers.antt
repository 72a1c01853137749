-- `driver::obey` meets its contract, by the command.
-- Assumes nothing.
use Rattle.std.proofs.Common.{◌≡◌, Bool, true, false, ℕ, List, take, refl, ap, ◌∙◌}
use Rattle.words.specs.declared.Command.{Command}
use Rattle.words.specs.declared.Kind.{Kind}
use Rattle.words.specs.declared.Kind.TheVariants as kind
use Rattle.driver.specs.Answers.{lent_out, answer_to}
use Rattle.driver.specs.declared.calls.Store.{Store}
use Rattle.driver.specs.Turns.{Left, leaving, left, new_of, called_of, turn_as, turn_of}
use Rattle.driver.proofs.obey.Goals.{in-New, in-Call, in_default, in_default-via-in-Call+else-linked, in_default-via-in_default}
use Rattle.driver.proofs.obey.Goals as goal

-- what a command left is in the store and the line
left_in : {b b' : Bool} {s s' : Store} {w w' : List ℕ} {l : Left} → s ≡ s' → w ≡ w' → b ≡ b' → left b' s' w' ≡ l → left b s w ≡ l
left_in e f g h = rw (e, f, g) h

module _ (k : Kind) (linked : Bool) (c : Command) (content state pool : List ℕ) where
  made : k ≡ kind.New → new_of c state pool ≡ turn_as k linked c content state pool
  made e = rw e refl

  called : k ≡ kind.Call → linked ≡ true → called_of c (take c.count content) state pool (lent_out c) ≡ turn_as k linked c content state pool
  called e f = rw (e, f) refl

  not_called : k ≡ kind.Call → linked ≡ false → leaving linked state pool (answer_to c (take c.count content)) ≡ turn_as k linked c content state pool
  not_called e f = rw (e, f) refl

-- a command that neither makes a link nor calls it
other : (k : Kind) (linked : Bool) (c : Command) (content state pool : List ℕ) → (k ≡ kind.New → ⊥) → (k ≡ kind.Call → ⊥)
    → leaving linked state pool (answer_to c (take c.count content)) ≡ turn_as k linked c content state pool
other kind.New linked c content state pool m n = absurd (m refl)
other kind.Call linked c content state pool m n = absurd (n refl)
other kind.Unreadable linked c content state pool m n = refl
other kind.Read linked c content state pool m n = refl
other kind.Write linked c content state pool m n = refl
other kind.Send linked c content state pool m n = refl
other kind.Payload linked c content state pool m n = refl
other kind.Silent linked c content state pool m n = refl
other kind.Rpc linked c content state pool m n = refl
other kind.RpcWrite linked c content state pool m n = refl

pub returns : goal.returns
unfolding turn_of
returns c =
    let a = c.args in
    let k = a.command.kind in
    let s = a.store.now in
    elim c.match-command.branch [
      | in-New w ↦ left_in w.store-is w.line-is w.store2-is (w.create-store.ensures ∙ made k s.linked a.command a.content.now s.state s.pool w.in-New.is)
      | in-Call w ↦
          let from : List ℕ → Left = λ i. called_of a.command i s.state s.pool (lent_out a.command) in
          let said = w.call.ensures ∙ ap from c.front-input.ensures in
          left_in w.store-is w.line-is w.store2-is (said ∙ called k s.linked a.command a.content.now s.state s.pool w.in-Call.is w.if-linked.true)
      | in_default w ↦
          let said = w.obey.ensures ∙ ap (answer_to a.command) c.front-input.ensures in
          let kept = ap (leaving s.linked s.state s.pool) said in
          left_in w.store-is w.line-is w.store2-is (elim w.in_default.branch [
            | in_default-via-in-Call+else-linked v ↦ kept ∙ not_called k s.linked a.command a.content.now s.state s.pool v.in-Call.is v.if-linked.false
            | in_default-via-in_default v ↦ kept ∙ other k s.linked a.command a.content.now s.state s.pool v.in_default.not-New v.in_default.not-Call
          ])
    ]
