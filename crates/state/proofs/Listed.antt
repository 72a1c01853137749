-- Every refusal of a call on a state of lent bytes is one of document 01's. Assumes nothing.
use mathlib.Core.List.{List}
use Prim.Native.Nat.{ℕ}
use Rattle.numbers.proofs.Choices.{unless_elim}
use Rattle.link.specs.declared.Grant.{Grant}
use Rattle.link.proofs.Listed.{ListedAnswer, settings_listed, call_listed}
use Rattle.state.specs.Layout.{link_of}
use Rattle.state.specs.Calls.{Left, is_state, call_in}

pub call_listed_in : (s p input o : List ℕ) (g : Grant) → ListedAnswer (call_in s p input o g).answer
unfolding call_in
call_listed_in s p input o g =
    unless_elim (λ (w : Left). ListedAnswer w.answer) (is_state s) _ _ (λ _. settings_listed) (λ _. call_listed (link_of s) p input o g)
