-- `words::command_of` meets its contract: the parts of a line, each by what its function ensures.
-- Assumes nothing.
use Prim.Native.Nat.{ℕ}
use mathlib.Core.Path.{◌≡◌, ap, ◌∙◌, sym}
use mathlib.Core.List.{List}
use native.Mathlib.Omega.{arith}
use lib.ListN.{take}
use Rattle.words.specs.declared.Command.{Command}
use Rattle.words.specs.Words.{NumbersRead, numbers_from, no_numbers, form_of}
use Rattle.words.specs.Lines.{LastLeft, last_of, leaving, name_end, with_form, command_of}
use Rattle.words.proofs.Turns.{form_limits, told}
use Rattle.words.proofs.command_of.Goals as goal

pub returns-then-is_silent : goal.returns-then-is_silent
unfolding command_of
returns-then-is_silent c = rw (sym c.is_silent.ensures ∙ c.if-is_silent.true) (ap (λ (k : Command). leaving k c.args.content.now) c.bare.ensures)

pub returns : goal.returns
unfolding command_of
returns c =
    let line : List ℕ = c.args.line.now in
    let content : List ℕ = c.args.content.now in
    let space : ℕ = c.find-space.result in
    let name : List ℕ = c.front.result.now in
    let limits : List ℕ = c.limits-limits.result.now in
    let end : ℕ = c.numbers_at-words.result.end in
    let last : LastLeft = last_of line c.named-kind.result end content in
    let numbers : NumbersRead = numbers_from line limits 0 (no_numbers space) in
    let whole = c.whole.ensures numbers last.last c.numbers_at-words.ensures.numbers c.last_word-last.ensures.said in
    let z : space ≡ name_end line = omega (arith, c.find-space.ensures.value) in
    rw (sym c.is_silent.ensures ∙ c.if-is_silent.false)
    (told line content space (form_of name) c.named-kind.result limits c.last_word-last.new.content end c.whole.result (form_limits name)
    c.named-kind.ensures c.limits-limits.ensures.limits c.numbers_at-words.ensures.end whole c.last_word-last.ensures.content_after
    ∙ ap (λ (n : List ℕ). with_form line space (form_of n) content) c.front.ensures
    ∙ ap (λ (s : ℕ). with_form line s (form_of (take s line)) content) z)
