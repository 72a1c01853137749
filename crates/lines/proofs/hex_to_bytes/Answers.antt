-- `lines::hex_to_bytes` meets its contract. Each answer by the tests that led to it.
-- Assumes nothing.
use native.Mathlib.Omega.{arith}
use mathlib.Core.Path.{◌≡◌, ◌∙◌, sym}
use mathlib.Core.Bool.{true}
use Rattle.lines.specs.Text.{every}
use Rattle.lines.specs.Hex.{is_hex}
use Rattle.lines.proofs.Outcomes.{decode_odd, decode-not-hex, decode-full, decode-bytes}
use Rattle.lines.proofs.hex_to_bytes.Goals as goal

pub returns-then-text-eq1 : goal.returns-then-text-eq1
returns-then-text-eq1 c = decode_odd _ _ (omega arith)

pub returns-then-not-every : goal.returns-then-not-every
returns-then-not-every c = decode-not-hex _ _ (λ z. omega arith) (sym (c.every.ensures is_hex (λ b r l e. e)) ∙ c.if-not-every.true)

pub returns-then-out-count : goal.returns-then-out-count
returns-then-out-count c = decode-full _ _ (λ z. omega arith) (sym (c.every.ensures is_hex (λ b r l e. e)) ∙ c.if-not-every.false) (omega arith)

pub returns : goal.returns
returns c =
    let hex : every is_hex c.args.text.now ≡ true = sym (c.every.ensures is_hex (λ b r l e. e)) ∙ c.if-not-every.false in
    rw c.put_bytes.ensures (decode-bytes _ _ (λ z. omega arith) hex (omega arith))
