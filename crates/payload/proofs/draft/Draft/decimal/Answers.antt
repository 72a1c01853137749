-- `payload::draft::Draft::decimal` meets its contract: there is room for the digits, three at most, and they stand behind the bytes so far.
-- Assumes nothing.
use native.Mathlib.Omega.{arith}
use Rattle.payload.proofs.Drafts.{digits_some, digits_fit, digits_told, digits_bound}
use Rattle.payload.proofs.draft.Draft.decimal.Goals as goal

pub unwrap-requires : goal.unwrap-requires
unwrap-requires c = digits_some _ c.self.told _ c.self.invariant c.self.view_is _ (omega arith) c.requires (rw c.from.ensures at c.number_to_decimal-count.ensures)

pub overflow_add-self : goal.overflow_add-self
overflow_add-self c = omega (arith, digits_fit _ c.self.told _ c.self.invariant c.self.view_is _ (omega arith) c.requires (rw c.from.ensures at c.number_to_decimal-count.ensures) c.unwrap.ensures)

pub invariant_of-self : goal.invariant_of-self
invariant_of-self c = digits_fit _ c.self.told _ c.self.invariant c.self.view_is _ (omega arith) c.requires (rw c.from.ensures at c.number_to_decimal-count.ensures) c.unwrap.ensures

pub returns-clause-value : goal.returns-clause-value
returns-clause-value c = digits_told _ c.self.told _ c.self.invariant c.self.view_is _ (omega arith) c.requires (rw c.from.ensures at c.number_to_decimal-count.ensures) c.unwrap.ensures

pub returns-clause-bound : goal.returns-clause-bound
returns-clause-bound c = digits_bound _ c.self.told _ c.self.invariant c.self.view_is _ (omega arith) c.requires (rw c.from.ensures at c.number_to_decimal-count.ensures) c.unwrap.ensures
