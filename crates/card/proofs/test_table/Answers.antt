use mathlib.Core.Logic.{inl, inr}
use mathlib.Core.Path.{refl}
use native.Mathlib.Omega.{arith}
use Rattle.card.proofs.test_table.Goals as goal

pub returns-then-table_fails : goal.returns-then-table_fails
returns-then-table_fails c = inr (λ l. omega (arith, c.if-n-gt256.false), inr (λ o. o c.if-table-n.false, inl (c.table_fails.ensures.yes_so c.if-table_fails.true, refl)))

pub returns : goal.returns
returns c = inr (λ l. omega (arith, c.if-n-gt256.false), inr (λ o. o c.if-table-n.false, inr (c.table_fails.ensures.not_so c.if-table_fails.false, refl)))
