use native.Mathlib.Omega.{arith}
use borrow.Author.Rules.{rules}
use borrow.Author.Tests.{tests}
use Rattle.std.proofs.lemmas.Iterator.{cases_from_any, YieldsList-from_range}
use Rattle.card.specs.Tests.{RowFault}
use Rattle.card.proofs.AnyOf.{any_told}
use Rattle.card.proofs.TableTest.{rows_told}
use Rattle.card.proofs.table_fails.Goals as goal

pub returns : goal.returns
returns c =
    let n = c.args.n in
    let t = c.args.table.now in
    rows_told n t c.any.result (any_told n (RowFault n t) c.any.result
    (cases_from_any _ _ _ (RowFault n t) (λ a. ¬ RowFault n t a) c.any.ensures.ran (YieldsList-from_range 0 n n (cc) (omega arith)) (λ x q k. search (rules, tests)) (λ x q k. search (rules, tests))))
