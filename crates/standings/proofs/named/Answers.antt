use native.Mathlib.Omega.{arith}
use borrow.Author.Rules.{rules}
use borrow.Author.Tests.{tests}
use Rattle.std.proofs.lemmas.Iterator.{cases_from_any, YieldsList-from_range}
use Rattle.stations.specs.Sets.{◌is_in◌}
use Rattle.listing.specs.List.{set_at}
use Rattle.card.proofs.AnyOf.{any_told}
use Rattle.standings.proofs.named.Goals as goal

pub returns : goal.returns
returns c =
    let l = c.args.list.now in
    let a = c.args.a in
    any_told c.args.g (λ i. a is_in set_at l i) c.any.result
    (cases_from_any _ _ _ (λ i. a is_in set_at l i) (λ i. ¬ (a is_in set_at l i)) c.any.ensures.ran (YieldsList-from_range 0 c.args.g c.args.g (cc) (omega arith)) (λ x q k. search (rules, tests)) (λ x q k. search (rules, tests)))
