use mathlib.Core.Path.{refl}
use Rattle.stations.proofs.Laws.{has_small}
use Rattle.flow.proofs.Pair.{pair_told}
use Rattle.flow.proofs.between.Goals as goal

-- `flow::between` meets its contract.
pub without-requires : goal.without-requires
without-requires c = has_small _ _ refl c.requires.a_in

pub without-inner-requires : goal.without-inner-requires
without-inner-requires c = has_small _ _ refl c.requires.b_in

pub returns : goal.returns
returns c = pair_told c.requires c.without-inner.result c.of_row-starts.result c.of_row-ends.result (λ x. simp (c.without-inner.ensures, c.without.ensures)) c.of_row-starts.ensures c.of_row-ends.ensures
    c.args.limit c.flow.result c.flow.ensures
