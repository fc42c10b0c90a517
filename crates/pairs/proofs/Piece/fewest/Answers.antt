use mathlib.Core.Path.{refl}
use Rattle.stations.proofs.Laws.{has_small}
use Rattle.pairs.proofs.Links.{count_links, leading_take, leading_pass}
use Rattle.pairs.proofs.Piece.fewest.Goals as goal

pub without-v-items-requires : goal.without-v-items-requires
without-v-items-requires c = has_small _ _ refl c.requires

pub loop-v-preserved-then-links-best : goal.loop-v-preserved-then-links-best
loop-v-preserved-then-links-best c = leading_take _ _ _ _ _ c.loop-v.invariant c.in-Some.v _ _ c.in-Some.ensures.steps.least.mine
    (count_links _ _ _ c.size-links.ensures (λ x. simp (c.cut-in-loop-v.ensures, c.of_row-in-loop-v.ensures))) c.in-Some.ensures.steps.rest c.if-links-best.true

pub loop-v-preserved : goal.loop-v-preserved
loop-v-preserved c = leading_pass _ _ _ _ _ c.loop-v.invariant c.in-Some.v _ _ c.in-Some.ensures.steps.least.mine
    (count_links _ _ _ c.size-links.ensures (λ x. simp (c.cut-in-loop-v.ensures, c.of_row-in-loop-v.ensures))) c.in-Some.ensures.steps.rest c.if-links-best.false
