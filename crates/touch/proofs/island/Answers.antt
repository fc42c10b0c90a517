use mathlib.Core.Path.{refl, sym, ◌∙◌}
use Rattle.stations.specs.Sets.{◌is_in◌}
use Rattle.stations.specs.Words.{members}
use Rattle.stations.proofs.Laws.{has_small}
use Rattle.touch.proofs.Islands.{grown_one, grown_inside, wave_more, wave_fewer, wave_end}
use Rattle.touch.proofs.island.Goals.{Else-not-has}
use Rattle.touch.proofs.island.Goals as goal

-- the start is in the set
inside : (c : Else-not-has) → c.args.start is_in members c.args.within
inside c = sym c.has.ensures ∙ c.if-not-has.false

pub one-reached-requires : goal.one-reached-requires
one-reached-requires c = has_small _ _ refl (inside c)

pub loop-within-init : goal.loop-within-init
loop-within-init c = grown_one _ _ _ _ _ (inside (goal.at.loop-within-init c).Else-not-has) c.one-reached.ensures c.one-reached.ensures

pub spread-requires : goal.spread-requires
spread-requires c = λ j e. c.requires j (grown_inside c.loop-within.invariant j e)

pub loop-within-smaller : goal.loop-within-smaller
loop-within-smaller c = wave_fewer _ _ _ _ _ _ _ _ c.loop-within.invariant c.spread.ensures (λ k. simp (c.minus-near.ensures, c.cut.ensures)) c.join-reached.ensures
    (λ x e. has_small _ x refl e) (c.is_empty.ensures.somebody c.if-is_empty.false)

pub loop-within-preserved : goal.loop-within-preserved
loop-within-preserved c = wave_more _ _ _ _ _ _ _ _ c.loop-within.invariant c.spread.ensures (λ k. simp (c.minus-near.ensures, c.cut.ensures)) c.join-reached.ensures

pub returns-then-is_empty : goal.returns-then-is_empty
returns-then-is_empty c = wave_end _ _ _ _ _ _ _ c.loop-within.invariant c.spread.ensures (λ k. simp (c.minus-near.ensures, c.cut.ensures))
    (c.is_empty.ensures.nobody c.if-is_empty.true)
