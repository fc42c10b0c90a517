use mathlib.Core.Path.{sym, ◌∙◌}
use native.Mathlib.Omega.{arith}
use Rattle.verdicts.proofs.Taking.{take_begin, take_in, take_out, take_tried, take_end}
use Rattle.verdicts.proofs.first_weak.Goals as goal

pub loop-j-init : goal.loop-j-init
loop-j-init c = rw c.into_iter-j-iterator.ensures.into_iter_gives (take_begin _ _ _ _ _ c.requires c.size-left.ensures c.empty-taken.ensures)

-- j is taken
pub loop-j-preserved-then-has : goal.loop-j-preserved-then-has
loop-j-preserved-then-has c = take_in _ _ _ _ _ _ _ c.loop-j.invariant c.in-Some.j c.in-Some.ensures.steps.least _ _ c.lead-witness.ensures c.in-Some.ensures.steps.rest
    _ (sym c.has.ensures ∙ c.if-has.true) c.with-taken.ensures (omega arith)

pub loop-j-preserved : goal.loop-j-preserved
loop-j-preserved c = take_out _ _ _ _ _ _ _ c.loop-j.invariant c.in-Some.j c.in-Some.ensures.steps.least _ _ c.lead-witness.ensures c.in-Some.ensures.steps.rest
    (sym c.has.ensures ∙ c.if-has.false)

pub returns-then-left-eq0 : goal.returns-then-left-eq0
returns-then-left-eq0 c = take_end _ _ _ _ _ _ _ c.loop-j.invariant c.if-left-eq0.true _ c.requires c.size-left.ensures

pub returns-in-None : goal.returns-in-None
returns-in-None c = take_end _ _ _ _ _ _ _ c.loop-j.invariant (take_tried _ _ _ _ _ _ _ c.loop-j.invariant c.in-None.ensures.steps.0) _ c.requires c.size-left.ensures
