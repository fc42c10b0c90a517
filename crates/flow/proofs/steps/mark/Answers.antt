use Rattle.flow.proofs.Marks.{marking_all, word_none, word_all, word_more}
use Rattle.flow.proofs.steps.mark.Goals as goal

pub loop-k-init : goal.loop-k-init
loop-k-init c = rw (c.into_iter-k-iterator.ensures.into_iter_gives, c.words-words.ensures) (word_none c.loop-i.invariant)

pub loop-k-preserved : goal.loop-k-preserved
loop-k-preserved c = word_more c.loop-k.invariant c.loop-i-test.true c.in-Some.k _ c.in-Some.ensures.steps

pub loop-i-preserved : goal.loop-i-preserved
loop-i-preserved c = word_all c.loop-k.invariant c.in-None.ensures.steps.0

pub returns : goal.returns
returns c = marking_all c.loop-i-test.false c.loop-i.invariant
