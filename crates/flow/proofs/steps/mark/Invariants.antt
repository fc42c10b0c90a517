use Rattle.flow.proofs.Marks.{Marking, MarkingWord}
use Rattle.flow.proofs.steps.mark.Given as goal

-- `flow::steps::mark` meets its contract.
-- the loop over the words
abbrev pub invariant-loop-i : goal.invariant-loop-i
invariant-loop-i l = Marking l.fn.from l.fn.s l.fn.g l.i l.from

-- the loop over the bits of a word
abbrev pub invariant-loop-k : goal.invariant-loop-k
invariant-loop-k l = MarkingWord l.fn.from l.fn.s l.fn.g l.i l.from l.k-iterator.word
