use Rattle.verdicts.proofs.Lowering.{Lower}
use Rattle.verdicts.proofs.smallest.Given as goal

-- `verdicts::smallest` meets its contract.
abbrev pub invariant-loop-level : goal.invariant-loop-level
invariant-loop-level l = Lower l.piece.table.now l.piece.stations l.k l.level l.best

abbrev pub decreases-loop-level : goal.decreases-loop-level
decreases-loop-level l = l.level
