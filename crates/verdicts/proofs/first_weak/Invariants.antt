use Rattle.verdicts.proofs.Taking.{Takes}
use Rattle.verdicts.proofs.first_weak.Given as goal

-- `verdicts::first_weak` meets its contract.
abbrev pub invariant-loop-j : goal.invariant-loop-j
invariant-loop-j l = Takes l.piece.table.now l.piece.stations l.initial.left l.taken l.witness l.j-iterator.left l.left
