use Rattle.stations.specs.Words.{members}
use Rattle.lines.proofs.Serials.{Spelled}
use Rattle.lines.proofs.Sheet.serials.Given as goal

abbrev pub invariant-loop-j : goal.invariant-loop-j
invariant-loop-j l = Spelled l.serials (members l.fn.row) l.initial.self l.self (members l.j-iterator.left)
