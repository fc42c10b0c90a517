use Rattle.stations.specs.Words.{members}
use Rattle.mesh.specs.Table.{linked}
use Rattle.pairs.proofs.Links.{Leading}
use Rattle.pairs.proofs.Piece.fewest.Given as goal

-- `pairs::Piece::fewest` meets its contract.
abbrev pub invariant-loop-v : goal.invariant-loop-v
invariant-loop-v l = Leading (linked l.self.table.now) (members l.self.stations) l.at l.best (members l.v-iterator.left)
