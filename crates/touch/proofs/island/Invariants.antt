use Rattle.stations.specs.Sets.{size, ◌without◌}
use Rattle.stations.specs.Words.{members}
use Rattle.mesh.specs.Table.{linked}
use Rattle.touch.proofs.Islands.{Grown}
use Rattle.touch.proofs.island.Given as goal

-- `touch::island` meets its contract.
abbrev pub invariant-loop-within : goal.invariant-loop-within
invariant-loop-within l = Grown (linked l.table) (members l.within) l.start (members l.reached) (members l.front)

abbrev pub decreases-loop-within : goal.decreases-loop-within
decreases-loop-within l = size 256 (members l.within without members l.reached)
