use Prim.Native.Nat.{◌<◌}
use Rattle.standings.specs.Steps.{InGroup}
use Rattle.standings.proofs.standing.Given as goal

abbrev pub invariant-loop-v : goal.invariant-loop-v
invariant-loop-v l = 0 < l.v → InGroup l.mesh.table.now l.mesh.n l.v l.a
