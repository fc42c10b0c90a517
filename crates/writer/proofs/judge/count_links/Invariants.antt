use mathlib.Core.Path.{◌≡◌}
use Prim.Native.Nat.{◌*◌}
use Rattle.stations.specs.Sets.{size}
use Rattle.records.specs.Survey.{links}
use Rattle.writer.proofs.judge.count_links.Given as goal

abbrev pub invariant-loop-a : goal.invariant-loop-a
invariant-loop-a l = l.m ≡ size (l.a * 256) (links l.mesh.table.now)
