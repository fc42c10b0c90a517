use Prim.Native.Nat.{◌+◌}
use Rattle.std.proofs.Common.{min}
use Rattle.stations.specs.Sets.{size}
use Rattle.stations.specs.Words.{members}
use Rattle.mesh.specs.Table.{linked}
use Rattle.listing.proofs.Trimming.{Trimming, Round}
use Rattle.listing.proofs.steps.Search.prune.Given as goal

-- `listing::steps::Search::prune` meets its contract.
abbrev pub invariant-loop-todo : goal.invariant-loop-todo
invariant-loop-todo l = Trimming (linked l.self.table.now) l.self.k (members l.fn.p) (members l.left) (members l.todo)

abbrev pub decreases-loop-todo : goal.decreases-loop-todo
decreases-loop-todo l = size 256 (members l.left) + min 1 (size 256 (members l.todo))

abbrev pub invariant-loop-v : goal.invariant-loop-v
invariant-loop-v l = Trimming (linked l.self.table.now) l.self.k (members l.fn.p) (members l.left) (members l.v-iterator.left) × Round (members l.initial.left) (members l.left) (members l.again)
