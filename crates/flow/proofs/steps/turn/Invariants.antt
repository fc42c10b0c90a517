use mathlib.Core.Path.{◌≡◌}
use Prim.Native.Nat.{◌<◌}
use lib.ListN.{length}
use Rattle.stations.specs.Words.{members}
use Rattle.linkage.specs.Linkage.{steps}
use Rattle.flow.specs.Search.{at, Start}
use Rattle.flow.proofs.Way.{Open}
use Rattle.flow.proofs.steps.turn.Given as goal

-- `flow::steps::turn` meets its contract. The invariant: whatever the net, `hold` is a linkage but for the hole `h`. The measure: how many steps lead to a start.
abbrev pub invariant-loop-starts : goal.invariant-loop-starts
invariant-loop-starts l = ((l.h < 256) × (length l.hold ≡ 256)) × ((W : Start l.starts l.initial.hold l.from l.last) → Open W l.hold l.h)

abbrev pub decreases-loop-starts : goal.decreases-loop-starts
decreases-loop-starts l = steps (members l.starts) (at l.from) 256 l.h
