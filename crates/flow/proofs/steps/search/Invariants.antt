use mathlib.Core.Path.{◌≡◌}
use lib.ListN.{length}
use Rattle.stations.specs.Sets.{size}
use Rattle.stations.specs.Words.{members}
use Rattle.linkage.specs.Linkage.{undone}
use Rattle.flow.specs.Search.{Setting}
use Rattle.flow.proofs.Sweeping.{Going}
use Rattle.flow.proofs.steps.search.Given as goal

-- `flow::steps::search` meets its contract. The invariant: whatever the starts, the search so far is a sweep. The measure: how many stations it has not come out of.
abbrev pub invariant-loop-w : goal.invariant-loop-w
invariant-loop-w l = (length l.from ≡ 256) × ((Z : Setting l.table l.inner l.ends l.hold l.initial.into l.initial.todo) → Going Z l.from l.into l.out l.todo)

abbrev pub decreases-loop-w : goal.decreases-loop-w
decreases-loop-w l = size 256 (undone (members l.into) (members l.todo))
