use Prim.Native.Nat.{◌-◌, ◌*◌, ◌≤◌}
use lib.ListN.{length}
use Rattle.listing.proofs.Sorting.{Sorting}
use Rattle.listing.proofs.rows.sort.Given as goal

-- `listing::rows::sort` meets its contract.
abbrev pub invariant-loop-i : goal.invariant-loop-i
invariant-loop-i l = (l.i ≤ l.g) × (l.g * 4 ≤ length l.initial.list) × Sorting l.initial.list l.g l.i l.list

abbrev pub decreases-loop-i : goal.decreases-loop-i
decreases-loop-i l = l.g - l.i
