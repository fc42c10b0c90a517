use Rattle.stations.specs.Words.{members}
use Rattle.listing.specs.Rows.{Unsorted}
use Rattle.listing.proofs.Sorting.{Shifting}
use Rattle.listing.proofs.rows.insert.Given as goal

-- `listing::rows::insert` meets its contract.
abbrev pub invariant-loop-j : goal.invariant-loop-j
invariant-loop-j l = Unsorted l.initial.list l.i × Shifting l.initial.list l.i (members l.s) l.j l.list
