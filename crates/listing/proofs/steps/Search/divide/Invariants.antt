use Rattle.stations.specs.Sets.{size}
use Rattle.stations.specs.Words.{members}
use Rattle.listing.proofs.Searching.{Cut}
use Rattle.listing.proofs.steps.Search.divide.Given as goal

-- `listing::steps::Search::divide` meets its contract.
abbrev pub invariant-loop-v : goal.invariant-loop-v
invariant-loop-v l = Cut (members l.fn.p) (members l.s) l.initial.self (members l.rest) l.self

abbrev pub decreases-loop-v : goal.decreases-loop-v
decreases-loop-v l = size 256 (members l.rest)
