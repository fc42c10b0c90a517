use Rattle.listing.specs.List.{set_at}
use Rattle.listing.specs.Steps.{above}
use Rattle.listing.specs.Searches.{Later}
use Rattle.listing.proofs.steps.Search.gather.Given as goal

-- `listing::steps::Search::gather` meets its contract.
abbrev pub invariant-loop-self : goal.invariant-loop-self
invariant-loop-self l = Later l.initial.self l.self

abbrev pub decreases-loop-self : goal.decreases-loop-self
decreases-loop-self l = above l.self.k (set_at l.self.list.now) l.self.done l.self.all
