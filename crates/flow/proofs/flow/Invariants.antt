use Rattle.flow.specs.Search.{Held}
use Rattle.flow.proofs.flow.Given as goal

-- `flow::flow` meets its contract. The invariant: `hold` and `first` hold a linkage of as many chains as counted.
abbrev pub invariant-loop-chains : goal.invariant-loop-chains
invariant-loop-chains l = Held l.table l.inner l.starts l.ends l.first l.hold l.chains
