use Rattle.pairs.proofs.Turns.{Open, Round}
use Rattle.pairs.proofs.Piece.settle.Given as goal

-- `pairs::Piece::settle` meets its contract.
-- the loop over the stations that are tried against the source u
abbrev pub invariant-loop-v : goal.invariant-loop-v
invariant-loop-v l = Round l.self.table.now l.q l.sources l.u l.level l.known l.v-iterator.left

-- the loop over the sources
abbrev pub invariant-pairs : goal.invariant-pairs
invariant-pairs l = Open l.self.table.now l.self.stations l.initial.q l.initial.sources l.initial.level l.q l.sources l.u l.level

abbrev pub decreases-pairs : goal.decreases-pairs
decreases-pairs l = l.level
