use Rattle.records.specs.Survey.{low, high}
use Rattle.records.proofs.Climbing.{LinkClimb}
use Rattle.records.proofs.Records.test_links.Given as goal

abbrev pub invariant-loop-j : goal.invariant-loop-j
invariant-loop-j l = LinkClimb l.self.stations (low 4 l.self.stations l.self.bytes.now) (high 4 l.self.stations l.self.bytes.now) l.j l.last
