use Rattle.records.specs.Survey.{serial}
use Rattle.records.proofs.Climbing.{Climb}
use Rattle.records.proofs.Records.test_serials.Given as goal

abbrev pub invariant-loop-i : goal.invariant-loop-i
invariant-loop-i l = Climb (serial 4 l.self.bytes.now) l.i l.last
