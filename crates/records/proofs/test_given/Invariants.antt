use lib.ListN.{get_or}
use Rattle.records.proofs.Climbing.{Climb}
use Rattle.records.proofs.test_given.Given as goal

abbrev pub invariant-loop-serial : goal.invariant-loop-serial
invariant-loop-serial l = Climb (λ k. get_or l.serials k 0) l.serial-index l.last
