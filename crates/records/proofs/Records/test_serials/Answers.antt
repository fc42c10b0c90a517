use mathlib.Core.Logic.{inl}
use mathlib.Core.Path.{refl}
use Rattle.records.proofs.Climbing.{serials_broken}
use Rattle.records.proofs.Records.test_serials.Goals as goal

pub returns-in_default : goal.returns-in_default
returns-in_default c = inl (serials_broken _ c.loop-i.invariant c.loop-i-test.true c.in_default.ensures, refl)
