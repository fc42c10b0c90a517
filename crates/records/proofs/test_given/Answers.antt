use mathlib.Core.Logic.{inl, inr}
use mathlib.Core.Path.{refl}
use native.Mathlib.Omega.{arith}
use Rattle.records.proofs.Climbing.{serials_broken}
use Rattle.records.proofs.test_given.Goals as goal

pub returns-then-serial-last : goal.returns-then-serial-last
returns-then-serial-last c = inl (inr (serials_broken _ c.loop-serial.invariant (omega arith) c.if-serial-last.true), refl)
