use mathlib.Core.Logic.{inl}
use mathlib.Core.Path.{refl}
use Rattle.records.proofs.Climbing.{links_broken}
use Rattle.records.proofs.Records.test_links.Goals as goal

pub returns-in_default : goal.returns-in_default
returns-in_default c = inl (links_broken _ c.args.self.few c.loop-j.invariant c.loop-j-test.true c.in_default.ensures, refl)
