-- What the steps of the holding question say.
use Rattle.verdicts.specs.declared.Answer.{Answer}
use Rattle.verdicts.specs.declared.Answer.TheVariants.{Holds, Few, Weak}

-- the verdict without what it names
abbrev pub alone : {W : Type 0} → Answer W → Answer (Unit {0})
alone Holds = Holds
alone Few = Few
alone (Weak s) = Weak tt
