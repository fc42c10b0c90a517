use Rattle.page.specs.Steps.{LevelPut}
use Rattle.page.proofs.Survey.level.Given as goal

abbrev pub invariant-loop-i : goal.invariant-loop-i
invariant-loop-i l = LevelPut l.k l.self.serials.now l.list l.i l.initial.sheet l.sheet
