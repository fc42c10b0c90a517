use Rattle.page.specs.Steps.{LevelsPut}
use Rattle.page.proofs.Survey.levels.Given as goal

abbrev pub invariant-loop-top : goal.invariant-loop-top
invariant-loop-top l = LevelsPut l.self.mesh.n l.self.mesh.table.now l.self.serials.now l.top l.initial.sheet l.sheet
