use Rattle.stations.specs.declared.Stations.{Stations}
use Rattle.stations.specs.Words.{members}
use Rattle.stations.proofs.Popping.{popped_progress}
use Rattle.stations.proofs.StationsIterator.next.Goals as goal

pub returns-clause-goes : goal.returns-clause-goes
returns-clause-goes c = popped_progress _ (λ (s : Stations). members s.left) c.args.self.now c.pop_first.result (record { left = c.pop_first.new.self }) (λ x. tt) c.pop_first.ensures
