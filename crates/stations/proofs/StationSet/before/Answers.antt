use mathlib.Core.Path.{subst}
use Rattle.stations.specs.Words.{members}
use Rattle.stations.specs.Answers.{FirstOf}
use Rattle.stations.proofs.Laws.{order_at, order_none}
use Rattle.stations.proofs.StationSet.before.Goals as goal

pub returns-in-Some : goal.returns-in-Some
returns-in-Some c = order_at _ _ _ c.differ.ensures c.in-Some.j (subst (FirstOf (members c.differ.result)) c.in-Some.is c.first.ensures) _ c.has.ensures

pub returns-in-None : goal.returns-in-None
returns-in-None c = order_none _ _ _ c.differ.ensures (subst (FirstOf (members c.differ.result)) c.in-None.is c.first.ensures)
