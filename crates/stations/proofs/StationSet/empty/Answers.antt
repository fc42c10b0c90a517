use mathlib.Core.Path.{refl}
use Rattle.stations.proofs.Laws.{none_four}
use Rattle.stations.proofs.StationSet.empty.Goals as goal

-- `stations::StationSet::empty` meets its contract.
pub returns : goal.returns
returns c = none_four _ _ _ _ refl refl refl refl
