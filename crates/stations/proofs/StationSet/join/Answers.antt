use mathlib.Core.Bool.{◌||◌}
use mathlib.Core.Path.{refl}
use lib.Bits.{bit_or}
use Rattle.stations.proofs.Bit.{bit-or}
use Rattle.stations.proofs.Laws.{zipped}
use Rattle.stations.proofs.StationSet.join.Goals as goal

-- `stations::StationSet::join` meets its contract: the law of one bit, at each word.
pub returns : goal.returns
returns c = zipped bit_or ◌||◌ bit-or refl _ _ _ _ _ _ _ _
