use mathlib.Core.Bool.{◌&&◌}
use mathlib.Core.Path.{refl}
use lib.Bits.{bit_and}
use Rattle.stations.proofs.Bit.{bit-and}
use Rattle.stations.proofs.Laws.{zipped}
use Rattle.stations.proofs.StationSet.cut.Goals as goal

-- `stations::StationSet::cut` meets its contract: the law of one bit, at each word.
pub returns : goal.returns
returns c = zipped bit_and ◌&&◌ bit-and refl _ _ _ _ _ _ _ _
