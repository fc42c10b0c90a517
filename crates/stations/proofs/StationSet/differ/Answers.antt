use mathlib.Core.Bool.{xor}
use lib.Bits.{bit_xor}
use Rattle.stations.proofs.Bit.{bit-xor}
use Rattle.stations.proofs.Laws.{zipped, xor-none}
use Rattle.stations.proofs.StationSet.differ.Goals as goal

-- `stations::StationSet::differ` meets its contract: the law of one bit, at each word.
pub returns : goal.returns
returns c = zipped bit_xor xor bit-xor xor-none _ _ _ _ _ _ _ _
