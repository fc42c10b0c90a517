use mathlib.Core.Bool.{Bool, ◌&&◌, not}
use mathlib.Core.Path.{refl}
use Prim.Native.Nat.{ℕ}
use lib.Bits.{bit_and, bit_xor}
use Rattle.stations.proofs.Bit.{bit_less}
use Rattle.stations.proofs.Laws.{zipped}
use Rattle.stations.proofs.StationSet.minus.Goals as goal

-- `stations::StationSet::minus` meets its contract: the law of one bit, at each word.
pub returns : goal.returns
returns c = zipped (λ (a b : ℕ). bit_xor a (bit_and a b)) (λ (p q : Bool). p && not q) bit_less refl _ _ _ _ _ _ _ _
