use native.Mathlib.Omega.{arith}
use Prim.Native.Nat.{ℕ}
use lib.Dec.{ltb}
use borrow.Author.Tests.{le-ltb}
use Rattle.stations.proofs.Laws.{four_by}
use Rattle.stations.proofs.StationSet.first_n.Goals as goal

pub returns : goal.returns
returns c = let n : ℕ = c.args.n in
    four_by _ _ _ _ (λ m. ltb m n) (λ m h. le-ltb m n (omega arith))
    c.low_in-a.ensures c.low_in-b.ensures c.low_in-c.ensures c.low_in-d.ensures
