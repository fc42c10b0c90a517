use native.Mathlib.Omega.{arith}
use Prim.Native.Nat.{ℕ}
use lib.Dec.{eqb}
use borrow.Author.Tests.{ne_eqb}
use Rattle.stations.proofs.Laws.{four_by}
use Rattle.stations.proofs.StationSet.one.Goals as goal

pub returns : goal.returns
returns c = let n : ℕ = c.args.j in
    four_by _ _ _ _ (λ m. eqb m n) (λ m h. ne_eqb m n (λ e. omega arith))
    c.one_in-a.ensures c.one_in-b.ensures c.one_in-c.ensures c.one_in-d.ensures
