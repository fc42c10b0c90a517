-- Rows in a set D that hold, cover each set of D that holds, and share fewer than k stations two by two: no row lies in another, and each is as
-- large as a set of D that holds can be (largest). Where D is all stations they are the groups, each once (rows).
use mathlib.Core.Path.{◌≡◌}
use Prim.Native.Nat.{ℕ, ◌<◌}
use native.Mathlib.Omega.{arith}
use native.Mathlib.Decide.{ℕ_discrete}
use borrow.Author.Tests.{lt-ltb}
use Rattle.stations.specs.Sets.{Set, ◌part_of◌, ◌cut◌, stations, size}
use Rattle.mesh.specs.Mesh.{Links, Holds, Groups}
use Rattle.stations.proofs.Bools.{and_in}
use Rattle.stations.proofs.Members.{same_set}
use Rattle.stations.proofs.Counting.{size-sub}

-- what the search within D must show of its rows R 0, .., R (g - 1)
pub record Found (L : Links) (n k : ℕ) (D : Set) (g : ℕ) (R : ℕ → Set) : Type 0 where
  pub hold : (i : ℕ) → i < g → Holds L n k (R i)
  pub inside : (i : ℕ) → i < g → R i part_of D
  pub cover : (H : Set) → Holds L n k H → H part_of D → (i : ℕ) × (i < g) × (H part_of R i)
  pub share : (i j : ℕ) → i < g → j < g → ¬ (i ≡ j) → size n (R i cut R j) < k

module _ (L : Links) (n k : ℕ) (D : Set) (g : ℕ) (R : ℕ → Set) (f : Found L n k D g R) where
  -- a row that lies in a row is that row
  pub same_row : (i j : ℕ) → i < g → j < g → R i part_of R j → i ≡ j
  same_row i j l m h = go (ℕ_discrete i j)
    where
      go : Dec (i ≡ j) → i ≡ j
      go (yes e) = e
      go (no d) = absurd (omega (arith, f.share i j l m d, (f.hold i l).above, size-sub n (R i) (R i cut R j) (λ x a. and_in (R i x) (R j x) a (h x a))))

  -- no larger set of D holds
  pub largest : (i : ℕ) → i < g → (t : Set) → Holds L n k t → t part_of D → R i part_of t → t part_of R i
  largest i l t ht td h x a =
      let c = f.cover t ht td in
      let e = same_row i c.0 l c.1 (λ y b. c.2 y (h y b)) in
      rw e (c.2 x a)

-- a set that holds lies in the set of all stations, so there the rows are the groups, each once
pub rows : (L : Links) (n k g : ℕ) (R : ℕ → Set) → Found L n k (stations n) g R → Groups L n k g R
rows L n k g R f = record {
  group = λ i l. record { holds = f.hold i l; largest = λ t ht. largest L n k (stations n) g R f i l t ht (within t ht) };
  all = λ H G. let c = f.cover H G.holds (within H G.holds) in
      (c.0, c.1, same_set H (R c.0) c.2 (G.largest (R c.0) (f.hold c.0 c.1) c.2));
  differ = λ i j l m e. same_row L n k (stations n) g R f i j l m (λ x a. rw (← e) a);
}
  where
    within : (H : Set) → Holds L n k H → H part_of stations n
    within H h x a = lt-ltb x n (h.below x a)
