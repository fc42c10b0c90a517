-- A reply is the only one. Two weak sets that are each smallest and first are the same; two lists of the groups in order are the same, since each
-- row of one has its place in the other and places rise with rows; so two answers to the holding question are the same.
use mathlib.Core.Path.{◌≡◌, refl, sym, ◌∙◌, ap}
use mathlib.Core.Logic.{◌⊎◌, inl, inr}
use Prim.Native.Nat.{ℕ, zero, suc, ◌≤◌, ◌<◌}
use native.Mathlib.Omega.{arith}
use native.Mathlib.Decide.{dec_lt, ℕ_discrete}
use Rattle.stations.specs.Sets.{Set, Before, size}
use Rattle.mesh.specs.Mesh.{Links, WeakSet, Listed, Reply, HOLDS, FEW, WEAK, Answers}
use Rattle.stations.proofs.Order.{before_not_after, before_not_self}

-- the weak set of a reply is the only one
pub weak_set_one : (L : Links) (n k : ℕ) (s p q : Set) → WeakSet L n k s p → WeakSet L n k s q → p ≡ q
weak_set_one L n k s p q a b =
    go (a.first q b.weak (sym e)) (b.first p a.weak e)
  where
    e : size n p ≡ size n q
    e = omega (arith, a.smallest q b.weak, b.smallest p a.weak)

    go : (q ≡ p) ⊎ Before p q → (p ≡ q) ⊎ Before q p → p ≡ q
    go (inl h) j = sym h
    go (inr h) (inl j) = j
    go (inr h) (inr j) = absurd (before_not_after p q h j)

-- two lists of the groups at k, in order, are the same list
module _ (L : Links) (n k : ℕ) where
  -- the place in the second list of each row of the first
  module _ (g g' : ℕ) (R R' : ℕ → Set) (a : Listed L n k g R) (b : Listed L n k g' R') where
    place : (i : ℕ) → i < g → (j : ℕ) × (j < g') × (R i ≡ R' j)
    place i l = b.groups.all (R i) (a.groups.group i l)

    rises : (i j : ℕ) (l : i < g) (m : j < g) → i < j → (place i l).0 < (place j m).0
    rises i j l m h = go (place i l) (place j m)
      where
        go : (x : (u : ℕ) × (u < g') × (R i ≡ R' u)) (y : (v : ℕ) × (v < g') × (R j ≡ R' v)) → x.0 < y.0
        go (u, p, d) (v, q, e) = by (dec_lt u v) (ℕ_discrete u v)
          where
            f : Before (R' u) (R' v)
            f = rw (← d, ← e) (a.order i j h m)

            by : Dec (u < v) → Dec (u ≡ v) → u < v
            by (yes c) w = c
            by (no c) (yes w) = absurd (before_not_self (R' v) (rw w at f))
            by (no c) (no w) = absurd (before_not_after (R' u) (R' v) f (b.order v u (omega arith) p))

    grows : (i : ℕ) (l : i < g) → i ≤ (place i l).0
    grows zero l = omega arith
    grows (suc i) l = let m : i < g = omega arith in omega (arith, grows i m, rises i (suc i) m l (omega arith))

  same_place : (g g' : ℕ) (R R' : ℕ → Set) → Listed L n k g R → Listed L n k g' R' → (i : ℕ) → i < g → (i < g') × (R i ≡ R' i)
  same_place g g' R R' a b i l = go (place g g' R R' a b i l) (grows g g' R R' a b i l)
    where
      go : (x : (j : ℕ) × (j < g') × (R i ≡ R' j)) → i ≤ x.0 → (i < g') × (R i ≡ R' i)
      go (j, m, e) h = by (place g' g R' R b a j m) (grows g' g R' R b a j m)
        where
          by : (x : (v : ℕ) × (v < g) × (R' j ≡ R v)) → j ≤ x.0 → (i < g') × (R i ≡ R' i)
          by (v, q, d) r =
              let w : i ≡ v = a.groups.differ i v l q (e ∙ d) in
              let u : j ≡ i = omega arith in
              (omega arith, e ∙ ap R' u)

  pub listed_one : (g g' : ℕ) (R R' : ℕ → Set) → Listed L n k g R → Listed L n k g' R' → (g ≡ g') × ((i : ℕ) → i < g → R i ≡ R' i)
  listed_one g g' R R' a b = (go (dec_lt g g') (dec_lt g' g), λ i l. (same_place g g' R R' a b i l).1)
    where
      go : Dec (g < g') → Dec (g' < g) → g ≡ g'
      go (yes c) d = absurd (omega (arith, (same_place g' g R' R b a g c).0))
      go (no c) (yes d) = absurd (omega (arith, (same_place g g' R R' a b g' d).0))
      go (no c) (no d) = omega arith

  -- the answer to the holding question is the only one
  pub answer_one : (s : Set) (r r' : Reply) → Answers L n k s r → Answers L n k s r' → r ≡ r'
  answer_one s HOLDS HOLDS a b = refl
  answer_one s HOLDS FEW a b = absurd (omega (arith, a.above))
  answer_one s HOLDS (WEAK p) a b = absurd (b.1.weak.parts (a.firm p b.1.weak.part b.1.weak.few))
  answer_one s FEW HOLDS a b = absurd (omega (arith, b.above))
  answer_one s FEW FEW a b = refl
  answer_one s FEW (WEAK p) a b = absurd (omega arith)
  answer_one s (WEAK p) HOLDS a b = absurd (a.1.weak.parts (b.firm p a.1.weak.part a.1.weak.few))
  answer_one s (WEAK p) FEW a b = absurd (omega arith)
  answer_one s (WEAK p) (WEAK q) a b = ap WEAK (weak_set_one L n k s p q a.1 b.1)
