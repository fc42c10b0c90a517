-- Number 15 is never given: however a piece is divided, the weights of the pieces add up to at most R, and each piece of more than k stations weighs
-- at least 1.
use mathlib.Core.Bool.{Bool, true, false, cond}
use mathlib.Core.List.{List, [], ◌∷◌, ◌++◌}
use mathlib.Core.Logic.{◌⊎◌, inl, inr}
use mathlib.Core.Path.{◌≡◌, ap}
use Prim.Native.Nat.{ℕ, zero, suc, ◌+◌, ◌≤◌}
use native.Mathlib.Omega.{arith}
use lib.Dec.{ltb}
use borrow.Author.Tests.{ltb-true}
use Rattle.stations.specs.Sets.{Set, ◌joined◌, one_if, size}
use Rattle.stations.proofs.Bools.{test}
use Rattle.stations.proofs.Counting.{size-stations}
use Rattle.mesh.specs.Mesh.{Links, R}
use Rattle.mesh.specs.Dividing.{parts, Dividing, all_stations, divided, needed}
use Rattle.mesh.proofs.Bound.{total, weight, rows_weight, bound}

weigh : ℕ → ℕ → List Set → ℕ
weigh n k [] = 0
weigh n k (P ∷ Ps) = weight k (size n P) + weigh n k Ps

weigh_append : (n k : ℕ) (Ps Qs : List Set) → weigh n k (Ps ++ Qs) ≡ weigh n k Ps + weigh n k Qs
unfolding weigh
weigh_append n k [] Qs = omega arith
weigh_append n k (P ∷ Ps) Qs = omega (arith, weigh_append n k Ps Qs)

weigh_parts : (n k : ℕ) (S : Set) (t : ℕ) (I : ℕ → Set) → weigh n k (parts n k S t I) ≤ total t (λ i. weight k (size n (I i joined S)))
unfolding weigh parts total
weigh_parts n k S zero I = omega arith
weigh_parts n k S (suc t) I = go (test (ltb k (size n (I t joined S)))) (weigh_parts n k S t I)
  where
    b : Bool
    b = ltb k (size n (I t joined S))

    go : (b ≡ true) ⊎ (b ≡ false) → weigh n k (parts n k S t I) ≤ total t (λ i. weight k (size n (I i joined S)))
        → weigh n k (cond b ((I t joined S) ∷ parts n k S t I) (parts n k S t I)) ≤ weight k (size n (I t joined S)) + total t (λ i. weight k (size n (I i joined S)))
    go (inl e) ih = rw e (omega arith)
    go (inr e) ih = rw e (omega arith)

needed_weigh : (n k : ℕ) (Ps : List Set) → needed n k Ps ≤ weigh n k Ps
unfolding weigh needed
needed_weigh n k [] = omega arith
needed_weigh n k (P ∷ Ps) = go (test (ltb k (size n P))) (needed_weigh n k Ps)
  where
    go : (ltb k (size n P) ≡ true) ⊎ (ltb k (size n P) ≡ false) → needed n k Ps ≤ weigh n k Ps → one_if (ltb k (size n P)) + needed n k Ps ≤ weight k (size n P) + weigh n k Ps
    go (inl e) ih = rw e (omega (arith, ltb-true k (size n P) e))
    go (inr e) ih = rw e (omega arith)

weigh_divided : (L : Links) (n k : ℕ) {Ps : List Set} → Dividing L n k Ps → weigh n k Ps ≤ weight k n
unfolding weigh
weigh_divided L n k all_stations = omega (arith, ap (weight k) (size-stations n))
weigh_divided L n k (divided before after P S t I d sp few isl) = omega (
  arith,
  weigh_divided L n k d,
  weigh_append n k before (P ∷ after),
  weigh_append n k before (parts n k S t I ++ after),
  weigh_append n k (parts n k S t I) after,
  weigh_parts n k S t I,
  bound L n k P S t I isl sp few,
)

-- rule L11: however a mesh is divided, its pieces of more than k stations never need more than R rows
pub never_more : (L : Links) (n k : ℕ) (Ps : List Set) → Dividing L n k Ps → needed n k Ps ≤ R n k
never_more L n k Ps d = omega (arith, needed_weigh n k Ps, weigh_divided L n k d, rows_weight n k)
