-- Weights. A piece of m stations weighs (m + 1 - k) / 2: 0 at k stations or fewer, at least 1 above. With a loss of c < k stations, islands of
-- a stations make pieces of a + c, and (a + c + 1 - k) / 2 summed over the islands is at most the weight of the whole, since each island beyond
-- the first gives up k - c stations of its own. So a division adds no weight (bound), rows of more than k stations are never more than R, and
-- the stations above k fall (falls). A family that is part of another weighs no more (total_inject).
use mathlib.Core.Path.{◌≡◌, refl, ◌∙◌, ap}
use mathlib.Core.Logic.{◌⊎◌, inl, inr}
use mathlib.Core.Bool.{Bool, true, false, cond, false≢true}
use Prim.Native.Nat.{ℕ, zero, suc, ◌+◌, ◌-◌, ◌/◌, ◌≤◌, ◌<◌}
use native.Mathlib.Omega.{arith}
use native.Mathlib.Decide.{ℕ_discrete}
use lib.Dec.{leb, eqb}
use borrow.Author.Tests.{leb-true, leb-false, eq-eqb, ne_eqb}
use Rattle.stations.specs.Sets.{Set, ◌is_in◌, ◌not_in◌, ◌part_of◌, none, ◌without◌, ◌joined◌, size}
use Rattle.mesh.specs.Mesh.{Links, R}
use Rattle.mesh.specs.Dividing.{Islands}
use Rattle.stations.proofs.Bools.{test, or_cases, or_left, or_right}
use Rattle.stations.proofs.Members.{of_without, same_set}
use Rattle.stations.proofs.Counting.{size_minus, size_disjoint, Disjoint, size_empty}

-- f 0 + .. + f (t - 1)
unfoldable pub total : ℕ → (ℕ → ℕ) → ℕ
total zero f = 0
total (suc t) f = f t + total t f

-- how many rows a piece of m stations may need at k; 0 where m is k or less
abbrev pub weight : ℕ → ℕ → ℕ
weight k m = (m + 1 - k) / 2

-- R is the weight of all stations
pub rows_weight : (n k : ℕ) → R n k ≡ weight k n
rows_weight n k = go (leb n k) refl
  where
    go : (b : Bool) → leb n k ≡ b → cond b 0 ((n - k + 1) / 2) ≡ weight k n
    go true e = omega (arith, leb-true n k e)
    go false e = omega (arith, leb-false n k e)

pub total_same : (t : ℕ) (f g : ℕ → ℕ) → ((i : ℕ) → i < t → f i ≡ g i) → total t f ≡ total t g
unfolding total
total_same zero f g h = refl
total_same (suc t) f g h = omega (arith, h t (omega arith), total_same t f g (λ i l. h i (omega arith)))

-- the sum with nothing at r
total_without : (c : ℕ) (h : ℕ → ℕ) (r : ℕ) → r < c → total c h ≡ h r + total c (λ i. cond (eqb i r) 0 (h i))
unfolding total
total_without zero h r l = absurd (omega arith)
total_without (suc c) h r l = go (ℕ_discrete c r) (total_without c h r)
  where
    other : (i : ℕ) → ¬ (i ≡ r) → cond (eqb i r) 0 (h i) ≡ h i
    other i d = rw (ne_eqb i r d)

    here : c ≡ r → cond (eqb c r) 0 (h c) ≡ 0
    here e = rw (eq-eqb c r e)

    go : Dec (c ≡ r) → (r < c → total c h ≡ h r + total c (λ i. cond (eqb i r) 0 (h i)))
        → h c + total c h ≡ h r + (cond (eqb c r) 0 (h c) + total c (λ i. cond (eqb i r) 0 (h i)))
    go (yes e) ih = omega (arith, here e, ap h e, total_same c (λ i. cond (eqb i r) 0 (h i)) h (λ i m. other i (λ q. omega arith)))
    go (no d) ih = omega (arith, other c d, ih (omega arith))

-- Where the numbers f 0, .., f (g - 1) stand at different places of h, below c, they add up to no more than h 0, .., h (c - 1): the last of them
-- is taken out of h, and the others stand elsewhere.
pub total_inject : (g c : ℕ) (f h : ℕ → ℕ) (to : (i : ℕ) → i < g → ℕ) → ((i : ℕ) (l : i < g) → (to i l < c) × (f i ≡ h (to i l)))
    → ((i j : ℕ) (l : i < g) (m : j < g) → to i l ≡ to j m → i ≡ j) → total g f ≤ total c h
unfolding total
total_inject zero c f h to is apart = omega arith
total_inject (suc g) c f h to is apart = omega (
  arith,
  (is g last).1,
  total_without c h r (is g last).0,
  total_inject g c f (λ i. cond (eqb i r) 0 (h i)) (λ i l. to i (up i l)) (λ i l. ((is i (up i l)).0, (is i (up i l)).1 ∙ other i l)) (λ i j l m. apart i j (up i l) (up j m)),
)
  where
    up : (i : ℕ) → i < g → i < suc g
    up i l = omega arith

    last : g < suc g
    last = omega arith

    r : ℕ
    r = to g last

    other : (i : ℕ) (l : i < g) → h (to i (up i l)) ≡ cond (eqb (to i (up i l)) r) 0 (h (to i (up i l)))
    other i l = rw (ne_eqb (to i (up i l)) r (λ q. omega (arith, apart i g (up i l) last q)))

-- the arithmetic: pieces of a i + c stations, c below k
weights : (k c t : ℕ) (a : ℕ → ℕ) → c < k → total t (λ i. weight k (a i + c)) ≤ weight k (total t a + c)
unfolding total
weights k c zero a h = omega arith
weights k c (suc t) a h = omega (arith, weights k c t a h)

measure_le : (k c t : ℕ) (a : ℕ → ℕ) → c < k → total t (λ i. a i + c - k) ≤ total t a + c - k
unfolding total
measure_le k c zero a h = omega arith
measure_le k c (suc t) a h = omega (arith, measure_le k c t a h)

measure_lt : (k c t : ℕ) (a : ℕ → ℕ) → c < k → ((i : ℕ) → i < suc (suc t) → 0 < a i) → k < total (suc (suc t)) a + c
    → total (suc (suc t)) (λ i. a i + c - k) < total (suc (suc t)) a + c - k
unfolding total
measure_lt k c t a h pos big =
    omega (arith, pos (suc t) (omega arith), pos t (omega arith), measure_le k c t a h)

-- the islands together
up_to : (ℕ → Set) → ℕ → Set
up_to I zero = none
up_to I (suc t) = up_to I t joined I t

in_up_to : (I : ℕ → Set) (t i x : ℕ) → i < t → x is_in I i → x is_in up_to I t
unfolding up_to
in_up_to I zero i x l h = absurd (omega arith)
in_up_to I (suc t) i x l h = go (ℕ_discrete i t) (λ m. in_up_to I t i x m h)
  where
    go : Dec (i ≡ t) → (i < t → x is_in up_to I t) → x is_in up_to I t joined I t
    go (yes e) ih = or_right (up_to I t x) (I t x) (rw (← e) h)
    go (no d) ih = or_left (up_to I t x) (I t x) (ih (omega arith))

up_to_in : (I : ℕ → Set) (t x : ℕ) → x is_in up_to I t → (i : ℕ) × (i < t) × (x is_in I i)
unfolding up_to
up_to_in I zero x h = absurd (false≢true h)
up_to_in I (suc t) x h = go (or_cases (up_to I t x) (I t x) h) (up_to_in I t x)
  where
    go : (x is_in up_to I t) ⊎ (x is_in I t) → (x is_in up_to I t → (i : ℕ) × (i < t) × (x is_in I i)) → (i : ℕ) × (i < suc t) × (x is_in I i)
    go (inl a) ih = let r = ih a in (r.0, omega (arith, r.1), r.2)
    go (inr a) ih = (t, omega arith, a)

size_up_to : (n : ℕ) (I : ℕ → Set) (t : ℕ) → ((i j x : ℕ) → i < t → j < t → x is_in I i → x is_in I j → i ≡ j) → size n (up_to I t) ≡ total t (λ i. size n (I i))
unfolding up_to total
size_up_to n I zero h = size_empty n
size_up_to n I (suc t) h =
    omega (arith, size_disjoint n (up_to I t) (I t) dis, size_up_to n I t (λ i j x l m. h i j x (omega arith) (omega arith)))
  where
    dis : Disjoint (up_to I t) (I t)
    dis x g = go (test (I t x)) (up_to_in I t x g)
      where
        go : (I t x ≡ true) ⊎ (I t x ≡ false) → (i : ℕ) × (i < t) × (x is_in I i) → x not_in I t
        go (inr a) r = a
        go (inl a) (i, l, b) = absurd (omega (arith, h i t x (omega arith) (omega arith) b a))

module _ (L : Links) (n k : ℕ) (P S : Set) (t : ℕ) (I : ℕ → Set) (isl : Islands L P S t I) (sp : S part_of P) (few : size n S < k) where
  pub sizes : total t (λ i. size n (I i)) + size n S ≡ size n P
  sizes = omega (arith, size_minus n P S sp, ap (size n) e, size_up_to n I t (λ i j x. isl.apart i j x))
    where
      from : (x : ℕ) → (i : ℕ) × (i < t) × (x is_in I i) → x is_in P without S
      from x (i, l, h) = isl.inside i l x h

      to : (x : ℕ) → (i : ℕ) × (i < t) × (x is_in I i) → x is_in up_to I t
      to x (i, l, h) = in_up_to I t i x l h

      e : up_to I t ≡ P without S
      e = same_set (up_to I t) (P without S) (λ x g. from x (up_to_in I t x g)) (λ x g. to x (isl.cover x g))

  pub size_piece : (i : ℕ) → i < t → size n (I i joined S) ≡ size n (I i) + size n S
  size_piece i l = size_disjoint n (I i) S (λ x g. (of_without P S x (isl.inside i l x g)).1)

  -- the weights of the pieces add up to at most the weight of P
  pub bound : total t (λ i. weight k (size n (I i joined S))) ≤ weight k (size n P)
  bound =
      rw (total_same t (λ i. weight k (size n (I i joined S))) (λ i. weight k (size n (I i) + size n S)) (λ i l. ap (weight k) (size_piece i l)), ← sizes)
      (weights k (size n S) t (λ i. size n (I i)) few)

-- a piece that is kept weighs at least 1
pub heavy : (k m : ℕ) → k < m → 1 ≤ weight k m
heavy k m h = omega arith

-- the measure goes down where the loss parts P, into two islands or more, none empty
pub falls : (L : Links) (n k : ℕ) (P S : Set) (t : ℕ) (I : ℕ → Set) → Islands L P S (suc (suc t)) I → S part_of P → size n S < k → k < size n P
    → ((i : ℕ) → i < suc (suc t) → 0 < size n (I i)) → total (suc (suc t)) (λ i. size n (I i joined S) - k) < size n P - k
falls L n k P S t I isl sp few big pos =
    rw (total_same (suc (suc t)) (λ i. size n (I i joined S) - k) (λ i. size n (I i) + size n S - k) (λ i l. ap (λ m. m - k) (size_piece L n k P S (suc (suc t)) I isl sp few i l)), ← e)
    (measure_lt k (size n S) t (λ i. size n (I i)) few pos (omega (arith, e)))
  where
    e : total (suc (suc t)) (λ i. size n (I i)) + size n S ≡ size n P
    e = sizes L n k P S (suc (suc t)) I isl sp few
