-- Dividing a piece by a loss S of fewer than k stations: a set that holds lies in one island joined with S (divide), since what remains of it
-- without S is whole and so lies in one island; two such pieces share S and nothing else (overlap).
use mathlib.Core.Path.{◌≡◌}
use mathlib.Core.Logic.{◌⊎◌, inl, inr}
use mathlib.Core.Bool.{true, false, ◌||◌}
use Prim.Native.Nat.{ℕ, ◌≤◌, ◌<◌}
use native.Mathlib.Omega.{arith}
use Rattle.stations.specs.Sets.{Set, ◌is_in◌, ◌not_in◌, ◌part_of◌, ◌without◌, ◌cut◌, ◌joined◌, size}
use Rattle.mesh.specs.Mesh.{Links, Holds}
use Rattle.mesh.specs.Dividing.{Islands}
use Rattle.stations.proofs.Bools.{test, never, and_left, and_right, and_in, or_cases, or_left, or_right}
use Rattle.stations.proofs.Members.{of_without, in_without, same_set}
use Rattle.stations.proofs.Counting.{size_minus, size-sub, some_station}
use Rattle.mesh.proofs.Chains.{touch_sub, closed_touch}

-- a set that holds lies in one island joined with the loss
pub divide : (L : Links) (n k : ℕ) (P S H : Set) (t : ℕ) (I : ℕ → Set) → Islands L P S t I → S part_of P → size n S < k
    → Holds L n k H → H part_of P → (i : ℕ) × (i < t) × (H part_of I i joined S)
divide L n k P S H t I isl sp few h hp = from (some_station n (H without q) (omega (arith, size_minus n H q qH, qS, h.above)))
  where
    q : Set
    q = H cut S

    qH : q part_of H
    qH x g = and_left (H x) (S x) g

    qS : size n q ≤ size n S
    qS = size-sub n q S (λ x g. and_right (H x) (S x) g)

    out : (x : ℕ) → x is_in H → x not_in S → x is_in H without q
    out x a b = cc

    rest : H without q part_of P without S
    rest x g = by (of_without H q x g) (test (S x))
      where
        by : (x is_in H) × (x not_in q) → (S x ≡ true) ⊎ (S x ≡ false) → x is_in P without S
        by w (inl a) = never (q x) (and_in (H x) (S x) w.0 a) w.1
        by w (inr a) = in_without P S x (hp x w.0) a

    -- from a station x of H without S, in island i: each other y is in S, or at the end of a chain from x
    island : (x i : ℕ) → i < t → x is_in H without q → x is_in I i → (y : ℕ) → y is_in H → (S y ≡ true) ⊎ (S y ≡ false) → y is_in I i joined S
    island x i l a b y g (inl e) = or_right (I i y) (S y) e
    island x i l a b y g (inr e) = or_left (I i y) (S y)
        (closed_touch (I i) (λ v w. isl.closed i v w l) (touch_sub rest (h.firm q qH (omega (arith, qS)) x y a (out y g e))) b)

    from : (x : ℕ) × (x < n) × (x is_in H without q) → (i : ℕ) × (i < t) × (H part_of I i joined S)
    from (x, l, a) = at (isl.cover x (rest x a))
      where
        at : (i : ℕ) × (i < t) × (x is_in I i) → (i : ℕ) × (i < t) × (H part_of I i joined S)
        at (i, m, b) = (i, m, λ y g. island x i m a b y g (test (S y)))

-- two pieces share the loss and nothing else
pub overlap : (L : Links) (P S : Set) (t : ℕ) (I : ℕ → Set) → Islands L P S t I → (i j : ℕ) → i < t → j < t → ¬ (i ≡ j)
    → (I i joined S) cut (I j joined S) ≡ S
overlap L P S t I isl i j l m d = same_set ((I i joined S) cut (I j joined S)) S one two
  where
    go : (x : ℕ) → (I i x ≡ true) ⊎ (S x ≡ true) → (I j x ≡ true) ⊎ (S x ≡ true) → x is_in S
    go x (inr a) b = a
    go x (inl a) (inr b) = b
    go x (inl a) (inl b) = absurd (d (isl.apart i j x l m a b))

    one : (I i joined S) cut (I j joined S) part_of S
    one x g = go x (or_cases (I i x) (S x) (and_left (I i x || S x) (I j x || S x) g)) (or_cases (I j x) (S x) (and_right (I i x || S x) (I j x || S x) g))

    two : S part_of (I i joined S) cut (I j joined S)
    two x g = and_in (I i x || S x) (I j x || S x) (or_right (I i x) (S x) g) (or_right (I j x) (S x) g)
