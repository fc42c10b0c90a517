-- Weak duality: a loss of fewer stations than there are disjoint chains leaves one of them (spare), so a loss that parts is as large as any family of
-- disjoint chains (duality). And a closed search gives a loss as small as the linkage: what it came into and not out of. Each station that it came
-- into holds the mark or a station that it came out of, and no two hold the same one (cut_parts, cut_size).
use mathlib.Core.Path.{◌≡◌, refl, sym, ap, ◌∙◌, subst}
use mathlib.Core.Logic.{◌⊎◌, inl, inr}
use mathlib.Core.Bool.{true}
use mathlib.Core.List.{List, [], ◌∷◌, Memᴰ}
use Prim.Native.Nat.{ℕ, zero, suc, ◌≤◌, ◌<◌}
use native.Mathlib.Nat.{not-suc-le-zero, eq-or-lt_of_le, le_of_suc-le-suc, le_refl}
use native.Mathlib.Decide.{dec_lt}
use native.Mathlib.Omega.{arith}
use Rattle.stations.specs.Sets.{Set, ◌is_in◌, ◌not_in◌, ◌without◌, ◌cut◌, only, size}
use Rattle.linkage.specs.Net.{Net, Onward, Chain, Family, Parts, Menger}
use Rattle.linkage.specs.Linkage.{Linkage, marked, Closed}
use Rattle.stations.proofs.Bools.{test, never}
use Rattle.stations.proofs.Members.{is_only, in_without, of_without, in_cut, of_cut}
use Rattle.stations.proofs.Counting.{size_all, size-without, size-sub, pigeon}
use Rattle.linkage.proofs.Chains.{not_mark, onward_in, chains}

-- a loss that is larger on the inner stations parts too
onward_map : (N : Net) (X Y : Set) → ((w : ℕ) → w is_in X → w is_in Y) → (x : ℕ) (l : List ℕ) → Onward N X x l → Onward N Y x l
onward_map N X Y t x [] o = o
onward_map N X Y t x (y ∷ l) o = (t y o.0, o.1, onward_map N X Y t y l o.2)

pub parts_more : (N : Net) (S S' : Set) → ((w : ℕ) → w is_in N.inner → w not_in S' → w not_in S) → Parts N S → Parts N S'
parts_more N S S' t p [] c = c
parts_more N S S' t p (y ∷ l) c =
    p (y ∷ l) (go y c.0, c.1, onward_map N (N.inner without S') (N.inner without S) go y l c.2)
  where
    go : (w : ℕ) → w is_in N.inner without S' → w is_in N.inner without S
    go w m = let h = of_without N.inner S' w m in in_without N.inner S w h.0 (t w h.0 h.1)

-- ---- a loss against disjoint chains

le_or_lt : (m n : ℕ) → (m ≤ n) ⊎ (n < m)
le_or_lt m n = elim (dec_lt n m) [ yes l ↦ inr l | no o ↦ inl (omega arith) ]

module _ (N : Net) (S : Set) where
  open N use {inner as D}

  -- a chain meets S, or goes past it
  onward_meets : (x : ℕ) (l : List ℕ) → Onward N D x l → ((y : ℕ) × Memᴰ y l × (y is_in S)) ⊎ Onward N (D without S) x l
  onward_meets x [] o = inr o
  onward_meets x (y ∷ l) o = go (test (S y)) (onward_meets y l o.2)
    where
      go : (y is_in S) ⊎ (y not_in S) → ((z : ℕ) × Memᴰ z l × (z is_in S)) ⊎ Onward N (D without S) y l
          → ((z : ℕ) × Memᴰ z (y ∷ l) × (z is_in S)) ⊎ Onward N (D without S) x (y ∷ l)
      go (inl i) r = inl (y, Memᴰ.head refl, i)
      go (inr n) (inl t) = inl (t.0, Memᴰ.tail t.1, t.2)
      go (inr n) (inr r) = inr (in_without D S y o.0 n, o.1, r)

  pub chain_past : (l : List ℕ) → Chain N D l → ((y : ℕ) × Memᴰ y l × (y is_in S) × (y is_in D)) ⊎ Chain N (D without S) l
  chain_past [] c = absurd c
  chain_past (y ∷ l) c = go (test (S y)) (onward_meets y l c.2)
    where
      go : (y is_in S) ⊎ (y not_in S) → ((z : ℕ) × Memᴰ z l × (z is_in S)) ⊎ Onward N (D without S) y l
          → ((z : ℕ) × Memᴰ z (y ∷ l) × (z is_in S) × (z is_in D)) ⊎ Chain N (D without S) (y ∷ l)
      go (inl i) r = inl (y, Memᴰ.head refl, i, c.0)
      go (inr n) (inl t) = inl (t.0, Memᴰ.tail t.1, t.2, onward_in N D y t.0 l c.2 t.1)
      go (inr n) (inr r) = inr (in_without D S y c.0 n, c.1, r)

  -- the chains up to j each meet S, or one of them goes past it
  abbrev Meets : (k : ℕ) → Family N k → ℕ → Type 0
  Meets k F i = (h : i < k) × (y : ℕ) × Memᴰ y (F.chain i h) × (y is_in S) × (y is_in D)

  look : (k : ℕ) (F : Family N k) (j : ℕ) → j ≤ k → ((l : List ℕ) × Chain N (D without S) l) ⊎ ((i : ℕ) → i < j → Meets k F i)
  look k F zero h = inr (λ i l. absurd (not-suc-le-zero l))
  look k F (suc j) h = elim (look k F j (omega arith)) [
    | inl t ↦ inl t
    | inr f ↦ elim (chain_past (F.chain j h) (F.good j h)) [
      | inr c ↦ inl (F.chain j h, c)
      | inl m ↦ inr (λ i l. elim (eq-or-lt_of_le (le_of_suc-le-suc l)) [ inl e ↦ subst (Meets k F) (sym e) (h, m.0, m.1, m.2, m.3) | inr q ↦ f i q ])
    ]
  ]

  -- a loss of fewer stations than there are disjoint chains leaves one of them
  pub spare : (k : ℕ) → Family N k → size N.mark S < k → (l : List ℕ) × Chain N (D without S) l
  spare k F few = elim (look k F k (le_refl k)) [
    | inl t ↦ t
    | inr f ↦ absurd (omega (
      arith,
      few,
      rw (size_all k) at (pigeon k N.mark (λ i. true) S (λ i x. (h : i < k) × Memᴰ x (F.chain i h))
          (λ i h t. let (g, y, m, s, d) = f i h in (y, N.below y d, s, (g, m)))
          (λ i j x p q. F.disjoint i j x p.0 q.0 p.1 q.1)),
    ))
  ]

  pub duality : (k : ℕ) → Parts N S → Family N k → k ≤ size N.mark S
  duality k p F = elim (le_or_lt k (size N.mark S)) [ inl l ↦ l | inr l ↦ let (c, t) = spare k F l in absurd (p c t) ]

-- ---- the loss of a closed search

module _ (N : Net) (hold : ℕ → ℕ) (In Out : Set) (C : Closed N hold In Out) where
  open N use {inner as D}

  -- what is reached and not lost is passed
  passed : (y : ℕ) → y is_in In → y is_in D without (In without Out) → y is_in Out
  passed y i m = elim (test (Out y)) [ inl k ↦ k | inr o ↦ never _ (in_without In Out y i o) (of_without D (In without Out) y m).1 ]

  onward_stops : (x : ℕ) (l : List ℕ) → x is_in Out → ¬ Onward N (D without (In without Out)) x l
  onward_stops x [] m o = never _ o (C.stop x m)
  onward_stops x (y ∷ l) m o =
      onward_stops y l (passed y (C.onward x y m (of_without D (In without Out) y o.0).0 o.1) o.0) o.2

  pub cut_parts : Parts N (In without Out)
  cut_parts [] c = c
  cut_parts (y ∷ l) c = onward_stops y l (passed y (C.start y (of_without D (In without Out) y c.0).0 c.1) c.0) c.2

  module _ {c : ℕ} (K : Linkage N D hold c) where
    cut_le : size N.mark (In without Out) ≤ c
    cut_le =
        let n = N.mark in
        let few : size n (In without marked N hold) ≤ size n (In cut Out) =
        pigeon n n (In without marked N hold) (In cut Out) (λ w v. (w is_in In) × (hold w ≡ v) × (v is_in D))
        (λ w l m.
        let h = of_without In (marked N hold) w m in
        let o = C.back w h.0 (λ e. never _ (ap (only N.mark) e ∙ is_only N.mark) h.1) in
        let i = C.through (hold w) o in
        let d = C.within (hold w) i in
        (hold w, N.below (hold w) d, in_cut In Out (hold w) i o, (h.0, refl, d)))
        (λ w w' v p q. K.inj w w' (C.within w p.0) (C.within w' q.0) (p.1 ∙ sym q.1) (not_mark N (ap D p.1 ∙ p.2))) in
        let some : size n (In cut marked N hold) ≤ size n (D cut marked N hold) =
        size-sub n (In cut marked N hold) (D cut marked N hold) (λ w m.
        let h = of_cut In (marked N hold) w m in in_cut D (marked N hold) w (C.within w h.0) h.1) in
        omega (arith, few, some, K.starts, size-without n In Out, size-without n In (marked N hold))

    -- the loss is as large as the linkage
    pub cut_size : size N.mark (In without Out) ≡ c
    cut_size = omega (arith, cut_le, duality N (In without Out) c cut_parts (chains N hold K))

    pub cut_exact : Menger N
    cut_exact = record {
      number = c;
      family = chains N hold K;
      loss = In without Out;
      within = λ w m. C.within w (of_without In Out w m).0;
      parts = cut_parts;
      exact = cut_size;
    }

-- no family is larger, and no loss that parts is smaller
module _ (N : Net) (M : Menger N) where
  pub greatest : (k : ℕ) → Family N k → k ≤ M.number
  greatest k F = omega (arith, M.exact, duality N M.loss k M.parts F)

  pub least : (S : Set) → Parts N S → M.number ≤ size N.mark S
  least S p = duality N S M.number p M.family
