-- The linkage that a net begins with (idle_linkage, first_linkage), and the chains of a linkage (chains).
-- There are as many stations that nobody holds as stations that hold the mark, by counting, and each is an end. From such a station follow what is
-- held: two walks never meet and no walk meets itself, as no two stations hold the same one; so it leaves the net within as many steps as there are
-- stations, and it leaves it at a start.
use mathlib.Core.Path.{◌≡◌, refl, sym, ap, ◌∙◌}
use mathlib.Core.Logic.Dec
use mathlib.Core.Logic.{◌≢◌, inl, inr}
use mathlib.Core.Bool.{Bool, true, cond, decide, decide_iff, Bool-discrete}
use mathlib.Core.List.Memᴰ
use mathlib.Core.List.{List, [], ◌∷◌, Memᴰ}
use Prim.Native.Nat.{ℕ, zero, suc, ◌≤◌, ◌<◌}
use native.Mathlib.Nat.{le_of_suc-le-suc, eq-or-lt_of_le, lt_of_lt_of_le}
use native.Mathlib.Decide.{ℕ_discrete}
use native.Mathlib.Omega.{arith}
use lib.Arith.{le-zero}
use Rattle.stations.specs.Sets.{Set, ◌is_in◌, ◌not_in◌, ◌without◌, ◌cut◌, size}
use Rattle.linkage.specs.Net.{Net, Onward, Chain, Family}
use Rattle.linkage.specs.Linkage.{Arc, idle, inward, first, Linkage, marked}
use Rattle.stations.proofs.Bools.{test, never, not_so}
use Rattle.stations.proofs.Members.{only_is, is_only, not_only, in_without, of_without, of_cut}
use Rattle.stations.proofs.Counting.{size_ext, size_all, size_none, size-without, size_le, pigeon, nth, any_below}

-- no inner station is the mark
pub not_mark : (N : Net) {u : ℕ} → u is_in N.inner → u ≢ N.mark
not_mark N {u} m e = omega (arith, N.below u m)

pub onward_in : (N : Net) (X : Set) (x y : ℕ) (l : List ℕ) → Onward N X x l → Memᴰ y l → y is_in X
onward_in N X x y [] o h = absurd (Memᴰ.not-nil h)
onward_in N X x y (z ∷ l) o h = elim (Memᴰ.cases_cons h) [ inl e ↦ rw e o.0 | inr k ↦ onward_in N X z y l o.2 k ]

pub chain_in : (N : Net) (X : Set) (y : ℕ) (l : List ℕ) → Chain N X l → Memᴰ y l → y is_in X
chain_in N X y [] o h = absurd o
chain_in N X y (z ∷ l) o h = elim (Memᴰ.cases_cons h) [ inl e ↦ rw e o.0 | inr k ↦ onward_in N X z y l o.2 k ]

-- ---- the first linkage

pub idle_linkage : (N : Net) (hold : ℕ → ℕ) → ((w : ℕ) → w is_in N.inner → hold w ≡ w) → Linkage N N.inner hold 0
idle_linkage N hold same = record {
  arc = λ w m. idle (same w m);
  inj = λ w w' m m' e ne. sym (same w m) ∙ e ∙ same w' m';
  out = λ v m none. absurd (none v m (same v m));
  starts = size_none N.mark (N.inner cut marked N hold) (λ w l. not_so _ (λ m.
      let h = of_cut N.inner (marked N hold) w m in
      not_mark N h.0 (sym (same w h.0) ∙ only_is N.mark (hold w) h.1)));
}

-- the stations that are starts and ends are chains at once
pub first_linkage : (N : Net) (hold : ℕ → ℕ) (Both : Set) → ((w : ℕ) → w is_in Both → (w is_in N.inner) × (N.starts w ≡ true) × (N.ends w ≡ true))
    → ((w : ℕ) → w is_in Both → hold w ≡ N.mark) → ((w : ℕ) → w is_in N.inner → w not_in Both → hold w ≡ w) → Linkage N N.inner hold (size N.mark Both)
first_linkage N hold Both both here same = record {
  arc = λ w m. elim (test (Both w)) [ inl i ↦ first (here w i) (both w i).1 | inr o ↦ idle (same w m o) ];
  inj = λ w w' m m' e ne. sym (same w m (off w ne)) ∙ e ∙ same w' m' (off w' (λ q. ne (e ∙ q)));
  out = λ v m none. elim (test (Both v)) [ inl i ↦ (both v i).2 | inr o ↦ absurd (none v m (same v m o)) ];
  starts = size_ext N.mark (N.inner cut marked N hold) Both (λ w l. elim (test (Both w)) [
    | inl i ↦ rw ((both w i).0, here w i, is_only N.mark, i)
    | inr o ↦ elim (test (N.inner w)) [
      | inl m ↦ rw (m, same w m o, not_only N.mark w (not_mark N m), o)
      | inr q ↦ rw (q, o)
    ]
  ]);
}
  where
    off : (w : ℕ) → hold w ≢ N.mark → w not_in Both
    off w ne = elim (test (Both w)) [ inl i ↦ absurd (ne (here w i)) | inr o ↦ o ]

-- fewer of the chains
pub family_fewer : (N : Net) (j k : ℕ) → j ≤ k → Family N k → Family N j
family_fewer N j k l F = record {
  chain = λ i h. F.chain i (lt_of_lt_of_le h l);
  good = λ i h. F.good i (lt_of_lt_of_le h l);
  disjoint = λ i i' x h g. F.disjoint i i' x (lt_of_lt_of_le h l) (lt_of_lt_of_le g l);
}

-- ---- the chains of a linkage

module _ (N : Net) (hold : ℕ → ℕ) where
  open N use {inner as D}

  -- one step back, and the mark once out of D; i steps; the stations of the first i steps, the last of them first
  step : ℕ → ℕ
  step w = cond (D w) (hold w) N.mark

  back : ℕ → ℕ → ℕ
  back zero v = v
  back (suc i) v = step (back i v)

  trail : ℕ → ℕ → List ℕ
  trail zero v = []
  trail (suc i) v = back i v ∷ trail i v

  -- a station that no station holds
  abbrev Free : ℕ → Type 0
  Free v = (v is_in D) × ((w : ℕ) → w is_in D → hold w ≢ v)

  step_hold : (w : ℕ) → w is_in D → step w ≡ hold w
  unfolding step
  step_hold w m = rw m

  step_from : (w : ℕ) → step w is_in D → w is_in D
  unfolding step
  step_from w m = elim (test (D w)) [ inl i ↦ i | inr o ↦ absurd (not_mark N (rw o at m) refl) ]

  back_from : (v i j : ℕ) → i ≤ j → back j v is_in D → back i v is_in D
  unfolding back
  back_from v i zero l m = rw (le-zero l) m
  back_from v i (suc j) l m = elim (eq-or-lt_of_le l) [ inl e ↦ rw e m | inr k ↦ back_from v i j (le_of_suc-le-suc k) (step_from (back j v) m) ]

  trail_mem : (v i x : ℕ) → Memᴰ x (trail i v) → (j : ℕ) × (back j v ≡ x)
  unfolding trail
  trail_mem v zero x h = absurd (Memᴰ.not-nil h)
  trail_mem v (suc i) x h = elim (Memᴰ.cases_cons h) [ inl e ↦ (i, sym e) | inr k ↦ trail_mem v i x k ]

  -- the last step in D
  top : (v i : ℕ) → v is_in D → back i v not_in D → (k : ℕ) × (back k v is_in D) × (back (suc k) v not_in D)
  unfolding back
  top v zero m o = never _ m o
  top v (suc i) m o = elim (test (D (back i v))) [ inl k ↦ (i, k, o) | inr k ↦ top v i m k ]

  -- the stations that some station holds
  hit? : (v : ℕ) → Dec ((w : ℕ) × (w < N.mark) × ((w is_in D) × (hold w ≡ v)))
  hit? v = any_below (λ w. (w is_in D) × (hold w ≡ v)) (λ w. Dec.and (Bool-discrete (D w) true) (ℕ_discrete (hold w) v)) N.mark

  hit : ℕ → Bool
  hit v = decide (hit? v)

  free : (v : ℕ) → v is_in D without hit → Free v
  unfolding hit
  free v m = let h = of_without D hit v m in (h.0, λ w k e. never _ ((decide_iff (hit? v)).1 (w, N.below w k, (k, e))) h.1)

  -- there are as many as the marks, by |D| = marked + not marked = hit + not hit
  free_count : size N.mark (D cut marked N hold) ≤ size N.mark (D without hit)
  unfolding hit
  free_count =
      let few : size N.mark (D cut hit) ≤ size N.mark (D without marked N hold) =
      pigeon N.mark N.mark (D cut hit) (D without marked N hold) (λ v w. hold w ≡ v)
      (λ v l m.
      let h = of_cut D hit v m in
      let t = (decide_iff (hit? v)).0 h.1 in
      (t.0, t.1, in_without D (marked N hold) t.0 t.2.0 (not_only N.mark (hold t.0) (not_mark N (ap D t.2.1 ∙ h.0))), t.2.1))
      (λ v v' w p q. sym p ∙ q) in
      omega (arith, few, size-without N.mark D hit, size-without N.mark D (marked N hold))

  module _ {c : ℕ} (K : Linkage N D hold c) where
    -- two walks from free stations never meet, and one walk meets no station twice
    meet : (v v' : ℕ) → Free v → Free v' → (i j : ℕ) → back i v ≡ back j v' → back i v is_in D → (v ≡ v') × (i ≡ j)
    unfolding back
    meet v v' f f' zero zero e m = (e, refl)
    meet v v' f f' zero (suc j) e m =
        let k : back j v' is_in D = step_from (back j v') (ap D (sym e) ∙ m) in
        absurd (f.1 (back j v') k (sym (step_hold (back j v') k) ∙ sym e))
    meet v v' f f' (suc i) zero e m =
        let k : back i v is_in D = step_from (back i v) m in
        absurd (f'.1 (back i v) k (sym (step_hold (back i v) k) ∙ e))
    meet v v' f f' (suc i) (suc j) e m =
        let k : back i v is_in D = step_from (back i v) m in
        let k' : back j v' is_in D = step_from (back j v') (ap D (sym e) ∙ m) in
        let p = step_hold (back i v) k in
        let q = step_hold (back j v') k' in
        let r = meet v v' f f' i j (K.inj (back i v) (back j v') k k' (sym p ∙ e ∙ q) (not_mark N (ap D (sym p) ∙ m))) k in
        (r.0, ap suc r.1)

    leaves : (v : ℕ) → Free v → back N.mark v not_in D
    leaves v f = elim (test (D (back N.mark v))) [
      | inl m ↦
          let few : size (suc N.mark) (λ w. true) ≤ size N.mark D =
          pigeon (suc N.mark) N.mark (λ w. true) D (λ i x. (back i v ≡ x) × (x is_in D))
          (λ i l t. let k = back_from v i N.mark (le_of_suc-le-suc l) m in (back i v, N.below (back i v) k, k, (refl, k)))
          (λ i j x p q. (meet v v f f i j (p.0 ∙ sym q.0) (ap D p.0 ∙ p.1)).1) in
          absurd (omega (arith, few, size_all (suc N.mark), size_le N.mark D))
      | inr o ↦ o
    ]

    onward : (v : ℕ) → Free v → (i : ℕ) → back i v is_in D → Onward N D (back i v) (trail i v)
    unfolding back trail
    onward v f zero m = K.out v m f.1
    onward v f (suc i) m = (k, go (K.arc (back i v) k), onward v f i k)
      where
        k : back i v is_in D
        k = step_from (back i v) m

        p : step (back i v) ≡ hold (back i v)
        p = step_hold (back i v) k

        go : Arc N (hold (back i v)) (back i v) → N.link (step (back i v)) (back i v) ≡ true
        go (idle e) = absurd (omega (arith, (meet v v f f (suc i) i (p ∙ e) m).1))
        go (inward u l) = rw p l
        go (first e l) = absurd (not_mark N m (p ∙ e))

    -- the chain that ends at a free station
    chain : (v : ℕ) → Free v → (l : List ℕ) × Chain N D l × ((x : ℕ) → Memᴰ x l → (i : ℕ) × (back i v ≡ x) × (x is_in D))
    unfolding back trail
    chain v f = (trail (suc k) v, ch, λ x h. let t = trail_mem v (suc k) x h in (t.0, t.1, chain_in N D x (trail (suc k) v) ch h))
      where
        t : (k : ℕ) × (back k v is_in D) × (back (suc k) v not_in D)
        t = top v N.mark f.0 (leaves v f)

        k : ℕ
        k = t.0

        m : back k v is_in D
        m = t.1

        o : hold (back k v) not_in D
        o = ap D (sym (step_hold (back k v) m)) ∙ t.2

        go : Arc N (hold (back k v)) (back k v) → N.starts (back k v) ≡ true
        go (idle e) = never _ m (ap D (sym e) ∙ o)
        go (inward u l) = never _ u o
        go (first e l) = l

        ch : Chain N D (trail (suc k) v)
        ch = (m, go (K.arc (back k v) m), onward v f k m)

    -- the free station that is number i of them
    at : (i : ℕ) → i < c → (v : ℕ) × Free v × (size v (D without hit) ≡ i)
    at i h = let t = nth N.mark (D without hit) i (omega (arith, free_count, K.starts)) in (t.0, free t.0 t.2, t.3)

    pub chains : Family N c
    chains = record {
      chain = λ i h. (chain (at i h).0 (at i h).1).0;
      good = λ i h. (chain (at i h).0 (at i h).1).1;
      disjoint = λ i j x h g m m'.
          let p = (chain (at i h).0 (at i h).1).2 x m in
          let q = (chain (at j g).0 (at j g).1).2 x m' in
          let e = (meet (at i h).0 (at j g).0 (at i h).1 (at j g).1 p.0 q.0 (p.1 ∙ sym q.1) (ap D p.1 ∙ p.2)).0 in
          sym (at i h).2 ∙ ap (λ (x : ℕ). size x (D without hit)) e ∙ (at j g).2;
    }
