-- A search that takes a set of stations at a time: how it begins (sweep_begin), a turn of it (sweep_turn), how it ends (sweep_closed), and the two
-- numbers that fall: what it has not come out of (sweep_fewer), and on the way back how many steps lead to a start (steps_less).
use mathlib.Core.Path.{◌≡◌, refl, sym, ap, ◌∙◌}
use mathlib.Core.Logic.{◌⊎◌, inl, inr}
use mathlib.Core.Bool.{true, false, not, ◌&&◌, ◌||◌}
use Prim.Native.Nat.{ℕ, zero, suc, ◌<◌}
use native.Mathlib.Nat.{not-suc-le-zero}
use native.Mathlib.Decide.{ℕ_discrete}
use native.Mathlib.Omega.{arith}
use Rattle.stations.specs.Sets.{Set, ◌is_in◌, ◌not_in◌, ◌without◌, only, size}
use Rattle.linkage.specs.Net.{Net}
use Rattle.linkage.specs.Linkage.{Arc, Cause, near, over, Search, Closed, Sweep, undone, steps}
use Rattle.stations.proofs.Bools.{test, never, not_so, and_left, or_cases, or_right}
use Rattle.stations.proofs.Members.{only_is, is_only, not_only, in_less}
use Rattle.stations.proofs.Counting.{size_minus_one, size-sub}
use Rattle.linkage.proofs.Search.{cause_map}

-- ---- sets

-- g has all of f, and v besides
pub size_fewer : (f g : Set) (v n : ℕ) → v < n → v not_in f → v is_in g → ((w : ℕ) → w is_in f → w is_in g) → size n f < size n g
size_fewer f g v n l o m t =
    omega (arith, size_minus_one n g v l m, size-sub n f (g without only v) (λ w i. in_less g v w (t w i) (λ e. never _ i (ap f e ∙ o))))

-- ---- the search comes into a set

module _ (N : Net) (hold : ℕ → ℕ) where
  open N use {inner as D, mark as n}

  pub search_join : (from from' time time' : ℕ → ℕ) (In In' New : Set) (g : ℕ) → Search N hold from time In (size n In)
      → ((x : ℕ) → x is_in New → (x is_in D) × (x not_in In)) → ((x : ℕ) → x is_in New → Cause N hold (λ y. y is_in In) g x)
      → ((x : ℕ) → In' x ≡ (In x || New x))
      → ((x : ℕ) → x is_in New → from' x ≡ g) → ((x : ℕ) → x not_in New → from' x ≡ from x)
      → ((x : ℕ) → x is_in New → time' x ≡ size n In) → ((x : ℕ) → x not_in New → time' x ≡ time x)
      → Search N hold from' time' In' (size n In')
  search_join from from' time time' In In' New g S new why law fn fo tn to = record {
    past = λ x m. elim (old x m) [
      | inl i ↦ rw (tn x i) (size_fewer In In' x n (N.below x (new x i).0) (new x i).1 m keep)
      | inr (i, o) ↦ rw (to x o) (omega (arith, S.past x i, size-sub n In In' keep))
    ];
    within = λ x m. elim (old x m) [ inl i ↦ (new x i).0 | inr (i, o) ↦ S.within x i ];
    cause = λ x m. elim (old x m) [
      | inl i ↦ rw (fn x i) (cause_map N hold (earlier g x i) (why x i))
      | inr (i, o) ↦ rw (fo x o) (cause_map N hold (kept (from x) x o) (S.cause x i))
    ];
  }
    where
      keep : (x : ℕ) → x is_in In → x is_in In'
      keep x i = law x ∙ rw i

      not_new : (x : ℕ) → x is_in In → x not_in New
      not_new x i = not_so _ (λ k. never _ i (new x k).1)

      old : (x : ℕ) → x is_in In' → (x is_in New) ⊎ ((x is_in In) × (x not_in New))
      old x m = elim (test (New x)) [ inl i ↦ inl i | inr o ↦ elim (or_cases (In x) (New x) (sym (law x) ∙ m)) [ inl i ↦ inr (i, o) | inr k ↦ never _ k o ] ]

      earlier : (y x : ℕ) → x is_in New → y is_in In → (y is_in In') × (time' y < time' x)
      earlier y x i k = (keep y k, rw (tn x i, to y (not_new y k)) (S.past y k))

      kept : (y x : ℕ) → x not_in New → (y is_in In) × (time y < time x) → (y is_in In') × (time' y < time' x)
      kept y x o (k, l) = (keep y k, rw (to x o, to y (not_new y k)) l)

  -- ---- the loop

  pub sweep_begin : (from : ℕ → ℕ) (In Out Todo : Set) → ((w : ℕ) → w is_in In → (w is_in D) × (N.starts w ≡ true)) → ((w : ℕ) → w is_in D → N.starts w ≡ true → w is_in In)
      → ((w : ℕ) → w is_in In → from w ≡ n) → ((w : ℕ) → w not_in Out) → ((w : ℕ) → w is_in Todo → w is_in In) → ((w : ℕ) → w is_in In → w not_in Todo → hold w ≡ n)
      → Sweep N hold from (λ w. 0) In Out Todo
  sweep_begin from In Out Todo here all fr none waits done = record {
    search = record {
      past = λ w m. omega (arith, size_minus_one n In w (N.below w (here w m).0) m);
      within = λ w m. (here w m).0;
      cause = λ w m. near (fr w m) (here w m).1;
    };
    waits = waits;
    through = λ v m. never _ m (none v);
    start = all;
    back = λ w m o ne. absurd (ne (done w m o));
    onward = λ v w m. never _ m (none v);
    stop = λ v m. never _ m (none v);
  }

  -- a turn: w is taken, which holds the station hold w, and the search comes into New
  module _ (from time : ℕ → ℕ) (In Out Todo : Set) (X : Sweep N hold from time In Out Todo) (w : ℕ) (wt : w is_in Todo) (vd : hold w is_in D)
      (from' time' : ℕ → ℕ) (In' Out' Todo' New : Set)
      (new : (x : ℕ) → x is_in New → (x is_in D) × (x not_in In) × Arc N (hold w) x)
      (all : (x : ℕ) → x is_in D → x not_in In → (x ≡ hold w) ⊎ (N.link (hold w) x ≡ true) → x is_in New)
      (li : (x : ℕ) → In' x ≡ (In x || New x))
      (lo : (x : ℕ) → Out' x ≡ (Out x || only (hold w) x))
      (lt : (x : ℕ) → Todo' x ≡ ((Todo x && not (only w x)) || New x))
      (fn : (x : ℕ) → x is_in New → from' x ≡ w) (fo : (x : ℕ) → x not_in New → from' x ≡ from x)
      (tn : (x : ℕ) → x is_in New → time' x ≡ size n In) (to : (x : ℕ) → x not_in New → time' x ≡ time x) where
    keep : (x : ℕ) → x is_in In → x is_in In'
    keep x i = li x ∙ rw i

    add : (x : ℕ) → x is_in New → x is_in In'
    add x i = li x ∙ or_right (In x) (New x) i

    come : (x : ℕ) → x is_in D → (x ≡ hold w) ⊎ (N.link (hold w) x ≡ true) → x is_in In'
    come x d r = elim (test (In x)) [ inl i ↦ keep x i | inr o ↦ add x (all x d o r) ]

    out : (x : ℕ) → x is_in Out' → (x is_in Out) ⊎ (x ≡ hold w)
    out x m = elim (or_cases (Out x) (only (hold w) x) (sym (lo x) ∙ m)) [ inl i ↦ inl i | inr e ↦ inr (only_is (hold w) x e) ]

    -- what is in, and no longer waits, was so before, or is w
    done : (x : ℕ) → x is_in In' → x not_in Todo' → (x is_in In) × ((x not_in Todo) ⊎ (x ≡ w))
    done x m o = go (test (New x)) (test (In x)) (test (Todo x)) (ℕ_discrete x w)
      where
        go : (x is_in New) ⊎ (x not_in New) → (x is_in In) ⊎ (x not_in In) → (x is_in Todo) ⊎ (x not_in Todo) → Dec (x ≡ w) → (x is_in In) × ((x not_in Todo) ⊎ (x ≡ w))
        go (inl i) b q d = never _ (lt x ∙ or_right (Todo x && not (only w x)) (New x) i) o
        go (inr k) (inr b) q d = never _ m (li x ∙ rw (b, k))
        go (inr k) (inl b) (inr q) d = (b, inl q)
        go (inr k) (inl b) (inl q) (yes e) = (b, inr e)
        go (inr k) (inl b) (inl q) (no ne) = never _ (lt x ∙ rw (q, not_only w x ne)) o

    pub sweep_turn : N.ends (hold w) ≡ false → Sweep N hold from' time' In' Out' Todo'
    sweep_turn stops = record {
      search = search_join from from' time time' In In' New w X.search (λ x i. ((new x i).0, (new x i).1))
          (λ x i. over (X.waits w wt) vd (new x i).2) li fn fo tn to;
      waits = λ x m. elim (or_cases (Todo x && not (only w x)) (New x) (sym (lt x) ∙ m)) [ inl i ↦ keep x (X.waits x (and_left (Todo x) (not (only w x)) i)) | inr i ↦ add x i ];
      through = λ x m. elim (out x m) [ inl i ↦ keep x (X.through x i) | inr e ↦ come x (ap D e ∙ vd) (inl e) ];
      start = λ x d s. keep x (X.start x d s);
      back = λ x m o ne.
          let (i, r) = done x m o in
          elim r [ inl q ↦ old (hold x) (X.back x i q ne) | inr e ↦ lo (hold x) ∙ or_right (Out (hold x)) (only (hold w) (hold x)) (ap (λ y. only (hold w) (hold y)) e ∙ is_only (hold w)) ];
      onward = λ x y m d l. elim (out x m) [ inl i ↦ keep y (X.onward x y i d l) | inr e ↦ come y d (inr (ap (λ z. N.link z y) (sym e) ∙ l)) ];
      stop = λ x m. elim (out x m) [ inl i ↦ X.stop x i | inr e ↦ rw e stops ];
    }
      where
        old : (x : ℕ) → x is_in Out → x is_in Out'
        old x i = lo x ∙ rw i

    pub sweep_fewer : size n (undone In' Todo') < size n (undone In Todo)
    sweep_fewer = size_fewer (undone In' Todo') (undone In Todo) w n (N.below w (X.search.within w (X.waits w wt)))
        (rw (keep w (X.waits w wt), gone)) (rw (X.waits w wt, wt))
        (λ x m. elim (test (In x)) [
          | inr o ↦ rw o
          | inl i ↦ elim (test (Todo x)) [
            | inl q ↦ rw (i, q)
            | inr q ↦ never _ (rw (keep x i, lt x, q, not_new x i) at m) refl
          ]
        ])
      where
        not_new : (x : ℕ) → x is_in In → x not_in New
        not_new x i = not_so _ (λ k. never _ i (new x k).1)

        gone : w not_in Todo'
        gone = lt w ∙ rw (wt, is_only w, not_new w (X.waits w wt))

  pub sweep_closed : (from time : ℕ → ℕ) (In Out Todo : Set) → Sweep N hold from time In Out Todo → ((w : ℕ) → w not_in Todo) → Closed N hold In Out
  sweep_closed from time In Out Todo X none = record {
    within = X.search.within;
    through = X.through;
    start = X.start;
    back = λ w m. X.back w m (none w);
    onward = X.onward;
    stop = X.stop;
  }

-- ---- the way back

module _ (E In : Set) (from time : ℕ → ℕ) (back : (h : ℕ) → h is_in In → h not_in E → (from h is_in In) × (time (from h) < time h)) where
  step_out : (k h : ℕ) → h not_in E → steps E from (suc k) h ≡ suc (steps E from k (from h))
  unfolding steps
  step_out k h o = rw o

  step_end : (k h : ℕ) → h is_in E → steps E from k h ≡ 0
  unfolding steps
  step_end zero h m = refl
  step_end (suc k) h m = rw m

  enough : (k h : ℕ) → h is_in In → time h < k → steps E from (suc k) h ≡ steps E from k h
  enough zero h i l = absurd (not-suc-le-zero l)
  enough (suc k) h i l = elim (test (E h)) [
    | inl m ↦ step_end (suc (suc k)) h m ∙ sym (step_end (suc k) h m)
    | inr o ↦ let (j, t) = back h i o in step_out (suc k) h o ∙ ap suc (enough k (from h) j (omega arith)) ∙ sym (step_out k h o)
  ]

  pub steps_less : (k h : ℕ) → h is_in In → h not_in E → time h < suc k → steps E from (suc k) (from h) < steps E from (suc k) h
  steps_less k h i o l = let (j, t) = back h i o in omega (arith, step_out k h o, enough k (from h) j (omega arith))
