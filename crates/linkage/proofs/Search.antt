-- A search from the starts: how it goes on (search_add), and the way back along it, which makes the linkage greater by one chain (hole_start,
-- hole_move, hole_finish). Where it came from a station, that station is earlier and still holds what it held, so the hole can move there.
use mathlib.Core.Path.{◌≡◌, refl, sym, ap, ◌∙◌}
use mathlib.Core.Logic.{◌≢◌, ◌⊎◌, inl, inr}
use mathlib.Core.Bool.{true, cond}
use Prim.Native.Nat.{ℕ, suc, ◌<◌}
use native.Mathlib.Nat.{le_refl}
use native.Mathlib.Decide.{ℕ_discrete}
use native.Mathlib.Omega.{arith}
use Rattle.stations.specs.Sets.{Set, ◌is_in◌, ◌not_in◌, ◌without◌, only, size}
use Rattle.linkage.specs.Net.{Net}
use Rattle.linkage.specs.Linkage.{Arc, Linkage, Stored, Cause, near, over, Search, Hole}
use Rattle.stations.proofs.Bools.{never}
use Rattle.stations.proofs.Members.{is_only, not_only, less_same}
use Rattle.stations.proofs.Counting.{size_minus_one, size_ext}
use Rattle.linkage.proofs.Chains.{not_mark}
use Rattle.linkage.proofs.Augment.{start, move, finish}

pub store : {A : Type 0} → (ℕ → A) → ℕ → A → ℕ → A
store f h u w = cond (only h w) u (f w)

pub stored : {A : Type 0} (f : ℕ → A) (h : ℕ) (u : A) → Stored f h u (store f h u)
unfolding store
stored f h u = (rw (is_only h), λ w ne. rw (not_only h w ne))

-- a set with one more member
pub size_more : (f f' : Set) (v n : ℕ) → v < n → v not_in f → Stored f v true f' → size n f' ≡ suc (size n f)
size_more f f' v n l o st = omega (
  arith,
  size_minus_one n f' v l st.0,
  size_ext n (f' without only v) f (λ w k. elim (ℕ_discrete w v) [
    | yes e ↦ rw (e, o, st.0, is_only v)
    | no ne ↦ less_same f' v w ne ∙ st.1 w ne
  ]),
)

module _ (N : Net) (hold : ℕ → ℕ) where
  open N use {inner as D}

  pub cause_map : {E E' : ℕ → Type 0} {g w : ℕ} → (E g → E' g) → Cause N hold E g w → Cause N hold E' g w
  cause_map t (near e l) = near e l
  cause_map t (over x u r) = over (t x) u r

  -- ---- how it goes on

  pub search_none : (from time : ℕ → ℕ) (In : Set) (now : ℕ) → ((w : ℕ) → w not_in In) → Search N hold from time In now
  search_none from time In now o = record { past = λ w m. never _ m (o w); within = λ w m. never _ m (o w); cause = λ w m. never _ m (o w) }

  pub search_add : (from from' time time' : ℕ → ℕ) (In In' : Set) (now w g : ℕ) → Search N hold from time In now
      → w is_in D → w not_in In → Cause N hold (λ x. x is_in In) g w → Stored from w g from' → Stored time w now time' → Stored In w true In'
      → Search N hold from' time' In' (suc now)
  search_add from from' time time' In In' now w g S d o r sf st si = record {
    past = λ x m. elim (old x m) [ inl e ↦ rw (e, st.0) (le_refl _) | inr i ↦ rw (kept x i) (omega (arith, S.past x i)) ];
    within = λ x m. elim (old x m) [ inl e ↦ rw e d | inr i ↦ S.within x i ];
    cause = λ x m. elim (old x m) [
      | inl e ↦ rw (e, sf.0) (cause_map (λ i. (keep g i, later g i)) r)
      | inr i ↦ rw (sf.1 x (other x i)) (cause_map (λ p. (keep _ p.0, rw (kept x i, kept (from x) p.0) p.1)) (S.cause x i))
    ];
  }
    where
      other : (x : ℕ) → x is_in In → x ≢ w
      other x i e = never _ i (ap In e ∙ o)

      old : (x : ℕ) → x is_in In' → (x ≡ w) ⊎ (x is_in In)
      old x m = elim (ℕ_discrete x w) [ yes e ↦ inl e | no n ↦ inr (sym (si.1 x n) ∙ m) ]

      keep : (x : ℕ) → x is_in In → x is_in In'
      keep x i = si.1 x (other x i) ∙ i

      kept : (x : ℕ) → x is_in In → time' x ≡ time x
      kept x i = st.1 x (other x i)

      later : (x : ℕ) → x is_in In → time' x < time' w
      later x i = rw (st.0, kept x i) (S.past x i)

  -- ---- the way back

  module _ (from time : ℕ → ℕ) (In : Set) (now : ℕ) (S : Search N hold from time In now) where
    pub hole_start : (h : ℕ) {c : ℕ} → h is_in In → hold h is_in D → N.ends (hold h) ≡ true → Linkage N D hold c → Hole N hold time In hold h c
    hole_start h i d l K = record { here = i; rest = start N hold h d l K; same = λ x k t. refl }

    -- where the search came from a station, that station is earlier, and the hole moves there
    pub earlier : (h : ℕ) → h is_in In → from h ≢ N.mark → (from h is_in In) × (time (from h) < time h) × (hold (from h) is_in D) × Arc N (hold (from h)) h
    earlier h i ne = elim (S.cause h i) [ near e l ↦ absurd (ne e) | over (k, t) u r ↦ (k, t, u, r) ]

    pub hole_move : (p p' : ℕ → ℕ) (h : ℕ) {c : ℕ} → Hole N hold time In p h c → from h ≢ N.mark → Stored p h (p (from h)) p' → Hole N hold time In p' (from h) c
    hole_move p p' h H ne st =
        let (i, t, u, r) = earlier h H.here ne in
        let e : p (from h) ≡ hold (from h) = H.same (from h) i (omega arith) in
        record {
          here = i;
          rest = move N p p' h (from h) (S.within h H.here) (S.within (from h) i) (λ q. omega (arith, ap time q)) (ap D e ∙ u) (rw e r) st H.rest;
          same = λ x k l. st.1 x (λ q. omega (arith, ap time q)) ∙ H.same x k (omega arith);
        }

    pub hole_finish : (p p' : ℕ → ℕ) (h : ℕ) {c : ℕ} → Hole N hold time In p h c → from h ≡ N.mark → Stored p h N.mark p' → Linkage N D p' (suc c)
    hole_finish p p' h H e st = finish N p p' h (S.within h H.here) near_a st H.rest
      where
        near_a : N.starts h ≡ true
        near_a = elim (S.cause h H.here) [ near q l ↦ l | over x u r ↦ absurd (not_mark N (S.within (from h) x.0) e) ]
