-- Menger's theorem for a net: a search from the starts ends closed or finds a greater linkage, and no linkage has more chains than there are stations;
-- so there is a linkage whose search is closed. Its chains and the loss of the search are as many.
use mathlib.Core.Path.{◌≡◌, refl, ap, ◌∙◌}
use mathlib.Core.Logic.Dec
use mathlib.Core.Logic.{◌≢◌, ◌⊎◌, inl, inr}
use mathlib.Core.Bool.{Bool, true, false, Bool-discrete, decide, decide_iff}
use Prim.Native.Nat.{ℕ, zero, suc, ◌+◌, ◌<◌}
use native.Mathlib.Nat.{not-suc-le-zero, lt-suc_self}
use native.Mathlib.Decide.{ℕ_discrete, map_dec}
use native.Mathlib.Omega.{arith}
use Rattle.stations.specs.Sets.{Set, ◌is_in◌, ◌not_in◌, ◌cut◌, size}
use Rattle.linkage.specs.Net.{Net, Menger}
use Rattle.linkage.specs.Linkage.{Arc, idle, inward, first, Linkage, marked, Cause, near, over, Search, Hole, Closed}
use Rattle.stations.proofs.Bools.{test, not_so}
use Rattle.stations.proofs.Counting.{size_le, size-sub, any_below}
use Rattle.linkage.proofs.Chains.{idle_linkage}
use Rattle.linkage.proofs.Cuts.{cut_exact}
use Rattle.linkage.proofs.Search.{store, stored, size_more, search_none, search_add, hole_start, earlier, hole_move, hole_finish}

either : {P Q : Type 0} → Dec P → Dec Q → Dec (P ⊎ Q)
either (yes p) d = yes (inl p)
either (no n) (yes q) = yes (inr q)
either (no n) (no m) = no (λ s. elim s [ inl p ↦ n p | inr q ↦ m q ])

module _ (N : Net) where
  open N use {inner as D}

  arc? : (u w : ℕ) → Dec (Arc N u w)
  arc? u w = map_dec
      (λ s. elim s [ inl e ↦ idle e | inr (inl (d, l)) ↦ inward d l | inr (inr (e, l)) ↦ first e l ])
      (λ r. elim r [ idle e ↦ inl e | inward d l ↦ inr (inl (d, l)) | first e l ↦ inr (inr (e, l)) ])
      (either (ℕ_discrete u w) (either (Dec.and (Bool-discrete (D u) true) (Bool-discrete (N.link u w) true)) (Dec.and (ℕ_discrete u N.mark) (Bool-discrete (N.starts w) true))))

  module _ (hold : ℕ → ℕ) {c : ℕ} (K : Linkage N D hold c) where
    held : (w : ℕ) → w is_in D → hold w ≢ N.mark → hold w is_in D
    held w m ne = elim (K.arc w m) [ idle e ↦ rw e m | inward u l ↦ u | first e l ↦ absurd (ne e) ]

    abbrev Greater : Type 0
    Greater = (p : ℕ → ℕ) × Linkage N D p (suc c)

    module _ (from time : ℕ → ℕ) (In : Set) (now : ℕ) (S : Search N hold from time In now) where
      -- the way back fills the hole
      fill : (k : ℕ) (p : ℕ → ℕ) (h : ℕ) → Hole N hold time In p h c → time h < k → Greater
      fill zero p h H l = absurd (not-suc-le-zero l)
      fill (suc k) p h H l = elim (ℕ_discrete (from h) N.mark) [
        | yes e ↦ (store p h N.mark, hole_finish N hold from time In now S p (store p h N.mark) h H e (stored p h N.mark))
        | no ne ↦
            fill k (store p h (p (from h))) (from h) (hole_move N hold from time In now S p (store p h (p (from h))) h H ne (stored p h (p (from h))))
            (omega (arith, (earlier N hold from time In now S h H.here ne).1))
      ]

      -- it may come into w
      abbrev Near : ℕ → Type 0
      Near w = (g : ℕ) × Cause N hold (λ x. x is_in In) g w

      abbrev Over : ℕ → ℕ → Type 0
      Over w g = (g is_in In) × ((hold g is_in D) × Arc N (hold g) w)

      small : (g : ℕ) → g is_in In → g < N.mark
      small g i = N.below g (S.within g i)

      near? : (w : ℕ) → Dec (Near w)
      near? w = map_dec
          (λ s. elim s [ inl l ↦ (N.mark, near refl l) | inr (g, _, (i, (u, r))) ↦ (g, over i u r) ])
          (λ (g, r). elim r [ near e l ↦ inl l | over i u r ↦ inr (g, small g i, (i, (u, r))) ])
          (either (Bool-discrete (N.starts w) true) (any_below (Over w) (λ g. Dec.and (Bool-discrete (In g) true) (Dec.and (Bool-discrete (D (hold g)) true) (arc? (hold g) w))) N.mark))

      -- it goes on to w, or is at an end, or has come out of v
      abbrev Fresh : ℕ → Type 0
      Fresh w = (w is_in D) × ((w not_in In) × Near w)

      abbrev Ends : ℕ → Type 0
      Ends h = (h is_in In) × ((hold h is_in D) × (N.ends (hold h) ≡ true))

      abbrev Left : ℕ → ℕ → Type 0
      Left v h = (h is_in In) × ((hold h ≡ v) × (v is_in D))

      fresh? : Dec ((w : ℕ) × (w < N.mark) × Fresh w)
      fresh? = any_below Fresh (λ w. Dec.and (Bool-discrete (D w) true) (Dec.and (Bool-discrete (In w) false) (near? w))) N.mark

      ends? : Dec ((h : ℕ) × (h < N.mark) × Ends h)
      ends? = any_below Ends (λ h. Dec.and (Bool-discrete (In h) true) (Dec.and (Bool-discrete (D (hold h)) true) (Bool-discrete (N.ends (hold h)) true))) N.mark

      left? : (v : ℕ) → Dec ((h : ℕ) × (h < N.mark) × Left v h)
      left? v = any_below (Left v) (λ h. Dec.and (Bool-discrete (In h) true) (Dec.and (ℕ_discrete (hold h) v) (Bool-discrete (D v) true))) N.mark

      outs : ℕ → Bool
      outs v = decide (left? v)

      left : (v : ℕ) → v is_in outs → (h : ℕ) × (h < N.mark) × Left v h
      unfolding outs
      left v m = (decide_iff (left? v)).0 m

      closed : ¬ ((w : ℕ) × (w < N.mark) × Fresh w) → ¬ ((h : ℕ) × (h < N.mark) × Ends h) → Closed N hold In outs
      unfolding outs
      closed nf ne = record {
        within = S.within;
        through = λ v m. let (h, _, (i, (e, d))) = left v m in come v d (h, over i (ap D e ∙ d) (idle e));
        start = λ w d l. come w d (N.mark, near refl l);
        back = λ w i n. (decide_iff (left? (hold w))).1 (w, small w i, (i, (refl, held w (S.within w i) n)));
        onward = λ v w m d l. let (h, _, (i, (e, u))) = left v m in come w d (h, over i (ap D e ∙ u) (inward (ap D e ∙ u) (rw e l)));
        stop = λ v m. not_so _ (λ l. let (h, k, (i, (e, d))) = left v m in ne (h, k, (i, (ap D e ∙ d, rw e l))));
      }
        where
          come : (w : ℕ) → w is_in D → Near w → w is_in In
          come w d r = elim (test (In w)) [ inl i ↦ i | inr o ↦ absurd (nf (w, N.below w d, (d, (o, r)))) ]

    -- it ends closed, or finds a greater linkage, within as many steps as there are stations
    abbrev Outcome : Type 0
    Outcome = ((In : Set) × (Out : Set) × Closed N hold In Out) ⊎ Greater

    look : (from time : ℕ → ℕ) (In : Set) (now : ℕ) (S : Search N hold from time In now)
        → Dec ((w : ℕ) × (w < N.mark) × Fresh from time In now S w) → Dec ((h : ℕ) × (h < N.mark) × Ends from time In now S h)
        → Outcome ⊎ ((w : ℕ) × (w < N.mark) × Fresh from time In now S w)
    look from time In now S f (yes (h, _, (i, (d, l)))) =
        inl (inr (fill from time In now S (suc (time h)) hold h (hole_start N hold from time In now S h i d l K) (lt-suc_self (time h))))
    look from time In now S (yes f) (no e) = inr f
    look from time In now S (no f) (no e) = inl (inl (In, outs from time In now S, closed from time In now S f e))

    explore : (k : ℕ) (from time : ℕ → ℕ) (In : Set) (now : ℕ) → Search N hold from time In now → size N.mark D < k + size N.mark In → Outcome
    explore zero from time In now S b = absurd (omega (arith, size-sub N.mark In D S.within))
    explore (suc k) from time In now S b = elim (look from time In now S (fresh? from time In now S) (ends? from time In now S)) [
      | inl r ↦ r
      | inr (w, l, (d, (o, (g, r)))) ↦ explore k (store from w g) (store time w now) (store In w true) (suc now)
          (search_add N hold from (store from w g) time (store time w now) In (store In w true) now w g S d o r (stored from w g) (stored time w now) (stored In w true))
          (omega (arith, size_more In (store In w true) w N.mark l o (stored In w true)))
    ]

-- ---- the theorem

grow : (N : Net) (k : ℕ) (hold : ℕ → ℕ) (c : ℕ) → Linkage N N.inner hold c → N.mark < k + c → Menger N
grow N zero hold c K l = absurd (omega (arith, K.starts, size_le N.mark (N.inner cut marked N hold)))
grow N (suc k) hold c K l =
    let none = search_none N hold (λ w. w) (λ w. w) (λ w. false) 0 (λ w. refl) in
    elim (explore N hold K (suc (size N.mark N.inner)) (λ w. w) (λ w. w) (λ w. false) 0 none (omega arith)) [
      | inl (In, Out, C) ↦ cut_exact N hold In Out C K
      | inr (p, J) ↦ grow N k p (suc c) J (omega arith)
    ]

pub menger : (N : Net) → Menger N
menger N = grow N (suc N.mark) (λ w. w) 0 (idle_linkage N (λ w. w) (λ w m. refl)) (omega arith)
