-- A linkage with a hole: all inner stations but one hold as they should. A station that holds an end lets go of it and is the hole (start); the
-- hole takes what another station holds, which is then the hole (move); a hole that is a start takes the mark, and there is one chain more (finish).
use mathlib.Core.Path.{◌≡◌, refl, sym, ap, ◌∙◌}
use mathlib.Core.Logic.{◌≢◌}
use mathlib.Core.Bool.{Bool, true, false, not, ◌&&◌, and-true, and-false}
use mathlib.Core.List.{List}
use Prim.Native.Nat.{ℕ, suc, ◌+◌, ◌≤◌, ◌<◌}
use native.Mathlib.Decide.{ℕ_discrete}
use native.Mathlib.Omega.{arith}
use lib.ListN.{length, get_or, set}
use lib.Seq.{get_or-set_same, get_or-set_other}
use Rattle.stations.specs.Sets.{Set, ◌is_in◌, ◌without◌, ◌cut◌, only, size}
use Rattle.linkage.specs.Net.{Net}
use Rattle.linkage.specs.Linkage.{Arc, first, Linkage, marked, Stored}
use Rattle.stations.proofs.Members.{only_is, is_only, in_less, of_less, in_cut, of_cut}
use Rattle.stations.proofs.Counting.{size-sub, size_ext, size_minus_one}
use Rattle.linkage.proofs.Chains.{not_mark}

-- a store to an array is a store, and so is what is read off it
pub stored_set : {A : Type 0} (l : List A) (h : ℕ) (u d : A) → h < length l → Stored (λ w. get_or l w d) h u (λ w. get_or (set l h u) w d)
stored_set l h u d k = (get_or-set_same l h u d k, λ w ne. get_or-set_other l h w u d ne)

pub stored_map : {A B : Type 0} (φ : A → B) (f f' : ℕ → A) (h : ℕ) (u : A) → Stored f h u f' → Stored (λ w. φ (f w)) h (φ u) (λ w. φ (f' w))
stored_map φ f f' h u st = (ap φ st.0, λ w ne. ap φ (st.1 w ne))

and_swap : (p q r : Bool) → p && q && r ≡ (p && r) && q
and_swap true true r = sym (and-true r)
and_swap true false r = sym (and-false r)
and_swap false q r = refl

size_less_cut : (f g : Set) (v n : ℕ) → v < n → v is_in f cut g → size n (f without only v cut g) + 1 ≡ size n (f cut g)
size_less_cut f g v n l m = omega (
  arith,
  size_minus_one n (f cut g) v l m,
  size_ext n (f cut g without only v) (f without only v cut g) (λ w k. and_swap (f w) (g w) (not (only v w))),
)

module _ (N : Net) where
  open N use {inner as D}

  abbrev off : ℕ → Set
  off h = D without only h

  -- starts are compared one by one
  starts_le : (W W' : Set) (hold hold' : ℕ → ℕ)
      → ((w : ℕ) → w is_in W → hold w ≡ N.mark → (w is_in W') × (hold' w ≡ N.mark))
      → size N.mark (W cut marked N hold) ≤ size N.mark (W' cut marked N hold')
  starts_le W W' hold hold' t = size-sub N.mark (W cut marked N hold) (W' cut marked N hold') (λ w m.
      let h = of_cut W (marked N hold) w m in
      let k = t w h.0 (only_is N.mark (hold w) h.1) in
      in_cut W' (marked N hold') w k.0 (ap (only N.mark) k.1 ∙ is_only N.mark))

  -- (start) the station h holds an end, and lets go of it
  pub start : (hold : ℕ → ℕ) (h : ℕ) {c : ℕ} → hold h is_in D → N.ends (hold h) ≡ true → Linkage N D hold c → Linkage N (off h) hold c
  start hold h uD l K = record {
    arc = λ w m. K.arc w (of_less D h w m).0;
    inj = λ w w' m m'. K.inj w w' (of_less D h w m).0 (of_less D h w' m').0;
    out = λ v m none. elim (ℕ_discrete (hold h) v) [
      | yes e ↦ rw (← e) l
      | no ne ↦ K.out v m (λ w k. elim (ℕ_discrete w h) [ yes e ↦ rw e ne | no o ↦ none w (in_less D h w k o) ])
    ];
    starts = omega (
      arith,
      K.starts,
      starts_le (off h) D hold hold (λ w m e. ((of_less D h w m).0, e)),
      starts_le D (off h) hold hold (λ w m e. (in_less D h w m (λ q. not_mark N uD (ap hold (sym q) ∙ e)), e)),
    );
  }

  -- (move) the hole h takes what g holds, and g is the hole
  pub move : (hold hold' : ℕ → ℕ) (h g : ℕ) {c : ℕ} → h is_in D → g is_in D → g ≢ h → hold g is_in D → Arc N (hold g) h → Stored hold h (hold g) hold'
      → Linkage N (off h) hold c → Linkage N (off g) hold' c
  move hold hold' h g hD gD ne uD u st K = record {
    arc = λ w m. elim (ℕ_discrete w h) [
      | yes e ↦ rw (e, st.0) u
      | no o ↦ rw (st.1 w o) (K.arc w (old w m o))
    ];
    inj = λ w w' m m'. same w w' m m' (ℕ_discrete w h) (ℕ_discrete w' h);
    out = λ v m none. K.out v m (λ w k e.
        let d = of_less D h w k in
        elim (ℕ_discrete w g) [
          | yes q ↦ none h (in_less D g h hD (λ r. ne (sym r))) (st.0 ∙ ap hold (sym q) ∙ e)
          | no o ↦ none w (in_less D g w d.0 o) (st.1 w d.1 ∙ e)
        ]);
    starts = omega (
      arith,
      K.starts,
      starts_le (off g) (off h) hold' hold (λ w m e.
          let o : w ≢ h = λ q. not_mark N uD (sym st.0 ∙ ap hold' (sym q) ∙ e) in
          (old w m o, sym (st.1 w o) ∙ e)),
      starts_le (off h) (off g) hold hold' (λ w m e.
          let d = of_less D h w m in
          (in_less D g w d.0 (λ q. not_mark N uD (ap hold (sym q) ∙ e)), st.1 w d.1 ∙ e)),
    );
  }
    where
      old : (w : ℕ) → w is_in off g → w ≢ h → w is_in off h
      old w m o = in_less D h w (of_less D g w m).0 o

      -- no other station holds what g held
      alone : (w : ℕ) → w is_in off g → w ≢ h → hold g ≢ hold w
      alone w m o e = (of_less D g w m).1 (sym (K.inj g w (in_less D h g gD ne) (old w m o) e (not_mark N uD)))

      same : (w w' : ℕ) → w is_in off g → w' is_in off g → Dec (w ≡ h) → Dec (w' ≡ h) → hold' w ≡ hold' w' → hold' w ≢ N.mark → w ≡ w'
      same w w' m m' (yes q) (yes q') e n = q ∙ sym q'
      same w w' m m' (yes q) (no o') e n = absurd (alone w' m' o' (sym st.0 ∙ ap hold' (sym q) ∙ e ∙ st.1 w' o'))
      same w w' m m' (no o) (yes q') e n = absurd (alone w m o (sym st.0 ∙ ap hold' (sym q') ∙ sym e ∙ st.1 w o))
      same w w' m m' (no o) (no o') e n = K.inj w w' (old w m o) (old w' m' o') (sym (st.1 w o) ∙ e ∙ st.1 w' o') (λ k. n (st.1 w o ∙ k))

  -- (finish) the hole is a start
  pub finish : (hold hold' : ℕ → ℕ) (h : ℕ) {c : ℕ} → h is_in D → N.starts h ≡ true → Stored hold h N.mark hold'
      → Linkage N (off h) hold c → Linkage N D hold' (suc c)
  finish hold hold' h hD l st K = record {
    arc = λ w m. elim (ℕ_discrete w h) [
      | yes e ↦ rw e (first st.0 l)
      | no o ↦ rw (st.1 w o) (K.arc w (in_less D h w m o))
    ];
    inj = λ w w' m m' e n.
        let o = hole w n in
        let o' = hole w' (λ q. n (e ∙ q)) in
        K.inj w w' (in_less D h w m o) (in_less D h w' m' o') (sym (st.1 w o) ∙ e ∙ st.1 w' o') (λ q. n (st.1 w o ∙ q));
    out = λ v m none. K.out v m (λ w k e. let d = of_less D h w k in none w d.0 (st.1 w d.1 ∙ e));
    starts = omega (
      arith,
      K.starts,
      size_less_cut D (marked N hold') h N.mark (N.below h hD) (in_cut D (marked N hold') h hD (ap (only N.mark) st.0 ∙ is_only N.mark)),
      starts_le (off h) (off h) hold' hold (λ w m e. (m, sym (st.1 w (of_less D h w m).1) ∙ e)),
      starts_le (off h) (off h) hold hold' (λ w m e. (m, st.1 w (of_less D h w m).1 ∙ e)),
    );
  }
    where
      hole : (w : ℕ) → hold' w ≢ N.mark → w ≢ h
      hole w n q = n (ap hold' q ∙ st.0)
