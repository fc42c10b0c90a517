-- What the turns of `flow` come to. It begins with the stations that are a start and an end, each a chain by itself (first_many, held_first). A search
-- that came to an end makes one chain more (held_more); one that came to none gives the loss (held_solved).
use mathlib.Core.Bool.{cond}
use mathlib.Core.List.{List}
use mathlib.Core.Logic.{⊎_elim}
use mathlib.Core.Path.{◌≡◌, refl, sym, ap, ◌∙◌, subst, fun_ext}
use Prim.Native.Nat.{ℕ, suc, ◌+◌, ◌<◌, ◌≤◌}
use native.Mathlib.Numerals.{add-one}
use Rattle.stations.specs.Sets.{Set, ◌is_in◌, ◌not_in◌, ◌without◌, ◌cut◌, ◌joined◌, only, size}
use Rattle.stations.specs.Words.{words, members}
use Rattle.stations.specs.declared.StationSet.{StationSet}
use Rattle.stations.proofs.Laws.{has_small}
use Rattle.linkage.specs.Net.{Family}
use Rattle.linkage.specs.Linkage.{Linkage}
use Rattle.stations.proofs.Members.{of_without, of_cut, of_joined, only_is}
use Rattle.stations.proofs.Counting.{size_ext}
use Rattle.linkage.proofs.Chains.{first_linkage, family_fewer, chains}
use Rattle.linkage.proofs.Cuts.{parts_more, cut_parts, cut_size}
use Rattle.flow.specs.Net.{net_of, Solved}
use Rattle.flow.specs.Search.{at, read, Idle, Held, Came, Stuck, Start, Turned}

module _ (t : List ℕ) (inner starts ends first : StationSet) (law : (w : ℕ) → members first w ≡ (members inner cut members starts cut members ends) w) where
  both : (w : ℕ) → w is_in members first → (w is_in members inner) × (w is_in members starts) × (w is_in members ends)
  both w m =
      let h = of_cut (members inner cut members starts) (members ends) w (sym (law w) ∙ m) in
      let k = of_cut (members inner) (members starts) w h.0 in
      (k.0, k.1, h.1)

  -- stations that are a start and an end are chains
  pub first_many : {limit : ℕ} → limit ≤ size 256 (members first) → Family (net_of t inner starts ends) limit
  first_many {limit} l = family_fewer (net_of t inner starts ends) limit (size 256 (members first)) l
      (chains (net_of t inner starts ends) alone (first_linkage (net_of t inner starts ends) alone (members first) both (λ w m. rw m) (λ w m o. rw o)))
    where
      alone : ℕ → ℕ
      alone w = cond (members first w) 256 w

  -- each station holds itself, but those
  pub held_first : {hold : List ℕ} → Idle hold 256 → Held t inner starts ends first hold (size 256 (members first))
  held_first {hold} I = record {
    whole = I.whole;
    firsts = λ w m. let h = both w m in (h.0, h.1);
    linkage = first_linkage (net_of t inner starts ends) (read (members first) hold) (members first) both
        (λ w m. mark w m) (λ w m o. plain w o ∙ I.same w (has_small (words inner) w refl m));
  }
    where
      mark : (w : ℕ) → w is_in members first → read (members first) hold w ≡ 256
      mark w m = rw m

      plain : (w : ℕ) → w not_in members first → read (members first) hold w ≡ at hold w
      plain w o = rw o

module _ {t : List ℕ} {inner starts ends : StationSet} where
  module _ {first : StationSet} {hold : List ℕ} {c : ℕ} (H : Held t inner starts ends first hold c) where
    -- the search came to an end: the way back, and the linkage after it
    pub held_start : {from : List ℕ} {h : ℕ} → Came (net_of t inner starts ends) starts (members first) hold from h → Start starts hold from h
    held_start C = record {
      whole = H.whole;
      net = net_of t inner starts ends;
      mark = refl;
      entry = λ w. refl;
      first = members first;
      firsts = λ w m. (H.firsts w m).1;
      number = c;
      linkage = H.linkage;
      came = C;
    }

    pub held_more : {from hold' : List ℕ} {h r : ℕ} {first' : StationSet} → Came (net_of t inner starts ends) starts (members first) hold from h → Turned starts hold from h hold' r
        → ((w : ℕ) → members first' w ≡ (members first joined only r) w) → Held t inner starts ends first' hold' (c + 1)
    unfolding held_start
    held_more {from} {hold'} {h} {r} {first'} C T law = subst (Held t inner starts ends first' hold') (sym (add-one c)) (record {
      whole = T.whole;
      firsts = λ w m. ⊎_elim (λ i. H.firsts w i) (λ e. let q = only_is r w e in (ap (members inner) q ∙ T.inner (held_start C), ap (members starts) q ∙ T.start))
          (of_joined (members first) (only r) w (sym (law w) ∙ m));
      linkage = subst (λ (f : Set). Linkage (net_of t inner starts ends) (members inner) (read f hold') (suc c)) (sym (fun_ext law)) (T.linkage (held_start C));
    })

    -- it came to none: the loss
    pub held_solved : {s : StationSet} {limit : ℕ} → c < limit → Stuck (net_of t inner starts ends) (members first) hold s → Solved (net_of t inner starts ends) limit c s
    held_solved {s} l X = record {
      fewer = l;
      family = chains (net_of t inner starts ends) p H.linkage;
      within = λ w m. X.closed.within w (of_without X.into X.out w (sym (X.loss w) ∙ m)).0;
      parts = parts_more (net_of t inner starts ends) (X.into without X.out) (members s) (λ w m o. sym (X.loss w) ∙ o) (cut_parts (net_of t inner starts ends) p X.into X.out X.closed);
      exact = size_ext 256 (members s) (X.into without X.out) (λ w k. X.loss w) ∙ cut_size (net_of t inner starts ends) p X.into X.out X.closed H.linkage;
    }
      where
        p : ℕ → ℕ
        p = read (members first) hold

    pub held_many : {limit : ℕ} → limit ≤ c → Family (net_of t inner starts ends) limit
    held_many {limit} l = family_fewer (net_of t inner starts ends) limit c l (chains (net_of t inner starts ends) (read (members first) hold) H.linkage)
