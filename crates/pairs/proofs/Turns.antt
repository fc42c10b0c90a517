-- The turns of the weak pair search over sets by value. Each is a step of `search`, with the members of the turn's sets as hypotheses.
--   Open      what the loop over sources keeps
--   Round     what the loop over the stations that are tried against a source keeps
use mathlib.Core.List.{List}
use mathlib.Core.Logic.{⊎_elim}
use mathlib.Core.Path.{◌≡◌, refl, sym, ◌∙◌, subst, subst₂, fun_ext}
use Prim.Native.Nat.{ℕ, ◌+◌, ◌-◌, ◌<◌}
use native.Mathlib.Omega.{arith}
use Rattle.stations.specs.Sets.{Set, ◌is_in◌, ◌not_in◌, ◌part_of◌, only, ◌without◌, ◌cut◌, ◌joined◌, size}
use Rattle.stations.specs.Words.{words, members}
use Rattle.stations.specs.declared.StationSet.{StationSet}
use Rattle.stations.proofs.Bools.{or_right}
use Rattle.stations.proofs.Members.{of_without}
use Rattle.stations.proofs.Laws.{has_small}
use Rattle.mesh.specs.Mesh.{Mesh}
use Rattle.mesh.specs.Table.{linked}
use Rattle.search.specs.Losses.{every, Loss, WeakPair, Joined, Parted, Sought}
use Rattle.search.proofs.Parts.{without_less}
use Rattle.search.proofs.OneSource.{inner, near, Known, known_begin, known_turn, known_end}
use Rattle.search.proofs.AllSources.{Peeled, begin, turn_links, turn_rest, end_level, end_none, found}
use Rattle.flow.specs.Net.{net_of, Flow}
use Rattle.std.proofs.Common.{Some, None}
use Rattle.flow.specs.declared.Cut.{Cut}
use Rattle.flow.proofs.Ends.{flow_many, flow_few}
use Rattle.pairs.specs.Piece.{Start, SettledOf, FewerOf, out_of}

pub inner_in : (q : Set) (u v x : ℕ) → x is_in inner q u v → x is_in q
inner_in q u v x g = (of_without q (only u) x (of_without (q without only u) (only v) x g).0).0

-- the search began with q₀ left of p and the sources N₀; now q is left, l is the level and N are the sources
abbrev pub Left : List ℕ → StationSet → StationSet → StationSet → ℕ → StationSet → ℕ → StationSet → Type 0
Left t p q₀ N₀ most q l N =
    Peeled (linked t) 256 every (size 256 (out_of p q₀) + most) (members p)
    (Sought (linked t) 256 every (size 256 (out_of p q₀) + most) (members p) (members q₀) (members N₀)) (members q) l (members N)

pub record Open (t : List ℕ) (p q₀ N₀ : StationSet) (most : ℕ) (q N : StationSet) (u l : ℕ) : Type 0 where
  pub peeled : Left t p q₀ N₀ most q l N
  -- what was taken out stays out
  pub gone : out_of p q₀ part_of out_of p q
  pub source : u is_in members N
  pub small : u < 256

abbrev pub Round : List ℕ → StationSet → StationSet → ℕ → ℕ → StationSet → StationSet → Type 0
Round t q N u l known left = Known (linked t) 256 every l (members q) u (members N) (members known) (members left)

pub open_begin : (t : List ℕ) (p q N : StationSet) (u most : ℕ) → Start t p q N u → Open t p q N most q N u most
open_begin t p q N u most s = record {
  peeled = begin s.part s.inside (λ x g. refl) refl;
  gone = λ x g. g;
  source = s.source;
  small = has_small (words N) u refl s.source;
}

module _ {t : List ℕ} {p q₀ N₀ : StationSet} {most : ℕ} {q N : StationSet} {u l : ℕ} (m : Mesh (linked t)) (h : Open t p q₀ N₀ most q N u l) where
  pub source_in : u is_in members q
  source_in = h.peeled.inside u h.source

  pub round_begin : (links known left : StationSet) → ((x : ℕ) → members links x ≡ (members q cut linked t u) x) → ((x : ℕ) → members known x ≡ (members links joined only u) x)
      → ((x : ℕ) → members left x ≡ (members N without members known) x) → Round t q N u l known left
  round_begin links known left ll lk lf =
      subst (Known (linked t) 256 every l (members q) u (members N) (members known)) (sym (fun_ext lf))
      (subst (λ (K : Set). Known (linked t) 256 every l (members q) u (members N) K (members N without K)) (sym e)
      (known_begin (linked t) 256 every l (members q) u (members N) source_in h.peeled.inside))
    where
      e : members known ≡ near (linked t) (members q) u
      e = subst (λ (z : Set). members known ≡ z joined only u) (fun_ext ll) (fun_ext lk)

  -- a station v is tried: the flow goes inside d, from the links of v to what is known
  module _ (known left : StationSet) (v : ℕ) (k : Round t q N u l known left) (mine : v is_in members left) (d starts : StationSet)
      (ld : (x : ℕ) → members d x ≡ inner (members q) u v x) (ls : (x : ℕ) → members starts x ≡ linked t v x) where
    pub round_turn : (known' left' : StationSet) → ((x : ℕ) → members known' x ≡ (members known joined only v) x) → ((x : ℕ) → members left' x ≡ (members left without only v) x)
        → Flow (net_of t d starts known) l None → Round t q N u l known' left'
    round_turn known' left' lk lf f =
        subst₂ (λ (K F : Set). Known (linked t) 256 every l (members q) u (members N) K F) (sym (fun_ext lk)) (sym (fun_ext lf))
        (known_turn v m k mine
        (subst₂ (λ (D A : Set). Joined (linked t) 256 every l D A (members known)) (fun_ext ld) (fun_ext ls) (λ S o. flow_many t d starts known l f S o.few)))

    pub round_found : (r : Cut) (s : StationSet) → ((x : ℕ) → members s x ≡ (members r.loss joined out_of p q) x) → Flow (net_of t d starts known) l (Some r)
        → SettledOf t p q₀ N₀ most (Some (record { one = u; other = v; loss = s }))
    round_found r s le f =
        let (few, count, part, parts) = flow_few t d starts known l r f in
        let told = subst₂ (λ (D A : Set). Loss 256 every l D (members r.loss) × Parted (linked t) D (members r.loss) A (members known)) (fun_ext ld) (fun_ext ls)
        (record { part = part; free = λ x g. refl; few = omega (arith, few, count) }, parts) in (
          subst (WeakPair (linked t) 256 every (size 256 (out_of p q₀) + most) (members p) u v) (sym (fun_ext le)) (found v (members r.loss) m h.peeled k source_in mine told.0 told.1),
          subst (λ (z : Set). out_of p q₀ part_of z) (sym (fun_ext le)) (λ x g. or_right (members r.loss x) (out_of p q x) (h.gone x g)),
        )

  -- all sources are firm with u: it is taken out
  module _ (known left : StationSet) (k : Round t q N u l known left) (none : (x : ℕ) → x not_in members left) (pos : 0 < l) (links rest q' N' : StationSet)
      (ll : (x : ℕ) → members links x ≡ (members q cut linked t u) x) (lr : (x : ℕ) → members rest x ≡ (members N without only u) x)
      (lq : (x : ℕ) → members q' x ≡ (members q without only u) x) (lN : FewerOf (members links) (members rest) (members N')) where
    pub open_turn : Left t p q₀ N₀ most q' (l - 1) N'
    open_turn = ⊎_elim
        (λ e. put (members q cut linked t u) (λ x. e x ∙ ll x) (turn_links u m h.peeled (known_end k none) below pos source_in refl))
        (λ e. put (members N without only u) (λ x. e x ∙ lr x) (turn_rest u m h.peeled (known_end k none) below pos source_in refl)) lN
      where
        below : (x : ℕ) → x is_in members p → x < 256
        below x g = has_small (words p) x refl g

        put : (z : Set) → ((x : ℕ) → members N' x ≡ z x)
            → Peeled (linked t) 256 every (size 256 (out_of p q₀) + most) (members p)
            (Sought (linked t) 256 every (size 256 (out_of p q₀) + most) (members p) (members q₀) (members N₀)) (members q without only u) (l - 1) z
            → Left t p q₀ N₀ most q' (l - 1) N'
        put z e = subst₂ (λ (Q M : Set). Peeled (linked t) 256 every (size 256 (out_of p q₀) + most) (members p)
            (Sought (linked t) 256 every (size 256 (out_of p q₀) + most) (members p) (members q₀) (members N₀)) Q (l - 1) M) (sym (fun_ext lq)) (sym (fun_ext e))

    pub open_again : (w : ℕ) → w is_in members N' → Open t p q₀ N₀ most q' N' w (l - 1)
    open_again w g = record {
      peeled = open_turn;
      gone = λ x i. subst (λ (z : Set). x is_in members p without z) (sym (fun_ext lq)) (without_less (members p) (members q) u x (h.gone x i));
      source = g;
      small = has_small (words N') w refl g;
    }

    pub open_none : ((x : ℕ) → x not_in members N') → SettledOf t p q₀ N₀ most None
    open_none z = end_none open_turn z

  pub open_level : l ≡ 0 → SettledOf t p q₀ N₀ most None
  open_level z = end_level h.peeled z
