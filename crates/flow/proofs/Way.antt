-- The way back along a search, as `turn` goes: what the stations hold is a linkage but for the hole h (Open). Where h is no start, it takes what the
-- station that the search came from holds, and that station is the hole (way_again); fewer steps lead to a start from there (way_before). Where h is
-- a start, it takes the mark, and there is one chain more (way_done).
use mathlib.Core.Bool.{Bool, ◌||◌, or-true, or-false, cond}
use mathlib.Core.List.{List}
use mathlib.Core.Logic.{inl, inr}
use mathlib.Core.Path.{◌≡◌, sym, ap, ◌∙◌, subst}
use Prim.Native.Nat.{ℕ, suc, ◌<◌}
use native.Mathlib.Omega.{arith}
use lib.ListN.{length, set}
use lib.Seq.{get_or-set_same, get_or-set_other}
use Rattle.stations.specs.Sets.{◌is_in◌, ◌not_in◌, ◌joined◌, only, size}
use Rattle.stations.specs.Words.{members}
use Rattle.stations.specs.declared.StationSet.{StationSet}
use Rattle.linkage.specs.Linkage.{Arc, Linkage, Hole, near, over, steps}
use Rattle.stations.proofs.Bools.{test, never}
use Rattle.stations.proofs.Members.{is_only, not_only}
use Rattle.stations.proofs.Counting.{size_le}
use Rattle.linkage.proofs.Search.{hole_start, hole_move, hole_finish}
use Rattle.linkage.proofs.Sweep.{steps_less}
use Rattle.flow.specs.Search.{at, read, Start}

module _ {starts : StationSet} {hold₀ from : List ℕ} {last : ℕ} (W : Start starts hold₀ from last) where
  open W use {net as N, first as F, number as c₀, came as C}
  open C use {reached as In, time as tm, search as S}

  abbrev fr : ℕ → ℕ
  fr = read (members starts) from

  abbrev p₀ : ℕ → ℕ
  p₀ = read F hold₀

  abbrev now : ℕ
  now = size N.mark In

  abbrev pub Open : List ℕ → ℕ → Type 0
  Open hold h = Hole N p₀ tm In (read F hold) h c₀

  pub way_small : (w : ℕ) → w is_in In → w < 256
  way_small w i = omega (arith, W.mark, N.below w (S.within w i))

  pub way_begin : Open hold₀ last
  way_begin = hole_start N p₀ fr tm In now S last C.here C.held C.ends W.linkage

  -- from a station that is no start
  came_from : (h : ℕ) → h is_in In → h not_in members starts → (at from h is_in In) × (tm (at from h) < tm h) × (p₀ (at from h) is_in N.inner) × Arc N (p₀ (at from h)) h
  came_from h i o = elim (S.cause h i) [
    | near e l ↦ never _ (sym (W.entry h) ∙ l) o
    | over (k, t) u r ↦ subst (λ (g : ℕ). (g is_in In) × (tm g < tm h) × (p₀ g is_in N.inner) × Arc N (p₀ g) h) (off_start h o) (k, t, u, r)
  ]
    where
      off_start : (x : ℕ) → x not_in members starts → fr x ≡ at from x
      off_start x q = rw q

  -- what holds a station is no first station
  not_first : (g : ℕ) → p₀ g is_in N.inner → g not_in F
  not_first g m = elim (test (F g)) [ inl i ↦ absurd (omega (arith, W.mark, N.below (p₀ g) m, first_mark g i)) | inr o ↦ o ]
    where
      first_mark : (x : ℕ) → x is_in F → p₀ x ≡ 256
      first_mark x i = rw i

  module _ (hold : List ℕ) (h : ℕ) (l : length hold ≡ 256) (H : Open hold h) where
    pub way_here : h < 256
    way_here = way_small h H.here

    -- ---- it goes on
    pub way_before : h not_in members starts → (at from h < 256) × (steps (members starts) (at from) 256 (at from h) < steps (members starts) (at from) 256 h)
    way_before o = (
      way_small (at from h) (came_from h H.here o).0,
      steps_less (members starts) In (at from) tm (λ x i q. let t = came_from x i q in (t.0, t.1)) 255 h H.here o
          (omega (arith, W.mark, S.past h H.here, size_le N.mark In)),
    )

    pub way_again : h not_in members starts → Open (set hold h (at hold (at from h))) (at from h)
    way_again o =
        subst (λ (x : ℕ). Open hold' x) e
        (hole_move N p₀ fr tm In now S (read F hold) (read F hold') h H (λ q. omega (arith, W.mark, sym e ∙ q, (way_before o).0))
        (here, λ w ne. ap (cond (F w) 256) (get_or-set_other hold h w (at hold g) 0 ne)))
      where
        g : ℕ
        g = at from h

        hold' : List ℕ
        hold' = set hold h (at hold g)

        e : fr h ≡ g
        e = rw o

        off_first : (x : ℕ) (p : List ℕ) → x not_in F → read F p x ≡ at p x
        off_first x p q = rw q

        hF : h not_in F
        hF = elim (test (F h)) [ inl i ↦ never _ (W.firsts h i) o | inr q ↦ q ]

        here : read F hold' h ≡ read F hold (fr h)
        here =
            off_first h hold' hF ∙ get_or-set_same hold h (at hold g) 0 (omega (arith, way_here))
            ∙ sym (ap (read F hold) e ∙ off_first g hold (not_first g (came_from h H.here o).2))

    -- ---- it is at a start
    pub way_inner : h is_in N.inner
    way_inner = S.within h H.here

    pub way_done : h is_in members starts → Linkage N N.inner (read (F joined only h) hold) (suc c₀)
    way_done m =
        hole_finish N p₀ fr tm In now S (read F hold) (read (F joined only h) hold) h H (at_start ∙ sym W.mark)
        (there ∙ sym W.mark, λ w ne. ap (λ (b : Bool). cond b 256 (at hold w)) (ap (λ (b : Bool). F w || b) (not_only h w ne) ∙ or-false (F w)))
      where
        at_start : fr h ≡ 256
        at_start = rw m

        there : read (F joined only h) hold h ≡ 256
        there = ap (λ (b : Bool). cond b 256 (at hold h)) (ap (λ (b : Bool). F h || b) (is_only h) ∙ or-true (F h))
