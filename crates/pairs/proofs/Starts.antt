-- What the weak pair search tells of a piece, begun with all its stations as sources (weak_..), or with the links of a station that is taken out
-- (around_..).
use mathlib.Core.List.{List}
use Rattle.std.proofs.Common.{Option, Some, None}
use mathlib.Core.Path.{◌≡◌, refl, subst, subst₂, fun_ext}
use Prim.Native.Nat.{ℕ, ◌+◌}
use native.Mathlib.Omega.{arith}
use Rattle.stations.specs.Sets.{Set, ◌is_in◌, ◌part_of◌, only, ◌without◌, ◌cut◌, Below, size}
use Rattle.stations.specs.Words.{words, members}
use Rattle.stations.specs.declared.StationSet.{StationSet}
use Rattle.stations.proofs.Members.{of_without, is_only}
use Rattle.stations.proofs.Counting.{size_minus, size_minus_one}
use Rattle.stations.proofs.Laws.{has_small}
use Rattle.mesh.specs.Mesh.{Whole}
use Rattle.mesh.specs.Table.{linked}
use Rattle.search.specs.Losses.{every, WeakPair, Sought}
use Rattle.search.proofs.AllSources.{sought_all, sought_around, size_nothing}
use Rattle.pairs.specs.Piece.{Piece, SettledOf, WeakOf, AroundOf}
use Rattle.pairs.specs.declared.WeakPair as declared

pub below : (s : StationSet) → Below 256 (members s)
below s x g = has_small (words s) x refl g

-- ---- all stations of p may be sources
pub weak_of : (t : List ℕ) (p : StationSet) (k : ℕ) (r : Option declared.WeakPair) → SettledOf t p p p k r → WeakOf t p k r
weak_of t p k None h =
    λ S o. h S (sought_all (linked t) 256 every (size 256 (members p without members p) + k) (members p) S
    (record { part = o.part; free = o.free; few = omega (arith, o.few) }))
weak_of t p k (Some r) h = subst (λ (j : ℕ). WeakPair (linked t) 256 every j (members p) r.one r.other (members r.loss)) e h.0
  where
    e : size 256 (members p without members p) + k ≡ k
    e = omega (arith, size_nothing 256 (members p))

-- ---- j is taken out, and its links may be sources
module _ (t : List ℕ) (p : StationSet) (j : ℕ) (h : Piece t p) (mine : j is_in members p) (q links : StationSet) (ll : (x : ℕ) → members links x ≡ (members p cut linked t j) x) where
  module _ (lq : (x : ℕ) → members q x ≡ (members p without only j) x) where
    -- one station is taken out
    one_out : size 256 (members p without (members p without only j)) ≡ 1
    one_out = omega (
      arith,
      size_minus 256 (members p) (members p without only j) (λ x g. (of_without (members p) (only j) x g).0),
      size_minus_one 256 (members p) j (below p j mine) mine,
    )

    pub around_of : (l : ℕ) (r : Option declared.WeakPair) → SettledOf t p q links l r → AroundOf t p j l r
    around_of l None s = λ S o. told S (sought_around (linked t) 256 every (size 256 (members p without (members p without only j)) + l) (members p) j S
        (record { loss = record { part = o.loss.part; free = o.loss.free; few = omega (arith, o.loss.few, one_out) }; mine = o.mine; toward = o.toward }))
      where
        told : (S : Set) → Sought (linked t) 256 every (size 256 (members p without (members p without only j)) + l) (members p) (members p without only j) (members p cut linked t j) S
            → Whole (linked t) (members p without S)
        told = subst₂ (λ (Q N : Set). (S : Set) → Sought (linked t) 256 every (size 256 (members p without Q) + l) (members p) Q N S → Whole (linked t) (members p without S))
            (fun_ext lq) (fun_ext ll) s
    around_of l (Some r) h = (subst (λ (k : ℕ). WeakPair (linked t) 256 every k (members p) r.one r.other (members r.loss)) e told.0, told.1 j (rw (mine, is_only j) refl))
      where
        told : WeakPair (linked t) 256 every (size 256 (members p without (members p without only j)) + l) (members p) r.one r.other (members r.loss) × (members p without (members p without only j) part_of members r.loss)
        told = subst (λ (Q : Set). WeakPair (linked t) 256 every (size 256 (members p without Q) + l) (members p) r.one r.other (members r.loss) × (members p without Q part_of members r.loss)) (fun_ext lq) h

        e : size 256 (members p without (members p without only j)) + l ≡ l + 1
        e = omega (arith, one_out)
