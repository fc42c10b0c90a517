-- The station of p with the fewest links inside it: `at` has the fewest, `best`, of those that are not in `rest`.
use mathlib.Core.Bool.{true, false}
use mathlib.Core.Logic.{◌⊎◌, inl, inr}
use mathlib.Core.Path.{◌≡◌, sym, ◌∙◌}
use Prim.Native.Nat.{ℕ, ◌<◌, ◌≤◌}
use native.Mathlib.Decide.{ℕ_discrete}
use native.Mathlib.Omega.{arith}
use Rattle.stations.specs.Sets.{Set, ◌is_in◌, ◌not_in◌, ◌part_of◌, only, ◌without◌, ◌cut◌, size}
use Rattle.stations.proofs.Bools.{test, never}
use Rattle.stations.proofs.Members.{in_less, of_without}
use Rattle.stations.proofs.Counting.{size_ext}
use Rattle.mesh.specs.Mesh.{Links}

pub record Leading (L : Links) (p : Set) (at best : ℕ) (rest : Set) : Type 0 where
  pub mine : at is_in p
  pub count : best ≡ size 256 (p cut L at)
  pub inside : rest part_of p
  pub least : (x : ℕ) → x is_in p → x not_in rest → best ≤ size 256 (p cut L x)

-- v is looked at: it has d links
module _ (L : Links) (p : Set) (at best : ℕ) (rest : Set) (h : Leading L p at best rest) (v d : ℕ) (rest' : Set) (mine : v is_in rest) (count : d ≡ size 256 (p cut L v))
    (lr : (x : ℕ) → rest' x ≡ (rest without only v) x) where
  inside : rest' part_of p
  inside x i = h.inside x (of_without rest (only v) x (sym (lr x) ∙ i)).0

  -- what is looked at now is v, or was looked at before
  least : (b : ℕ) → b ≤ best → b ≤ d → (x : ℕ) → x is_in p → x not_in rest' → b ≤ size 256 (p cut L x)
  least b i j x g o = go (ℕ_discrete x v) (test (rest x))
    where
      go : Dec (x ≡ v) → (rest x ≡ true) ⊎ (rest x ≡ false) → b ≤ size 256 (p cut L x)
      go (yes e) r = rw e (omega (arith, j, count))
      go (no e) (inl r) = never (rest' x) (lr x ∙ in_less rest v x r e) o
      go (no e) (inr r) = omega (arith, i, h.least x g r)

  pub leading_take : d < best → Leading L p v d rest'
  leading_take l = record { mine = h.inside v mine; count = count; inside = inside; least = least d (omega arith) (omega arith) }

  pub leading_pass : best ≤ d → Leading L p at best rest'
  leading_pass l = record { mine = h.mine; count = h.count; inside = inside; least = least best (omega arith) l }

pub count_links : (s t : Set) (d : ℕ) → d ≡ size 256 s → ((x : ℕ) → s x ≡ t x) → d ≡ size 256 t
count_links s t d e f = e ∙ size_ext 256 s t (λ x l. f x)
