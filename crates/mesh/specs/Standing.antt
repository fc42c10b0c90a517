-- The standing of a station and of a pair: rules T1 and T2.
use Rattle.std.specs.Prelude.{◌≡◌, ◌⊎◌, ℕ, ◌<◌, ◌≤◌}
use Rattle.stations.specs.Sets.{Set, ◌is_in◌}
use Rattle.mesh.specs.Mesh.{Links, Group}

-- rule T1: v is 0, or a level with a group that has x; and no group of a level from 1 to 16 above v has it
pub record Standing (L : Links) (n x v : ℕ) : Type 0 where
  pub top : v ≤ 16
  pub reached : 0 < v → (s : Set) × Group L n v s × (x is_in s)
  pub largest : (k : ℕ) (s : Set) → 1 ≤ k → k ≤ 16 → Group L n k s → x is_in s → k ≤ v

-- rule T2: the two stand at `one` and `two`, and v is the smaller
pub record PairStanding (L : Links) (n x y v : ℕ) : Type 0 where
  pub one : ℕ
  pub two : ℕ
  pub first : Standing L n x one
  pub second : Standing L n y two
  pub smaller : (v ≤ one) × (v ≤ two) × ((v ≡ one) ⊎ (v ≡ two))
