-- What the steps of the table test say.
use Rattle.std.specs.Prelude.{Bool, true, false, List, ◌⊎◌, ◌≡◌, ℕ, ◌≤◌}
use Rattle.stations.specs.Sets.{Set, ◌is_in◌}
use Rattle.mesh.specs.Table.{linked}

-- each station of the row has station i in its own row, or one has not
pub record MirroredRow (t : List ℕ) (i : ℕ) (row : Set) (r : Bool) : Type 0 where
  pub each : r ≡ true → (b : ℕ) → b is_in row → linked t b i ≡ true
  pub one : r ≡ false → (b : ℕ) × (b is_in row) × (linked t b i ≡ false)

-- the row a has a self link, or a station that is from n up or does not have a in its own row
abbrev pub RowFault : ℕ → List ℕ → ℕ → Type 0
RowFault n t a = (linked t a a ≡ true) ⊎ ((b : ℕ) × (linked t a b ≡ true) × ((n ≤ b) ⊎ (linked t b a ≡ false)))
