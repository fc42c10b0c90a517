-- What the steps of the standings say.
use Rattle.std.specs.Prelude.{List, ℕ, ◌<◌}
use Rattle.stations.specs.Sets.{Set, ◌is_in◌}
use Rattle.mesh.specs.Mesh.{Group}
use Rattle.mesh.specs.Table.{linked}
use Rattle.listing.specs.List.{set_at}

-- one of the first g rows has the station a
abbrev pub Named : List ℕ → ℕ → ℕ → Type 0
Named l g a = (i : ℕ) × (i < g) × (a is_in set_at l i)

-- some group at k has the station a
abbrev pub InGroup : List ℕ → ℕ → ℕ → ℕ → Type 0
InGroup t n k a = (s : Set) × Group (linked t) n k s × (a is_in s)
