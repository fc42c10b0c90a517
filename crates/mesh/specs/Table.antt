-- The bridge from a lent table to the links of a mesh, once.
--   linked t a b      station b stands in the row of station a
--   Table n t         t is an accepted table of n stations
--   Fault n t         what refusal 4 speaks of
use Rattle.std.specs.Prelude.{true, false, List, ◌≡◌, ℕ, ◌+◌, ◌*◌, ◌<◌, ◌≤◌, length}
use Rattle.stations.specs.Sets.{Set, ◌is_in◌}
use Rattle.stations.specs.Words.{has, row}
use Rattle.mesh.specs.Mesh.{Links}

-- which stations a table links: station w stands in the row of station v
abbrev pub linked : List ℕ → Links
linked t v w = has (row t v) w

-- each station of s has its row in the table
abbrev pub Fits : List ℕ → Set → Type 0
Fits t s = (j : ℕ) → j is_in s → j * 4 + 4 ≤ length t

-- rules S1 and S5: at most 256 stations, four words a station, no station in its own row, each link in both rows, and only stations below n
pub record Table (n : ℕ) (t : List ℕ) : Type 0 where
  pub few : n ≤ 256
  pub long : length t ≡ n * 4
  pub apart : (a : ℕ) → linked t a a ≡ false
  pub both : (a b : ℕ) → linked t a b ≡ true → linked t b a ≡ true
  pub below : (a b : ℕ) → linked t a b ≡ true → b < n

-- what an accepted table has not: card, 4
pub data Fault (n : ℕ) (t : List ℕ) : Type 0 where
  self_link : (a : ℕ) → a < n → linked t a a ≡ true → Fault n t
  one_sided : (a b : ℕ) → a < n → b < n → linked t a b ≡ true → linked t b a ≡ false → Fault n t
  from_n_up : (a b : ℕ) → a < n → n ≤ b → linked t a b ≡ true → Fault n t
