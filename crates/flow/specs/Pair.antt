-- What `between` answers about two stations a and b of a set. Their own link is left out, so that a linked pair can be asked about too; where they
-- are not linked, the other links are all links.
use Rattle.std.specs.Prelude.{List, Option, Some, None, ◌≢◌, ◌≡◌, ℕ, ◌<◌}
use Rattle.stations.specs.Sets.{◌is_in◌, size}
use Rattle.stations.specs.Words.{members}
use Rattle.stations.specs.declared.StationSet.{StationSet}
use Rattle.mesh.specs.Mesh.{Mesh}
use Rattle.mesh.specs.Table.{linked, Fits}
use Rattle.mesh.specs.Routes.{Routes, Most, Parts, Least}
use Rattle.linkage.specs.Pair.{other_links}
use Rattle.flow.specs.declared.Cut.{Cut}

-- what is asked: two stations of the set, with a row for each station of it, in the table of a mesh
pub record Asked (t : List ℕ) (set : StationSet) (a b : ℕ) : Type 0 where
  pub fits : Fits t (members set)
  pub mesh : Mesh (linked t)
  pub differ : a ≢ b
  pub a_in : a is_in members set
  pub b_in : b is_in members set

-- c is the greatest number of routes between the two, and fewer than the limit; it is the smallest number of other stations whose loss parts them, and
-- s is such a loss
pub record Counted (t : List ℕ) (set : StationSet) (a b limit c : ℕ) (s : StationSet) : Type 0 where
  pub fewer : c < limit
  pub most : Most (other_links (linked t) a b) (members set) a b c
  pub least : Least (other_links (linked t) a b) 256 (members set) a b c
  pub loss : Parts (other_links (linked t) a b) (members set) a b (members s)
  pub exact : size 256 (members s) ≡ c

-- as many routes as the limit, or how many there are
abbrev pub BetweenOf : List ℕ → StationSet → ℕ → ℕ → ℕ → Option Cut → Type 0
BetweenOf t set a b limit None = Routes (other_links (linked t) a b) (members set) a b limit
BetweenOf t set a b limit (Some r) = Counted t set a b limit r.chains r.loss
