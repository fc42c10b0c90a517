-- What the weak pair search asks and answers. t is a table of links, p a piece, and a loss may take every station.
--   Piece t p              the table has a row for each station of p, and its links are those of a mesh
--   Start t p q N u        what the search begins with: q is what is left of p, N are the sources, u the first of them
--   SettledOf t p q N l    what the search says of the losses that have all of p outside q and fewer than l others, and each of whose islands has
--                          a station of N: none parts p, or this one does, and these two stations
--   WeakOf t p k           the same of all losses of fewer than k
--   AroundOf t p j l       the same of the losses that have j and fewer than l others, and each of whose islands has a link to j
use Rattle.std.specs.Prelude.{List, Option, Some, None, ◌⊎◌, ◌≡◌, ℕ, ◌+◌, ◌≤◌}
use Rattle.stations.specs.Sets.{Set, ◌is_in◌, ◌part_of◌, ◌without◌, ◌cut◌, size}
use Rattle.stations.specs.Words.{members}
use Rattle.stations.specs.declared.StationSet.{StationSet}
use Rattle.mesh.specs.Mesh.{Links, Mesh, Whole}
use Rattle.mesh.specs.Table.{linked, Fits}
use Rattle.search.specs.Losses.{every, WeakPair, Safe, Sought, Around}
use Rattle.pairs.specs.declared.WeakPair as declared

pub record Piece (t : List ℕ) (p : StationSet) : Type 0 where
  pub fits : Fits t (members p)
  pub mesh : Mesh (linked t)

pub record Start (t : List ℕ) (p q N : StationSet) (u : ℕ) : Type 0 where
  pub piece : Piece t p
  pub part : members q part_of members p
  pub inside : members N part_of members q
  pub source : u is_in members N

-- r is one of the two sets
abbrev pub FewerOf : Set → Set → Set → Type 0
FewerOf s t r = ((x : ℕ) → r x ≡ s x) ⊎ ((x : ℕ) → r x ≡ t x)

-- j has the fewest links inside p
pub record Fewest (L : Links) (p : Set) (j : ℕ) : Type 0 where
  pub mine : j is_in p
  pub least : (x : ℕ) → x is_in p → size 256 (p cut L j) ≤ size 256 (p cut L x)

-- the stations of p that are taken out
abbrev pub out_of : StationSet → StationSet → Set
out_of p q = members p without members q

abbrev pub SettledOf : List ℕ → StationSet → StationSet → StationSet → ℕ → Option declared.WeakPair → Type 0
SettledOf t p q N l None = (S : Set) → Sought (linked t) 256 every (size 256 (out_of p q) + l) (members p) (members q) (members N) S → Whole (linked t) (members p without S)
SettledOf t p q N l (Some r) = WeakPair (linked t) 256 every (size 256 (out_of p q) + l) (members p) r.one r.other (members r.loss) × (out_of p q part_of members r.loss)

abbrev pub WeakOf : List ℕ → StationSet → ℕ → Option declared.WeakPair → Type 0
WeakOf t p k None = Safe (linked t) 256 every k (members p)
WeakOf t p k (Some r) = WeakPair (linked t) 256 every k (members p) r.one r.other (members r.loss)

abbrev pub AroundOf : List ℕ → StationSet → ℕ → ℕ → Option declared.WeakPair → Type 0
AroundOf t p j l None = (S : Set) → Around (linked t) 256 every (l + 1) (members p) j S → Whole (linked t) (members p without S)
AroundOf t p j l (Some r) = WeakPair (linked t) 256 every (l + 1) (members p) r.one r.other (members r.loss) × (j is_in members r.loss)
