-- What can be reached by links: from a set in one step, from a station inside a set. L says which stations are linked.
--   Island L s a r       r has the stations in touch with a inside s, and no other
--   Spread L p r         r has the stations that some station of p is linked to
use Rattle.std.specs.Prelude.{true, ◌≡◌, ℕ}
use Rattle.stations.specs.Sets.{Set, ◌is_in◌}
use Rattle.mesh.specs.Mesh.{Links, Touch}

pub record Island (L : Links) (s : Set) (a : ℕ) (r : Set) : Type 0 where
  pub only : (x : ℕ) → x is_in r → Touch L s a x
  pub all : (x : ℕ) → Touch L s a x → x is_in r

pub record Spread (L : Links) (p r : Set) : Type 0 where
  pub some : (y : ℕ) → y is_in r → (x : ℕ) × (x is_in p) × (L x y ≡ true)
  pub all : (x y : ℕ) → x is_in p → L x y ≡ true → y is_in r
