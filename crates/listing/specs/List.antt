-- The list of what holds at a level within a set D of stations, as it stands in a lent buffer.
--   set_at l i           the set in row i of the list
--   ListedIn             the rows are the largest sets of D that hold, in order, and nothing else
--   Asked, Listing       what `list_within` asks for, and what it leaves
use Rattle.std.specs.Prelude.{List, ◌≡◌, ℕ, ◌*◌, ◌<◌, ◌≤◌, length, get_or}
use Rattle.stations.specs.Sets.{Set, ◌part_of◌, ◌cut◌, size, Before}
use Rattle.stations.specs.Words.{has, row}
use Rattle.mesh.specs.Mesh.{Links, Mesh, Holds, R}
use Rattle.mesh.specs.Table.{linked, Fits}
use Rattle.mesh.proofs.Bound.{total, weight}

abbrev pub set_at : List ℕ → ℕ → Set
set_at l i = has (row l i)

-- Rows 0 to g - 1 are sets of D that hold at k, every set of D that holds lies in one of them, two of them share fewer than k stations (so none
-- lies in another), and they stand in order.
pub record ListedIn (L : Links) (n k : ℕ) (D : Set) (g : ℕ) (Q : ℕ → Set) : Type 0 where
  pub hold : (i : ℕ) → i < g → Holds L n k (Q i)
  pub inside : (i : ℕ) → i < g → Q i part_of D
  pub cover : (H : Set) → Holds L n k H → H part_of D → (i : ℕ) × (i < g) × (H part_of Q i)
  pub share : (i j : ℕ) → i < g → j < g → ¬ (i ≡ j) → size n (Q i cut Q j) < k
  pub order : (i j : ℕ) → i < j → j < g → Before (Q i) (Q j)

-- the table has a row for each station of D, its links are those of a mesh, and the list has room for the rows of D at k
pub record Asked (t : List ℕ) (D : Set) (k : ℕ) (l : List ℕ) : Type 0 where
  pub fits : Fits t D
  pub mesh : Mesh (linked t)
  pub room : R (size 256 D) k * 4 ≤ length l

-- rule L8: g groups in the first g rows, zeros in the rest of the R rows, and what is behind those stays. l is the list before, l' the list after.
pub record Listing (t : List ℕ) (D : Set) (k : ℕ) (l l' : List ℕ) (g : ℕ) : Type 0 where
  pub listed : ListedIn (linked t) 256 k D g (set_at l')
  pub most : g ≤ R (size 256 D) k
  -- the rows together weigh at most R, a row of m stations weighing (m + 1 - k) / 2
  pub weigh : total g (λ i. weight k (size 256 (set_at l' i))) ≤ R (size 256 D) k
  pub clear : (p : ℕ) → g * 4 ≤ p → p < R (size 256 D) k * 4 → get_or l' p 0 ≡ 0
  pub past : (p : ℕ) → R (size 256 D) k * 4 ≤ p → get_or l' p 0 ≡ get_or l p 0
  pub long : length l' ≡ length l
