-- The steps of the search for the groups within a set, over a list whose first rows are its pieces: rows 0 to g - 1 hold already, rows g to c - 1
-- are unfinished.
--   Pruned L k P A           A is what is left of P: no set that holds is lost
--   Dividing, Divided        what `divide` asks for: a piece P with a loss S that parts it; and the pieces it leaves in rows a to a + m - 1
--   State t k w D l g c      where the search stands, w being the weight of D
--   above k Q g c            the measure: how many stations above k the sets Q g to Q (c - 1) have together
use Rattle.std.specs.Prelude.{List, ◌≡◌, ℕ, ◌+◌, ◌-◌, ◌*◌, ◌<◌, ◌≤◌, length}
use Rattle.stations.specs.Sets.{Set, ◌part_of◌, size}
use Rattle.mesh.specs.Mesh.{Links, Mesh, Holds, Weak}
use Rattle.mesh.specs.Table.{linked, Fits}
use Rattle.mesh.proofs.Bound.{total, weight}
use Rattle.mesh.proofs.Pieces.{Pieces}
use Rattle.listing.specs.List.{set_at}
use Rattle.listing.specs.Rows.{Kept}

pub record Pruned (L : Links) (k : ℕ) (P A : Set) : Type 0 where
  pub part : A part_of P
  pub keeps : (H : Set) → Holds L 256 k H → H part_of P → H part_of A

-- how many stations a set has above k
abbrev pub over : ℕ → Set → ℕ
over k s = size 256 s - k

pub record Dividing (t : List ℕ) (k : ℕ) (P S : Set) (l : List ℕ) (a : ℕ) : Type 0 where
  pub fits : Fits t P
  pub mesh : Mesh (linked t)
  pub large : k < size 256 P
  pub weak : Weak (linked t) 256 k P S
  pub room : (a + weight k (size 256 P)) * 4 ≤ length l

pub record Divided (L : Links) (k : ℕ) (P : Set) (a : ℕ) (l l' : List ℕ) (m : ℕ) : Type 0 where
  pub pieces : Pieces L 256 k (weight k (size 256 P)) P m (λ i. set_at l' (a + i))
  pub large : (i : ℕ) → i < m → k < size 256 (set_at l' (a + i))
  pub less : total m (λ i. over k (set_at l' (a + i))) < over k P
  pub before : (i : ℕ) → i < a → set_at l' i ≡ set_at l i
  pub kept : Kept (a + m) l l'

pub record State (t : List ℕ) (k w : ℕ) (D : Set) (l : List ℕ) (g c : ℕ) : Type 0 where
  pub fits : Fits t D
  pub mesh : Mesh (linked t)
  pub room : w * 4 ≤ length l
  pub upto : g ≤ c
  pub pieces : Pieces (linked t) 256 k w D c (set_at l)
  pub large : (i : ℕ) → i < c → k < size 256 (set_at l i)
  pub firm : (i : ℕ) → i < g → Holds (linked t) 256 k (set_at l i)

abbrev pub above : ℕ → (ℕ → Set) → ℕ → ℕ → ℕ
above k Q g c = total c (λ i. over k (Q i)) - total g (λ i. over k (Q i))

-- a step leads from a state to a state that is nearer to the end
pub record Turned (t : List ℕ) (k : ℕ) (l : List ℕ) (g c : ℕ) (l' : List ℕ) (g' c' : ℕ) : Type 0 where
  pub state : (w : ℕ) (D : Set) → State t k w D l g c → State t k w D l' g' c' × Kept w l l'
  pub less : above k (set_at l') g' c' < above k (set_at l) g c
