-- What is done to the rows of a list l, with l' the list after.
--   Kept c l l'           the words from row c on are as they were
--   Stored l r A l'       row r holds the set A now, and nothing else is changed
--   Cleared l a e l'      rows a to e - 1 are zero, and nothing else is changed
--   Sorted l g l'         the first g rows hold the same sets, in order, and the words past them are as they were
use Rattle.std.specs.Prelude.{List, ◌≢◌, ◌≡◌, ℕ, ◌+◌, ◌*◌, ◌<◌, ◌≤◌, length, get_or}
use Rattle.stations.specs.Sets.{Set, Before}
use Rattle.listing.specs.List.{set_at}

pub record Kept (c : ℕ) (l l' : List ℕ) : Type 0 where
  pub long : length l' ≡ length l
  pub past : (p : ℕ) → c * 4 ≤ p → get_or l' p 0 ≡ get_or l p 0

pub record Stored (l : List ℕ) (r : ℕ) (A : Set) (l' : List ℕ) : Type 0 where
  pub here : set_at l' r ≡ A
  pub other : (i : ℕ) → i ≢ r → set_at l' i ≡ set_at l i
  pub kept : Kept (r + 1) l l'

pub record Cleared (l : List ℕ) (a e : ℕ) (l' : List ℕ) : Type 0 where
  pub zero : (p : ℕ) → a * 4 ≤ p → p < e * 4 → get_or l' p 0 ≡ 0
  pub before : (p : ℕ) → p < a * 4 → get_or l' p 0 ≡ get_or l p 0
  pub kept : Kept e l l'

abbrev pub Ordered : ℕ → (ℕ → Set) → Type 0
Ordered g Q = (i j : ℕ) → i < j → j < g → Before (Q i) (Q j)

-- no two of the first g sets are the same
abbrev pub Different : ℕ → (ℕ → Set) → Type 0
Different g Q = (i j : ℕ) → i < g → j < g → Q i ≡ Q j → i ≡ j

pub record Sorted (l : List ℕ) (g : ℕ) (l' : List ℕ) : Type 0 where
  pub from : (i : ℕ) → i < g → (j : ℕ) × (j < g) × (set_at l' i ≡ set_at l j)
  pub onto : (j : ℕ) → j < g → (i : ℕ) × (i < g) × (set_at l j ≡ set_at l' i)
  pub order : Ordered g (set_at l')
  pub kept : Kept g l l'

-- rows before i are in order, and the rows up to i are different sets
pub record Unsorted (l : List ℕ) (i : ℕ) : Type 0 where
  pub room : i * 4 + 4 ≤ length l
  pub order : Ordered i (set_at l)
  pub differ : Different (i + 1) (set_at l)
