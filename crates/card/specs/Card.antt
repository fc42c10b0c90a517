-- THE REFUSAL CARD, docs/CARD.md: the number of each refusal, and when it is given.
--   number r              the card's number of the refusal r
--   number_of r           the number of the reply r: that of its refusal, or 0
--   value_of r            the number that the reply r tells, or 0
--   Test                  a line of the card put to an input: its number, and what it is given exactly for
--   FirstFailing ts r     r is the number of the first test of the list that fails; 0 where none does
--   LEVEL k, STATIONS n, ..   the lines of the card
use Rattle.std.specs.Prelude.{Bool, true, false, Result, Ok, Err, List, [], ◌∷◌, ◌⊎◌, ◌≡◌, ℕ, ◌*◌, ◌<◌, ◌≤◌, length}
use Rattle.stations.specs.Sets as sets
use Rattle.stations.specs.Sets.{◌is_in◌}
use Rattle.stations.specs.Words.{has}
use Rattle.mesh.specs.Mesh.{R}
use Rattle.mesh.specs.Dividing.{Dividing, needed}
use Rattle.mesh.specs.Table.{linked, Fault}
use Rattle.card.specs.declared.Refusal.{Refusal}
use Rattle.card.specs.declared.Refusal.TheVariants.{Level, Stations, TableLength, Table, ListRoom, Set, Station, Mark, Version, Count, Length, Serial, Link, Room, Rows}

abbrev pub number : Refusal → ℕ
number Level = 1
number Stations = 2
number TableLength = 3
number Table = 4
number ListRoom = 5
number Set = 6
number Station = 7
number Mark = 8
number Version = 9
number Count = 10
number Length = 11
number Serial = 12
number Link = 13
number Room = 14
number Rows = 15

-- the number of a reply's refusal; 0 where the question is answered, or the test passed
abbrev pub number_of : {A : Type 0} → Result A Refusal → ℕ
number_of (Ok a) = 0
number_of (Err r) = number r

-- the number that a reply tells; 0 for a refusal
abbrev pub value_of : Result ℕ Refusal → ℕ
value_of (Ok x) = x
value_of (Err r) = 0

pub record Test : Type 1 where
  pub refusal : ℕ
  pub fails : Type 0

-- rule C2: of several reasons the first in the order counts
abbrev pub FirstFailing : List Test → ℕ → Type 0
FirstFailing [] r = r ≡ 0
FirstFailing (t ∷ ts) r = (t.fails × (r ≡ t.refusal)) ⊎ ((¬ t.fails) × FirstFailing ts r)

-- r says whether P
pub record Says (P : Type 0) (r : Bool) : Type 0 where
  pub yes_so : r ≡ true → P
  pub not_so : r ≡ false → ¬ P

-- 1: no level from 1 to 16
abbrev pub LEVEL : ℕ → Test
LEVEL k = record { refusal = 1; fails = (k ≡ 0) ⊎ (16 < k) }

-- 2: more than 256 stations
abbrev pub STATIONS : ℕ → Test
STATIONS n = record { refusal = 2; fails = 256 < n }

-- 3: not four words a station
abbrev pub TABLE_LENGTH : ℕ → List ℕ → Test
TABLE_LENGTH n t = record { refusal = 3; fails = ¬ (length t ≡ n * 4) }

-- 4: the table has a fault
abbrev pub TABLE : ℕ → List ℕ → Test
TABLE n t = record { refusal = 4; fails = Fault n t }

-- 5: no room for R rows; R goes by n and k, and not by how many groups there are (rule L9)
abbrev pub LIST_ROOM : ℕ → ℕ → ℕ → Test
LIST_ROOM n k words = record { refusal = 5; fails = words < R n k * 4 }

-- 6: no set of stations of this mesh
abbrev pub SET : ℕ → List ℕ → Test
SET n s = record { refusal = 6; fails = (¬ (length s ≡ 4)) ⊎ ((j : ℕ) × (n ≤ j) × (j is_in has s)) }

-- 7: no station of this mesh
abbrev pub STATION : ℕ → ℕ → Test
STATION n a = record { refusal = 7; fails = n ≤ a }

-- 7: not two different stations of this mesh
abbrev pub PAIR : ℕ → ℕ → ℕ → Test
PAIR n a b = record { refusal = 7; fails = (n ≤ a) ⊎ (n ≤ b) ⊎ (a ≡ b) }

-- 15: some division needs more than R rows (rule L11); it never fails (rows_pass)
abbrev pub ROWS : ℕ → List ℕ → ℕ → Test
ROWS n t k = record { refusal = 15; fails = (Ps : List sets.Set) × Dividing (linked t) n k Ps × (R n k < needed n k Ps) }

-- every order begins with 2, 3, 4
abbrev pub table_order : ℕ → List ℕ → List Test
table_order n t = STATIONS n ∷ TABLE_LENGTH n t ∷ TABLE n t ∷ []
