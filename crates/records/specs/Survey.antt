-- THE SURVEY FILE: what bytes say which survey. Rules F1 and F2, field by field.
--   Frame v s n m bs               what every version shares: the mark, the version v, n stations of s bytes each, m records of 4 bytes, and no byte more
--   Serials n f                    the serials f 0 .. f (n - 1) are right
--   Pairs n m a b                  the links (a 0, b 0) .. (a (m - 1), b (m - 1)) are right
--   Survey v n m serials table bs  the bytes bs are the survey of these serials and this table
--   links table, link_count n table    the links as a set of numbers a * 256 + b, a < b, and how many there are
-- A further version is a further size s of a station and a further record beside Survey; Frame, Serials and the places stay.
use Rattle.std.specs.Prelude.{true, ◌&&◌, List, ◌⊎◌, ◌≡◌, ℕ, suc, ◌+◌, ◌*◌, ◌/◌, ◌%◌, ◌<◌, ◌≤◌, ltb, length, get_or}
use Rattle.stations.specs.Sets.{Set, size}
use Rattle.mesh.specs.Table.{linked, Table}
use Rattle.records.specs.Bytes.{short, long, Octets, Words}

-- the letters R, L, M
abbrev pub Mark : List ℕ → Type 0
Mark bs = (get_or bs 0 0 ≡ 82) × (get_or bs 1 0 ≡ 76) × (get_or bs 2 0 ≡ 77)

abbrev pub version : List ℕ → ℕ
version bs = short bs 3

abbrev pub stations : List ℕ → ℕ
stations bs = short bs 5

abbrev pub records : List ℕ → ℕ
records bs = short bs 7

pub record Frame (v s n m : ℕ) (bs : List ℕ) : Type 0 where
  pub octets : Octets bs
  pub mark : Mark bs
  pub version_is : version bs ≡ v
  pub stations_are : stations bs ≡ n
  pub records_are : records bs ≡ m
  -- rule F2: not a byte more or less
  pub whole : length bs ≡ 9 + n * s + m * 4
  -- the most records that a file has
  pub few_records : m ≤ 8192

-- the serial of station i, where a station has s bytes
abbrev pub serial : ℕ → List ℕ → ℕ → ℕ
serial s bs i = long bs (9 + i * s)

-- the two station numbers of record j, after n stations of s bytes
abbrev pub low : ℕ → ℕ → List ℕ → ℕ → ℕ
low s n bs j = short bs (9 + n * s + j * 4)

abbrev pub high : ℕ → ℕ → List ℕ → ℕ → ℕ
high s n bs j = short bs (9 + n * s + j * 4 + 2)

-- above 0, and each above the one before
pub record Serials (n : ℕ) (f : ℕ → ℕ) : Type 0 where
  pub some : (i : ℕ) → i < n → 0 < f i
  pub rising : (i : ℕ) → suc i < n → f i < f (suc i)

-- the pair (a', b') comes after (a, b): a decides, and b where the two have the same a
abbrev pub After : ℕ → ℕ → ℕ → ℕ → Type 0
After a b a' b' = (a < a') ⊎ ((a ≡ a') × (b < b'))

-- the two stations of a link in their order, both of this mesh; and each link after the one before
pub record Pairs (n m : ℕ) (a b : ℕ → ℕ) : Type 0 where
  pub apart : (j : ℕ) → j < m → a j < b j
  pub below : (j : ℕ) → j < m → b j < n
  pub rising : (j : ℕ) → suc j < m → After (a j) (b j) (a (suc j)) (b (suc j))

pub record Survey (v n m : ℕ) (serials table bs : List ℕ) : Type 0 where
  pub one : v ≡ 1
  pub frame : Frame v 4 n m bs
  pub all_serials : length serials ≡ n
  pub serial_is : (i : ℕ) → i < n → serial 4 bs i ≡ get_or serials i 0
  pub serials_right : Serials n (serial 4 bs)
  pub pairs_right : Pairs n m (low 4 n bs) (high 4 n bs)
  -- the table is an accepted one, and its links are those of the records
  pub accepted : Table n table
  pub words : Words table
  pub record_linked : (j : ℕ) → j < m → linked table (low 4 n bs j) (high 4 n bs j) ≡ true
  pub linked_record : (a b : ℕ) → a < b → linked table a b ≡ true → (j : ℕ) × (j < m) × (low 4 n bs j ≡ a) × (high 4 n bs j ≡ b)

-- the links of a table, each once: the number a * 256 + b for a link of a and b with a < b
unfoldable pub links : List ℕ → Set
links t x = linked t (x / 256) (x % 256) && ltb (x / 256) (x % 256)

-- how many links a table of n stations has
abbrev pub link_count : ℕ → List ℕ → ℕ
link_count n t = size (n * 256) (links t)
