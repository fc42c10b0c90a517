-- What the steps of the writer ask and say.
--   Laid N s lo hi at bs         the members x < N of s are listed from byte `at`: x, with size x s members below it, has the record (lo x, hi x) at that place
--   Put N s lo hi at r bs bs'    bs became bs' by listing them, and r is the place after the last
--   Ready n m serials table room, FilePut    before and after a whole file is put
use Rattle.std.specs.Prelude.{List, ◌≡◌, ℕ, ◌+◌, ◌*◌, ◌/◌, ◌%◌, ◌<◌, ◌≤◌, length, get_or}
use Rattle.stations.specs.Sets.{Set, ◌is_in◌, size}
use Rattle.records.specs.Bytes.{short, Kept}
use Rattle.records.specs.Survey.{Mark, version, stations, records, serial, links, link_count}

abbrev pub Laid : ℕ → Set → (ℕ → ℕ) → (ℕ → ℕ) → ℕ → List ℕ → Type 0
Laid N s lo hi at bs = (x : ℕ) → x < N → x is_in s → (short bs (at + size x s * 4) ≡ lo x) × (short bs (at + size x s * 4 + 2) ≡ hi x)

pub record Put (N : ℕ) (s : Set) (lo hi : ℕ → ℕ) (at r : ℕ) (bs bs' : List ℕ) : Type 0 where
  pub next : r ≡ at + size N s * 4
  pub kept : Kept at bs bs'
  pub laid : Laid N s lo hi at bs'

-- the mark, the version and the two counts
pub record HeadPut (n m : ℕ) (bs bs' : List ℕ) : Type 0 where
  pub whole : length bs' ≡ length bs
  pub mark : Mark bs'
  pub one : version bs' ≡ 1
  pub stations_are : stations bs' ≡ n
  pub records_are : records bs' ≡ m

pub record SerialsPut (n : ℕ) (serials bs bs' : List ℕ) : Type 0 where
  pub kept : Kept 9 bs bs'
  pub each : (i : ℕ) → i < n → serial 4 bs' i ≡ get_or serials i 0

-- every link of the table, as the number a * 256 + b
abbrev pub LinksPut : ℕ → List ℕ → ℕ → ℕ → List ℕ → List ℕ → Type 0
LinksPut n t at r bs bs' = Put (n * 256) (links t) (λ x. x / 256) (λ x. x % 256) at r bs bs'

-- and all of them stand behind the serials
abbrev pub AllLinksPut : ℕ → List ℕ → List ℕ → List ℕ → Type 0
AllLinksPut n t bs bs' = LinksPut n t (9 + n * 4) (9 + n * 4 + link_count n t * 4) bs bs'

pub record Ready (n m : ℕ) (serials t : List ℕ) (room : ℕ) : Type 0 where
  pub all_serials : length serials ≡ n
  pub counted : m ≡ link_count n t
  pub most : m ≤ 8192
  pub exact : room ≡ 9 + n * 4 + m * 4

pub record FilePut (n m : ℕ) (serials t bs bs' : List ℕ) : Type 0 where
  pub head : HeadPut n m bs bs'
  pub serials_are : (i : ℕ) → i < n → serial 4 bs' i ≡ get_or serials i 0
  pub links_are : Laid (n * 256) (links t) (λ x. x / 256) (λ x. x % 256) (9 + n * 4) bs'
