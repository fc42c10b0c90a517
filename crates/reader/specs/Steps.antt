-- What the steps of the reader ask and say.
--   Heads bs h           the head of the bytes says h, and they are as many as it asks for
--   Accepted bs n m      the bytes passed every test
--   SerialsFilled        the serials stand in their buffer
--   LinkPut t a b t'     t' is the table t with b in the row of a
--   Filled bs n j t      the table t has the links of the first j records, and no other
use Rattle.std.specs.Prelude.{true, ◌&&◌, ◌||◌, List, ◌⊎◌, ◌≡◌, ℕ, ◌+◌, ◌*◌, ◌<◌, ◌≤◌, eqb, length, get_or}
use Rattle.mesh.specs.Table.{linked}
use Rattle.records.specs.Survey.{Frame, Serials, Pairs, stations, records, serial, low, high}
use Rattle.reader.specs.declared.Heading.{Heading}

pub record Heads (bs : List ℕ) (h : Heading) : Type 0 where
  pub one : h.version ≡ 1
  pub stations_are : h.stations ≡ stations bs
  pub records_are : h.links ≡ records bs
  pub few : h.stations ≤ 256
  pub most : h.links ≤ 8192
  pub whole : length bs ≡ 9 + h.stations * 4 + h.links * 4

pub record Accepted (bs : List ℕ) (n m : ℕ) : Type 0 where
  pub few : n ≤ 256
  pub frame : Frame 1 4 n m bs
  pub serials_right : Serials n (serial 4 bs)
  pub pairs_right : Pairs n m (low 4 n bs) (high 4 n bs)

pub record SerialsFilled (bs : List ℕ) (i : ℕ) (serials serials' : List ℕ) : Type 0 where
  pub whole : length serials' ≡ length serials
  pub each : (k : ℕ) → k < i → get_or serials' k 0 ≡ serial 4 bs k

pub record LinkPut (t : List ℕ) (a b : ℕ) (t' : List ℕ) : Type 0 where
  pub whole : length t' ≡ length t
  pub law : (x y : ℕ) → linked t' x y ≡ (linked t x y || (eqb x a && eqb y b))

-- record k is the link of x and y
abbrev pub Joins : List ℕ → ℕ → ℕ → ℕ → ℕ → Type 0
Joins bs n k x y = ((low 4 n bs k ≡ x) × (high 4 n bs k ≡ y)) ⊎ ((low 4 n bs k ≡ y) × (high 4 n bs k ≡ x))

pub record Filled (bs : List ℕ) (n j : ℕ) (t : List ℕ) : Type 0 where
  pub whole : length t ≡ n * 4
  pub each : (k x y : ℕ) → k < j → Joins bs n k x y → linked t x y ≡ true
  pub only : (x y : ℕ) → linked t x y ≡ true → (k : ℕ) × (k < j) × Joins bs n k x y
