-- What the questions about sets answer.
use Rattle.std.specs.Prelude.{Bool, true, false, List, [], ◌≡◌, ℕ, ◌<◌, length, Option, Some, None}
use Rattle.std.specs.Borrow.{Bor}
use Rattle.stations.specs.Sets.{Set, ◌is_in◌, ◌not_in◌, ◌without◌, only, Before}
use Rattle.stations.specs.Words.{bit, has}

-- j is the smallest station of the set
pub record Least (s : Set) (j : ℕ) : Type 0 where
  pub small : j < 256
  pub mine : j is_in s
  pub below : (x : ℕ) → x < j → x not_in s

-- the smallest station, or none
abbrev pub FirstOf : Set → Option ℕ → Type 0
FirstOf s (Some j) = Least s j
FirstOf s None = (x : ℕ) → x not_in s

-- j is the smallest station of s, and t has the others
pub record Taken (s : Set) (j : ℕ) (t : Set) : Type 0 where
  pub least : Least s j
  pub rest : (x : ℕ) → t x ≡ (s without only j) x

-- the smallest station taken out of s, which leaves t; or none, of no station
abbrev pub Popped : Set → Option ℕ → Set → Type 0
Popped s (Some j) t = Taken s j t
Popped s None t = ((x : ℕ) → x not_in s) × ((x : ℕ) → x not_in t)

-- k is the lowest set bit of the word w, and w' has the others
pub record BitTaken (w k w' : ℕ) : Type 0 where
  pub small : k < 64
  pub mine : bit w k ≡ true
  pub below : (j : ℕ) → j < k → bit w j ≡ false
  pub rest : (j : ℕ) → bit w' j ≡ (bit w without only k) j

-- the lowest set bit taken out of w, which leaves w'; or none, of a word without one
abbrev pub BitPopped : ℕ → Option ℕ → ℕ → Type 0
BitPopped w (Some k) w' = BitTaken w k w'
BitPopped w None w' = ((j : ℕ) → bit w j ≡ false) × ((j : ℕ) → bit w' j ≡ false)

-- the set is empty, as r says
pub record Emptiness (s : Set) (r : Bool) : Type 0 where
  pub nobody : r ≡ true → (x : ℕ) → x not_in s
  pub somebody : r ≡ false → ((x : ℕ) → x not_in s) → ⊥

-- the two sets have the same stations, as r says
pub record Sameness (s t : Set) (r : Bool) : Type 0 where
  pub same : r ≡ true → (x : ℕ) → s x ≡ t x
  pub other : r ≡ false → ((x : ℕ) → s x ≡ t x) → ⊥

-- s comes before t, as r says
pub record Order (s t : Set) (r : Bool) : Type 0 where
  pub before : r ≡ true → Before s t
  pub after : r ≡ false → Before s t → ⊥

-- The order question, rules O1 to O3. x, y and r are references: where r is said to be x or y, it is the caller's own slice, and a part with no word
-- begins where x does.
pub record FirstRow (x y r : Bor (List ℕ)) : Type 0 where
  pub short : (length x.now ≡ 4 → length y.now ≡ 4 → ⊥) → (r.now ≡ []) × (r.ref_ptr ≡ x.ref_ptr)
  pub second : length x.now ≡ 4 → length y.now ≡ 4 → Before (has y.now) (has x.now) → r ≡ y
  pub first : length x.now ≡ 4 → length y.now ≡ 4 → (Before (has y.now) (has x.now) → ⊥) → r ≡ x
