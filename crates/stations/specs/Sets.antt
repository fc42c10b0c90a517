-- Sets of stations. A set says of each number whether that station is in it.
--   x is_in s, x not_in s       station x is in the set, or is not
--   s part_of t                 every station of s is one of t
--   Below n s                   every station of s is below n
--   none, only a, stations n    no station, the station a, the stations 0 to n - 1
--   s joined t, s cut t, s without t
--   size n s                    how many stations below n the set has
--   Before s t                  s comes before t in the order of sets
use Rattle.std.specs.Prelude.{◌≡◌, Bool, true, false, not, ◌&&◌, ◌||◌, ℕ, zero, suc, ◌+◌, ◌<◌, eqb, ltb}

abbrev pub Set : Type 0
Set = ℕ → Bool

infix 50 ◌is_in◌
abbrev pub ◌is_in◌ : ℕ → Set → Type 0
x is_in s = s x ≡ true

infix 50 ◌not_in◌
abbrev pub ◌not_in◌ : ℕ → Set → Type 0
x not_in s = s x ≡ false

infix 50 ◌part_of◌
abbrev pub ◌part_of◌ : Set → Set → Type 0
s part_of t = (x : ℕ) → x is_in s → x is_in t

abbrev pub Below : ℕ → Set → Type 0
Below n s = (x : ℕ) → x is_in s → x < n

abbrev pub none : Set
none x = false

-- rule S1: the stations of a mesh of n
abbrev pub stations : ℕ → Set
stations n x = ltb x n

abbrev pub only : ℕ → Set
only a x = eqb x a

infixl 60 ◌without◌
abbrev pub ◌without◌ : Set → Set → Set
(s without t) x = s x && not (t x)

infixl 60 ◌cut◌
abbrev pub ◌cut◌ : Set → Set → Set
(s cut t) x = s x && t x

infixl 60 ◌joined◌
abbrev pub ◌joined◌ : Set → Set → Set
(s joined t) x = s x || t x

abbrev pub one_if : Bool → ℕ
one_if true = 1
one_if false = 0

-- rule S3: how many stations below n the set has
unfoldable pub size : ℕ → Set → ℕ
size zero s = 0
size (suc n) s = one_if (s n) + size n s

-- rule M6: `at` is the smallest station in which the two differ, and s has it
pub record Before (s t : Set) : Type 0 where
  pub at : ℕ
  pub mine : at is_in s
  pub theirs : at not_in t
  pub alike : (x : ℕ) → x < at → s x ≡ t x
