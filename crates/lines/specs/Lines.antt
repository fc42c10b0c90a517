-- THE LINES of the night list, as bytes. Rules N2 and N4.
--   text s                          the bytes of a quoted text
--   decimal x                       a number in decimal
--   labelled s x                    a text and a number behind it
--   first_line v n m                the mark, the version, how many stations and links
--   group_line k place serials s    the level, the place in its list, the serials of the stations of s, rising
--   last_line k                     the last level that has a group
--   refused_line r                  the one line of a refused survey
--   Line bs                         bytes up to a line break, the only one
--   Added at r new bs bs'           bs became bs' by the bytes `new` from byte `at` on, and r is the place after them
use Rattle.std.specs.Prelude.{Bool, true, false, cond, List, [], ◌∷◌, ◌++◌, ◌≢◌, ◌≡◌, ℕ, zero, suc, ◌+◌, ◌/◌, ◌%◌, ltb, length, get_or, take, drop}
use Prim.Native.Char.{code}
use Prim.Native.String.{String, len, char_at}
use Rattle.stations.specs.Sets.{Set}

abbrev pub codes : ℕ → ℕ → String → List ℕ
codes zero i s = []
codes (suc more) i s = code (char_at s i) ∷ codes more (suc i) s

abbrev pub text : String → List ℕ
text s = codes (len s) 0 s

-- the digit's byte
abbrev pub digit : ℕ → ℕ
digit d = 48 + d

-- the number in decimal, with no zero in front; up to so many digits behind the first
unfoldable pub decimal_in : ℕ → ℕ → List ℕ
decimal_in zero x = digit x ∷ []
decimal_in (suc more) x = cond (ltb x 10) (digit x ∷ []) (decimal_in more (x / 10) ++ (digit (x % 10) ∷ []))

-- a 64-bit number has at most 20 digits
abbrev pub decimal : ℕ → List ℕ
decimal x = decimal_in 19 x

-- a text and a number behind it
abbrev pub labelled : String → ℕ → List ℕ
labelled s x = text s ++ decimal x

abbrev pub serial_if : Bool → ℕ → List ℕ
serial_if true x = labelled " " x
serial_if false x = []

-- the serials of the stations of a set among the stations 0 to n - 1, rising, each behind a space
unfoldable pub serials_of : ℕ → List ℕ → Set → List ℕ
serials_of zero serials s = []
serials_of (suc n) serials s = serials_of n serials s ++ serial_if (s n) (get_or serials n 0)

abbrev pub first_line : ℕ → ℕ → ℕ → List ℕ
first_line v n m = labelled "RLM " v ++ labelled " stations " n ++ labelled " links " m ++ text "\n"

abbrev pub group_line : ℕ → ℕ → List ℕ → Set → List ℕ
group_line k place serials s = decimal k ++ labelled " " place ++ serials_of (length serials) serials s ++ text "\n"

abbrev pub last_line : ℕ → List ℕ
last_line k = labelled "end " k ++ text "\n"

abbrev pub refused_line : ℕ → List ℕ
refused_line r = labelled "refused " r ++ text "\n"

-- no byte of it is a line break
abbrev pub Unbroken : List ℕ → Type 0
Unbroken [] = Unit {0}
Unbroken (b ∷ bs) = (b ≢ 10) × Unbroken bs

pub record Line (bs : List ℕ) : Type 0 where
  pub words : List ℕ
  pub unbroken : Unbroken words
  pub is : bs ≡ words ++ text "\n"

pub record Added (at r : ℕ) (new bs bs' : List ℕ) : Type 0 where
  pub next : r ≡ at + length new
  pub front : take r bs' ≡ take at bs ++ new
  pub beyond : drop r bs' ≡ drop r bs
  pub long : length bs' ≡ length bs
