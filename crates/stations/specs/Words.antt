-- A set of stations as words: four words of 64 bits, and a table with such a row for each station.
--   has ws j        is station j in the set of these words?
--   words s         the four words of a station set by value
--   members s       the same as a set
--   row t i         the row i of a table, four words to a row
use Rattle.std.specs.Prelude.{Bool, List, [], ◌∷◌, ℕ, ◌+◌, ◌*◌, ◌/◌, ◌%◌, ◌^◌, eqb, get_or, set}
use Rattle.stations.specs.Sets.{Set}
use Rattle.stations.specs.declared.StationSet.{StationSet}

-- bit k of the word w
unfoldable pub bit : ℕ → ℕ → Bool
bit w k = eqb (w / 2 ^ k % 2) 1

-- rule S2: 64 stations to a word, the lowest bit for the lowest
unfoldable pub has : List ℕ → Set
has ws j = bit (get_or ws (j / 64) 0) (j % 64)

abbrev pub words : StationSet → List ℕ
words s = s.a ∷ s.b ∷ s.c ∷ s.d ∷ []

abbrev pub members : StationSet → Set
members s = has (words s)

abbrev pub row : List ℕ → ℕ → List ℕ
row t i = get_or t (i * 4) 0 ∷ get_or t (i * 4 + 1) 0 ∷ get_or t (i * 4 + 2) 0 ∷ get_or t (i * 4 + 3) 0 ∷ []

-- the table t with the words a b c d for its row i
abbrev pub put_row : List ℕ → ℕ → ℕ → ℕ → ℕ → ℕ → List ℕ
put_row t i a b c d = set (set (set (set t (i * 4) a) (i * 4 + 1) b) (i * 4 + 2) c) (i * 4 + 3) d
