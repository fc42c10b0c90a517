-- The table of small meshes of docs/RULES.md (X1): its rows marked P as questions and replies, and what each states. One result,
-- `shown` of proofs/Shown, shows them all from the definitions.
use Rattle.std.specs.Prelude.{false, ◌&&◌, ◌||◌, List, [], ◌∷◌, ℕ, zero, suc, eqb, length}
use Rattle.stations.specs.Sets.{Set, none, stations}
use Rattle.mesh.specs.Mesh.{Links, Listed, HOLDS, FEW, WEAK, Answers}
use Rattle.mesh.specs.Standing.{Standing}

-- the set of the stations in a list
unfoldable pub set_of : List ℕ → Set
set_of [] x = false
set_of (a ∷ l) x = let r = set_of l x in eqb x a || r

-- a link, written with its two stations
infix 70 ◌–◌
pub data Link : Type 0 where
  ◌–◌ : ℕ → ℕ → Link

unfoldable pub links_of : List Link → Links
links_of [] a b = false
links_of (c – d ∷ l) a b = let r = links_of l a b in (eqb a c && eqb b d) || (eqb a d && eqb b c) || r

-- the rows of a list
unfoldable pub row_of : List (List ℕ) → ℕ → Set
row_of [] i = none
row_of (l ∷ ls) zero = set_of l
row_of (l ∷ ls) (suc i) = row_of ls i

-- a line of the table: n stations, the links, a level k, and the reply:
-- that of the holding question for the whole mesh (a weak set as a list of its stations), or the list of groups; or a station a and its standing v
pub data Line : Type 0 where
  holds few : (n : ℕ) → List Link → (k : ℕ) → Line
  weak : (n : ℕ) → List Link → (k : ℕ) → List ℕ → Line
  groups : (n : ℕ) → List Link → (k : ℕ) → List (List ℕ) → Line
  stands : (n : ℕ) → List Link → (a v : ℕ) → Line

-- what a line states
unfoldable pub Right : Line → Type 0
Right (holds n ls k) = Answers (links_of ls) n k (stations n) HOLDS
Right (few n ls k) = Answers (links_of ls) n k (stations n) FEW
Right (weak n ls k p) = Answers (links_of ls) n k (stations n) (WEAK (set_of p))
Right (groups n ls k gs) = Listed (links_of ls) n k (length gs) (row_of gs)
Right (stands n ls a v) = Standing (links_of ls) n a v

unfoldable pub All : List Line → Type 0
All [] = Unit {0}
All (l ∷ ls) = Right l × All ls

unfoldable pub five : List Link
five = 0 – 1 ∷ 0 – 2 ∷ 1 – 2 ∷ 2 – 3 ∷ 2 – 4 ∷ 3 – 4 ∷ []

unfoldable pub ring : List Link
ring = 0 – 1 ∷ 1 – 2 ∷ 2 – 3 ∷ 3 – 4 ∷ 4 – 5 ∷ 5 – 0 ∷ []

unfoldable pub four : List Link
four = 0 – 1 ∷ 0 – 2 ∷ 0 – 3 ∷ 1 – 2 ∷ 1 – 3 ∷ 2 – 3 ∷ []

unfoldable pub fours : List Link
fours = 0 – 1 ∷ 0 – 2 ∷ 0 – 3 ∷ 1 – 2 ∷ 1 – 3 ∷ 2 – 3 ∷ 2 – 4 ∷ 2 – 5 ∷ 3 – 4 ∷ 3 – 5 ∷ 4 – 5 ∷ []

-- all but 0 – 1, 2 – 3, 4 – 5
unfoldable pub six : List Link
six = 0 – 2 ∷ 0 – 3 ∷ 0 – 4 ∷ 0 – 5 ∷ 1 – 2 ∷ 1 – 3 ∷ 1 – 4 ∷ 1 – 5 ∷ 2 – 4 ∷ 2 – 5 ∷ 3 – 4 ∷ 3 – 5 ∷ []

unfoldable pub triangles : List Link
triangles = 0 – 1 ∷ 0 – 2 ∷ 1 – 2 ∷ 2 – 3 ∷ 2 – 4 ∷ 3 – 4 ∷ 4 – 5 ∷ 4 – 6 ∷ 5 – 6 ∷ []

unfoldable pub table : List Line
table =
    groups 0 [] 1 [] ∷
    few 1 [] 1 ∷
    groups 2 (0 – 1 ∷ []) 1 ((0 ∷ 1 ∷ []) ∷ []) ∷
    weak 3 [] 1 [] ∷
    groups 5 five 2 ((0 ∷ 1 ∷ 2 ∷ []) ∷ (2 ∷ 3 ∷ 4 ∷ []) ∷ []) ∷
    weak 5 five 2 (2 ∷ []) ∷
    weak 6 ring 3 (0 ∷ 2 ∷ []) ∷
    holds 4 four 3 ∷
    few 4 four 4 ∷
    groups 6 fours 3 ((0 ∷ 1 ∷ 2 ∷ 3 ∷ []) ∷ (2 ∷ 3 ∷ 4 ∷ 5 ∷ []) ∷ []) ∷
    holds 6 six 4 ∷
    weak 6 six 5 (0 ∷ 1 ∷ 2 ∷ 3 ∷ []) ∷
    -- not marked P: dividing once leaves 2, 3, 4, 5, 6 together
    groups 7 triangles 2 ((0 ∷ 1 ∷ 2 ∷ []) ∷ (2 ∷ 3 ∷ 4 ∷ []) ∷ (4 ∷ 5 ∷ 6 ∷ []) ∷ []) ∷
    -- standings: each of the five is in a group at 2 and in none at 3, two linked stations stand at 1, and a station alone is in no group
    stands 5 five 0 2 ∷
    stands 5 five 1 2 ∷
    stands 5 five 2 2 ∷
    stands 5 five 3 2 ∷
    stands 5 five 4 2 ∷
    stands 2 (0 – 1 ∷ []) 0 1 ∷
    stands 1 [] 0 0 ∷
    []
