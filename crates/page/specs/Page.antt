-- THE PAGE of the night list. Rules N1 to N4.
--   group_lines k serials Q g       the lines of the groups Q 0 to Q (g - 1) of level k
--   Levels L n serials h lines      the lines of the levels 1 to h, each of which has a group
--   Last L n h                      h is the last level with a group, or 16
--   survey_order bs                 the tests of a survey that is printed
--   Page bs text                    the text is the page of the survey bs
--   OnPage line page                the line stands on the page, as a line of its own
--   NamedOn .. k serials s page     the line of the group s of level k does, with the place that the group has in the level's list
use Rattle.std.specs.Prelude.{List, [], ◌∷◌, ◌++◌, ◌⊎◌, ◌≡◌, ℕ, zero, suc, ◌<◌}
use Rattle.stations.specs.Sets.{Set}
use Rattle.mesh.specs.Mesh.{Links, Group, Listed}
use Rattle.mesh.specs.Table.{linked}
use Rattle.card.specs.Card.{Test, FirstFailing}
use Rattle.records.specs.Lines.{MARK, VERSION, COUNT, LENGTH, SERIAL, LINK}
use Rattle.records.specs.Survey.{Survey, stations, records}
use Rattle.lines.specs.Lines.{text, Line, first_line, group_line, last_line, refused_line}

unfoldable pub group_lines : ℕ → List ℕ → (ℕ → Set) → ℕ → List ℕ
group_lines k serials Q zero = []
group_lines k serials Q (suc g) = group_lines k serials Q g ++ group_line k (suc g) serials (Q g)

-- rule N3: level by level from 1, the groups of each as its list has them
pub data Levels (L : Links) (n : ℕ) (serials : List ℕ) : ℕ → List ℕ → Type 0 where
  no_level : Levels L n serials 0 []
  next_level : {h : ℕ} {lines : List ℕ} → Levels L n serials h lines → (g : ℕ) (Q : ℕ → Set) → 0 < g → Listed L n (suc h) g Q
      → Levels L n serials (suc h) (lines ++ group_lines (suc h) serials Q g)

-- rule N3: the next level has no group, or 16 is done
abbrev pub Last : Links → ℕ → ℕ → Type 0
Last L n h = (h ≡ 16) ⊎ ((h < 16) × ((s : Set) → ¬ Group L n (suc h) s))

-- the reader's order, where there is room for every survey
abbrev pub survey_order : List ℕ → List Test
survey_order bs = MARK bs ∷ VERSION bs ∷ COUNT bs ∷ LENGTH bs ∷ SERIAL (stations bs) bs ∷ LINK (stations bs) (records bs) bs ∷ []

-- Rule N4: the page of a refused survey is one line. No level is ever refused by 15 (card: rows_pass), so the line `refused 15` is on no page.
pub data Page (bs : List ℕ) : List ℕ → Type 0 where
  refused : (r : ℕ) → FirstFailing (survey_order bs) r → 0 < r → Page bs (refused_line r)
  listed : {v n m h : ℕ} {serials table lines : List ℕ} → FirstFailing (survey_order bs) 0 → Survey v n m serials table bs
      → Levels (linked table) n serials h lines → Last (linked table) n h → Page bs (first_line v n m ++ lines ++ last_line h)

-- nothing, or something that ends with a line break
abbrev pub Ended : List ℕ → Type 0
Ended x = (x ≡ []) ⊎ ((y : List ℕ) × (x ≡ y ++ text "\n"))

-- A line begins where the page does or behind a line break, and ends with a line break, its only one. So `1 1 101` is not on a page that has `11 1 101`
-- (Named: not_inside).
pub record OnPage (line page : List ℕ) : Type 0 where
  pub one_line : Line line
  pub before : List ℕ
  pub after : List ℕ
  pub begins : Ended before
  pub is : page ≡ before ++ line ++ after

pub record NamedOn (L : Links) (n k : ℕ) (serials : List ℕ) (s : Set) (page : List ℕ) : Type 0 where
  pub count : ℕ
  pub list : ℕ → Set
  pub listed : Listed L n k count list
  pub place : ℕ
  pub inside : place < count
  pub is : s ≡ list place
  -- places are counted from 1 on the page
  pub line : OnPage (group_line k (suc place) serials s) page
