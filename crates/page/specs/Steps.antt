-- What the steps of the page ask and say.
--   Fit, LevelPut    before and after the lines of a level
--   LevelsPut        after the lines of all levels
--   SurveyPut        after the page of an accepted survey
--   PagePut          after the whole page
use Rattle.std.specs.Prelude.{List, ◌++◌, ℕ, zero, suc, ◌+◌, ◌*◌, ◌≤◌, length}
use Rattle.stations.specs.Sets.{size}
use Rattle.mesh.specs.Table.{linked}
use Rattle.mesh.proofs.Bound.{total}
use Rattle.listing.specs.List.{set_at}
use Rattle.lines.specs.Lines.{first_line, last_line}
use Rattle.lines.specs.Sheets.{Room, Put}
use Rattle.lines.specs.declared.Sheet.{Sheet}
use Rattle.page.specs.Page.{group_lines, Levels, Last, Page}

-- the most bytes of the line of row i
abbrev pub line_room : List ℕ → ℕ → ℕ
line_room l i = 7 + size 256 (set_at l i) * 11

pub record Fit (k : ℕ) (l : List ℕ) (g : ℕ) (p : Sheet) : Type 0 where
  pub level : k ≤ 16
  pub most : g ≤ 128
  pub rows : g * 4 ≤ length l
  pub room : Room (total g (line_room l) + 60) p

pub record LevelPut (k : ℕ) (serials l : List ℕ) (g : ℕ) (p q : Sheet) : Type 0 where
  pub put : Put (group_lines k serials (set_at l) g) p q
  pub end : q.at ≤ p.at + total g (line_room l)

-- the most bytes of the lines of the levels 1 to h: a level has at most 128 groups, and k + 2 times as many stations in them
unfoldable pub levels_room : ℕ → ℕ
levels_room zero = 0
levels_room (suc h) = levels_room h + (3712 + 1408 * suc h)

pub record LevelsPut (n : ℕ) (t serials : List ℕ) (h : ℕ) (p q : Sheet) : Type 0 where
  pub lines : List ℕ
  pub levels : Levels (linked t) n serials h lines
  pub put : Put lines p q
  pub end : q.at ≤ p.at + levels_room h

pub record SurveyPut (v n m : ℕ) (t serials : List ℕ) (p q : Sheet) : Type 0 where
  pub top : ℕ
  pub lines : List ℕ
  pub levels : Levels (linked t) n serials top lines
  pub last : Last (linked t) n top
  pub put : Put (first_line v n m ++ lines ++ last_line top) p q
  pub end : q.at ≤ p.at + 262144

pub record PagePut (bs : List ℕ) (p q : Sheet) : Type 0 where
  pub text : List ℕ
  pub page_is : Page bs text
  pub put : Put text p q
  pub inside : q.at ≤ length q.bytes.now
