use mathlib.Core.List.{List}
use mathlib.Core.Path.{◌≡◌, ◌∙◌, subst}
use Prim.Native.Nat.{ℕ}
use lib.ListN.{length}
use Rattle.stations.specs.Words.{has, words}
use Rattle.stations.specs.Answers.{Order}
use Rattle.stations.proofs.Laws.{row_whole}
use Rattle.stations.proofs.Replies.{row_first, row_second}
use Rattle.stations.proofs.first_row.Goals.{After-before-2}
use Rattle.stations.proofs.first_row.Goals as goal

-- what is known once the two rows are read and compared
module _ (c : After-before-2) where
  abbrev x : List ℕ
  x = c.args.x.now

  abbrev y : List ℕ
  y = c.args.y.now

  long_x : length x ≡ 4
  long_x = c.if-x-ne4.false

  long_y : length y ≡ 4
  long_y = c.if-y-ne4.false

  mine : words c.of_row-u.result ≡ x
  mine = c.of_row-u.ensures ∙ row_whole x long_x

  theirs : words c.of_row-v.result ≡ y
  theirs = c.of_row-v.ensures ∙ row_whole y long_y

  order : Order (has y) (has x) c.before-2.result
  order =
      subst (λ (p : List ℕ). Order (has p) (has x) c.before-2.result) theirs
      (subst (λ (q : List ℕ). Order (has (words c.of_row-v.result)) (has q) c.before-2.result) mine c.before-2.ensures)

pub returns-then-before : goal.returns-then-before
returns-then-before c =
    let e = (goal.at.returns-then-before c).After-before-2 in
    row_second _ _ (long_x e) (long_y e) ((order e).before c.if-before.true)

pub returns-else-before : goal.returns-else-before
returns-else-before c =
    let e = (goal.at.returns-else-before c).After-before-2 in
    row_first _ _ (long_x e) (long_y e) ((order e).after c.if-before.false)
