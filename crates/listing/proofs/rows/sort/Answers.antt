use borrow.Author.Rules.{rules}
use Rattle.listing.proofs.Sorting.{sort_none, sort_one}
use Rattle.listing.proofs.rows.sort.Goals as goal

pub loop-i-init : goal.loop-i-init
loop-i-init c = (search rules, search rules, sort_none _ _ c.requires.1)

pub loop-i-preserved : goal.loop-i-preserved
loop-i-preserved c = (search rules, search rules, sort_one c.loop-i.invariant.2 (search rules) _ c.insert.ensures)
