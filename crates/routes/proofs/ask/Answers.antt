use mathlib.Core.Path.{sym, ◌∙◌}
use borrow.Author.Rules.{rules}
use Rattle.routes.proofs.Laws.{counted}
use Rattle.routes.proofs.ask.Goals as goal

pub returns : goal.returns
returns c = let m = c.args.mesh in
    counted m.n m.table.now c.args.a c.args.b m.accepted c.requires.a_in c.requires.b_in c.requires.differ c.stations.result c.stations.ensures
    (sym (c.links.ensures c.args.b) ∙ sym c.has.ensures ∙ c.if-has.false) c.between-fewer.result c.between-fewer.ensures c.map_or-most.result (search rules)
