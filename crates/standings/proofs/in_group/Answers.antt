use borrow.Author.Rules.{rules}
use Rattle.standings.proofs.Laws.{asked, rows_room, told}
use Rattle.standings.proofs.in_group.Goals as goal

pub list_within-g-requires : goal.list_within-g-requires
list_within-g-requires c = asked c.args.mesh.n c.args.mesh.table.now c.args.a c.args.k c.args.mesh.accepted c.requires _ (search rules) c.stations.result c.stations.ensures

pub named-requires : goal.named-requires
named-requires c = rows_room c.args.mesh.n c.args.mesh.table.now c.args.a c.args.k c.args.mesh.accepted c.requires _ (search rules) c.stations.result c.stations.ensures c.list_within-g.new.list c.list_within-g.result c.list_within-g.ensures

pub returns : goal.returns
returns c = told c.args.mesh.n c.args.mesh.table.now c.args.a c.args.k c.args.mesh.accepted c.requires _ (search rules) c.stations.result c.stations.ensures c.list_within-g.new.list c.list_within-g.result c.list_within-g.ensures
    c.named.result c.named.ensures
