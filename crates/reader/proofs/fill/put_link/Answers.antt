use lib.ListN.{length-set}
use Rattle.reader.proofs.Put.{link_put}
use Rattle.reader.proofs.fill.put_link.Goals as goal

pub returns : goal.returns
returns c = record { whole = length-set c.args.table.now _ _; law = link_put c.args.table.now c.args.a c.args.b c.requires.0 c.requires.1 }
