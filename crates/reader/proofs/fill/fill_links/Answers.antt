use Rattle.reader.proofs.Filling.{filled_more}
use Rattle.reader.proofs.fill.fill_links.Goals as goal

pub loop-j-preserved : goal.loop-j-preserved
loop-j-preserved c = filled_more c.loop-j.invariant _ _ c.link-a.ensures.0 c.link-a.ensures.1 c.put_link.ensures c.put_link-in-loop-j.ensures
