use Rattle.writer.proofs.File.{serials_more}
use Rattle.writer.proofs.put.put_serials.Goals as goal

pub loop-i-preserved : goal.loop-i-preserved
loop-i-preserved c = serials_more _ c.loop-i.invariant c.put_long.ensures.0 c.put_long.ensures.1
