use Rattle.lines.proofs.Adding.{put_then}
use Rattle.lines.proofs.Sheet.first.Goals as goal

pub returns-clause-put : goal.returns-clause-put
returns-clause-put c = put_then (put_then (put_then c.labelled.ensures.put c.labelled-2.ensures.put) c.labelled-3.ensures.put) c.text.ensures
