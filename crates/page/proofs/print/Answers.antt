use mathlib.Core.Path.{refl}
use Rattle.page.proofs.Reading.{page_read, page_refused}
use Rattle.page.proofs.print.Goals as goal

pub returns-in-Ok : goal.returns-in-Ok
returns-in-Ok c = page_read refl refl c.in-Ok.ensures c.requires c.print.ensures

pub returns-in-Err : goal.returns-in-Err
returns-in-Err c = page_refused refl refl c.in-Err.ensures c.from.ensures c.requires c.refused.ensures.put c.refused.ensures.end
