use mathlib.Core.Path.{◌∙◌}
use native.Mathlib.Omega.{arith}
use Rattle.records.proofs.Fields.{kept_trans, short_kept}
use Rattle.writer.proofs.put.put_link.Goals as goal

pub returns : goal.returns
returns c = let p = c.put_short.ensures in
    let q = c.put_short-2.ensures in
    (kept_trans p.0 q.0 (omega arith), short_kept _ q.0 (omega arith) ∙ p.1, q.1)
