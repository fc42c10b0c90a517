use mathlib.Core.Path.{◌∙◌}
use native.Mathlib.Omega.{arith}
use Rattle.records.proofs.Fields.{copied_kept, copied_long}
use Rattle.records.proofs.put_long.Goals as goal

pub returns : goal.returns
returns c = let bs = c.args.bytes.now in
    (copied_kept bs _ c.args.at _ (omega arith) (omega arith), copied_long bs _ c.args.at _ (omega arith) (omega arith) c.args.x (omega arith) (omega arith) (c.copy_from_slice.ensures.after ∙ c.to_le_bytes.ensures))
