use mathlib.Core.Path.{refl}
use native.Mathlib.Omega.{arith}
use Rattle.lines.proofs.Adding.{copied}
use Rattle.lines.proofs.Sheet.text.Goals as goal

pub returns : goal.returns
returns c = record {
  same = refl;
  added = copied c.args.self.now.at _ c.args.words.now _ c.args.self.now.bytes.now c.copy_from_slice.ensures.after (omega arith) c.requires;
}
