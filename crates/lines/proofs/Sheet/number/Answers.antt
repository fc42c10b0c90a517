use mathlib.Core.List.{List}
use mathlib.Core.Path.{◌∙◌, subst}
use Prim.Native.Nat.{ℕ}
use Rattle.lines.specs.Sheets.{Put}
use Rattle.lines.proofs.Decimal.{decimal_is, few_digits}
use Rattle.lines.proofs.Sheet.number.Goals as goal

pub returns : goal.returns
returns c =
    let d = c.decimal-count.ensures in
    subst (λ (w : List ℕ). Put w c.args.self.now c.text.new.self) (d.digits ∙ decimal_is c.args.x c.decimal-count.result (few_digits c.args.x c.decimal-count.result c.ranges.x.fits d.len) d.len) c.text.ensures
