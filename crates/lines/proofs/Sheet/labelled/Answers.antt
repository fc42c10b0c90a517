use native.Mathlib.Omega.{arith}
use Rattle.lines.proofs.Adding.{put_then}
use Rattle.lines.proofs.Decimal.{decimal_most}
use Rattle.lines.proofs.Sheet.labelled.Goals as goal

pub returns-clause-put : goal.returns-clause-put
returns-clause-put c = put_then c.text.ensures c.number.ensures

pub returns-clause-end : goal.returns-clause-end
returns-clause-end c = omega (arith, decimal_most 19 c.args.x)
