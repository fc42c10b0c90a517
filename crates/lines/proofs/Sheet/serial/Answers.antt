use native.Mathlib.Omega.{arith}
use Rattle.lines.proofs.Decimal.{decimal_length}
use Rattle.lines.proofs.Sheet.serial.Goals as goal

pub returns-clause-end : goal.returns-clause-end
returns-clause-end c = omega (arith, decimal_length 19 c.from.result 9 (omega (arith, c.from.ensures)))
