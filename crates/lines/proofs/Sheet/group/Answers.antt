use native.Mathlib.Omega.{arith}
use Rattle.lines.proofs.Adding.{put_then}
use Rattle.lines.proofs.Decimal.{decimal_length}
use Rattle.lines.proofs.Sheet.group.Goals as goal

pub labelled-requires : goal.labelled-requires
labelled-requires c = omega (arith, decimal_length 19 c.args.k 1 c.requires.0)

pub serials-requires : goal.serials-requires
serials-requires c = (c.requires.2, omega (arith, decimal_length 19 c.args.k 1 c.requires.0, decimal_length 19 c.args.place 2 c.requires.1))

pub text-requires : goal.text-requires
text-requires c = omega (arith, decimal_length 19 c.args.k 1 c.requires.0, decimal_length 19 c.args.place 2 c.requires.1)

pub returns-clause-put : goal.returns-clause-put
returns-clause-put c = put_then (put_then (put_then c.number.ensures c.labelled.ensures.put) c.serials.ensures.put) c.text.ensures

pub returns-clause-end : goal.returns-clause-end
returns-clause-end c = omega (arith, decimal_length 19 c.args.k 1 c.requires.0, decimal_length 19 c.args.place 2 c.requires.1)
