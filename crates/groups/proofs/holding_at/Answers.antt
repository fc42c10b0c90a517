use native.Mathlib.Omega.{arith}
use Rattle.groups.proofs.Laws.{row_inside}
use Rattle.groups.proofs.holding_at.Goals as goal

pub returns : goal.returns
returns c = let s = c.args in
    row_inside s.n s.table.now s.k s.list.now s.i c.holding-2.result (omega (arith, c.if-list-i.false)) c.holding-2.ensures
