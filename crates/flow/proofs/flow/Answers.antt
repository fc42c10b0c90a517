use Rattle.flow.proofs.Outcome.{first_many, held_first, held_start, held_more, held_solved, held_many}
use Rattle.flow.proofs.flow.Goals as goal

pub returns-then-limit-alone : goal.returns-then-limit-alone
returns-then-limit-alone c = let a = c.args in
    first_many a.table.now a.inner a.starts a.ends c.cut-first.result (λ w. simp (c.cut-first.ensures, c.cut.ensures)) (rw c.size-alone.ensures at c.if-limit-alone.true)

pub loop-chains-init : goal.loop-chains-init
loop-chains-init c = let a = c.args in rw c.size-alone.ensures (held_first a.table.now a.inner a.starts a.ends c.cut-first.result (λ w. simp (c.cut-first.ensures, c.cut.ensures)) c.idle.ensures)

pub turn-start-requires : goal.turn-start-requires
turn-start-requires c = held_start c.loop-chains.invariant c.in-Ok.ensures.told

pub loop-chains-preserved : goal.loop-chains-preserved
loop-chains-preserved c = held_more c.loop-chains.invariant c.in-Ok.ensures.told c.turn-start.ensures c.with-first.ensures

pub returns-in-Err : goal.returns-in-Err
returns-in-Err c = held_solved c.loop-chains.invariant c.loop-chains-test.true c.in-Err.ensures.told

pub returns : goal.returns
returns c = held_many c.loop-chains.invariant c.loop-chains-test.false
