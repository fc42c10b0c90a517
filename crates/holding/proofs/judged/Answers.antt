use Rattle.card.proofs.Card.{exit_is}
use Rattle.holding.proofs.Laws.{judged_reply, judged_refused}
use Rattle.holding.proofs.judged.Goals as goal

pub returns-in_err-asked : goal.returns-in_err-asked
returns-in_err-asked c = let a = c.args in
    rw (exit_is _ _ c.from_residual.ensures.1) (judged_refused a.n a.table.now a.k a.set.now _ c.in_err-asked.ensures.refused)

pub returns : goal.returns
returns c = let a = c.args in
    let s = c.in_ok-asked.ensures.same in
    rw c.alone-brief.ensures (judged_reply a.n a.table.now a.k a.set.now c.in_ok-asked.ensures.refused c.in_ok-asked.asked.stations s.1 c.judge.result (rw s.0 at c.judge.ensures))
