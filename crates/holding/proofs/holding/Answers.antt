use Rattle.card.proofs.Card.{exit_is}
use Rattle.holding.proofs.Laws.{replied, refused_reply}
use Rattle.holding.proofs.holding.Goals as goal

pub returns-in_err-piece : goal.returns-in_err-piece
returns-in_err-piece c = let a = c.args in
    rw (exit_is _ _ c.from_residual.ensures.1) (refused_reply a.n a.table.now a.k a.set.now _ c.in_err-piece.ensures.refused)

pub returns : goal.returns
returns c = let a = c.args in
    let s = c.in_ok-piece.ensures.same in
    replied a.n a.table.now a.k a.set.now c.in_ok-piece.ensures.refused c.in_ok-piece.piece.stations s.1 c.verdict-told.result (rw s.0 at c.verdict-told.ensures)
