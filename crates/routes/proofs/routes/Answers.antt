use mathlib.Core.List.{[], ◌∷◌}
use Rattle.card.specs.Card.{table_order, PAIR}
use Rattle.card.proofs.Card.{exit_is, first_stop, first_go, table_numbered}
use Rattle.routes.proofs.Laws.{refused_reply}
use Rattle.routes.proofs.routes.Goals as goal

pub returns-in_err-mesh : goal.returns-in_err-mesh
returns-in_err-mesh c = let a = c.args in
    rw (exit_is _ _ c.from_residual.ensures.1) (refused_reply a.n a.table.now a.a a.b _ (first_stop (table_order a.n a.table.now) (PAIR a.n a.a a.b ∷ []) _ c.in_err-mesh.ensures.refused))

pub returns-in_err-test_pair : goal.returns-in_err-test_pair
returns-in_err-test_pair c = let a = c.args in
    rw (exit_is _ _ c.from_residual-in_err-test_pair.ensures.1) (refused_reply a.n a.table.now a.a a.b _
    (first_go (table_order a.n a.table.now) (PAIR a.n a.a a.b ∷ []) _ (table_numbered a.n a.table.now) c.in_ok-mesh.ensures.refused c.in_err-test_pair.ensures))
