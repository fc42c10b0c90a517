use mathlib.Core.List.{[], ◌∷◌}
use Rattle.card.specs.Card.{table_order, LEVEL, SET}
use Rattle.card.proofs.Card.{exit_is, first_stop}
use Rattle.holding.proofs.accept.Goals as goal

pub returns-in_err-mesh-clause-refused : goal.returns-in_err-mesh-clause-refused
returns-in_err-mesh-clause-refused c = let a = c.args in
    rw (exit_is _ _ c.from_residual.ensures.1) (first_stop (table_order a.n a.table.now) (LEVEL a.k ∷ SET a.n a.set.now ∷ []) _ c.in_err-mesh.ensures.refused)
