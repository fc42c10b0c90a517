use mathlib.Core.List.{[], ◌∷◌, ◌++◌}
use native.Mathlib.Omega.{arith}
use Rattle.card.specs.Card.{number_of, FirstFailing, table_order}
use Rattle.card.proofs.Card.{first_exit, first_go, first_and, table_numbered}
use Rattle.records.specs.Lines.{GIVEN_SERIAL, LINK_COUNT, FILE_ROOM}
use Rattle.writer.proofs.Tests.{own}
use Rattle.writer.proofs.judge.test_survey.Goals.{After-and}
use Rattle.writer.proofs.judge.test_survey.Goals as goal

pub returns-in_err-mesh-clause-tested : goal.returns-in_err-mesh-clause-tested
returns-in_err-mesh-clause-tested c = let s = c.args in
    first_exit (table_order s.n s.table.now) (own s.n s.serials.now s.table.now s.room) _ _ c.from_residual.ensures.1 c.in_err-mesh.ensures.refused

-- what the tests after the table's come to
both : (c : After-and) → let s = c.args in FirstFailing (own s.n s.serials.now s.table.now s.room) (number_of c.and.result)
both c = let s = c.args in
    let m = c.in_ok-mesh.ensures.same in
    rw c.and.ensures (first_and (GIVEN_SERIAL s.n s.serials.now ∷ []) (LINK_COUNT s.n s.table.now ∷ FILE_ROOM s.n s.table.now s.room ∷ [])
    c.test_given.result c.test_size.result (omega arith, tt) c.test_given.ensures (rw (m.0, m.1) at c.test_size.ensures))

pub returns-in_err-and-clause-tested : goal.returns-in_err-and-clause-tested
returns-in_err-and-clause-tested c = let s = c.args in
    first_exit (table_order s.n s.table.now ++ own s.n s.serials.now s.table.now s.room) [] _ _ c.from_residual-in_err-and.ensures.1
    (first_go (table_order s.n s.table.now) (own s.n s.serials.now s.table.now s.room) _ (table_numbered s.n s.table.now) c.in_ok-mesh.ensures.refused
    (rw c.in_err-and.was at (both (goal.at.returns-in_err-and-clause-tested c).After-and)))

pub returns-clause-tested : goal.returns-clause-tested
returns-clause-tested c = let s = c.args in
    first_go (table_order s.n s.table.now) (own s.n s.serials.now s.table.now s.room) _ (table_numbered s.n s.table.now) c.in_ok-mesh.ensures.refused
    (rw c.in_ok-and.was at (both (goal.at.returns-clause-tested c).After-and))
