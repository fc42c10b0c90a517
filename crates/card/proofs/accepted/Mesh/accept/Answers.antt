use mathlib.Core.List.{[]}
use Rattle.card.proofs.Card.{exit_is, table_passed}
use Rattle.card.proofs.accepted.Mesh.accept.Goals as goal

pub returns-in_err-test_table-clause-refused : goal.returns-in_err-test_table-clause-refused
returns-in_err-test_table-clause-refused c = rw (exit_is _ _ c.from_residual.ensures.1) c.in_err-test_table.ensures

pub invariant_of-result : goal.invariant_of-result
invariant_of-result c = record { accepted = (table_passed c.args.n c.args.table.now [] tt c.in_ok-test_table.ensures).0 }
