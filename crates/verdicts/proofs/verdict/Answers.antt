use native.Mathlib.Omega.{arith}
use Rattle.search.proofs.Reply.{safe_holds}
use Rattle.pairs.proofs.Starts.{below}
use Rattle.verdicts.proofs.verdict.Goals as goal

-- `verdicts::verdict` meets its contract.
pub returns-in-None : goal.returns-in-None
returns-in-None c = safe_holds (below c.args.piece.stations) (omega arith) c.in-None.ensures
