use native.Mathlib.Omega.{arith}
use Rattle.search.proofs.Reply.{safe_holds}
use Rattle.pairs.proofs.Starts.{below}
use Rattle.verdicts.proofs.judge.Goals as goal

-- `verdicts::judge` meets its contract.
pub returns-in-None : goal.returns-in-None
returns-in-None c = safe_holds (below c.args.piece.stations) (omega arith) c.in-None.ensures
