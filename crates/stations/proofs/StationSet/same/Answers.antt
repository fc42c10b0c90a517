use native.Mathlib.Omega.{arith}
use Rattle.stations.proofs.Laws.{same_words, wide_four}
use Rattle.stations.proofs.StationSet.same.Goals as goal

pub returns : goal.returns
returns c =
    same_words _ _ _ _ _ _ _ _ (wide_four _ _ _ _ (omega arith) (omega arith) (omega arith) (omega arith))
    (wide_four _ _ _ _ (omega arith) (omega arith) (omega arith) (omega arith)) c.eq.result c.eq.ensures
