use native.Mathlib.Omega.{arith}
use Rattle.stations.proofs.Laws.{none_four, taken₀, taken₁, taken₂, taken₃}
use Rattle.stations.proofs.StationSet.pop_first.Goals as goal

pub returns-then-self-ne0 : goal.returns-then-self-ne0
returns-then-self-ne0 c = taken₀ _ _ _ _ _ (omega arith) c.if-self-ne0.true (omega arith)

pub returns-then-self-ne0-2 : goal.returns-then-self-ne0-2
returns-then-self-ne0-2 c = taken₁ _ _ _ _ _ (omega arith) (omega arith) c.if-self-ne0-2.true (omega arith)

pub returns-then-self-ne0-3 : goal.returns-then-self-ne0-3
returns-then-self-ne0-3 c = taken₂ _ _ _ _ _ (omega arith) (omega arith) (omega arith) c.if-self-ne0-3.true (omega arith)

pub returns-then-self-ne0-4 : goal.returns-then-self-ne0-4
returns-then-self-ne0-4 c = taken₃ _ _ _ _ _ (omega arith) (omega arith) (omega arith) (omega arith) c.if-self-ne0-4.true (omega arith)

pub returns : goal.returns
returns c = let z = none_four _ _ _ _ (omega arith) (omega arith) (omega arith) (omega arith) in (z, z)
