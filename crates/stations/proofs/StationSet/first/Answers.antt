use native.Mathlib.Omega.{arith}
use Rattle.stations.proofs.Laws.{none_four, least₀, least₁, least₂, least₃}
use Rattle.stations.proofs.StationSet.first.Goals as goal

pub returns-then-self-ne0 : goal.returns-then-self-ne0
returns-then-self-ne0 c = least₀ _ _ _ _ _ (omega arith) c.if-self-ne0.true (omega arith)

pub returns-then-self-ne0-2 : goal.returns-then-self-ne0-2
returns-then-self-ne0-2 c = least₁ _ _ _ _ _ (omega arith) (omega arith) c.if-self-ne0-2.true (omega arith)

pub returns-then-self-ne0-3 : goal.returns-then-self-ne0-3
returns-then-self-ne0-3 c = least₂ _ _ _ _ _ (omega arith) (omega arith) (omega arith) c.if-self-ne0-3.true (omega arith)

pub returns-then-self-ne0-4 : goal.returns-then-self-ne0-4
returns-then-self-ne0-4 c = least₃ _ _ _ _ _ (omega arith) (omega arith) (omega arith) (omega arith) c.if-self-ne0-4.true (omega arith)

pub returns : goal.returns
returns c = none_four _ _ _ _ (omega arith) (omega arith) (omega arith) (omega arith)
