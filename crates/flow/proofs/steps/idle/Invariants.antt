use Rattle.flow.specs.Search.{Idle}
use Rattle.flow.proofs.steps.idle.Given as goal

-- `flow::steps::idle` meets its contract.
abbrev pub invariant-loop-i : goal.invariant-loop-i
invariant-loop-i l = Idle l.hold l.i
