use native.Mathlib.Omega.{arith}
use Rattle.standings.proofs.Laws.{stands}
use Rattle.standings.proofs.standing.Goals as goal

pub returns-then-not-in_group : goal.returns-then-not-in_group
returns-then-not-in_group c = let m = c.args.mesh in
    stands m.n m.table.now c.args.a m.accepted c.loop-v.v (omega arith) c.loop-v.invariant (λ _. c.in_group.ensures.not_so c.if-not-in_group.true)
