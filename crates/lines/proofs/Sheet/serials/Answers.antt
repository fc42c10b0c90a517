use native.Mathlib.Omega.{arith}
use Rattle.lines.proofs.Serials.{spelled_none, all_put, all_end, spelled_room, spelled_more}
use Rattle.lines.proofs.Sheet.serials.Goals as goal

pub loop-j-init : goal.loop-j-init
loop-j-init c = rw c.into_iter-j-iterator.ensures.into_iter_gives (spelled_none _ _ _)

pub returns-then-serials-j-clause-put : goal.returns-then-serials-j-clause-put
returns-then-serials-j-clause-put c = all_put c.loop-j.invariant c.requires.0 (λ x l. c.in-Some.ensures.steps.least.below x (omega (arith, c.if-serials-j.true)))

pub returns-then-serials-j-clause-end : goal.returns-then-serials-j-clause-end
returns-then-serials-j-clause-end c = all_end c.loop-j.invariant c.requires.0

pub serial-requires : goal.serial-requires
serial-requires c = spelled_room c.loop-j.invariant c.requires.0 c.in-Some.ensures.steps.least c.if-serials-j.false c.requires.1

pub loop-j-preserved : goal.loop-j-preserved
loop-j-preserved c =
    let t = c.in-Some.ensures.steps in
    spelled_more c.loop-j.invariant c.requires.0 t.least c.if-serials-j.false c.serial.ensures.put c.serial.ensures.end t.rest

pub returns-clause-put : goal.returns-clause-put
returns-clause-put c = all_put c.loop-j.invariant c.requires.0 (λ x l. c.in-None.ensures.steps.0 x)

pub returns-clause-end : goal.returns-clause-end
returns-clause-end c = all_end c.loop-j.invariant c.requires.0
