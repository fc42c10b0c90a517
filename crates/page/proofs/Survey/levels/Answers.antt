use native.Mathlib.Omega.{arith}
use Rattle.page.proofs.Upward as up
use Rattle.page.proofs.Survey.levels.Goals as goal

pub loop-top-init : goal.loop-top-init
loop-top-init c = up.levels_none _ _ _ _

pub list_within-g-requires : goal.list_within-g-requires
list_within-g-requires c = up.level_asked c.loop-top.invariant c.args.self.now.mesh.accepted (omega arith) c.loop-top.list (omega arith) c.stations-all.result c.stations-all.ensures

pub returns-then-g-eq0-clause-last : goal.returns-then-g-eq0-clause-last
returns-then-g-eq0-clause-last c =
    up.no_more c.loop-top.invariant c.args.self.now.mesh.accepted (omega arith) c.loop-top.list (omega arith) c.stations-all.result c.stations-all.ensures c.list_within-g.ensures c.if-g-eq0.true

pub level-requires : goal.level-requires
level-requires c =
    up.level_fit c.loop-top.invariant c.args.self.now.mesh.accepted (omega arith) c.loop-top.list (omega arith) c.stations-all.result c.stations-all.ensures c.list_within-g.ensures c.requires

pub loop-top-preserved : goal.loop-top-preserved
loop-top-preserved c =
    up.levels_more c.loop-top.invariant c.args.self.now.mesh.accepted (omega arith) c.loop-top.list (omega arith) c.stations-all.result c.stations-all.ensures c.list_within-g.ensures c.if-g-eq0.false c.level.ensures
