use native.Mathlib.Omega.{arith}
use Rattle.page.proofs.Level.{level_none, level_room, level_more}
use Rattle.page.proofs.Survey.level.Goals as goal

pub loop-i-init : goal.loop-i-init
loop-i-init c = level_none _ _ _ _

pub group-requires : goal.group-requires
group-requires c =
    let F = c.requires in
    let t = c.loop-i-test.true in
    (omega (arith, F.level), omega (arith, t, F.most), omega arith, level_room c.loop-i.invariant c.of_row.result c.of_row.ensures F t)

pub loop-i-preserved : goal.loop-i-preserved
loop-i-preserved c = level_more c.loop-i.invariant c.of_row.result c.of_row.ensures c.group.ensures.put c.group.ensures.end
