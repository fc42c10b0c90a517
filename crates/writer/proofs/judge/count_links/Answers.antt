use mathlib.Core.Path.{◌≡◌, ap, ◌∙◌}
use Prim.Native.Nat.{ℕ, ◌*◌}
use native.Mathlib.Omega.{arith}
use Rattle.stations.specs.Sets.{size}
use Rattle.stations.specs.Words.{members}
use Rattle.stations.proofs.Counting.{size_le}
use Rattle.records.specs.Survey.{links}
use Rattle.writer.proofs.Links.{count_none, count_more}
use Rattle.writer.proofs.judge.count_links.Goals as goal

pub loop-a-init : goal.loop-a-init
loop-a-init c = count_none _

pub overflow_add-m : goal.overflow_add-m
overflow_add-m c = omega (arith, c.args.mesh.accepted.few, c.loop-a.invariant, c.loop-a-test.true, c.size-m.ensures, size_le (c.loop-a.a * 256) (links c.args.mesh.table.now), size_le 256 (members c.above.result))

pub loop-a-preserved : goal.loop-a-preserved
loop-a-preserved c = count_more c.args.mesh.table.now c.loop-a.a _ _ (members c.above.result) c.above.ensures c.loop-a.invariant c.size-m.ensures

pub returns : goal.returns
returns c = let l = c.loop-a in
    let e : l.a ≡ c.args.mesh.n = omega arith in
    (l.invariant ∙ ap (λ (k : ℕ). size (k * 256) (links c.args.mesh.table.now)) e, omega (arith, l.invariant, c.args.mesh.accepted.few, size_le (l.a * 256) (links c.args.mesh.table.now)))
