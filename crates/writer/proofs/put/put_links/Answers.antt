use mathlib.Core.Bool.{◌&&◌}
use mathlib.Core.Path.{◌≡◌}
use Prim.Native.Nat.{ℕ, ◌+◌, ◌≤◌}
use native.Mathlib.Omega.{arith}
use lib.Dec.{ltb}
use lib.ListN.{length}
use Rattle.stations.specs.Words.{has}
use Rattle.mesh.specs.Table.{linked}
use Rattle.writer.proofs.Links.{links_none, links_more, row_room}
use Rattle.writer.proofs.Rows.{walking_none, walking_room, walking_more, walking_all, listed_none, word_room, listed_more, listed_all}
use Rattle.writer.proofs.put.put_links.Goals.{In-Some}
use Rattle.writer.proofs.put.put_links.Goals as goal

-- there is room for one record more
room : (c : In-Some) → c.loop-k.place + 4 ≤ length c.loop-k.bytes
room c = let I = c.loop-a.invariant in
    let law : (x : ℕ) → has c.words-words.result x ≡ (linked c.args.mesh.table.now c.loop-a.a x && ltb c.loop-a.a x)
    = rw c.words-words.ensures c.above.ensures in
    walking_room c.loop-k.invariant c.in-Some.ensures.steps
    (word_room c.loop-i.invariant c.loop-i-test.true
    (row_room c.args.mesh.table.now c.loop-a.a c.args.mesh.n _ _ _ (has c.words-words.result) law c.loop-a-test.true I.next
    (omega (arith, I.kept.whole, c.requires))))

pub loop-a-init : goal.loop-a-init
loop-a-init c = links_none _ _ _

pub loop-i-init : goal.loop-i-init
loop-i-init c = listed_none _ _ _ _

pub loop-k-init : goal.loop-k-init
loop-k-init c = rw c.into_iter-k-iterator.ensures.into_iter_gives (walking_none _ _ _ _ _)

pub put_link-requires : goal.put_link-requires
put_link-requires c = (
  omega (arith, c.args.mesh.accepted.few, c.loop-a-test.true),
  omega (arith, c.loop-i-test.true, c.in-Some.ensures.steps.small),
  room (goal.at.put_link-requires c).In-Some,
)

pub overflow_add-place-in-loop-k : goal.overflow_add-place-in-loop-k
overflow_add-place-in-loop-k c = omega (arith, room (goal.at.overflow_add-place-in-loop-k c).In-Some, c.put_link.ensures.0.whole)

pub loop-k-preserved : goal.loop-k-preserved
loop-k-preserved c = walking_more c.loop-k.invariant c.in-Some.ensures.steps c.put_link.ensures.0 c.put_link.ensures.1 c.put_link.ensures.2

pub loop-i-preserved : goal.loop-i-preserved
loop-i-preserved c = listed_more c.loop-i.invariant c.loop-i-test.true (walking_all c.loop-k.invariant c.in-None.ensures.steps.0)

pub loop-a-preserved : goal.loop-a-preserved
loop-a-preserved c =
    let law : (x : ℕ) → has c.words-words.result x ≡ (linked c.args.mesh.table.now c.loop-a.a x && ltb c.loop-a.a x)
    = rw c.words-words.ensures c.above.ensures in
    links_more c.args.mesh.table.now c.loop-a.a (has c.words-words.result) law c.loop-a.invariant
    (listed_all c.loop-i.invariant (omega (arith, c.loop-i-test.false)))
