use mathlib.Core.Path.{refl, subst, fun_ext}
use Prim.Native.Nat.{◌<◌}
use native.Mathlib.Omega.{arith}
use borrow.Author.Rules.{rules}
use Rattle.stations.specs.Sets.{size}
use Rattle.stations.specs.Words.{members, words}
use Rattle.stations.specs.Answers.{FirstOf, Least}
use Rattle.stations.proofs.Laws.{has_small}
use Rattle.mesh.specs.Table.{linked}
use Rattle.listing.proofs.Lists.{put_set}
use Rattle.listing.proofs.Parting.{Split}
use Rattle.listing.proofs.Searching.{all_to_cut, all_cut, rest_falls, small_cut, room_cut, large_cut}
use Rattle.listing.proofs.steps.Search.divide.Goals.{After-size, In-Some, Then-self-size}
use Rattle.listing.proofs.steps.Search.divide.Goals as goal

least : (c : In-Some) → Least (members c.loop-v.rest) c.in-Some.v
least c = subst (FirstOf (members c.loop-v.rest)) c.in-Some.is c.first.ensures

splits : (c : After-size) → Split (linked c.args.self.now.table.now) (members c.args.s) (members c.loop-v.rest) (members c.join-piece.result) (members c.minus-rest-in-Some.result)
splits c = record {
  below = λ x h. has_small (words c.loop-v.rest) x refl h;
  at = c.in-Some.v;
  mine = (least (goal.at.After-size c).In-Some).mine;
  bound = (least (goal.at.After-size c).In-Some).small;
  island = members c.island-island.result;
  reached = rw (← c.loop-v.invariant.same.table) c.island-island.ensures;
  part = fun_ext c.join-piece.ensures;
  left = fun_ext c.minus-rest-in-Some.ensures;
}

large : (c : Then-self-size) → c.args.self.now.k < size 256 (members c.join-piece.result)
large c = omega (arith, c.if-self-size.true, c.size.ensures, c.loop-v.invariant.same.level)

pub loop-v-init : goal.loop-v-init
loop-v-init c = all_to_cut c.requires _ (fun_ext c.minus-rest.ensures)

pub put_row-requires : goal.put_row-requires
put_row-requires c = room_cut c.requires c.loop-v.invariant (splits (goal.at.put_row-requires c).After-size) (large (goal.at.put_row-requires c).Then-self-size)

pub overflow_add-self : goal.overflow_add-self
overflow_add-self c =
    search (rules, room_cut c.requires c.loop-v.invariant (splits (goal.at.overflow_add-self c).After-size) (large (goal.at.overflow_add-self c).Then-self-size), c.well_formed)

pub loop-v-smaller-then-self-size : goal.loop-v-smaller-then-self-size
loop-v-smaller-then-self-size c = rest_falls c.requires c.loop-v.invariant (splits (goal.at.loop-v-smaller-then-self-size c).After-size)

pub loop-v-preserved-then-self-size : goal.loop-v-preserved-then-self-size
loop-v-preserved-then-self-size c =
    let i = c.loop-v.invariant in
    let z = (goal.at.loop-v-preserved-then-self-size c).After-size in
    let b = large (goal.at.loop-v-preserved-then-self-size c).Then-self-size in
    large_cut c.requires i (splits z) b (record { table = i.same.table; level = i.same.level; list = i.same.list }) i.done refl
    (put_set c.join-piece.result refl (room_cut c.requires i (splits z) b) c.put_row.ensures)

pub loop-v-smaller : goal.loop-v-smaller
loop-v-smaller c = rest_falls c.requires c.loop-v.invariant (splits (goal.at.loop-v-smaller c).After-size)

pub loop-v-preserved : goal.loop-v-preserved
loop-v-preserved c =
    let i = c.loop-v.invariant in
    small_cut c.requires i (splits (goal.at.loop-v-preserved c).After-size) (omega (arith, c.if-self-size.false, c.size.ensures, i.same.level))

pub returns : goal.returns
returns c = all_cut c.requires c.loop-v.invariant (subst (FirstOf (members c.loop-v.rest)) c.in_default.is c.first.ensures)
