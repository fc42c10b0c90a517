use mathlib.Core.Path.{refl, subst}
use native.Mathlib.Omega.{arith}
use Rattle.stations.specs.Sets.{Set}
use Rattle.stations.specs.Words.{members}
use Rattle.mesh.specs.Mesh.{Holds, Weak}
use Rattle.mesh.specs.Table.{linked}
use Rattle.search.proofs.Reply.{safe_holds, pair_loss, weak_plain}
use Rattle.pairs.specs.Piece.{WeakOf}
use Rattle.pairs.proofs.Starts.{below}
use Rattle.listing.specs.List.{set_at}
use Rattle.listing.specs.Steps.{Pruned}
use Rattle.listing.proofs.Lists.{put_set}
use Rattle.listing.proofs.Turning.{rows_room, row_room}
use Rattle.listing.proofs.Searching.{turn_finished, turn_dropped, turn_dividing, turn_divided}
use Rattle.listing.proofs.steps.Search.turn.Goals.{After-prune-p, In-Some, In-None}
use Rattle.listing.proofs.steps.Search.turn.Goals as goal

-- `listing::steps::Search::turn` meets its contract.
pruned : (c : After-prune-p) → let s = c.args.self.now in Pruned (linked s.table.now) s.k (set_at s.list.now s.done) (members c.prune-p.result)
pruned c = subst (λ (z : Set). Pruned (linked c.args.self.now.table.now) c.args.self.now.k z (members c.prune-p.result)) c.row.ensures c.prune-p.ensures

-- the piece holds
firm : (c : In-None) → Holds (linked c.args.self.now.table.now) 256 c.args.self.now.k (members c.prune-p.result)
firm c = safe_holds (below c.prune-p.result) (omega (arith, c.if-size-self.false, c.size.ensures))
    (subst (WeakOf c.args.self.now.table.now c.prune-p.result c.args.self.now.k) c.in-None.is c.weak.ensures)

-- a loss parts the piece
loss : (c : In-Some) → Weak (linked c.args.self.now.table.now) 256 c.args.self.now.k (members c.prune-p.result) (members c.in-Some.pair.loss)
loss c = weak_plain (pair_loss (subst (WeakOf c.args.self.now.table.now c.prune-p.result c.args.self.now.k) c.in-Some.is c.weak.ensures))

pub row-requires : goal.row-requires
row-requires c = row_room c.before.requires.state.2 c.before.requires.less

pub fill-requires : goal.fill-requires
fill-requires c = (c.requires.less, rows_room c.requires.state.2)

pub returns-then-size-self : goal.returns-then-size-self
returns-then-size-self c = turn_dropped c.requires.state.2 c.requires.less (members c.prune-p.result) (pruned (goal.at.returns-then-size-self c).After-prune-p) c.fill.ensures (omega (arith, c.if-size-self.true, c.size.ensures))

pub put_row-requires : goal.put_row-requires
put_row-requires c = row_room c.requires.state.2 c.requires.less

pub fill-requires-in-Some : goal.fill-requires-in-Some
fill-requires-in-Some c = (c.requires.less, rows_room c.requires.state.2)

pub divide-requires : goal.divide-requires
divide-requires c = turn_dividing c.requires.state.2 c.requires.less (members c.prune-p.result) (pruned (goal.at.divide-requires c).After-prune-p) c.fill-in-Some.ensures _ (omega (arith, c.if-size-self.false, c.size.ensures)) (loss (goal.at.divide-requires c).In-Some)

pub returns-in-None : goal.returns-in-None
returns-in-None c =
    let x = c.requires.state.2 in
    turn_finished x c.requires.less (members c.prune-p.result) (pruned (goal.at.returns-in-None c).After-prune-p)
    (record { table = refl; level = refl; list = refl }) refl refl (firm (goal.at.returns-in-None c).In-None) (put_set c.prune-p.result refl (row_room x c.requires.less) c.put_row.ensures)

pub returns-in-Some : goal.returns-in-Some
returns-in-Some c = turn_divided c.requires.state.2 c.requires.less (members c.prune-p.result) (pruned (goal.at.returns-in-Some c).After-prune-p) c.fill-in-Some.ensures c.divide.ensures
