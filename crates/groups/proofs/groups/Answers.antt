use mathlib.Core.List.{[], ◌∷◌}
use mathlib.Core.Path.{◌≡◌}
use Prim.Native.Nat.{ℕ}
use native.Mathlib.Omega.{arith}
use lib.ListN.{length}
use Rattle.stations.specs.Sets.{stations}
use Rattle.stations.specs.Words.{members}
use Rattle.card.specs.Card.{FirstFailing, table_order, LEVEL, LIST_ROOM, ROWS}
use Rattle.card.proofs.Card.{exit_is, first_stop, first_go, table_numbered}
use Rattle.groups.specs.Reply.{order}
use Rattle.groups.proofs.Laws.{room_last, passed, asked, told, replied, refused_reply}
use Rattle.groups.proofs.groups.Goals.{After-stations, In_ok-test_list_room}
use Rattle.groups.proofs.groups.Goals as goal

pub returns-in_err-mesh : goal.returns-in_err-mesh
returns-in_err-mesh c = let a = c.args in
    let w = length a.list.now in
    rw (exit_is _ _ c.from_residual.ensures.1) (refused_reply a.n a.table.now a.k a.list.now _
    (first_stop (table_order a.n a.table.now) (LEVEL a.k ∷ LIST_ROOM a.n a.k w ∷ ROWS a.n a.table.now a.k ∷ []) _ c.in_err-mesh.ensures.refused))

pub returns-in_err-test_level : goal.returns-in_err-test_level
returns-in_err-test_level c = let a = c.args in
    let w = length a.list.now in
    rw (exit_is _ _ c.from_residual-in_err-test_level.ensures.1) (refused_reply a.n a.table.now a.k a.list.now _
    (first_go (table_order a.n a.table.now) (LEVEL a.k ∷ LIST_ROOM a.n a.k w ∷ ROWS a.n a.table.now a.k ∷ []) _ (table_numbered a.n a.table.now) c.in_ok-mesh.ensures.refused
    (first_stop (LEVEL a.k ∷ []) (LIST_ROOM a.n a.k w ∷ ROWS a.n a.table.now a.k ∷ []) _ c.in_err-test_level.ensures)))

pub returns-in_err-test_list_room : goal.returns-in_err-test_list_room
returns-in_err-test_list_room c = let a = c.args in
    let w = length a.list.now in
    rw (exit_is _ _ c.from_residual-in_err-test_list_room.ensures.1) (refused_reply a.n a.table.now a.k a.list.now _
    (first_go (table_order a.n a.table.now) (LEVEL a.k ∷ LIST_ROOM a.n a.k w ∷ ROWS a.n a.table.now a.k ∷ []) _ (table_numbered a.n a.table.now) c.in_ok-mesh.ensures.refused
    (first_go (LEVEL a.k ∷ []) (LIST_ROOM a.n a.k w ∷ ROWS a.n a.table.now a.k ∷ []) _ (omega arith, tt) c.in_ok-test_level.ensures
    (room_last a.n a.table.now a.k w _ c.in_err-test_list_room.ensures))))

-- every test has passed
all : (c : In_ok-test_list_room) → let a = c.args in FirstFailing (order a.n a.table.now a.k (length a.list.now)) 0
all c = let a = c.args in
    let w = length a.list.now in
    first_go (table_order a.n a.table.now) (LEVEL a.k ∷ LIST_ROOM a.n a.k w ∷ ROWS a.n a.table.now a.k ∷ []) _ (table_numbered a.n a.table.now) c.in_ok-mesh.ensures.refused
    (first_go (LEVEL a.k ∷ []) (LIST_ROOM a.n a.k w ∷ ROWS a.n a.table.now a.k ∷ []) _ (omega arith, tt) c.in_ok-test_level.ensures
    (room_last a.n a.table.now a.k w _ c.in_ok-test_list_room.ensures))

-- the stations that are listed are those below n
below : (c : After-stations) → (x : ℕ) → members c.stations.result x ≡ stations c.args.n x
below c = rw c.in_ok-mesh.ensures.same.0 at c.stations.ensures

pub list_within-found-requires : goal.list_within-found-requires
list_within-found-requires c = let a = c.args in
    let at = goal.at.list_within-found-requires c in
    rw c.in_ok-mesh.ensures.same.1
    (asked a.n a.table.now a.k a.list.now (passed a.n a.table.now a.k (length a.list.now) (all at.In_ok-test_list_room)) c.stations.result (below at.After-stations))

pub returns : goal.returns
returns c = let a = c.args in
    let at = goal.at.returns c in
    let f = all at.In_ok-test_list_room in
    replied a.n a.table.now a.k a.list.now c.list_within-found.new.list c.list_within-found.result f
    (told a.n a.table.now a.k a.list.now (passed a.n a.table.now a.k (length a.list.now) f) c.stations.result (below at.After-stations)
    c.list_within-found.new.list c.list_within-found.result (rw c.in_ok-mesh.ensures.same.1 at c.list_within-found.ensures))
