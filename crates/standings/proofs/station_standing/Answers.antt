use mathlib.Core.List.{[], ◌∷◌}
use Rattle.mesh.specs.Table.{linked}
use Rattle.mesh.specs.Standing.{Standing}
use Rattle.card.specs.Card.{table_order, STATION}
use Rattle.card.proofs.Card.{exit_is, first_stop, first_go, table_numbered}
use Rattle.standings.specs.Reply.{ROWS_AT_ALL, station_order}
use Rattle.standings.proofs.Laws.{own_last, replied, refused_reply}
use Rattle.standings.proofs.station_standing.Goals as goal

pub returns-in_err-mesh : goal.returns-in_err-mesh
returns-in_err-mesh c = let a = c.args in
    rw (exit_is _ _ c.from_residual.ensures.1) (refused_reply (station_order a.n a.table.now a.a) (Standing (linked a.table.now) a.n a.a) _
    (first_stop (table_order a.n a.table.now) (STATION a.n a.a ∷ ROWS_AT_ALL a.n a.table.now ∷ []) _ c.in_err-mesh.ensures.refused))

pub returns : goal.returns
returns c = let a = c.args in
    let s = c.in_ok-mesh.ensures.same in
    replied (station_order a.n a.table.now a.a) (Standing (linked a.table.now) a.n a.a) _
    (first_go (table_order a.n a.table.now) (STATION a.n a.a ∷ ROWS_AT_ALL a.n a.table.now ∷ []) _ (table_numbered a.n a.table.now) c.in_ok-mesh.ensures.refused
    (own_last a.n a.table.now (STATION a.n a.a) _ c.in_ok-test_station.ensures)) (rw (s.0, s.1) at c.standing-largest.ensures)
