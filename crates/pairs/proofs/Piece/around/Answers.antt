use mathlib.Core.Path.{◌≡◌, refl}
use Prim.Native.Nat.{ℕ}
use Rattle.stations.specs.Sets.{◌cut◌}
use Rattle.stations.specs.Words.{members}
use Rattle.stations.proofs.Laws.{has_small}
use Rattle.mesh.specs.Table.{linked}
use Rattle.pairs.proofs.Starts.{around_of}
use Rattle.pairs.proofs.Piece.around.Goals.{After-cut-links}
use Rattle.pairs.proofs.Piece.around.Goals as goal

-- `pairs::Piece::around` meets its contract.
-- the links of j inside p
near : (c : After-cut-links) (x : ℕ) → members c.cut-links.result x ≡ (members c.args.self.stations cut linked c.args.self.table.now c.args.j) x
near c x = simp (c.cut-links.ensures, c.of_row.ensures)

pub without-requires : goal.without-requires
without-requires c = has_small _ _ refl c.requires

pub returns : goal.returns
returns c =
    let k = (goal.at.returns c).After-cut-links in
    around_of c.args.self.table.now c.args.self.stations c.args.j c.args.self.piece c.requires c.without.result c.cut-links.result (near k) c.without.ensures
    c.args.most c.settle.result c.settle.ensures
