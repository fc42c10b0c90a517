use Rattle.pairs.proofs.Starts.{weak_of}
use Rattle.pairs.proofs.Piece.weak.Goals as goal

pub returns : goal.returns
returns c = weak_of c.args.self.table.now c.args.self.stations c.args.k c.settle.result c.settle.ensures
