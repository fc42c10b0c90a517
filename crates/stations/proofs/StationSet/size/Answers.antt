use borrow.Author.Rules.{rules}
use native.Mathlib.Omega.{arith}
use Rattle.stations.proofs.Laws.{size_ones}
use Rattle.stations.proofs.StationSet.size.Goals as goal

pub returns : goal.returns
returns c = let s = c.args.self in omega (arith, size_ones s.a s.b s.c s.d (search rules) (search rules) (search rules) (search rules))
