use lib.ListN.{get_or}
use Prim.Native.Nat.{◌%◌}
use Rattle.stations.specs.Words.{has, bit}
use Rattle.card.proofs.TableTest.{Mirroring, Looking}
use Rattle.card.proofs.mirrored.Given as goal

abbrev pub invariant-loop-q : goal.invariant-loop-q
invariant-loop-q l = Mirroring l.table l.i (has l.word-items) l.q

abbrev pub invariant-loop-k : goal.invariant-loop-k
invariant-loop-k l = Looking l.table l.i l.q (get_or l.word-items l.q 0) l.k-iterator.word (bit l.seen (l.i % 64))
