use lib.ListN.{get_or}
use Prim.Native.Nat.{◌+◌, ◌*◌}
use Rattle.writer.specs.Steps.{LinksPut}
use Rattle.writer.proofs.Rows.{Walking, Listed}
use Rattle.writer.proofs.put.put_links.Given as goal

abbrev pub invariant-loop-a : goal.invariant-loop-a
invariant-loop-a l = LinksPut l.a l.mesh.table.now (9 + l.mesh.n * 4) l.place l.initial.bytes l.bytes

-- the loop over the words of a row
abbrev pub invariant-loop-i : goal.invariant-loop-i
invariant-loop-i l = Listed l.word-items l.i l.a l.initial.place l.place l.initial.bytes l.bytes

-- the loop over the bits of a word
abbrev pub invariant-loop-k : goal.invariant-loop-k
invariant-loop-k l = Walking (get_or l.word-items l.i 0) l.k-iterator.word l.a (l.i * 64) l.initial.place l.place l.initial.bytes l.bytes
