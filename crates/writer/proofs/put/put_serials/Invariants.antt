use Rattle.writer.specs.Steps.{SerialsPut}
use Rattle.writer.proofs.put.put_serials.Given as goal

abbrev pub invariant-loop-i : goal.invariant-loop-i
invariant-loop-i l = SerialsPut l.i l.serials l.initial.bytes l.bytes
