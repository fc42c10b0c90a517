use Rattle.reader.specs.Steps.{SerialsFilled}
use Rattle.reader.proofs.fill.fill_serials.Given as goal

abbrev pub invariant-loop-i : goal.invariant-loop-i
invariant-loop-i l = SerialsFilled l.file.bytes.now l.i l.initial.serials l.serials
