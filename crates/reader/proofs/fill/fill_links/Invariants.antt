use Rattle.reader.specs.Steps.{Filled}
use Rattle.reader.proofs.fill.fill_links.Given as goal

abbrev pub invariant-loop-j : goal.invariant-loop-j
invariant-loop-j l = Filled l.file.bytes.now l.file.stations l.j l.table
