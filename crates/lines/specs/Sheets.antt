-- THE SHEET that the lines are put on: what room it has, and what a step adds. Rule N5.
--   Room n p         p has room for n more bytes
--   Put new p q      p became q by the bytes `new` behind what stood there: the same buffer, its bytes before and behind them as they were
use Rattle.std.specs.Prelude.{List, ℕ, ◌≡◌, ◌+◌, ◌≤◌, length}
use Rattle.lines.specs.Lines.{Added}
use Rattle.lines.specs.declared.Sheet.{Sheet}

abbrev pub Room : ℕ → Sheet → Type 0
Room n p = p.at + n ≤ length p.bytes.now

pub record Put (new : List ℕ) (p q : Sheet) : Type 0 where
  pub same : q.bytes.ghost_name ≡ p.bytes.ghost_name
  pub added : Added p.at q.at new p.bytes.now q.bytes.now
