use Rattle.std.proofs.Common.{◌≡◌, ℕ, true}
use Rattle.stations.specs.Sets.{◌is_in◌, ◌not_in◌, ◌part_of◌}
use Rattle.stations.specs.Words.{members}
use Rattle.mesh.specs.Table.{linked}
use Rattle.touch.proofs.spread.Given as goal

-- `touch::spread` meets its contract. The invariant: `sum` has the rows of the stations that are not left.
abbrev pub invariant-loop-j : goal.invariant-loop-j
invariant-loop-j l = record {
  inside : members l.j-iterator.left part_of members l.fn.from;
  some : (y : ℕ) → y is_in members l.sum → (x : ℕ) × (x is_in members l.fn.from) × (linked l.table x y ≡ true);
  all : (x y : ℕ) → x is_in members l.fn.from → x not_in members l.j-iterator.left → linked l.table x y ≡ true → y is_in members l.sum;
}
