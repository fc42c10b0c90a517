-- Each loss found lowers the level, until no smaller one is found or the level is 0.
use mathlib.Core.List.{List}
use Rattle.std.proofs.Common.{Option, Some, None}
use mathlib.Core.Path.{◌≡◌}
use Prim.Native.Nat.{ℕ, ◌≤◌}
use Rattle.stations.specs.Sets.{size}
use Rattle.stations.specs.Words.{members}
use Rattle.stations.specs.declared.StationSet.{StationSet}
use Rattle.mesh.specs.Table.{linked}
use Rattle.search.specs.Losses.{every, WeakPair}
use Rattle.pairs.specs.declared.WeakPair as declared

-- the best so far, at level l
abbrev pub Best : List ℕ → StationSet → ℕ → ℕ → Option declared.WeakPair → Type 0
Best t p k l None = l ≡ k
Best t p k l (Some r) = WeakPair (linked t) 256 every k (members p) r.one r.other (members r.loss) × (size 256 (members r.loss) ≡ l)

pub record Lower (t : List ℕ) (p : StationSet) (k l : ℕ) (r : Option declared.WeakPair) : Type 0 where
  pub most : l ≤ k
  pub best : Best t p k l r
