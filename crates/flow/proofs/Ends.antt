-- What the answer of `flow` says of stations in touch. With as many chains as the limit, no loss of fewer stations parts the starts from the ends
-- (flow_many); with fewer, the loss that it names does (flow_few).
use mathlib.Core.List.{List}
use Rattle.std.proofs.Common.{Some, None}
use mathlib.Core.Path.{◌≡◌}
use Prim.Native.Nat.{ℕ, ◌<◌}
use Rattle.stations.specs.Sets.{Set, ◌is_in◌, ◌part_of◌, ◌without◌, size}
use Rattle.stations.specs.Words.{members}
use Rattle.stations.specs.declared.StationSet.{StationSet}
use Rattle.mesh.specs.Mesh.{Touch}
use Rattle.mesh.specs.Table.{linked}
use Rattle.linkage.proofs.Touching.{parts_touch, spare_touch}
use Rattle.flow.specs.Net.{net_of, Flow}
use Rattle.flow.specs.declared.Cut.{Cut}

module _ (t : List ℕ) (inner starts ends : StationSet) (limit : ℕ) where
  -- each loss of fewer than the limit leaves a start and an end in touch
  pub flow_many : Flow (net_of t inner starts ends) limit None → (S : Set) → size 256 S < limit
      → (x : ℕ) × (y : ℕ) × (x is_in members starts) × (y is_in members ends) × Touch (linked t) (members inner without S) x y
  flow_many F S few = spare_touch (net_of t inner starts ends) limit F S few

  -- the loss has as many stations as there are chains, fewer than the limit, and leaves no start in touch with an end
  pub flow_few : (r : Cut) → Flow (net_of t inner starts ends) limit (Some r)
      → (r.chains < limit) × (size 256 (members r.loss) ≡ r.chains) × (members r.loss part_of members inner)
      × ((x y : ℕ) → x is_in members starts → y is_in members ends → ¬ Touch (linked t) (members inner without members r.loss) x y)
  flow_few r X = (X.fewer, X.exact, X.within, parts_touch (net_of t inner starts ends) (members r.loss) X.parts)
