-- A net, the chains through it and the losses that leave none: what Menger's theorem speaks of.
--   Net                 stations between a source, which is linked to the starts, and a sink, to which the ends are linked
--   Chain N X l         the stations l, all in X, lead from a start to an end
--   Family N k          k chains, no two of which share a station
--   Parts N S           the loss of S leaves no chain
--   Menger N            as many chains, no two of which share a station, as a loss that leaves none has stations
use Rattle.std.specs.Prelude.{◌≡◌, true, ℕ, ◌<◌}
use mathlib.Core.List.{List, [], ◌∷◌, Memᴰ}
use Rattle.stations.specs.Sets.{Set, ◌is_in◌, ◌part_of◌, ◌without◌, Below, size}
use Rattle.mesh.specs.Mesh.{Links}

-- The stations `inner` are numbers below `mark`. Nothing is asked of the links: they need not go both ways. Nothing is asked of starts and ends
-- off `inner`.
pub record Net : Type 0 where
  pub mark : ℕ
  pub link : Links
  pub inner : Set
  pub starts : Set
  pub ends : Set
  pub below : Below mark inner

-- from x over the stations of l, all in X, to an end
abbrev pub Onward : Net → Set → ℕ → List ℕ → Type 0
Onward N X x [] = N.ends x ≡ true
Onward N X x (y ∷ l) = (y is_in X) × (N.link x y ≡ true) × Onward N X y l

-- a chain from a start to an end, over at least one station, all in X
abbrev pub Chain : Net → Set → List ℕ → Type 0
Chain N X [] = ⊥
Chain N X (y ∷ l) = (y is_in X) × (N.starts y ≡ true) × Onward N X y l

-- k chains, no two of which share a station
pub record Family (N : Net) (k : ℕ) : Type 0 where
  pub chain : (i : ℕ) → i < k → List ℕ
  pub good : (i : ℕ) (h : i < k) → Chain N N.inner (chain i h)
  pub disjoint : (i j x : ℕ) (h : i < k) (g : j < k) → Memᴰ x (chain i h) → Memᴰ x (chain j g) → i ≡ j

-- the loss of S leaves no chain
abbrev pub Parts : Net → Set → Type 0
Parts N S = (l : List ℕ) → ¬ Chain N (N.inner without S) l

-- Menger's theorem for the net: as many disjoint chains as a loss that parts has stations
pub record Menger (N : Net) : Type 0 where
  pub number : ℕ
  pub family : Family N number
  pub loss : Set
  pub within : loss part_of N.inner
  pub parts : Parts N loss
  pub exact : size N.mark loss ≡ number
