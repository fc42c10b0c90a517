-- What the decoders of one record answer, and what the loops over records know.
use Rattle.std.specs.Prelude.{List, Option, Some, None, ◌≡◌, ℕ, ◌+◌, ◌*◌, ◌<◌, ◌≤◌}
use Rattle.records.specs.Bytes.{short, long}

-- the serial at byte `at`, taken where it is above `last`
abbrev pub SerialAt : List ℕ → ℕ → ℕ → Option ℕ → Type 0
SerialAt bs at last (Some x) = (x ≡ long bs at) × (last < x)
SerialAt bs at last None = long bs at ≤ last

-- a link's record: what is wrong with it
pub data Wrong (n last a b : ℕ) : Type 0 where
  crossed : b ≤ a → Wrong n last a b
  beyond : a < b → n ≤ b → Wrong n last a b
  early : a < b → b < n → a * 256 + b ≤ last → Wrong n last a b

-- the link at byte `at`, taken where a < b < n and a * 256 + b is above `last`
abbrev pub LinkAt : List ℕ → ℕ → ℕ → ℕ → Option (ℕ × ℕ) → Type 0
LinkAt bs at n last (Some (a, b)) = (a ≡ short bs at) × (b ≡ short bs (at + 2)) × (a < b) × (b < n) × (last < a * 256 + b)
LinkAt bs at n last None = Wrong n last (short bs at) (short bs (at + 2))
