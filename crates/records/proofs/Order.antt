-- Numbers of which it is only known that they cannot differ, or that one cannot be the larger.
use mathlib.Core.Path.{◌≡◌}
use Prim.Native.Nat.{ℕ, ◌<◌, ◌≤◌}
use native.Mathlib.Decide.{ℕ_discrete}
use native.Mathlib.Omega.{arith}

-- two numbers that cannot differ are the same
pub stable : (x y : ℕ) → ¬ ¬ (x ≡ y) → x ≡ y
stable x y h = go (ℕ_discrete x y)
  where
    go : Dec (x ≡ y) → x ≡ y
    go (yes e) = e
    go (no d) = absurd (h d)

pub at_most : (x y : ℕ) → (y < x → ⊥) → x ≤ y
at_most x y h = omega arith
