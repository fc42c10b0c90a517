-- How a chain arrives: a chain to u from another station comes by a link of u, and does not meet u before that.
use mathlib.Core.Bool.{true}
use mathlib.Core.Path.{◌≡◌, refl}
use Prim.Native.Nat.{ℕ}
use native.Mathlib.Decide.{ℕ_discrete}
use Rattle.stations.specs.Sets.{Set, ◌is_in◌, only, ◌without◌}
use Rattle.stations.proofs.Members.{in_less}
use Rattle.mesh.specs.Mesh.{Links, Touch, here, step}

pub last_link : (L : Links) (t : Set) (u : ℕ) {a : ℕ} → Touch L t a u → ¬ (a ≡ u) → (w : ℕ) × (L w u ≡ true) × Touch L (t without only u) a w
last_link L t u c = go c refl
  where
    go : {a b : ℕ} → Touch L t a b → b ≡ u → ¬ (a ≡ u) → (w : ℕ) × (L w u ≡ true) × Touch L (t without only u) a w
    go (here p) e d = absurd (d e)
    go (step {a = a} {b = b} p l c) e d = by (ℕ_discrete b u) (go c e)
      where
        mine : a is_in t without only u
        mine = in_less t u a p d

        by : Dec (b ≡ u) → (¬ (b ≡ u) → (w : ℕ) × (L w u ≡ true) × Touch L (t without only u) b w) → (w : ℕ) × (L w u ≡ true) × Touch L (t without only u) a w
        by (yes i) r = (a, rw i at l, here mine)
        by (no i) r = let (w, m, x) = r i in (w, m, step mine l x)
