-- The chains of a net as stations in touch: a loss that parts leaves no start in touch with an end (parts_touch), and after a loss of fewer
-- stations than there are disjoint chains some start is in touch with some end (spare_touch).
use mathlib.Core.Path.{◌≡◌}
use mathlib.Core.Bool.{true}
use mathlib.Core.List.{List, [], ◌∷◌}
use Prim.Native.Nat.{ℕ, ◌<◌}
use Rattle.stations.specs.Sets.{Set, ◌is_in◌, ◌without◌, size}
use Rattle.mesh.specs.Mesh.{Touch, here, step}
use Rattle.mesh.proofs.Chains.{touch_start}
use Rattle.linkage.specs.Net.{Net, Onward, Chain, Family, Parts}
use Rattle.linkage.proofs.Cuts.{spare}

pub touch_onward : (N : Net) (X : Set) (x y : ℕ) → Touch N.link X x y → N.ends y ≡ true → (l : List ℕ) × Onward N X x l
touch_onward N X x _ (here m) e = ([], e)
touch_onward N X x y (step {b = z} m l t) e = let (r, o) = touch_onward N X z y t e in (z ∷ r, (touch_start t, l, o))

-- a loss that parts leaves no start in touch with an end
pub parts_touch : (N : Net) (S : Set) → Parts N S → (x y : ℕ) → N.starts x ≡ true → N.ends y ≡ true → ¬ Touch N.link (N.inner without S) x y
parts_touch N S p x y s e t = let (l, o) = touch_onward N (N.inner without S) x y t e in p (x ∷ l) (touch_start t, s, o)

pub onward_touch : (N : Net) (X : Set) (x : ℕ) (l : List ℕ) → x is_in X → Onward N X x l → (y : ℕ) × (N.ends y ≡ true) × Touch N.link X x y
onward_touch N X x [] m o = (x, o, here m)
onward_touch N X x (y ∷ l) m o = let (z, e, t) = onward_touch N X y l o.0 o.2 in (z, e, step m o.1 t)

-- as many disjoint chains leave, after a loss of fewer stations, a start in touch with an end
pub spare_touch : (N : Net) (k : ℕ) → Family N k → (S : Set) → size N.mark S < k
    → (x : ℕ) × (y : ℕ) × (N.starts x ≡ true) × (N.ends y ≡ true) × Touch N.link (N.inner without S) x y
spare_touch N k F S few = go (spare N S k F few)
  where
    go : (l : List ℕ) × Chain N (N.inner without S) l → (x : ℕ) × (y : ℕ) × (N.starts x ≡ true) × (N.ends y ≡ true) × Touch N.link (N.inner without S) x y
    go ([], c) = absurd c
    go (x ∷ l, c) = let (y, e, t) = onward_touch N (N.inner without S) x l c.0 c.2 in (x, y, c.1, e, t)
