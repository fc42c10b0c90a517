-- What a settling pair is: two stations of the piece that are not linked, with fewer than k routes inside it, exactly. A loss of fewer than k that parts
-- them has a station of each route; and where there are fewer than k routes, a loss of as many stations parts them (menger).
use mathlib.Core.Bool.{false}
use mathlib.Core.Logic.{◌≢◌, ◌↔◌}
use mathlib.Core.Path.{◌≡◌, refl, sym, subst}
use Prim.Native.Nat.{ℕ}
use native.Mathlib.Omega.{arith}
use Rattle.stations.specs.Sets.{Set, ◌is_in◌, only, ◌without◌, Below}
use Rattle.stations.proofs.Bools.{never, not_so}
use Rattle.stations.proofs.Members.{of_without, in_without, in_less}
use Rattle.mesh.specs.Mesh.{Links, Mesh, Touch, here, step}
use Rattle.mesh.specs.Routes.{FewRoutes, Parts}
use Rattle.mesh.proofs.Chains.{touch_back}
use Rattle.linkage.proofs.Pairs.{of_others}
use Rattle.linkage.proofs.Routes.{menger, routes_loss}
use Rattle.search.specs.Losses.{every, WeakPair}

module _ (L : Links) (n k : ℕ) (p : Set) (m : Mesh L) (below : Below n p) (u v : ℕ) where
  weak_so : (S : Set) → WeakPair L n every k p u v S → FewRoutes L k p u v
  weak_so S w = record { one = up; two = vp; differ = ne; unlinked = apart; few = λ j r. omega (arith, routes_loss L n p u v below up vp ne j S r parts, w.loss.few) }
    where
      up : u is_in p
      up = (of_without p S u w.one).0

      vp : v is_in p
      vp = (of_without p S v w.two).0

      parted : ¬ Touch L (p without S) u v
      parted c = w.parted (touch_back m c)

      ne : u ≢ v
      ne e = parted (subst (λ (x : ℕ). Touch L (p without S) u x) e (here w.one))

      apart : L u v ≡ false
      apart = not_so (L u v) (λ l. parted (step w.one l (here w.two)))

      -- the loss has neither of the two
      off : (x y : ℕ) → y is_in p without S → x is_in S → x ≢ y
      off x y h i e = never (S x) i (subst (λ (z : ℕ). S z ≡ false) (sym e) (of_without p S y h).1)

      parts : Parts L p u v S
      parts = record { within = λ x i. in_less (p without only u) v x (in_less p u x (w.loss.part x i) (off x u w.one i)) (off x v w.two i); parts = parted }

  weak_when : FewRoutes L k p u v → (S : Set) × WeakPair L n every k p u v S
  weak_when f =
      let (c, most, least) = menger L n p u v below f.one f.two f.differ f.unlinked in
      let S = least.loss in
      let inner = least.parts.within in
      let out : (x : ℕ) → x is_in p → (x is_in S → ⊥) → x is_in p without S = λ x h o. in_without p S x h (not_so (S x) o) in (
        S,
        record {
          loss = record { part = λ x i. (of_others p u v x (inner x i)).0; free = λ x i. refl; few = omega (arith, least.exact, f.few c most.routes) };
          one = out u f.one (λ i. (of_others p u v u (inner u i)).1 refl);
          two = out v f.two (λ i. (of_others p u v v (inner v i)).2 refl);
          parted = λ t. least.parts.parts (touch_back m t);
        },
      )

  -- a pair that some loss of fewer than k parts is a weak pair, and each weak pair is one
  pub weak_pair_exactly : ((S : Set) × WeakPair L n every k p u v S) ↔ FewRoutes L k p u v
  weak_pair_exactly = (λ (S, w). weak_so S w, weak_when)
