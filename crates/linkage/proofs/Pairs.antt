-- The chains of a net that lies between two stations a and b are the routes between them, and its losses are the losses that part them.
-- A chain of stations in touch, from a to b: from its last station a on, and up to its first station b, it is a chain of the net, for the two are
-- not linked.
use mathlib.Core.Path.{◌≡◌, refl, sym, ap, ◌∙◌}
use mathlib.Core.Logic.{◌≢◌, ◌⊎◌, inl, inr}
use mathlib.Core.List.{List, [], ◌∷◌}
use Prim.Native.Nat.{ℕ}
use native.Mathlib.Decide.{ℕ_discrete}
use Rattle.stations.specs.Sets.{Set, ◌is_in◌, ◌part_of◌, ◌without◌, only}
use Rattle.stations.proofs.Bools.{never, not_so}
use Rattle.stations.proofs.Members.{in_without, of_without, in_less, of_less}
use Rattle.mesh.specs.Mesh.{Links, Touch, here, step}
use Rattle.mesh.specs.Routes.{others, Routes, Most, Least}
use Rattle.mesh.specs.Routes as routes
use Rattle.mesh.proofs.Chains.{touch_start}
use Rattle.linkage.specs.Net.{Net, Onward, Chain, Family, Parts, Menger}
use Rattle.linkage.specs.Pair.{Between}
use Rattle.linkage.proofs.Cuts.{greatest, least}

pub of_others : (s : Set) (a b w : ℕ) → w is_in others s a b → (w is_in s) × (w ≢ a) × (w ≢ b)
of_others s a b w m = let (h, nb) = of_less (s without only a) b w m in let (i, na) = of_less s a w h in (i, na, nb)

pub in_others : (s : Set) (a b w : ℕ) → w is_in s → w ≢ a → w ≢ b → w is_in others s a b
in_others s a b w m na nb = in_less (s without only a) b w (in_less s a w m na) nb

module _ {N : Net} {L : Links} {s : Set} {a b : ℕ} (B : Between N L s a b) where
  open N use {inner as D}

  outer : (w : ℕ) → w is_in D → w is_in others s a b
  outer w m = sym (B.inner w) ∙ m

  inward : (w : ℕ) → w is_in others s a b → w is_in D
  inward w m = B.inner w ∙ m

  -- ---- chains

  onward_out : (x : ℕ) (l : List ℕ) → x is_in D → Onward N D x l → routes.Chain L (others s a b) x l b
  onward_out x [] m o = sym (B.ends x m) ∙ o
  onward_out x (y ∷ l) m o = (outer y o.0, sym (B.links x y m o.0) ∙ o.1, onward_out y l o.0 o.2)

  chain_out : (l : List ℕ) → Chain N D l → routes.Chain L (others s a b) a l b
  chain_out [] c = absurd c
  chain_out (y ∷ l) c = (outer y c.0, sym (B.starts y c.0) ∙ c.1, onward_out y l c.0 c.2)

  onward_in : (x : ℕ) (l : List ℕ) → x is_in D → routes.Chain L (others s a b) x l b → Onward N D x l
  onward_in x [] m c = B.ends x m ∙ c
  onward_in x (y ∷ l) m c = let i = inward y c.0 in (i, B.links x y m i ∙ c.1, onward_in y l i c.2)

  chain_in : (l : List ℕ) → routes.Chain L (others s a b) a l b → Chain N D l
  chain_in [] c = never _ c B.unlinked
  chain_in (y ∷ l) c = let i = inward y c.0 in (i, B.starts y i ∙ c.1, onward_in y l i c.2)

  pub family_routes : (k : ℕ) → Family N k → Routes L s a b k
  family_routes k F = record { chain = F.chain; leads = λ i h. chain_out (F.chain i h) (F.good i h); apart = F.disjoint }

  pub routes_family : (k : ℕ) → Routes L s a b k → Family N k
  routes_family k R = record { chain = R.chain; good = λ i h. chain_in (R.chain i h) (R.leads i h); disjoint = R.apart }

  -- ---- losses

  module _ (S : Set) where
    abbrev Some : Type 0
    Some = (l : List ℕ) × Chain N (D without S) l

    abbrev From : ℕ → Type 0
    From x = (x ≢ a) × (x ≢ b) × ((l : List ℕ) × Onward N (D without S) x l)

    left : (x : ℕ) → x is_in s without S → x ≢ a → x ≢ b → x is_in D without S
    left x m na nb = let h = of_without s S x m in in_without D S x (inward x (in_others s a b x h.0 na nb)) h.1

    trim : (x y : ℕ) → Touch L (s without S) x y → y ≡ b → (x ≡ b) ⊎ (Some ⊎ From x)
    trim x _ (here m) e = inl e
    trim x y (step {b = z} m l t) e = go (trim z y t e) (ℕ_discrete x a) (ℕ_discrete x b)
      where
        stays : (w : ℕ) → w is_in D without S → w is_in D
        stays w i = (of_without D S w i).0

        go : (z ≡ b) ⊎ (Some ⊎ From z) → Dec (x ≡ a) → Dec (x ≡ b) → (x ≡ b) ⊎ (Some ⊎ From x)
        go r p (yes q) = inl q
        go (inr (inl c)) p (no q) = inr (inl c)
        go (inl f) (yes p) (no q) = never _ (ap (λ (u : ℕ). L u z) (sym p) ∙ l) (ap (L a) f ∙ B.unlinked)
        go (inl f) (no p) (no q) = inr (inr (p, q, ([], B.ends x (stays x (left x m p q)) ∙ ap (L x) (sym f) ∙ l)))
        go (inr (inr (f, g, (r, o)))) (yes p) (no q) =
            let d = left z (touch_start t) f g in
            inr (inl (z ∷ r, (d, B.starts z (stays z d) ∙ ap (λ (u : ℕ). L u z) (sym p) ∙ l, o)))
        go (inr (inr (f, g, (r, o)))) (no p) (no q) =
            let d = left z (touch_start t) f g in
            inr (inr (p, q, (z ∷ r, (d, B.links x z (stays x (left x m p q)) (stays z d) ∙ l, o))))

    -- a loss of inner stations that leaves no chain of the net parts a from b
    pub parts_loss : S part_of D → Parts N S → routes.Parts L s a b S
    parts_loss part p = record {
      within = λ w m. outer w (part w m);
      parts = λ t. elim (trim a b t refl) [ inl e ↦ B.differ e | inr (inl (l, c)) ↦ p l c | inr (inr (f, _, _)) ↦ f refl ];
    }

    -- and a loss that parts a from b leaves no chain of the net
    module _ (P : routes.Parts L s a b S) where
      off : (x : ℕ) → (x is_in S → ⊥) → x is_in s → x is_in s without S
      off x o m = in_without s S x m (not_so (S x) o)

      keeps : (x : ℕ) → x is_in D without S → x is_in s without S
      keeps x m = let h = of_without D S x m in in_without s S x (of_others s a b x (outer x h.0)).0 h.1

      stays : (x : ℕ) → x is_in D without S → x is_in D
      stays x m = (of_without D S x m).0

      onward_touch : (x : ℕ) (l : List ℕ) → x is_in D without S → Onward N (D without S) x l → Touch L (s without S) x b
      onward_touch x [] m o = step (keeps x m) (sym (B.ends x (stays x m)) ∙ o) (here (off b (λ i. (of_others s a b b (P.within b i)).2 refl) B.b_in))
      onward_touch x (y ∷ l) m o = step (keeps x m) (sym (B.links x y (stays x m) (stays y o.0)) ∙ o.1) (onward_touch y l o.0 o.2)

      pub loss_parts : Parts N S
      loss_parts [] c = c
      loss_parts (y ∷ l) c = P.parts (
          step (off a (λ i. (of_others s a b a (P.within a i)).1 refl) B.a_in) (sym (B.starts y (stays y c.0)) ∙ c.1) (onward_touch y l c.0 c.2)
          )

  -- ---- Menger's theorem for the net is Menger's theorem for the two stations

  pub between_most : (M : Menger N) → Most L s a b M.number
  between_most M = record { routes = family_routes M.number M.family; most = λ j R. greatest N M j (routes_family j R) }

  pub between_least : (M : Menger N) → Least L N.mark s a b M.number
  between_least M = record {
    loss = M.loss;
    parts = parts_loss M.loss M.within M.parts;
    exact = M.exact;
    least = λ S P. least N M S (loss_parts S P);
  }
