-- The links but for the pair's own: the pair has none (other_links_off), every other pair keeps its own (other_links_same), and where the pair is not
-- linked they are all links (other_links_all).
use mathlib.Core.Path.{◌≡◌, refl, sym, ◌∙◌, fun_ext}
use mathlib.Core.Logic.{◌⊎◌, inl, inr}
use mathlib.Core.Bool.{Bool, true, false, not, ◌&&◌, ◌||◌, and-false}
use Prim.Native.Nat.{ℕ}
use Rattle.stations.specs.Sets.{only}
use Rattle.stations.proofs.Bools.{test, never, and_left}
use Rattle.stations.proofs.Members.{only_is, is_only}
use Rattle.mesh.specs.Mesh.{Links}
use Rattle.linkage.specs.Pair.{other_links}

not_both : (p q : Bool) → (p ≡ true → q ≡ true → ⊥) → p && q ≡ false
not_both true true h = absurd (h refl refl)
not_both true false h = refl
not_both false q h = refl

pub other_links_in : (L : Links) (a b v w : ℕ) → L v w ≡ true → (v ≡ a → w ≡ b → ⊥) → (v ≡ b → w ≡ a → ⊥) → other_links L a b v w ≡ true
unfolding other_links
other_links_in L a b v w l o q =
    rw (l, not_both (only a v) (only b w) (λ e f. o (only_is a v e) (only_is b w f)), not_both (only b v) (only a w) (λ e f. q (only_is b v e) (only_is a w f)))

pub other_links_of : (L : Links) (a b v w : ℕ) → other_links L a b v w ≡ true → L v w ≡ true
unfolding other_links
other_links_of L a b v w e = and_left (L v w) (not ((only a v && only b w) || (only b v && only a w))) e

pub other_links_off : (L : Links) (a b : ℕ) → other_links L a b a b ≡ false
unfolding other_links
other_links_off L a b = rw (is_only a, is_only b) (and-false (L a b))

-- a link of another station is no link of the pair
pub other_links_same : (L : Links) (a b v w : ℕ) → (v ≡ a → w ≡ b → ⊥) → (v ≡ b → w ≡ a → ⊥) → other_links L a b v w ≡ L v w
other_links_same L a b v w o q = go (test (L v w)) (test (other_links L a b v w))
  where
    go : (L v w ≡ true) ⊎ (L v w ≡ false) → (other_links L a b v w ≡ true) ⊎ (other_links L a b v w ≡ false) → other_links L a b v w ≡ L v w
    go (inl l) t = other_links_in L a b v w l o q ∙ sym l
    go (inr l) (inl t) = never _ (other_links_of L a b v w t) l
    go (inr l) (inr t) = t ∙ sym l

-- two stations with no link have no other links than all
pub other_links_all : (L : Links) (a b : ℕ) → L a b ≡ false → L b a ≡ false → other_links L a b ≡ L
other_links_all L a b o q = fun_ext (λ v. fun_ext (λ w. go v w (test (L v w)) (test (other_links L a b v w))))
  where
    go : (v w : ℕ) → (L v w ≡ true) ⊎ (L v w ≡ false) → (other_links L a b v w ≡ true) ⊎ (other_links L a b v w ≡ false) → other_links L a b v w ≡ L v w
    go v w (inl l) t = other_links_same L a b v w (λ e f. never _ l (rw (e, f) o)) (λ e f. never _ l (rw (e, f) q))
    go v w (inr l) (inl t) = never _ (other_links_of L a b v w t) l
    go v w (inr l) (inr t) = t ∙ sym l
