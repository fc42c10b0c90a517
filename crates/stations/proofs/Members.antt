-- Who is in a set made of others: in_.. puts a station in, of_.. says what it tells that one is in, off_.. keeps one out.
-- Sets that contain each other are equal (same_set).
use mathlib.Core.Bool.{Bool, true, false, not, ◌&&◌}
use mathlib.Core.Logic.{◌≢◌, ◌⊎◌}
use mathlib.Core.Path.{◌≡◌, refl, sym, ap, ◌∙◌, fun_ext}
use Prim.Native.Nat.{ℕ}
use borrow.Author.Tests.{eqb-true, eq-eqb, ne_eqb}
use Rattle.stations.specs.Sets.{Set, ◌is_in◌, ◌not_in◌, ◌part_of◌, only, ◌without◌, ◌cut◌, ◌joined◌}
use Rattle.stations.proofs.Bools.{never, not_true, and_left, and_right, and_in, or_cases, same_bool}

pub same_set : (s t : Set) → s part_of t → t part_of s → s ≡ t
same_set s t f g = fun_ext (λ x. same_bool (s x) (t x) (f x) (g x))

pub in_without : (s p : Set) (x : ℕ) → x is_in s → x not_in p → x is_in s without p
in_without s p x h g = cc

pub of_without : (s p : Set) (x : ℕ) → x is_in s without p → (x is_in s) × (x not_in p)
of_without s p x h = (and_left (s x) (not (p x)) h, not_true (p x) (and_right (s x) (not (p x)) h))

pub off_without : (s p : Set) (x : ℕ) → x not_in s → x not_in s without p
off_without s p x o = rw o

pub lost_without : (s p : Set) (x : ℕ) → x is_in p → x not_in s without p
lost_without s p x m = go (s x) (p x) m
  where
    go : (a b : Bool) → b ≡ true → (a && not b) ≡ false
    go true b e = rw e
    go false b e = refl

pub in_cut : (s t : Set) (x : ℕ) → x is_in s → x is_in t → x is_in s cut t
in_cut s t x p q = and_in (s x) (t x) p q

pub of_cut : (s t : Set) (x : ℕ) → x is_in s cut t → (x is_in s) × (x is_in t)
of_cut s t x h = (and_left (s x) (t x) h, and_right (s x) (t x) h)

pub of_joined : (s t : Set) (x : ℕ) → x is_in s joined t → (x is_in s) ⊎ (x is_in t)
of_joined s t x h = or_cases (s x) (t x) h

pub only_is : (a x : ℕ) → x is_in only a → x ≡ a
only_is a x h = eqb-true x a h

pub is_only : (a : ℕ) → a is_in only a
is_only a = eq-eqb a a refl

pub not_only : (a x : ℕ) → x ≢ a → x not_in only a
not_only a x d = ne_eqb x a d

-- s without the one station a
pub in_less : (s : Set) (a x : ℕ) → x is_in s → x ≢ a → x is_in s without only a
in_less s a x m ne = in_without s (only a) x m (not_only a x ne)

pub of_less : (s : Set) (a x : ℕ) → x is_in s without only a → (x is_in s) × (x ≢ a)
of_less s a x m =
    let h = of_without s (only a) x m in
    (h.0, λ e. never (only a a) (is_only a) (ap (only a) (sym e) ∙ h.1))

pub less_same : (s : Set) (a x : ℕ) → x ≢ a → (s without only a) x ≡ s x
less_same s a x ne = go (s x) (only a x) (not_only a x ne)
  where
    go : (b c : Bool) → c ≡ false → (b && not c) ≡ b
    go true c e = rw e
    go false c e = refl
