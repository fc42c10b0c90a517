-- Sets less some of their stations: what the search takes out of a piece, and the losses of what is left.
use mathlib.Core.Bool.{Bool, true, false, not, ◌&&◌, ◌||◌}
use mathlib.Core.Logic.{◌⊎◌, inl, inr}
use mathlib.Core.Path.{◌≡◌, refl, fun_ext}
use Prim.Native.Nat.{ℕ}
use Rattle.stations.specs.Sets.{Set, ◌is_in◌, ◌not_in◌, ◌part_of◌, only, ◌without◌, ◌joined◌}
use Rattle.stations.proofs.Bools.{test, never, or_cases}
use Rattle.stations.proofs.Members.{in_without, of_without, only_is}

pub nothing : (p : Set) (x : ℕ) → ¬ (x is_in p without p)
nothing p x g = let w = of_without p p x g in never (p x) w.0 w.1

pub joined_part : (s t p : Set) → s part_of p → t part_of p → s joined t part_of p
joined_part s t p f g x h = go (or_cases (s x) (t x) h)
  where
    go : (x is_in s) ⊎ (x is_in t) → x is_in p
    go (inl a) = f x a
    go (inr a) = g x a

pub without_less : (p q : Set) (u x : ℕ) → x is_in p without q → x is_in p without (q without only u)
without_less p q u x g = let w = of_without p q x g in rw (w.0, w.1) refl

-- what p has beside q without u is what it has beside q, or u
pub without_one : (p q : Set) (u x : ℕ) → x is_in p without (q without only u) → (x is_in p without q) ⊎ (x ≡ u)
without_one p q u x g = go (of_without p (q without only u) x g) (test (q x)) (test (only u x))
  where
    go : (x is_in p) × (x not_in q without only u) → (q x ≡ true) ⊎ (q x ≡ false) → (only u x ≡ true) ⊎ (only u x ≡ false) → (x is_in p without q) ⊎ (x ≡ u)
    go a c (inl d) = inr (only_is u x d)
    go a (inr c) (inr d) = inl (in_without p q x a.0 c)
    go a (inl c) (inr d) = never ((q without only u) x) (in_without q (only u) x c d) a.1

-- what p has beside p without u is u
pub only_gone : (p : Set) (u x : ℕ) → x is_in p without (p without only u) → x ≡ u
only_gone p u x g = go (without_one p p u x g)
  where
    go : (x is_in p without p) ⊎ (x ≡ u) → x ≡ u
    go (inl a) = absurd (nothing p x a)
    go (inr a) = a

-- without t, and then without q
pub without_twice : (s q t : Set) → (s without t) without q ≡ s without (q joined t)
without_twice s q t = fun_ext (λ x. go (s x) (q x) (t x))
  where
    go : (a b c : Bool) → (a && not c) && not b ≡ a && not (b || c)
    go true true true = refl
    go true true false = refl
    go true false true = refl
    go true false false = refl
    go false b c = refl
