-- An island, a wave at a time. Kept: what is reached is in touch with the start, and a reached station that is not in the front
-- has all its links of the set reached (Grown). A wave is what the front is linked to in the set and has not been reached. Where
-- it is empty, what is reached is closed under links, so it is the island.
use mathlib.Core.Bool.{Bool, true, false, ◌||◌}
use mathlib.Core.Logic.{⊎_elim}
use mathlib.Core.Path.{◌≡◌, refl, sym, ap, ◌∙◌, subst}
use Prim.Native.Nat.{ℕ, ◌<◌, ◌≤◌}
use native.Mathlib.Omega.{arith}
use Rattle.stations.specs.Sets.{Set, ◌is_in◌, ◌not_in◌, ◌part_of◌, only, ◌without◌, ◌cut◌, ◌joined◌, Below, size}
use Rattle.stations.proofs.Bools.{test, never, not_so, or_cases, or_left, or_right, or_off}
use Rattle.stations.proofs.Members.{in_without, of_without, in_cut, of_cut, only_is, is_only}
use Rattle.stations.proofs.Counting.{full}
use Rattle.mesh.specs.Mesh.{Links, Touch, here}
use Rattle.mesh.proofs.Chains.{touch_end, touch_link, closed_touch}
use Rattle.touch.specs.Reach.{Island, Spread}

-- r is reached from a inside s, p is the front
pub record Grown (L : Links) (s : Set) (a : ℕ) (r p : Set) : Type 0 where
  pub sound : (x : ℕ) → x is_in r → Touch L s a x
  pub began : a is_in r
  pub waits : p part_of r
  pub closed : (x y : ℕ) → x is_in r → x not_in p → L x y ≡ true → y is_in s → y is_in r

-- at the start
pub grown_one : (L : Links) (s : Set) (a : ℕ) (r p : Set) → a is_in s → ((x : ℕ) → r x ≡ only a x) → ((x : ℕ) → p x ≡ only a x) → Grown L s a r p
grown_one L s a r p h lr lp = record {
  sound = λ x e. subst (Touch L s a) (sym (only_is a x (sym (lr x) ∙ e))) (here h);
  began = lr a ∙ is_only a;
  waits = λ x e. lr x ∙ sym (lp x) ∙ e;
  closed = λ x y e f _ _. never (r x) e (lr x ∙ sym (lp x) ∙ f);
}

-- the front lies in the set
pub grown_inside : {L : Links} {s : Set} {a : ℕ} {r p : Set} → Grown L s a r p → p part_of s
grown_inside g x e = touch_end (g.sound x (g.waits x e))

-- at the end
pub grown_all : (L : Links) (s : Set) (a : ℕ) (r p : Set) → Grown L s a r p → ((x : ℕ) → x not_in p) → Island L s a r
grown_all L s a r p g z = record { only = g.sound; all = λ x c. closed_touch r (λ x y i j l. g.closed x y i (z x) l j) c g.began }

-- ---- a wave: u is what the front is linked to, n what of it is in the set and not reached
module _ (L : Links) (s : Set) (a : ℕ) (r p u n r' : Set) (g : Grown L s a r p) (f : Spread L p u)
    (ln : (x : ℕ) → n x ≡ ((u cut s) without r) x) (lr : (x : ℕ) → r' x ≡ (r joined n) x) where
  new : (x : ℕ) → x is_in n → (x is_in u) × (x is_in s) × (x not_in r)
  new x e =
      let (i, o) = of_without (u cut s) r x (sym (ln x) ∙ e) in
      let (y, z) = of_cut u s x i in
      (y, z, o)

  sound : (x : ℕ) → x is_in r' → Touch L s a x
  sound x e =
      ⊎_elim (g.sound x) (λ h. let (i, j, o) = new x h in let (y, m, l) = f.some x i in touch_link (g.sound y (g.waits y m)) l j)
      (or_cases (r x) (n x) (sym (lr x) ∙ e))

  closed : (x y : ℕ) → x is_in r' → x not_in n → L x y ≡ true → y is_in s → y is_in r'
  closed x y e z l m =
      let old : x is_in r = ⊎_elim (λ h. h) (λ h. never (n x) h z) (or_cases (r x) (n x) (sym (lr x) ∙ e)) in
      lr y
      ∙ ⊎_elim (or_left (r y) (n y))
      (λ h. or_right (r y) (n y)
      (⊎_elim (λ q. ln y ∙ in_without (u cut s) r y (in_cut u s y (f.all x y q l) m) h) (λ q. never (r y) (g.closed x y old q l m) h) (test (p x))))
      (test (r y))

  pub wave_more : Grown L s a r' n
  wave_more = record { sound = sound; began = lr a ∙ or_left (r a) (n a) g.began; waits = λ x e. lr x ∙ or_right (r x) (n x) e; closed = closed }

  -- fewer stations of the set are left to reach, where the wave has some
  pub wave_fewer : Below 256 s → (((x : ℕ) → x not_in n) → ⊥) → size 256 (s without r') < size 256 (s without r)
  wave_fewer b some = omega (arith, whole)
    where
      part : s without r' part_of s without r
      part x e =
          let (i, o) = of_without s r' x e in
          in_without s r x i (or_off (r x) (n x) (sym (lr x) ∙ o)).0

      whole : size 256 (s without r) ≤ size 256 (s without r') → ⊥
      whole q = some (λ x. not_so (n x) (λ e.
          let (_, i, o) = new x e in
          let (_, o') = of_without s r' x (full 256 (s without r') (s without r) (λ y h. b y (of_without s r y h).0) part q x (in_without s r x i o)) in
          never (r' x) (lr x ∙ or_right (r x) (n x) e) o'))

pub wave_end : (L : Links) (s : Set) (a : ℕ) (r p u n : Set) → Grown L s a r p → Spread L p u → ((x : ℕ) → n x ≡ ((u cut s) without r) x)
    → ((x : ℕ) → x not_in n) → Island L s a r
wave_end L s a r p u n g f ln z = grown_all L s a r n (wave_more L s a r p u n r g f ln (λ x. or-none (r x) ∙ ap (λ (b : Bool). r x || b) (sym (z x)))) z
  where
    or-none : (b : Bool) → b ≡ (b || false)
    or-none true = refl
    or-none false = refl
