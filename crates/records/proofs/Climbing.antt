-- A loop over numbers that must rise, the first of them above 0: each has to be above the last one, which is 0 where there is none yet.
-- A number that is not breaks the rule, and once all are past, none does. Links rise by the number a * 256 + b:
-- for b below 256 that number rises exactly when the pairs do, by a, then b.
use mathlib.Core.Logic.{inl, inr}
use mathlib.Core.Path.{◌≡◌, refl, sym, ap}
use Prim.Native.Nat.{ℕ, zero, suc, ◌+◌, ◌*◌, ◌<◌, ◌≤◌}
use native.Mathlib.Decide.{dec_lt, ℕ_discrete}
use native.Mathlib.Omega.{arith}
use Rattle.records.specs.Survey.{Serials, After, Pairs}
use Rattle.records.specs.Lines.{SerialFault, a_zero, not_rising, LinkFault, not_apart, not_below, not_after}
use Rattle.records.specs.Steps.{Wrong, crossed, beyond, early}

-- the numbers f 0 .. f (i - 1) rise from 1 up, and the next has to be above the last
pub record Climb (f : ℕ → ℕ) (i last : ℕ) : Type 0 where
  pub some : (k : ℕ) → k < i → 0 < f k
  pub rising : (k : ℕ) → suc k < i → f k < f (suc k)
  pub next : (k : ℕ) → suc k ≡ i → last ≡ f k
  pub alone : i ≡ 0 → last ≡ 0

-- ---- serials
pub serials_broken : {f : ℕ → ℕ} {i last : ℕ} (n : ℕ) → Climb f i last → i < n → f i ≤ last → SerialFault n f
serials_broken {f} {i} {last} n C l h = go i refl
  where
    go : (k : ℕ) → i ≡ k → SerialFault n f
    go zero e = a_zero i l (omega (arith, C.alone e))
    go (suc k) e = not_rising k (omega arith) (omega (arith, C.next k (sym e), ap f e))

positive : (x : ℕ) → (x ≡ 0 → ⊥) → 0 < x
positive x h = omega arith

above : (x y : ℕ) → (y ≤ x → ⊥) → x < y
above x y h = omega arith

-- no fault, so the serials are right; and the other way round
pub serials_right : (n : ℕ) (f : ℕ → ℕ) → ¬ SerialFault n f → Serials n f
serials_right n f h = record { some = λ i l. positive (f i) (λ e. h (a_zero i l e)); rising = λ i l. above (f i) (f (suc i)) (λ e. h (not_rising i l e)) }

pub serials_faultless : {n : ℕ} {f : ℕ → ℕ} → Serials n f → ¬ SerialFault n f
serials_faultless S (a_zero i l e) = omega (arith, S.some i l)
serials_faultless S (not_rising i l e) = omega (arith, S.rising i l)

-- ---- links
-- the first j links are right, and the next has to be above the last
pub record LinkClimb (n : ℕ) (a b : ℕ → ℕ) (j last : ℕ) : Type 0 where
  pub apart : (k : ℕ) → k < j → a k < b k
  pub below : (k : ℕ) → k < j → b k < n
  pub climb : Climb (λ k. a k * 256 + b k) j last

pub links_broken : {n : ℕ} {a b : ℕ → ℕ} {j last : ℕ} (m : ℕ) → n ≤ 256 → LinkClimb n a b j last → j < m → Wrong n last (a j) (b j) → LinkFault n m a b
links_broken m s C l (crossed h) = not_apart _ l h
links_broken m s C l (beyond h i) = not_below _ l i
links_broken {n} {a} {b} {j} {last} m s C l (early h i u) = go j refl
  where
    late : (k : ℕ) → j ≡ suc k → After (a k) (b k) (a (suc k)) (b (suc k)) → ⊥
    late k e (inl g) = omega (arith, C.climb.next k (sym e), C.below k (omega arith), ap a e, ap b e)
    late k e (inr (p, q)) = omega (arith, C.climb.next k (sym e), ap a e, ap b e)

    go : (k : ℕ) → j ≡ k → LinkFault n m a b
    go zero e = absurd (omega (arith, C.climb.alone e))
    go (suc k) e = not_after k (omega arith) (late k e)

pub pairs_faultless : {n m : ℕ} {a b : ℕ → ℕ} → Pairs n m a b → ¬ LinkFault n m a b
pairs_faultless P (not_apart j l h) = omega (arith, P.apart j l)
pairs_faultless P (not_below j l h) = omega (arith, P.below j l)
pairs_faultless P (not_after j l h) = h (P.rising j l)

-- the rule can be decided, so no fault says that the pairs are right
pub pairs_right : (n m : ℕ) (a b : ℕ → ℕ) → ¬ LinkFault n m a b → Pairs n m a b
pairs_right n m a b h = record {
  apart = λ j l. above (a j) (b j) (λ e. h (not_apart j l e));
  below = λ j l. above (b j) n (λ e. h (not_below j l e));
  rising = λ j l. so j l (dec_lt (a j) (a (suc j))) (ℕ_discrete (a j) (a (suc j))) (dec_lt (b j) (b (suc j)));
}
  where
    so : (j : ℕ) → suc j < m → Dec (a j < a (suc j)) → Dec (a j ≡ a (suc j)) → Dec (b j < b (suc j)) → After (a j) (b j) (a (suc j)) (b (suc j))
    so j l (yes p) q r = inl p
    so j l (no p) (yes q) (yes r) = inr (q, r)
    so j l (no p) (no q) r = absurd (h (not_after j l (λ f. elim f [ inl u ↦ p u | inr u ↦ q u.0 ])))
    so j l (no p) (yes q) (no r) = absurd (h (not_after j l (λ f. elim f [ inl u ↦ p u | inr u ↦ r u.1 ])))
