-- The laws of one bit of a word. Assumes nothing.
use mathlib.Core.Bool.{Bool, true, false, ◌&&◌, ◌||◌, not, xor}
use mathlib.Core.Path.{◌≡◌, refl, sym, ap, ap₂, ◌∙◌, subst}
use Prim.Native.Nat.{ℕ, zero, suc, ◌-◌, ◌/◌, ◌%◌, ◌^◌, ◌≤◌, ◌<◌, min, max, suc-le-suc}
use native.Mathlib.Nat.{zero-div, div-eq_of_lt, lt_of_lt_of_le, pow-suc, zero-lt-suc, div-one, not-suc-le-zero, le_of_suc-le-suc}
use native.Mathlib.Numerals.{one-add}
use native.Mathlib.Omega.{arith}
use lib.Arith.{lt-one}
use lib.Bits.{bit_and, bit_or, bit_xor, differ, and_shr, or_shr, xor_shr, and_step, or_step, xor_step, and_mask, and_self}
use lib.Count.{count_trailing_zeros, under}
use lib.Dec.{eqb, ltb, eqb-zero-suc, eqb-suc-zero, eqb-suc-suc, leb-zero, leb-suc-zero, leb-suc-suc}
use lib.Pow.{shr-shr, pow_mono, pow_pos}
use borrow.Author.Tests.{eqb-false}
use Rattle.stations.specs.Words.{bit}

-- ---- two digits

abbrev odd : ℕ → Bool
odd x = eqb (x % 2) 1

two : (x : ℕ) → x % 2 < 2
two x = omega arith

low : {x : ℕ} → suc (suc x) < 2 → ⊥
low h = omega arith

min_digit : (x y : ℕ) → x < 2 → y < 2 → eqb (min x y) 1 ≡ (eqb x 1 && eqb y 1)
min_digit zero zero p q = refl
min_digit zero (suc zero) p q = refl
min_digit (suc zero) zero p q = refl
min_digit (suc zero) (suc zero) p q = refl
min_digit zero (suc (suc y)) p q = absurd (low q)
min_digit (suc zero) (suc (suc y)) p q = absurd (low q)
min_digit (suc (suc x)) y p q = absurd (low p)

max_digit : (x y : ℕ) → x < 2 → y < 2 → eqb (max x y) 1 ≡ (eqb x 1 || eqb y 1)
max_digit zero zero p q = refl
max_digit zero (suc zero) p q = refl
max_digit (suc zero) zero p q = refl
max_digit (suc zero) (suc zero) p q = refl
max_digit zero (suc (suc y)) p q = absurd (low q)
max_digit (suc zero) (suc (suc y)) p q = absurd (low q)
max_digit (suc (suc x)) y p q = absurd (low p)

xor_digit : (x y : ℕ) → x < 2 → y < 2 → eqb (differ x y) 1 ≡ xor (eqb x 1) (eqb y 1)
unfolding xor
xor_digit zero zero p q = refl
xor_digit zero (suc zero) p q = refl
xor_digit (suc zero) zero p q = refl
xor_digit (suc zero) (suc zero) p q = refl
xor_digit zero (suc (suc y)) p q = absurd (low q)
xor_digit (suc zero) (suc (suc y)) p q = absurd (low q)
xor_digit (suc (suc x)) y p q = absurd (low p)

differ_low : (x y : ℕ) → x < 2 → y < 2 → differ x y < 2
differ_low zero y p q = q
differ_low (suc zero) zero p q = p
differ_low (suc zero) (suc zero) p q = zero-lt-suc 1
differ_low (suc zero) (suc (suc y)) p q = absurd (low q)
differ_low (suc (suc x)) y p q = absurd (low p)

and_odd : (x y : ℕ) → bit_and x y % 2 ≡ min (x % 2) (y % 2)
and_odd x y = omega (arith, and_step x y)

or_odd : (x y : ℕ) → bit_or x y % 2 ≡ max (x % 2) (y % 2)
or_odd x y = omega (arith, or_step x y)

xor_odd : (x y : ℕ) → bit_xor x y % 2 ≡ differ (x % 2) (y % 2)
xor_odd x y = omega (arith, xor_step x y, differ_low (x % 2) (y % 2) (two x) (two y))

-- ---- a bit of `&`, `|`, `^`

pub bit-and : (a b k : ℕ) → bit (bit_and a b) k ≡ (bit a k && bit b k)
unfolding bit
bit-and a b k = ap odd (and_shr a b k) ∙ ap (λ (x : ℕ). eqb x 1) (and_odd (a / 2 ^ k) (b / 2 ^ k)) ∙ min_digit (a / 2 ^ k % 2) (b / 2 ^ k % 2) (two (a / 2 ^ k)) (two (b / 2 ^ k))

pub bit-or : (a b k : ℕ) → bit (bit_or a b) k ≡ (bit a k || bit b k)
unfolding bit
bit-or a b k = ap odd (or_shr a b k) ∙ ap (λ (x : ℕ). eqb x 1) (or_odd (a / 2 ^ k) (b / 2 ^ k)) ∙ max_digit (a / 2 ^ k % 2) (b / 2 ^ k % 2) (two (a / 2 ^ k)) (two (b / 2 ^ k))

pub bit-xor : (a b k : ℕ) → bit (bit_xor a b) k ≡ xor (bit a k) (bit b k)
unfolding bit
bit-xor a b k = ap odd (xor_shr a b k) ∙ ap (λ (x : ℕ). eqb x 1) (xor_odd (a / 2 ^ k) (b / 2 ^ k)) ∙ xor_digit (a / 2 ^ k % 2) (b / 2 ^ k % 2) (two (a / 2 ^ k)) (two (b / 2 ^ k))

xor_less : (p q : Bool) → xor p (p && q) ≡ (p && not q)
unfolding xor
xor_less true true = refl
xor_less true false = refl
xor_less false q = refl

-- a ^ (a & b): what a has and b has not
pub bit_less : (a b k : ℕ) → bit (bit_xor a (bit_and a b)) k ≡ (bit a k && not (bit b k))
bit_less a b k = bit-xor a (bit_and a b) k ∙ ap (xor (bit a k)) (bit-and a b k) ∙ xor_less (bit a k) (bit b k)

-- ---- a bit of 0, the lowest bit, and the next

pub bit-none : (k : ℕ) → bit 0 k ≡ false
unfolding bit
bit-none k = ap odd (zero-div (2 ^ k))

pub bit_low : (w : ℕ) → bit w 0 ≡ eqb (w % 2) 1
unfolding bit
bit_low w = ap odd (div-one w)

pub bit-suc : (w k : ℕ) → bit w (suc k) ≡ bit (w / 2) k
unfolding bit
bit-suc w k = ap odd (ap (λ (m : ℕ). w / 2 ^ m) (sym (one-add k)) ∙ sym (shr-shr w 1 k))

-- the code's `w >> k & 1 == 1`
pub bit_test : (w k : ℕ) → eqb (bit_and (w / 2 ^ k) 1) 1 ≡ bit w k
unfolding bit
bit_test w k = ap (λ (x : ℕ). eqb x 1) (and_mask (w / 2 ^ k) 1)

pub bit_high : {w n : ℕ} (k : ℕ) → w < 2 ^ n → n ≤ k → bit w k ≡ false
unfolding bit
bit_high k h l = ap odd (div-eq_of_lt (lt_of_lt_of_le h (pow_mono l)))

-- ---- a word of one bit, and a word of the n lowest bits

half_pow : (n : ℕ) → 2 ^ suc n / 2 ≡ 2 ^ n
half_pow n = omega (arith, pow-suc 2 n)

even_pow : (n : ℕ) → 2 ^ suc n % 2 ≡ 0
even_pow n = omega (arith, pow-suc 2 n)

pub bit_one : (n k : ℕ) → bit (2 ^ n) k ≡ eqb k n
bit_one zero zero = bit_low 1
bit_one zero (suc k) = bit-suc 1 k ∙ bit-none k ∙ sym (eqb-suc-zero k)
bit_one (suc n) zero = bit_low (2 ^ suc n) ∙ ap (λ (x : ℕ). eqb x 1) (even_pow n) ∙ sym (eqb-zero-suc n)
bit_one (suc n) (suc k) = bit-suc (2 ^ suc n) k ∙ ap (λ (x : ℕ). bit x k) (half_pow n) ∙ bit_one n k ∙ sym (eqb-suc-suc k n)

half_mask : (n : ℕ) → (2 ^ suc n - 1) / 2 ≡ 2 ^ n - 1
half_mask n = omega (arith, pow-suc 2 n, pow_pos n)

odd_mask : (n : ℕ) → (2 ^ suc n - 1) % 2 ≡ 1
odd_mask n = omega (arith, pow-suc 2 n, pow_pos n)

pub bit_mask : (n k : ℕ) → bit (2 ^ n - 1) k ≡ ltb k n
bit_mask zero k = bit-none k ∙ sym (leb-suc-zero k)
bit_mask (suc n) zero = bit_low (2 ^ suc n - 1) ∙ ap (λ (x : ℕ). eqb x 1) (odd_mask n) ∙ sym (leb-suc-suc zero n ∙ leb-zero n)
bit_mask (suc n) (suc k) = bit-suc (2 ^ suc n - 1) k ∙ ap (λ (x : ℕ). bit x k) (half_mask n) ∙ bit_mask n k ∙ sym (leb-suc-suc (suc k) n)

-- ---- two words with the same bits

pub half_lt : {w : ℕ} (n : ℕ) → w < 2 ^ suc n → w / 2 < 2 ^ n
half_lt {w} n h = omega (arith, pow-suc 2 n)

digit_eq : (x y : ℕ) → x < 2 → y < 2 → eqb x 1 ≡ eqb y 1 → x ≡ y
digit_eq zero zero p q e = refl
digit_eq zero (suc zero) p q e = absurd (eqb-false 1 1 (sym e) refl)
digit_eq (suc zero) zero p q e = absurd (eqb-false 1 1 e refl)
digit_eq (suc zero) (suc zero) p q e = refl
digit_eq zero (suc (suc y)) p q e = absurd (low q)
digit_eq (suc zero) (suc (suc y)) p q e = absurd (low q)
digit_eq (suc (suc x)) y p q e = absurd (low p)

pub bit_ext : (n : ℕ) (v w : ℕ) → v < 2 ^ n → w < 2 ^ n → ((k : ℕ) → k < n → bit v k ≡ bit w k) → v ≡ w
bit_ext zero v w p q e = lt-one p ∙ sym (lt-one q)
bit_ext (suc n) v w p q e =
    let halves : v / 2 ≡ w / 2 = bit_ext n (v / 2) (w / 2) (half_lt n p) (half_lt n q) (λ k h. sym (bit-suc v k) ∙ e (suc k) (suc-le-suc h) ∙ bit-suc w k) in
    let lows : v % 2 ≡ w % 2 = digit_eq (v % 2) (w % 2) (two v) (two w) (sym (bit_low v) ∙ e zero (zero-lt-suc n) ∙ bit_low w) in
    omega arith

-- ---- the lowest set bit

trail_at : (d t n w : ℕ) → w % 2 ≡ d → under d t < suc n → (t < n → bit (w / 2) t ≡ true) → bit w (under d t) ≡ true
trail_at zero t n w e h r = bit-suc w t ∙ r (le_of_suc-le-suc h)
trail_at (suc zero) t n w e h r = bit_low w ∙ ap (λ (x : ℕ). eqb x 1) e
trail_at (suc (suc d)) t n w e h r = absurd (low (subst (λ (x : ℕ). x < 2) e (two w)))

pub trailing_at : (n w : ℕ) → count_trailing_zeros n w < n → bit w (count_trailing_zeros n w) ≡ true
unfolding count_trailing_zeros
trailing_at zero w h = absurd (not-suc-le-zero h)
trailing_at (suc n) w h = trail_at (w % 2) (count_trailing_zeros n (w / 2)) n w refl h (trailing_at n (w / 2))

trail_below : (d t w k : ℕ) → w % 2 ≡ d → k < under d t → ((j : ℕ) → j < t → bit (w / 2) j ≡ false) → bit w k ≡ false
trail_below zero t w zero e h r = bit_low w ∙ ap (λ (x : ℕ). eqb x 1) e
trail_below zero t w (suc k) e h r = bit-suc w k ∙ r k (le_of_suc-le-suc h)
trail_below (suc d) t w k e h r = absurd (not-suc-le-zero h)

pub trailing_below : (n w k : ℕ) → k < count_trailing_zeros n w → bit w k ≡ false
unfolding count_trailing_zeros
trailing_below zero w k h = absurd (not-suc-le-zero h)
trailing_below (suc n) w k h = trail_below (w % 2) (count_trailing_zeros n (w / 2)) w k refl h (trailing_below n (w / 2))

trail_lt : (d t n w : ℕ) → w % 2 ≡ d → (w ≡ 0 → ⊥) → ((w / 2 ≡ 0 → ⊥) → t < n) → under d t < suc n
trail_lt zero t n w e z r = suc-le-suc (r (λ (q : w / 2 ≡ 0). z (omega arith)))
trail_lt (suc d) t n w e z r = zero-lt-suc n

pub trailing_lt : (n w : ℕ) → w < 2 ^ n → (w ≡ 0 → ⊥) → count_trailing_zeros n w < n
unfolding count_trailing_zeros
trailing_lt zero w h z = absurd (z (lt-one h))
trailing_lt (suc n) w h z = trail_lt (w % 2) (count_trailing_zeros n (w / 2)) n w refl z (trailing_lt n (w / 2) (half_lt n h))

-- ---- a word without its lowest set bit, the code's `w & (w - 1)`
and_half : (a b : ℕ) → bit_and a b / 2 ≡ bit_and (a / 2) (b / 2)
and_half a b = and_shr a b 1

rest_at : (d n w t k : ℕ) → w % 2 ≡ d → (w ≡ 0 → ⊥)
    → ((w / 2 ≡ 0 → ⊥) → (j : ℕ) → bit (bit_and (w / 2) (w / 2 - 1)) j ≡ (bit (w / 2) j && not (eqb j t)))
    → bit (bit_and w (w - 1)) k ≡ (bit w k && not (eqb k (under d t)))
rest_at zero n w t zero e z ih =
    bit_low (bit_and w (w - 1)) ∙ ap (λ (x : ℕ). eqb x 1) low0 ∙ ap (λ (b : Bool). b && not (eqb 0 (suc t))) (sym (bit_low w ∙ ap (λ (x : ℕ). eqb x 1) e))
  where
    low0 : bit_and w (w - 1) % 2 ≡ 0
    low0 = omega (arith, and_odd w (w - 1))
rest_at zero n w t (suc k) e z ih =
    bit-suc (bit_and w (w - 1)) k
    ∙ ap (λ (x : ℕ). bit x k) (and_half w (w - 1) ∙ ap (bit_and (w / 2)) halves)
    ∙ ih (λ (q : w / 2 ≡ 0). z (omega arith)) k
    ∙ ap₂ (λ (a b : Bool). a && not b) (sym (bit-suc w k)) (sym (eqb-suc-suc k t))
  where
    halves : (w - 1) / 2 ≡ w / 2 - 1
    halves = omega arith
rest_at (suc zero) n w t zero e z ih =
    bit_low (bit_and w (w - 1)) ∙ ap (λ (x : ℕ). eqb x 1) low0 ∙ sym (and_none (bit w 0))
  where
    low0 : bit_and w (w - 1) % 2 ≡ 0
    low0 = omega (arith, and_odd w (w - 1))

    and_none : (b : Bool) → (b && not (eqb 0 0)) ≡ false
    and_none true = refl
    and_none false = refl
rest_at (suc zero) n w t (suc k) e z ih =
    bit-suc (bit_and w (w - 1)) k
    ∙ ap (λ (x : ℕ). bit x k) (and_half w (w - 1) ∙ ap (bit_and (w / 2)) halves ∙ and_self (w / 2))
    ∙ sym (bit-suc w k) ∙ and_some (bit w (suc k)) ∙ ap (λ (b : Bool). bit w (suc k) && not b) (sym (eqb-suc-zero k))
  where
    halves : (w - 1) / 2 ≡ w / 2
    halves = omega arith

    and_some : (b : Bool) → b ≡ (b && not false)
    and_some true = refl
    and_some false = refl
rest_at (suc (suc d)) n w t k e z ih = absurd (low (subst (λ (x : ℕ). x < 2) e (two w)))

pub bit_rest : (n w : ℕ) → w < 2 ^ n → (w ≡ 0 → ⊥) → (k : ℕ) → bit (bit_and w (w - 1)) k ≡ (bit w k && not (eqb k (count_trailing_zeros n w)))
unfolding count_trailing_zeros
bit_rest zero w h z k = absurd (z (lt-one h))
bit_rest (suc n) w h z k = rest_at (w % 2) n w (count_trailing_zeros n (w / 2)) k refl z (λ q. bit_rest n (w / 2) (half_lt n h) q)
