-- The set bits of a word, counted: as many as the word has ones.
use mathlib.Core.Path.{◌≡◌, refl, sym, ap, ap₂, ◌∙◌}
use Prim.Native.Nat.{ℕ, zero, suc, ◌+◌, ◌/◌, ◌%◌, ◌^◌, ◌<◌}
use native.Mathlib.Nat.{not-suc-le-zero, le_of_suc-le-suc}
use native.Mathlib.Numerals.{one-add}
use native.Mathlib.Omega.{arith}
use lib.Arith.{lt-one}
use lib.Count.{ones, ones_step}
use lib.Dec.{eqb}
use Rattle.stations.specs.Sets.{Set, one_if, size}
use Rattle.stations.specs.Words.{bit}
use Rattle.stations.proofs.Bit.{bit_low, bit-suc, half_lt}
use Rattle.stations.proofs.Counting.{size_ext, size-add}

digit : (x : ℕ) → x < 2 → one_if (eqb x 1) ≡ x
digit zero h = refl
digit (suc zero) h = refl
digit (suc (suc x)) h = absurd (not-suc-le-zero (le_of_suc-le-suc (le_of_suc-le-suc h)))

-- counted from below
size_low : (n : ℕ) (s : Set) → size (suc n) s ≡ one_if (s 0) + size n (λ x. s (suc x))
unfolding size
size_low n s =
    ap (λ (m : ℕ). size m s) (sym (one-add n)) ∙ size-add 1 n s
    ∙ ap₂ (λ (x y : ℕ). x + y) (one (one_if (s 0))) (size_ext n (λ x. s (1 + x)) (λ x. s (suc x)) (λ x h. ap s (one-add x)))
  where
    one : (m : ℕ) → m + 0 ≡ m
    one m = omega arith

pub size-bit : (n w : ℕ) → w < 2 ^ n → size n (bit w) ≡ ones w
unfolding size ones
size-bit zero w h = ap ones (sym (lt-one h))
size-bit (suc n) w h =
    let low : one_if (bit w zero) ≡ w % 2 = ap one_if (bit_low w) ∙ digit (w % 2) (omega arith) in
    let rest : size n (λ j. bit w (suc j)) ≡ ones (w / 2) = size_ext n (λ j. bit w (suc j)) (bit (w / 2)) (λ j p. bit-suc w j) ∙ size-bit n (w / 2) (half_lt n h) in
    size_low n (bit w) ∙ ap₂ (λ (x y : ℕ). x + y) low rest ∙ sym (ones_step w)
