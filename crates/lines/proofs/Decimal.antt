-- The digits that `io::decimal` gives are the number in decimal, and a number below 10 ^ p has at most p of them.
use mathlib.Core.Bool.{Bool, true, false, cond}
use mathlib.Core.List.{List, [], ◌∷◌, ◌++◌}
use mathlib.Core.Path.{◌≡◌, refl, sym, ◌∙◌, ap, subst}
use Prim.Native.Nat.{ℕ, zero, suc, ◌+◌, ◌-◌, ◌/◌, ◌%◌, ◌^◌, ◌<◌, ◌≤◌}
use native.Mathlib.Nat.{pow-suc, pow-le-pow_right}
use native.Mathlib.Decide.{dec_le}
use native.Mathlib.Omega.{arith}
use lib.Dec.{ltb}
use lib.ListN.{length, length-append}
use borrow.Author.Tests.{ltb-true, ltb-false}
use Rattle.io.specs.Digits.{hex_digit_ascii, last_digits, IsDigitCount}
use Rattle.lines.specs.Lines.{digit, decimal_in, decimal}

below : (x : ℕ) → x < 10 → ltb x 10 ≡ true
below x h = go (ltb x 10) refl
  where
    go : (b : Bool) → ltb x 10 ≡ b → b ≡ true
    go true e = refl
    go false e = absurd (omega (arith, ltb-false x 10 e))

not_below : (x : ℕ) → 10 ≤ x → ltb x 10 ≡ false
not_below x h = go (ltb x 10) refl
  where
    go : (b : Bool) → ltb x 10 ≡ b → b ≡ false
    go true e = absurd (omega (arith, ltb-true x 10 e))
    go false e = refl

glyph_digit : (d : ℕ) → d < 10 → hex_digit_ascii d ≡ digit d
glyph_digit d h = ap (λ (b : Bool). cond b (48 + d) (87 + d)) (below d h)

one_digit : (x : ℕ) → x < 10 → hex_digit_ascii (x % 10) ∷ [] ≡ digit x ∷ []
one_digit x h = ap (λ (d : ℕ). d ∷ []) (glyph_digit (x % 10) (omega arith) ∙ ap digit (omega arith))

-- one digit, and one more
short : (more x : ℕ) → x < 10 → decimal_in more x ≡ digit x ∷ []
unfolding decimal_in
short zero x h = refl
short (suc more) x h = ap (λ (b : Bool). cond b (digit x ∷ []) (decimal_in more (x / 10) ++ (digit (x % 10) ∷ []))) (below x h)

long : (more x : ℕ) → 10 ≤ x → decimal_in (suc more) x ≡ decimal_in more (x / 10) ++ (digit (x % 10) ∷ [])
unfolding decimal_in
long more x h = ap (λ (b : Bool). cond b (digit x ∷ []) (decimal_in more (x / 10) ++ (digit (x % 10) ∷ []))) (not_below x h)

pow_pos : (p : ℕ) → 0 < 10 ^ p
pow_pos zero = omega arith
pow_pos (suc p) = omega (arith, pow-suc 10 p, pow_pos p)

digits_decimal : (more x k : ℕ) → k ≤ suc more → IsDigitCount 10 1 x k → last_digits 10 k x ≡ decimal_in more x
digits_decimal more x zero h f = absurd (omega (arith, f.0))
digits_decimal more x (suc zero) h f = one_digit x (omega (arith, f.1)) ∙ sym (short more x (omega (arith, f.1)))
digits_decimal zero x (suc (suc k)) h f = absurd (omega arith)
digits_decimal (suc more) x (suc (suc k)) h f =
    ap (λ (w : List ℕ). w ++ (hex_digit_ascii (x % 10) ∷ [])) (digits_decimal more (x / 10) (suc k) (omega arith) fewer)
    ∙ ap (λ (d : ℕ). decimal_in more (x / 10) ++ (d ∷ [])) (glyph_digit (x % 10) (omega arith))
    ∙ sym (long more x (omega (arith, large, pow-suc 10 k, pow_pos k)))
  where
    large : 10 ^ suc k ≤ x
    large = subst (λ (j : ℕ). 10 ^ j ≤ x) (omega arith) (f.2 (omega arith))

    fewer : IsDigitCount 10 1 (x / 10) (suc k)
    fewer = (omega arith, omega (arith, f.1, pow-suc 10 (suc k)), λ l. subst (λ (j : ℕ). 10 ^ j ≤ x / 10) {x = k} (omega arith) (omega (arith, pow-suc 10 k, large)))

pub decimal_is : (x k : ℕ) → k ≤ 20 → IsDigitCount 10 1 x k → last_digits 10 k x ≡ decimal x
decimal_is x k h f = digits_decimal 19 x k h f

pub decimal_most : (more x : ℕ) → length (decimal_in more x) ≤ suc more
unfolding decimal_in
decimal_most zero x = omega arith
decimal_most (suc more) x = go (ltb x 10) (decimal_most more (x / 10))
  where
    go : (b : Bool) → length (decimal_in more (x / 10)) ≤ suc more → length (cond b (digit x ∷ []) (decimal_in more (x / 10) ++ (digit (x % 10) ∷ []))) ≤ suc (suc more)
    go true h = omega arith
    go false h = omega (arith, length-append (decimal_in more (x / 10)) (digit (x % 10) ∷ []), h)

pub decimal_length : (more x p : ℕ) → x < 10 ^ suc p → length (decimal_in more x) ≤ suc p
unfolding decimal_in
decimal_length zero x p h = omega arith
decimal_length (suc more) x p h = go (ltb x 10) refl p h (decimal_length more (x / 10))
  where
    go : (b : Bool) → ltb x 10 ≡ b → (p : ℕ) → x < 10 ^ suc p → ((q : ℕ) → x / 10 < 10 ^ suc q → length (decimal_in more (x / 10)) ≤ suc q)
        → length (cond b (digit x ∷ []) (decimal_in more (x / 10) ++ (digit (x % 10) ∷ []))) ≤ suc p
    go true e p h ih = omega arith
    go false e zero h ih = absurd (omega (arith, ltb-false x 10 e))
    go false e (suc p) h ih = omega (arith, length-append (decimal_in more (x / 10)) (digit (x % 10) ∷ []), ih p (omega (arith, pow-suc 10 (suc p))))

-- a 64-bit number has at most 20 digits
pub few_digits : (x k : ℕ) → x < 18446744073709551616 → IsDigitCount 10 1 x k → k ≤ 20
few_digits x k h f = go (dec_le k 20)
  where
    go : Dec (k ≤ 20) → k ≤ 20
    go (yes l) = l
    go (no l) = absurd (omega (arith, f.2 (omega arith), pow-le-pow_right {n = 10} (omega arith) {i = 20} {j = k - 1} (omega arith)))
