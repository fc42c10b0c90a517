-- One bit set in a table: the row of a gains station b, and nothing else changes.
-- The word at a * 4 + b / 64 is the only one that differs, and of its bits only b % 64.
use mathlib.Core.Bool.{Bool, true, false, ◌&&◌, ◌||◌}
use mathlib.Core.List.{List}
use mathlib.Core.Path.{◌≡◌, refl, sym, ap, ap₂, ◌∙◌}
use Prim.Native.Nat.{ℕ, ◌+◌, ◌*◌, ◌/◌, ◌%◌, ◌^◌, ◌<◌, ◌≤◌}
use native.Mathlib.Nat.{one-mul}
use native.Mathlib.Decide.{dec_lt, ℕ_discrete}
use native.Mathlib.Omega.{arith}
use lib.Bits.{bit_or}
use lib.Dec.{eqb, lit<}
use lib.ListN.{length, get_or, set}
use lib.Pow.{shl_exact}
use lib.Seq.{get_or-set_same, get_or-set_other}
use borrow.Author.Tests.{eq-eqb, eqb-true}
use Rattle.stations.specs.Words.{bit, row}
use Rattle.stations.proofs.Bools.{not_so, and_left, and_right}
use Rattle.stations.proofs.Bit.{bit-or, bit_one}
use Rattle.stations.proofs.Laws.{row_word, has_beyond, eqb_iff, none_four}
use Rattle.mesh.specs.Table.{linked}

-- the code's `1 << n`
shifted : (n : ℕ) → n < 64 → 1 * 2 ^ n % 2 ^ 64 ≡ 2 ^ n
shifted n h = shl_exact 1 n 64 (lit< tt) (omega arith) ∙ one-mul (2 ^ n)

or-none : (p : Bool) → (p || false) ≡ p
or-none true = refl
or-none false = refl

module _ (t : List ℕ) (a b : ℕ) (small : b < 256) (fits : a * 4 + 4 ≤ length t) where
  abbrev at : ℕ
  at = a * 4 + b / 64

  abbrev word : ℕ
  word = bit_or (get_or t at 0) (1 * 2 ^ (b % 64) % 2 ^ 64)

  abbrev after : List ℕ
  after = set t at word

  word_bit : (k : ℕ) → bit word k ≡ (bit (get_or t at 0) k || eqb k (b % 64))
  word_bit k =
      bit-or (get_or t at 0) (1 * 2 ^ (b % 64) % 2 ^ 64) k
      ∙ ap (λ (w : ℕ). bit (get_or t at 0) k || bit w k) (shifted (b % 64) (omega arith))
      ∙ ap (λ (p : Bool). bit (get_or t at 0) k || p) (bit_one (b % 64) k)

  apart : (x y : ℕ) → (x ≡ a → y ≡ b → ⊥) → (eqb x a && eqb y b) ≡ false
  apart x y h = not_so (eqb x a && eqb y b) (λ e. h (eqb-true x a (and_left (eqb x a) (eqb y b) e)) (eqb-true y b (and_right (eqb x a) (eqb y b) e)))

  unchanged : (x y : ℕ) → (x ≡ a → y ≡ b → ⊥) → linked after x y ≡ linked t x y → linked after x y ≡ (linked t x y || (eqb x a && eqb y b))
  unchanged x y h e = e ∙ sym (ap (λ (p : Bool). linked t x y || p) (apart x y h) ∙ or-none (linked t x y))

  pub link_put : (x y : ℕ) → linked after x y ≡ (linked t x y || (eqb x a && eqb y b))
  link_put x y = go (dec_lt y 256)
    where
      here : y < 256 → x * 4 + y / 64 ≡ at → linked after x y ≡ (linked t x y || (eqb x a && eqb y b))
      here l e =
          row_word after x y l
          ∙ ap (λ (p : ℕ). bit (get_or after p 0) (y % 64)) e
          ∙ ap (λ (w : ℕ). bit w (y % 64)) (get_or-set_same t at word 0 (omega arith))
          ∙ word_bit (y % 64)
          ∙ ap₂ (λ (p q : Bool). p || q)
          (ap (λ (p : ℕ). bit (get_or t p 0) (y % 64)) (sym e) ∙ sym (row_word t x y l))
          (eqb_iff (y % 64) (b % 64) y b (λ f. omega arith) (λ f. omega arith) ∙ ap (λ (p : Bool). p && eqb y b) (sym (eq-eqb x a (omega arith))))

      other : y < 256 → (x * 4 + y / 64 ≡ at → ⊥) → linked after x y ≡ (linked t x y || (eqb x a && eqb y b))
      other l o =
          unchanged x y (λ p q. o (omega arith))
          (row_word after x y l ∙ ap (λ (w : ℕ). bit w (y % 64)) (get_or-set_other t at (x * 4 + y / 64) word 0 o) ∙ sym (row_word t x y l))

      word_of : y < 256 → Dec (x * 4 + y / 64 ≡ at) → linked after x y ≡ (linked t x y || (eqb x a && eqb y b))
      word_of l (yes e) = here l e
      word_of l (no o) = other l o

      go : Dec (y < 256) → linked after x y ≡ (linked t x y || (eqb x a && eqb y b))
      go (yes l) = word_of l (ℕ_discrete (x * 4 + y / 64) at)
      go (no l) = unchanged x y (λ p q. omega arith) (has_beyond (row after x) y refl (omega arith) ∙ sym (has_beyond (row t x) y refl (omega arith)))

-- a table of zeros has no link
pub no_link : (t : List ℕ) → ((i : ℕ) → get_or t i 0 ≡ 0) → (x y : ℕ) → linked t x y ≡ false
no_link t z x y = none_four (get_or t (x * 4) 0) (get_or t (x * 4 + 1) 0) (get_or t (x * 4 + 2) 0) (get_or t (x * 4 + 3) 0) (z (x * 4)) (z (x * 4 + 1)) (z (x * 4 + 2)) (z (x * 4 + 3)) y
