-- Each line of the page is one line: it ends with a line break, and has no other. Numbers are digits, and no digit is a line break.
use mathlib.Core.Bool.{Bool, true, false, cond}
use mathlib.Core.List.{List, [], ◌∷◌, ◌++◌}
use mathlib.Core.Path.{refl}
use Prim.Native.Nat.{ℕ, zero, suc, ◌/◌, ◌%◌}
use native.Mathlib.Omega.{arith}
use lib.Dec.{ltb}
use lib.ListN.{length, get_or}
use Rattle.stations.specs.Sets.{Set}
use Rattle.lines.specs.Lines.{text, digit, decimal_in, decimal, labelled, serial_if, serials_of, group_line, Unbroken, Line}

unbroken_both : (x y : List ℕ) → Unbroken x → Unbroken y → Unbroken (x ++ y)
unbroken_both [] y p q = q
unbroken_both (b ∷ x) y p q = (p.0, unbroken_both x y p.1 q)

digit_unbroken : (x : ℕ) → Unbroken (digit x ∷ [])
digit_unbroken x = (λ e. omega arith, tt)

decimal_unbroken : (more x : ℕ) → Unbroken (decimal_in more x)
unfolding decimal_in
decimal_unbroken zero x = digit_unbroken x
decimal_unbroken (suc more) x = go (ltb x 10) (decimal_unbroken more (x / 10))
  where
    go : (b : Bool) → Unbroken (decimal_in more (x / 10)) → Unbroken (cond b (digit x ∷ []) (decimal_in more (x / 10) ++ (digit (x % 10) ∷ [])))
    go true h = digit_unbroken x
    go false h = unbroken_both (decimal_in more (x / 10)) (digit (x % 10) ∷ []) h (digit_unbroken (x % 10))

behind : (words : List ℕ) (x : ℕ) → Unbroken words → Unbroken (words ++ decimal x)
behind words x h = unbroken_both words (decimal x) h (decimal_unbroken 19 x)

space : Unbroken (text " ")
space = (λ e. omega arith, tt)

serials_unbroken : (n : ℕ) (serials : List ℕ) (s : Set) → Unbroken (serials_of n serials s)
unfolding serials_of
serials_unbroken zero serials s = tt
serials_unbroken (suc n) serials s = unbroken_both (serials_of n serials s) (serial_if (s n) (get_or serials n 0)) (serials_unbroken n serials s) (go (s n))
  where
    go : (b : Bool) → Unbroken (serial_if b (get_or serials n 0))
    go true = behind (text " ") (get_or serials n 0) space
    go false = tt

pub group_one_line : (k place : ℕ) (serials : List ℕ) (s : Set) → Line (group_line k place serials s)
group_one_line k place serials s = record {
  words = decimal k ++ labelled " " place ++ serials_of (length serials) serials s;
  unbroken = unbroken_both (decimal k ++ labelled " " place) (serials_of (length serials) serials s) (unbroken_both (decimal k) (labelled " " place) (decimal_unbroken 19 k) (behind (text " ") place space)) (serials_unbroken (length serials) serials s);
  is = refl;
}
