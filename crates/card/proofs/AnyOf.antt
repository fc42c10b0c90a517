-- What `any` answers over the numbers below n: whether P holds of one of them.
use mathlib.Core.Bool.{Bool, true, false}
use mathlib.Core.Path.{◌≡◌, refl}
use Prim.Native.Nat.{ℕ, ◌<◌}
use native.Mathlib.Omega.{arith}
use lib.ListN.{length, get_or}
use Rattle.std.specs.Prelude.{HoldsAt}
use Rattle.std.specs.Bool.{MatchBool}
use Rattle.std.specs.List.{range_with_len, AllWithin}
use Rattle.std.proofs.lemmas.List.FromFn.{length-range_with_len, get_or-range_with_len}
use Rattle.stations.proofs.Bools.{never}
use Rattle.card.specs.Card.{Says}

pub any_told : (n : ℕ) (P : ℕ → Type 0) (r : Bool)
    → MatchBool r ((k : ℕ) × (k < length (range_with_len 0 n)) × HoldsAt P (range_with_len 0 n) k) (AllWithin (λ a. ¬ P a) (range_with_len 0 n) 0 (length (range_with_len 0 n)))
    → Says ((a : ℕ) × (a < n) × P a) r
any_told n P true (k, l, h) =
    let m : k < n = omega (arith, length-range_with_len 0 n) in
    let e : get_or (range_with_len 0 n) k 0 ≡ k = omega (arith, get_or-range_with_len 0 n k 0 m) in
    record { yes_so = λ _. (k, m, rw e at (h 0)); not_so = λ f. never true refl f }
any_told n P false h = record { yes_so = λ e. never false e refl; not_so = λ _ (a, l, p). none a l p }
  where
    none : (a : ℕ) → a < n → ¬ P a
    none a l =
        let e : get_or (range_with_len 0 n) a 0 ≡ a = omega (arith, get_or-range_with_len 0 n a 0 l) in
        rw e at (h a 0 (omega arith) (omega (arith, length-range_with_len 0 n)))
