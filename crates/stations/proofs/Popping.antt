-- Taking the smallest station out, time and again: each time there is one station fewer.
use mathlib.Core.Path.{◌≡◌, ap, ◌∙◌}
use Prim.Native.Nat.{ℕ, ◌-◌, ◌^◌, ◌<◌}
use lib.Bits.{bit_and}
use lib.Count.{count_trailing_zeros}
use native.Mathlib.Omega.{arith}
use mathlib.Core.Bool.{false}
use Rattle.std.specs.Prelude.{Option, Some, None}
use Rattle.std.specs.Iterator.{at_most, MakesProgress}
use Rattle.stations.specs.Sets.{Set, size, ◌without◌, only}
use Rattle.stations.specs.Answers.{Taken, Popped, BitTaken, BitPopped}
use Rattle.stations.specs.Words.{bit}
use Rattle.stations.proofs.Bit.{bit-none, bit_rest, trailing_lt, trailing_at, trailing_below}
use Rattle.stations.proofs.Counting.{size_ext, size_minus_one}

pub taken_less : (s : Set) (j : ℕ) (t : Set) → Taken s j t → size 256 t < size 256 s
taken_less s j t p =
    let e : size 256 t ≡ size 256 (s without only j) = size_ext 256 t (s without only j) (λ x h. p.rest x) in
    let f : _ = size_minus_one 256 s j p.least.small p.least.mine in
    omega arith

-- what a loop over an iterator asks of a call of `next` that pops a station
pub popped_progress : {S : Type 0} (can : S → Type 0) (set : S → Set) (s : S) (r : Option ℕ) (t : S) → ((x : S) → can x) → Popped (set s) r (set t)
    → MakesProgress can (λ x. at_most (size 256 (set x))) s r t
popped_progress can set s (Some j) t all p = record { on = λ _. (all t, tt, taken_less (set s) j (set t) p); keeps = all t; rests = λ _. tt }
popped_progress can set s None t all p = record { on = λ _. tt; keeps = tt; rests = λ _. tt }

-- the lowest bit of a word
pub bit_taken : (w : ℕ) → w < 2 ^ 64 → (w ≡ 0 → ⊥) → BitTaken w (count_trailing_zeros 64 w) (bit_and w (w - 1))
bit_taken w h z =
    let l : count_trailing_zeros 64 w < 64 = trailing_lt 64 w h z in
    record { small = l; mine = trailing_at 64 w l; below = λ j m. trailing_below 64 w j m; rest = bit_rest 64 w h z }

pub no_bit : (w : ℕ) → w ≡ 0 → (j : ℕ) → bit w j ≡ false
no_bit w z j = ap (λ (y : ℕ). bit y j) z ∙ bit-none j

bit_less : (w k w' : ℕ) → BitTaken w k w' → size 64 (bit w') < size 64 (bit w)
bit_less w k w' p =
    let e : size 64 (bit w') ≡ size 64 (bit w without only k) = size_ext 64 (bit w') (bit w without only k) (λ x h. p.rest x) in
    let f : _ = size_minus_one 64 (bit w) k p.small p.mine in
    omega arith

pub bit_progress : {S : Type 0} (can : S → Type 0) (word : S → ℕ) (s : S) (r : Option ℕ) (t : S) → ((x : S) → can x) → BitPopped (word s) r (word t)
    → MakesProgress can (λ x. at_most (size 64 (bit (word x)))) s r t
bit_progress can word s (Some k) t all p = record { on = λ _. (all t, tt, bit_less (word s) k (word t) p); keeps = all t; rests = λ _. tt }
bit_progress can word s None t all p = record { on = λ _. tt; keeps = tt; rests = λ _. tt }
