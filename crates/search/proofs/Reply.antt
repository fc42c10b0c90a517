-- From losses to the reply of the holding question: a piece that is safe at k holds at k; the first of the smallest weak losses is the weak set.
use mathlib.Core.Path.{◌≡◌, refl, ◌∙◌}
use mathlib.Core.Logic.{◌⊎◌}
use Prim.Native.Nat.{ℕ, ◌+◌, ◌≤◌, ◌<◌}
use native.Mathlib.Omega.{arith}
use native.Mathlib.Decide.{dec_lt}
use Rattle.stations.specs.Sets.{Set, Below, Before, size}
use Rattle.mesh.specs.Mesh.{Links, Holds, Weak, WeakSet}
use Rattle.search.specs.Losses.{every, WeakLoss, WeakPair, Smallest, Safe}

-- a weak pair's loss leaves the piece not whole
pub pair_loss : {L : Links} {n : ℕ} {may : Set} {k : ℕ} {p S : Set} {u v : ℕ} → WeakPair L n may k p u v S → WeakLoss L n may k p S
pair_loss {u = u} {v = v} w = record { loss = w.loss; parts = λ whole. w.parted (whole v u w.two w.one) }

-- a weak loss is one at each level above its size
pub weak_at : {L : Links} {n : ℕ} {may : Set} {l : ℕ} {p S : Set} (k : ℕ) → size n S < k → WeakLoss L n may l p S → WeakLoss L n may k p S
weak_at k h w = record { loss = record { part = w.loss.part; free = w.loss.free; few = h }; parts = w.parts }

-- no weak loss is below a safe level
pub safe_smallest : {L : Links} {n : ℕ} {may : Set} {k : ℕ} {p S : Set} (c : ℕ) → Safe L n may c p → WeakLoss L n may k p S → c ≤ size n S
safe_smallest {n = n} {S = S} c safe w = go (dec_lt (size n S) c)
  where
    go : Dec (size n S < c) → c ≤ size n S
    go (yes d) = absurd (w.parts (safe S (record { part = w.loss.part; free = w.loss.free; few = d })))
    go (no d) = omega arith

-- where a loss may take every station, these are the words of the holding question
pub safe_holds : {L : Links} {n k : ℕ} {p : Set} → Below n p → k < size n p → Safe L n every k p → Holds L n k p
safe_holds pn big safe = record { below = pn; above = big; firm = λ S sp few. safe S (record { part = sp; free = λ x g. refl; few = few }) }

pub weak_plain : {L : Links} {n k : ℕ} {p S : Set} → WeakLoss L n every k p S → Weak L n k p S
weak_plain w = record { part = w.loss.part; few = w.loss.few; parts = w.parts }

pub plain_weak : {L : Links} {n k : ℕ} {p S : Set} → Weak L n k p S → WeakLoss L n every k p S
plain_weak w = record { loss = record { part = w.part; free = λ x g. refl; few = w.few }; parts = w.parts }

-- the first of the smallest weak losses is the weak set of the reply
pub weak_set : {L : Links} {n c : ℕ} {p s : Set} → Safe L n every c p → Smallest L n every c p s → ((q : Set) → Smallest L n every c p q → (q ≡ s) ⊎ Before s q)
    → (k : ℕ) → c < k → WeakSet L n k p s
weak_set {c = c} safe w first k l = record {
  weak = weak_plain (weak_at k (omega (arith, w.count)) w.weak);
  smallest = λ q v. omega (arith, w.count, safe_smallest c safe (plain_weak v));
  first = λ q v i. first q (record { weak = weak_at (c + 1) (omega (arith, i, w.count)) (plain_weak v); count = i ∙ w.count });
}
