-- Two different groups share fewer than k stations. If they shared k or more, then without any fewer than k stations both would still be whole and
-- share a station, so the two together would be whole: they would hold, and neither would be a largest set that does.
use mathlib.Core.Bool.{and_comm}
use mathlib.Core.Logic.{◌⊎◌, inl, inr}
use mathlib.Core.Path.{◌≡◌, ◌∙◌}
use Prim.Native.Nat.{ℕ, ◌≤◌, ◌<◌}
use native.Mathlib.Decide.{dec_lt}
use native.Mathlib.Omega.{arith}
use Rattle.stations.specs.Sets.{Set, ◌is_in◌, ◌not_in◌, ◌part_of◌, ◌without◌, ◌cut◌, ◌joined◌, size}
use Rattle.stations.proofs.Bools.{and_off, or_left, or_right}
use Rattle.stations.proofs.Members.{same_set, in_without, of_without, of_cut, of_joined}
use Rattle.stations.proofs.Counting.{size-sub, more}
use Rattle.mesh.specs.Mesh.{Links, Touch, Whole, Holds, Group}
use Rattle.mesh.proofs.Chains.{touch_sub, touch_join}

module _ (L : Links) (n k : ℕ) (s t : Set) (hs : Holds L n k s) (ht : Holds L n k t) (many : k ≤ size n (s cut t)) where
  -- a part p of the two together leaves s whole, t whole, and a station of both
  module _ (p : Set) (pb : p part_of (s joined t)) (few : size n p < k) where
    rest : (u : Set) → u part_of (s joined t) → u without (p cut u) part_of ((s joined t) without p)
    rest u f x h = in_without (s joined t) p x (f x (of_without u (p cut u) x h).0) (off x (of_without u (p cut u) x h).0 (of_without u (p cut u) x h).1)
      where
        off : (x : ℕ) → x is_in u → x not_in p cut u → x not_in p
        off x a b = and_off (u x) (p x) (and_comm (u x) (p x) ∙ b) a

    inside : (u : Set) → u part_of (s joined t) → Holds L n k u → (a b : ℕ) → a is_in u → a not_in p → b is_in u → b not_in p → Touch L ((s joined t) without p) a b
    inside u f h a b ai ao bi bo =
        touch_sub (rest u f) (h.firm (p cut u) (λ x g. (of_cut p u x g).1) (omega (arith, size-sub n (p cut u) p (λ x g. (of_cut p u x g).0), few)) a b (out a ai ao) (out b bi bo))
      where
        out : (x : ℕ) → x is_in u → x not_in p → x is_in u without (p cut u)
        out x i o = in_without u (p cut u) x i (rw o)

    left : s part_of (s joined t)
    left x g = or_left (s x) (t x) g

    right : t part_of (s joined t)
    right x g = or_right (s x) (t x) g

    shared : (x : ℕ) × (x < n) × (x is_in s cut t) × (x not_in p)
    shared = more n p (s cut t) (omega arith)

    pub whole_together : Whole L ((s joined t) without p)
    whole_together a b ai bi = go (of_joined s t a (of_without (s joined t) p a ai).0) (of_joined s t b (of_without (s joined t) p b bi).0)
      where
        ao : a not_in p
        ao = (of_without (s joined t) p a ai).1

        bo : b not_in p
        bo = (of_without (s joined t) p b bi).1

        m : ℕ
        m = shared.0

        ms : (m is_in s) × (m is_in t)
        ms = of_cut s t m shared.2

        go : (a is_in s) ⊎ (a is_in t) → (b is_in s) ⊎ (b is_in t) → Touch L ((s joined t) without p) a b
        go (inl x) (inl y) = inside s left hs a b x ao y bo
        go (inl x) (inr y) = touch_join (inside s left hs a m x ao ms.0 shared.3) (inside t right ht m b ms.1 shared.3 y bo)
        go (inr x) (inl y) = touch_join (inside t right ht a m x ao ms.1 shared.3) (inside s left hs m b ms.0 shared.3 y bo)
        go (inr x) (inr y) = inside t right ht a b x ao y bo

  pub hold_together : Holds L n k (s joined t)
  hold_together = record {
    below = λ x h. low x (of_joined s t x h);
    above = omega (arith, hs.above, size-sub n s (s joined t) (λ x g. or_left (s x) (t x) g));
    firm = whole_together;
  }
    where
      low : (x : ℕ) → (x is_in s) ⊎ (x is_in t) → x < n
      low x (inl h) = hs.below x h
      low x (inr h) = ht.below x h

pub groups_share : (L : Links) (n k : ℕ) (s t : Set) → Group L n k s → Group L n k t → ¬ (s ≡ t) → size n (s cut t) < k
groups_share L n k s t gs gt d = go (dec_lt (size n (s cut t)) k)
  where
    go : Dec (size n (s cut t) < k) → size n (s cut t) < k
    go (yes l) = l
    go (no l) =
        let h = hold_together L n k s t gs.holds gt.holds (omega arith) in
        let one = gs.largest (s joined t) h (λ x g. or_left (s x) (t x) g) in
        let two = gt.largest (s joined t) h (λ x g. or_right (s x) (t x) g) in
        absurd (d (same_set s t (λ x g. two x (or_left (s x) (t x) g)) (λ x g. one x (or_right (s x) (t x) g))))
