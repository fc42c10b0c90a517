-- Counting further than the stations go changes nothing: what holds, is weak or is answered when sizes are counted below m does when they are counted
-- below n, for sets of stations below n and n at most m.
use mathlib.Core.Path.{◌≡◌, sym, ◌∙◌}
use Prim.Native.Nat.{ℕ, ◌≤◌}
use native.Mathlib.Omega.{arith}
use Rattle.stations.specs.Sets.{Set, ◌part_of◌, Below, size}
use Rattle.stations.proofs.Counting.{size_past}
use Rattle.mesh.specs.Mesh.{Links, Holds, Weak, WeakSet, Reply, HOLDS, FEW, WEAK, Answers}

module _ (L : Links) (n m k : ℕ) (l : n ≤ m) where
  below_part : (s p : Set) → Below n s → p part_of s → Below n p
  below_part s p b f x h = b x (f x h)

  pub holds_to : (s : Set) → Below n s → Holds L m k s → Holds L n k s
  holds_to s b h = record {
    below = b;
    above = omega (arith, h.above, size_past n m s b l);
    firm = λ p f e. h.firm p f (omega (arith, e, size_past n m p (below_part s p b f) l));
  }

  pub holds_from : (s : Set) → Holds L n k s → Holds L m k s
  holds_from s h = record {
    below = λ x g. omega (arith, h.below x g);
    above = omega (arith, h.above, size_past n m s h.below l);
    firm = λ p f e. h.firm p f (omega (arith, e, size_past n m p (below_part s p h.below f) l));
  }

  module _ (s : Set) (b : Below n s) where
    part_size : (p : Set) → p part_of s → size m p ≡ size n p
    part_size p f = size_past n m p (below_part s p b f) l

    pub weak_to : (p : Set) → Weak L m k s p → Weak L n k s p
    weak_to p w = record { part = w.part; few = omega (arith, w.few, part_size p w.part); parts = w.parts }

    pub weak_from : (p : Set) → Weak L n k s p → Weak L m k s p
    weak_from p w = record { part = w.part; few = omega (arith, w.few, part_size p w.part); parts = w.parts }

    pub weak_set_to : (p : Set) → WeakSet L m k s p → WeakSet L n k s p
    weak_set_to p w = record {
      weak = weak_to p w.weak;
      smallest = λ q v. omega (arith, w.smallest q (weak_from q v), part_size p w.weak.part, part_size q v.part);
      first = λ q v e. w.first q (weak_from q v) (part_size q v.part ∙ e ∙ sym (part_size p w.weak.part));
    }

    pub answers_to : (r : Reply) → Answers L m k s r → Answers L n k s r
    answers_to HOLDS a = holds_to s b a
    answers_to FEW a = omega (arith, a, size_past n m s b l)
    answers_to (WEAK p) a = (omega (arith, a.0, size_past n m s b l), weak_set_to p a.1)
