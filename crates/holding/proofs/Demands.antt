-- DEMAND 2 of the holding question, of every reply that it allows: a level from 1 to 16 and a set of stations of an accepted table are always answered,
-- HOLDS exactly when the set holds, FEW exactly when it has k stations or fewer, and WEAK with q exactly when q is its weak set: the smallest loss of
-- fewer than k stations that parts it, the first in order among equals. The verdict alone is the same verdict.
use mathlib.Core.List.{List, [], ◌∷◌}
use mathlib.Core.Logic.{◌⊎◌, inl, inr, ◌↔◌}
use mathlib.Core.Path.{◌≡◌, refl, sym, ap, subst}
use Rattle.std.proofs.Common.{Ok, Err}
use Prim.Native.Nat.{ℕ, ◌<◌, ◌≤◌}
use native.Mathlib.Omega.{arith}
use lib.ListN.{length}
use Rattle.stations.specs.Sets.{Set, Below, size}
use Rattle.stations.specs.Words.{has, members}
use Rattle.stations.specs.declared.StationSet.{StationSet}
use Rattle.mesh.specs.Mesh as mesh
use Rattle.mesh.specs.Mesh.{Reply, HOLDS, FEW, WEAK, Answers, WeakSet}
use Rattle.mesh.specs.Table.{linked, Table}
use Rattle.mesh.proofs.OnlyOne.{answer_one}
use Rattle.card.specs.Card.{number_of, LEVEL, SET}
use Rattle.card.proofs.Card.{first_one, none_given, number_above, table_passes, level_passes}
use Rattle.verdicts.specs.declared.Answer.TheVariants.{Holds, Few, Weak}
use Rattle.holding.specs.Reply.{Full, Brief, verdict, weak_set, order, Replies, Judges}

abbrev code : Reply → ℕ
code HOLDS = 0
code FEW = 1
code (WEAK s) = 2

abbrev named : Set → Reply → Set
named d HOLDS = d
named d FEW = d
named d (WEAK s) = s

module _ (n : ℕ) (t : List ℕ) (k : ℕ) (s : List ℕ) (r : Full) (p : Replies n t k s r) where
  -- good input is never refused
  pub answers : Table n t → 1 ≤ k → k ≤ 16 → length s ≡ 4 → Below n (has s) → number_of r ≡ 0
  answers T a b four below = none_given (order n t k s) (number_of r) p.refused (table_passes n t (LEVEL k ∷ SET n s ∷ []) T (level_passes k a b, (set, tt)))
    where
      set : ¬ (SET n s).fails
      set (inl x) = x four
      set (inr (j, l, h)) = omega (arith, below j h)

  one : (x y : Reply) → Answers (linked t) n k (has s) x → Answers (linked t) n k (has s) y → x ≡ y
  one = answer_one (linked t) n k (has s)

  module _ (answered : number_of r ≡ 0) where
    pub holds_exactly : (r ≡ Ok Holds) ↔ mesh.Holds (linked t) n k (has s)
    holds_exactly = (λ e. (subst (Replies n t k s) e p).right refl, λ h. go h r p answered)
      where
        go : mesh.Holds (linked t) n k (has s) → (r : Full) → Replies n t k s r → number_of r ≡ 0 → r ≡ Ok Holds
        go h (Ok Holds) q z = refl
        go h (Ok Few) q z = absurd (omega (arith, ap code (one FEW HOLDS (q.right refl) h)))
        go h (Ok (Weak x)) q z = absurd (omega (arith, ap code (one (WEAK (members x)) HOLDS (q.right refl) h)))
        go h (Err x) q z = absurd (number_above x z)

    pub few_exactly : (r ≡ Ok Few) ↔ (size n (has s) ≤ k)
    few_exactly = (λ e. (subst (Replies n t k s) e p).right refl, λ h. go h r p answered)
      where
        go : size n (has s) ≤ k → (r : Full) → Replies n t k s r → number_of r ≡ 0 → r ≡ Ok Few
        go h (Ok Holds) q z = absurd (omega (arith, ap code (one HOLDS FEW (q.right refl) h)))
        go h (Ok Few) q z = refl
        go h (Ok (Weak x)) q z = absurd (omega (arith, ap code (one (WEAK (members x)) FEW (q.right refl) h)))
        go h (Err x) q z = absurd (number_above x z)

    pub weak_exactly : (q : Set) → ((verdict r ≡ 2) × (weak_set r ≡ q)) ↔ ((k < size n (has s)) × WeakSet (linked t) n k (has s) q)
    weak_exactly q = (λ (v, e). so r p answered v e, λ w. when r p answered w)
      where
        so : (r : Full) → Replies n t k s r → number_of r ≡ 0 → verdict r ≡ 2 → weak_set r ≡ q → (k < size n (has s)) × WeakSet (linked t) n k (has s) q
        so (Ok Holds) f z v e = absurd (omega (arith, v))
        so (Ok Few) f z v e = absurd (omega (arith, v))
        so (Ok (Weak x)) f z v e = subst (λ (y : Set). (k < size n (has s)) × WeakSet (linked t) n k (has s) y) e (f.right refl)
        so (Err x) f z v e = absurd (number_above x z)

        when : (r : Full) → Replies n t k s r → number_of r ≡ 0 → (k < size n (has s)) × WeakSet (linked t) n k (has s) q → (verdict r ≡ 2) × (weak_set r ≡ q)
        when (Ok Holds) f z w = absurd (omega (arith, ap code (one HOLDS (WEAK q) (f.right refl) w)))
        when (Ok Few) f z w = absurd (omega (arith, ap code (one FEW (WEAK q) (f.right refl) w)))
        when (Ok (Weak x)) f z w = (refl, ap (named q) (one (WEAK (members x)) (WEAK q) (f.right refl) w))
        when (Err x) f z w = absurd (number_above x z)

    -- where the set does not hold, the reply says that it is too small, or names its weak set
    pub fails_named : ¬ mesh.Holds (linked t) n k (has s)
        → ((r ≡ Ok Few) × (size n (has s) ≤ k)) ⊎ ((x : StationSet) × (r ≡ Ok (Weak x)) × (k < size n (has s)) × WeakSet (linked t) n k (has s) (members x))
    fails_named d = go r p answered
      where
        go : (r : Full) → Replies n t k s r → number_of r ≡ 0
            → ((r ≡ Ok Few) × (size n (has s) ≤ k)) ⊎ ((x : StationSet) × (r ≡ Ok (Weak x)) × (k < size n (has s)) × WeakSet (linked t) n k (has s) (members x))
        go (Ok Holds) q z = absurd (d (q.right refl))
        go (Ok Few) q z = inl (refl, q.right refl)
        go (Ok (Weak x)) q z = inr (x, refl, (q.right refl).0, (q.right refl).1)
        go (Err x) q z = absurd (number_above x z)

  -- the verdict alone is the verdict of the whole reply
  pub verdict_alone : (v : Brief) → Judges n t k s v → (number_of v ≡ number_of r) × (verdict v ≡ verdict r)
  verdict_alone v q = go v r p q (first_one (order n t k s) (number_of v) (number_of r) q.refused p.refused)
    where
      go : (v : Brief) (r : Full) → Replies n t k s r → Judges n t k s v → number_of v ≡ number_of r → (number_of v ≡ number_of r) × (verdict v ≡ verdict r)
      go (Ok Holds) (Ok Holds) f g e = (e, refl)
      go (Ok Few) (Ok Few) f g e = (e, refl)
      go (Ok (Weak w)) (Ok (Weak x)) f g e = (e, refl)
      go (Err x) (Err y) f g e = (e, refl)
      go (Ok Holds) (Ok Few) f g e = absurd (omega (arith, ap code (one FEW HOLDS (f.right refl) (g.right refl))))
      go (Ok Holds) (Ok (Weak x)) f g e = absurd (omega (arith, ap code (one (WEAK (members x)) HOLDS (f.right refl) (g.right refl))))
      go (Ok Few) (Ok Holds) f g e = absurd (omega (arith, ap code (one HOLDS FEW (f.right refl) (g.right refl))))
      go (Ok Few) (Ok (Weak x)) f g e = absurd (omega (arith, ap code (one (WEAK (members x)) FEW (f.right refl) (g.right refl))))
      go (Ok (Weak w)) (Ok Holds) f g e = absurd (parted (g.right refl).1 (f.right refl))
        where
          parted : (q : Set) × mesh.Weak (linked t) n k (has s) q → mesh.Holds (linked t) n k (has s) → ⊥
          parted (q, w) h = w.parts (h.firm q w.part w.few)
      go (Ok (Weak w)) (Ok Few) f g e = absurd (omega (arith, f.right refl, (g.right refl).0))
      go (Err x) (Ok Holds) f g e = absurd (number_above x e)
      go (Err x) (Ok Few) f g e = absurd (number_above x e)
      go (Err x) (Ok (Weak y)) f g e = absurd (number_above x e)
      go (Ok Holds) (Err y) f g e = absurd (number_above y (sym e))
      go (Ok Few) (Err y) f g e = absurd (number_above y (sym e))
      go (Ok (Weak w)) (Err y) f g e = absurd (number_above y (sym e))
