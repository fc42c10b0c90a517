-- The holding question has one reply. A weak set in a reply is four words of 64 bits (Worded), which its type says; then the same stations are the
-- same words, so two replies that the question allows are the same, refused or not.
use mathlib.Core.List.{List}
use mathlib.Core.Path.{◌≡◌, refl, sym, ap, ◌∙◌}
use Rattle.std.proofs.Common.{Ok, Err}
use Prim.Native.Nat.{ℕ}
use native.Mathlib.Omega.{arith}
use lib.ListN.{get_or}
use Rattle.stations.specs.Sets.{Set, none}
use Rattle.stations.specs.Words.{has, words, members}
use Rattle.stations.specs.declared.StationSet.{StationSet}
use Rattle.stations.proofs.Laws.{Wide, members_same}
use Rattle.mesh.specs.Mesh.{Links, Reply, HOLDS, FEW, WEAK, Answers}
use Rattle.mesh.specs.Table.{linked}
use Rattle.mesh.proofs.OnlyOne.{answer_one}
use Rattle.card.specs.Card.{number_of}
use Rattle.card.proofs.Card.{first_one, refusal_one, number_above}
use Rattle.verdicts.specs.declared.Answer.TheVariants.{Holds, Few, Weak}
use Rattle.holding.specs.Reply.{Full, Brief, verdict, weak_set, Right, order, Replies, RightBriefly, Judges}

-- the words of the reply are below 2 ^ 64
abbrev pub Worded : Full → Type 0
Worded (Ok Holds) = Unit {0}
Worded (Ok Few) = Unit {0}
Worded (Ok (Weak s)) = Wide (words s)
Worded (Err r) = Unit {0}

abbrev named : Set → Reply → Set
named d HOLDS = d
named d FEW = d
named d (WEAK s) = s

abbrev code : Reply → ℕ
code HOLDS = 0
code FEW = 1
code (WEAK s) = 2

-- four words are a set of stations by value
abbrev from_words : List ℕ → StationSet
from_words ws = record { a = get_or ws 0 0; b = get_or ws 1 0; c = get_or ws 2 0; d = get_or ws 3 0 }

pub same_words : (x y : StationSet) → words x ≡ words y → x ≡ y
same_words x y e = ap from_words e

-- two replies alike in their numbers and set are the same, as words of 64 bits
alike_same : (r r' : Full) → Worded r → Worded r' → verdict r ≡ verdict r' → number_of r ≡ 0 → number_of r' ≡ 0 → weak_set r ≡ weak_set r' → r ≡ r'
alike_same (Ok Holds) (Ok Holds) w w' v a b e = refl
alike_same (Ok Few) (Ok Few) w w' v a b e = refl
alike_same (Ok (Weak x)) (Ok (Weak y)) w w' v a b e = ap (λ (y : StationSet). Ok (Weak y)) (same_words x y (members_same (words x) (words y) refl refl w w' (λ j. ap (λ (z : Set). z j) e)))
alike_same (Ok Holds) (Ok Few) w w' v a b e = absurd (omega (arith, v))
alike_same (Ok Holds) (Ok (Weak y)) w w' v a b e = absurd (omega (arith, v))
alike_same (Ok Few) (Ok Holds) w w' v a b e = absurd (omega (arith, v))
alike_same (Ok Few) (Ok (Weak y)) w w' v a b e = absurd (omega (arith, v))
alike_same (Ok (Weak x)) (Ok Holds) w w' v a b e = absurd (omega (arith, v))
alike_same (Ok (Weak x)) (Ok Few) w w' v a b e = absurd (omega (arith, v))
alike_same (Err x) r' w w' v a b e = absurd (number_above x a)
alike_same (Ok Holds) (Err y) w w' v a b e = absurd (number_above y b)
alike_same (Ok Few) (Err y) w w' v a b e = absurd (number_above y b)
alike_same (Ok (Weak x)) (Err y) w w' v a b e = absurd (number_above y b)

-- the reply as mesh/specs has it, and its numbers and set
to_reply : (L : Links) (n k : ℕ) (s : Set) (r : Full) → Right L n k s r → (x : Reply) × Answers L n k s x × (verdict r ≡ code x) × (weak_set r ≡ named none x)
to_reply L n k s (Ok Holds) h = (HOLDS, h, refl, refl)
to_reply L n k s (Ok Few) h = (FEW, h, refl, refl)
to_reply L n k s (Ok (Weak p)) h = (WEAK (members p), h, refl, refl)
to_reply L n k s (Err r) h = absurd h

module _ (n : ℕ) (t : List ℕ) (k : ℕ) (s : List ℕ) (r r' : Full) (p : Replies n t k s r) (q : Replies n t k s r') where
  pub number_one : number_of r ≡ number_of r'
  number_one = first_one (order n t k s) (number_of r) (number_of r') p.refused q.refused

  answered_one : number_of r ≡ 0 → (verdict r ≡ verdict r') × (weak_set r ≡ weak_set r')
  answered_one e =
      let (x, a, v, w) = to_reply (linked t) n k (has s) r (p.right e) in
      let (y, b, v', w') = to_reply (linked t) n k (has s) r' (q.right (sym number_one ∙ e)) in
      let z = answer_one (linked t) n k (has s) x y a b in
      (v ∙ ap code z ∙ sym v', w ∙ ap (named none) z ∙ sym w')

  -- the number, the verdict and the set of the reply are what they are
  pub holding_one : (number_of r ≡ number_of r') × (verdict r ≡ verdict r') × (weak_set r ≡ weak_set r')
  holding_one = let g = go r r' number_one answered_one in (number_one, g.0, g.1)
    where
      go : (r r' : Full) → number_of r ≡ number_of r' → (number_of r ≡ 0 → (verdict r ≡ verdict r') × (weak_set r ≡ weak_set r')) → (verdict r ≡ verdict r') × (weak_set r ≡ weak_set r')
      go (Ok Holds) r' e f = f refl
      go (Ok Few) r' e f = f refl
      go (Ok (Weak x)) r' e f = f refl
      go (Err x) (Err y) e f = (refl, refl)
      go (Err x) (Ok Holds) e f = absurd (number_above x e)
      go (Err x) (Ok Few) e f = absurd (number_above x e)
      go (Err x) (Ok (Weak y)) e f = absurd (number_above x e)

  pub holding_only_one : Worded r → Worded r' → r ≡ r'
  holding_only_one w w' = go r r' w w' number_one holding_one.1 holding_one.2
    where
      go : (r r' : Full) → Worded r → Worded r' → number_of r ≡ number_of r' → verdict r ≡ verdict r' → weak_set r ≡ weak_set r' → r ≡ r'
      go (Ok Holds) r' w w' e v f = alike_same (Ok Holds) r' w w' v refl (sym e) f
      go (Ok Few) r' w w' e v f = alike_same (Ok Few) r' w w' v refl (sym e) f
      go (Ok (Weak x)) r' w w' e v f = alike_same (Ok (Weak x)) r' w w' v refl (sym e) f
      go (Err x) (Err y) w w' e v f = ap Err (refusal_one x y e)
      go (Err x) (Ok Holds) w w' e v f = absurd (number_above x e)
      go (Err x) (Ok Few) w w' e v f = absurd (number_above x e)
      go (Err x) (Ok (Weak y)) w w' e v f = absurd (number_above x e)

-- ---- the verdict alone has one reply too
module _ (n : ℕ) (t : List ℕ) (k : ℕ) (s : List ℕ) where
  right_one : (r r' : Brief) → RightBriefly (linked t) n k (has s) r → RightBriefly (linked t) n k (has s) r' → r ≡ r'
  right_one (Ok Holds) (Ok Holds) p q = refl
  right_one (Ok Holds) (Ok Few) p q = absurd (omega (arith, p.above))
  right_one (Ok Holds) (Ok (Weak u)) p (a, (x, w)) = absurd (w.parts (p.firm x w.part w.few))
  right_one (Ok Few) (Ok Holds) p q = absurd (omega (arith, q.above))
  right_one (Ok Few) (Ok Few) p q = refl
  right_one (Ok Few) (Ok (Weak u)) p (a, w) = absurd (omega arith)
  right_one (Ok (Weak u)) (Ok Holds) (a, (x, w)) q = absurd (w.parts (q.firm x w.part w.few))
  right_one (Ok (Weak u)) (Ok Few) (a, w) q = absurd (omega arith)
  right_one (Ok (Weak u)) (Ok (Weak v)) p q = refl
  right_one (Err x) r' p q = absurd p
  right_one (Ok Holds) (Err y) p q = absurd q
  right_one (Ok Few) (Err y) p q = absurd q
  right_one (Ok (Weak u)) (Err y) p q = absurd q

  pub judged_only_one : (r r' : Brief) → Judges n t k s r → Judges n t k s r' → r ≡ r'
  judged_only_one r r' p q = go r r' p q (first_one (order n t k s) (number_of r) (number_of r') p.refused q.refused)
    where
      go : (r r' : Brief) → Judges n t k s r → Judges n t k s r' → number_of r ≡ number_of r' → r ≡ r'
      go (Ok Holds) r' p q e = right_one (Ok Holds) r' (p.right refl) (q.right (sym e))
      go (Ok Few) r' p q e = right_one (Ok Few) r' (p.right refl) (q.right (sym e))
      go (Ok (Weak u)) r' p q e = right_one (Ok (Weak u)) r' (p.right refl) (q.right (sym e))
      go (Err x) (Err y) p q e = ap Err (refusal_one x y e)
      go (Err x) (Ok Holds) p q e = absurd (number_above x e)
      go (Err x) (Ok Few) p q e = absurd (number_above x e)
      go (Err x) (Ok (Weak u)) p q e = absurd (number_above x e)
