-- The pieces of a listing within a set D, as a family of sets. Kept at each step: every set of D that holds lies in a piece, two pieces share
-- fewer than k stations, the weights add up to at most that of D. The steps: begin with D; shrink a piece; split it in two; drop one of k stations
-- or fewer. When each piece holds, the pieces are what was sought (found), and the groups where D is all stations (done). A piece parted by a loss
-- is split island by island (halves_..).
use mathlib.Core.Path.{◌≡◌, refl, ◌∙◌, ap, subst}
use mathlib.Core.Logic.{◌⊎◌, inl, inr}
use mathlib.Core.Bool.{true, false, cond}
use Prim.Native.Nat.{ℕ, zero, suc, ◌+◌, ◌-◌, ◌≤◌, ◌<◌}
use native.Mathlib.Omega.{arith}
use native.Mathlib.Decide.{ℕ_discrete}
use lib.Dec.{eqb}
use borrow.Author.Tests.{eq-eqb, ne_eqb}
use Rattle.stations.specs.Sets.{Set, ◌is_in◌, ◌not_in◌, ◌part_of◌, ◌without◌, ◌cut◌, ◌joined◌, stations, size}
use Rattle.mesh.specs.Mesh.{Links, Mesh, Holds, Groups}
use Rattle.stations.proofs.Bools.{test, never, and_left, and_right, and_in, or_cases, or_left, or_right}
use Rattle.stations.proofs.Members.{of_without, in_without, same_set}
use Rattle.stations.proofs.Counting.{size-sub}
use Rattle.mesh.proofs.Bound.{total, weight, total_same, heavy, bound, falls}
use Rattle.mesh.proofs.Division.{divide, overlap}
use Rattle.mesh.specs.Dividing.{Islands}
use Rattle.mesh.proofs.Rows.{Found, rows}

-- the family Q with A at r
pub put : (ℕ → Set) → ℕ → Set → ℕ → Set
put Q r A i = cond (eqb i r) A (Q i)

pub put_same : (Q : ℕ → Set) (r : ℕ) (A : Set) → put Q r A r ≡ A
unfolding put
put_same Q r A = rw (eq-eqb r r refl)

pub put_other : (Q : ℕ → Set) (r : ℕ) (A : Set) (i : ℕ) → ¬ (i ≡ r) → put Q r A i ≡ Q i
unfolding put
put_other Q r A i d = rw (ne_eqb i r d)

pub total_put : (c : ℕ) (Q : ℕ → Set) (r : ℕ) (A : Set) (f : Set → ℕ) → r < c → total c (λ i. f (put Q r A i)) + f (Q r) ≡ total c (λ i. f (Q i)) + f A
unfolding total
total_put zero Q r A f l = absurd (omega arith)
total_put (suc c) Q r A f l = go (ℕ_discrete c r) (total_put c Q r A f)
  where
    go : Dec (c ≡ r) → (r < c → total c (λ i. f (put Q r A i)) + f (Q r) ≡ total c (λ i. f (Q i)) + f A)
        → f (put Q r A c) + total c (λ i. f (put Q r A i)) + f (Q r) ≡ f (Q c) + total c (λ i. f (Q i)) + f A
    go (yes e) ih = omega (
      arith,
      ap f (ap (put Q r A) e ∙ put_same Q r A),
      ap (λ i. f (Q i)) e,
      total_same c (λ i. f (put Q r A i)) (λ i. f (Q i)) (λ i m. ap f (put_other Q r A i (λ g. omega arith))),
    )
    go (no d) ih = omega (arith, ap f (put_other Q r A c d), ih (omega arith))

total_split : (c : ℕ) (Q : ℕ → Set) (r : ℕ) (A B : Set) (f : Set → ℕ) (w : ℕ) → r < c → f A + f B ≤ f (Q r) → total c (λ i. f (Q i)) ≤ w
    → total (suc c) (λ i. f (put (put Q r A) c B i)) ≤ w
unfolding total
total_split c Q r A B f w l h g = omega (
  arith,
  total_put c Q r A f l,
  ap f (put_same (put Q r A) c B),
  total_same c (λ i. f (put (put Q r A) c B i)) (λ i. f (put Q r A i)) (λ i m. ap f (put_other (put Q r A) c B i (λ e. omega arith))),
)

total_drop : (c : ℕ) (Q : ℕ → Set) (r : ℕ) (f : Set → ℕ) (w : ℕ) → r < suc c → total (suc c) (λ i. f (Q i)) ≤ w → total c (λ i. f (put Q r (Q c) i)) ≤ w
unfolding total
total_drop c Q r f w l g = go (ℕ_discrete r c)
  where
    go : Dec (r ≡ c) → total c (λ i. f (put Q r (Q c) i)) ≤ w
    go (yes e) = omega (arith, total_same c (λ i. f (put Q r (Q c) i)) (λ i. f (Q i)) (λ i m. ap f (put_other Q r (Q c) i (λ d. omega arith))))
    go (no d) = omega (arith, total_put c Q r (Q c) f (omega arith))

-- the c pieces lie in D, every set of D that holds lies in one of them, no two share k stations, and their weights add up to at most w
pub record Pieces (L : Links) (n k w : ℕ) (D : Set) (c : ℕ) (Q : ℕ → Set) : Type 0 where
  pub inside : (i : ℕ) → i < c → Q i part_of D
  pub cover : (H : Set) → Holds L n k H → H part_of D → (i : ℕ) × (i < c) × (H part_of Q i)
  pub share : (i j : ℕ) → i < c → j < c → ¬ (i ≡ j) → size n (Q i cut Q j) < k
  pub light : total c (λ i. weight k (size n (Q i))) ≤ w

pub swap : (n : ℕ) (a b : Set) → size n (a cut b) ≤ size n (b cut a)
swap n a b = size-sub n (a cut b) (b cut a) (λ x g. and_in (b x) (a x) (and_right (a x) (b x) g) (and_left (a x) (b x) g))

pub both_sub : (n : ℕ) (a b c d : Set) → a part_of c → b part_of d → size n (a cut b) ≤ size n (c cut d)
both_sub n a b c d f g = size-sub n (a cut b) (c cut d) (λ x h. and_in (c x) (d x) (f x (and_left (a x) (b x) h)) (g x (and_right (a x) (b x) h)))

weight_sub : (k a b : ℕ) → a ≤ b → weight k a ≤ weight k b
weight_sub k a b h = omega arith

module _ (L : Links) (n k w : ℕ) (D : Set) (c : ℕ) (Q : ℕ → Set) (s : Pieces L n k w D c Q) (r : ℕ) (l : r < c) where
  -- a piece becomes smaller, and keeps each set that holds
  pub shrink : (A : Set) → A part_of Q r → ((H : Set) → Holds L n k H → H part_of Q r → H part_of A) → Pieces L n k w D c (put Q r A)
  shrink A sub keeps = record { inside = λ i m x g. s.inside i m x (smaller i (ℕ_discrete i r) x g); cover = cover; share = share; light = light }
    where
      Q' : ℕ → Set
      Q' = put Q r A

      smaller : (i : ℕ) → Dec (i ≡ r) → Q' i part_of Q i
      smaller i (yes e) x g = rw e (sub x (rw (ap (put Q r A) e ∙ put_same Q r A) at g))
      smaller i (no d) x g = rw (put_other Q r A i d) at g

      cover : (H : Set) → Holds L n k H → H part_of D → (i : ℕ) × (i < c) × (H part_of Q' i)
      cover H h hd = go (s.cover H h hd)
        where
          go : (i : ℕ) × (i < c) × (H part_of Q i) → (i : ℕ) × (i < c) × (H part_of Q' i)
          go (i, m, f) = (i, m, by (ℕ_discrete i r))
            where
              by : Dec (i ≡ r) → H part_of Q' i
              by (yes e) = rw (ap (put Q r A) e ∙ put_same Q r A) (keeps H h (rw e at f))
              by (no d) = rw (put_other Q r A i d) f

      share : (i j : ℕ) → i < c → j < c → ¬ (i ≡ j) → size n (Q' i cut Q' j) < k
      share i j a b d = omega (arith, s.share i j a b d, both_sub n (Q' i) (Q' j) (Q i) (Q j) (smaller i (ℕ_discrete i r)) (smaller j (ℕ_discrete j r)))

      light : total c (λ i. weight k (size n (Q' i))) ≤ w
      light = let f : Set → ℕ = λ t. weight k (size n t) in
          omega (arith, total_put c Q r A f l, weight_sub k (size n A) (size n (Q r)) (size-sub n A (Q r) sub), s.light)

  -- a piece is divided in two
  pub split : (A B : Set) → A part_of Q r → B part_of Q r → size n (A cut B) < k → weight k (size n A) + weight k (size n B) ≤ weight k (size n (Q r))
      → ((H : Set) → Holds L n k H → H part_of Q r → (H part_of A) ⊎ (H part_of B)) → Pieces L n k w D (suc c) (put (put Q r A) c B)
  split A B sa sb few lw keeps = record { inside = inside; cover = cover; share = share; light = light }
    where
      Q1 : ℕ → Set
      Q1 = put Q r A

      Q' : ℕ → Set
      Q' = put Q1 c B

      at_c : Q' c ≡ B
      at_c = put_same Q1 c B

      at_r : Q' r ≡ A
      at_r = put_other Q1 c B r (λ e. omega arith) ∙ put_same Q r A

      at_i : (i : ℕ) → i < c → ¬ (i ≡ r) → Q' i ≡ Q i
      at_i i m d = put_other Q1 c B i (λ e. omega arith) ∙ put_other Q r A i d

      cover : (H : Set) → Holds L n k H → H part_of D → (i : ℕ) × (i < suc c) × (H part_of Q' i)
      cover H h hd = go (s.cover H h hd)
        where
          two : (H part_of A) ⊎ (H part_of B) → (i : ℕ) × (i < suc c) × (H part_of Q' i)
          two (inl f) = (r, omega arith, rw at_r f)
          two (inr f) = (c, omega arith, rw at_c f)

          go : (i : ℕ) × (i < c) × (H part_of Q i) → (i : ℕ) × (i < suc c) × (H part_of Q' i)
          go (i, m, f) = by (ℕ_discrete i r)
            where
              by : Dec (i ≡ r) → (i : ℕ) × (i < suc c) × (H part_of Q' i)
              by (yes e) = two (keeps H h (rw e at f))
              by (no d) = (i, omega arith, rw (at_i i m d) f)

      -- B and an older piece
      with_B : (i : ℕ) → i < c → size n (Q' i cut B) < k
      with_B i m = by (ℕ_discrete i r)
        where
          by : Dec (i ≡ r) → size n (Q' i cut B) < k
          by (yes e) = rw (ap Q' e ∙ at_r) few
          by (no d) = rw (at_i i m d) (omega (arith, s.share i r m l d, both_sub n (Q i) B (Q i) (Q r) (λ x g. g) sb))

      -- two older pieces
      smaller : (i : ℕ) → i < c → Q' i part_of Q i
      smaller i m = by (ℕ_discrete i r)
        where
          by : Dec (i ≡ r) → Q' i part_of Q i
          by (yes e) x g = rw e (sa x (rw (ap Q' e ∙ at_r) at g))
          by (no d) x g = rw (at_i i m d) at g

      inside : (i : ℕ) → i < suc c → Q' i part_of D
      inside i m = by (ℕ_discrete i c)
        where
          by : Dec (i ≡ c) → Q' i part_of D
          by (yes e) x g = s.inside r l x (sb x (rw (ap Q' e ∙ at_c) at g))
          by (no d) x g = s.inside i (omega arith) x (smaller i (omega arith) x g)

      share : (i j : ℕ) → i < suc c → j < suc c → ¬ (i ≡ j) → size n (Q' i cut Q' j) < k
      share i j a b d = by (ℕ_discrete i c) (ℕ_discrete j c)
        where
          by : Dec (i ≡ c) → Dec (j ≡ c) → size n (Q' i cut Q' j) < k
          by (yes e) (yes f) = absurd (omega arith)
          by (yes e) (no f) = rw (ap Q' e ∙ at_c) (omega (arith, with_B j (omega arith), swap n B (Q' j)))
          by (no e) (yes f) = rw (ap Q' f ∙ at_c) (with_B i (omega arith))
          by (no e) (no f) = omega (arith, s.share i j (omega arith) (omega arith) d, both_sub n (Q' i) (Q' j) (Q i) (Q j) (smaller i (omega arith)) (smaller j (omega arith)))

      light : total (suc c) (λ i. weight k (size n (Q' i))) ≤ w
      light = total_split c Q r A B (λ t. weight k (size n t)) w l lw s.light

-- a piece of k stations or fewer is dropped: the last takes its place
pub drop : (L : Links) (n k w : ℕ) (D : Set) (c : ℕ) (Q : ℕ → Set) → Pieces L n k w D (suc c) Q → (r : ℕ) → r < suc c → size n (Q r) ≤ k → Pieces L n k w D c (put Q r (Q c))
drop L n k w D c Q s r l small = record { inside = inside; cover = cover; share = share; light = total_drop c Q r (λ t. weight k (size n t)) w l s.light }
  where
    Q' : ℕ → Set
    Q' = put Q r (Q c)

    inside : (i : ℕ) → i < c → Q' i part_of D
    inside i m = by (ℕ_discrete i r)
      where
        by : Dec (i ≡ r) → Q' i part_of D
        by (yes e) x g = s.inside c (omega arith) x (rw (ap Q' e ∙ put_same Q r (Q c)) at g)
        by (no d) x g = s.inside i (omega arith) x (rw (put_other Q r (Q c) i d) at g)

    cover : (H : Set) → Holds L n k H → H part_of D → (i : ℕ) × (i < c) × (H part_of Q' i)
    cover H h hd = go (s.cover H h hd)
      where
        go : (i : ℕ) × (i < suc c) × (H part_of Q i) → (i : ℕ) × (i < c) × (H part_of Q' i)
        go (i, m, f) = by (ℕ_discrete i r) (ℕ_discrete i c)
          where
            by : Dec (i ≡ r) → Dec (i ≡ c) → (i : ℕ) × (i < c) × (H part_of Q' i)
            by (yes e) d = absurd (omega (arith, size-sub n H (Q i) f, h.above, ap (λ j. size n (Q j)) e))
            by (no e) (yes d) = (r, omega arith, rw (put_same Q r (Q c)) (rw d at f))
            by (no e) (no d) = (i, omega arith, rw (put_other Q r (Q c) i e) f)

    share : (i j : ℕ) → i < c → j < c → ¬ (i ≡ j) → size n (Q' i cut Q' j) < k
    share i j a b d = by (ℕ_discrete i r) (ℕ_discrete j r)
      where
        by : Dec (i ≡ r) → Dec (j ≡ r) → size n (Q' i cut Q' j) < k
        by (yes e) (yes f) = absurd (omega arith)
        by (yes e) (no f) = rw (ap Q' e ∙ put_same Q r (Q c), put_other Q r (Q c) j f) (s.share c j (omega arith) (omega arith) (λ g. omega arith))
        by (no e) (yes f) = rw (ap Q' f ∙ put_same Q r (Q c), put_other Q r (Q c) i e) (s.share i c (omega arith) (omega arith) (λ g. omega arith))
        by (no e) (no f) = rw (put_other Q r (Q c) i e, put_other Q r (Q c) j f) (s.share i j (omega arith) (omega arith) d)

-- the same pieces in another family
pub pieces_same : (L : Links) (n k w : ℕ) (D : Set) (c : ℕ) (Q Q' : ℕ → Set) → Pieces L n k w D c Q → ((i : ℕ) → i < c → Q i ≡ Q' i) → Pieces L n k w D c Q'
pieces_same L n k w D c Q Q' s e = record {
  inside = λ i m. subst (λ (z : Set). z part_of D) (e i m) (s.inside i m);
  cover = λ H h hd. let r = s.cover H h hd in (r.0, r.1, subst (λ (z : Set). H part_of z) (e r.0 r.1) r.2);
  share = λ i j a b d. rw (← (e i a), ← (e j b)) (s.share i j a b d);
  light = omega (arith, s.light, total_same c (λ i. weight k (size n (Q i))) (λ i. weight k (size n (Q' i))) (λ i m. ap (λ (z : Set). weight k (size n z)) (e i m)));
}

-- the search starts with D itself
pub begin : (L : Links) (n k : ℕ) (D : Set) → Pieces L n k (weight k (size n D)) D 1 (λ i. D)
unfolding total
begin L n k D = record { inside = λ i m x g. g; cover = λ H h hd. (0, omega arith, hd); share = λ i j a b d. absurd (omega arith); light = omega arith }

-- sets of more than k stations are no more than their weights
pub few_sets : (n k c : ℕ) (Q : ℕ → Set) → ((i : ℕ) → i < c → k < size n (Q i)) → c ≤ total c (λ i. weight k (size n (Q i)))
unfolding total
few_sets n k zero Q big = omega arith
few_sets n k (suc c) Q big = omega (arith, heavy k (size n (Q c)) (big c (omega arith)), few_sets n k c Q (λ i l. big i (omega arith)))

-- the pieces of more than k stations are at most w
pub few_pieces : (L : Links) (n k w : ℕ) (D : Set) (c : ℕ) (Q : ℕ → Set) → Pieces L n k w D c Q → ((i : ℕ) → i < c → k < size n (Q i)) → c ≤ w
few_pieces L n k w D c Q s big = omega (arith, few_sets n k c Q big, s.light)

-- and it ends when each piece holds: the pieces are what was sought
pub found : (L : Links) (n k w : ℕ) (D : Set) (c : ℕ) (Q : ℕ → Set) → Pieces L n k w D c Q → ((i : ℕ) → i < c → Holds L n k (Q i)) → Found L n k D c Q
found L n k w D c Q s h = record { hold = h; inside = s.inside; cover = s.cover; share = s.share }

-- the groups, where D is all stations
pub done : (L : Links) (n k w c : ℕ) (Q : ℕ → Set) → Pieces L n k w (stations n) c Q → ((i : ℕ) → i < c → Holds L n k (Q i)) → Groups L n k c Q
done L n k w c Q s h = rows L n k c Q (found L n k w (stations n) c Q s h)

-- a loss S of fewer than k stations, and stations I of P without S that no link leaves there: P is divided into I with S, and P without I
module _ (L : Links) (n k : ℕ) (P S I : Set) (m : Mesh L) (sp : S part_of P) (few : size n S < k) (ip : I part_of P without S)
    (closed : (x y : ℕ) → x is_in I → y is_in P without S → L x y ≡ true → y is_in I) where
  two : ℕ → Set
  two zero = I
  two (suc i) = (P without S) without I

  islands : Islands L P S 2 two
  unfolding two
  islands = record { inside = inside; cover = cover; apart = apart; closed = close }
    where
      inside : (i : ℕ) → i < 2 → two i part_of P without S
      inside zero l = ip
      inside (suc i) l = λ x g. (of_without (P without S) I x g).0

      cover : (x : ℕ) → x is_in P without S → (i : ℕ) × (i < 2) × (x is_in two i)
      cover x g = go (test (I x))
        where
          go : (I x ≡ true) ⊎ (I x ≡ false) → (i : ℕ) × (i < 2) × (x is_in two i)
          go (inl e) = (0, omega arith, e)
          go (inr e) = (1, omega arith, in_without (P without S) I x g e)

      apart : (i j x : ℕ) → i < 2 → j < 2 → x is_in two i → x is_in two j → i ≡ j
      apart zero zero x a b g h = refl
      apart zero (suc j) x a b g h = never (I x) g (of_without (P without S) I x h).1
      apart (suc i) zero x a b g h = never (I x) h (of_without (P without S) I x g).1
      apart (suc i) (suc j) x a b g h = omega arith

      close : (i x y : ℕ) → i < 2 → x is_in two i → y is_in P without S → L x y ≡ true → y is_in two i
      close zero x y a g h l = closed x y g h l
      close (suc i) x y a g h l = go (test (I y))
        where
          w : (x is_in P without S) × (x not_in I)
          w = of_without (P without S) I x g

          go : (I y ≡ true) ⊎ (I y ≡ false) → y is_in (P without S) without I
          go (inl e) = never (I x) (closed y x e w.0 (m.both x y l)) w.1
          go (inr e) = in_without (P without S) I y h e

  rest_is : ((P without S) without I) joined S ≡ P without I
  rest_is = same_set (((P without S) without I) joined S) (P without I) (λ x g. one x (or_cases (((P without S) without I) x) (S x) g)) (λ x g. two' x (of_without P I x g) (test (S x)))
    where
      one : (x : ℕ) → (x is_in (P without S) without I) ⊎ (x is_in S) → x is_in P without I
      one x (inl g) = let a = of_without (P without S) I x g in in_without P I x (of_without P S x a.0).0 a.1
      one x (inr g) = in_without P I x (sp x g) (by (test (I x)))
        where
          by : (I x ≡ true) ⊎ (I x ≡ false) → x not_in I
          by (inl e) = never (S x) g (of_without P S x (ip x e)).1
          by (inr e) = e

      two' : (x : ℕ) → (x is_in P) × (x not_in I) → (S x ≡ true) ⊎ (S x ≡ false) → x is_in ((P without S) without I) joined S
      two' x g (inl e) = or_right (((P without S) without I) x) (S x) e
      two' x g (inr e) = or_left (((P without S) without I) x) (S x) (in_without (P without S) I x (in_without P S x g.0 e) g.1)

  pub halves_weigh : weight k (size n (I joined S)) + weight k (size n (P without I)) ≤ weight k (size n P)
  unfolding two total
  halves_weigh = rw (← rest_is) (omega (arith, bound L n k P S 2 two islands sp few))

  pub halves_share : size n ((I joined S) cut (P without I)) < k
  unfolding two
  halves_share = rw (← rest_is, overlap L P S 2 two islands 0 1 (omega arith) (omega arith) (λ e. omega arith)) few

  pub halves_keep : (H : Set) → Holds L n k H → H part_of P → (H part_of I joined S) ⊎ (H part_of P without I)
  unfolding two
  halves_keep H h hp = go (divide L n k P S H 2 two islands sp few h hp)
    where
      go : (i : ℕ) × (i < 2) × (H part_of two i joined S) → (H part_of I joined S) ⊎ (H part_of P without I)
      go (zero, l, f) = inl f
      go (suc i, l, f) = inr (subst (λ (z : Set). H part_of z) rest_is f)

  -- the measure: where neither part is empty, the stations above k of the two pieces are fewer than those of P
  pub halves_fall : k < size n P → 0 < size n I → 0 < size n ((P without S) without I) → (size n (I joined S) - k) + (size n (P without I) - k) < size n P - k
  unfolding two total
  halves_fall big a b = rw (← rest_is) (omega (arith, falls L n k P S 0 two islands sp few big (λ i l. pos i)))
    where
      pos : (i : ℕ) → 0 < size n (two i)
      pos zero = a
      pos (suc i) = b
