-- Two more steps over pieces (mesh's Pieces): a piece and the last one change places (exchange), and the last piece is replaced by pieces within it
-- (replaced): a set that holds lies in one of them, they share no more with the others than it did, and they weigh no more.
use mathlib.Core.Path.{◌≡◌, sym, ap, ◌∙◌, subst}
use Prim.Native.Nat.{ℕ, zero, suc, ◌+◌, ◌-◌, ◌<◌, ◌≤◌}
use native.Mathlib.Decide.{ℕ_discrete, dec_lt}
use native.Mathlib.Omega.{arith}
use Rattle.stations.specs.Sets.{Set, ◌part_of◌, ◌cut◌, size}
use Rattle.mesh.specs.Mesh.{Links, Holds}
use Rattle.mesh.proofs.Bound.{total, total_same, weight}
use Rattle.mesh.proofs.Pieces.{Pieces, put, put_same, put_other, total_put, both_sub, swap}

-- sums over two families, one behind the other
pub total_both : (c m : ℕ) (f : ℕ → ℕ) → total (c + m) f ≡ total c f + total m (λ i. f (c + i))
unfolding total
total_both c zero f = omega (arith, ap (λ (x : ℕ). total x f) (add_none c))
  where
    add_none : (x : ℕ) → x + 0 ≡ x
    add_none x = omega arith
total_both c (suc m) f = omega (arith, ap (λ (x : ℕ). total x f) (add_suc c m), total_both c m f)
  where
    add_suc : (x y : ℕ) → x + suc y ≡ suc (x + y)
    add_suc x y = omega arith

-- Q' is Q with piece r at c, and piece c at r
module _ (L : Links) (n k w : ℕ) (D : Set) (c : ℕ) (Q : ℕ → Set) (s : Pieces L n k w D (suc c) Q) (r : ℕ) (l : r < suc c) (Q' : ℕ → Set)
    (last : Q' c ≡ Q r) (moved : r < c → Q' r ≡ Q c) (other : (i : ℕ) → i < c → ¬ (i ≡ r) → Q' i ≡ Q i) where
  -- the place that changes with i
  partner : (i : ℕ) → Dec (i ≡ r) → Dec (i ≡ c) → ℕ
  partner i (yes e) d = c
  partner i (no e) (yes d) = r
  partner i (no e) (no d) = i

  abbrev to : ℕ → ℕ
  to i = partner i (ℕ_discrete i r) (ℕ_discrete i c)

  small : (i : ℕ) → i < suc c → (a : Dec (i ≡ r)) (b : Dec (i ≡ c)) → partner i a b < suc c
  unfolding partner
  small i h (yes e) d = omega arith
  small i h (no e) (yes d) = l
  small i h (no e) (no d) = h

  same : (i : ℕ) → i < suc c → (a : Dec (i ≡ r)) (b : Dec (i ≡ c)) → Q' i ≡ Q (partner i a b)
  unfolding partner
  same i h (yes e) (yes d) = ap Q' d ∙ last ∙ ap Q (sym e ∙ d)
  same i h (yes e) (no d) = ap Q' e ∙ moved (omega arith)
  same i h (no e) (yes d) = ap Q' d ∙ last
  same i h (no e) (no d) = other i (omega arith) e

  same_back : (i : ℕ) → i < suc c → (a : Dec (i ≡ r)) (b : Dec (i ≡ c)) → Q i ≡ Q' (partner i a b)
  unfolding partner
  same_back i h (yes e) d = ap Q e ∙ sym last
  same_back i h (no e) (yes d) = ap Q d ∙ sym (moved (omega arith))
  same_back i h (no e) (no d) = sym (other i (omega arith) e)

  apart : (i j : ℕ) → ¬ (i ≡ j) → (a : Dec (i ≡ r)) (b : Dec (i ≡ c)) (x : Dec (j ≡ r)) (y : Dec (j ≡ c)) → ¬ (partner i a b ≡ partner j x y)
  unfolding partner
  apart i j n (yes a) b (yes x) y e = n (a ∙ sym x)
  apart i j n (yes a) b (no x) (yes y) e = n (a ∙ sym e ∙ sym y)
  apart i j n (yes a) b (no x) (no y) e = y (sym e)
  apart i j n (no a) (yes b) (yes x) y e = n (b ∙ sym e ∙ sym x)
  apart i j n (no a) (yes b) (no x) (yes y) e = n (b ∙ sym y)
  apart i j n (no a) (yes b) (no x) (no y) e = x (sym e)
  apart i j n (no a) (no b) (yes x) y e = b e
  apart i j n (no a) (no b) (no x) (yes y) e = a e
  apart i j n (no a) (no b) (no x) (no y) e = n e

  -- sums do not change
  sum : (f : Set → ℕ) → total (suc c) (λ i. f (Q' i)) ≡ total (suc c) (λ i. f (Q i))
  unfolding total
  sum f = go (ℕ_discrete r c)
    where
      go : Dec (r ≡ c) → f (Q' c) + total c (λ i. f (Q' i)) ≡ f (Q c) + total c (λ i. f (Q i))
      go (yes e) = omega (arith, ap f (last ∙ ap Q e), total_same c (λ i. f (Q' i)) (λ i. f (Q i)) (λ i h. ap f (other i h (λ d. omega arith))))
      go (no d) = omega (arith, ap f last, total_put c Q r (Q c) f (omega arith), total_same c (λ i. f (Q' i)) (λ i. f (put Q r (Q c) i)) (λ i h. ap f (by i h (ℕ_discrete i r))))
        where
          by : (i : ℕ) → i < c → Dec (i ≡ r) → Q' i ≡ put Q r (Q c) i
          by i h (yes e) = ap Q' e ∙ moved (omega arith) ∙ sym (put_same Q r (Q c)) ∙ ap (put Q r (Q c)) (sym e)
          by i h (no e) = other i h e ∙ sym (put_other Q r (Q c) i e)

  pub exchange : Pieces L n k w D (suc c) Q'
  exchange = record {
    inside = λ i h. subst (λ (z : Set). z part_of D) (sym (same i h (ℕ_discrete i r) (ℕ_discrete i c))) (s.inside (to i) (small i h (ℕ_discrete i r) (ℕ_discrete i c)));
    cover = λ H h hd. let x = s.cover H h hd in
        (to x.0, small x.0 x.1 (ℕ_discrete x.0 r) (ℕ_discrete x.0 c), subst (λ (z : Set). H part_of z) (same_back x.0 x.1 (ℕ_discrete x.0 r) (ℕ_discrete x.0 c)) x.2);
    share = λ i j a b d. rw (same i a (ℕ_discrete i r) (ℕ_discrete i c), same j b (ℕ_discrete j r) (ℕ_discrete j c))
        (s.share (to i) (to j) (small i a (ℕ_discrete i r) (ℕ_discrete i c)) (small j b (ℕ_discrete j r) (ℕ_discrete j c))
        (apart i j d (ℕ_discrete i r) (ℕ_discrete i c) (ℕ_discrete j r) (ℕ_discrete j c)));
    light = omega (arith, sum (λ z. weight k (size n z)), s.light);
  }

module _ (L : Links) (n k w : ℕ) (D : Set) (c : ℕ) (Q : ℕ → Set) (s : Pieces L n k w D (suc c) Q) (m : ℕ) (Q' : ℕ → Set)
    (old : (i : ℕ) → i < c → Q' i ≡ Q i) (p : Pieces L n k (weight k (size n (Q c))) (Q c) m (λ i. Q' (c + i))) where
  pub replaced : Pieces L n k w D (c + m) Q'
  unfolding total
  replaced = record { inside = inside; cover = cover; share = share; light = light }
    where
      inside : (i : ℕ) → i < c + m → Q' i part_of D
      inside i h = go (dec_lt i c)
        where
          go : Dec (i < c) → Q' i part_of D
          go (yes a) = subst (λ (z : Set). z part_of D) (sym (old i a)) (s.inside i (omega arith))
          go (no a) = λ x g. s.inside c (omega arith) x (p.inside (i - c) (omega arith) x (rw (back i (omega arith)) g))
            where
              back : (j : ℕ) → c ≤ j → c + (j - c) ≡ j
              back j b = omega arith

      cover : (H : Set) → Holds L n k H → H part_of D → (i : ℕ) × (i < c + m) × (H part_of Q' i)
      cover H h hd = go (s.cover H h hd)
        where
          go : (i : ℕ) × (i < suc c) × (H part_of Q i) → (i : ℕ) × (i < c + m) × (H part_of Q' i)
          go (i, a, f) = by (ℕ_discrete i c)
            where
              by : Dec (i ≡ c) → (i : ℕ) × (i < c + m) × (H part_of Q' i)
              by (yes e) = let r = p.cover H h (subst (λ (z : ℕ). H part_of Q z) e f) in (c + r.0, omega (arith, r.1), r.2)
              by (no d) = (i, omega arith, subst (λ (z : Set). H part_of z) (sym (old i (omega arith))) f)

      -- an old piece and a new one
      between : (i j : ℕ) → i < c → j < m → size n (Q' i cut Q' (c + j)) < k
      between i j a b = rw (old i a) (omega (arith, s.share i c (omega arith) (omega arith) (λ e. omega arith), both_sub n (Q i) (Q' (c + j)) (Q i) (Q c) (λ x g. g) (p.inside j b)))

      share : (i j : ℕ) → i < c + m → j < c + m → ¬ (i ≡ j) → size n (Q' i cut Q' j) < k
      share i j a b d = go (dec_lt i c) (dec_lt j c)
        where
          back : (x : ℕ) → c ≤ x → x ≡ c + (x - c)
          back x h = omega arith

          go : Dec (i < c) → Dec (j < c) → size n (Q' i cut Q' j) < k
          go (yes x) (yes y) = rw (old i x, old j y) (s.share i j (omega arith) (omega arith) d)
          go (yes x) (no y) = subst (λ (z : ℕ). size n (Q' i cut Q' z) < k) (sym (back j (omega arith))) (between i (j - c) x (omega arith))
          go (no x) (yes y) = omega (arith, swap n (Q' i) (Q' j), subst (λ (z : ℕ). size n (Q' j cut Q' z) < k) (sym (back i (omega arith))) (between j (i - c) y (omega arith)))
          go (no x) (no y) = subst (λ (z : ℕ). size n (Q' z cut Q' j) < k) (sym (back i (omega arith))) (subst (λ (z : ℕ). size n (Q' (c + (i - c)) cut Q' z) < k) (sym (back j (omega arith))) (p.share (i - c) (j - c) (omega arith) (omega arith) (λ e. omega arith)))

      light : total (c + m) (λ i. weight k (size n (Q' i))) ≤ w
      light = omega (
        arith,
        total_both c m (λ i. weight k (size n (Q' i))),
        total_same c (λ i. weight k (size n (Q' i))) (λ i. weight k (size n (Q i))) (λ i a. ap (λ (z : Set). weight k (size n z)) (old i a)),
        p.light,
        s.light,
      )
