-- All sources: in the weak pair search of a piece p at level k, sources are settled one after the other and taken out; q is what is left.
-- Kept: a loss that is sought and leaves p not whole has every station that was taken out, and each station that it leaves is in touch with
-- one of N, the stations that may still be sources. So when all of N are firm with a source u of N, at the level of q, a loss that misses u
-- leaves everything in touch with u, and is done with. One that has u goes on: what it leaves is in touch with N without u, and also with the
-- links of u (else the loss without u would part it from u). At level 0, or with no N left, nothing is sought any more.
use mathlib.Core.Path.{◌≡◌, refl}
use mathlib.Core.Logic.{◌⊎◌, inl, inr}
use mathlib.Core.Bool.{Bool, true, false, not, ◌&&◌, ◌||◌}
use Prim.Native.Nat.{ℕ, ◌+◌, ◌-◌, ◌<◌}
use native.Mathlib.Omega.{arith}
use Rattle.stations.specs.Sets.{Set, ◌is_in◌, ◌not_in◌, ◌part_of◌, only, ◌without◌, ◌cut◌, ◌joined◌, Below, size}
use Rattle.mesh.specs.Mesh.{Links, Mesh, Touch, here, Whole}
use Rattle.stations.proofs.Bools.{test, never, not_so, and_left, and_right, and_in}
use Rattle.stations.proofs.Members.{of_without, in_without, only_is, is_only, not_only}
use Rattle.stations.proofs.Counting.{size-sub, size_minus, size_none, size_disjoint, size_minus_one}
use Rattle.mesh.proofs.Chains.{touch_sub, touch_end, touch_join, touch_back}
use Rattle.search.proofs.Arrival.{last_link}
use Rattle.search.proofs.Parts.{nothing, joined_part, without_one, only_gone}
use Rattle.search.specs.Losses.{Loss, WeakPair, Parted, Toward, Sought, Around}
use Rattle.search.proofs.OneSource.{Firm, inner, Known, parted_source}

-- C says which losses are sought; q is what is left of p, l the level in q, N the stations that may be sources
pub record Peeled (L : Links) (n : ℕ) (may : Set) (k : ℕ) (p : Set) (C : Set → Type 0) (q : Set) (l : ℕ) (N : Set) : Type 0 where
  pub sought : (S : Set) → C S → Loss n may k p S
  pub part : q part_of p
  pub inside : N part_of q
  pub free : p without q part_of may
  pub level : size n (p without q) + l ≡ k
  pub kept : (S : Set) → C S → Whole L (p without S) ⊎ ((p without q part_of S) × Toward L p N S)

-- the search begins
pub begin : {L : Links} {n : ℕ} {may : Set} {k : ℕ} {p q : Set} {l : ℕ} {N : Set} → q part_of p → N part_of q → p without q part_of may → size n (p without q) + l ≡ k
    → Peeled L n may k p (Sought L n may k p q N) q l N
begin qp nq free e = record { sought = λ S o. o.loss; part = qp; inside = nq; free = free; level = e; kept = λ S o. inr (o.taken, o.toward) }

-- with nothing taken out and all of p as sources, every loss of fewer than k is sought
pub sought_all : (L : Links) (n : ℕ) (may : Set) (k : ℕ) (p S : Set) → Loss n may k p S → Sought L n may k p p p S
sought_all L n may k p S o = record { loss = o; taken = λ x g. absurd (nothing p x g); toward = λ x g. (x, (of_without p S x g).0, here g) }

-- with j taken out and its links as sources, the losses around j are sought
pub sought_around : (L : Links) (n : ℕ) (may : Set) (k : ℕ) (p : Set) (j : ℕ) (S : Set) → Around L n may k p j S → Sought L n may k p (p without only j) (p cut L j) S
sought_around L n may k p j S o = record { loss = o.loss; taken = λ x g. rw (only_gone p j x g) o.mine; toward = o.toward }

pub size_nothing : (n : ℕ) (p : Set) → size n (p without p) ≡ 0
size_nothing n p = size_none n (p without p) (λ x l. not_so ((p without p) x) (nothing p x))

module _ {L : Links} {n : ℕ} {may : Set} {k : ℕ} {p : Set} {C : Set → Type 0} {q : Set} {l : ℕ} {N : Set} where
  -- the end, with no level left: a loss of fewer than k does not have all that was taken out
  pub end_level : Peeled L n may k p C q l N → l ≡ 0 → (S : Set) → C S → Whole L (p without S)
  end_level h e S o = go (h.kept S o)
    where
      go : Whole L (p without S) ⊎ ((p without q part_of S) × Toward L p N S) → Whole L (p without S)
      go (inl a) = a
      go (inr (a, b)) = absurd (omega (arith, size-sub n (p without q) S a, h.level, (h.sought S o).few))

  -- the end, with no source left: the loss leaves no station
  pub end_none : Peeled L n may k p C q l N → ((w : ℕ) → w not_in N) → (S : Set) → C S → Whole L (p without S)
  end_none h none S o = go (h.kept S o)
    where
      go : Whole L (p without S) ⊎ ((p without q part_of S) × Toward L p N S) → Whole L (p without S)
      go (inl a) = a
      go (inr (a, b)) = λ x y g i. let r = b x g in never (N r.0) r.1 (none r.0)

  -- a loss of q that parts v from a source, with what was taken out, is a loss of p that parts it
  pub found : {u : ℕ} {K known left : Set} (v : ℕ) (S : Set) → Mesh L → Peeled L n may k p C q l N
      → Known L n may l q u K known left → u is_in q → v is_in left
      → Loss n may l (inner q u v) S → Parted L (inner q u v) S (L v) known → WeakPair L n may k p u v (S joined (p without q))
  found {u = u} v S m h f uq vl o z = record {
    loss = record {
      part = joined_part S (p without q) p (λ x g. h.part x (sq x g)) (λ x g. (of_without p q x g).0);
      free = joined_part S (p without q) may o.free h.free;
      few = omega (
        arith,
        size_disjoint n S (p without q) (λ x g. not_so ((p without q) x) (λ a. never (q x) (sq x g) (of_without p q x a).1)),
        h.level,
        o.few,
      );
    };
    one = stays u uq uS;
    two = stays v (f.inside v vl) vS;
    parted = λ c. parted_source v S m f vl z (touch_sub rest c);
  }
    where
      sq : S part_of q
      sq x g = (of_without q (only u) x (of_without (q without only u) (only v) x (o.part x g)).0).0

      uS : u not_in S
      uS = not_so (S u) (λ a. never (only u u) (is_only u) (of_without q (only u) u (of_without (q without only u) (only v) u (o.part u a)).0).1)

      vS : v not_in S
      vS = not_so (S v) (λ a. never (only v v) (is_only v) (of_without (q without only u) (only v) v (o.part v a)).1)

      stays : (x : ℕ) → x is_in q → x not_in S → x is_in p without (S joined (p without q))
      stays x a b = let c : x is_in p = h.part x a in rw (c, b, a) refl

      rest : p without (S joined (p without q)) part_of q without S
      rest x g = go (p x) (S x) (q x) g
        where
          go : (a b c : Bool) → a && not (b || (a && not c)) ≡ true → c && not b ≡ true
          go true true c e = never false e refl
          go true false true e = refl
          go true false false e = e
          go false b c e = never false e refl

  module _ (u : ℕ) (m : Mesh L) (h : Peeled L n may k p C q l N) (firm : (w : ℕ) → w is_in N → Firm L n may l q u w) where
    module _ (S : Set) (o : C S) (took : p without q part_of S) (tow : Toward L p N S) where
      -- what S takes of q, but for u
      abbrev U : Set
      U = (S without (p without q)) without only u

      US : U part_of S
      US x g = (of_without S (p without q) x (of_without (S without (p without q)) (only u) x g).0).0

      out : (x : ℕ) → x not_in S → x not_in U
      out x e = rw e refl

      lossU : Loss n may l q U
      lossU = record {
        part = λ x g. inq x (of_without S (p without q) x (of_without (S without (p without q)) (only u) x g).0);
        free = λ x g. (h.sought S o).free x (US x g);
        few = omega (arith, size-sub n U (S without (p without q)) (λ x g. (of_without (S without (p without q)) (only u) x g).0), size_minus n S (p without q) took, h.level, (h.sought S o).few);
      }
        where
          inq : (x : ℕ) → (x is_in S) × (x not_in p without q) → x is_in q
          inq x (a, b) = by (test (q x))
            where
              by : (q x ≡ true) ⊎ (q x ≡ false) → x is_in q
              by (inl c) = c
              by (inr c) = never ((p without q) x) (in_without p q x ((h.sought S o).part x a) c) b

      -- q without U and u lies in p without S
      rest : (x : ℕ) → x is_in q → x not_in U → x not_in only u → x is_in p without S
      rest x a b c = by (test (S x))
        where
          by : (S x ≡ true) ⊎ (S x ≡ false) → x is_in p without S
          by (inl d) = never (U x) (rw (d, c, a) (go (p x))) b
            where
              go : (e : Bool) → (true && not (e && false)) && true ≡ true
              go true = refl
              go false = refl
          by (inr d) = in_without p S x (h.part x a) d

      -- each station that S leaves goes to one of N, which is in touch with u without U
      to : (x : ℕ) → x is_in p without S → (w : ℕ) × (w is_in N) × (w not_in S) × Touch L (p without S) x w × Touch L (q without U) w u
      to x g = let (w, a, c) = tow x g in
          let wS : w not_in S = (of_without p S w (touch_end c)).1 in
          (w, a, wS, c, touch_back m (firm w a U lossU (rw (is_only u) (go ((S without (p without q)) u))) (out w wS)))
        where
          go : (b : Bool) → b && false ≡ false
          go true = refl
          go false = refl

      -- S misses u: the rest is whole
      misses : u not_in S → Whole L (p without S)
      misses uS a b ga gb = touch_join (up a ga) (touch_back m (up b gb))
        where
          sub : q without U part_of p without S
          sub x g = let w = of_without q U x g in by (test (only u x)) w
            where
              by : (only u x ≡ true) ⊎ (only u x ≡ false) → (x is_in q) × (x not_in U) → x is_in p without S
              by (inl e) w = in_without p S x (h.part x w.0) (rw (only_is u x e) uS)
              by (inr e) w = rest x w.0 w.1 e

          up : (x : ℕ) → x is_in p without S → Touch L (p without S) x u
          up x g = let (w, a, b, c, d) = to x g in touch_join c (touch_sub sub d)

      -- S has u: what it leaves is in touch with the links of u
      links : u is_in S → Toward L p (q cut L u) S
      links uS x g = from (to x g)
        where
          sub : (q without U) without only u part_of p without S
          sub y i = let a = of_without (q without U) (only u) y i in let b = of_without q U y a.0 in rest y b.0 b.1 a.1

          from : (w : ℕ) × (w is_in N) × (w not_in S) × Touch L (p without S) x w × Touch L (q without U) w u → (z : ℕ) × (z is_in q cut L u) × Touch L (p without S) x z
          from (w, a, b, c, d) = let (z, i, e) = last_link L (q without U) u d (λ f. never (S u) uS (rw f at b)) in
              (z, and_in (q z) (L u z) (of_without q U z (of_without (q without U) (only u) z (touch_end e)).0).0 (m.both z u i), touch_join c (touch_sub sub e))

    -- what is kept when u is settled and taken out
    after : (M : Set) → M part_of q without only u → Below n p → 0 < l → u is_in q → u is_in may
        → ((S : Set) (o : C S) → u is_in S → p without q part_of S → Toward L p N S → Toward L p M S) → Peeled L n may k p C (q without only u) (l - 1) M
    after M mq pn pos uq um on = record {
      sought = h.sought;
      part = λ x g. h.part x (of_without q (only u) x g).0;
      inside = mq;
      free = λ x g. by may x (h.free x) um (without_one p q u x g);
      level = omega (arith, h.level, size_minus n p q h.part, size_minus n p (q without only u) (λ x g. h.part x (of_without q (only u) x g).0), size_minus_one n q u (pn u (h.part u uq)) uq);
      kept = λ S o. go S o (h.kept S o) (test (S u));
    }
      where
        by : (s : Set) (x : ℕ) → (x is_in p without q → x is_in s) → u is_in s → (x is_in p without q) ⊎ (x ≡ u) → x is_in s
        by s x f g (inl a) = f a
        by s x f g (inr a) = rw a g

        go : (S : Set) → C S → Whole L (p without S) ⊎ ((p without q part_of S) × Toward L p N S) → (S u ≡ true) ⊎ (S u ≡ false)
            → Whole L (p without S) ⊎ ((p without (q without only u) part_of S) × Toward L p M S)
        go S o (inl a) e = inl a
        go S o (inr (a, b)) (inr e) = inl (misses S o a b e)
        go S o (inr (a, b)) (inl e) = inr (λ x g. by S x (a x) e (without_one p q u x g), on S o e a b)

    -- the links of u may be the next sources
    pub turn_links : Below n p → 0 < l → u is_in q → u is_in may → Peeled L n may k p C (q without only u) (l - 1) (q cut L u)
    turn_links pn pos uq um = after (q cut L u) inside pn pos uq um (λ S o e a b. links S o a b e)
      where
        inside : q cut L u part_of q without only u
        inside x g = in_without q (only u) x (and_left (q x) (L u x) g) (not_only u x (λ e. never (L u u) (rw e at (and_right (q x) (L u x) g)) (m.apart u)))

    -- those before but for u may be the next sources
    pub turn_rest : Below n p → 0 < l → u is_in q → u is_in may → Peeled L n may k p C (q without only u) (l - 1) (N without only u)
    turn_rest pn pos uq um = after (N without only u) inside pn pos uq um (λ S o e a b x g. let r = b x g in
        (r.0, in_without N (only u) r.0 r.1 (not_only u r.0 (λ f. never (S u) e (rw f at (of_without p S r.0 (touch_end r.2)).1))), r.2))
      where
        inside : N without only u part_of q without only u
        inside x g = let w = of_without N (only u) x g in in_without q (only u) x (h.inside x w.0) w.1

    -- the end, at a source that no loss may take
    pub end_source : u not_in may → (S : Set) → C S → Whole L (p without S)
    end_source um S o = go (h.kept S o) (test (S u))
      where
        go : Whole L (p without S) ⊎ ((p without q part_of S) × Toward L p N S) → (S u ≡ true) ⊎ (S u ≡ false) → Whole L (p without S)
        go (inl a) e = a
        go (inr (a, b)) (inl e) = never (may u) ((h.sought S o).free u e) um
        go (inr (a, b)) (inr e) = misses S o a b e
