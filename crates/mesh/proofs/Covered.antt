-- Holding is decided, and every set that holds lies in a group: a set that holds and is no group lies in a larger one that holds, and sizes end at
-- n. So the rows of a list cover every set that holds.
use mathlib.Core.Path.{◌≡◌, refl, subst}
use mathlib.Core.Logic.{◌⊎◌, inl, inr}
use mathlib.Core.Bool.{Bool, true, false, ◌&&◌, true≢false, false≢true}
use Prim.Native.Nat.{ℕ, zero, suc, ◌+◌, ◌≤◌, ◌<◌}
use native.Mathlib.Omega.{arith}
use native.Mathlib.Decide.{dec_le}
use borrow.Author.Tests.{lt-ltb}
use Rattle.stations.specs.Sets.{Set, ◌is_in◌, ◌part_of◌, none, only, stations, ◌joined◌, Below, size, one_if}
use Rattle.mesh.specs.Mesh.{Links, Mesh, Holds, Group, Groups}
use Rattle.mesh.proofs.Small.Decide.{guard, every, holdsb, subb}
use Rattle.stations.proofs.Bools.{test, never, or_cases}
use Rattle.stations.proofs.Members.{only_is}
use Rattle.stations.proofs.Counting.{size_le, size_mono, full}
use Rattle.mesh.proofs.Small.Decided.{each_in, guard_in, guard_out, not_past, one_if_le, sub_sound, every_sound, holds_sound, holds_complete}

-- holding is decided
pub holds_dec : (L : Links) (n k : ℕ) (s : Set) → Mesh L → Below n s → Dec (Holds L n k s)
holds_dec L n k s m sn = go (test (holdsb L n k s))
  where
    go : (holdsb L n k s ≡ true) ⊎ (holdsb L n k s ≡ false) → Dec (Holds L n k s)
    go (inl e) = yes (holds_sound L n k s m sn e)
    go (inr e) = no (λ h. never (holdsb L n k s) (holds_complete L n k s h) e)

and_false : (a b : Bool) → a && b ≡ false → (a ≡ false) ⊎ (b ≡ false)
and_false true b h = inr h
and_false false b h = inl refl

guard_false : (a b : Bool) → guard a b ≡ false → (a ≡ true) × (b ≡ false)
guard_false true b h = (refl, h)
guard_false false b h = absurd (true≢false h)

-- where the test of all parts fails, there is a part of s below n, of at most m stations, at which f fails
pub every_find : (n m : ℕ) (s : Set) (f : Set → Bool) → every n m s f ≡ false → (p : Set) × (p part_of s) × Below n p × (size n p ≤ m) × (f p ≡ false)
unfolding every size
every_find zero m s f h = (none, λ x g. absurd (false≢true g), λ x g. absurd (false≢true g), omega arith, h)
every_find (suc n) zero s f h = go (every_find n zero s f h)
  where
    go : (p : Set) × (p part_of s) × Below n p × (size n p ≤ 0) × (f p ≡ false) → (p : Set) × (p part_of s) × Below (suc n) p × (one_if (p n) + size n p ≤ 0) × (f p ≡ false)
    go (p, a, b, c, d) = (p, a, λ x g. omega (arith, b x g), rw (not_past n p b) (omega arith), d)
every_find (suc n) (suc m) s f h = go (and_false (every n (suc m) s f) (guard (s n) (every n m s f')) h) (every_find n (suc m) s f) (every_find n m s f')
  where
    f' : Set → Bool
    f' q = f (q joined only n)

    Found : Type 0
    Found = (p : Set) × (p part_of s) × Below (suc n) p × (one_if (p n) + size n p ≤ suc m) × (f p ≡ false)

    first : (p : Set) × (p part_of s) × Below n p × (size n p ≤ suc m) × (f p ≡ false) → Found
    first (p, a, b, c, d) = (p, a, λ x g. omega (arith, b x g), rw (not_past n p b) (omega arith), d)

    second : n is_in s → (p : Set) × (p part_of s) × Below n p × (size n p ≤ m) × (f' p ≡ false) → Found
    second e (p, a, b, c, d) = (
      p joined only n,
      λ x g. one x (or_cases (p x) (only n x) g),
      λ x g. two x (or_cases (p x) (only n x) g),
      omega (arith, one_if_le ((p joined only n) n), size_mono n (p joined only n) p (λ x l g. three x l (or_cases (p x) (only n x) g))),
      d,
    )
      where
        one : (x : ℕ) → (p x ≡ true) ⊎ (only n x ≡ true) → x is_in s
        one x (inl g) = a x g
        one x (inr g) = rw (only_is n x g) e

        two : (x : ℕ) → (p x ≡ true) ⊎ (only n x ≡ true) → x < suc n
        two x (inl g) = omega (arith, b x g)
        two x (inr g) = omega (arith, only_is n x g)

        three : (x : ℕ) → x < n → (p x ≡ true) ⊎ (only n x ≡ true) → x is_in p
        three x l (inl g) = g
        three x l (inr g) = absurd (omega (arith, only_is n x g))

    go : (every n (suc m) s f ≡ false) ⊎ (guard (s n) (every n m s f') ≡ false)
        → (every n (suc m) s f ≡ false → (p : Set) × (p part_of s) × Below n p × (size n p ≤ suc m) × (f p ≡ false))
        → (every n m s f' ≡ false → (p : Set) × (p part_of s) × Below n p × (size n p ≤ m) × (f' p ≡ false)) → Found
    go (inl e) i j = first (i e)
    go (inr e) i j = let g = guard_false (s n) (every n m s f') e in second g.0 (j g.1)

sub_complete : (n : ℕ) (p s : Set) → p part_of s → subb n p s ≡ true
unfolding subb
sub_complete n p s h = each_in n (λ x. guard (p x) (s x)) (λ x l. guard_in (p x) (s x) (h x))

-- each set that holds lies in a group
module _ (L : Links) (n k : ℕ) (m : Mesh L) where
  larger : Set → Set → Bool
  larger s t = guard (holdsb L n k t) (guard (subb n s t) (subb n t s))

  climb : (N : ℕ) (s : Set) → n < size n s + N → Holds L n k s → (t : Set) × Group L n k t × (s part_of t)
  unfolding larger
  climb zero s l h = absurd (omega (arith, size_le n s))
  climb (suc N) s l h = go (test (every n n (stations n) (larger s))) (climb N)
    where
      go : (every n n (stations n) (larger s) ≡ true) ⊎ (every n n (stations n) (larger s) ≡ false)
          → ((t : Set) → n < size n t + N → Holds L n k t → (v : Set) × Group L n k v × (t part_of v)) → (t : Set) × Group L n k t × (s part_of t)
      go (inl e) rec = (s, record { holds = h; largest = largest }, λ x g. g)
        where
          largest : (t : Set) → Holds L n k t → s part_of t → t part_of s
          largest t ht st = sub_sound n t s ht.below (guard_out (subb n s t) (subb n t s)
              (guard_out (holdsb L n k t) (guard (subb n s t) (subb n t s))
              (every_sound n n (stations n) (larger s) e t (λ x g. lt-ltb x n (ht.below x g)) ht.below (size_le n t)) (holds_complete L n k t ht))
              (sub_complete n s t st))
      go (inr e) rec = by (every_find n n (stations n) (larger s) e)
        where
          by : (t : Set) × (t part_of stations n) × Below n t × (size n t ≤ n) × (larger s t ≡ false) → (t : Set) × Group L n k t × (s part_of t)
          by (t, a, b, c, d) =
              let g1 = guard_false (holdsb L n k t) (guard (subb n s t) (subb n t s)) d in
              let g2 = guard_false (subb n s t) (subb n t s) g1.1 in
              let st = sub_sound n s t h.below g2.0 in
              let r = rec t (more st g2.1 (dec_le (size n t) (size n s))) (holds_sound L n k t m b g1.0) in
              (r.0, r.1, λ x g. r.2 x (st x g))
            where
              more : s part_of t → subb n t s ≡ false → Dec (size n t ≤ size n s) → n < size n t + N
              more st f (yes q) = never (subb n t s) (sub_complete n t s (full n s t b st q)) f
              more st f (no q) = omega arith

  pub in_group : (s : Set) → Holds L n k s → (t : Set) × Group L n k t × (s part_of t)
  in_group s h = climb (suc n) s (omega arith) h

  -- so the rows of a list cover every set that holds
  pub covered : (g : ℕ) (R : ℕ → Set) → Groups L n k g R → (s : Set) → Holds L n k s → (i : ℕ) × (i < g) × (s part_of R i)
  covered g R G s h = go (in_group s h)
    where
      go : (t : Set) × Group L n k t × (s part_of t) → (i : ℕ) × (i < g) × (s part_of R i)
      go (t, gt, st) = let r = G.all t gt in (r.0, r.1, subst (λ (z : Set). s part_of z) r.2 st)
