-- The table of small meshes, shown from the definitions: one test over all its lines, computed, and one law that turns it into what they state.
use mathlib.Core.Path.{◌≡◌, refl, sym, ◌∙◌}
use mathlib.Core.Logic.{◌⊎◌, inl, inr}
use mathlib.Core.Bool.{Bool, true, false, not, ◌&&◌, ◌||◌, true≢false, false≢true}
use mathlib.Core.List.{List, [], ◌∷◌}
use Prim.Native.Nat.{ℕ, zero, suc, ◌≤◌, ◌<◌}
use native.Mathlib.Omega.{arith}
use native.Mathlib.Decide.{dec_le}
use lib.Dec.{eqb, ltb, leb}
use lib.ListN.{length}
use borrow.Author.Tests.{eqb-true, eq-eqb, ltb-true, leb-true, lt-ltb, not-false}
use Rattle.stations.specs.Sets.{Set, ◌is_in◌, ◌part_of◌, Below, Before, size, stations}
use Rattle.mesh.specs.Mesh.{Links, Mesh, Group, Groups, Listed, WEAK, Answers}
use Rattle.mesh.specs.Standing.{Standing}
use Rattle.mesh.proofs.Small.Decide.{guard, any, each, memo, grow, reach, pick, wholeb, every, every_part, holdsb, subb, not_afterb, weak_setb, groupsb}
use Rattle.mesh.specs.SmallMeshes.{set_of, Link, ◌–◌, links_of, row_of, Line, holds, few, weak, groups, stands, Right, All, five, ring, four, fours, six, triangles, table}
use Rattle.stations.proofs.Bools.{test, never, and_left, and_right, or_cases, not_true}
use Rattle.stations.proofs.Counting.{size_le}
use Rattle.mesh.proofs.Small.Decided.{each_out, guard_out, every_sound, holds_sound, holds_complete, weak_set_sound, groups_sound, not_after}
use Rattle.mesh.proofs.Pruning.{level_down}
use Rattle.mesh.proofs.Covered.{in_group, every_find}

-- every station of a list is below n
unfoldable pub below : ℕ → List ℕ → Bool
below n [] = true
below n (a ∷ l) = ltb a n && below n l

set_of_below : (n : ℕ) (l : List ℕ) → below n l ≡ true → Below n (set_of l)
unfolding below set_of
set_of_below n [] h x g = absurd (false≢true g)
set_of_below n (a ∷ l) h x g = go (or_cases (eqb x a) (set_of l x) g) (set_of_below n l (and_right (ltb a n) (below n l) h) x)
  where
    go : (eqb x a ≡ true) ⊎ (set_of l x ≡ true) → (set_of l x ≡ true → x < n) → x < n
    go (inl e) ih = omega (arith, eqb-true x a e, ltb-true a n (and_left (ltb a n) (below n l) h))
    go (inr e) ih = ih e

unfoldable pub rows_belowb : ℕ → List (List ℕ) → Bool
rows_belowb n [] = true
rows_belowb n (l ∷ ls) = below n l && rows_belowb n ls

pub rows_below : (n : ℕ) (ls : List (List ℕ)) → rows_belowb n ls ≡ true → (i : ℕ) → Below n (row_of ls i)
unfolding rows_belowb row_of
rows_below n [] h i x g = absurd (false≢true g)
rows_below n (l ∷ ls) h zero x g = set_of_below n l (and_left (below n l) (rows_belowb n ls) h) x g
rows_below n (l ∷ ls) h (suc i) x g = rows_below n ls (and_right (below n l) (rows_belowb n ls) h) i x g

-- no link leads from a station to itself
unfoldable pub proper : List Link → Bool
proper [] = true
proper (c – d ∷ l) = not (eqb c d) && proper l

links_apart : (l : List Link) → proper l ≡ true → (a : ℕ) → links_of l a a ≡ false
unfolding links_of proper
links_apart [] h a = refl
links_apart (c – d ∷ l) h a = go (test (eqb a c)) (test (eqb a d)) (links_apart l (and_right (not (eqb c d)) (proper l) h) a)
  where
    go : (eqb a c ≡ true) ⊎ (eqb a c ≡ false) → (eqb a d ≡ true) ⊎ (eqb a d ≡ false) → links_of l a a ≡ false
        → (eqb a c && eqb a d) || (eqb a d && eqb a c) || links_of l a a ≡ false
    go (inl p) (inl q) ih = never (eqb c d) (eq-eqb c d (sym (eqb-true a c p) ∙ eqb-true a d q)) (not_true (eqb c d) (and_left (not (eqb c d)) (proper l) h))
    go (inl p) (inr q) ih = rw (p, q) ih
    go (inr p) (inl q) ih = rw (p, q) ih
    go (inr p) (inr q) ih = rw (p, q) ih

or_swap : (a b c d r r' : Bool) → (r ≡ true → r' ≡ true) → (a && b) || (c && d) || r ≡ true → (d && c) || (b && a) || r' ≡ true
or_swap true true true true r r' f h = refl
or_swap true true true false r r' f h = refl
or_swap true true false true r r' f h = refl
or_swap true true false false r r' f h = refl
or_swap true false true true r r' f h = refl
or_swap true false true false r r' f h = f h
or_swap true false false true r r' f h = f h
or_swap true false false false r r' f h = f h
or_swap false true true true r r' f h = refl
or_swap false true true false r r' f h = f h
or_swap false true false true r r' f h = f h
or_swap false true false false r r' f h = f h
or_swap false false true true r r' f h = refl
or_swap false false true false r r' f h = f h
or_swap false false false true r r' f h = f h
or_swap false false false false r r' f h = f h

links_both : (l : List Link) (a b : ℕ) → links_of l a b ≡ true → links_of l b a ≡ true
unfolding links_of
links_both [] a b h = h
links_both (c – d ∷ l) a b h = or_swap (eqb a c) (eqb b d) (eqb a d) (eqb b c) (links_of l a b) (links_of l b a) (links_both l a b) h

pub links_mesh : (l : List Link) → proper l ≡ true → Mesh (links_of l)
links_mesh l h = record { apart = links_apart l h; both = links_both l }

-- the test of a line for a weak set
weakb : Links → ℕ → ℕ → List ℕ → Bool
weakb L n k p = ltb k (size n (stations n)) && below n p && weak_setb L n k (stations n) (set_of p)

weak_says : (L : Links) (n k : ℕ) (p : List ℕ) → Mesh L → weakb L n k p ≡ true → Answers L n k (stations n) (WEAK (set_of p))
unfolding weakb
weak_says L n k p m h = (
  ltb-true k (size n (stations n)) (and_left c1 c2 (and_left (c1 && c2) c3 h)),
  weak_set_sound L n k (stations n) (set_of p) m (λ x. ltb-true x n) (set_of_below n p (and_right c1 c2 (and_left (c1 && c2) c3 h))) (and_right (c1 && c2) c3 h),
)
  where
    c1 : Bool
    c1 = ltb k (size n (stations n))

    c2 : Bool
    c2 = below n p

    c3 : Bool
    c3 = weak_setb L n k (stations n) (set_of p)

-- the rows stand in order
orderb : ℕ → ℕ → (ℕ → Set) → Bool
orderb n g R = each g (λ j. each j (λ i. not_afterb n (R i) (R j)))

listedb : Links → ℕ → ℕ → List (List ℕ) → Bool
listedb L n k gs = rows_belowb n gs && groupsb L n k (length gs) (row_of gs) && orderb n (length gs) (row_of gs)

listed : (L : Links) (n k : ℕ) (gs : List (List ℕ)) → Mesh L → listedb L n k gs ≡ true → Listed L n k (length gs) (row_of gs)
unfolding listedb orderb
listed L n k gs m h = record { groups = gr; order = order }
  where
    g : ℕ
    g = length gs

    R : ℕ → Set
    R = row_of gs

    c1 : Bool
    c1 = rows_belowb n gs

    c2 : Bool
    c2 = groupsb L n k g R

    c3 : Bool
    c3 = orderb n g R

    rn : (i : ℕ) → Below n (R i)
    rn = rows_below n gs (and_left c1 c2 (and_left (c1 && c2) c3 h))

    gr : Groups L n k g R
    gr = groups_sound L n k g R m (λ i l. rn i) (and_right c1 c2 (and_left (c1 && c2) c3 h))

    order : (i j : ℕ) → i < j → j < g → Before (R i) (R j)
    order i j l r = go (not_after n (R i) (R j) (rn i) (rn j)
        (each_out j (λ i. not_afterb n (R i) (R j)) (each_out g (λ j. each j (λ i. not_afterb n (R i) (R j))) (and_right (c1 && c2) c3 h) j r) i l))
      where
        go : (R j ≡ R i) ⊎ Before (R i) (R j) → Before (R i) (R j)
        go (inl e) = absurd (omega (arith, gr.differ j i r (omega arith) e))
        go (inr f) = f

-- a station stands at v: v is at most 16, a set that holds at v has it unless v is 0, and no set that holds at the next level has it
unfoldable pub standsb : Links → ℕ → ℕ → ℕ → Bool
standsb L n a v = leb v 16 && (eqb v 0 || not (every n n (stations n) (λ s. not (holdsb L n v s && s a)))) &&
    every n n (stations n) (λ s. guard (holdsb L n (suc v) s) (not (s a)))

pub stands_says : (L : Links) (n a v : ℕ) → Mesh L → standsb L n a v ≡ true → Standing L n a v
unfolding standsb
stands_says L n a v m h = record { top = leb-true v 16 (and_left c1 c2 (and_left (c1 && c2) c3 h)); reached = reached; largest = λ k s x y G e. go k s G e (dec_le k v) }
  where
    f : Set → Bool
    f s = not (holdsb L n v s && s a)

    c1 : Bool
    c1 = leb v 16

    c2 : Bool
    c2 = eqb v 0 || not (every n n (stations n) f)

    c3 : Bool
    c3 = every n n (stations n) (λ s. guard (holdsb L n (suc v) s) (not (s a)))

    reached : 0 < v → (s : Set) × Group L n v s × (a is_in s)
    reached l = by (or_cases (eqb v 0) (not (every n n (stations n) f)) (and_right c1 c2 (and_left (c1 && c2) c3 h)))
      where
        both : (x : Bool) (s : Set) → not (x && s a) ≡ false → (x ≡ true) × (a is_in s)
        both true s e = (refl, not-false (s a) e)
        both false s e = absurd (true≢false e)

        from : (p : Set) × (p part_of stations n) × Below n p × (size n p ≤ n) × (f p ≡ false) → (s : Set) × Group L n v s × (a is_in s)
        from (p, _, b, _, e) = let w = both (holdsb L n v p) p e in let (t, G, q) = in_group L n v m p (holds_sound L n v p m b w.0) in (t, G, q a w.1)

        by : (eqb v 0 ≡ true) ⊎ (not (every n n (stations n) f) ≡ true) → (s : Set) × Group L n v s × (a is_in s)
        by (inl e) = absurd (omega (arith, eqb-true v 0 e))
        by (inr e) = from (every_find n n (stations n) f (not_true (every n n (stations n) f) e))

    go : (k : ℕ) (s : Set) → Group L n k s → a is_in s → Dec (k ≤ v) → k ≤ v
    go k s G e (yes d) = d
    go k s G e (no d) =
        let H = level_down L n (suc v) k s (omega arith) G.holds in
        never (s a) e (not_true (s a) (guard_out (holdsb L n (suc v) s) (not (s a)) (every_sound n n (stations n) (λ s. guard (holdsb L n (suc v) s) (not (s a))) (and_right (c1 && c2) c3 h) s
        (λ x g. lt-ltb x n (H.below x g)) H.below (size_le n s)) (holds_complete L n (suc v) s H)))

rightb : Line → Bool
rightb (holds n ls k) = proper ls && holdsb (links_of ls) n k (stations n)
rightb (few n ls k) = leb (size n (stations n)) k
rightb (weak n ls k p) = proper ls && weakb (links_of ls) n k p
rightb (groups n ls k gs) = proper ls && listedb (links_of ls) n k gs
rightb (stands n ls a v) = proper ls && standsb (links_of ls) n a v

right : (l : Line) → rightb l ≡ true → Right l
unfolding rightb Right
right (holds n ls k) h = holds_sound (links_of ls) n k (stations n) (links_mesh ls (and_left (proper ls) t h)) (λ x. ltb-true x n) (and_right (proper ls) t h)
  where
    t : Bool
    t = holdsb (links_of ls) n k (stations n)
right (few n ls k) h = leb-true (size n (stations n)) k h
right (weak n ls k p) h = weak_says (links_of ls) n k p (links_mesh ls (and_left (proper ls) (weakb (links_of ls) n k p) h)) (and_right (proper ls) (weakb (links_of ls) n k p) h)
right (groups n ls k gs) h = listed (links_of ls) n k gs (links_mesh ls (and_left (proper ls) (listedb (links_of ls) n k gs) h)) (and_right (proper ls) (listedb (links_of ls) n k gs) h)
right (stands n ls a v) h = stands_says (links_of ls) n a v (links_mesh ls (and_left (proper ls) (standsb (links_of ls) n a v) h)) (and_right (proper ls) (standsb (links_of ls) n a v) h)

allb : List Line → Bool
allb [] = true
allb (l ∷ ls) = let r = allb ls in rightb l && r

all_of : (ls : List Line) → allb ls ≡ true → All ls
unfolding allb All
all_of [] h = tt
all_of (l ∷ ls) h = (right l (and_left (rightb l) (allb ls) h), all_of ls (and_right (rightb l) (allb ls) h))

computed : allb table ≡ true
unfolding allb rightb weakb listedb orderb standsb proper below rows_belowb set_of links_of row_of table five ring four fours six triangles size any each memo grow reach pick wholeb every every_part holdsb subb not_afterb weak_setb groupsb
computed = refl

-- the whole table
pub shown : All table
shown = all_of table computed
