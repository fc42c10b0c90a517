-- Definitions that the other theorems hold from one side only, held from the other by examples that are computed.
--   five_divided, five_needs, five_room    the five stations divided by {2}: two pieces of three, which need two rows at level 2, and R is 2
--   alone_not_one, linked_not_none         a station alone does not stand at 1, and one of two linked stations does not stand at 0
use mathlib.Core.Bool.{Bool, true, not, ◌&&◌, ◌||◌}
use mathlib.Core.List.{List, [], ◌∷◌}
use mathlib.Core.Logic.{◌⊎◌, inl, inr}
use mathlib.Core.Path.{◌≡◌, refl}
use Prim.Native.Nat.{ℕ, ◌<◌}
use native.Mathlib.Omega.{arith}
use lib.Dec.{eqb}
use borrow.Author.Tests.{eqb-true, ltb-true}
use Rattle.stations.specs.Sets.{Set, ◌is_in◌, ◌part_of◌, ◌without◌, ◌joined◌, Below, only, stations, size}
use Rattle.stations.proofs.Bools.{never, and_left, and_right, and_in, or_cases, not_true}
use Rattle.stations.proofs.Members.{of_without, only_is}
use Rattle.stations.proofs.Counting.{size_le, size-only}
use Rattle.mesh.specs.Mesh.{Links, R}
use Rattle.mesh.specs.Dividing.{Islands, parts, Dividing, all_stations, divided, needed}
use Rattle.mesh.specs.SmallMeshes.{set_of, ◌–◌, links_of, row_of, five}
use Rattle.mesh.specs.Standing.{Standing}
use Rattle.mesh.proofs.Small.Decide.{guard, any, each, memo, grow, reach, pick, wholeb, every, every_part, holdsb, subb}
use Rattle.mesh.proofs.Small.Decided.{any_out, each_out, guard_out, sub_sound}
use Rattle.mesh.proofs.Small.Shown.{below, rows_belowb, rows_below, proper, links_mesh, standsb, stands_says}

-- ---- islands, decided
islandsb : Links → ℕ → Set → Set → ℕ → (ℕ → Set) → Bool
islandsb L n P S t I = each t (λ i. subb n (I i) (P without S)) &&
    each n (λ x. guard ((P without S) x) (any t (λ i. I i x))) &&
    each t (λ i. each t (λ j. eqb i j || each n (λ x. not (I i x && I j x)))) &&
    each t (λ i. each n (λ x. each n (λ y. guard (I i x && (P without S) y && L x y) (I i y))))

islands_sound : (L : Links) (n : ℕ) (P S : Set) (t : ℕ) (I : ℕ → Set) → Below n P → ((i : ℕ) → Below n (I i)) → islandsb L n P S t I ≡ true → Islands L P S t I
unfolding islandsb
islands_sound L n P S t I pn below h = record { inside = inside; cover = cover; apart = apart; closed = closed }
  where
    c1 : Bool
    c1 = each t (λ i. subb n (I i) (P without S))

    c2 : Bool
    c2 = each n (λ x. guard ((P without S) x) (any t (λ i. I i x)))

    c3 : Bool
    c3 = each t (λ i. each t (λ j. eqb i j || each n (λ x. not (I i x && I j x))))

    c4 : Bool
    c4 = each t (λ i. each n (λ x. each n (λ y. guard (I i x && (P without S) y && L x y) (I i y))))

    h3 : c1 && c2 && c3 ≡ true
    h3 = and_left (c1 && c2 && c3) c4 h

    h2 : c1 && c2 ≡ true
    h2 = and_left (c1 && c2) c3 h3

    inside : (i : ℕ) → i < t → I i part_of P without S
    inside i l = sub_sound n (I i) (P without S) (below i) (each_out t (λ i. subb n (I i) (P without S)) (and_left c1 c2 h2) i l)

    cover : (x : ℕ) → x is_in P without S → (i : ℕ) × (i < t) × (x is_in I i)
    cover x g = any_out t (λ i. I i x)
        (guard_out ((P without S) x) (any t (λ i. I i x)) (each_out n (λ x. guard ((P without S) x) (any t (λ i. I i x))) (and_right c1 c2 h2) x (pn x (of_without P S x g).0)) g)

    apart : (i j x : ℕ) → i < t → j < t → x is_in I i → x is_in I j → i ≡ j
    apart i j x l m a b = go (or_cases (eqb i j) (each n (λ x. not (I i x && I j x)))
        (each_out t (λ j. eqb i j || each n (λ x. not (I i x && I j x))) (each_out t (λ i. each t (λ j. eqb i j || each n (λ x. not (I i x && I j x)))) (and_right (c1 && c2) c3 h3) i l) j m))
      where
        go : (eqb i j ≡ true) ⊎ (each n (λ x. not (I i x && I j x)) ≡ true) → i ≡ j
        go (inl e) = eqb-true i j e
        go (inr e) = never (I i x && I j x) (and_in (I i x) (I j x) a b) (not_true (I i x && I j x) (each_out n (λ x. not (I i x && I j x)) e x (below i x a)))

    closed : (i x y : ℕ) → i < t → x is_in I i → y is_in P without S → L x y ≡ true → y is_in I i
    closed i x y l a b e = guard_out (I i x && (P without S) y && L x y) (I i y)
        (each_out n (λ y. guard (I i x && (P without S) y && L x y) (I i y)) (each_out n (λ x. each n (λ y. guard (I i x && (P without S) y && L x y) (I i y)))
        (each_out t (λ i. each n (λ x. each n (λ y. guard (I i x && (P without S) y && L x y) (I i y)))) (and_right (c1 && c2 && c3) c4 h) i l) x (below i x a)) y (pn y (of_without P S y b).0))
        (and_in (I i x && (P without S) y) (L x y) (and_in (I i x) ((P without S) y) a b) e)

-- ---- the five stations divided by station 2
abbrev sides : List (List ℕ)
sides = (0 ∷ 1 ∷ []) ∷ (3 ∷ 4 ∷ []) ∷ []

abbrev side : ℕ → Set
side = row_of sides

abbrev pub halves : List Set
halves = (side 1 joined only 2) ∷ (side 0 joined only 2) ∷ []

five_islands : Islands (links_of five) (stations 5) (only 2) 2 side
unfolding islandsb each any subb links_of five row_of set_of below rows_belowb
five_islands = islands_sound (links_of five) 5 (stations 5) (only 2) 2 side (λ x. ltb-true x 5) (rows_below 5 sides refl) refl

pub five_divided : Dividing (links_of five) 5 2 halves
unfolding parts size row_of set_of
five_divided = divided [] [] (stations 5) (only 2) 2 side all_stations (λ x g. rw (only_is 2 x g) refl) (omega (arith, size-only 5 2 (omega arith))) five_islands

pub five_needs : needed 5 2 halves ≡ 2
unfolding needed size row_of set_of
five_needs = refl

pub five_room : R 5 2 ≡ 2
five_room = refl

-- ---- standings
pub alone_not_one : ¬ Standing (links_of []) 1 0 1
alone_not_one p = let (s, G, e) = p.reached (omega arith) in omega (arith, G.holds.above, size_le 1 s)

linked_stands : Standing (links_of (0 – 1 ∷ [])) 2 0 1
unfolding standsb proper links_of size any each memo grow reach pick wholeb every every_part holdsb
linked_stands = stands_says (links_of (0 – 1 ∷ [])) 2 0 1 (links_mesh (0 – 1 ∷ []) refl) refl

pub linked_not_none : ¬ Standing (links_of (0 – 1 ∷ [])) 2 0 0
linked_not_none p = let (s, G, e) = linked_stands.reached (omega arith) in omega (arith, p.largest 1 s (omega arith) (omega arith) G e)
