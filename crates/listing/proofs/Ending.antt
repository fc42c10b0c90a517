-- How a listing begins and ends. It begins with the set itself in row 0 (begun). When no row is unfinished, the rows are what was sought; the unused
-- rows are cleared and the others put in order, which changes no set (ended). A set of k stations or fewer has nothing that holds (nothing). Within
-- the set of all stations the list is the list of the groups (listed_groups).
use mathlib.Core.List.{List}
use mathlib.Core.Path.{◌≡◌, refl, sym, ap, ◌∙◌, subst}
use Prim.Native.Nat.{ℕ, ◌+◌, ◌*◌, ◌<◌, ◌≤◌}
use native.Mathlib.Decide.{dec_lt}
use native.Mathlib.Omega.{arith}
use lib.ListN.{length}
use borrow.Author.Tests.{ltb-true}
use Rattle.stations.specs.Sets.{Set, ◌is_in◌, ◌part_of◌, Below, stations, ◌cut◌, size, Before}
use Rattle.stations.proofs.Members.{of_cut}
use Rattle.stations.proofs.Counting.{size-sub, size_past}
use Rattle.stations.proofs.Order.{before_not_self}
use Rattle.mesh.specs.Mesh.{Links, Holds, R, Listed}
use Rattle.mesh.specs.Table.{linked}
use Rattle.mesh.proofs.Bound.{total, weight, rows_weight, heavy, total_inject}
use Rattle.mesh.proofs.Pieces.{begin, pieces_same, found}
use Rattle.mesh.proofs.Rows.{Found, same_row, rows}
use Rattle.mesh.proofs.Past.{holds_to, holds_from}
use Rattle.listing.specs.List.{set_at, ListedIn, Asked, Listing}
use Rattle.listing.specs.Rows.{Kept, Stored, Cleared, Different, Sorted}
use Rattle.listing.specs.Steps.{State}
use Rattle.listing.proofs.Lists.{same_words}
use Rattle.listing.proofs.Turning.{rows_few}

-- the rows of a search that is over
pub state_found : {t l : List ℕ} {k w : ℕ} {D : Set} {g : ℕ} → State t k w D l g g → Found (linked t) 256 k D g (set_at l)
state_found {t = t} {l = l} {k = k} {w = w} {D = D} {g = g} s = found (linked t) 256 k w D g (set_at l) s.pieces s.firm

module _ {t : List ℕ} {D : Set} {k : ℕ} {l : List ℕ} (a : Asked t D k l) where
  abbrev most : ℕ
  most = weight k (size 256 D)

  room : most * 4 ≤ length l
  room = omega (arith, a.room, ap (λ (x : ℕ). x * 4) (rows_weight (size 256 D) k))

  -- nothing of k stations or fewer holds
  pub nothing : size 256 D ≤ k → Listing t D k l l 0
  unfolding total
  nothing few = record {
    listed = record {
      hold = λ i h. absurd (omega arith);
      inside = λ i h. absurd (omega arith);
      cover = λ H h p. absurd (omega (arith, h.above, size-sub 256 H D p));
      share = λ i j h. absurd (omega arith);
      order = λ i j h m. absurd (omega arith);
    };
    most = omega arith;
    weigh = omega arith;
    clear = λ p h m. absurd (omega (arith, rows_weight (size 256 D) k));
    past = λ p h. refl;
    long = refl;
  }

  module _ (large : k < size 256 D) where
    some : 1 ≤ most
    some = heavy k (size 256 D) large

    pub first_room : 0 * 4 + 4 ≤ length l
    first_room = omega (arith, some, room)

    module _ {l1 : List ℕ} (st : Stored l 0 D l1) where
      pub begun : State t k most D l1 0 1
      begun = record {
        fits = a.fits;
        mesh = a.mesh;
        room = omega (arith, room, st.kept.long);
        upto = omega arith;
        pieces = pieces_same (linked t) 256 k most D 1 (λ i. D) (set_at l1) (begin (linked t) 256 k D) (λ i h. sym (row i h));
        large = λ i h. rw (row i h) large;
        firm = λ i h. absurd (omega arith);
      }
        where
          row : (i : ℕ) → i < 1 → set_at l1 i ≡ D
          row i h = ap (set_at l1) (zero_only i h) ∙ st.here
            where
              zero_only : (x : ℕ) → x < 1 → x ≡ 0
              zero_only x m = omega arith

      module _ {l2 : List ℕ} {g : ℕ} (s : State t k most D l2 g g) (kept : Kept most l1 l2) where
        pub clear_room : (m : ℕ) → m ≡ most → (g ≤ m) × (m * 4 ≤ length l2)
        clear_room m e = (omega (arith, rows_few s), omega (arith, s.room))

        module _ {l3 : List ℕ} {m : ℕ} (same : m ≡ most) (zero : Cleared l2 g m l3) where
          cl : Cleared l2 g most l3
          cl = subst (λ (x : ℕ). Cleared l2 g x l3) same zero

          row_same : (i : ℕ) → i < g → set_at l3 i ≡ set_at l2 i
          row_same i h = same_words l2 l3 i (λ p x y. cl.before p (omega arith))

          pub sort_room : (g * 4 ≤ length l3) × Different g (set_at l3)
          sort_room = (
            omega (arith, rows_few s, s.room, cl.kept.long),
            λ i j h m e. same_row (linked t) 256 k D g (set_at l2) (state_found s) i j h m
                (λ x p. subst (λ (z : Set). x is_in z) (sym (row_same i h) ∙ e ∙ row_same j m) p),
          )

          module _ {l4 : List ℕ} (so : Sorted l3 g l4) where
            -- where a row came from
            came : (i : ℕ) → i < g → (j : ℕ) × (j < g) × (set_at l4 i ≡ set_at l2 j)
            came i h = let x = so.from i h in (x.0, x.1, x.2 ∙ row_same x.0 x.1)

            differ : Different g (set_at l4)
            differ i j h m c = by (dec_lt i j) (dec_lt j i)
              where
                by : Dec (i < j) → Dec (j < i) → i ≡ j
                by (yes w) _ = absurd (before_not_self (set_at l4 j) (subst (λ (z : Set). Before z (set_at l4 j)) c (so.order i j w m)))
                by (no _) (yes w) = absurd (before_not_self (set_at l4 j) (subst (λ (z : Set). Before (set_at l4 j) z) c (so.order j i w h)))
                by (no v) (no w) = omega arith

            listed : ListedIn (linked t) 256 k D g (set_at l4)
            listed = record {
              hold = λ i h. let x = came i h in subst (λ (z : Set). Holds (linked t) 256 k z) (sym x.2) (s.firm x.0 x.1);
              inside = λ i h. let x = came i h in subst (λ (z : Set). z part_of D) (sym x.2) (s.pieces.inside x.0 x.1);
              cover = cover;
              share = share;
              order = so.order;
            }
              where
                cover : (H : Set) → Holds (linked t) 256 k H → H part_of D → (i : ℕ) × (i < g) × (H part_of set_at l4 i)
                cover H h p = go (s.pieces.cover H h p)
                  where
                    go : (j : ℕ) × (j < g) × (H part_of set_at l2 j) → (i : ℕ) × (i < g) × (H part_of set_at l4 i)
                    go (j, m, f) = let x = so.onto j m in (x.0, x.1, subst (λ (z : Set). H part_of z) (sym (row_same j m) ∙ x.2) f)

                share : (i j : ℕ) → i < g → j < g → ¬ (i ≡ j) → size 256 (set_at l4 i cut set_at l4 j) < k
                share i j h m d = go (came i h) (came j m)
                  where
                    go : (x : (r : ℕ) × (r < g) × (set_at l4 i ≡ set_at l2 r)) (y : (r : ℕ) × (r < g) × (set_at l4 j ≡ set_at l2 r)) → size 256 (set_at l4 i cut set_at l4 j) < k
                    go (u, p, e) (v, q, f) = rw (e, f) (s.pieces.share u v p q (λ c. d (differ i j h m (e ∙ ap (set_at l2) c ∙ sym f))))

            -- different rows came from different rows, so they weigh no more together
            lighter : total g (λ i. weight k (size 256 (set_at l4 i))) ≤ total g (λ i. weight k (size 256 (set_at l2 i)))
            lighter = total_inject g g (λ i. weight k (size 256 (set_at l4 i))) (λ i. weight k (size 256 (set_at l2 i))) (λ i h. (came i h).0)
                (λ i h. ((came i h).1, ap (λ (z : Set). weight k (size 256 z)) (came i h).2))
                (λ i j h m c. differ i j h m ((came i h).2 ∙ ap (set_at l2) c ∙ sym (came j m).2))

            pub ended : Listing t D k l l4 g
            ended = record {
              listed = listed;
              most = omega (arith, rows_few s, e);
              weigh = omega (arith, lighter, s.pieces.light, e);
              clear = λ p h m. so.kept.past p h ∙ cl.zero p h (omega (arith, e));
              past = λ p h. so.kept.past p (omega (arith, e, rows_few s)) ∙ cl.kept.past p (omega (arith, e)) ∙ kept.past p (omega (arith, e)) ∙ st.kept.past p (omega (arith, e, some));
              long = so.kept.long ∙ cl.kept.long ∙ kept.long ∙ st.kept.long;
            }
              where
                e : R (size 256 D) k ≡ most
                e = rows_weight (size 256 D) k

-- a list within all stations names each group once, in order, and nothing else
pub listed_groups : (L : Links) (n k g : ℕ) (Q : ℕ → Set) → n ≤ 256 → ListedIn L 256 k (stations n) g Q → Listed L n k g Q
listed_groups L n k g Q l s = record {
  groups = rows L n k g Q (record {
    hold = λ i h. holds_to L n 256 k l (Q i) (below i h) (s.hold i h);
    inside = s.inside;
    cover = λ H h p. s.cover H (holds_from L n 256 k l H h) p;
    share = λ i j h m d. omega (arith, s.share i j h m d, size_past n 256 (Q i cut Q j) (λ x e. below i h x (of_cut (Q i) (Q j) x e).0) l);
  });
  order = s.order;
}
  where
    below : (i : ℕ) → i < g → Below n (Q i)
    below i h x e = ltb-true x n (s.inside i h x e)
