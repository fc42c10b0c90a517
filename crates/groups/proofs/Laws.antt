-- From the tests that passed to what the listing asks, and from what it leaves, within all stations, to the reply. And a row asked about where it
-- stands: a part of four words is the row.
use mathlib.Core.List.{List, [], ◌∷◌}
use mathlib.Core.Logic.{inl, inr}
use mathlib.Core.Path.{◌≡◌, refl, sym, ◌∙◌, ap, subst, fun_ext}
use Rattle.std.proofs.Common.{Ok, Err}
use Prim.Native.Nat.{ℕ, suc, ◌+◌, ◌-◌, ◌*◌, ◌<◌, ◌≤◌}
use native.Mathlib.Decide.{dec_lt, ℕ_discrete}
use native.Mathlib.Omega.{arith}
use lib.ListN.{length, get_or, take, drop}
use lib.Seq.{drop-cons}
use borrow.Author.Tests.{ltb-true}
use Rattle.stations.specs.Sets.{Set, stations, size}
use Rattle.stations.specs.Words.{members}
use Rattle.stations.specs.declared.StationSet.{StationSet}
use Rattle.stations.proofs.Counting.{size_past, size-stations}
use Rattle.mesh.specs.Mesh.{Listed, R}
use Rattle.mesh.specs.Table.{linked, Table}
use Rattle.card.specs.declared.Refusal.{Refusal}
use Rattle.card.specs.Card.{FirstFailing, number, LEVEL, LIST_ROOM, ROWS}
use Rattle.card.proofs.Card.{Passes, table_passed, number_above, rows_pass}
use Rattle.card.proofs.TableTest.{table_mesh}
use Rattle.holding.specs.Reply as holding
use Rattle.listing.specs.List.{set_at, ListedIn, Asked, Listing}
use Rattle.listing.proofs.Ending.{listed_groups}
use Rattle.groups.specs.Reply.{order, Replies, RowReplies}

-- the question once every test has passed
pub record Accepted (n : ℕ) (t : List ℕ) (k words : ℕ) : Type 0 where
  pub table : Table n t
  pub above : 0 < k
  pub most : k ≤ 16
  pub room : R n k * 4 ≤ words

pub record Says (n : ℕ) (t : List ℕ) (k : ℕ) (l l' : List ℕ) (g : ℕ) : Type 0 where
  pub listed : Listed (linked t) n k g (set_at l')
  pub most : g ≤ R n k
  pub clear : (p : ℕ) → g * 4 ≤ p → p < R n k * 4 → get_or l' p 0 ≡ 0
  pub past : (p : ℕ) → R n k * 4 ≤ p → get_or l' p 0 ≡ get_or l p 0
  pub long : length l' ≡ length l

-- the tests that come last; 15 never fails, so it needs no test
pub room_last : (n : ℕ) (t : List ℕ) (k words r : ℕ) → FirstFailing (LIST_ROOM n k words ∷ []) r → FirstFailing (LIST_ROOM n k words ∷ ROWS n t k ∷ []) r
room_last n t k words r (inl x) = inl x
room_last n t k words r (inr x) = inr (x.0, inr (rows_pass n t k, x.1))

pub passed : (n : ℕ) (t : List ℕ) (k words : ℕ) → FirstFailing (order n t k words) 0 → Accepted n t k words
passed n t k words f = go (table_passed n t (LEVEL k ∷ LIST_ROOM n k words ∷ ROWS n t k ∷ []) (omega arith, (omega arith, (omega arith, tt))) f)
  where
    go : Table n t × Passes (LEVEL k ∷ LIST_ROOM n k words ∷ ROWS n t k ∷ []) → Accepted n t k words
    go (table, (level, (room, _))) = record { table = table; above = above (ℕ_discrete k 0); most = most (dec_lt 16 k); room = enough (dec_lt words (R n k * 4)) }
      where
        above : Dec (k ≡ 0) → 0 < k
        above (yes z) = absurd (level (inl z))
        above (no z) = omega arith

        most : Dec (16 < k) → k ≤ 16
        most (yes l) = absurd (level (inr l))
        most (no l) = omega arith

        enough : Dec (words < R n k * 4) → R n k * 4 ≤ words
        enough (yes l) = absurd (room l)
        enough (no l) = omega arith

module _ (n : ℕ) (t : List ℕ) (k : ℕ) (l : List ℕ) (A : Accepted n t k (length l)) (set : StationSet) (law : (x : ℕ) → members set x ≡ stations n x) where
  same : members set ≡ stations n
  same = fun_ext law

  many : size 256 (members set) ≡ n
  many = ap (size 256) same ∙ size_past n 256 (stations n) (λ x. ltb-true x n) A.table.few ∙ size-stations n

  pub asked : Asked t (members set) k l
  asked = record {
    fits = λ x h. omega (arith, ltb-true x n (sym (law x) ∙ h), A.table.long);
    mesh = table_mesh A.table;
    room = rw many A.room;
  }

  pub told : (l' : List ℕ) (g : ℕ) → Listing t (members set) k l l' g → Says n t k l l' g
  told l' g f = record {
    listed = listed_groups (linked t) n k g (set_at l') A.table.few (subst (λ (D : Set). ListedIn (linked t) 256 k D g (set_at l')) same f.listed);
    most = rw many at f.most;
    clear = λ p a b. f.clear p a (rw many b);
    past = λ p a. f.past p (rw many a);
    long = f.long;
  }

-- the reply of a question that passed, and of one that did not
pub replied : (n : ℕ) (t : List ℕ) (k : ℕ) (l l' : List ℕ) (g : ℕ) → FirstFailing (order n t k (length l)) 0 → Says n t k l l' g → Replies n t k l l' (Ok g)
replied n t k l l' g f s = record {
  refused = f;
  kept = λ h. absurd (h refl);
  listed = λ _. s.listed;
  most = s.most;
  clear = λ _. s.clear;
  past = s.past;
  long = s.long;
}

pub refused_reply : (n : ℕ) (t : List ℕ) (k : ℕ) (l : List ℕ) (r : Refusal) → FirstFailing (order n t k (length l)) (number r) → Replies n t k l l (Err r)
refused_reply n t k l r f = record {
  refused = f;
  kept = λ _. refl;
  listed = λ e. absurd (number_above r e);
  most = omega arith;
  clear = λ e. absurd (number_above r e);
  past = λ p _. refl;
  long = refl;
}

-- ---- a row where it stands: four words starting at 4i are the row i
four_words : (l : List ℕ) (f : ℕ) → f + 4 ≤ length l → take 4 (drop f l) ≡ get_or l f 0 ∷ get_or l (f + 1) 0 ∷ get_or l (f + 2) 0 ∷ get_or l (f + 3) 0 ∷ []
four_words l f h =
    ap (take 4)
    (drop-cons l f 0 (omega arith)
    ∙ ap (λ (r : List ℕ). get_or l f 0 ∷ r) (at (suc f) (f + 1) (omega arith) (omega arith)
    ∙ ap (λ (r : List ℕ). get_or l (f + 1) 0 ∷ r) (at (suc (f + 1)) (f + 2) (omega arith) (omega arith)
    ∙ ap (λ (r : List ℕ). get_or l (f + 2) 0 ∷ r) (at (suc (f + 2)) (f + 3) (omega arith) (omega arith)))))
  where
    at : (g j : ℕ) → g ≡ j → j < length l → drop g l ≡ get_or l j 0 ∷ drop (suc j) l
    at g j e m = ap (λ (x : ℕ). drop x l) e ∙ drop-cons l j 0 m

pub row_inside : (n : ℕ) (t : List ℕ) (k : ℕ) (l : List ℕ) (i : ℕ) (r : holding.Full) → i * 4 + 4 ≤ length l → holding.Replies n t k (take (i * 4 + 4 - i * 4) (drop (i * 4) l)) r
    → RowReplies n t k l i r
row_inside n t k l i r h p = record { inside = λ _. subst (λ (s : List ℕ). holding.Replies n t k s r) (ap (λ (m : ℕ). take m (drop (i * 4) l)) four ∙ four_words l (i * 4) h) p; outside = λ g. absurd (omega arith) }
  where
    four : i * 4 + 4 - i * 4 ≡ 4
    four = omega arith

pub row_outside : (n : ℕ) (t : List ℕ) (k : ℕ) (l : List ℕ) (i : ℕ) (r : holding.Full) → length l < i * 4 + 4 → holding.Replies n t k [] r → RowReplies n t k l i r
row_outside n t k l i r h p = record { inside = λ g. absurd (omega arith); outside = λ _. p }
