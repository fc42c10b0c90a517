-- The list question has one reply: two that it allows are the same, with every word of the list afterwards, refused or not. The words of a list are
-- words of 64 bits (Wide), which their type says; then the same stations are the same words.
use mathlib.Core.List.{List, []}
use mathlib.Core.Path.{◌≡◌, refl, sym, ap, ◌∙◌}
use Rattle.std.proofs.Common.{Ok, Err}
use Prim.Native.Nat.{ℕ, ◌+◌, ◌*◌, ◌/◌, ◌%◌, ◌^◌, ◌<◌, ◌≤◌}
use native.Mathlib.Decide.{dec_lt}
use native.Mathlib.Omega.{arith}
use native.Mathlib.Nat.{add-zero}
use lib.Dec.{lit<}
use lib.ListN.{length, get_or, get_or-eq_default}
use lib.Seq.{ext_get_or}
use Rattle.stations.specs.Sets.{Set}
use Rattle.stations.specs.Words.{row}
use Rattle.stations.proofs.Laws.{Wide, four, members_same}
use Rattle.mesh.specs.Mesh.{R}
use Rattle.mesh.specs.Table.{linked}
use Rattle.mesh.proofs.OnlyOne.{listed_one}
use Rattle.card.specs.Card.{number_of}
use Rattle.card.proofs.Card.{first_one, refusal_one, number_above}
use Rattle.listing.specs.List.{set_at}
use Rattle.holding.specs.Reply as held
use Rattle.holding.proofs.OnlyOne.{Worded, holding_only_one}
use Rattle.groups.specs.Reply.{Answer, count, order, Replies, RowReplies}

wide_row : (l : List ℕ) (i : ℕ) → Wide l → Wide (row l i)
wide_row l i w j = go (dec_lt j 4)
  where
    go : Dec (j < 4) → get_or (row l i) j 0 < 2 ^ 64
    go (yes h) = four (λ (q : ℕ). get_or (row l i) q 0 < 2 ^ 64) (w (i * 4)) (w (i * 4 + 1)) (w (i * 4 + 2)) (w (i * 4 + 3)) j h
    go (no h) = beyond j (omega arith)
      where
        beyond : (j : ℕ) → 4 ≤ j → get_or (row l i) j 0 < 2 ^ 64
        beyond j g = rw (get_or-eq_default (row l i) 0 {n = j} g) (lit< tt)

-- the same set in row i is the same words there
word_at : (l l' : List ℕ) (i q : ℕ) → Wide l → Wide l' → set_at l i ≡ set_at l' i → q < 4 → get_or l (i * 4 + q) 0 ≡ get_or l' (i * 4 + q) 0
word_at l l' i q w w' e h =
    sym (at l) ∙ ap (λ (r : List ℕ). get_or r q 0) (members_same (row l i) (row l' i) refl refl (wide_row l i w) (wide_row l' i w') (λ j. ap (λ (s : Set). s j) e)) ∙ at l'
  where
    at : (l : List ℕ) → get_or (row l i) q 0 ≡ get_or l (i * 4 + q) 0
    at l = four (λ (q : ℕ). get_or (row l i) q 0 ≡ get_or l (i * 4 + q) 0) (ap (λ (m : ℕ). get_or l m 0) (sym (add-zero (i * 4)))) refl refl refl q h

module _ (n : ℕ) (t : List ℕ) (k : ℕ) (l a b : List ℕ) (wa : Wide a) (wb : Wide b) (r s : Answer) (p : Replies n t k l a r) (q : Replies n t k l b s) where
  number_one : number_of r ≡ number_of s
  number_one = first_one (order n t k (length l)) (number_of r) (number_of s) p.refused q.refused

  -- where it is answered, the counts and the rows are the same
  rows_one : number_of r ≡ 0 → (count r ≡ count s) × ((i : ℕ) → i < count r → set_at a i ≡ set_at b i)
  rows_one e = listed_one (linked t) n k (count r) (count s) (set_at a) (set_at b) (p.listed e) (q.listed (sym number_one ∙ e))

  words_one : number_of r ≡ 0 → a ≡ b
  words_one e = ext_get_or 0 a b (p.long ∙ sym q.long) (λ x h. go x (dec_lt x (count r * 4)) (dec_lt x (R n k * 4)))
    where
      c : count r ≡ count s
      c = (rows_one e).0

      go : (x : ℕ) → Dec (x < count r * 4) → Dec (x < R n k * 4) → get_or a x 0 ≡ get_or b x 0
      go x (yes h) _ =
          let f : x / 4 * 4 + x % 4 ≡ x = omega arith in
          rw f at (word_at a b (x / 4) (x % 4) wa wb ((rows_one e).1 (x / 4) (omega arith)) (omega arith))
      go x (no h) (yes g) = p.clear e x (omega arith) g ∙ sym (q.clear (sym number_one ∙ e) x (omega (arith, c)) g)
      go x (no h) (no g) = p.past x (omega arith) ∙ sym (q.past x (omega arith))

  pub list_only_one : (r ≡ s) × (a ≡ b)
  list_only_one = go r s number_one (λ e. (rows_one e).0) words_one (λ h. p.kept h) (λ h. q.kept h)
    where
      go : (r s : Answer) → number_of r ≡ number_of s → (number_of r ≡ 0 → count r ≡ count s) → (number_of r ≡ 0 → a ≡ b) → (¬ (number_of r ≡ 0) → a ≡ l) → (¬ (number_of s ≡ 0) → b ≡ l) → (r ≡ s) × (a ≡ b)
      go (Ok g) (Ok h) e f w x y = (ap Ok (f refl), w refl)
      go (Err g) (Err h) e f w x y = (ap Err (refusal_one g h e), x (number_above g) ∙ sym (y (number_above h)))
      go (Err g) (Ok h) e f w x y = absurd (number_above g e)
      go (Ok g) (Err h) e f w x y = absurd (number_above h (sym e))

-- the holding question about a row where it stands in the list has one reply too
pub row_only_one : (n : ℕ) (t : List ℕ) (k : ℕ) (l : List ℕ) (i : ℕ) (r r' : held.Full) → Worded r → Worded r' → RowReplies n t k l i r → RowReplies n t k l i r' → r ≡ r'
row_only_one n t k l i r r' w w' p q = go (dec_lt (length l) (i * 4 + 4))
  where
    go : Dec (length l < i * 4 + 4) → r ≡ r'
    go (yes h) = holding_only_one n t k [] r r' (p.outside h) (q.outside h) w w'
    go (no h) = holding_only_one n t k (row l i) r r' (p.inside (omega arith)) (q.inside (omega arith)) w w'
