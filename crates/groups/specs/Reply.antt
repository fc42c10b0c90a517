-- The list question: its replies in the numbers of the rules, and when each is right. Rules L1 to L10 and H6.
--   number_of r, count r      the refusal's number (0 where answered), the number of groups
--   order n t k words         2, 3, 4, 1, 5, 15; 15 never fails (card: rows_pass)
--   Replies n t k l l' r      r is the reply, l the list before and l' the list after
--   RowReplies n t k l i r    r is the reply to the holding question about row i of the list l
use Rattle.std.specs.Prelude.{Result, Ok, Err, List, [], ◌∷◌, ◌≡◌, ℕ, ◌+◌, ◌*◌, ◌<◌, ◌≤◌, length, get_or}
use Rattle.stations.specs.Words.{row}
use Rattle.mesh.specs.Mesh.{Listed, R}
use Rattle.mesh.specs.Table.{linked}
use Rattle.card.specs.Card.{number_of, Test, FirstFailing, STATIONS, TABLE_LENGTH, TABLE, LEVEL, LIST_ROOM, ROWS}
use Rattle.listing.specs.List.{set_at}
use Rattle.card.specs.declared.Refusal.{Refusal}
use Rattle.holding.specs.Reply as holding

-- what the list question replies: how many groups
abbrev pub Answer : Type 0
Answer = Result ℕ Refusal

abbrev pub count : Answer → ℕ
count (Ok g) = g
count (Err r) = 0

abbrev pub order : ℕ → List ℕ → ℕ → ℕ → List Test
order n t k words = STATIONS n ∷ TABLE_LENGTH n t ∷ TABLE n t ∷ LEVEL k ∷ LIST_ROOM n k words ∷ ROWS n t k ∷ []

pub record Replies (n : ℕ) (t : List ℕ) (k : ℕ) (l l' : List ℕ) (r : Answer) : Type 0 where
  -- refused exactly when a test fails, by the first that does; and then every word of the list is as it was
  pub refused : FirstFailing (order n t k (length l)) (number_of r)
  pub kept : ¬ (number_of r ≡ 0) → l' ≡ l
  -- rule L8: the first rows of the list, so many, are the groups in order
  pub listed : number_of r ≡ 0 → Listed (linked t) n k (count r) (set_at l')
  -- rule L7: and they are at most R
  pub most : count r ≤ R n k
  -- rule L8: zeros in the rest of the R rows, and what is behind those stays
  pub clear : number_of r ≡ 0 → (p : ℕ) → count r * 4 ≤ p → p < R n k * 4 → get_or l' p 0 ≡ 0
  pub past : (p : ℕ) → R n k * 4 ≤ p → get_or l' p 0 ≡ get_or l p 0
  pub long : length l' ≡ length l

-- rule H6: row i of the list, asked about in its place; a row that the list does not have is no set
pub record RowReplies (n : ℕ) (t : List ℕ) (k : ℕ) (l : List ℕ) (i : ℕ) (r : holding.Full) : Type 0 where
  pub inside : i * 4 + 4 ≤ length l → holding.Replies n t k (row l i) r
  pub outside : length l < i * 4 + 4 → holding.Replies n t k [] r
