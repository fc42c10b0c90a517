-- The writer of survey files: its replies in the numbers of the rules, and when each is right. Rules F5 and F9.
--   file_length r                         of the reply r: the length; its refusal number is card's number_of
--   Writes n serials table bs bs' r       r is the reply to n, the serials and the table, with a lent buffer before and after
use Rattle.std.specs.Prelude.{List, Result, Ok, Err, ◌≡◌, ℕ, ◌+◌, ◌*◌, length, take, drop}
use Rattle.card.specs.declared.Refusal.{Refusal}
use Rattle.card.specs.Card.{number_of, FirstFailing}
use Rattle.records.specs.Lines.{writer_order}
use Rattle.records.specs.Survey.{Survey, link_count}

-- rules F5 and C2: the length; 0 for a refusal
abbrev pub file_length : Result ℕ Refusal → ℕ
file_length (Ok l) = l
file_length (Err r) = 0

pub record Writes (n : ℕ) (serials table bs bs' : List ℕ) (r : Result ℕ Refusal) : Type 0 where
  -- refused exactly when a test fails, by the first that does
  pub refused : FirstFailing (writer_order n serials table (length bs)) (number_of r)
  -- rule C2: a refusal leaves the buffer as it was
  pub kept : (number_of r ≡ 0 → ⊥) → bs' ≡ bs
  -- rule F2: the length of the file
  pub whole : number_of r ≡ 0 → file_length r ≡ 9 + n * 4 + link_count n table * 4
  -- rule F5: the first bytes, so many, are the survey of these serials and this table
  pub survey : number_of r ≡ 0 → Survey 1 n (link_count n table) serials table (take (file_length r) bs')
  -- and what is behind them stays
  pub beyond : number_of r ≡ 0 → drop (file_length r) bs' ≡ drop (file_length r) bs
