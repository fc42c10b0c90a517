-- The night list in a lent buffer: its replies in the numbers of the rules, and when each is right. Rule N5.
--   page_length r               of the reply r: the number of the page's bytes (its refusal number is card's number_of r)
--   PAGE_ROOM bytes             14: the buffer is too short for some page
--   Prints bs p p' r            r is the reply to the survey bs, p the buffer before and p' the buffer after
use Rattle.std.specs.Prelude.{List, [], ◌∷◌, ◌≡◌, ℕ, ◌<◌, ◌≤◌, length, take, drop, Result, Ok, Err}
use Rattle.card.specs.Card.{Test, FirstFailing, number_of}
use Rattle.card.specs.declared.Refusal.{Refusal}
use Rattle.page.specs.Page.{Page}

-- 0 for a refusal
abbrev pub page_length : Result ℕ Refusal → ℕ
page_length (Ok l) = l
page_length (Err r) = 0

-- 14 goes by 262,144 bytes, which every page fits in, even where the page at hand is shorter
abbrev pub PAGE_ROOM : ℕ → Test
PAGE_ROOM bytes = record { refusal = 14; fails = bytes < 262144 }

pub record Prints (bs p p' : List ℕ) (r : Result ℕ Refusal) : Type 0 where
  pub refused : FirstFailing (PAGE_ROOM (length p) ∷ []) (number_of r)
  -- rule C2: a refusal leaves the buffer as it was
  pub kept : ¬ (number_of r ≡ 0) → p' ≡ p
  -- the page, and nothing beyond
  pub printed : number_of r ≡ 0 → Page bs (take (page_length r) p')
  pub beyond : number_of r ≡ 0 → drop (page_length r) p' ≡ drop (page_length r) p
  pub inside : page_length r ≤ length p'
  pub long : length p' ≡ length p
