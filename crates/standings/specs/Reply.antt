-- Standings: the replies in the numbers of the rules, and when each is right. Rules T1 to T3.
--   number_of r, level r           the refusal's number (0 where answered), the standing
--   station_order, pair_order      2, 3, 4, 7, 15
--   Replies ts P r                 r is refused by the first failing test of ts, or its standing v has P v
use Rattle.std.specs.Prelude.{Result, Ok, Err, List, [], ◌∷◌, ◌≡◌, ℕ, ◌≤◌}
use Rattle.card.specs.Card.{number_of, Test, FirstFailing, STATIONS, TABLE_LENGTH, TABLE, STATION, PAIR, ROWS}
use Rattle.card.specs.declared.Refusal.{Refusal}

-- what the standing questions reply: the standing
abbrev pub Answer : Type 0
Answer = Result ℕ Refusal

abbrev pub level : Answer → ℕ
level (Ok v) = v
level (Err r) = 0

-- 15 of the lists at the levels 1 to 16 (it never fails: card, rows_pass)
abbrev pub ROWS_AT_ALL : ℕ → List ℕ → Test
ROWS_AT_ALL n t = record { refusal = 15; fails = (k : ℕ) × (1 ≤ k) × (k ≤ 16) × (ROWS n t k).fails }

abbrev pub station_order : ℕ → List ℕ → ℕ → List Test
station_order n t a = STATIONS n ∷ TABLE_LENGTH n t ∷ TABLE n t ∷ STATION n a ∷ ROWS_AT_ALL n t ∷ []

abbrev pub pair_order : ℕ → List ℕ → ℕ → ℕ → List Test
pair_order n t a b = STATIONS n ∷ TABLE_LENGTH n t ∷ TABLE n t ∷ PAIR n a b ∷ ROWS_AT_ALL n t ∷ []

pub record Replies (ts : List Test) (P : ℕ → Type 0) (r : Answer) : Type 0 where
  pub refused : FirstFailing ts (number_of r)
  pub right : number_of r ≡ 0 → P (level r)
