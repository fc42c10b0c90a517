-- The card's lines for survey files, of the reader and of the writer, and their two orders (rules F8 and F9).
use Rattle.std.specs.Prelude.{List, [], ◌∷◌, ◌⊎◌, ◌≡◌, ℕ, suc, ◌+◌, ◌*◌, ◌<◌, ◌≤◌, length, get_or}
use Rattle.card.specs.Card.{Test, STATIONS, TABLE_LENGTH, TABLE}
use Rattle.records.specs.Survey.{Mark, version, stations, records, serial, low, high, After, link_count}

-- a serial that is 0, or not above the one before
pub data SerialFault (n : ℕ) (f : ℕ → ℕ) : Type 0 where
  a_zero : (i : ℕ) → i < n → f i ≡ 0 → SerialFault n f
  not_rising : (i : ℕ) → suc i < n → f (suc i) ≤ f i → SerialFault n f

-- a link whose stations are not in their order, or not of this mesh, or that does not come after the link before
pub data LinkFault (n m : ℕ) (a b : ℕ → ℕ) : Type 0 where
  not_apart : (j : ℕ) → j < m → b j ≤ a j → LinkFault n m a b
  not_below : (j : ℕ) → j < m → n ≤ b j → LinkFault n m a b
  not_after : (j : ℕ) → suc j < m → ¬ After (a j) (b j) (a (suc j)) (b (suc j)) → LinkFault n m a b

-- ---- the reader
-- 8: too short for a head, or not the mark
abbrev pub MARK : List ℕ → Test
MARK bs = record { refusal = 8; fails = (length bs < 9) ⊎ (¬ Mark bs) }

-- 9: not version 1
abbrev pub VERSION : List ℕ → Test
VERSION bs = record { refusal = 9; fails = ¬ (version bs ≡ 1) }

-- 10: too many stations or links
abbrev pub COUNT : List ℕ → Test
COUNT bs = record { refusal = 10; fails = (256 < stations bs) ⊎ (8192 < records bs) }

-- 11: not the length that n and m ask for
abbrev pub LENGTH : List ℕ → Test
LENGTH bs = record { refusal = 11; fails = ¬ (length bs ≡ 9 + stations bs * 4 + records bs * 4) }

-- 14: no room for n serials or for the 4n words of the table
abbrev pub ROOM : ℕ → ℕ → ℕ → Test
ROOM n serials words = record { refusal = 14; fails = (serials < n) ⊎ (words < n * 4) }

-- 12: a serial is wrong
abbrev pub SERIAL : ℕ → List ℕ → Test
SERIAL n bs = record { refusal = 12; fails = SerialFault n (serial 4 bs) }

-- 13: a link is wrong
abbrev pub LINK : ℕ → ℕ → List ℕ → Test
LINK n m bs = record { refusal = 13; fails = LinkFault n m (low 4 n bs) (high 4 n bs) }

-- 8, 9, 10, 11, 14, 12, 13
abbrev pub reader_order : List ℕ → ℕ → ℕ → List Test
reader_order bs serials words =
    MARK bs ∷ VERSION bs ∷ COUNT bs ∷ LENGTH bs ∷ ROOM (stations bs) serials words ∷ SERIAL (stations bs) bs ∷ LINK (stations bs) (records bs) bs ∷ []

-- ---- the writer
-- 12: not n serials, or one is wrong
abbrev pub GIVEN_SERIAL : ℕ → List ℕ → Test
GIVEN_SERIAL n serials = record { refusal = 12; fails = (¬ (length serials ≡ n)) ⊎ SerialFault n (λ i. get_or serials i 0) }

-- 10: too many links
abbrev pub LINK_COUNT : ℕ → List ℕ → Test
LINK_COUNT n t = record { refusal = 10; fails = 8192 < link_count n t }

-- 14: no room for the file
abbrev pub FILE_ROOM : ℕ → List ℕ → ℕ → Test
FILE_ROOM n t room = record { refusal = 14; fails = room < 9 + n * 4 + link_count n t * 4 }

-- 2, 3, 4, 12, 10, 14
abbrev pub writer_order : ℕ → List ℕ → List ℕ → ℕ → List Test
writer_order n serials t room = STATIONS n ∷ TABLE_LENGTH n t ∷ TABLE n t ∷ GIVEN_SERIAL n serials ∷ LINK_COUNT n t ∷ FILE_ROOM n t room ∷ []
