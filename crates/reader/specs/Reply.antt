-- The reader of survey files: its replies in the numbers of the rules, and when each is right. Rules F4 and F8.
--   version r, stations r, links r              of the reply r: the version, n and the number of links; its refusal number is card's number_of
--   Reads bs serials table serials' table' r    r is the reply to the bytes bs, with two lent buffers before and after
use Rattle.std.specs.Prelude.{List, Result, Ok, Err, ◌≡◌, ℕ, ◌*◌, length, take, drop}
use Rattle.card.specs.declared.Refusal.{Refusal}
use Rattle.card.specs.Card.{number_of, FirstFailing}
use Rattle.records.specs.Lines.{reader_order}
use Rattle.records.specs.Survey.{Survey}
use Rattle.reader.specs.declared.Heading.{Heading}

-- rules F4 and C2: the version, n and the number of links; each 0 for a refusal
abbrev pub version : Result Heading Refusal → ℕ
version (Ok h) = h.version
version (Err r) = 0

abbrev pub stations : Result Heading Refusal → ℕ
stations (Ok h) = h.stations
stations (Err r) = 0

abbrev pub links : Result Heading Refusal → ℕ
links (Ok h) = h.links
links (Err r) = 0

pub record Reads (bs serials table serials' table' : List ℕ) (r : Result Heading Refusal) : Type 0 where
  -- refused exactly when a test fails, by the first that does
  pub refused : FirstFailing (reader_order bs (length serials) (length table)) (number_of r)
  -- rule C2: a refusal leaves both buffers as they were
  pub kept : (number_of r ≡ 0 → ⊥) → (serials' ≡ serials) × (table' ≡ table)
  -- rule F4: the first n serials and 4n words are those of the survey that the bytes are
  pub survey : number_of r ≡ 0 → Survey (version r) (stations r) (links r) (take (stations r) serials') (take (stations r * 4) table') bs
  -- and what is behind them stays
  pub serials_beyond : number_of r ≡ 0 → drop (stations r) serials' ≡ drop (stations r) serials
  pub table_beyond : number_of r ≡ 0 → drop (stations r * 4) table' ≡ drop (stations r * 4) table
