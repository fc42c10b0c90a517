-- What each exported question says: the reply of the question itself, in the numbers of the rules. And what it means that a question refuses (Refuses).
use Rattle.std.specs.Prelude.{Result, List, [], ◌∷◌, ◌≡◌, ℕ, zero, suc, length, take}
use Rattle.std.specs.Borrow.{Bor}
use Rattle.stations.specs.Sets.{one_if, Before}
use Rattle.stations.specs.Words.{has}
use Rattle.stations.specs.Answers.{FirstRow}
use Rattle.card.specs.declared.Refusal.{Refusal}
use Rattle.card.specs.Card.{number_of, Test, FirstFailing}
use Rattle.routes.specs.Reply as routes
use Rattle.holding.specs.Reply as holding
use Rattle.groups.specs.Reply as groups
use Rattle.mesh.specs.Standing.{Standing, PairStanding}
use Rattle.mesh.specs.Table.{linked}
use Rattle.standings.specs.Reply as standings
use Rattle.reader.specs.declared.Heading.{Heading}
use Rattle.reader.specs.Reply as reader
use Rattle.writer.specs.Reply as writer
use Rattle.page.specs.Reply as page

-- r is the number of the first failing test of the order, 0 where none fails; and a refusal leaves things so
pub record Refuses (order : List Test) (r : ℕ) (Left : Type 0) : Type 0 where
  pub first : FirstFailing order r
  pub left : ¬ (r ≡ 0) → Left

-- The order question. Its reply is a part of one of the caller's own rows, and two numbers name it: r the row, 0 for the first and 1 for the second
-- (row_named), and words how many words it has, from where the row begins (beginning).
abbrev pub row_named : ℕ → Bor (List ℕ) → Bor (List ℕ) → Bor (List ℕ)
row_named zero x y = x
row_named (suc r) x y = y

abbrev pub beginning : ℕ → Bor (List ℕ) → Bor (List ℕ)
beginning words x = record x { now = take words x.now }

pub record FirstRowDesk (x y : Bor (List ℕ)) (r words : ℕ) : Type 0 where
  pub answer : Bor (List ℕ)
  pub replies : FirstRow x y answer
  pub part : answer ≡ beginning words (row_named r x y)
  pub counted : words ≡ length answer.now
  -- r is 1 where both rows have four words and the second comes before the first, and 0 where not
  pub second : length x.now ≡ 4 → length y.now ≡ 4 → Before (has y.now) (has x.now) → r ≡ 1
  pub first : (length x.now ≡ 4 → length y.now ≡ 4 → Before (has y.now) (has x.now) → ⊥) → r ≡ 0

-- the routes question
pub record RoutesDesk (n : ℕ) (t : List ℕ) (a b r joined count : ℕ) : Type 0 where
  pub answer : routes.Reply
  pub replies : routes.Replies n t a b answer
  pub number : r ≡ number_of answer
  pub linked_pair : joined ≡ one_if (routes.joined answer)
  pub counted : count ≡ routes.count answer

-- the holding question
pub record HoldingDesk (n : ℕ) (t : List ℕ) (k : ℕ) (s : List ℕ) (r verdict w0 w1 w2 w3 : ℕ) : Type 0 where
  pub answer : holding.Full
  pub replies : holding.Replies n t k s answer
  pub number : r ≡ number_of answer
  pub told : verdict ≡ holding.verdict answer
  pub weak : (x : ℕ) → has (w0 ∷ w1 ∷ w2 ∷ w3 ∷ []) x ≡ holding.weak_set answer x

-- the verdict alone
pub record VerdictDesk (n : ℕ) (t : List ℕ) (k : ℕ) (s : List ℕ) (r verdict : ℕ) : Type 0 where
  pub brief : holding.Brief
  pub replies : holding.Judges n t k s brief
  pub number : r ≡ number_of brief
  pub told : verdict ≡ holding.verdict brief

-- the list question; l is the list before, l' the list after
pub record ListDesk (n : ℕ) (t : List ℕ) (k : ℕ) (l l' : List ℕ) (r count : ℕ) : Type 0 where
  pub answer : groups.Answer
  pub replies : groups.Replies n t k l l' answer
  pub number : r ≡ number_of answer
  pub counted : count ≡ groups.count answer

-- standings
pub record StationDesk (n : ℕ) (t : List ℕ) (a r standing : ℕ) : Type 0 where
  pub answer : standings.Answer
  pub replies : standings.Replies (standings.station_order n t a) (Standing (linked t) n a) answer
  pub number : r ≡ number_of answer
  pub stands : standing ≡ standings.level answer

pub record PairDesk (n : ℕ) (t : List ℕ) (a b r standing : ℕ) : Type 0 where
  pub answer : standings.Answer
  pub replies : standings.Replies (standings.pair_order n t a b) (PairStanding (linked t) n a b) answer
  pub number : r ≡ number_of answer
  pub stands : standing ≡ standings.level answer

-- survey files; a ' marks what a lent buffer has afterwards
pub record ReadDesk (bs serials table serials' table' : List ℕ) (r version n links : ℕ) : Type 0 where
  pub answer : Result Heading Refusal
  pub replies : reader.Reads bs serials table serials' table' answer
  pub number : r ≡ number_of answer
  pub of_version : version ≡ reader.version answer
  pub of_stations : n ≡ reader.stations answer
  pub of_links : links ≡ reader.links answer

pub record WriteDesk (n : ℕ) (serials table bs bs' : List ℕ) (r length : ℕ) : Type 0 where
  pub answer : Result ℕ Refusal
  pub replies : writer.Writes n serials table bs bs' answer
  pub number : r ≡ number_of answer
  pub of_length : length ≡ writer.file_length answer

-- the night list; p is the buffer before, p' the buffer after
pub record PageDesk (bs p p' : List ℕ) (r length : ℕ) : Type 0 where
  pub answer : Result ℕ Refusal
  pub replies : page.Prints bs p p' answer
  pub number : r ≡ number_of answer
  pub of_length : length ≡ page.page_length answer
