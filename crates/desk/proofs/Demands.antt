-- DEMAND 1, of every exported question, one below the other: it returns the number of the first failing test of its order, 0 where none fails; and where
-- it refuses, every lent buffer is as it was, every lent number of the reply is 0, and the set of the reply is empty. That each question takes every
-- input and ends is what its proof says, since none asks anything of its input. The order question, `desk_first_row`, has no refusal.
use mathlib.Core.List.{List, [], ◌∷◌}
use mathlib.Core.Bool.{false}
use mathlib.Core.Path.{◌≡◌, refl, sym, ◌∙◌, ap, subst}
use Prim.Native.Nat.{ℕ}
use lib.Dec.{lit<}
use lib.ListN.{length}
use Rattle.stations.specs.Sets.{Set, none, one_if}
use Rattle.stations.specs.Words.{has}
use Rattle.stations.proofs.Laws.{Wide, wide_four, none_four, members_same}
use Rattle.std.proofs.Common.{Result, Ok, Err}
use Rattle.card.specs.declared.Refusal.{Refusal}
use Rattle.card.specs.Card.{number_of, Test, FirstFailing}
use Rattle.records.specs.Lines.{reader_order, writer_order}
use Rattle.routes.specs.Reply as routes
use Rattle.holding.specs.Reply as holding
use Rattle.groups.specs.Reply as groups
use Rattle.standings.specs.Reply as standings
use Rattle.reader.specs.declared.Heading.{Heading}
use Rattle.reader.specs.Reply as reader
use Rattle.writer.specs.Reply as writer
use Rattle.page.specs.Reply as page
use Rattle.desk.specs.Desk.{Refuses, RoutesDesk, HoldingDesk, VerdictDesk, ListDesk, StationDesk, PairDesk, ReadDesk, WriteDesk, PageDesk}

-- the returned number r is that of the answer, and what a refusal leaves follows from the answer's number
refuses : {Left : Type 0} (order : List Test) (r number : ℕ) → r ≡ number → FirstFailing order number → (¬ (number ≡ 0) → Left) → Refuses order r Left
refuses order r number e f left = record { first = subst (FirstFailing order) (sym e) f; left = λ d. left (λ z. d (e ∙ z)) }

-- 2, 3, 4, 7
pub routes_refuses : (n : ℕ) (t : List ℕ) (a b r joined count : ℕ) → RoutesDesk n t a b r joined count → Refuses (routes.order n t a b) r ((joined ≡ 0) × (count ≡ 0))
routes_refuses n t a b r joined count p =
    refuses (routes.order n t a b) r (number_of p.answer) p.number p.replies.refused (λ d. let (x, y) = left p.answer d in (p.linked_pair ∙ x, p.counted ∙ y))
  where
    left : (x : routes.Reply) → ¬ (number_of x ≡ 0) → (one_if (routes.joined x) ≡ 0) × (routes.count x ≡ 0)
    left (Ok x) d = absurd (d refl)
    left (Err x) d = (refl, refl)

-- 2, 3, 4, 1, 6; the four words are words of 64 bits (Wide), which their type says
pub holding_refuses : (n : ℕ) (t : List ℕ) (k : ℕ) (s : List ℕ) (r verdict w0 w1 w2 w3 : ℕ) → HoldingDesk n t k s r verdict w0 w1 w2 w3 → Wide (w0 ∷ w1 ∷ w2 ∷ w3 ∷ [])
    → Refuses (holding.order n t k s) r ((verdict ≡ 0) × (◌≡◌ {A = List ℕ} (w0 ∷ w1 ∷ w2 ∷ w3 ∷ []) (0 ∷ 0 ∷ 0 ∷ 0 ∷ [])))
holding_refuses n t k s r verdict w0 w1 w2 w3 p wide =
    refuses (holding.order n t k s) r (number_of p.answer) p.number p.replies.refused (λ d. let (x, y) = left p.answer d in (p.told ∙ x, words (λ j. p.weak j ∙ ap (λ (z : Set). z j) y)))
  where
    left : (x : holding.Full) → ¬ (number_of x ≡ 0) → (holding.verdict x ≡ 0) × (holding.weak_set x ≡ none)
    left (Ok x) d = absurd (d refl)
    left (Err x) d = (refl, refl)

    words : ((j : ℕ) → has (w0 ∷ w1 ∷ w2 ∷ w3 ∷ []) j ≡ false) → ◌≡◌ {A = List ℕ} (w0 ∷ w1 ∷ w2 ∷ w3 ∷ []) (0 ∷ 0 ∷ 0 ∷ 0 ∷ [])
    words z = members_same (w0 ∷ w1 ∷ w2 ∷ w3 ∷ []) (0 ∷ 0 ∷ 0 ∷ 0 ∷ []) refl refl wide (wide_four 0 0 0 0 (lit< tt) (lit< tt) (lit< tt) (lit< tt)) (λ j. z j ∙ sym (none_four 0 0 0 0 refl refl refl refl j))

-- the verdict alone: 2, 3, 4, 1, 6
pub verdict_refuses : (n : ℕ) (t : List ℕ) (k : ℕ) (s : List ℕ) (r verdict : ℕ) → VerdictDesk n t k s r verdict → Refuses (holding.order n t k s) r (verdict ≡ 0)
verdict_refuses n t k s r verdict p =
    refuses (holding.order n t k s) r (number_of p.brief) p.number p.replies.refused (λ d. p.told ∙ left p.brief d)
  where
    left : (x : holding.Brief) → ¬ (number_of x ≡ 0) → holding.verdict x ≡ 0
    left (Ok x) d = absurd (d refl)
    left (Err x) d = refl

-- 2, 3, 4, 1, 5, 15: the list stays
pub list_refuses : (n : ℕ) (t : List ℕ) (k : ℕ) (l l' : List ℕ) (r count : ℕ) → ListDesk n t k l l' r count → Refuses (groups.order n t k (length l)) r ((count ≡ 0) × (l' ≡ l))
list_refuses n t k l l' r count p =
    refuses (groups.order n t k (length l)) r (number_of p.answer) p.number p.replies.refused (λ d. (p.counted ∙ left p.answer d, p.replies.kept d))
  where
    left : (x : groups.Answer) → ¬ (number_of x ≡ 0) → groups.count x ≡ 0
    left (Ok g) d = absurd (d refl)
    left (Err x) d = refl

-- 2, 3, 4, 7, 15
stood_left : (x : standings.Answer) → ¬ (number_of x ≡ 0) → standings.level x ≡ 0
stood_left (Ok v) d = absurd (d refl)
stood_left (Err x) d = refl

pub station_refuses : (n : ℕ) (t : List ℕ) (a r standing : ℕ) → StationDesk n t a r standing → Refuses (standings.station_order n t a) r (standing ≡ 0)
station_refuses n t a r standing p =
    refuses (standings.station_order n t a) r (number_of p.answer) p.number p.replies.refused (λ d. p.stands ∙ stood_left p.answer d)

pub pair_refuses : (n : ℕ) (t : List ℕ) (a b r standing : ℕ) → PairDesk n t a b r standing → Refuses (standings.pair_order n t a b) r (standing ≡ 0)
pair_refuses n t a b r standing p =
    refuses (standings.pair_order n t a b) r (number_of p.answer) p.number p.replies.refused (λ d. p.stands ∙ stood_left p.answer d)

-- 8, 9, 10, 11, 14, 12, 13: serials and table stay
pub read_refuses : (bs serials table serials' table' : List ℕ) (r version n links : ℕ) → ReadDesk bs serials table serials' table' r version n links
    → Refuses (reader_order bs (length serials) (length table)) r ((version ≡ 0) × (n ≡ 0) × (links ≡ 0) × (serials' ≡ serials) × (table' ≡ table))
read_refuses bs serials table serials' table' r version n links p =
    refuses (reader_order bs (length serials) (length table)) r (number_of p.answer) p.number p.replies.refused
    (λ d. let (x, y, z) = left p.answer d in (p.of_version ∙ x, p.of_stations ∙ y, p.of_links ∙ z, (p.replies.kept d).0, (p.replies.kept d).1))
  where
    left : (x : Result Heading Refusal) → ¬ (number_of x ≡ 0) → (reader.version x ≡ 0) × (reader.stations x ≡ 0) × (reader.links x ≡ 0)
    left (Ok h) d = absurd (d refl)
    left (Err x) d = (refl, refl, refl)

-- 2, 3, 4, 12, 10, 14: the buffer stays
pub write_refuses : (n : ℕ) (serials table bs bs' : List ℕ) (r count : ℕ) → WriteDesk n serials table bs bs' r count
    → Refuses (writer_order n serials table (length bs)) r ((count ≡ 0) × (bs' ≡ bs))
write_refuses n serials table bs bs' r count p =
    refuses (writer_order n serials table (length bs)) r (number_of p.answer) p.number p.replies.refused (λ d. (p.of_length ∙ left p.answer d, p.replies.kept d))
  where
    left : (x : Result ℕ Refusal) → ¬ (number_of x ≡ 0) → writer.file_length x ≡ 0
    left (Ok l) d = absurd (d refl)
    left (Err x) d = refl

-- 14, for a buffer of fewer than 262,144 bytes: the buffer stays
pub page_refuses : (bs p p' : List ℕ) (r count : ℕ) → PageDesk bs p p' r count → Refuses (page.PAGE_ROOM (length p) ∷ []) r ((count ≡ 0) × (p' ≡ p))
page_refuses bs p p' r count x =
    refuses (page.PAGE_ROOM (length p) ∷ []) r (number_of x.answer) x.number x.replies.refused (λ d. (x.of_length ∙ left x.answer d, x.replies.kept d))
  where
    left : (y : Result ℕ Refusal) → ¬ (number_of y ≡ 0) → page.page_length y ≡ 0
    left (Ok l) d = absurd (d refl)
    left (Err y) d = refl
