-- THE ROUND TRIPS of survey files, over the contracts of the reader and the writer. A survey passes every test of both, so each takes what the other
-- gives; and the bytes say which serials and table, and these which bytes.
--   reader_answers, writer_answers    good input is never refused, and a survey's bytes are read as that survey
--   table_read     the table that the reader makes is an accepted table
--   read_write     rule F6: what is read and written back has the same bytes
--   write_read     rule F7: what is written and read back has the same serials and table
use mathlib.Core.List.{List, [], ◌∷◌}
use mathlib.Core.Logic.{◌⊎◌, inl, inr}
use mathlib.Core.Path.{◌≡◌, sym, ap, ◌∙◌, subst, subst₂}
use Prim.Native.Nat.{ℕ, suc, ◌+◌, ◌*◌, ◌<◌, ◌≤◌}
use native.Mathlib.Omega.{arith}
use lib.ListN.{length, get_or, take}
use Rattle.mesh.specs.Table.{Table}
use Rattle.std.specs.Prelude.{Result}
use Rattle.card.specs.declared.Refusal.{Refusal}
use Rattle.card.specs.Card.{number_of, FirstFailing}
use Rattle.card.proofs.Card.{passes_none, first_one, table_passes}
use Rattle.records.specs.Survey as field
use Rattle.records.specs.Survey.{Serials, Survey, link_count}
use Rattle.records.specs.Lines.{reader_order, GIVEN_SERIAL, LINK_COUNT, FILE_ROOM, writer_order}
use Rattle.records.proofs.Climbing.{serials_faultless, pairs_faultless}
use Rattle.reader.specs.declared.Heading.{Heading}
use Rattle.reader.specs.Reply.{Reads, version, stations, links}
use Rattle.writer.specs.Reply.{Writes, file_length}
use Rattle.survey.proofs.Ranks.{links_counted}
use Rattle.survey.proofs.OneSurvey.{same_version, same_stations, same_records, same_serials, same_table, same_bytes}

-- ---- a survey passes the tests
-- the writer's, with serials, a table and room that are right
pub writer_passes : (n : ℕ) (s t : List ℕ) (room : ℕ) → Table n t → length s ≡ n → Serials n (λ i. get_or s i 0) → link_count n t ≤ 8192 → 9 + n * 4 + link_count n t * 4 ≤ room
    → FirstFailing (writer_order n s t room) 0
writer_passes n s t room T all right most fits =
    passes_none (writer_order n s t room) (table_passes n t (GIVEN_SERIAL n s ∷ LINK_COUNT n t ∷ FILE_ROOM n t room ∷ []) T (given, (λ p. omega arith, (λ p. omega arith, tt))))
  where
    given : ¬ (GIVEN_SERIAL n s).fails
    given (inl o) = o all
    given (inr f) = serials_faultless right f

writer_takes : {v n m : ℕ} {s t bs : List ℕ} (room : ℕ) → Survey v n m s t bs → length bs ≤ room → FirstFailing (writer_order n s t room) 0
writer_takes {v} {n} {m} {s} {t} {bs} room Y h =
    writer_passes n s t room Y.accepted Y.all_serials right (omega (arith, links_counted Y, Y.frame.few_records)) (omega (arith, links_counted Y, Y.frame.whole))
  where
    right : Serials n (λ i. get_or s i 0)
    right = record {
      some = λ i k. subst (λ (x : ℕ). 0 < x) (Y.serial_is i k) (Y.serials_right.some i k);
      rising = λ i k. subst₂ (λ (x y : ℕ). x < y) (Y.serial_is i (omega arith)) (Y.serial_is (suc i) k) (Y.serials_right.rising i k);
    }

-- the reader's
pub reader_takes : {v n m : ℕ} {s t bs : List ℕ} (serials words : ℕ) → Survey v n m s t bs → n ≤ serials → n * 4 ≤ words → FirstFailing (reader_order bs serials words) 0
reader_takes {v} {n} {m} {s} {t} {bs} serials words Y p q =
    passes_none (reader_order bs serials words) (mark, (one, (count, (whole, (room, (serials_faultless Z.serials_right, (pairs_faultless Z.pairs_right, tt)))))))
  where
    en : field.stations bs ≡ n
    en = Y.frame.stations_are

    em : field.records bs ≡ m
    em = Y.frame.records_are

    Z : Survey v (field.stations bs) (field.records bs) s t bs
    Z = subst₂ (λ (k j : ℕ). Survey v k j s t bs) (sym en) (sym em) Y

    mark : ¬ ((length bs < 9) ⊎ (¬ field.Mark bs))
    mark (inl h) = omega (arith, Y.frame.whole)
    mark (inr o) = o Y.frame.mark

    one : ¬ ¬ (field.version bs ≡ 1)
    one o = o (Y.frame.version_is ∙ Y.one)

    count : ¬ ((256 < field.stations bs) ⊎ (8192 < field.records bs))
    count (inl h) = omega (arith, en, Y.accepted.few)
    count (inr h) = omega (arith, em, Y.frame.few_records)

    whole : ¬ ¬ (length bs ≡ 9 + field.stations bs * 4 + field.records bs * 4)
    whole o = o Z.frame.whole

    room : ¬ ((serials < field.stations bs) ⊎ (words < field.stations bs * 4))
    room (inl h) = omega (arith, en)
    room (inr h) = omega (arith, en)

-- ---- good input is never refused
-- bytes that are a survey are read, and what is read is that survey
pub reader_answers : {v n m : ℕ} {s t bs : List ℕ} → Survey v n m s t bs → (serials table serials' table' : List ℕ) (r : Result Heading Refusal) → Reads bs serials table serials' table' r
    → n ≤ length serials → n * 4 ≤ length table
    → (number_of r ≡ 0) × (version r ≡ v) × (stations r ≡ n) × (links r ≡ m) × (take n serials' ≡ s) × (take (n * 4) table' ≡ t)
reader_answers {v} {n} {m} {s} {t} {bs} Y serials table serials' table' r R ls lt =
    (taken, same_version Z Y, same, same_records Z Y, subst (λ (k : ℕ). take k serials' ≡ s) same (same_serials Z Y), subst (λ (k : ℕ). take (k * 4) table' ≡ t) same (same_table Z Y))
  where
    taken : number_of r ≡ 0
    taken = first_one (reader_order bs (length serials) (length table)) _ _ R.refused (reader_takes (length serials) (length table) Y ls lt)

    Z : Survey (version r) (stations r) (links r) (take (stations r) serials') (take (stations r * 4) table') bs
    Z = R.survey taken

    same : stations r ≡ n
    same = same_stations Z Y

-- an accepted table of at most 8,192 links with its serials is written where there is room
pub writer_answers : (n : ℕ) (serials table bs bs' : List ℕ) (r : Result ℕ Refusal) → Writes n serials table bs bs' r → Table n table → length serials ≡ n
    → Serials n (λ i. get_or serials i 0) → link_count n table ≤ 8192 → 9 + n * 4 + link_count n table * 4 ≤ length bs → number_of r ≡ 0
writer_answers n serials table bs bs' r W T all right most fits =
    first_one (writer_order n serials table (length bs)) _ _ W.refused (writer_passes n serials table (length bs) T all right most fits)

-- ---- the theorems
pub table_read : (bs serials table serials' table' : List ℕ) (r : Result Heading Refusal) → Reads bs serials table serials' table' r → number_of r ≡ 0
    → Table (stations r) (take (stations r * 4) table')
table_read bs serials table serials' table' r R e = (R.survey e).accepted

pub read_write : (bs serials table serials' table' : List ℕ) (r : Result Heading Refusal) → Reads bs serials table serials' table' r → number_of r ≡ 0
    → (buffer buffer' : List ℕ) (w : Result ℕ Refusal) → Writes (stations r) (take (stations r) serials') (take (stations r * 4) table') buffer buffer' w → length bs ≤ length buffer
    → (number_of w ≡ 0) × (file_length w ≡ length bs) × (take (length bs) buffer' ≡ bs)
read_write bs serials table serials' table' r R e buffer buffer' w W room = (taken, long, subst (λ (k : ℕ). take k buffer' ≡ bs) long (sym (same_bytes Y (W.survey taken))))
  where
    Y : Survey (version r) (stations r) (links r) (take (stations r) serials') (take (stations r * 4) table') bs
    Y = R.survey e

    taken : number_of w ≡ 0
    taken = first_one (writer_order (stations r) (take (stations r) serials') (take (stations r * 4) table') (length buffer)) _ _ W.refused (writer_takes (length buffer) Y room)

    long : file_length w ≡ length bs
    long = W.whole taken ∙ ap (λ (k : ℕ). 9 + stations r * 4 + k * 4) (links_counted Y) ∙ sym Y.frame.whole

pub write_read : (n : ℕ) (serials table buffer buffer' : List ℕ) (w : Result ℕ Refusal) → Writes n serials table buffer buffer' w → number_of w ≡ 0
    → (s t s' t' : List ℕ) (r : Result Heading Refusal) → Reads (take (file_length w) buffer') s t s' t' r → n ≤ length s → n * 4 ≤ length t
    → (number_of r ≡ 0) × (stations r ≡ n) × (links r ≡ link_count n table) × (take n s' ≡ serials) × (take (n * 4) t' ≡ table)
write_read n serials table buffer buffer' w W e s t s' t' r R ls lt =
    let (taken, one, stations_are, links_are, serials_are, table_is) = reader_answers (W.survey e) s t s' t' r R ls lt in (taken, stations_are, links_are, serials_are, table_is)
