use mathlib.Core.List.{List, [], ◌∷◌}
use native.Mathlib.Omega.{arith}
use Rattle.card.specs.Card.{Test, number_of, FirstFailing}
use Rattle.card.proofs.Card.{first_exit, first_go, first_and}
use Rattle.records.specs.Lines.{MARK, VERSION, COUNT, LENGTH, ROOM, SERIAL, LINK}
use Rattle.records.specs.Survey.{stations, records}
use Rattle.reader.proofs.Tests.{rest, order_rest}
use Rattle.reader.proofs.judge.test_file.Goals.{After-and}
use Rattle.reader.proofs.judge.test_file.Goals as goal

-- what the tests of the room and of the records come to
both : (c : After-and) → FirstFailing (rest c.args.bytes.now c.in_ok-heading.heading.stations c.in_ok-heading.heading.links c.args.serials c.args.words) (number_of c.and.result)
both c =
    let bs = c.args.bytes.now in
    let n = c.in_ok-heading.heading.stations in
    let m = c.in_ok-heading.heading.links in
    let r = c.records-file.ensures in
    rw c.and.ensures (first_and (ROOM n c.args.serials c.args.words ∷ []) (SERIAL n bs ∷ LINK n m bs ∷ []) c.test_room.result c.test_records.result (omega arith, tt) (rw r.1 at c.test_room.ensures) (rw (r.0, r.1, r.2) at c.test_records.ensures))

pub returns-in_err-heading-clause-tested : goal.returns-in_err-heading-clause-tested
returns-in_err-heading-clause-tested c =
    let bs = c.args.bytes.now in
    let last : List Test = rest bs (stations bs) (records bs) c.args.serials c.args.words in
    first_go (MARK bs ∷ []) (VERSION bs ∷ COUNT bs ∷ LENGTH bs ∷ last) _ (omega arith, tt) c.in_ok-test_mark.ensures
    (first_exit (VERSION bs ∷ COUNT bs ∷ LENGTH bs ∷ []) last _ _ c.from_residual-in_err-heading.ensures.1 c.in_err-heading.ensures.tested)

pub returns-in_err-and-clause-tested : goal.returns-in_err-and-clause-tested
returns-in_err-and-clause-tested c =
    order_rest c.args.bytes.now c.in_ok-heading.heading c.args.serials c.args.words _ c.in_ok-test_mark.ensures c.in_ok-heading.ensures.tested c.in_ok-heading.ensures.heads
    (first_exit (rest c.args.bytes.now c.in_ok-heading.heading.stations c.in_ok-heading.heading.links c.args.serials c.args.words) [] _ _ c.from_residual-in_err-and.ensures.1
    (rw c.in_err-and.was at (both (goal.at.returns-in_err-and-clause-tested c).After-and)))

pub returns-clause-tested : goal.returns-clause-tested
returns-clause-tested c =
    order_rest c.args.bytes.now c.in_ok-heading.heading c.args.serials c.args.words _ c.in_ok-test_mark.ensures c.in_ok-heading.ensures.tested c.in_ok-heading.ensures.heads
    (rw c.in_ok-and.was at (both (goal.at.returns-clause-tested c).After-and))
