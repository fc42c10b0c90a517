use mathlib.Core.List.{[], ◌∷◌}
use native.Mathlib.Omega.{arith}
use Rattle.card.proofs.Card.{first_exit, first_go}
use Rattle.records.specs.Lines.{SERIAL, LINK}
use Rattle.reader.proofs.judge.test_records.Goals as goal

pub returns-in_err-test_serials : goal.returns-in_err-test_serials
returns-in_err-test_serials c =
    let f = c.args.file in
    first_exit (SERIAL f.stations f.bytes.now ∷ []) (LINK f.stations f.links f.bytes.now ∷ []) _ _ c.from_residual.ensures.1 c.in_err-test_serials.ensures

pub returns : goal.returns
returns c =
    let f = c.args.file in
    first_go (SERIAL f.stations f.bytes.now ∷ []) (LINK f.stations f.links f.bytes.now ∷ []) _ (omega arith, tt) c.in_ok-test_serials.ensures c.test_links.ensures
