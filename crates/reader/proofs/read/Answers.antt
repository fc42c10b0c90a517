use mathlib.Core.Path.{◌∙◌}
use Prim.Native.Nat.{◌*◌, ◌^◌}
use lib.Dec.{lit<}
use lib.ListN.{length, drop}
use lib.Seq.{length-take-le}
use Rattle.records.proofs.Fields.{front_below}
use Rattle.reader.proofs.Filling.{survey_filled}
use Rattle.reader.proofs.Tests.{Passed, passed, refused_reply, read_reply}
use Rattle.reader.proofs.read.Goals.{In_ok-heading}
use Rattle.reader.proofs.read.Goals as goal

-- what is known of the bytes once every test passed
good : (c : In_ok-heading) → Passed c.args.bytes.now c.in_ok-heading.heading (length c.args.serials.now) (length c.args.table.now)
good c = passed c.args.bytes.now c.in_ok-heading.heading _ _ (λ i. (c.type_inv.bytes i).fits) c.in_ok-heading.ensures.heads c.in_ok-heading.ensures.tested

pub returns-in_err-heading : goal.returns-in_err-heading
returns-in_err-heading c = refused_reply _ _ _ _ _ c.from_residual.ensures.1 c.in_err-heading.ensures.tested

pub fill_table-requires : goal.fill_table-requires
fill_table-requires c = let P = good (goal.at.fill_table-requires c).In_ok-heading in
    let r = c.records-file.ensures in
    (rw (r.0, r.1, r.2) P.accepted, rw r.1 (length-take-le _ c.args.table.now P.room_words))

pub returns : goal.returns
returns c =
    let P = good (goal.at.returns c).In_ok-heading in
    let h = c.in_ok-heading.heading in
    let bs = c.args.bytes.now in
    let serials = c.args.serials.now in
    let ls = length-take-le h.stations serials P.room_serials in
    let r = c.records-file.ensures in
    let S = rw (r.0, ls) at c.fill_serials.ensures in
    let F = rw (r.0, r.1, r.2) at c.fill_table.ensures in
    read_reply bs serials c.args.table.now c.fill_serials.new.serials c.fill_table.new.table h c.in_ok-heading.ensures.heads.one c.in_ok-heading.ensures.tested (S.whole ∙ ls) F.whole
    (survey_filled P.accepted F ls S (front_below (2 ^ 64) (lit< tt) c.fill_table.new.table (drop (h.stations * 4) c.args.table.now) (λ i. (c.type_inv.table i).fits)))
