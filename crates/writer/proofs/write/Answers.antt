use mathlib.Core.Path.{◌≡◌, ap, ◌∙◌}
use Prim.Native.Nat.{ℕ, ◌+◌, ◌*◌}
use native.Mathlib.Omega.{arith}
use lib.Dec.{lit<}
use lib.ListN.{length, take, drop}
use lib.Seq.{length-take-le}
use Rattle.records.specs.Survey.{link_count}
use Rattle.records.proofs.Fields.{front_below}
use Rattle.writer.proofs.File.{survey_put}
use Rattle.writer.proofs.Tests.{Passed, passed, refused_reply, written_reply}
use Rattle.writer.proofs.write.Goals.{In_ok-mesh, After-count_links-m}
use Rattle.writer.proofs.write.Goals as goal

-- what is known once every test passed
good : (c : In_ok-mesh) → Passed c.args.n c.args.serials.now c.args.table.now (length c.args.bytes.now)
good c = passed c.args.n c.args.serials.now c.args.table.now (length c.args.bytes.now) c.in_ok-mesh.ensures.tested

pub returns-in_err-mesh : goal.returns-in_err-mesh
returns-in_err-mesh c = refused_reply _ _ _ _ _ _ c.from_residual.ensures.1 c.in_err-mesh.ensures.tested

-- how many links are counted
counted : (c : After-count_links-m) → c.count_links-m.result ≡ link_count c.args.n c.args.table.now
counted c = let m = c.in_ok-mesh.ensures.same in rw (m.0, m.1) at c.count_links-m.ensures.0

-- what is known once the links are counted
abbrev whole : After-count_links-m → ℕ
whole c = 9 + c.args.n * 4 + c.count_links-m.result * 4

long : (c : After-count_links-m) → length (take (whole c) c.args.bytes.now) ≡ whole c
long c =
    let P = good (goal.at.After-count_links-m c).In_ok-mesh in
    length-take-le (whole c) c.args.bytes.now (omega (arith, counted c, P.fits))

pub returns : goal.returns
returns c =
    let e = (goal.at.returns c).After-count_links-m in
    let P = good (goal.at.returns c).In_ok-mesh in
    let s = c.args in
    let m = c.in_ok-mesh.ensures.same in
    let F = rw (m.0, m.1) at c.put_file.ensures in
    written_reply s.n s.serials.now s.table.now s.bytes.now _ (whole e) c.in_ok-mesh.ensures.tested (F.head.whole ∙ long e) (ap (λ (k : ℕ). 9 + s.n * 4 + k * 4) (counted e))
    (survey_put _ P.table F.links_are c.count_links-m.result P.most (counted e) P.all_serials P.serials_good (λ i. (c.type_inv.table i).fits)
    (front_below 256 (lit< tt) c.put_file.new.bytes (drop (whole e) s.bytes.now) (λ i. (c.type_inv.bytes i).fits)) F.head (F.head.whole ∙ long e) F.serials_are)
