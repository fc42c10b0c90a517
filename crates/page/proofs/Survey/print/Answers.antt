use native.Mathlib.Omega.{arith}
use Rattle.lines.proofs.Adding.{put_then}
use Rattle.page.proofs.Upward.{room_16, room_most}
use Rattle.page.proofs.Survey.print.Goals as goal

pub levels-top-requires : goal.levels-top-requires
levels-top-requires c = omega (arith, room_16)

pub last-requires : goal.last-requires
last-requires c = omega (arith, room_most c.levels-top.result c.levels-top.ensures.top)

pub returns : goal.returns
returns c =
    let e = c.levels-top.ensures in
    record {
      top = c.levels-top.result;
      lines = e.put.lines;
      levels = e.put.levels;
      last = e.last;
      put = put_then (put_then c.first.ensures.put e.put.put) c.last.ensures.put;
      end = omega (arith, room_most c.levels-top.result e.top);
    }
