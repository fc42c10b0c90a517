use Rattle.writer.proofs.File.{head_put}
use Rattle.writer.proofs.put.put_head.Goals as goal

pub returns : goal.returns
returns c = let K = c.put_short.ensures in
    let L = c.put_short-2.ensures in
    let M = c.put_short-3.ensures in
    head_put c.args.n c.args.m c.requires.2 c.copy_from_slice.ensures.after K.0 K.1 L.0 L.1 M.0 M.1
