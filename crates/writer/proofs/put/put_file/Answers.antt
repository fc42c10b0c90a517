use Rattle.writer.proofs.File.{file_put}
use Rattle.writer.proofs.put.put_file.Goals as goal

pub returns : goal.returns
returns c = let s = c.args in
    file_put s.mesh.n s.m _ s.mesh.table.now c.put_head.ensures c.requires.all_serials c.put_serials.ensures c.put_links.ensures
