use mathlib.Core.Path.{◌∙◌}
use Rattle.reader.proofs.Filling.{filled_none, zeros}
use Rattle.reader.proofs.fill.fill_table.Goals as goal

pub fill_links-requires : goal.fill_links-requires
fill_links-requires c = (c.requires.0, filled_none _ _ _ (c.fill.ensures.len ∙ c.requires.1) (zeros _ (c.fill.ensures.after (λ y e. e))))
