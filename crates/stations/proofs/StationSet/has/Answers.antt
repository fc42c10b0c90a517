use mathlib.Core.Path.{refl, sym, ap, ◌∙◌}
use Prim.Native.Nat.{ℕ, ◌%◌}
use Rattle.stations.specs.Words.{bit}
use Rattle.stations.proofs.Bit.{bit_test}
use Rattle.stations.proofs.Laws.{has_at}
use Rattle.stations.proofs.StationSet.has.Goals as goal

pub returns : goal.returns
returns c = bit_test _ _ ∙ ap (λ (w : ℕ). bit w (c.args.j % 64)) c.word-w.ensures ∙ sym (has_at _ _ _ _ refl refl)
