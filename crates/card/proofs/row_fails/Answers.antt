use mathlib.Core.Bool.{Bool, not, ◌&&◌}
use mathlib.Core.List.{List}
use mathlib.Core.Path.{sym, ap, ap₂, ◌∙◌}
use Prim.Native.Nat.{ℕ}
use Rattle.stations.specs.Words.{has}
use Rattle.stations.proofs.Bools.{not_true}
use Rattle.card.proofs.TableTest.{row_self, row_high}
use Rattle.card.proofs.row_fails.Goals.{then-has, else-has}
use Rattle.card.proofs.row_fails.Goals as goal

pub returns-then-not-is_empty : goal.returns-then-not-is_empty
returns-then-not-is_empty c =
    let n = c.args.n in
    let t = c.args.table.now in
    let i = c.args.i in
    let own = c.of_row-row.ensures in
    rw c.if-not-is_empty.true (
    elim c.if-has.branch [
      | then-has w ↦ row_self n t i (ap (λ (v : List ℕ). has v i) (sym own) ∙ sym c.has.ensures ∙ w.if-has.true)
      | else-has w ↦ row_high n t i (λ z. w.is_empty.ensures.somebody (not_true w.is_empty.result (sym w.value-is ∙ c.if-not-is_empty.true)) (λ x. w.minus.ensures x ∙ ap₂ (λ (v : List ℕ) (b : Bool). has v x && not b) own (w.first_n.ensures x) ∙ z x))
    ]
    )
