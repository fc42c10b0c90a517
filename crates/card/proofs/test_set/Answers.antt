use mathlib.Core.Bool.{Bool, not, ◌&&◌}
use mathlib.Core.List.{List}
use mathlib.Core.Path.{◌≡◌, sym, ap₂, ◌∙◌}
use Prim.Native.Nat.{ℕ}
use lib.Dec.{ltb}
use Rattle.stations.specs.Words.{has, members}
use Rattle.stations.proofs.Laws.{row_whole}
use Rattle.card.proofs.TableTest.{set_large, set_low, set_high}
use Rattle.card.proofs.test_set.Goals.{After-is_empty}
use Rattle.card.proofs.test_set.Goals as goal

pub returns-then-n-ge256 : goal.returns-then-n-ge256
returns-then-n-ge256 c = set_large _ _ c.if-set-ne4.false c.if-n-ge256.true

-- the set without the stations below n
high : (c : After-is_empty) (x : ℕ) → members c.minus.result x ≡ (has c.args.set.now x && not (ltb x c.args.n))
high c x =
    let own = c.of_row-s.ensures ∙ row_whole c.args.set.now c.if-set-ne4.false in
    c.minus.ensures x ∙ ap₂ (λ (w : List ℕ) (b : Bool). has w x && not b) own (c.first_n.ensures x)

pub returns-then-not-is_empty : goal.returns-then-not-is_empty
returns-then-not-is_empty c =
    let e = (goal.at.returns-then-not-is_empty c).After-is_empty in
    set_high _ _ c.if-set-ne4.false (λ z. c.is_empty.ensures.somebody c.if-not-is_empty.true (λ x. high e x ∙ z x))

pub returns : goal.returns
returns c =
    let e = (goal.at.returns c).After-is_empty in
    set_low _ _ c.if-set-ne4.false (λ x. sym (high e x) ∙ c.is_empty.ensures.nobody c.if-not-is_empty.false x)
