use mathlib.Core.Logic.{inl, inr}
use mathlib.Core.Path.{◌≡◌, refl, ap, ◌∙◌, fun_ext}
use native.Mathlib.Omega.{arith}
use Rattle.stations.specs.Sets.{Set, ◌cut◌}
use Rattle.stations.specs.Words.{members, has, words}
use Rattle.stations.proofs.Laws.{has_small}
use Rattle.stations.proofs.Counting.{size_none}
use Rattle.mesh.specs.Table.{linked}
use Rattle.listing.proofs.Trimming.{trim_out, out_round, round_less}
use Rattle.listing.proofs.steps.Search.prune.Goals.{After-cut-links}
use Rattle.listing.proofs.steps.Search.prune.Goals as goal

links : (c : After-cut-links) → members c.cut-links.result ≡ (members c.loop-v.left cut linked c.args.self.now.table.now c.in-Some.v)
links c = fun_ext c.cut-links.ensures ∙ ap (λ (z : Set). members c.loop-v.left cut z) (ap has c.of_row.ensures)

pub loop-v-init : goal.loop-v-init
loop-v-init c = (rw c.into_iter-v-iterator.ensures.into_iter_gives c.loop-todo.invariant, inr (refl, size_none 256 (members c.empty-again.result) (λ x h. c.empty-again.ensures x)))

pub loop-v-preserved-then-size-self : goal.loop-v-preserved-then-size-self
loop-v-preserved-then-size-self c = let i = c.loop-v.invariant in
    let taken = c.in-Some.ensures.steps in (
      trim_out i.0 c.in-Some.v taken.least.mine c.requires.1 (members c.cut-links.result) _ _ (links (goal.at.loop-v-preserved-then-size-self c).After-cut-links)
          (omega (arith, c.if-size-self.true, c.size.ensures)) (fun_ext c.without-left.ensures) (fun_ext taken.rest),
      inl (out_round i.0 c.in-Some.v taken.least.mine _ _ _ i.1 (fun_ext c.without-left.ensures) taken.least.small),
    )

pub loop-todo-smaller : goal.loop-todo-smaller
loop-todo-smaller c = let i = c.loop-v.invariant in
    round_less i.0 (members c.loop-v.again) _ (fun_ext c.cut-todo.ensures) _ (members c.loop-todo.todo) i.1 (λ x h. has_small (words c.loop-todo.todo) x refl h)
    (c.is_empty.ensures.somebody c.loop-todo-test.true)
