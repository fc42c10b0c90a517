use mathlib.Core.Bool.{true}
use mathlib.Core.Path.{◌≡◌, sym, ◌∙◌, subst}
use Prim.Native.Nat.{◌<◌}
use Rattle.stations.specs.Words.{members}
use Rattle.flow.specs.Search.{SomeOf, Setting}
use Rattle.flow.proofs.Sweeping.{going_begin, going_inner, going_came, going_turn, going_fewer, going_stuck}
use Rattle.flow.proofs.steps.search.Goals.{After-minus-todo, After-from-v}
use Rattle.flow.proofs.steps.search.Goals as goal

-- what the search begins with
setting : (m : After-minus-todo)
    → Setting m.args.table.now m.args.inner m.args.ends m.args.hold.now m.cut-into.result m.minus-todo.result
setting m = record { starts = m.args.starts; first = m.args.first; number = m.requires.1.0; held = m.requires.1.1; into_law = m.cut-into.ensures; todo_law = m.minus-todo.ensures }

-- a station holds a station of the net
small : (c : After-from-v) → c.from-v.result < 256
small c = rw c.from-v.ensures (c.fits-hold c.in-Some.w)

inner : (c : After-from-v) → members c.args.inner c.from-v.result ≡ true
inner c = going_inner (setting (goal.at.After-from-v c).After-minus-todo) (c.loop-w.invariant.1 (setting (goal.at.After-from-v c).After-minus-todo)) c.in-Some.w c.in-Some.ensures.1 c.from-v.result c.from-v.ensures (small c)

pub loop-w-init : goal.loop-w-init
loop-w-init c = (c.told-from, λ Z. going_begin Z _ _ c.empty-out.ensures)

pub returns-then-has : goal.returns-then-has
unfolding setting
returns-then-has c = let Z = setting (goal.at.returns-then-has c).After-minus-todo in
    record {
      whole = c.loop-w.invariant.0;
      told = going_came Z (c.loop-w.invariant.1 Z) c.in-Some.w c.in-Some.ensures.1 c.from-v.result c.from-v.ensures (small (goal.at.returns-then-has c).After-from-v) (sym c.has.ensures ∙ c.if-has.true);
    }

pub of_row-requires : goal.of_row-requires
of_row-requires c = c.requires.0 _ (inner (goal.at.of_row-requires c).After-from-v)

pub loop-w-smaller : goal.loop-w-smaller
loop-w-smaller c = let Z = setting (goal.at.loop-w-smaller c).After-minus-todo in
    going_fewer Z (c.loop-w.invariant.1 Z) c.in-Some.w c.in-Some.ensures.1 c.from-v.result c.from-v.ensures (small (goal.at.loop-w-smaller c).After-from-v)
    _ c.join-into.result c.with-out.result c.join-todo.result c.minus-fresh.result
    (λ x. simp (c.minus-fresh.ensures, c.cut.ensures, c.with.ensures, c.of_row.ensures))
    c.join-into.ensures c.with-out.ensures (λ x. simp (c.join-todo.ensures, c.without.ensures)) c.mark.ensures

pub loop-w-preserved : goal.loop-w-preserved
loop-w-preserved c = let Z = setting (goal.at.loop-w-preserved c).After-minus-todo in (
  c.mark.ensures.whole,
  λ Z. going_turn Z (c.loop-w.invariant.1 Z) c.in-Some.w c.in-Some.ensures.1 c.from-v.result c.from-v.ensures (small (goal.at.loop-w-preserved c).After-from-v)
      _ c.join-into.result c.with-out.result c.join-todo.result c.minus-fresh.result
      (λ x. simp (c.minus-fresh.ensures, c.cut.ensures, c.with.ensures, c.of_row.ensures))
      c.join-into.ensures c.with-out.ensures (λ x. simp (c.join-todo.ensures, c.without.ensures)) c.mark.ensures (sym c.has.ensures ∙ c.if-has.false),
)

pub returns : goal.returns
unfolding setting
returns c = let Z = setting (goal.at.returns c).After-minus-todo in
    record {
      whole = c.loop-w.invariant.0;
      told = going_stuck Z (c.loop-w.invariant.1 Z) (subst (SomeOf (members c.loop-w.todo)) c.in_default.is c.choose.ensures) c.minus.result c.minus.ensures;
    }
