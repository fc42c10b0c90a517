use mathlib.Core.Bool.{true, false}
use mathlib.Core.Path.{◌≡◌, sym, ◌∙◌, subst}
use Prim.Native.Nat.{ℕ, ◌<◌}
use lib.ListN.{set, length-set}
use Rattle.stations.specs.Words.{members}
use Rattle.linkage.specs.Linkage.{steps}
use Rattle.flow.specs.Search.{at}
use Rattle.flow.proofs.Way.{Open, way_small, way_begin, way_before, way_again, way_inner, way_done}
use Rattle.flow.proofs.steps.turn.Goals.{After-from-g, In-loop-starts}
use Rattle.flow.proofs.steps.turn.Goals as goal

-- the hole is at no start
outside : (c : In-loop-starts) → members c.args.starts c.loop-starts.h ≡ false
outside c = sym c.has.ensures ∙ c.loop-starts-test.true

before : (c : After-from-g) → (c.from-g.result < 256) × (steps (members c.args.starts) (at c.args.from.now) 256 c.from-g.result < steps (members c.args.starts) (at c.args.from.now) 256 c.loop-starts.h)
before c = subst (λ (g : ℕ). (g < 256) × (steps (members c.args.starts) (at c.args.from.now) 256 g < steps (members c.args.starts) (at c.args.from.now) 256 c.loop-starts.h)) (sym c.from-g.ensures)
    (way_before c.requires c.loop-starts.hold c.loop-starts.h c.loop-starts.invariant.0.1 (c.loop-starts.invariant.1 c.requires) (outside (goal.at.After-from-g c).In-loop-starts))

pub loop-starts-init : goal.loop-starts-init
loop-starts-init c = ((way_small c.requires c.args.last c.requires.came.here, c.requires.whole), λ W. way_begin W)

pub loop-starts-smaller : goal.loop-starts-smaller
loop-starts-smaller c = (before (goal.at.loop-starts-smaller c).After-from-g).1

pub loop-starts-preserved : goal.loop-starts-preserved
loop-starts-preserved c =
    let l = (goal.at.loop-starts-preserved c).In-loop-starts in (
      ((before (goal.at.loop-starts-preserved c).After-from-g).0, length-set c.loop-starts.hold c.loop-starts.h _ ∙ c.loop-starts.invariant.0.1),
      λ W. subst (λ (g : ℕ). Open W (set c.loop-starts.hold c.loop-starts.h (at c.loop-starts.hold g)) g) (sym c.from-g.ensures)
          (way_again W c.loop-starts.hold c.loop-starts.h c.loop-starts.invariant.0.1 (c.loop-starts.invariant.1 W) (outside l)),
    )

pub returns : goal.returns
returns c = let m : members c.args.starts c.loop-starts.h ≡ true = sym c.has.ensures ∙ c.loop-starts-test.false in
    record {
      whole = c.loop-starts.invariant.0.1;
      small = c.loop-starts.invariant.0.0;
      start = m;
      inner = λ W. way_inner W c.loop-starts.hold c.loop-starts.h c.loop-starts.invariant.0.1 (c.loop-starts.invariant.1 W);
      linkage = λ W. way_done W c.loop-starts.hold c.loop-starts.h c.loop-starts.invariant.0.1 (c.loop-starts.invariant.1 W) m;
    }
