use mathlib.Core.Logic.{inl, inr}
use mathlib.Core.Path.{◌≡◌, refl, ap, subst, sym}
use Prim.Native.Nat.{ℕ, ◌+◌, ◌-◌}
use native.Mathlib.Omega.{arith}
use borrow.Author.Rules.{rules}
use Rattle.stations.specs.Words.{has, members}
use Rattle.listing.specs.Rows.{Stored}
use Rattle.listing.proofs.Lists.{put_set}
use Rattle.listing.proofs.Sorting.{shift_one, shift_stop, inserted}
use Rattle.listing.proofs.rows.insert.Goals as goal

pub returns-then-before : goal.returns-then-before
returns-then-before c = let i = c.loop-j.invariant in
    let e : (c.loop-j.j - 1) + 1 ≡ c.loop-j.j = omega arith in
    inserted i.1 i.0 _ (subst (λ (r : ℕ). Stored c.loop-j.list r (members c.of_row-s.result) c.put_row.new.t) e (put_set c.of_row-s.result refl (search rules) c.put_row.ensures))
    (inr (shift_stop i.1 i.0 _ (λ z. omega arith) (ap has c.of_row-y.ensures) (c.before-in-loop-j.ensures.before c.if-before.true)))

pub loop-j-preserved : goal.loop-j-preserved
loop-j-preserved c = let i = c.loop-j.invariant in
    let e : (c.loop-j.j - 1) + 1 ≡ c.loop-j.j = omega arith in (
      i.0,
      shift_one i.1 i.0 _ _ (λ z. omega arith) (ap has c.of_row-y.ensures) (c.before-in-loop-j.ensures.after c.if-before.false)
          (subst (λ (r : ℕ). Stored c.loop-j.list r (members c.of_row-y.result) c.put_row-in-loop-j.new.t) e (put_set c.of_row-y.result refl (search rules) c.put_row-in-loop-j.ensures)),
    )

pub returns : goal.returns
returns c = let i = c.loop-j.invariant in
    let e : 0 ≡ c.loop-j.j = omega arith in
    inserted i.1 i.0 _ (subst (λ (r : ℕ). Stored c.loop-j.list r (members c.of_row-s.result) c.put_row-2.new.t) e (put_set c.of_row-s.result refl (search rules) c.put_row-2.ensures)) (inl (sym e))
