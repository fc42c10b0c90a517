use Rattle.std.proofs.Common.{ℕ, ◌+◌, ◌*◌, ◌≤◌, length, arith}
use Rattle.stations.specs.Sets.{◌is_in◌}
use Rattle.stations.specs.Words.{members}
use Rattle.pairs.proofs.Turns.{inner_in, open_begin, round_begin, round_turn, round_found, open_again, open_none, open_level}
use Rattle.pairs.proofs.Piece.settle.Goals.{In-Some}
use Rattle.pairs.proofs.Piece.settle.Goals as goal

pub pairs-init : goal.pairs-init
pairs-init c = open_begin _ _ _ _ _ _ c.requires

pub loop-v-init : goal.loop-v-init
loop-v-init c = rw c.into_iter-v-iterator.ensures.into_iter_gives (round_begin c.requires.piece.mesh c.pairs.invariant c.cut-near.result c.with-known.result _
    (λ x. simp (c.cut-near.ensures, c.of_row.ensures)) c.with-known.ensures c.minus-v-items.ensures)

-- the station that is tried, and its row
tried : (c : In-Some) → c.in-Some.v is_in members c.pairs.q
tried c = c.loop-v.invariant.inside c.in-Some.v c.in-Some.ensures.steps.least.mine

has_row : (c : In-Some) (x : ℕ) → x is_in members c.pairs.q → x * 4 + 4 ≤ length c.args.self.table.now
has_row c x i = c.requires.piece.fits x (c.pairs.invariant.peeled.part x i)

pub of_row-starts-requires : goal.of_row-starts-requires
of_row-starts-requires c = has_row (goal.at.of_row-starts-requires c).In-Some c.in-Some.v (tried (goal.at.of_row-starts-requires c).In-Some)

pub flow-requires : goal.flow-requires
flow-requires c = λ x i. has_row (goal.at.flow-requires c).In-Some x (inner_in (members c.pairs.q) c.pairs.u c.in-Some.v x (simp (c.without-inner.ensures, c.without.ensures) at i))

-- v is firm with u
pub loop-v-preserved : goal.loop-v-preserved
loop-v-preserved c = round_turn c.requires.piece.mesh c.pairs.invariant _ _ c.in-Some.v c.loop-v.invariant c.in-Some.ensures.steps.least.mine c.without-inner.result _
    (λ x. simp (c.without-inner.ensures, c.without.ensures)) (λ x. simp c.of_row-starts.ensures) _ _
    c.with-known-in-None-flow.ensures c.in-Some.ensures.steps.rest c.in-None-flow.ensures

-- all sources are firm with u
pub pairs-preserved : goal.pairs-preserved
pairs-preserved c = open_again c.requires.piece.mesh c.pairs.invariant _ _ c.loop-v.invariant c.in-None.ensures.steps.0 (omega arith) c.cut-near.result c.without-in-pairs.result _ _
    (λ x. simp (c.cut-near.ensures, c.of_row.ensures)) c.without-in-pairs.ensures c.without-q.ensures c.fewer-sources.ensures c.in-Some-first.next c.in-Some-first.ensures.mine

pub returns-then-level-eq0 : goal.returns-then-level-eq0
returns-then-level-eq0 c = open_level c.requires.piece.mesh c.pairs.invariant c.if-level-eq0.true

pub returns-in-Some-flow : goal.returns-in-Some-flow
returns-in-Some-flow c = round_found c.requires.piece.mesh c.pairs.invariant _ _ c.in-Some.v c.loop-v.invariant c.in-Some.ensures.steps.least.mine c.without-inner.result _
    (λ x. simp (c.without-inner.ensures, c.without.ensures)) (λ x. simp c.of_row-starts.ensures) c.in-Some-flow.cut c.join.result
    (λ x. simp (c.join.ensures, c.minus.ensures)) c.in-Some-flow.ensures

pub returns-in_default : goal.returns-in_default
returns-in_default c = open_none c.requires.piece.mesh c.pairs.invariant _ _ c.loop-v.invariant c.in-None.ensures.steps.0 (omega arith) c.cut-near.result c.without-in-pairs.result c.without-q.result
    c.fewer-sources.result (λ x. simp (c.cut-near.ensures, c.of_row.ensures)) c.without-in-pairs.ensures c.without-q.ensures c.fewer-sources.ensures c.in_default.ensures
