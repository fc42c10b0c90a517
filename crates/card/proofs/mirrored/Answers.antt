use mathlib.Core.Bool.{true}
use mathlib.Core.Path.{◌≡◌, refl}
use Prim.Native.Nat.{◌+◌, ◌*◌, ◌%◌}
use native.Mathlib.Omega.{arith}
use lib.ListN.{get_or}
use Rattle.stations.specs.Sets.{◌is_in◌}
use Rattle.stations.specs.Words.{bit, members}
use Rattle.stations.proofs.Laws.{of_word}
use Rattle.card.proofs.TableTest.{mirroring_word, looking_none, looking_more, mirrored_all, mirrored_one, bit_there, bit_missing}
use Rattle.card.proofs.mirrored.Goals.{In-Some}
use Rattle.card.proofs.mirrored.Goals as goal

-- the station that is looked at
mine : (c : In-Some) → (c.loop-q.q * 64 + c.in-Some.k) is_in members c.args.row
mine c =
    let b : bit (get_or c.words-words.result c.loop-q.q 0) c.in-Some.k ≡ true = c.loop-k.invariant.mine c.in-Some.k c.in-Some.ensures.steps.mine in
    rw c.words-words.ensures at (of_word c.words-words.result c.loop-q.q (c.loop-q.q * 64) c.in-Some.k refl c.in-Some.ensures.steps.small b)

pub loop-k-init : goal.loop-k-init
loop-k-init c = rw c.into_iter-k-iterator.ensures.into_iter_gives (looking_none _ _ _ _)

pub bounds-table-j : goal.bounds-table-j
bounds-table-j c = omega (arith, c.requires.0, c.requires.1 (c.loop-q.q * 64 + c.in-Some.k) (mine (goal.at.bounds-table-j c).In-Some))

pub loop-k-preserved : goal.loop-k-preserved
loop-k-preserved c = looking_more c.in-Some.ensures.steps c.loop-k.seen c.requires.0 c.loop-k.invariant

pub returns-then-seen-i-ne1 : goal.returns-then-seen-i-ne1
returns-then-seen-i-ne1 c = rw c.words-words.ensures at (
    mirrored_one c.words-words.result refl c.loop-k.invariant (bit_missing c.loop-k.seen (c.args.i % 64) c.if-seen-i-ne1.true)
    )

pub loop-q-preserved : goal.loop-q-preserved
loop-q-preserved c = mirroring_word c.words-words.result refl c.loop-q.invariant c.loop-k.invariant
    (bit_there c.loop-k.seen (c.args.i % 64) c.if-seen-i-ne1.false) c.in-None.ensures.steps.0

pub returns : goal.returns
returns c = rw c.words-words.ensures at (mirrored_all c.words-words.result c.loop-q.q (rw c.words-words.ensures refl) c.loop-q-test.false c.loop-q.invariant)
