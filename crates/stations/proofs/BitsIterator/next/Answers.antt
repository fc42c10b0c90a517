use Prim.Native.Nat.{◌-◌}
use native.Mathlib.Omega.{arith}
use lib.Bits.{bit_and}
use Rattle.std.proofs.Common.{Some}
use Rattle.stations.specs.declared.Bits.{Bits}
use Rattle.stations.specs.Answers.{BitTaken}
use Rattle.stations.proofs.Popping.{bit_taken, no_bit, bit_progress}
use Rattle.stations.proofs.BitsIterator.next.Goals.{After-low_bit-k}
use Rattle.stations.proofs.BitsIterator.next.Goals as goal

pub returns-then-self-eq0-clause-steps : goal.returns-then-self-eq0-clause-steps
returns-then-self-eq0-clause-steps c = let z = no_bit c.args.self.now.word (omega arith) in (z, z)

-- the bit that is taken out
taken : (c : After-low_bit-k) → BitTaken c.args.self.now.word c.low_bit-k.result (bit_and c.args.self.now.word (c.args.self.now.word - 1))
taken c = rw c.low_bit-k.ensures.0 (bit_taken c.args.self.now.word (omega arith) c.if-self-eq0.false)

pub returns-clause-steps : goal.returns-clause-steps
returns-clause-steps c = taken (goal.at.returns-clause-steps c).After-low_bit-k

pub returns-clause-goes : goal.returns-clause-goes
returns-clause-goes c = bit_progress _ (λ (s : Bits). s.word) c.args.self.now (Some c.low_bit-k.result) (record { word = bit_and c.args.self.now.word (c.args.self.now.word - 1) })
    (λ x. tt) (taken (goal.at.returns-clause-goes c).After-low_bit-k)
