use native.Mathlib.Omega.{arith}
use native.Mathlib.Nat.{one-mul}
use mathlib.Core.Path.{◌≡◌, sym, ap, ◌∙◌}
use Prim.Native.Nat.{ℕ, ◌+◌, ◌*◌, ◌%◌, ◌^◌, ◌-◌, ◌<◌}
use lib.Dec.{lit<}
use lib.Pow.{shl_exact}
use borrow.Author.Tests.{lt-ltb, le-ltb}
use Rattle.stations.specs.Words.{bit}
use Rattle.stations.proofs.Bit.{bit_mask, bit-none}
use Rattle.stations.proofs.Laws.{ltb_iff}
use Rattle.stations.proofs.low_in.Goals as goal

shifted : (n : ℕ) → n < 64 → 1 * 2 ^ n % 2 ^ 64 ≡ 2 ^ n
shifted n h = shl_exact 1 n 64 (lit< tt) (omega arith) ∙ one-mul (2 ^ n)

pub returns-then-n-from : goal.returns-then-n-from
returns-then-n-from c = λ k h. bit-none k ∙ sym (le-ltb (c.args.i * 64 + k) c.args.n (omega arith))

pub returns-then-m-ge64 : goal.returns-then-m-ge64
returns-then-m-ge64 c = λ k h. bit_mask 64 k ∙ lt-ltb k 64 h ∙ sym (lt-ltb (c.args.i * 64 + k) c.args.n (omega arith))

pub returns : goal.returns
returns c = λ k h.
    let m : ℕ = c.args.n - c.args.i * 64 in
    ap (λ (w : ℕ). bit (w - 1) k) (shifted m (omega arith)) ∙ bit_mask m k ∙ ltb_iff k m (c.args.i * 64 + k) c.args.n (λ e. omega arith) (λ e. omega arith)
