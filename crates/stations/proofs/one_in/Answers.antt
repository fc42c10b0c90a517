use native.Mathlib.Omega.{arith}
use native.Mathlib.Nat.{one-mul}
use mathlib.Core.Path.{◌≡◌, sym, ap, ◌∙◌}
use Prim.Native.Nat.{ℕ, ◌+◌, ◌*◌, ◌%◌, ◌^◌, ◌<◌}
use lib.Dec.{lit<}
use lib.Pow.{shl_exact}
use borrow.Author.Tests.{ne_eqb}
use Rattle.stations.specs.Words.{bit}
use Rattle.stations.proofs.Bit.{bit_one, bit-none}
use Rattle.stations.proofs.Laws.{eqb_iff}
use Rattle.stations.proofs.one_in.Goals as goal

-- the code's `1 << n`
shifted : (n : ℕ) → n < 64 → 1 * 2 ^ n % 2 ^ 64 ≡ 2 ^ n
shifted n h = shl_exact 1 n 64 (lit< tt) (omega arith) ∙ one-mul (2 ^ n)

pub returns-then-j-i : goal.returns-then-j-i
returns-then-j-i c = λ k h.
    let j : ℕ = c.args.j in
    let i : ℕ = c.args.i in
    ap (λ (w : ℕ). bit w k) (shifted (j % 64) (omega arith)) ∙ bit_one (j % 64) k ∙ eqb_iff k (j % 64) (i * 64 + k) j (λ e. omega arith) (λ e. omega arith)

pub returns-else-j-i : goal.returns-else-j-i
returns-else-j-i c = λ k h. bit-none k ∙ sym (ne_eqb (c.args.i * 64 + k) c.args.j (λ e. c.if-j-i.false (omega arith)))
