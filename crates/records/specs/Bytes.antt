-- Numbers in a row of bytes, the lowest byte first.
--   short bs i       the 16-bit number that starts at byte i
--   long bs i        the 32-bit number that starts at byte i
--   Octets bs        each byte is below 256
--   Words t          each word is one of 64 bits
--   Kept at bs bs'   bs' is as long as bs, and the same below byte `at`
use Rattle.std.specs.Prelude.{List, ◌≡◌, ℕ, ◌+◌, ◌*◌, ◌^◌, ◌<◌, length, get_or}

unfoldable pub short : List ℕ → ℕ → ℕ
short bs i = get_or bs i 0 + get_or bs (i + 1) 0 * 256

unfoldable pub long : List ℕ → ℕ → ℕ
long bs i = short bs i + short bs (i + 2) * 65536

abbrev pub Octets : List ℕ → Type 0
Octets bs = (i : ℕ) → get_or bs i 0 < 256

abbrev pub Words : List ℕ → Type 0
Words t = (i : ℕ) → get_or t i 0 < 2 ^ 64

pub record Kept (at : ℕ) (bs bs' : List ℕ) : Type 0 where
  pub whole : length bs' ≡ length bs
  pub same : (i : ℕ) → i < at → get_or bs' i 0 ≡ get_or bs i 0
