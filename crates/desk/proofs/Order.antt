-- The order question in numbers: no word of the first row (short_desk), all of the first (first_desk), all of the second (second_desk).
use mathlib.Core.List.{List}
use mathlib.Core.Path.{◌≡◌, refl, sym, ap}
use Prim.Native.Nat.{ℕ}
use native.Mathlib.Omega.{arith}
use denote.Bor.{Bor}
use lib.ListN.{length}
use lib.Seq.{take_all}
use Rattle.stations.specs.Sets.{Before}
use Rattle.stations.specs.Words.{has}
use Rattle.stations.proofs.Replies.{short_row, row_first, row_second}
use Rattle.desk.specs.Desk.{beginning, FirstRowDesk}

-- four words of a row of four are all of it
whole : (x : Bor (List ℕ)) → length x.now ≡ 4 → x ≡ beginning 4 x
whole x e = ap (λ (v : List ℕ). let r : Bor (List ℕ) = record x { now = v } in r) (sym (take_all 4 x.now (omega arith)))

module _ (x y : Bor (List ℕ)) where
  pub short_desk : (length x.now ≡ 4 → length y.now ≡ 4 → ⊥) → FirstRowDesk x y 0 0
  short_desk h = record {
    answer = beginning 0 x;
    replies = short_row x y (beginning 0 x) h refl refl;
    part = refl;
    counted = refl;
    second = λ p q _. absurd (h p q);
    first = λ _. refl;
  }

  module _ (p : length x.now ≡ 4) (q : length y.now ≡ 4) where
    pub first_desk : (Before (has y.now) (has x.now) → ⊥) → FirstRowDesk x y 0 4
    first_desk h = record {
      answer = x;
      replies = row_first x y p q h;
      part = whole x p;
      counted = sym p;
      second = λ _ _ b. absurd (h b);
      first = λ _. refl;
    }

    pub second_desk : Before (has y.now) (has x.now) → FirstRowDesk x y 1 4
    second_desk b = record {
      answer = y;
      replies = row_second x y p q b;
      part = whole y q;
      counted = sym q;
      second = λ _ _ _. refl;
      first = λ h. absurd (h p q b);
    }
