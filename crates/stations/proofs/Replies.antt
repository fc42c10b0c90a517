-- The replies of the order question: an empty part of the first row (short_row), the first row (row_first), the second (row_second).
use mathlib.Core.List.{List, []}
use mathlib.Core.Path.{◌≡◌, refl}
use Prim.Native.Nat.{ℕ}
use lib.ListN.{length}
use denote.Ref.{Bor}
use Rattle.stations.specs.Sets.{Before}
use Rattle.stations.specs.Words.{has}
use Rattle.stations.specs.Answers.{FirstRow}

-- one of the rows has not four words
pub short_row : (x y r : Bor (List ℕ)) → (length x.now ≡ 4 → length y.now ≡ 4 → ⊥) → r.now ≡ [] → r.ref_ptr ≡ x.ref_ptr → FirstRow x y r
short_row x y r h e f = record { short = λ _. (e, f); second = λ p q _. absurd (h p q); first = λ p q _. absurd (h p q) }

pub row_first : (x y : Bor (List ℕ)) → length x.now ≡ 4 → length y.now ≡ 4 → (Before (has y.now) (has x.now) → ⊥) → FirstRow x y x
row_first x y p q h = record { short = λ n. absurd (n p q); second = λ _ _ b. absurd (h b); first = λ _ _ _. refl }

pub row_second : (x y : Bor (List ℕ)) → length x.now ≡ 4 → length y.now ≡ 4 → Before (has y.now) (has x.now) → FirstRow x y y
row_second x y p q b = record { short = λ n. absurd (n p q); second = λ _ _ _. refl; first = λ _ _ h. absurd (h b) }
