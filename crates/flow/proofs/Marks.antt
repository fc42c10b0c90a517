-- What the stores of `mark` come to: a set is taken a word at a time (Marking), and a word a bit at a time, the lowest first (MarkingWord).
use mathlib.Core.Bool.{Bool, true, false, not, ◌&&◌}
use mathlib.Core.List.{List}
use mathlib.Core.Logic.{◌⊎◌, inl, inr, ⊎_elim}
use mathlib.Core.Path.{◌≡◌, refl, sym, ap, ◌∙◌}
use Prim.Native.Nat.{ℕ, ◌+◌, ◌*◌, ◌/◌, ◌%◌, ◌<◌, ◌≤◌}
use native.Mathlib.Decide.{ℕ_discrete}
use native.Mathlib.Omega.{arith}
use lib.Dec.{eqb}
use borrow.Author.Tests.{ne_eqb}
use lib.ListN.{length, get_or, set, length-set}
use lib.Seq.{get_or-set_same, get_or-set_other}
use Rattle.stations.specs.Sets.{◌is_in◌, ◌not_in◌}
use Rattle.stations.specs.Words.{bit, words, members}
use Rattle.stations.specs.declared.StationSet.{StationSet}
use Rattle.stations.specs.Answers.{BitTaken}
use Rattle.stations.proofs.Bools.{never, and_left, and_whole}
use Rattle.stations.proofs.Laws.{has_at, has_small}
use Rattle.flow.specs.Search.{at, Marked}

-- g is stored at the stations of the first i words
pub record Marking (from : List ℕ) (s : StationSet) (g i : ℕ) (from' : List ℕ) : Type 0 where
  pub whole : length from' ≡ 256
  pub new : (y : ℕ) → y is_in members s → y < i * 64 → at from' y ≡ g
  pub old : (y : ℕ) → y not_in members s → at from' y ≡ at from y

-- and at those of word i but for the bits of x, which are still to come
pub record MarkingWord (from : List ℕ) (s : StationSet) (g i : ℕ) (from' : List ℕ) (x : ℕ) : Type 0 where
  pub mine : (k : ℕ) → bit x k ≡ true → bit (get_or (words s) i 0) k ≡ true
  pub whole : length from' ≡ 256
  pub new : (y : ℕ) → y is_in members s → (y < i * 64) ⊎ ((y / 64 ≡ i) × (bit x (y % 64) ≡ false)) → at from' y ≡ g
  pub old : (y : ℕ) → y not_in members s → at from' y ≡ at from y

module _ {from : List ℕ} {s : StationSet} {g i : ℕ} {from' : List ℕ} where
  -- four words are all
  pub marking_all : 4 ≤ i → Marking from s g i from' → Marked from (members s) g from'
  marking_all l m = record { whole = m.whole; new = λ y h. m.new y h (omega (arith, l, has_small (words s) y refl h)); old = m.old }

  pub word_none : Marking from s g i from' → MarkingWord from s g i from' (get_or (words s) i 0)
  word_none m = record {
    mine = λ k e. e;
    whole = m.whole;
    new = λ y h c. ⊎_elim (m.new y h) (λ (q, e). never (members s y) h (has_at (words s) y i (y % 64) q refl ∙ e)) c;
    old = m.old;
  }

  module _ {x : ℕ} (m : MarkingWord from s g i from' x) where
    pub word_all : ((k : ℕ) → bit x k ≡ false) → Marking from s g (i + 1) from'
    word_all z = record {
      whole = m.whole;
      new = λ y h l. m.new y h (elim (ℕ_discrete (y / 64) i) [ yes q ↦ inr (q, z (y % 64)) | no ne ↦ inl (omega arith) ]);
      old = m.old;
    }

    -- the lowest bit of x
    module _ (few : i < 4) (low x' : ℕ) (t : BitTaken x low x') where
      here : (i * 64 + low) is_in members s
      here = has_at (words s) (i * 64 + low) i low (omega (arith, t.small)) (omega (arith, t.small)) ∙ m.mine low t.mine

      -- a bit that is past now was past before, or is this one
      past : (k : ℕ) → bit x' k ≡ false → (bit x k ≡ false) ⊎ (k ≡ low)
      past k e = elim (ℕ_discrete k low) [
        | yes q ↦ inr q
        | no ne ↦ inl (sym (and_whole (bit x k)) ∙ ap (λ (b : Bool). bit x k && not b) (sym (ne_eqb k low ne)) ∙ sym (t.rest k) ∙ e)
      ]

      pub word_more : MarkingWord from s g i (set from' (i * 64 + low) g) x'
      word_more = record {
        mine = λ k e. m.mine k (and_left (bit x k) (not (eqb k low)) (sym (t.rest k) ∙ e));
        whole = length-set from' (i * 64 + low) g ∙ m.whole;
        new = λ y h c. elim (ℕ_discrete y (i * 64 + low)) [
          | yes q ↦ ap (at (set from' (i * 64 + low) g)) q ∙ get_or-set_same from' (i * 64 + low) g 0 (omega (arith, m.whole, t.small))
          | no ne ↦ get_or-set_other from' (i * 64 + low) y g 0 ne
              ∙ m.new y h (⊎_elim inl (λ (q, b). ⊎_elim (λ o. inr (q, o)) (λ u. absurd (ne (omega (arith, q, u)))) (past (y % 64) b)) c)
        ];
        old = λ y o. get_or-set_other from' (i * 64 + low) y g 0 (λ q. never (members s y) (ap (members s) q ∙ here) o) ∙ m.old y o;
      }
