-- The test of a table, row by row: no row has a fault exactly when the table has none, and a table of n * 4 words without a fault is accepted.
use mathlib.Core.Bool.{Bool, true, false, not, ◌&&◌, Bool-discrete}
use mathlib.Core.List.{List, [], ◌∷◌}
use mathlib.Core.Logic.{◌⊎◌, inl, inr}
use mathlib.Core.Path.{◌≡◌, refl, sym, ap, subst, ◌∙◌}
use Prim.Native.Nat.{ℕ, ◌+◌, ◌-◌, ◌*◌, ◌/◌, ◌%◌, ◌^◌, ◌<◌, ◌≤◌}
use native.Mathlib.Decide.{dec_lt, ℕ_discrete}
use native.Mathlib.Omega.{arith}
use lib.Bits.{bit_and}
use lib.Dec.{ltb, eqb}
use lib.ListN.{length, get_or, get_or-eq_default}
use borrow.Author.Tests.{eq-eqb, ne_eqb, ltb-false, lt-ltb, le-ltb}
use Rattle.stations.specs.Sets.{Set, ◌is_in◌}
use Rattle.stations.specs.Answers.{BitTaken}
use Rattle.stations.specs.Words.{bit, has, row}
use Rattle.stations.proofs.Bools.{test, never, not_true, not_so, and_left, and_right, and_whole}
use Rattle.stations.proofs.Counting.{any_below}
use Rattle.stations.proofs.Bit.{bit_test, bit_mask, bit-and, bit-none}
use Rattle.stations.proofs.Laws.{row_word, has_at, has_small, has_beyond}
use Rattle.mesh.specs.Table.{linked, Table, Fault, self_link, one_sided, from_n_up}
use Rattle.card.specs.Tests.{MirroredRow, RowFault}
use Rattle.card.specs.Card.{Says, FirstFailing, SET}
use Rattle.mesh.specs.Mesh.{Mesh}

-- ---- the code's reading of one bit of a word
pub bit_there : (w k : ℕ) → bit_and (w / 2 ^ k) 1 ≡ 1 → bit w k ≡ true
bit_there w k e = sym (bit_test w k) ∙ eq-eqb (bit_and (w / 2 ^ k) 1) 1 e

pub bit_missing : (w k : ℕ) → (bit_and (w / 2 ^ k) 1 ≡ 1 → ⊥) → bit w k ≡ false
bit_missing w k e = sym (bit_test w k) ∙ ne_eqb (bit_and (w / 2 ^ k) 1) 1 e

-- ---- the walk over the stations of row i: those past have i in their rows, and `left` are still to come
-- the stations of the row in the words before word q
pub record Mirroring (t : List ℕ) (i : ℕ) (row : Set) (q : ℕ) : Type 0 where
  pub past : (j : ℕ) → j < q * 64 → j is_in row → linked t j i ≡ true

-- and those of word q, where w has the bits that are still to come: of those past all have i in their rows, or one of them has not
pub record Looking (t : List ℕ) (i q word w : ℕ) (all : Bool) : Type 0 where
  pub mine : (k : ℕ) → bit w k ≡ true → bit word k ≡ true
  pub seen : all ≡ true → (k : ℕ) → bit word k ≡ true → bit w k ≡ false → linked t (q * 64 + k) i ≡ true
  pub other : all ≡ false → (k : ℕ) × (k < 64) × (bit word k ≡ true) × (linked t (q * 64 + k) i ≡ false)

pub mirroring_none : (t : List ℕ) (i : ℕ) (row : Set) → Mirroring t i row 0
mirroring_none t i row = record { past = λ j l m. absurd (omega arith) }

-- no bit of the word is looked at
pub looking_none : (t : List ℕ) (i q word : ℕ) → Looking t i q word word (bit (2 ^ 64 - 1) (i % 64))
looking_none t i q word = record {
  mine = λ k e. e;
  seen = λ _ k e f. never (bit word k) e f;
  other = λ e. never (bit (2 ^ 64 - 1) (i % 64)) (bit_mask 64 (i % 64) ∙ lt-ltb (i % 64) 64 (omega arith)) e;
}

module _ {t : List ℕ} {i q k word w w' : ℕ} (p : BitTaken w k w') where
  with_one : {all : Bool} → Looking t i q word w all → Looking t i q word w' (all && linked t (q * 64 + k) i)
  with_one {all} g = record {
    mine = λ x m. g.mine x (and_left (bit w x) (not (eqb x k)) (sym (p.rest x) ∙ m));
    seen = λ o x m f. go o x m f (ℕ_discrete x k);
    other = λ o. one all o g.other;
  }
    where
      go : (all && linked t (q * 64 + k) i) ≡ true → (x : ℕ) → bit word x ≡ true → bit w' x ≡ false → Dec (x ≡ k) → linked t (q * 64 + x) i ≡ true
      go o x m f (yes d) = rw d (and_right all (linked t (q * 64 + k) i) o)
      go o x m f (no d) = g.seen (and_left all (linked t (q * 64 + k) i) o) x m
          (sym (and_whole (bit w x)) ∙ ap (λ (b : Bool). bit w x && not b) (sym (ne_eqb x k d)) ∙ sym (p.rest x) ∙ f)

      one : (a : Bool) → (a && linked t (q * 64 + k) i) ≡ false
          → (a ≡ false → (k : ℕ) × (k < 64) × (bit word k ≡ true) × (linked t (q * 64 + k) i ≡ false))
          → (k : ℕ) × (k < 64) × (bit word k ≡ true) × (linked t (q * 64 + k) i ≡ false)
      one true o h = (k, p.small, g.mine k p.mine, o)
      one false o h = h refl

  pub looking_more : (seen : ℕ) → i < 256 → Looking t i q word w (bit seen (i % 64))
      → Looking t i q word w' (bit (bit_and seen (get_or t ((q * 64 + k) * 4 + i / 64) 0)) (i % 64))
  looking_more seen h g =
      let x : ℕ = get_or t ((q * 64 + k) * 4 + i / 64) 0 in
      let e : bit (bit_and seen x) (i % 64) ≡ (bit seen (i % 64) && linked t (q * 64 + k) i)
      = bit-and seen x (i % 64) ∙ ap (λ (b : Bool). bit seen (i % 64) && b) (sym (row_word t (q * 64 + k) i h)) in
      subst (Looking t i q word w') (sym e) (with_one g)

-- a bit of word q is a station of the row
pub word_station : (ws : List ℕ) (q k : ℕ) → k < 64 → has ws (q * 64 + k) ≡ bit (get_or ws q 0) k
word_station ws q k l = has_at ws (q * 64 + k) q k (omega arith) (omega arith)

pub mirroring_word : {t : List ℕ} {i q word w : ℕ} {all : Bool} (ws : List ℕ) → word ≡ get_or ws q 0 → Mirroring t i (has ws) q
    → Looking t i q word w all → all ≡ true → ((k : ℕ) → bit w k ≡ false) → Mirroring t i (has ws) (q + 1)
mirroring_word {t} {i} {q} {word} {w} ws e g p o z = record { past = λ j l m. go j l m (dec_lt j (q * 64)) }
  where
    go : (j : ℕ) → j < (q + 1) * 64 → has ws j ≡ true → Dec (j < q * 64) → linked t j i ≡ true
    go j l m (yes h) = g.past j h m
    go j l m (no h) =
        let f : q * 64 + j % 64 ≡ j = omega arith in
        let b : bit word (j % 64) ≡ true = ap (λ (x : ℕ). bit x (j % 64)) e ∙ sym (word_station ws q (j % 64) (omega arith)) ∙ ap (has ws) f ∙ m in
        rw f at (p.seen o (j % 64) b (z (j % 64)))

pub mirrored_all : {t : List ℕ} {i : ℕ} (ws : List ℕ) (q : ℕ) → length ws ≡ 4 → 4 ≤ q → Mirroring t i (has ws) q → MirroredRow t i (has ws) true
mirrored_all ws q l h g = record { each = λ _ j m. g.past j (omega (arith, has_small ws j l m)) m; one = λ e. never true refl e }

pub mirrored_one : {t : List ℕ} {i q word w : ℕ} {all : Bool} (ws : List ℕ) → word ≡ get_or ws q 0 → Looking t i q word w all → all ≡ false
    → MirroredRow t i (has ws) false
mirrored_one {q = q} ws e p o = record {
  each = λ x. never false x refl;
  one = λ _. let (k, l, m, f) = p.other o in (q * 64 + k, word_station ws q k l ∙ ap (λ (x : ℕ). bit x k) (sym e) ∙ m, f);
}

-- ---- a row, and all rows
pub row_self : (n : ℕ) (t : List ℕ) (a : ℕ) → linked t a a ≡ true → Says (RowFault n t a) true
row_self n t a e = record { yes_so = λ _. inl e; not_so = λ f. never true refl f }

-- the row without the stations below n is not empty
pub row_high : (n : ℕ) (t : List ℕ) (a : ℕ) → (((x : ℕ) → (linked t a x && not (ltb x n)) ≡ false) → ⊥) → Says (RowFault n t a) true
row_high n t a h = record { yes_so = λ _. inr (go (any_below Q dec 256)); not_so = λ f. never true refl f }
  where
    Q : ℕ → Type 0
    Q x = (linked t a x && not (ltb x n)) ≡ true

    dec : (x : ℕ) → Dec (Q x)
    dec x = Bool-discrete (linked t a x && not (ltb x n)) true

    high : (x : ℕ) → Q x → (linked t a x ≡ true) × (n ≤ x)
    high x e = (and_left (linked t a x) (not (ltb x n)) e, ltb-false x n (not_true (ltb x n) (and_right (linked t a x) (not (ltb x n)) e)))

    go : Dec ((x : ℕ) × (x < 256) × Q x) → (b : ℕ) × (linked t a b ≡ true) × ((n ≤ b) ⊎ (linked t b a ≡ false))
    go (yes (x, l, e)) = (x, (high x e).0, inl (high x e).1)
    go (no o) = absurd (h (λ x. not_so (linked t a x && not (ltb x n)) (λ e. o (x, has_small (row t a) x refl (high x e).0, e))))

pub fault_of : (n : ℕ) (t : List ℕ) (a : ℕ) → a < n → RowFault n t a → Fault n t
fault_of n t a l (inl e) = self_link a l e
fault_of n t a l (inr (b, e, inl g)) = from_n_up a b l g e
fault_of n t a l (inr (b, e, inr o)) = go (dec_lt b n)
  where
    go : Dec (b < n) → Fault n t
    go (yes m) = one_sided a b l m e o
    go (no m) = from_n_up a b l (omega arith) e

pub no_fault : (n : ℕ) (t : List ℕ) → ((a : ℕ) → a < n → ¬ RowFault n t a) → ¬ Fault n t
no_fault n t h (self_link a l e) = h a l (inl e)
no_fault n t h (one_sided a b l m e o) = h a l (inr (b, e, inr o))
no_fault n t h (from_n_up a b l g e) = h a l (inr (b, e, inl g))

-- some row has a fault, or none of the n rows has
pub rows_told : (n : ℕ) (t : List ℕ) (r : Bool) → Says ((a : ℕ) × (a < n) × RowFault n t a) r → Says (Fault n t) r
rows_told n t r s = record {
  yes_so = λ e. let (a, l, f) = s.yes_so e in fault_of n t a l f;
  not_so = λ e. no_fault n t (λ a l f. s.not_so e (a, l, f));
}

-- ---- an accepted table
past_row : (n : ℕ) (t : List ℕ) (a b : ℕ) → length t ≡ n * 4 → n ≤ a → linked t a b ≡ false
past_row n t a b e l = go (dec_lt b 256)
  where
    go : Dec (b < 256) → linked t a b ≡ false
    go (yes h) = row_word t a b h ∙ ap (λ (x : ℕ). bit x (b % 64)) (get_or-eq_default t 0 {n = a * 4 + b / 64} (omega arith)) ∙ bit-none (b % 64)
    go (no h) = has_beyond (row t a) b refl (omega arith)

-- a table that passed the tests 2, 3 and 4 is an accepted table
pub accepted : (n : ℕ) (t : List ℕ) → n ≤ 256 → length t ≡ n * 4 → ¬ Fault n t → Table n t
accepted n t f e h = record { few = f; long = e; apart = λ a. self a (test (linked t a a)); both = λ a b l. back a b l (test (linked t b a)); below = below }
  where
    row_of : (a b : ℕ) → linked t a b ≡ true → a < n
    row_of a b l = go (dec_lt a n)
      where
        go : Dec (a < n) → a < n
        go (yes m) = m
        go (no m) = never (linked t a b) l (past_row n t a b e (omega arith))

    below : (a b : ℕ) → linked t a b ≡ true → b < n
    below a b l = go (dec_lt b n)
      where
        go : Dec (b < n) → b < n
        go (yes m) = m
        go (no m) = absurd (h (from_n_up a b (row_of a b l) (omega arith) l))

    self : (a : ℕ) → (linked t a a ≡ true) ⊎ (linked t a a ≡ false) → linked t a a ≡ false
    self a (inl l) = absurd (h (self_link a (row_of a a l) l))
    self a (inr o) = o

    back : (a b : ℕ) → linked t a b ≡ true → (linked t b a ≡ true) ⊎ (linked t b a ≡ false) → linked t b a ≡ true
    back a b l (inl m) = m
    back a b l (inr o) = absurd (h (one_sided a b (row_of a b l) (below a b l) l o))

-- and its links are a mesh
pub table_mesh : {n : ℕ} {t : List ℕ} → Table n t → Mesh (linked t)
table_mesh T = record { apart = T.apart; both = T.both }

-- ---- a lent set
module _ (n : ℕ) (s : List ℕ) (four_words : length s ≡ 4) where
  -- with n at 256 or more there is no bit from n up
  pub set_large : 256 ≤ n → FirstFailing (SET n s ∷ []) 0
  set_large l = inr (λ f. elim f [ inl o ↦ o four_words | inr (j, m, h) ↦ omega (arith, has_small s j four_words h) ], refl)

  -- the set without the stations below n is empty, or not
  pub set_low : ((x : ℕ) → (has s x && not (ltb x n)) ≡ false) → FirstFailing (SET n s ∷ []) 0
  set_low z = inr (λ f. elim f [ inl o ↦ o four_words | inr (j, m, h) ↦ never (has s j && not (ltb j n)) (rw (h, le-ltb j n m)) (z j) ], refl)

  pub set_high : (((x : ℕ) → (has s x && not (ltb x n)) ≡ false) → ⊥) → FirstFailing (SET n s ∷ []) 6
  set_high h = inl (inr (go (any_below Q dec 256)), refl)
    where
      Q : ℕ → Type 0
      Q x = (has s x && not (ltb x n)) ≡ true

      dec : (x : ℕ) → Dec (Q x)
      dec x = Bool-discrete (has s x && not (ltb x n)) true

      go : Dec ((x : ℕ) × (x < 256) × Q x) → (j : ℕ) × (n ≤ j) × (has s j ≡ true)
      go (yes (x, l, e)) = (x, ltb-false x n (not_true (ltb x n) (and_right (has s x) (not (ltb x n)) e)), and_left (has s x) (not (ltb x n)) e)
      go (no o) = absurd (h (λ x. not_so (has s x && not (ltb x n)) (λ e. o (x, has_small s x four_words (and_left (has s x) (not (ltb x n)) e), e))))
