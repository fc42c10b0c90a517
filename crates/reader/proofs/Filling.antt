-- The second pass: serial by serial and link by link the buffers fill, and at the end they hold the survey that the bytes are.
-- A table is accepted because each link was put in both rows, and because each record joins two different stations below n.
use mathlib.Core.Bool.{true, false, ◌&&◌}
use mathlib.Core.List.{List}
use mathlib.Core.Logic.{◌⊎◌, inl, inr}
use mathlib.Core.Path.{◌≡◌, refl, sym, ◌∙◌, subst}
use Prim.Native.Nat.{ℕ, ◌+◌, ◌*◌, ◌<◌}
use native.Mathlib.Decide.{dec_lt, ℕ_discrete}
use native.Mathlib.Omega.{arith}
use lib.Dec.{eqb}
use lib.ListN.{length, get_or, replicate, get_or-eq_default}
use Rattle.std.proofs.lemmas.List.{get_or-replicate, length-replicate}
use borrow.Author.Tests.{eq-eqb, eqb-true}
use Rattle.stations.proofs.Bools.{test, never, and_left, and_right, and_in, or_cases, or_left, or_right}
use Rattle.mesh.specs.Table.{linked, Table}
use Rattle.records.specs.Bytes.{Words}
use Rattle.records.specs.Survey.{low, high, Survey}
use Rattle.reader.specs.Steps.{Accepted, SerialsFilled, LinkPut, Joins, Filled}
use Rattle.reader.proofs.Put.{no_link}

-- ---- the table
pub filled_none : (bs t : List ℕ) (n : ℕ) → length t ≡ n * 4 → ((i : ℕ) → get_or t i 0 ≡ 0) → Filled bs n 0 t
filled_none bs t n e z = record { whole = e; each = λ k x y l. absurd (omega arith); only = λ x y h. never (linked t x y) h (no_link t z x y) }

-- the table t'' is t with b in the row of a and a in the row of b
module _ {bs t t' t'' : List ℕ} {n j : ℕ} (F : Filled bs n j t) (a b : ℕ) (p : a ≡ low 4 n bs j) (q : b ≡ high 4 n bs j)
    (L : LinkPut t a b t') (M : LinkPut t' b a t'') where
  is : (x y u v : ℕ) → x ≡ u → y ≡ v → (eqb x u && eqb y v) ≡ true
  is x y u v e f = and_in (eqb x u) (eqb y v) (eq-eqb x u e) (eq-eqb y v f)

  was : (x y u v : ℕ) → (eqb x u && eqb y v) ≡ true → (x ≡ u) × (y ≡ v)
  was x y u v e = (eqb-true x u (and_left (eqb x u) (eqb y v) e), eqb-true y v (and_right (eqb x u) (eqb y v) e))

  old : (x y : ℕ) → linked t x y ≡ true → linked t'' x y ≡ true
  old x y e = M.law x y ∙ or_left (linked t' x y) (eqb x b && eqb y a) (L.law x y ∙ or_left (linked t x y) (eqb x a && eqb y b) e)

  new : (x y : ℕ) → Joins bs n j x y → linked t'' x y ≡ true
  new x y (inl (e, f)) =
      M.law x y ∙ or_left (linked t' x y) (eqb x b && eqb y a) (L.law x y ∙ or_right (linked t x y) (eqb x a && eqb y b) (is x y a b (sym e ∙ sym p) (sym f ∙ sym q)))
  new x y (inr (e, f)) = M.law x y ∙ or_right (linked t' x y) (eqb x b && eqb y a) (is x y b a (sym f ∙ sym q) (sym e ∙ sym p))

  pub filled_more : Filled bs n (j + 1) t''
  filled_more = record { whole = M.whole ∙ L.whole ∙ F.whole; each = λ k x y l. each_at k x y l (ℕ_discrete k j); only = λ x y h. from x y (or_cases (linked t' x y) (eqb x b && eqb y a) (sym (M.law x y) ∙ h)) }
    where
      each_at : (k x y : ℕ) → k < j + 1 → Dec (k ≡ j) → Joins bs n k x y → linked t'' x y ≡ true
      each_at k x y l (yes e) J = new x y (subst (λ (i : ℕ). Joins bs n i x y) e J)
      each_at k x y l (no d) J = old x y (F.each k x y (omega arith) J)

      first : (x y : ℕ) → (linked t x y ≡ true) ⊎ ((eqb x a && eqb y b) ≡ true) → (k : ℕ) × (k < j + 1) × Joins bs n k x y
      first x y (inl e) = let (k, l, J) = F.only x y e in (k, omega arith, J)
      first x y (inr e) = let (u, v) = was x y a b e in (j, omega arith, inl (sym p ∙ sym u, sym q ∙ sym v))

      from : (x y : ℕ) → (linked t' x y ≡ true) ⊎ ((eqb x b && eqb y a) ≡ true) → (k : ℕ) × (k < j + 1) × Joins bs n k x y
      from x y (inl e) = first x y (or_cases (linked t x y) (eqb x a && eqb y b) (sym (L.law x y) ∙ e))
      from x y (inr e) = let (u, v) = was x y b a e in (j, omega arith, inr (sym p ∙ sym v, sym q ∙ sym u))

-- ---- the survey
module _ {bs : List ℕ} {n m : ℕ} (A : Accepted bs n m) {t : List ℕ} (F : Filled bs n m t) where
  turned : (k x y : ℕ) → Joins bs n k x y → Joins bs n k y x
  turned k x y (inl h) = inr h
  turned k x y (inr h) = inl h

  joined_apart : (k x : ℕ) → k < m → Joins bs n k x x → ⊥
  joined_apart k x l (inl (e, f)) = omega (arith, A.pairs_right.apart k l)
  joined_apart k x l (inr (e, f)) = omega (arith, A.pairs_right.apart k l)

  joined_below : (k x y : ℕ) → k < m → Joins bs n k x y → y < n
  joined_below k x y l (inl (e, f)) = omega (arith, A.pairs_right.below k l)
  joined_below k x y l (inr (e, f)) = omega (arith, A.pairs_right.apart k l, A.pairs_right.below k l)

  table_accepted : Table n t
  table_accepted = record {
    few = A.few;
    long = F.whole;
    apart = λ a. alone a (test (linked t a a));
    both = λ a b h. let (k, l, J) = F.only a b h in F.each k b a l (turned k a b J);
    below = λ a b h. let (k, l, J) = F.only a b h in joined_below k a b l J;
  }
    where
      alone : (a : ℕ) → (linked t a a ≡ true) ⊎ (linked t a a ≡ false) → linked t a a ≡ false
      alone a (inl h) = let (k, l, J) = F.only a a h in absurd (joined_apart k a l J)
      alone a (inr h) = h

  upward : (a b k : ℕ) → a < b → k < m → Joins bs n k a b → (low 4 n bs k ≡ a) × (high 4 n bs k ≡ b)
  upward a b k h l (inl J) = J
  upward a b k h l (inr (e, f)) = absurd (omega (arith, A.pairs_right.apart k l))

  pub survey_filled : {s s' : List ℕ} → length s ≡ n → SerialsFilled bs n s s' → Words t → Survey 1 n m s' t bs
  survey_filled long S w = record {
    one = refl;
    frame = A.frame;
    all_serials = S.whole ∙ long;
    serial_is = λ i l. sym (S.each i l);
    serials_right = A.serials_right;
    pairs_right = A.pairs_right;
    accepted = table_accepted;
    words = w;
    record_linked = λ j l. F.each j (low 4 n bs j) (high 4 n bs j) l (inl (refl, refl));
    linked_record = λ a b h e. let (k, l, J) = F.only a b e in let (u, v) = upward a b k h l J in (k, l, u, v);
  }

-- ---- zeros
pub zeros : (n : ℕ) {t : List ℕ} → t ≡ replicate n 0 → (k : ℕ) → ◌≡◌ {A = ℕ} (get_or t k 0) 0
zeros n e k = rw e (go (dec_lt k n))
  where
    go : Dec (k < n) → ◌≡◌ {A = ℕ} (get_or (replicate n 0) k 0) 0
    go (yes l) = get_or-replicate n k 0 0 l
    go (no l) = get_or-eq_default (replicate n 0) 0 {n = k} (omega (arith, length-replicate {A = ℕ} n 0))
