-- The laws of fields: a number that is put at a place stands there, and what lies below the place stays as it was.
use mathlib.Core.List.{List, ◌++◌}
use mathlib.Core.Path.{◌≡◌, refl, sym, ap, ap₂, ◌∙◌, subst}
use Prim.Native.Nat.{ℕ, ◌+◌, ◌*◌, ◌^◌, ◌<◌, ◌≤◌}
use native.Mathlib.Decide.{dec_lt}
use native.Mathlib.Omega.{arith}
use lib.ListN.{length, get_or, get_or-append, get_or-eq_default}
use borrow.Author.Rules.{rules}
use borrow.Rule.Slice.PartMut.{put_mid}
use Rattle.std.specs.Int.{w16, w32, to_le_bytes}
use Rattle.std.proofs.Common.{add-zero}
use Rattle.std.proofs.lemmas.Slice.{overwrites}
use Rattle.std.proofs.lemmas.List.{places}
use Rattle.records.specs.Bytes.{short, long, Octets, Kept}

-- ---- what is kept
pub kept_self : (at : ℕ) (bs : List ℕ) → Kept at bs bs
kept_self at bs = record { whole = refl; same = λ i l. refl }

pub kept_trans : {at at' : ℕ} {bs bs' bs'' : List ℕ} → Kept at bs bs' → Kept at' bs' bs'' → at ≤ at' → Kept at bs bs''
kept_trans K L h = record { whole = L.whole ∙ K.whole; same = λ i l. L.same i (omega arith) ∙ K.same i l }

pub kept_less : {at at' : ℕ} {bs bs' : List ℕ} → Kept at' bs bs' → at ≤ at' → Kept at bs bs'
kept_less K h = record { whole = K.whole; same = λ i l. K.same i (omega arith) }

pub short_kept : {at : ℕ} {bs bs' : List ℕ} (i : ℕ) → Kept at bs bs' → i + 2 ≤ at → short bs' i ≡ short bs i
unfolding short
short_kept i K h = ap₂ (λ (x y : ℕ). x + y * 256) (K.same i (omega arith)) (K.same (i + 1) (omega arith))

pub long_kept : {at : ℕ} {bs bs' : List ℕ} (i : ℕ) → Kept at bs bs' → i + 4 ≤ at → long bs' i ≡ long bs i
unfolding long
long_kept i K h = ap₂ (λ (x y : ℕ). x + y * 65536) (short_kept i K (omega arith)) (short_kept (i + 2) K (omega arith))

-- ---- what is put: the bytes xs copied to a place
module _ (bs xs : List ℕ) (at k : ℕ) (room : at + k ≤ length bs) (all : length xs ≡ k) where
  pub copied_kept : Kept at bs (put_mid at k bs xs)
  copied_kept = record { whole = search (rules, overwrites); same = λ i l. search (rules, places) }

  pub copied_at : (i : ℕ) → i < k → get_or (put_mid at k bs xs) (at + i) 0 ≡ get_or xs i 0
  copied_at i l = search (rules, places)

  pub copied_short : (x : ℕ) → k ≡ 2 → x < 2 ^ 16 → xs ≡ to_le_bytes w16 x → short (put_mid at k bs xs) at ≡ x
  unfolding short
  copied_short x two h e =
      ap₂ (λ (p q : ℕ). p + q * 256) (rw add-zero at (copied_at 0 (omega arith)) ∙ ap (λ (ys : List ℕ). get_or ys 0 0) e)
      (copied_at 1 (omega arith) ∙ ap (λ (ys : List ℕ). get_or ys 1 0) e)
      ∙ omega arith

  pub copied_long : (x : ℕ) → k ≡ 4 → x < 2 ^ 32 → xs ≡ to_le_bytes w32 x → long (put_mid at k bs xs) at ≡ x
  unfolding short long
  copied_long x four h e =
      ap₂ (λ (p q : ℕ). p + q * 65536)
      (ap₂ (λ (p q : ℕ). p + q * 256) (rw add-zero at (copied_at 0 (omega arith)) ∙ ap (λ (ys : List ℕ). get_or ys 0 0) e)
      (copied_at 1 (omega arith) ∙ ap (λ (ys : List ℕ). get_or ys 1 0) e))
      (ap₂ (λ (p q : ℕ). p + q * 256) (copied_at 2 (omega arith) ∙ ap (λ (ys : List ℕ). get_or ys 2 0) e)
      (ap (λ (i : ℕ). get_or (put_mid at k bs xs) i 0) (omega arith) ∙ copied_at 3 (omega arith) ∙ ap (λ (ys : List ℕ). get_or ys 3 0) e))
      ∙ omega arith

-- ---- numbers and bytes
pub short_small : (bs : List ℕ) (i : ℕ) → Octets bs → short bs i < 65536
unfolding short
short_small bs i o = omega (arith, o i, o (i + 1))

pub short_bytes : (bs bs' : List ℕ) (i : ℕ) → Octets bs → Octets bs' → short bs i ≡ short bs' i → (get_or bs i 0 ≡ get_or bs' i 0) × (get_or bs (i + 1) 0 ≡ get_or bs' (i + 1) 0)
unfolding short
short_bytes bs bs' i o o' e = (omega (arith, o i, o (i + 1), o' i, o' (i + 1)), omega (arith, o i, o (i + 1), o' i, o' (i + 1)))

pub long_shorts : (bs bs' : List ℕ) (i : ℕ) → Octets bs → Octets bs' → long bs i ≡ long bs' i → (short bs i ≡ short bs' i) × (short bs (i + 2) ≡ short bs' (i + 2))
unfolding long
long_shorts bs bs' i o o' e =
    let p = short_small bs i o in
    let p' = short_small bs' i o' in
    let q = short_small bs (i + 2) o in
    let q' = short_small bs' (i + 2) o' in
    (omega (arith, p, p', q, q'), omega (arith, p, p', q, q'))

-- ---- the front of a list whose elements are all below a bound
pub front_below : (k : ℕ) → 0 < k → (xs ys : List ℕ) → ((i : ℕ) → get_or (xs ++ ys) i 0 < k) → (i : ℕ) → get_or xs i 0 < k
front_below k h xs ys b i = go (dec_lt i (length xs))
  where
    go : Dec (i < length xs) → get_or xs i 0 < k
    go (yes l) = subst (λ (x : ℕ). x < k) (get_or-append xs ys 0 i l) (b i)
    go (no l) = subst (λ (x : ℕ). x < k) (sym (get_or-eq_default xs 0 {n = i} (omega arith))) h
