-- The program reads up to 33,802 bytes. A longer survey is refused by 11 at the latest (no_further), and what is read of it has the same page (cut_same).
use mathlib.Core.List.{List}
use mathlib.Core.Logic.{◌⊎◌, inl, inr}
use mathlib.Core.Path.{◌≡◌, sym, ◌∙◌, ap, ap₂, subst}
use Prim.Native.Nat.{ℕ, ◌+◌, ◌*◌, ◌<◌, ◌≤◌}
use native.Mathlib.Decide.{dec_lt, dec_le}
use native.Mathlib.Omega.{arith}
use lib.ListN.{length, get_or, take}
use lib.Seq.{take_all, get_or-take, length-take-le}
use Rattle.card.specs.Card.{FirstFailing}
use Rattle.card.proofs.Card.{first_one}
use Rattle.records.specs.Bytes.{short}
use Rattle.records.specs.Survey.{Mark, version, stations, records}
use Rattle.lines.specs.Lines.{refused_line}
use Rattle.page.specs.Page.{survey_order, Page, refused, listed}
use Rattle.page.proofs.OnlyOne.{page_one}

-- no counts that are taken give so many bytes
too_long : (bs : List ℕ) → 33801 < length bs → ¬ ((256 < stations bs) ⊎ (8192 < records bs)) → ¬ (length bs ≡ 9 + stations bs * 4 + records bs * 4)
too_long bs l c e = go (dec_lt 256 (stations bs)) (dec_lt 8192 (records bs))
  where
    go : Dec (256 < stations bs) → Dec (8192 < records bs) → ⊥
    go (yes h) d = c (inl h)
    go (no h) (yes m) = c (inr m)
    go (no h) (no m) = omega arith

pub no_further : (bs : List ℕ) (r : ℕ) → 33801 < length bs → FirstFailing (survey_order bs) r → (8 ≤ r) × (r ≤ 11)
no_further bs r l (inl (f, e)) = (omega arith, omega arith)
no_further bs r l (inr (a, inl (f, e))) = (omega arith, omega arith)
no_further bs r l (inr (a, inr (b, inl (f, e)))) = (omega arith, omega arith)
no_further bs r l (inr (a, inr (b, inr (c, inl (f, e))))) = (omega arith, omega arith)
no_further bs r l (inr (a, inr (b, inr (c, inr (d, f))))) = absurd (d (too_long bs l c))

module _ (cut bs : List ℕ) (same : (i : ℕ) → i < 9 → get_or cut i 0 ≡ get_or bs i 0) (long : 33801 < length cut) (long' : 33801 < length bs) where
  short_same : (i : ℕ) → i + 1 < 9 → short cut i ≡ short bs i
  unfolding short
  short_same i h = ap₂ (λ (a b : ℕ). a + b * 256) (same i (omega arith)) (same (i + 1) h)

  mark_to : Mark bs → Mark cut
  mark_to (a, b, c) = (same 0 (omega arith) ∙ a, same 1 (omega arith) ∙ b, same 2 (omega arith) ∙ c)

  mark_from : Mark cut → Mark bs
  mark_from (a, b, c) = (sym (same 0 (omega arith)) ∙ a, sym (same 1 (omega arith)) ∙ b, sym (same 2 (omega arith)) ∙ c)

  marked : ¬ ((length cut < 9) ⊎ (¬ Mark cut)) → ¬ ((length bs < 9) ⊎ (¬ Mark bs))
  marked f (inl h) = omega arith
  marked f (inr h) = f (inr (λ m. h (mark_from m)))

  v : version cut ≡ version bs
  v = short_same 3 (omega arith)

  n : stations cut ≡ stations bs
  n = short_same 5 (omega arith)

  m : records cut ≡ records bs
  m = short_same 7 (omega arith)

  counts : (256 < stations cut) ⊎ (8192 < records cut) → (256 < stations bs) ⊎ (8192 < records bs)
  counts (inl h) = inl (omega (arith, n))
  counts (inr h) = inr (omega (arith, m))

  counts_back : (256 < stations bs) ⊎ (8192 < records bs) → (256 < stations cut) ⊎ (8192 < records cut)
  counts_back (inl h) = inl (omega (arith, n))
  counts_back (inr h) = inr (omega (arith, m))

  -- the first nine bytes decide
  first_same : (r : ℕ) → FirstFailing (survey_order cut) r → FirstFailing (survey_order bs) r
  first_same r (inl (inl h, e)) = absurd (omega arith)
  first_same r (inl (inr h, e)) = inl (inr (λ k. h (mark_to k)), e)
  first_same r (inr (a, inl (f, e))) = inr (marked a, inl (λ k. f (v ∙ k), e))
  first_same r (inr (a, inr (b, inl (f, e)))) = inr (marked a, inr (λ k. b (λ q. k (sym v ∙ q)), inl (counts f, e)))
  first_same r (inr (a, inr (b, inr (c, inl (f, e))))) =
      inr (marked a, inr (λ k. b (λ q. k (sym v ∙ q)), inr (λ k. c (counts_back k), inl (too_long bs long' (λ k. c (counts_back k)), e))))
  first_same r (inr (a, inr (b, inr (c, inr (d, f))))) = absurd (d (too_long cut long c))

  long_pages : (x y : List ℕ) → Page cut x → Page bs y → x ≡ y
  long_pages x y (refused r f l) (refused r' g k) = ap refused_line (first_one (survey_order bs) r r' (first_same r f) g)
  long_pages x y (listed f Y p d) q = absurd (omega (arith, (no_further cut 0 long f).0))
  long_pages x y (refused r f l) (listed g Y p d) = absurd (omega (arith, (no_further bs 0 long' g).0))

pub cut_same : (bs x y : List ℕ) → Page (take 33802 bs) x → Page bs y → x ≡ y
cut_same bs x y p q = go (dec_le (length bs) 33802)
  where
    go : Dec (length bs ≤ 33802) → x ≡ y
    go (yes h) = page_one bs x y (subst (λ (z : List ℕ). Page z x) (take_all 33802 bs h) p) q
    go (no h) = long_pages (take 33802 bs) bs (λ i l. get_or-take 33802 bs i 0 (omega arith)) (omega (arith, length-take-le 33802 bs (omega arith))) (omega arith) x y p q
