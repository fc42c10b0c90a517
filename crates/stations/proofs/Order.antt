-- The order of sets is strict, and total but for equal sets: of two sets below n, one comes before the other, or they are the same.
use mathlib.Core.Bool.{true, false}
use mathlib.Core.Logic.{◌⊎◌, inl, inr}
use mathlib.Core.Path.{◌≡◌, sym, ap, ◌∙◌, subst}
use Prim.Native.Nat.{ℕ, zero, suc, ◌<◌}
use native.Mathlib.Decide.{dec_lt, ℕ_discrete}
use native.Mathlib.Omega.{arith}
use Rattle.stations.specs.Sets.{Set, Below, Before}
use Rattle.stations.proofs.Bools.{test, never}
use Rattle.stations.proofs.Members.{same_set}

pub before_not_after : (s t : Set) → Before s t → Before t s → ⊥
before_not_after s t p q = go (dec_lt p.at q.at) (dec_lt q.at p.at)
  where
    go : Dec (p.at < q.at) → Dec (q.at < p.at) → ⊥
    go (yes l) _ = never (t p.at) (q.alike p.at l ∙ p.mine) p.theirs
    go (no l) (yes m) = never (s q.at) (p.alike q.at m ∙ q.mine) q.theirs
    go (no l) (no m) = let e : p.at ≡ q.at = omega arith in never (s q.at) (ap s (sym e) ∙ p.mine) q.theirs

pub before_not_self : (s : Set) → Before s s → ⊥
before_not_self s b = never (s b.at) b.mine b.theirs

pub before_trans : (s t u : Set) → Before s t → Before t u → Before s u
before_trans s t u p q = go (dec_lt p.at q.at) (dec_lt q.at p.at)
  where
    go : Dec (p.at < q.at) → Dec (q.at < p.at) → Before s u
    go (yes l) _ = record {
      at = p.at;
      mine = p.mine;
      theirs = sym (q.alike p.at l) ∙ p.theirs;
      alike = λ x h. p.alike x h ∙ q.alike x (omega arith);
    }
    go (no _) (yes l) = record {
      at = q.at;
      mine = p.alike q.at l ∙ q.mine;
      theirs = q.theirs;
      alike = λ x h. p.alike x (omega arith) ∙ q.alike x h;
    }
    go (no l) (no m) = let e : p.at ≡ q.at = omega arith in never (t q.at) q.mine (ap t (sym e) ∙ p.theirs)

-- below n the two are alike, or one comes before the other
pub compared : (s t : Set) (n : ℕ) → (Before s t ⊎ Before t s) ⊎ ((x : ℕ) → x < n → s x ≡ t x)
compared s t zero = inr (λ x h. absurd (omega arith))
compared s t (suc n) = go (compared s t n)
  where
    go : (Before s t ⊎ Before t s) ⊎ ((x : ℕ) → x < n → s x ≡ t x) → (Before s t ⊎ Before t s) ⊎ ((x : ℕ) → x < suc n → s x ≡ t x)
    go (inl b) = inl b
    go (inr e) = at (test (s n)) (test (t n))
      where
        same : s n ≡ t n → (x : ℕ) → x < suc n → s x ≡ t x
        same f x h = pick (ℕ_discrete x n)
          where
            pick : Dec (x ≡ n) → s x ≡ t x
            pick (yes q) = ap s q ∙ f ∙ ap t (sym q)
            pick (no q) = e x (omega arith)

        at : (s n ≡ true) ⊎ (s n ≡ false) → (t n ≡ true) ⊎ (t n ≡ false) → (Before s t ⊎ Before t s) ⊎ ((x : ℕ) → x < suc n → s x ≡ t x)
        at (inl p) (inl q) = inr (same (p ∙ sym q))
        at (inl p) (inr q) = inl (inl (record { at = n; mine = p; theirs = q; alike = e }))
        at (inr p) (inl q) = inl (inr (record { at = n; mine = q; theirs = p; alike = λ x h. sym (e x h) }))
        at (inr p) (inr q) = inr (same (p ∙ sym q))

pub before_total : (n : ℕ) (s t : Set) → Below n s → Below n t → (s ≡ t) ⊎ (Before s t ⊎ Before t s)
before_total n s t b c = go (compared s t n)
  where
    go : (Before s t ⊎ Before t s) ⊎ ((x : ℕ) → x < n → s x ≡ t x) → (s ≡ t) ⊎ (Before s t ⊎ Before t s)
    go (inl d) = inr d
    go (inr e) = inl (same_set s t (λ x h. sym (e x (b x h)) ∙ h) (λ x h. e x (c x h) ∙ h))

-- s before t, and u not before t: s before u
pub before_lift : (n : ℕ) (s t u : Set) → Below n t → Below n u → Before s t → (Before u t → ⊥) → Before s u
before_lift n s t u b c p f = go (before_total n t u b c)
  where
    go : (t ≡ u) ⊎ (Before t u ⊎ Before u t) → Before s u
    go (inl e) = subst (λ (z : Set). Before s z) e p
    go (inr (inl l)) = before_trans s t u p l
    go (inr (inr l)) = absurd (f l)
