-- The order question has one reply: two references that it allows point to the same place and have the same words.
use mathlib.Core.List.{List}
use mathlib.Core.Logic.{◌⊎◌, inl, inr}
use mathlib.Core.Path.{◌≡◌, sym, ap, ◌∙◌, subst}
use Prim.Native.Nat.{ℕ}
use native.Mathlib.Decide.{ℕ_discrete}
use denote.Ref.{Bor}
use lib.ListN.{length}
use Rattle.stations.specs.Sets.{Set, Before}
use Rattle.stations.specs.Words.{has}
use Rattle.stations.specs.Answers.{FirstRow}
use Rattle.stations.proofs.Laws.{has_small}
use Rattle.stations.proofs.Order.{before_total, before_not_after, before_not_self}

pub order_only_one : (x y r r' : Bor (List ℕ)) → FirstRow x y r → FirstRow x y r' → (r.ref_ptr ≡ r'.ref_ptr) × (r.now ≡ r'.now)
order_only_one x y r r' p q = go (ℕ_discrete (length x.now) 4) (ℕ_discrete (length y.now) 4)
  where
    same : (z : Bor (List ℕ)) → r ≡ z → r' ≡ z → (r.ref_ptr ≡ r'.ref_ptr) × (r.now ≡ r'.now)
    same z e f = (ap (λ x. x.ref_ptr) (e ∙ sym f), ap (λ x. x.now) (e ∙ sym f))

    short : (length x.now ≡ 4 → length y.now ≡ 4 → ⊥) → (r.ref_ptr ≡ r'.ref_ptr) × (r.now ≡ r'.now)
    short h = let (a, b) = p.short h in let (c, d) = q.short h in (b ∙ sym d, a ∙ sym c)

    go : Dec (length x.now ≡ 4) → Dec (length y.now ≡ 4) → (r.ref_ptr ≡ r'.ref_ptr) × (r.now ≡ r'.now)
    go (no h) d = short (λ a b. h a)
    go (yes e) (no h) = short (λ a b. h b)
    go (yes e) (yes f) = by (before_total 256 (has x.now) (has y.now) (λ j. has_small x.now j e) (λ j. has_small y.now j f))
      where
        first : (Before (has y.now) (has x.now) → ⊥) → (r.ref_ptr ≡ r'.ref_ptr) × (r.now ≡ r'.now)
        first h = same x (p.first e f h) (q.first e f h)

        by : (has x.now ≡ has y.now) ⊎ (Before (has x.now) (has y.now) ⊎ Before (has y.now) (has x.now)) → (r.ref_ptr ≡ r'.ref_ptr) × (r.now ≡ r'.now)
        by (inl g) = first (λ b. before_not_self (has x.now) (subst (λ (s : Set). Before s (has x.now)) (sym g) b))
        by (inr (inl g)) = first (before_not_after (has x.now) (has y.now) g)
        by (inr (inr g)) = same y (p.second e f g) (q.second e f g)
