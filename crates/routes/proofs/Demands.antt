-- DEMAND 2 of the routes question, of every reply that it allows: two different stations of an accepted table are always answered; without a link
-- they have a count, which is the greatest number of separate routes and the smallest number of other stations whose loss parts them.
use mathlib.Core.Bool.{true, false}
use mathlib.Core.List.{List, [], ◌∷◌}
use mathlib.Core.Logic.{◌≢◌, inl, inr, ◌↔◌}
use mathlib.Core.Path.{◌≡◌, refl, sym, ◌∙◌, ap, subst}
use Prim.Native.Nat.{ℕ, ◌<◌}
use native.Mathlib.Omega.{arith}
use Rattle.stations.specs.Sets.{stations}
use Rattle.stations.proofs.Bools.{never}
use Rattle.mesh.specs.Table.{linked, Table}
use Rattle.mesh.specs.Routes.{Most, Least}
use Rattle.linkage.proofs.Routes.{most_one, least_one}
use Rattle.std.proofs.Common.{Ok, Err}
use Rattle.card.specs.Card.{number_of, PAIR}
use Rattle.card.proofs.Card.{none_given, number_above, table_passes}
use Rattle.routes.specs.declared.Answer.TheVariants.{Counted, Joined}
use Rattle.routes.specs.Reply.{Reply, count, order, Replies}

module _ (n : ℕ) (t : List ℕ) (a b : ℕ) (r : Reply) (p : Replies n t a b r) where
  -- good input is never refused
  pub answers : Table n t → a < n → b < n → a ≢ b → number_of r ≡ 0
  answers T l m d = none_given (order n t a b) (number_of r) p.refused (table_passes n t (PAIR n a b ∷ []) T (pair, tt))
    where
      pair : ¬ (PAIR n a b).fails
      pair (inl x) = omega arith
      pair (inr (inl x)) = omega arith
      pair (inr (inr x)) = d x

  module _ (answered : number_of r ≡ 0) where
    pub linked_joined : linked t a b ≡ true → r ≡ Ok Joined
    linked_joined e = go r p answered
      where
        go : (r : Reply) → Replies n t a b r → number_of r ≡ 0 → r ≡ Ok Joined
        go (Ok (Counted c)) q z = never (linked t a b) e (sym (q.linked_pair refl))
        go (Ok Joined) q z = refl
        go (Err x) q z = absurd (number_above x z)

    module _ (unlinked : linked t a b ≡ false) where
      -- the reply is a count: the greatest number of separate routes, and the smallest number of other stations whose loss parts the two
      pub counted : (c : ℕ) × (r ≡ Ok (Counted c)) × Most (linked t) (stations n) a b c × Least (linked t) n (stations n) a b c
      counted = (count r, go r p answered, p.most answered unlinked, p.least answered unlinked)
        where
          go : (r : Reply) → Replies n t a b r → number_of r ≡ 0 → r ≡ Ok (Counted (count r))
          go (Ok (Counted c)) q z = refl
          go (Ok Joined) q z = never (linked t a b) (sym (q.linked_pair refl)) unlinked
          go (Err x) q z = absurd (number_above x z)

      -- so c is replied exactly when it is the one, and exactly when it is the other
      pub most_exactly : (c : ℕ) → (r ≡ Ok (Counted c)) ↔ Most (linked t) (stations n) a b c
      unfolding counted
      most_exactly c = (λ e. subst (Most (linked t) (stations n) a b) (ap count e) counted.2, λ m. counted.1 ∙ ap (λ (d : ℕ). Ok (Counted d)) (most_one (linked t) (stations n) a b (count r) c counted.2 m))

      pub least_exactly : (c : ℕ) → (r ≡ Ok (Counted c)) ↔ Least (linked t) n (stations n) a b c
      unfolding counted
      least_exactly c = (λ e. subst (Least (linked t) n (stations n) a b) (ap count e) counted.3, λ m. counted.1 ∙ ap (λ (d : ℕ). Ok (Counted d)) (least_one (linked t) n (stations n) a b (count r) c counted.3 m))
