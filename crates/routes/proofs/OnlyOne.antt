-- The routes question has one reply: two that it allows are the same, refused or not.
use mathlib.Core.Bool.{false}
use mathlib.Core.List.{List}
use mathlib.Core.Path.{◌≡◌, refl, sym, ap}
use Prim.Native.Nat.{ℕ}
use Rattle.stations.specs.Sets.{stations}
use Rattle.stations.proofs.Bools.{never}
use Rattle.mesh.specs.Table.{linked}
use Rattle.std.proofs.Common.{Ok, Err}
use Rattle.card.specs.Card.{number_of}
use Rattle.card.proofs.Card.{first_one, refusal_one, number_above}
use Rattle.linkage.proofs.Routes.{most_one}
use Rattle.routes.specs.declared.Answer.TheVariants.{Counted, Joined}
use Rattle.routes.specs.Reply.{Reply, order, Replies}

pub routes_only_one : (n : ℕ) (t : List ℕ) (a b : ℕ) (r r' : Reply) → Replies n t a b r → Replies n t a b r' → r ≡ r'
routes_only_one n t a b r r' p q = go r r' p q (first_one (order n t a b) (number_of r) (number_of r') p.refused q.refused)
  where
    go : (r r' : Reply) → Replies n t a b r → Replies n t a b r' → number_of r ≡ number_of r' → r ≡ r'
    go (Ok (Counted c)) (Ok (Counted d)) p q e =
        let o : linked t a b ≡ false = sym (p.linked_pair refl) in
        ap (λ (c : ℕ). Ok (Counted c)) (most_one (linked t) (stations n) a b c d (p.most refl o) (q.most refl o))
    go (Ok (Counted c)) (Ok Joined) p q e = never (linked t a b) (sym (q.linked_pair refl)) (sym (p.linked_pair refl))
    go (Ok Joined) (Ok (Counted d)) p q e = never (linked t a b) (sym (p.linked_pair refl)) (sym (q.linked_pair refl))
    go (Ok Joined) (Ok Joined) p q e = refl
    go (Err x) (Err y) p q e = ap Err (refusal_one x y e)
    go (Err x) (Ok (Counted d)) p q e = absurd (number_above x e)
    go (Err x) (Ok Joined) p q e = absurd (number_above x e)
    go (Ok (Counted c)) (Err y) p q e = absurd (number_above y (sym e))
    go (Ok Joined) (Err y) p q e = absurd (number_above y (sym e))
