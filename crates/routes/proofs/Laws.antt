-- From the tests that passed to what the search asks, and from what it says to the reply: where a and b are not linked, the links without their own
-- are all links, so the search's count is the greatest number of routes and the smallest loss.
use mathlib.Core.Bool.{true, false}
use mathlib.Core.List.{List, [], ◌∷◌}
use mathlib.Core.Logic.{◌⊎◌, ◌≢◌, inl, inr}
use Rattle.std.proofs.Common.{Option, Some, None, Ok, Err, MatchOption}
use mathlib.Core.Path.{◌≡◌, sym, ◌∙◌, fun_ext}
use Prim.Native.Nat.{ℕ, ◌<◌, ◌≤◌}
use native.Mathlib.Omega.{arith}
use borrow.Author.Tests.{ltb-true, lt-ltb}
use Rattle.stations.specs.Sets.{stations}
use Rattle.stations.specs.Words.{members}
use Rattle.stations.specs.declared.StationSet.{StationSet}
use Rattle.stations.proofs.Bools.{test, never}
use Rattle.mesh.specs.Table.{linked, Table}
use Rattle.card.specs.Card.{FirstFailing, number, PAIR}
use Rattle.card.proofs.Card.{number_above}
use Rattle.card.proofs.TableTest.{table_mesh}
use Rattle.linkage.specs.Pair.{other_links}
use Rattle.linkage.proofs.Links.{other_links_all}
use Rattle.linkage.proofs.Routes.{least_past}
use Rattle.flow.specs.declared.Cut.{Cut}
use Rattle.flow.specs.Pair.{Asked, BetweenOf}
use Rattle.flow.proofs.Pair.{between_exact}
use Rattle.routes.specs.declared.Answer.TheVariants.{Counted, Joined}
use Rattle.routes.specs.declared.Answer.{Answer}
use Rattle.card.specs.declared.Refusal.{Refusal}
use Rattle.routes.specs.Reply.{order, Replies}
use Rattle.routes.specs.Steps.{Answered}

-- two different stations below n pass
pub pair_passed : (n a b : ℕ) → FirstFailing (PAIR n a b ∷ []) 0 → (a < n) × (b < n) × (a ≢ b)
pair_passed n a b (inl x) = absurd (omega (arith, x.1))
pair_passed n a b (inr (pair, _)) = (below a (λ l. pair (inl l)), below b (λ l. pair (inr (inl l))), λ q. pair (inr (inr q)))
  where
    below : (x : ℕ) → ¬ (n ≤ x) → x < n
    below x h = omega arith

module _ (n : ℕ) (t : List ℕ) (a b : ℕ) (T : Table n t) (one : a < n) (two : b < n) (differ : a ≢ b) (set : StationSet) (law : (x : ℕ) → members set x ≡ stations n x) where
  pub asked : Asked t set a b
  asked = record {
    fits = λ x h. omega (arith, ltb-true x n (sym (law x) ∙ h), T.long);
    mesh = table_mesh T;
    differ = differ;
    a_in = law a ∙ lt-ltb a n one;
    b_in = law b ∙ lt-ltb b n two;
  }

  module _ (apart : linked t a b ≡ false) where
    back : linked t b a ≡ false
    back = go (test (linked t b a))
      where
        go : (linked t b a ≡ true) ⊎ (linked t b a ≡ false) → linked t b a ≡ false
        go (inl e) = never (linked t a b) (T.both b a e) apart
        go (inr e) = e

    all : other_links (linked t) a b ≡ linked t
    all = other_links_all (linked t) a b apart back

    same : members set ≡ stations n
    same = fun_ext law

    pub counted : (r : Option Cut) → BetweenOf t set a b 256 r → (m : ℕ) → MatchOption r (m ≡ 256) (λ cut. m ≡ cut.chains) → Answered n t a b (Counted m)
    counted None f m e = absurd (between_exact t set a b 256 asked (omega arith) f)
    counted (Some cut) f m e = rw e record {
      linked_pair = sym apart;
      most = λ _. rw (all, same) at f.most;
      least = λ _. least_past (linked t) n 256 (stations n) a b cut.chains (λ x. ltb-true x n) T.few (rw (all, same) at f.least);
    }

pub joined_pair : (n : ℕ) (t : List ℕ) (a b : ℕ) → linked t a b ≡ true → Answered n t a b Joined
joined_pair n t a b e = record { linked_pair = sym e; most = λ o. never (linked t a b) e o; least = λ o. never (linked t a b) e o }

-- the reply of a question that passed, and of one that did not
pub replied : (n : ℕ) (t : List ℕ) (a b : ℕ) (r : Answer) → FirstFailing (order n t a b) 0 → Answered n t a b r → Replies n t a b (Ok r)
replied n t a b r f A = record { refused = f; linked_pair = λ _. A.linked_pair; most = λ _. A.most; least = λ _. A.least }

pub refused_reply : (n : ℕ) (t : List ℕ) (a b : ℕ) (r : Refusal) → FirstFailing (order n t a b) (number r) → Replies n t a b (Err r)
refused_reply n t a b r f = record {
  refused = f;
  linked_pair = λ e. absurd (number_above r e);
  most = λ e. absurd (number_above r e);
  least = λ e. absurd (number_above r e);
}
