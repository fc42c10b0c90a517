-- The net that `between` asks `flow` about lies between the two stations, by the links other than their own: so its chains are the routes between
-- them, and its losses those that part them (pair_told). With a limit of 256 or more the count is exact (between_exact).
use mathlib.Core.List.{List}
use Rattle.std.proofs.Common.{Option, Some, None}
use mathlib.Core.Logic.{◌≢◌}
use mathlib.Core.Path.{◌≡◌, refl, sym, ap, ◌∙◌}
use Prim.Native.Nat.{ℕ, ◌≤◌}
use native.Mathlib.Omega.{arith}
use Rattle.stations.specs.Sets.{◌is_in◌}
use Rattle.stations.specs.Words.{has, row, words, members}
use Rattle.stations.specs.declared.StationSet.{StationSet}
use Rattle.stations.proofs.Bools.{same_bool}
use Rattle.stations.proofs.Laws.{has_small}
use Rattle.mesh.specs.Routes.{others}
use Rattle.mesh.specs.Table.{linked}
use Rattle.linkage.specs.Net.{Menger}
use Rattle.linkage.specs.Pair.{other_links, Between}
use Rattle.linkage.proofs.Pairs.{of_others, family_routes, parts_loss, between_most, between_least}
use Rattle.linkage.proofs.Routes.{routes_few}
use Rattle.linkage.proofs.Links.{other_links_off, other_links_same}
use Rattle.flow.specs.Net.{net_of, Flow}
use Rattle.flow.specs.Pair.{Asked, BetweenOf}
use Rattle.flow.specs.declared.Cut.{Cut}

module _ {t : List ℕ} {set : StationSet} {a b : ℕ} (A : Asked t set a b) (inner starts ends : StationSet)
    (law : (w : ℕ) → members inner w ≡ others (members set) a b w)
    (from-a : words starts ≡ row t a) (from-b : words ends ≡ row t b) where
  pair_of : (w : ℕ) → w is_in members inner → (w is_in members set) × (w ≢ a) × (w ≢ b)
  pair_of w m = of_others (members set) a b w (sym (law w) ∙ m)

  two_ways : (v w : ℕ) → linked t v w ≡ linked t w v
  two_ways v w = same_bool (linked t v w) (linked t w v) (A.mesh.both v w) (A.mesh.both w v)

  pair_between : Between (net_of t inner starts ends) (other_links (linked t) a b) (members set) a b
  pair_between = record {
    differ = A.differ;
    a_in = A.a_in;
    b_in = A.b_in;
    unlinked = other_links_off (linked t) a b;
    inner = law;
    links = λ v w i j. let (_, na, nb) = pair_of v i in sym (other_links_same (linked t) a b v w (λ e _. na e) (λ e _. nb e));
    starts = λ w i. let (_, na, nb) = pair_of w i in
        ap (λ (l : List ℕ). has l w) from-a ∙ sym (other_links_same (linked t) a b a w (λ _ e. nb e) (λ e _. A.differ e));
    ends = λ w i. let (_, na, nb) = pair_of w i in
        ap (λ (l : List ℕ). has l w) from-b ∙ two_ways b w ∙ sym (other_links_same (linked t) a b w b (λ e _. na e) (λ e _. nb e));
  }

  pub pair_told : (limit : ℕ) (r : Option Cut) → Flow (net_of t inner starts ends) limit r → BetweenOf t set a b limit r
  pair_told limit None F = family_routes pair_between limit F
  pair_told limit (Some r) X = record {
    fewer = X.fewer;
    most = between_most pair_between solved;
    least = between_least pair_between solved;
    loss = parts_loss pair_between (members r.loss) X.within X.parts;
    exact = X.exact;
  }
    where
      solved : Menger (net_of t inner starts ends)
      solved = record { number = r.chains; family = X.family; loss = members r.loss; within = X.within; parts = X.parts; exact = X.exact }

-- with a limit of 256 or more the count is exact
pub between_exact : (t : List ℕ) (set : StationSet) (a b limit : ℕ) → Asked t set a b → 256 ≤ limit → BetweenOf t set a b limit None → ⊥
between_exact t set a b limit A l R = omega (
  arith,
  routes_few (other_links (linked t) a b) 256 (members set) a b (λ w m. has_small (words set) w refl m) A.a_in A.b_in A.differ limit
      (other_links_off (linked t) a b) R,
)
