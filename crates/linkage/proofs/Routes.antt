-- Menger's theorem for two stations a and b of a set: the greatest number of routes between them is the smallest number of other stations whose
-- loss parts them (menger). Two stations that are linked are taken without their own link (menger_other).
-- Routes that share no station need as many stations to be lost (routes_loss); so either number is one number (most_one, least_one), and the two
-- are the same (most_least). There are fewer routes than stations (routes_few).
use mathlib.Core.Path.{◌≡◌, refl, sym, ◌∙◌, subst}
use mathlib.Core.Logic.{◌≢◌}
use mathlib.Core.Bool.{true, false}
use Prim.Native.Nat.{ℕ, ◌≤◌, ◌<◌}
use native.Mathlib.Omega.{arith}
use Rattle.stations.specs.Sets.{Set, ◌is_in◌, ◌part_of◌, only, ◌without◌, Below, size}
use Rattle.stations.proofs.Bools.{not_so}
use Rattle.stations.proofs.Members.{in_without, in_less}
use Rattle.stations.proofs.Counting.{size-sub, size_minus_one, size_all, size_past}
use Rattle.mesh.specs.Mesh.{Links, here, step}
use Rattle.mesh.specs.Routes.{others, Routes, Most, Parts, Least}
use Rattle.linkage.specs.Net.{Net}
use Rattle.linkage.specs.Pair.{other_links, Between}
use Rattle.linkage.proofs.Cuts.{duality}
use Rattle.linkage.proofs.Links.{other_links_off}
use Rattle.linkage.proofs.Menger as net
use Rattle.linkage.proofs.Pairs.{of_others, routes_family, loss_parts, between_most, between_least}

-- ---- the net between two stations that are not linked

module _ (L : Links) (n : ℕ) (s : Set) (a b : ℕ) (below : Below n s) where
  pair_net : Net
  pair_net = record {
    mark = n;
    link = L;
    inner = others s a b;
    starts = L a;
    ends = λ v. L v b;
    below = λ w m. below w (of_others s a b w m).0;
  }

  module _ (ai : a is_in s) (bi : b is_in s) (ne : a ≢ b) where
    pair_between : L a b ≡ false → Between pair_net L s a b
    unfolding pair_net
    pair_between o = record {
      differ = ne;
      a_in = ai;
      b_in = bi;
      unlinked = o;
      inner = λ w. refl;
      links = λ v w i j. refl;
      starts = λ w i. refl;
      ends = λ w i. refl;
    }

    -- Menger's theorem for two stations that are not linked
    pub menger : L a b ≡ false → (c : ℕ) × Most L s a b c × Least L n s a b c
    unfolding pair_net
    menger o =
        let B = pair_between o in
        let M = net.menger pair_net in
        (M.number, between_most B M, between_least B M)

    -- a loss that parts two stations parts them by no link of their own
    parted_unlinked : (S : Set) → Parts L s a b S → L a b ≡ false
    parted_unlinked S P = not_so (L a b) (λ l. P.parts (step (off a (λ i. (of_others s a b a (P.within a i)).1 refl) ai) l (here (off b (λ i. (of_others s a b b (P.within b i)).2 refl) bi))))
      where
        off : (x : ℕ) → (x is_in S → ⊥) → x is_in s → x is_in s without S
        off x q m = in_without s S x m (not_so (S x) q)

    -- weak duality: each route has a station of the loss
    pub routes_loss : (j : ℕ) (S : Set) → Routes L s a b j → Parts L s a b S → j ≤ size n S
    unfolding pair_net
    routes_loss j S R P =
        let B = pair_between (parted_unlinked S P) in
        duality pair_net S j (loss_parts B S P) (routes_family B j R)

    -- there are fewer routes than stations
    pub routes_few : (j : ℕ) → L a b ≡ false → Routes L s a b j → j < n
    routes_few j o R =
        let (c, M, K) = menger o in
        let part : K.loss part_of (λ x. true) without only a = λ w m. in_less (λ x. true) a w refl (of_others s a b w (K.parts.within w m)).1 in
        omega (arith, M.most j R, K.exact, size-sub n K.loss ((λ x. true) without only a) part, size_minus_one n (λ x. true) a (below a ai) refl, size_all n)

    -- the two numbers are the same
    pub most_least : (c c' : ℕ) → Most L s a b c → Least L n s a b c' → c ≡ c'
    most_least c c' M K =
        let (d, m, k) = menger (parted_unlinked K.loss K.parts) in
        omega (arith, M.most d m.routes, m.most c M.routes, K.least k.loss k.parts, k.exact, k.least K.loss K.parts, K.exact)

pub most_one : (L : Links) (s : Set) (a b c c' : ℕ) → Most L s a b c → Most L s a b c' → c ≡ c'
most_one L s a b c c' M K = omega (arith, M.most c' K.routes, K.most c M.routes)

pub least_one : (L : Links) (n : ℕ) (s : Set) (a b c c' : ℕ) → Least L n s a b c → Least L n s a b c' → c ≡ c'
least_one L n s a b c c' M K = omega (arith, M.least K.loss K.parts, K.exact, K.least M.loss M.parts, M.exact)

-- the stations of a set below n are as many below any larger number
pub least_past : (L : Links) (n m : ℕ) (s : Set) (a b c : ℕ) → Below n s → n ≤ m → Least L m s a b c → Least L n s a b c
least_past L n m s a b c below l K = record {
  loss = K.loss;
  parts = K.parts;
  exact = sym (same K.loss K.parts) ∙ K.exact;
  least = λ S P. subst (λ (k : ℕ). c ≤ k) (same S P) (K.least S P);
}
  where
    same : (S : Set) → Parts L s a b S → size m S ≡ size n S
    same S P = size_past n m S (λ w i. below w (of_others s a b w (P.within w i)).0) l

-- Menger's theorem for any two stations, their own link left out
pub menger_other : (L : Links) (n : ℕ) (s : Set) (a b : ℕ) → Below n s → a is_in s → b is_in s → a ≢ b
    → (c : ℕ) × Most (other_links L a b) s a b c × Least (other_links L a b) n s a b c
menger_other L n s a b below ai bi ne = menger (other_links L a b) n s a b below ai bi ne (other_links_off L a b)
