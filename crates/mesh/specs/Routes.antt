-- Separate routes between two stations of a set, and losses that part them. Rules R1, R2 and H5.
--   Chain L s a l b      the stations l lead from a to b in s
--   Routes L s a b c     c chains between a and b that share no station but the two ends
--   Most L s a b c       c is the greatest number of such chains
--   FewRoutes L k s a b  a and b are a weak pair of s at k
--   Parts L s a b S      the loss of S, other stations of s, parts a from b
--   Least L n s a b c    c other stations are the fewest whose loss parts the two
use Rattle.std.specs.Prelude.{◌≡◌, true, false, ◌≢◌, ℕ, ◌<◌, ◌≤◌}
use mathlib.Core.List.{List, [], ◌∷◌, Memᴰ}
use Rattle.stations.specs.Sets.{Set, ◌is_in◌, ◌part_of◌, only, ◌without◌, size}
use Rattle.mesh.specs.Mesh.{Links, Touch}

-- from a over the stations of l, all in s, to b: each is linked to the next
abbrev pub Chain : Links → Set → ℕ → List ℕ → ℕ → Type 0
Chain L s a [] b = L a b ≡ true
Chain L s a (x ∷ l) b = (x is_in s) × (L a x ≡ true) × Chain L s x l b

-- the other stations of s
abbrev pub others : Set → ℕ → ℕ → Set
others s a b = s without only a without only b

-- chain i leads from a to b over the stations `chain i`, none of them a or b, and no two chains have one of these in common
pub record Routes (L : Links) (s : Set) (a b c : ℕ) : Type 0 where
  pub chain : (i : ℕ) → i < c → List ℕ
  pub leads : (i : ℕ) (h : i < c) → Chain L (others s a b) a (chain i h) b
  pub apart : (i j x : ℕ) (h : i < c) (g : j < c) → Memᴰ x (chain i h) → Memᴰ x (chain j g) → i ≡ j

-- rule R1: there are c such chains, and never more
pub record Most (L : Links) (s : Set) (a b c : ℕ) : Type 0 where
  pub routes : Routes L s a b c
  pub most : (j : ℕ) → Routes L s a b j → j ≤ c

-- rule H5: a weak pair, two stations of s that are not linked, with fewer than k routes inside s
pub record FewRoutes (L : Links) (k : ℕ) (s : Set) (a b : ℕ) : Type 0 where
  pub one : a is_in s
  pub two : b is_in s
  pub differ : a ≢ b
  pub unlinked : L a b ≡ false
  pub few : (j : ℕ) → Routes L s a b j → j < k

-- the loss of S parts a from b
pub record Parts (L : Links) (s : Set) (a b : ℕ) (S : Set) : Type 0 where
  pub within : S part_of others s a b
  pub parts : ¬ Touch L (s without S) a b

-- rule R2: some loss of c other stations parts them, and none of fewer
pub record Least (L : Links) (n : ℕ) (s : Set) (a b c : ℕ) : Type 0 where
  pub loss : Set
  pub parts : Parts L s a b loss
  pub exact : size n loss ≡ c
  pub least : (S : Set) → Parts L s a b S → c ≤ size n S
