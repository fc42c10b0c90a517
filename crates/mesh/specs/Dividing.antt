-- The pieces of a search that divides, rule L11: all stations first, and then a piece after the other gives way to the islands that a loss of fewer than
-- k of its stations leaves, each joined with that loss, those of k stations or fewer left out.
--   Islands L P S t I       I 0 to I (t - 1) are the islands of P without S
--   parts n k S t I         each joined with S, without those of k stations or fewer
--   Dividing L n k Ps       Ps are the pieces after some divisions
--   needed n k Ps           how many of them have more than k stations: the rows they need
use Rattle.std.specs.Prelude.{true, cond, List, [], ◌∷◌, ◌++◌, ◌≡◌, ℕ, zero, suc, ◌+◌, ◌<◌, ltb}
use Rattle.stations.specs.Sets.{Set, ◌is_in◌, ◌part_of◌, ◌without◌, ◌joined◌, stations, one_if, size}
use Rattle.mesh.specs.Mesh.{Links}

-- The islands of P without S, or some of them taken together: they cover it, no two share a station, and no link leads out of one.
pub record Islands (L : Links) (P S : Set) (t : ℕ) (I : ℕ → Set) : Type 0 where
  pub inside : (i : ℕ) → i < t → I i part_of P without S
  pub cover : (x : ℕ) → x is_in P without S → (i : ℕ) × (i < t) × (x is_in I i)
  pub apart : (i j x : ℕ) → i < t → j < t → x is_in I i → x is_in I j → i ≡ j
  pub closed : (i x y : ℕ) → i < t → x is_in I i → y is_in P without S → L x y ≡ true → y is_in I i

unfoldable pub parts : ℕ → ℕ → Set → ℕ → (ℕ → Set) → List Set
parts n k S zero I = []
parts n k S (suc t) I = cond (ltb k (size n (I t joined S))) ((I t joined S) ∷ parts n k S t I) (parts n k S t I)

-- Wider than the rule: any piece may be divided, one that holds too, by any loss of fewer than k, one that does not part it too, and some islands
-- may stay together. What is shown of every such division is so shown of those of the rule. Small/Examples has one: the five stations divided by {2}.
pub data Dividing (L : Links) (n k : ℕ) : List Set → Type 0 where
  all_stations : Dividing L n k (stations n ∷ [])
  divided : (before after : List Set) (P S : Set) (t : ℕ) (I : ℕ → Set) → Dividing L n k (before ++ (P ∷ after)) → S part_of P → size n S < k
      → Islands L P S t I → Dividing L n k (before ++ (parts n k S t I ++ after))

unfoldable pub needed : ℕ → ℕ → List Set → ℕ
needed n k [] = 0
needed n k (P ∷ Ps) = one_if (ltb k (size n P)) + needed n k Ps
