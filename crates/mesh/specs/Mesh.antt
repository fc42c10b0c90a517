-- THE MEANING: what it is to be in touch, to be whole, to hold at a level; groups, weak sets, and the list of groups.
-- Rules M1 to M5 and L1 to L4 of docs/RULES.md. L says which stations are linked, n is the number of stations, k the level.
--   Mesh L               links go both ways, and no station is linked to itself
--   Touch L s a b        a and b are in touch in s
--   Whole L s            all stations of s are in touch
--   Holds L n k s        s holds at k
--   Group L n k s        s is a group at k
--   Weak L n k s p       p is a weak set of s at k;  WeakSet: the one that a reply names
--   Listed L n k g R     the rows R 0 to R (g - 1) are the groups at k, each once, in order, and nothing else
--   R n k                the rows that a list needs room for
use Rattle.std.specs.Prelude.{◌≡◌, Bool, true, false, cond, ◌⊎◌, ℕ, ◌+◌, ◌-◌, ◌/◌, ◌<◌, ◌≤◌, leb}
use Rattle.stations.specs.Sets.{Set, ◌is_in◌, ◌part_of◌, ◌without◌, Below, size, Before}

-- which stations are linked
abbrev pub Links : Type 0
Links = ℕ → ℕ → Bool

-- a link goes both ways, and never from a station to itself
pub record Mesh (L : Links) : Type 0 where
  pub apart : (a : ℕ) → L a a ≡ false
  pub both : (a b : ℕ) → L a b ≡ true → L b a ≡ true

-- rule M1: a chain inside s leads from the one to the other, its ends in s too
pub data Touch (L : Links) (s : Set) : ℕ → ℕ → Type 0 where
  here : {a : ℕ} → a is_in s → Touch L s a a
  step : {a b c : ℕ} → a is_in s → L a b ≡ true → Touch L s b c → Touch L s a c

-- rule M2: any two of its stations are in touch in it. A set of one is whole (Chains: one_whole).
abbrev pub Whole : Links → Set → Type 0
Whole L s = (a b : ℕ) → a is_in s → b is_in s → Touch L s a b

-- rule M3: more than k stations, and no loss p of fewer than k of them parts it
pub record Holds (L : Links) (n k : ℕ) (s : Set) : Type 0 where
  pub below : Below n s
  pub above : k < size n s
  pub firm : (p : Set) → p part_of s → size n p < k → Whole L (s without p)

-- rule M4: it holds, and no larger set that holds has all of it
pub record Group (L : Links) (n k : ℕ) (s : Set) : Type 0 where
  pub holds : Holds L n k s
  pub largest : (t : Set) → Holds L n k t → s part_of t → t part_of s

-- rule M5: a loss of fewer than k of its stations that parts it
pub record Weak (L : Links) (n k : ℕ) (s p : Set) : Type 0 where
  pub part : p part_of s
  pub few : size n p < k
  pub parts : ¬ Whole L (s without p)

-- rule M5: the one of a reply has as few stations as any, and comes first among those of its size
pub record WeakSet (L : Links) (n k : ℕ) (s p : Set) : Type 0 where
  pub weak : Weak L n k s p
  pub smallest : (q : Set) → Weak L n k s q → size n p ≤ size n q
  pub first : (q : Set) → Weak L n k s q → size n q ≡ size n p → (q ≡ p) ⊎ Before p q

-- the rows R 0, .., R (g - 1) are the groups at k: each row is one, each group is a row, and no two rows are the same
pub record Groups (L : Links) (n k g : ℕ) (R : ℕ → Set) : Type 0 where
  pub group : (i : ℕ) → i < g → Group L n k (R i)
  pub all : (s : Set) → Group L n k s → (i : ℕ) × (i < g) × (s ≡ R i)
  pub differ : (i j : ℕ) → i < g → j < g → R i ≡ R j → i ≡ j

-- rules L1 to L4: and they stand in order
pub record Listed (L : Links) (n k g : ℕ) (R : ℕ → Set) : Type 0 where
  pub groups : Groups L n k g R
  pub order : (i j : ℕ) → i < j → j < g → Before (R i) (R j)

-- The replies to the holding question, and when each is right: rules H1 to H3. A set of k stations or fewer is FEW and never WEAK.
pub data Reply : Type 0 where
  HOLDS FEW : Reply
  WEAK : Set → Reply

abbrev pub Answers : Links → ℕ → ℕ → Set → Reply → Type 0
Answers L n k s HOLDS = Holds L n k s
Answers L n k s FEW = size n s ≤ k
Answers L n k s (WEAK p) = (k < size n s) × WeakSet L n k s p

-- rule L7: the most groups that n stations can have at k
abbrev pub R : ℕ → ℕ → ℕ
R n k = cond (leb n k) 0 ((n - k + 1) / 2)
