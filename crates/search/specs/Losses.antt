-- Losses and what they part. L says which stations are linked, n is the number of stations, `may` the stations that a loss may take.
--   Loss n may k p S           S is a loss of p of fewer than k stations
--   WeakLoss L n may k p S     a loss that leaves p not whole
--   WeakPair L n may k p u v S a loss of p of fewer than k that parts u from v
--   Smallest L n may c p S     a weak loss of c stations: one as small as any, where p is safe at c
--   Safe L n may k p           no loss of fewer than k leaves p not whole
--   Joined L n may l d A B     no loss of fewer than l of d parts the stations of A from those of B: what l routes tell
--   Parted L d S A B           the loss S parts the stations of A from those of B in d: what fewer routes tell
--   Sought L n may k p q N S   a loss of p of fewer than k that has all of p outside q, and each of whose islands has a station of N
--   Around L n may k p j S     a loss that has j, each of whose islands has a link to j
use Rattle.std.specs.Prelude.{true, ◌≡◌, ℕ, ◌+◌, ◌<◌}
use Rattle.stations.specs.Sets.{Set, ◌is_in◌, ◌part_of◌, ◌without◌, ◌cut◌, size}
use Rattle.mesh.specs.Mesh.{Links, Touch, Whole}

-- a loss may take every station
abbrev pub every : Set
every x = true

pub record Loss (n : ℕ) (may : Set) (k : ℕ) (p S : Set) : Type 0 where
  pub part : S part_of p
  pub free : S part_of may
  pub few : size n S < k

pub record WeakLoss (L : Links) (n : ℕ) (may : Set) (k : ℕ) (p S : Set) : Type 0 where
  pub loss : Loss n may k p S
  pub parts : ¬ Whole L (p without S)

-- a weak pair of rule H5 with the loss that parts it: two stations that are not linked, with fewer than k routes inside p, exactly
-- (pairs, WeakPairs: weak_pair_exactly)
pub record WeakPair (L : Links) (n : ℕ) (may : Set) (k : ℕ) (p : Set) (u v : ℕ) (S : Set) : Type 0 where
  pub loss : Loss n may k p S
  pub one : u is_in p without S
  pub two : v is_in p without S
  pub parted : ¬ Touch L (p without S) v u

pub record Smallest (L : Links) (n : ℕ) (may : Set) (c : ℕ) (p S : Set) : Type 0 where
  pub weak : WeakLoss L n may (c + 1) p S
  pub count : size n S ≡ c

abbrev pub Safe : Links → ℕ → Set → ℕ → Set → Type 0
Safe L n may k p = (S : Set) → Loss n may k p S → Whole L (p without S)

abbrev pub Joined : Links → ℕ → Set → ℕ → Set → Set → Set → Type 0
Joined L n may l d A B = (S : Set) → Loss n may l d S → (x y : ℕ) × (x is_in A) × (y is_in B) × Touch L (d without S) x y

abbrev pub Parted : Links → Set → Set → Set → Set → Type 0
Parted L d S A B = (x y : ℕ) → x is_in A → y is_in B → Touch L (d without S) x y → ⊥

-- each station that S leaves of p is in touch with one of N
abbrev pub Toward : Links → Set → Set → Set → Type 0
Toward L p N S = (x : ℕ) → x is_in p without S → (w : ℕ) × (w is_in N) × Touch L (p without S) x w

pub record Sought (L : Links) (n : ℕ) (may : Set) (k : ℕ) (p q N S : Set) : Type 0 where
  pub loss : Loss n may k p S
  pub taken : p without q part_of S
  pub toward : Toward L p N S

pub record Around (L : Links) (n : ℕ) (may : Set) (k : ℕ) (p : Set) (j : ℕ) (S : Set) : Type 0 where
  pub loss : Loss n may k p S
  pub mine : j is_in S
  pub toward : Toward L p (p cut L j) S
