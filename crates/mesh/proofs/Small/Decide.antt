-- Tests that compute, for small meshes: whether a set is whole, whether it holds, is the weak set, and whether rows are the groups. Decided shows
-- that they say what the definitions say.
use mathlib.Core.Bool.{Bool, true, false, not, ◌&&◌, ◌||◌}
use Prim.Native.Nat.{ℕ, zero, suc}
use lib.Dec.{eqb, ltb}
use Rattle.stations.specs.Sets.{Set, none, stations, only, ◌without◌, ◌cut◌, ◌joined◌, size}
use Rattle.mesh.specs.Mesh.{Links}

-- b, where it is asked for
abbrev pub guard : Bool → Bool → Bool
guard true b = b
guard false b = true

-- some number below n passes; each does
unfoldable pub any : ℕ → (ℕ → Bool) → Bool
any zero f = false
any (suc n) f = let r = any n f in f n || r

unfoldable pub each : ℕ → (ℕ → Bool) → Bool
each zero f = true
each (suc n) f = let r = each n f in f n && r

abbrev pub choose : Bool → Bool → Bool → Bool
choose true a b = a
choose false a b = b

-- s below n, with each answer computed once
unfoldable pub memo : ℕ → Set → Set
memo zero s = none
memo (suc n) s = let b = s n in let r = memo n s in λ x. choose (eqb x n) b (r x)

-- the stations of r, and those of s that are linked to one of them
unfoldable pub grow : Links → ℕ → Set → Set → Set
grow L n s r x = let l = any n (λ c. r c && L c x) in r x || (s x && l)

-- the stations that a chain of at most m links in s leads to from a
unfoldable pub reach : Links → ℕ → Set → ℕ → ℕ → Set
reach L n s a zero = only a
reach L n s a (suc m) = memo n (grow L n s (reach L n s a m))

-- the last station of s below n, or 0
unfoldable pub pick : ℕ → Set → ℕ
pick zero s = zero
pick (suc n) s = elim (s n) [ true ↦ n | false ↦ pick n s ]

unfoldable pub wholeb : Links → ℕ → Set → Bool
wholeb L n s = let r = reach L n s (pick n s) n in each n (λ x. guard (s x) (r x))

-- f passes each part of s below n that has at most m stations
unfoldable pub every : ℕ → ℕ → Set → (Set → Bool) → Bool
every zero m s f = f none
every (suc n) zero s f = every n zero s f
every (suc n) (suc m) s f = let r = every n m s (λ p. f (p joined only n)) in let q = guard (s n) r in every n (suc m) s f && q

-- f passes each part of s below n that has fewer than k stations
unfoldable pub every_part : ℕ → ℕ → Set → (Set → Bool) → Bool
every_part n zero s f = true
every_part n (suc m) s f = every n m s f

unfoldable pub holdsb : Links → ℕ → ℕ → Set → Bool
holdsb L n k s = let r = every_part n k s (λ p. wholeb L n (s without p)) in ltb k (size n s) && r

-- each station of p below n is one of s
unfoldable pub subb : ℕ → Set → Set → Bool
subb n p s = each n (λ x. guard (p x) (s x))

-- p is q or comes before it: each station that only q has comes after one that only p has
unfoldable pub not_afterb : ℕ → Set → Set → Bool
not_afterb n p q = each n (λ x. guard (q x && not (p x)) (any x (λ y. p y && not (q y))))

-- p is the weak set of s at k
unfoldable pub weak_setb : Links → ℕ → ℕ → Set → Set → Bool
weak_setb L n k s p = subb n p s && ltb (size n p) k && not (wholeb L n (s without p)) &&
    every n (size n p) s (λ q. wholeb L n (s without q) || (eqb (size n q) (size n p) && not_afterb n p q))

-- the rows R 0, .., R (g - 1) are the groups at k
unfoldable pub groupsb : Links → ℕ → ℕ → ℕ → (ℕ → Set) → Bool
groupsb L n k g R = each g (λ i. holdsb L n k (R i)) &&
    each g (λ i. each g (λ j. eqb i j || ltb (size n (R i cut R j)) k)) &&
    every n n (stations n) (λ s. guard (holdsb L n k s) (any g (λ i. subb n s (R i))))
