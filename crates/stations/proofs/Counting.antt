-- The laws of counting. Nearly all come from two: size_sum (where bits add up station by station, sizes add up) and pigeon (where each
-- station of one set has a partner of its own in another, the other is no smaller).
use mathlib.Core.Path.{◌≡◌, refl, sym, ◌∙◌, ap, subst}
use mathlib.Core.Logic.{◌≢◌, ◌⊎◌, inl, inr}
use mathlib.Core.Bool.{Bool, true, false, not, ◌&&◌, ◌||◌, false≢true}
use Prim.Native.Nat.{ℕ, zero, suc, ◌+◌, ◌≤◌, ◌<◌}
use native.Mathlib.Nat.{add-zero, add-suc}
use native.Mathlib.Omega.{arith}
use native.Mathlib.Decide.{dec_lt, ℕ_discrete}
use lib.Dec.{eqb}
use borrow.Author.Tests.{eq-eqb, ne_eqb, lt-ltb}
use Rattle.stations.specs.Sets.{Set, ◌is_in◌, ◌not_in◌, ◌part_of◌, none, only, stations, ◌without◌, ◌cut◌, ◌joined◌, Below, one_if, size}
use Rattle.stations.proofs.Bools.{test, never, and_left, and_right, and_in}
use Rattle.stations.proofs.Members.{same_set, in_without, in_less, only_is, not_only}

one_mono : (a b : Bool) → (a ≡ true → b ≡ true) → one_if a ≤ one_if b
one_mono true b f = rw (f refl) (omega arith)
one_mono false b f = omega arith

pub size_mono : (n : ℕ) (s t : Set) → ((x : ℕ) → x < n → x is_in s → x is_in t) → size n s ≤ size n t
unfolding size
size_mono zero s t h = omega arith
size_mono (suc n) s t h =
    let ih : size n s ≤ size n t = size_mono n s t (λ x l. h x (omega arith)) in
    omega (arith, one_mono (s n) (t n) (h n (omega arith)))

pub size-sub : (n : ℕ) (s t : Set) → s part_of t → size n s ≤ size n t
size-sub n s t h = size_mono n s t (λ x l. h x)

pub size_le : (n : ℕ) (s : Set) → size n s ≤ n
unfolding size
size_le zero s = omega arith
size_le (suc n) s = go (s n) (size_le n s)
  where
    go : (b : Bool) → size n s ≤ n → one_if b + size n s ≤ suc n
    go true h = omega arith
    go false h = omega arith

pub size_empty : (n : ℕ) → size n none ≡ 0
unfolding size
size_empty zero = refl
size_empty (suc n) = omega (arith, size_empty n)

-- the one law of sums from which the others come: if at each station below n the bits of a and b add up to those of c and d, so do the sizes
pub size_sum : (n : ℕ) (a b c d : Set) → ((x : ℕ) → x < n → one_if (a x) + one_if (b x) ≡ one_if (c x) + one_if (d x)) → size n a + size n b ≡ size n c + size n d
unfolding size
size_sum zero a b c d h = refl
size_sum (suc n) a b c d h =
    let ih : size n a + size n b ≡ size n c + size n d = size_sum n a b c d (λ x l. h x (omega arith)) in
    omega (arith, h n (omega arith))

bits_without : (a b : Bool) → one_if (a && not b) + one_if (a && b) ≡ one_if a + one_if false
bits_without true true = refl
bits_without true false = refl
bits_without false b = refl

bits_joined : (a b : Bool) → one_if (a || b) + one_if (a && b) ≡ one_if a + one_if b
bits_joined true true = refl
bits_joined true false = refl
bits_joined false b = omega arith

pub size-without : (n : ℕ) (s p : Set) → size n (s without p) + size n (s cut p) ≡ size n s
size-without n s p = omega (arith, size_sum n (s without p) (s cut p) s none (λ x l. bits_without (s x) (p x)), size_empty n)

pub size-joined : (n : ℕ) (s t : Set) → size n (s joined t) + size n (s cut t) ≡ size n s + size n t
size-joined n s t = size_sum n (s joined t) (s cut t) s t (λ x l. bits_joined (s x) (t x))

-- p part of s
pub size_minus : (n : ℕ) (s p : Set) → p part_of s → size n (s without p) + size n p ≡ size n s
size_minus n s p h =
    let e : s cut p ≡ p = same_set (s cut p) p (λ x. and_right (s x) (p x)) (λ x g. and_in (s x) (p x) (h x g) g) in
    omega (arith, size-without n s p, ap (size n) e)

-- two sets with no station in common
abbrev pub Disjoint : Set → Set → Type 0
Disjoint s t = (x : ℕ) → x is_in s → x not_in t

pub size_disjoint : (n : ℕ) (s t : Set) → Disjoint s t → size n (s joined t) ≡ size n s + size n t
size_disjoint n s t h =
    let e : s cut t ≡ none = same_set (s cut t) none (λ x g. never (t x) (and_right (s x) (t x) g) (h x (and_left (s x) (t x) g))) (λ x g. absurd (false≢true g)) in
    omega (arith, size-joined n s t, ap (size n) e, size_empty n)

-- a set with more stations than another has one that the other lacks
pub more : (n : ℕ) (p s : Set) → size n p < size n s → (x : ℕ) × (x < n) × (x is_in s) × (x not_in p)
unfolding size
more zero p s h = absurd (omega arith)
more (suc n) p s h = go (test (s n)) (test (p n)) (more n p s)
  where
    up : (x : ℕ) × (x < n) × (x is_in s) × (x not_in p) → (x : ℕ) × (x < suc n) × (x is_in s) × (x not_in p)
    up r = (r.0, omega (arith, r.1), r.2, r.3)

    go : (s n ≡ true) ⊎ (s n ≡ false) → (p n ≡ true) ⊎ (p n ≡ false)
        → (size n p < size n s → (x : ℕ) × (x < n) × (x is_in s) × (x not_in p))
        → (x : ℕ) × (x < suc n) × (x is_in s) × (x not_in p)
    go (inl a) (inr b) ih = (n, omega arith, a, b)
    go (inl a) (inl b) ih = up (ih (omega (arith, rw (a, b) at h)))
    go (inr a) (inl b) ih = up (ih (omega (arith, rw (a, b) at h)))
    go (inr a) (inr b) ih = up (ih (omega (arith, rw (a, b) at h)))

pub some_station : (n : ℕ) (s : Set) → 0 < size n s → (x : ℕ) × (x < n) × (x is_in s)
some_station n s h = let m = more n none s (omega (arith, size_empty n)) in (m.0, m.1, m.2)

pub size_none : (n : ℕ) (s : Set) → ((x : ℕ) → x < n → x not_in s) → size n s ≡ 0
size_none n s h =
    let le : size n s ≤ size n none = size_mono n s none (λ x l g. never (s x) g (h x l)) in
    omega (arith, size_empty n)

pub size_pos : (n : ℕ) (s : Set) (x : ℕ) → x < n → x is_in s → 0 < size n s
unfolding size
size_pos zero s x l h = absurd (omega arith)
size_pos (suc n) s x l h = go (ℕ_discrete x n) (λ m. size_pos n s x m h)
  where
    go : Dec (x ≡ n) → (x < n → 0 < size n s) → 0 < one_if (s n) + size n s
    go (yes e) ih = let f : s n ≡ true = rw (← e) h in rw f (omega arith)
    go (no d) ih = omega (arith, ih (omega arith))

pub none_of : (n : ℕ) (s : Set) → size n s ≡ 0 → (x : ℕ) → x < n → x not_in s
none_of n s e x l = go (test (s x))
  where
    go : (s x ≡ true) ⊎ (s x ≡ false) → x not_in s
    go (inl a) = absurd (omega (arith, size_pos n s x l a))
    go (inr a) = a

-- a part of t with as many stations as t is t
pub full : (n : ℕ) (s t : Set) → Below n t → s part_of t → size n t ≤ size n s → t part_of s
full n s t l h e x g = go (test (s x))
  where
    go : (s x ≡ true) ⊎ (s x ≡ false) → x is_in s
    go (inl a) = a
    go (inr a) = absurd (omega (arith, size_minus n t s h, size_pos n (t without s) x (l x g) (in_without t s x g a)))

-- a set that has a station has a smallest one
pub least : (n : ℕ) (s : Set) → 0 < size n s → (x : ℕ) × (x < n) × (x is_in s) × ((y : ℕ) → y < x → y not_in s)
unfolding size
least zero s h = absurd (omega arith)
least (suc n) s h = go (dec_lt 0 (size n s)) (test (s n)) (least n s)
  where
    go : Dec (0 < size n s) → (s n ≡ true) ⊎ (s n ≡ false) → (0 < size n s → (x : ℕ) × (x < n) × (x is_in s) × ((y : ℕ) → y < x → y not_in s))
        → (x : ℕ) × (x < suc n) × (x is_in s) × ((y : ℕ) → y < x → y not_in s)
    go (yes d) b ih = let r = ih d in (r.0, omega (arith, r.1), r.2, r.3)
    go (no d) (inl b) ih = (n, omega arith, b, none_of n s (omega arith))
    go (no d) (inr b) ih = absurd (omega (arith, rw b at h))

pub size-only : (n a : ℕ) → a < n → size n (only a) ≡ 1
unfolding size
size-only zero a l = absurd (omega arith)
size-only (suc n) a l = go (ℕ_discrete n a) (size-only n a)
  where
    go : Dec (n ≡ a) → (a < n → size n (only a) ≡ 1) → one_if (eqb n a) + size n (only a) ≡ 1
    go (yes e) ih = rw (eq-eqb n a e) (omega (arith, size_none n (only a) (λ x m. not_only a x (λ g. omega arith))))
    go (no d) ih = rw (ne_eqb n a d) (omega (arith, ih (omega arith)))

pub size_minus_one : (n : ℕ) (s : Set) (a : ℕ) → a < n → a is_in s → size n (s without only a) + 1 ≡ size n s
size_minus_one n s a l h = omega (arith, size_minus n s (only a) (λ x g. rw (only_is a x g) h), size-only n a l)

-- alike below n
pub size_ext : (n : ℕ) (s t : Set) → ((x : ℕ) → x < n → s x ≡ t x) → size n s ≡ size n t
unfolding size
size_ext zero s t h = refl
size_ext (suc n) s t h = rw (h n (omega arith), size_ext n s t (λ x l. h x (omega arith)))

-- the stations below a + b are those below a and those from a up
pub size-add : (a b : ℕ) (s : Set) → size (a + b) s ≡ size a s + size b (λ x. s (a + x))
unfolding size
size-add a zero s = rw (add-zero a) (omega arith)
size-add a (suc b) s = rw (add-suc a b) (omega (arith, size-add a b s))

-- a set of stations below n has as many below any larger number
pub size_past : (n m : ℕ) (s : Set) → Below n s → n ≤ m → size m s ≡ size n s
unfolding size
size_past n zero s b l = let e : zero ≡ n = omega arith in ap (λ (i : ℕ). size i s) e
size_past n (suc m) s b l = go (ℕ_discrete n (suc m)) (size_past n m s b)
  where
    out : n ≤ m → (t : (s m ≡ true) ⊎ (s m ≡ false)) → one_if (s m) ≡ 0
    out h (inl e) = absurd (omega (arith, b m e))
    out h (inr e) = rw e

    go : Dec (n ≡ suc m) → (n ≤ m → size m s ≡ size n s) → one_if (s m) + size m s ≡ size n s
    go (yes e) ih = rw e
    go (no d) ih = let h : n ≤ m = omega arith in omega (arith, out h (test (s m)), ih h)

pub size_all : (n : ℕ) → size n (λ x. true) ≡ n
unfolding size
size_all zero = refl
size_all (suc n) = omega (arith, size_all n)

pub size-stations : (n : ℕ) → size n (stations n) ≡ n
size-stations n = size_ext n (stations n) (λ x. true) (λ x l. lt-ltb x n l) ∙ size_all n

-- If each x of s below n has a partner y of t below m, and no y is the partner of two, then t has at least as many stations as s.
pub pigeon : (n m : ℕ) (s t : Set) (R : ℕ → ℕ → Type 0)
    → ((x : ℕ) → x < n → x is_in s → (y : ℕ) × (y < m) × (y is_in t) × R x y)
    → ((x x' y : ℕ) → R x y → R x' y → x ≡ x')
    → size n s ≤ size m t
unfolding size
pigeon zero m s t R to one = omega arith
pigeon (suc n) m s t R to one = elim (test (s n)) [
  | inl i ↦
      let (y, k, j, r) = to n (omega arith) i in
      let other : (x u : ℕ) → x < n → R x u → u ≢ y = λ x u l q e. omega (arith, one x n y (subst (R x) e q) r) in
      let le : size n s ≤ size m (t without only y) = pigeon n m s (t without only y) R (λ x l i. let (u, k, j, q) = to x (omega arith) i in (u, k, in_less t y u j (other x u l q), q)) one in
      rw i (omega (arith, size_minus_one m t y k j))
  | inr o ↦ rw o (omega (arith, pigeon n m s t R (λ x l. to x (omega arith)) one))
]

-- the station of s with i stations of s below it
pub nth : (n : ℕ) (s : Set) (i : ℕ) → i < size n s → (x : ℕ) × (x < n) × (x is_in s) × (size x s ≡ i)
unfolding size
nth zero s i h = absurd (omega arith)
nth (suc n) s i h = go (test (s n)) (ℕ_discrete i (size n s)) (nth n s i)
  where
    up : (x : ℕ) × (x < n) × (x is_in s) × (size x s ≡ i) → (x : ℕ) × (x < suc n) × (x is_in s) × (size x s ≡ i)
    up r = (r.0, omega (arith, r.1), r.2, r.3)

    go : (s n ≡ true) ⊎ (s n ≡ false) → Dec (i ≡ size n s) → (i < size n s → (x : ℕ) × (x < n) × (x is_in s) × (size x s ≡ i))
        → (x : ℕ) × (x < suc n) × (x is_in s) × (size x s ≡ i)
    go (inl a) (yes e) ih = (n, omega arith, a, sym e)
    go (inl a) (no d) ih = up (ih (omega (arith, rw a at h)))
    go (inr a) d ih = up (ih (omega (arith, rw a at h)))

-- a search below n decides whether some number has Q
pub any_below : (Q : ℕ → Type 0) → ((x : ℕ) → Dec (Q x)) → (n : ℕ) → Dec ((x : ℕ) × (x < n) × Q x)
any_below Q dec zero = no (λ t. omega (arith, t.1))
any_below Q dec (suc n) = elim (dec n) [
  | yes q ↦ yes (n, omega arith, q)
  | no q ↦ elim (any_below Q dec n) [
    | yes t ↦ yes (t.0, omega (arith, t.1), t.2)
    | no o ↦ no (λ t. elim (ℕ_discrete t.0 n) [ yes e ↦ q (rw e at t.2) | no d ↦ o (t.0, omega (arith, t.1), t.2) ])
  ]
]
