-- The tests of Decide say what the definitions say: .._sound (a test that passes shows its fact) and .._complete (a fact makes its test pass).
-- A chain inside s below n has a shorter one of at most n links, so reach, which grows n times, finds every station in touch.
use mathlib.Core.Path.{◌≡◌, refl, sym, ◌∙◌, ap, subst, fun_ext}
use mathlib.Core.Logic.{◌⊎◌, inl, inr}
use mathlib.Core.Bool.{Bool, true, false, not, ◌&&◌, ◌||◌, true≢false, false≢true}
use Prim.Native.Nat.{ℕ, zero, suc, ◌≤◌, ◌<◌}
use native.Mathlib.Omega.{arith}
use native.Mathlib.Decide.{dec_le, dec_lt, ℕ_discrete}
use lib.Dec.{eqb, ltb}
use borrow.Author.Tests.{eqb-true, eq-eqb, ne_eqb, ltb-true, lt-ltb}
use Rattle.stations.specs.Sets.{Set, ◌is_in◌, ◌not_in◌, ◌part_of◌, none, only, ◌without◌, ◌cut◌, ◌joined◌, Below, stations, Before, size, one_if}
use Rattle.mesh.specs.Mesh.{Links, Mesh, Touch, here, Whole, Holds, Weak, WeakSet, Groups}
use Rattle.mesh.proofs.Small.Decide.{guard, choose, any, each, memo, grow, reach, pick, wholeb, every, every_part, holdsb, subb, not_afterb, weak_setb, groupsb}
use Rattle.mesh.proofs.Rows.{rows}
use Rattle.stations.proofs.Bools.{test, never, and_left, and_right, and_in, or_cases, or_left, or_right, not_true}
use Rattle.stations.proofs.Members.{of_without, in_without, same_set, only_is, is_only}
use Rattle.stations.proofs.Counting.{size_le, size-sub, size-only, size_mono, full, none_of, least}
use Rattle.mesh.proofs.Chains.{touch_link, touch_join, touch_back, closed_touch}

-- any, each

pub any_in : (n : ℕ) (f : ℕ → Bool) (x : ℕ) → x < n → f x ≡ true → any n f ≡ true
unfolding any
any_in zero f x l h = absurd (omega arith)
any_in (suc n) f x l h = go (ℕ_discrete x n) (λ m. any_in n f x m h)
  where
    go : Dec (x ≡ n) → (x < n → any n f ≡ true) → f n || any n f ≡ true
    go (yes e) ih = or_left (f n) (any n f) (rw (← e) h)
    go (no d) ih = or_right (f n) (any n f) (ih (omega arith))

pub any_out : (n : ℕ) (f : ℕ → Bool) → any n f ≡ true → (x : ℕ) × (x < n) × (f x ≡ true)
unfolding any
any_out zero f h = absurd (false≢true h)
any_out (suc n) f h = go (or_cases (f n) (any n f) h) (any_out n f)
  where
    go : (f n ≡ true) ⊎ (any n f ≡ true) → (any n f ≡ true → (x : ℕ) × (x < n) × (f x ≡ true)) → (x : ℕ) × (x < suc n) × (f x ≡ true)
    go (inl a) ih = (n, omega arith, a)
    go (inr a) ih = let r = ih a in (r.0, omega (arith, r.1), r.2)

pub each_in : (n : ℕ) (f : ℕ → Bool) → ((x : ℕ) → x < n → f x ≡ true) → each n f ≡ true
unfolding each
each_in zero f h = refl
each_in (suc n) f h = and_in (f n) (each n f) (h n (omega arith)) (each_in n f (λ x l. h x (omega arith)))

pub each_out : (n : ℕ) (f : ℕ → Bool) → each n f ≡ true → (x : ℕ) → x < n → f x ≡ true
unfolding each
each_out zero f h x l = absurd (omega arith)
each_out (suc n) f h x l = go (ℕ_discrete x n) (each_out n f (and_right (f n) (each n f) h) x)
  where
    go : Dec (x ≡ n) → (x < n → f x ≡ true) → f x ≡ true
    go (yes e) ih = rw e (and_left (f n) (each n f) h)
    go (no d) ih = ih (omega arith)

-- memo changes nothing below n
memo_at : (n : ℕ) (s : Set) (x : ℕ) → x < n → memo n s x ≡ s x
unfolding memo
memo_at zero s x l = absurd (omega arith)
memo_at (suc n) s x l = go (ℕ_discrete x n) (memo_at n s x)
  where
    go : Dec (x ≡ n) → (x < n → memo n s x ≡ s x) → choose (eqb x n) (s n) (memo n s x) ≡ s x
    go (yes e) ih = rw (eq-eqb x n e) (ap s (sym e))
    go (no d) ih = rw (ne_eqb x n d) (ih (omega arith))

memo_past : (n : ℕ) (s : Set) (x : ℕ) → n ≤ x → memo n s x ≡ false
unfolding memo
memo_past zero s x l = refl
memo_past (suc n) s x l = rw (ne_eqb x n (λ e. omega arith)) (memo_past n s x (omega arith))

pub memo_is : (n : ℕ) (s : Set) → Below n s → memo n s ≡ s
memo_is n s h = fun_ext (λ x. go x (dec_lt x n) (test (s x)))
  where
    go : (x : ℕ) → Dec (x < n) → (s x ≡ true) ⊎ (s x ≡ false) → memo n s x ≡ s x
    go x (yes l) b = memo_at n s x l
    go x (no d) (inl b) = absurd (d (h x b))
    go x (no d) (inr b) = memo_past n s x (omega arith) ∙ sym b

-- reach

module _ (L : Links) (n : ℕ) (s : Set) (sn : Below n s) (a : ℕ) (ha : a is_in s) where
  grow_cases : (r : Set) (x : ℕ) → x is_in grow L n s r → (x is_in r) ⊎ ((c : ℕ) × (c is_in r) × (L c x ≡ true) × (x is_in s))
  unfolding grow
  grow_cases r x h = go (or_cases (r x) (s x && any n f) h)
    where
      f : ℕ → Bool
      f c = r c && L c x

      two : (c : ℕ) × (c < n) × (f c ≡ true) → x is_in s → (c : ℕ) × (c is_in r) × (L c x ≡ true) × (x is_in s)
      two (c, l, e) g = (c, and_left (r c) (L c x) e, and_right (r c) (L c x) e, g)

      go : (r x ≡ true) ⊎ (s x && any n f ≡ true) → (x is_in r) ⊎ ((c : ℕ) × (c is_in r) × (L c x ≡ true) × (x is_in s))
      go (inl b) = inl b
      go (inr b) = inr (two (any_out n f (and_right (s x) (any n f) b)) (and_left (s x) (any n f) b))

  grow_old : (r : Set) → r part_of grow L n s r
  unfolding grow
  grow_old r x h = or_left (r x) (s x && any n (λ c. r c && L c x)) h

  grow_new : (r : Set) → r part_of s → (c x : ℕ) → c is_in r → x is_in s → L c x ≡ true → x is_in grow L n s r
  unfolding grow
  grow_new r rs c x h g l = or_right (r x) (s x && any n (λ c. r c && L c x))
      (and_in (s x) (any n (λ c. r c && L c x)) g (any_in n (λ c. r c && L c x) c (sn c (rs c h)) (and_in (r c) (L c x) h l)))

  grow_sub : (r : Set) → r part_of s → grow L n s r part_of s
  grow_sub r rs x h = go (grow_cases r x h)
    where
      go : (x is_in r) ⊎ ((c : ℕ) × (c is_in r) × (L c x ≡ true) × (x is_in s)) → x is_in s
      go (inl b) = rs x b
      go (inr b) = b.3

  -- the same without the memo
  plain : ℕ → Set
  plain zero = only a
  plain (suc m) = grow L n s (plain m)

  plain_sub : (m : ℕ) → plain m part_of s
  unfolding plain
  plain_sub zero x h = rw (only_is a x h) ha
  plain_sub (suc m) x h = grow_sub (plain m) (plain_sub m) x h

  reach_plain : (m : ℕ) → reach L n s a m ≡ plain m
  unfolding reach plain
  reach_plain zero = refl
  reach_plain (suc m) =
      rw (reach_plain m) (memo_is n (grow L n s (plain m)) (λ x h. sn x (grow_sub (plain m) (plain_sub m) x h)))

  plain_touch : (m : ℕ) → (x : ℕ) → x is_in plain m → Touch L s a x
  unfolding plain
  plain_touch zero x h = rw (only_is a x h) (here ha)
  plain_touch (suc m) x h = go (grow_cases (plain m) x h) (plain_touch m)
    where
      go : (x is_in plain m) ⊎ ((c : ℕ) × (c is_in plain m) × (L c x ≡ true) × (x is_in s)) → ((y : ℕ) → y is_in plain m → Touch L s a y) → Touch L s a x
      go (inl b) ih = ih x b
      go (inr (c, b, l, g)) ih = touch_link (ih c b) l g

  start_in : (m : ℕ) → a is_in plain m
  unfolding plain
  start_in zero = is_only a
  start_in (suc m) = grow_old (plain m) a (start_in m)

  -- after m rounds nothing new comes, or there are more than m stations
  settles : (m : ℕ) → (grow L n s (plain m) part_of plain m) ⊎ (m < size n (plain m))
  unfolding plain
  settles zero = inr (omega (arith, size-only n a (sn a ha)))
  settles (suc m) = go (settles m) (dec_le (size n (grow L n s (plain m))) (size n (plain m)))
    where
      q : Set
      q = grow L n s (plain m)

      below : Below n q
      below x h = sn x (grow_sub (plain m) (plain_sub m) x h)

      still : q part_of plain m → grow L n s q part_of q
      still h = let e : q ≡ plain m = same_set q (plain m) h (grow_old (plain m)) in subst (λ (z : Set). grow L n s z part_of z) (sym e) h

      go : (q part_of plain m) ⊎ (m < size n (plain m)) → Dec (size n q ≤ size n (plain m)) → (grow L n s q part_of q) ⊎ (suc m < size n q)
      go (inl h) d = inl (still h)
      go (inr h) (yes d) = inl (still (full n (plain m) q below (grow_old (plain m)) d))
      go (inr h) (no d) = inr (omega arith)

  settled : grow L n s (plain n) part_of plain n
  settled = go (settles n)
    where
      go : (grow L n s (plain n) part_of plain n) ⊎ (n < size n (plain n)) → grow L n s (plain n) part_of plain n
      go (inl h) = h
      go (inr h) = absurd (omega (arith, size_le n (plain n)))

  pub reach_sound : (x : ℕ) → x is_in reach L n s a n → Touch L s a x
  reach_sound x h = plain_touch n x (rw (reach_plain n) at h)

  pub reach_complete : (x : ℕ) → Touch L s a x → x is_in reach L n s a n
  reach_complete x c = rw (reach_plain n)
      (closed_touch (plain n) (λ y z h g l. settled z (grow_new (plain n) (plain_sub n) y z h g l)) c (start_in n))

-- wholeb

pub guard_in : (a b : Bool) → (a ≡ true → b ≡ true) → guard a b ≡ true
guard_in true b f = f refl
guard_in false b f = refl

pub guard_out : (a b : Bool) → guard a b ≡ true → a ≡ true → b ≡ true
guard_out true b h e = h
guard_out false b h e = absurd (false≢true e)

pick_in : (n : ℕ) (s : Set) (x : ℕ) → x < n → x is_in s → pick n s is_in s
unfolding pick
pick_in zero s x l h = absurd (omega arith)
pick_in (suc n) s x l h = go (test (s n)) (λ m. pick_in n s x m h)
  where
    go : (s n ≡ true) ⊎ (s n ≡ false) → (x < n → pick n s is_in s) → pick (suc n) s is_in s
    go (inl e) ih = rw (e, pick) e
    go (inr e) ih = rw (e, pick) (at (ℕ_discrete x n) ih)
      where
        at : Dec (x ≡ n) → (x < n → pick n s is_in s) → pick n s is_in s
        at (yes d) i = never (s n) (rw (← d) h) e
        at (no d) i = i (omega arith)

pub whole_sound : (L : Links) (n : ℕ) (s : Set) → Mesh L → Below n s → wholeb L n s ≡ true → Whole L s
unfolding wholeb
whole_sound L n s m sn h a b ha hb = touch_join (touch_back m (from a ha)) (from b hb)
  where
    p : ℕ
    p = pick n s

    hp : p is_in s
    hp = pick_in n s a (sn a ha) ha

    from : (x : ℕ) → x is_in s → Touch L s p x
    from x hx = reach_sound L n s sn p hp x (guard_out (s x) (reach L n s p n x) (each_out n (λ y. guard (s y) (reach L n s p n y)) h x (sn x hx)) hx)

pub whole_complete : (L : Links) (n : ℕ) (s : Set) → Below n s → Whole L s → wholeb L n s ≡ true
unfolding wholeb
whole_complete L n s sn w = each_in n (λ x. guard (s x) (reach L n s (pick n s) n x)) (λ x l. guard_in (s x) (reach L n s (pick n s) n x) (λ hx.
    let hp = pick_in n s x l hx in reach_complete L n s sn (pick n s) hp x (w (pick n s) x hp hx)))

-- every

below_empty : (p : Set) → Below 0 p → p ≡ none
below_empty p h = same_set p none (λ x g. absurd (omega (arith, h x g))) (λ x g. absurd (false≢true g))

below_less : (n : ℕ) (p : Set) → Below (suc n) p → n not_in p → Below n p
below_less n p h d x g = go (ℕ_discrete x n)
  where
    go : Dec (x ≡ n) → x < n
    go (yes e) = never (p n) (rw (← e) g) d
    go (no c) = omega (arith, h x g)

pub not_past : (n : ℕ) (p : Set) → Below n p → n not_in p
not_past n p h = go (test (p n))
  where
    go : (p n ≡ true) ⊎ (p n ≡ false) → n not_in p
    go (inl e) = absurd (omega (arith, h n e))
    go (inr e) = e

put_back : (p : Set) (a : ℕ) → a is_in p → (p without only a) joined only a ≡ p
put_back p a h = same_set ((p without only a) joined only a) p
    (λ x g. one x (or_cases ((p without only a) x) (only a x) g)) (λ x g. two x g (test (only a x)))
  where
    one : (x : ℕ) → (x is_in p without only a) ⊎ (x is_in only a) → x is_in p
    one x (inl g) = (of_without p (only a) x g).0
    one x (inr g) = rw (only_is a x g) h

    two : (x : ℕ) → x is_in p → (only a x ≡ true) ⊎ (only a x ≡ false) → x is_in (p without only a) joined only a
    two x g (inl e) = or_right ((p without only a) x) (only a x) e
    two x g (inr e) = or_left ((p without only a) x) (only a x) (in_without p (only a) x g e)

pub one_if_le : (b : Bool) → one_if b ≤ 1
one_if_le true = omega arith
one_if_le false = omega arith

pub every_sound : (n m : ℕ) (s : Set) (f : Set → Bool) → every n m s f ≡ true → (p : Set) → p part_of s → Below n p → size n p ≤ m → f p ≡ true
unfolding every size
every_sound zero m s f h p ps pn few = rw (below_empty p pn) h
every_sound (suc n) zero s f h p ps pn few = go (test (p n)) (every_sound n zero s f h p ps)
  where
    go : (p n ≡ true) ⊎ (p n ≡ false) → (Below n p → size n p ≤ 0 → f p ≡ true) → f p ≡ true
    go (inl e) ih = absurd (omega (arith, rw e at few))
    go (inr e) ih = ih (below_less n p pn e) (omega arith)
every_sound (suc n) (suc m) s f h p ps pn few =
    go (test (p n)) (every_sound n (suc m) s f (and_left (every n (suc m) s f) (guard (s n) (every n m s f')) h) p ps)
    (λ g. every_sound n m s f' g (p without only n) (λ x a. ps x (of_without p (only n) x a).0))
  where
    f' : Set → Bool
    f' q = f (q joined only n)

    go : (p n ≡ true) ⊎ (p n ≡ false) → (Below n p → size n p ≤ suc m → f p ≡ true)
        → (every n m s f' ≡ true → Below n (p without only n) → size n (p without only n) ≤ m → f' (p without only n) ≡ true) → f p ≡ true
    go (inr e) ih ih' = ih (below_less n p pn e) (omega arith)
    go (inl e) ih ih' = rw (put_back p n e) at
        (ih' (guard_out (s n) (every n m s f') (and_right (every n (suc m) s f) (guard (s n) (every n m s f')) h) (ps n e))
        (below_less n (p without only n) (λ x a. pn x (of_without p (only n) x a).0) (cc (e, is_only n)))
        (omega (arith, rw e at few, size-sub n (p without only n) p (λ x a. (of_without p (only n) x a).0))))

pub every_complete : (n m : ℕ) (s : Set) (f : Set → Bool) → ((p : Set) → p part_of s → Below n p → size n p ≤ m → f p ≡ true) → every n m s f ≡ true
unfolding every size
every_complete zero m s f h = h none (λ x g. absurd (false≢true g)) (λ x g. absurd (false≢true g)) (omega arith)
every_complete (suc n) zero s f h = every_complete n zero s f (λ p ps pn few.
    h p ps (λ x g. omega (arith, pn x g)) (rw (not_past n p pn) (omega arith)))
every_complete (suc n) (suc m) s f h = and_in (every n (suc m) s f) (guard (s n) (every n m s f'))
    (every_complete n (suc m) s f (λ p ps pn few. h p ps (λ x g. omega (arith, pn x g)) (rw (not_past n p pn) (omega arith))))
    (guard_in (s n) (every n m s f') (λ e. every_complete n m s f' (λ p ps pn few. with_n e p ps pn few)))
  where
    f' : Set → Bool
    f' q = f (q joined only n)

    with_n : n is_in s → (p : Set) → p part_of s → Below n p → size n p ≤ m → f (p joined only n) ≡ true
    with_n e p ps pn few = h (p joined only n) (λ x g. one x (or_cases (p x) (only n x) g)) (λ x g. two x (or_cases (p x) (only n x) g))
        (omega (arith, one_if_le ((p joined only n) n), size_mono n (p joined only n) p (λ x l g. three x l (or_cases (p x) (only n x) g))))
      where
        one : (x : ℕ) → (p x ≡ true) ⊎ (only n x ≡ true) → x is_in s
        one x (inl a) = ps x a
        one x (inr a) = rw (only_is n x a) e

        two : (x : ℕ) → (p x ≡ true) ⊎ (only n x ≡ true) → x < suc n
        two x (inl a) = omega (arith, pn x a)
        two x (inr a) = omega (arith, only_is n x a)

        three : (x : ℕ) → x < n → (p x ≡ true) ⊎ (only n x ≡ true) → x is_in p
        three x l (inl a) = a
        three x l (inr a) = absurd (omega (arith, only_is n x a))

pub every_part_sound : (n k : ℕ) (s : Set) (f : Set → Bool) → Below n s → every_part n k s f ≡ true → (p : Set) → p part_of s → size n p < k → f p ≡ true
unfolding every_part
every_part_sound n zero s f sn h p ps few = absurd (omega arith)
every_part_sound n (suc m) s f sn h p ps few = every_sound n m s f h p ps (λ x g. sn x (ps x g)) (omega arith)

pub every_part_complete : (n k : ℕ) (s : Set) (f : Set → Bool) → ((p : Set) → p part_of s → size n p < k → f p ≡ true) → every_part n k s f ≡ true
unfolding every_part
every_part_complete n zero s f h = refl
every_part_complete n (suc m) s f h = every_complete n m s f (λ p ps pn few. h p ps (omega arith))

-- holdsb

pub less : (n : ℕ) (s p : Set) → Below n s → Below n (s without p)
less n s p h x g = h x (of_without s p x g).0

pub holds_sound : (L : Links) (n k : ℕ) (s : Set) → Mesh L → Below n s → holdsb L n k s ≡ true → Holds L n k s
unfolding holdsb
holds_sound L n k s m sn h = record {
  below = sn;
  above = ltb-true k (size n s) (and_left (ltb k (size n s)) parts h);
  firm = λ p ps few. whole_sound L n (s without p) m (less n s p sn)
      (every_part_sound n k s (λ p. wholeb L n (s without p)) sn (and_right (ltb k (size n s)) parts h) p ps few);
}
  where
    parts : Bool
    parts = every_part n k s (λ p. wholeb L n (s without p))

pub holds_complete : (L : Links) (n k : ℕ) (s : Set) → Holds L n k s → holdsb L n k s ≡ true
unfolding holdsb
holds_complete L n k s h = and_in (ltb k (size n s)) (every_part n k s (λ p. wholeb L n (s without p))) (lt-ltb k (size n s) h.above)
    (every_part_complete n k s (λ p. wholeb L n (s without p)) (λ p ps few. whole_complete L n (s without p) (less n s p h.below) (h.firm p ps few)))

-- subb, not_afterb, weak_setb, groupsb

pub sub_sound : (n : ℕ) (p s : Set) → Below n p → subb n p s ≡ true → p part_of s
unfolding subb
sub_sound n p s pn h x g = guard_out (p x) (s x) (each_out n (λ x. guard (p x) (s x)) h x (pn x g)) g

pub not_after : (n : ℕ) (p q : Set) → Below n p → Below n q → not_afterb n p q ≡ true → (q ≡ p) ⊎ Before p q
unfolding not_afterb
not_after n p q pn qn h = go (dec_lt 0 (size n d))
  where
    d : Set
    d = (p without q) joined (q without p)

    same : (y : ℕ) → y not_in d → p y ≡ q y
    same y = by (p y) (q y)
      where
        by : (a b : Bool) → (a && not b) || (b && not a) ≡ false → a ≡ b
        by true true e = refl
        by true false e = absurd (true≢false e)
        by false true e = absurd (true≢false e)
        by false false e = refl

    past : (y : ℕ) → n ≤ y → y not_in d
    past y l = rw (out p pn, out q qn) refl
      where
        out : (s : Set) → Below n s → s y ≡ false
        out s sn = elim (test (s y)) [ inl e ↦ absurd (omega (arith, sn y e)) | inr e ↦ e ]

    nobody : size n d ≡ 0 → (y : ℕ) → Dec (y < n) → y not_in d
    nobody e y (yes l) = none_of n d e y l
    nobody e y (no l) = past y (omega arith)

    first : (x : ℕ) → x < n → ((y : ℕ) → y < x → y not_in d) → (x is_in p without q) ⊎ (x is_in q without p) → Before p q
    first x l m (inl a) = let w = of_without p q x a in record { at = x; mine = w.0; theirs = w.1; alike = λ y b. same y (m y b) }
    first x l m (inr a) = let r = any_out x (λ y. p y && not (q y)) (guard_out (q x && not (p x)) (any x (λ y. p y && not (q y)))
        (each_out n (λ x. guard (q x && not (p x)) (any x (λ y. p y && not (q y)))) h x l) a) in
        never (d r.0) (or_left ((p without q) r.0) ((q without p) r.0) r.2) (m r.0 r.1)

    go : Dec (0 < size n d) → (q ≡ p) ⊎ Before p q
    go (no e) = inl (fun_ext (λ y. sym (same y (nobody (omega arith) y (dec_lt y n)))))
    go (yes e) = let r = least n d e in inr (first r.0 r.1 r.3 (or_cases ((p without q) r.0) ((q without p) r.0) r.2))

pub weak_set_sound : (L : Links) (n k : ℕ) (s p : Set) → Mesh L → Below n s → Below n p → weak_setb L n k s p ≡ true → WeakSet L n k s p
unfolding weak_setb
weak_set_sound L n k s p m sn pn h = record {
  weak = record { part = part; few = ltb-true (size n p) k (and_right c1 c2 (and_left (c1 && c2) c3 h3)); parts = parts };
  smallest = λ q w. by_smallest q w (dec_le (size n p) (size n q));
  first = λ q w e. by_first q w (omega arith);
}
  where
    c1 : Bool
    c1 = subb n p s

    c2 : Bool
    c2 = ltb (size n p) k

    c3 : Bool
    c3 = not (wholeb L n (s without p))

    f : Set → Bool
    f q = wholeb L n (s without q) || (eqb (size n q) (size n p) && not_afterb n p q)

    c4 : Bool
    c4 = every n (size n p) s f

    h3 : c1 && c2 && c3 ≡ true
    h3 = and_left (c1 && c2 && c3) c4 h

    part : p part_of s
    part = sub_sound n p s pn (and_left c1 c2 (and_left (c1 && c2) c3 h3))

    parts : ¬ Whole L (s without p)
    parts w = absurd (true≢false (sym (whole_complete L n (s without p) (less n s p sn) w) ∙ not_true (wholeb L n (s without p)) (and_right (c1 && c2) c3 h3)))

    -- a weak part of at most p's size has p's size, and does not come before p
    all : (q : Set) → Weak L n k s q → size n q ≤ size n p → (size n q ≡ size n p) × ((q ≡ p) ⊎ Before p q)
    all q w l = go (or_cases (wholeb L n (s without q)) t (every_sound n (size n p) s f (and_right (c1 && c2 && c3) c4 h) q w.part qn l))
      where
        qn : Below n q
        qn x g = sn x (w.part x g)

        t : Bool
        t = eqb (size n q) (size n p) && not_afterb n p q

        go : (wholeb L n (s without q) ≡ true) ⊎ (t ≡ true) → (size n q ≡ size n p) × ((q ≡ p) ⊎ Before p q)
        go (inl e) = absurd (w.parts (whole_sound L n (s without q) m (less n s q sn) e))
        go (inr e) = (
          eqb-true (size n q) (size n p) (and_left (eqb (size n q) (size n p)) (not_afterb n p q) e),
          not_after n p q pn qn (and_right (eqb (size n q) (size n p)) (not_afterb n p q) e),
        )

    by_smallest : (q : Set) → Weak L n k s q → Dec (size n p ≤ size n q) → size n p ≤ size n q
    by_smallest q w (yes d) = d
    by_smallest q w (no d) = omega (arith, (all q w (omega arith)).0)

    by_first : (q : Set) → Weak L n k s q → size n q ≤ size n p → (q ≡ p) ⊎ Before p q
    by_first q w l = (all q w l).1

pub groups_sound : (L : Links) (n k g : ℕ) (R : ℕ → Set) → Mesh L → ((i : ℕ) → i < g → Below n (R i)) → groupsb L n k g R ≡ true → Groups L n k g R
unfolding groupsb
groups_sound L n k g R m rn h = rows L n k g R (record {
  hold = λ i l. holds_sound L n k (R i) m (rn i l) (each_out g (λ i. holdsb L n k (R i)) (and_left c1 c2 (and_left (c1 && c2) c3 h)) i l);
  inside = λ i l x a. lt-ltb x n (rn i l x a);
  cover = λ H hH hD. by_cover H hH;
  share = λ i j l r d. by_share i j l r d;
})
  where
    c1 : Bool
    c1 = each g (λ i. holdsb L n k (R i))

    c2 : Bool
    c2 = each g (λ i. each g (λ j. eqb i j || ltb (size n (R i cut R j)) k))

    c3 : Bool
    c3 = every n n (stations n) (λ s. guard (holdsb L n k s) (any g (λ i. subb n s (R i))))

    by_cover : (H : Set) → Holds L n k H → (i : ℕ) × (i < g) × (H part_of R i)
    by_cover H hH = let r = any_out g (λ i. subb n H (R i)) (guard_out (holdsb L n k H) (any g (λ i. subb n H (R i)))
        (every_sound n n (stations n) (λ s. guard (holdsb L n k s) (any g (λ i. subb n s (R i)))) (and_right (c1 && c2) c3 h) H
        (λ x a. lt-ltb x n (hH.below x a)) hH.below (size_le n H)) (holds_complete L n k H hH)) in
        (r.0, r.1, sub_sound n H (R r.0) hH.below r.2)

    by_share : (i j : ℕ) → i < g → j < g → ¬ (i ≡ j) → size n (R i cut R j) < k
    by_share i j l r d = go (or_cases (eqb i j) (ltb (size n (R i cut R j)) k)
        (each_out g (λ j. eqb i j || ltb (size n (R i cut R j)) k) (each_out g (λ i. each g (λ j. eqb i j || ltb (size n (R i cut R j)) k)) (and_right c1 c2 (and_left (c1 && c2) c3 h)) i l) j r))
      where
        go : (eqb i j ≡ true) ⊎ (ltb (size n (R i cut R j)) k ≡ true) → size n (R i cut R j) < k
        go (inl e) = absurd (d (eqb-true i j e))
        go (inr e) = ltb-true (size n (R i cut R j)) k e
