-- Chains: how Touch goes with larger sets, longer chains and back; a set of one is whole (one_whole); a station of a set that holds at k has at
-- least k links inside it (degree).
use mathlib.Core.Path.{◌≡◌}
use mathlib.Core.Bool.{true}
use Prim.Native.Nat.{ℕ, ◌≤◌}
use native.Mathlib.Omega.{arith}
use native.Mathlib.Decide.{dec_le}
use Rattle.stations.specs.Sets.{Set, ◌is_in◌, ◌not_in◌, ◌part_of◌, only, ◌without◌, ◌cut◌, size}
use Rattle.mesh.specs.Mesh.{Links, Mesh, Touch, here, step, Whole, Holds}
use Rattle.stations.proofs.Bools.{never, and_left, and_in}
use Rattle.stations.proofs.Members.{of_without, in_without, only_is, is_only}
use Rattle.stations.proofs.Counting.{size_minus, size-only, more}

module _ {L : Links} {s : Set} where
  pub touch_sub : {t : Set} {a b : ℕ} → s part_of t → Touch L s a b → Touch L t a b
  touch_sub h (here {a = a} p) = here (h a p)
  touch_sub h (step {a = a} p l c) = step (h a p) l (touch_sub h c)

  pub touch_start : {a b : ℕ} → Touch L s a b → a is_in s
  touch_start (here p) = p
  touch_start (step p l c) = p

  pub touch_end : {a b : ℕ} → Touch L s a b → b is_in s
  touch_end (here p) = p
  touch_end (step p l c) = touch_end c

  pub touch_join : {a b c : ℕ} → Touch L s a b → Touch L s b c → Touch L s a c
  touch_join (here p) d = d
  touch_join (step p l c) d = step p l (touch_join c d)

  pub touch_link : {a b c : ℕ} → Touch L s a b → L b c ≡ true → c is_in s → Touch L s a c
  touch_link c l p = touch_join c (step (touch_end c) l (here p))

  pub touch_back : {a b : ℕ} → Mesh L → Touch L s a b → Touch L s b a
  touch_back m (here p) = here p
  touch_back m (step {a = a} {b = b} p l c) = touch_link (touch_back m c) (m.both a b l) p

  -- a set that is closed under links inside s has the end of each chain in s whose start it has
  pub closed_touch : (i : Set) → ((x y : ℕ) → x is_in i → y is_in s → L x y ≡ true → y is_in i) → {a b : ℕ} → Touch L s a b → a is_in i → b is_in i
  closed_touch i cl (here p) h = h
  closed_touch i cl (step {a = a} {b = b} p l c) h = closed_touch i cl c (cl a b h (touch_start c) l)

-- a set of one is whole
pub one_whole : (L : Links) (a : ℕ) → Whole L (only a)
one_whole L a x y h g = rw (only_is a x h, only_is a y g) (here (is_only a))

-- each station of a set that holds at k has at least k links inside it
pub degree : (L : Links) (n k : ℕ) (s : Set) → Mesh L → Holds L n k s → (x : ℕ) → x is_in s → k ≤ size n (s cut L x)
degree L n k s m h x g = go (dec_le k (size n p))
  where
    p : Set
    p = s cut L x

    -- a chain from x in s without p stays at x
    stays : {a b : ℕ} → Touch L (s without p) a b → a is_in only x → b is_in only x
    stays = closed_touch (only x) (λ a b i j l. let w = of_without s p b j in
        never (p b) (and_in (s b) (L x b) w.0 (rw (only_is x a i) at l)) w.1)

    xp : x not_in p
    xp = cc (g, m.apart x)

    go : Dec (k ≤ size n p) → k ≤ size n p
    go (yes d) = d
    go (no d) =
        let ps : p part_of s = λ a. and_left (s a) (L x a) in
        let y = more n (only x) (s without p) (omega (arith, size-only n x (h.below x g), size_minus n s p ps, h.above)) in
        let c = h.firm p ps (omega arith) x y.0 (in_without s p x g xp) y.2 in
        never (only x y.0) (stays c (is_only x)) y.3
