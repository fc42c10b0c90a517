-- The first of the sets sought, station by station: stations are tried in ascending order, and j is taken when some set sought has it and those
-- taken before. A witness, a set sought that has all the taken ones, is kept.
use mathlib.Core.Path.{◌≡◌, refl, sym, ◌∙◌, subst}
use mathlib.Core.Logic.{◌⊎◌, inl, inr}
use mathlib.Core.Bool.{Bool, true, false, ◌||◌}
use Prim.Native.Nat.{ℕ, ◌+◌, ◌-◌, ◌<◌}
use native.Mathlib.Omega.{arith}
use native.Mathlib.Decide.{dec_lt}
use Rattle.stations.specs.Sets.{Set, ◌is_in◌, ◌not_in◌, ◌part_of◌, none, only, ◌without◌, ◌joined◌, Below, Before, size}
use Rattle.stations.proofs.Bools.{test, never, not_so, or_left, or_right}
use Rattle.stations.proofs.Members.{of_without, in_without, same_set, only_is, is_only, not_only}
use Rattle.stations.proofs.Counting.{full, more, size_empty, size-only, size_disjoint}
use Rattle.search.proofs.Parts.{nothing, joined_part, without_less, without_one}

-- r are the stations of p not yet tried, all above those tried; left more are to be taken, c in all; W says which sets are sought
pub record Taking (n : ℕ) (W : Set → Type 0) (p : Set) (c : ℕ) (taken witness r : Set) (left : ℕ) : Type 0 where
  pub sought : W witness
  pub has : taken part_of witness
  pub inside : r part_of p
  pub tried : taken part_of p without r
  pub above : (x y : ℕ) → x is_in p without r → y is_in r → x < y
  pub count : size n taken + left ≡ c
  -- a set sought comes after what is taken, or agrees with it on the stations tried
  pub first : (q : Set) → W q → Before taken q ⊎ ((x : ℕ) → x is_in p without r → q x ≡ taken x)

module _ {n : ℕ} {W : Set → Type 0} {p : Set} {c : ℕ} (part : (q : Set) → W q → q part_of p) (sized : (q : Set) → W q → size n q ≡ c) where
  pub taking_begin : (witness : Set) → W witness → Taking n W p c none witness p c
  taking_begin witness w = record {
    sought = w;
    has = λ x g. never false g refl;
    inside = λ x g. g;
    tried = λ x g. never false g refl;
    above = λ x y g. absurd (nothing p x g);
    count = omega (arith, size_empty n);
    first = λ q v. inr (λ x g. absurd (nothing p x g));
  }

  module _ {taken witness r : Set} {left : ℕ} (h : Taking n W p c taken witness r left) where
    -- what agrees with the taken ones on the stations tried has them
    agrees_has : (q : Set) → ((x : ℕ) → x is_in p without r → q x ≡ taken x) → taken part_of q
    agrees_has q f x g = f x (h.tried x g) ∙ g

    agrees_out : (q : Set) → ((x : ℕ) → x is_in p without r → q x ≡ taken x) → (x : ℕ) → x is_in q → x not_in r → x is_in p → x is_in taken
    agrees_out q f x g o i = sym (f x (in_without p r x i o)) ∙ g

    pub fresh : (j : ℕ) → j is_in r → j not_in taken
    fresh j a = not_so (taken j) (λ g. never (r j) a (of_without p r j (h.tried j g)).1)

    -- another set sought may be the witness
    pub taking_witness : (s : Set) → W s → taken part_of s → Taking n W p c taken s r left
    taking_witness s w sub = record { sought = w; has = sub; inside = h.inside; tried = h.tried; above = h.above; count = h.count; first = h.first }

    -- while some are to be taken, some station is not tried yet
    pub taking_more : Below n p → 0 < left → (x : ℕ) × (x < n) × (x is_in r)
    taking_more pn pos = from (more n taken witness (omega (arith, h.count, sized witness h.sought))) (h.first witness h.sought)
      where
        from : (x : ℕ) × (x < n) × (x is_in witness) × (x not_in taken) → Before taken witness ⊎ ((x : ℕ) → x is_in p without r → witness x ≡ taken x) → (x : ℕ) × (x < n) × (x is_in r)
        from (x, l, a, b) (inl f) = never (witness f.at) (h.has f.at f.mine) f.theirs
        from (x, l, a, b) (inr f) = by (test (r x))
          where
            by : (r x ≡ true) ⊎ (r x ≡ false) → (x : ℕ) × (x < n) × (x is_in r)
            by (inl e) = (x, l, e)
            by (inr e) = never (taken x) (agrees_out witness f x a e (part witness h.sought x a)) b

    -- the end: what is taken is sought, and the first of those sought
    pub taking_end : Below n p → left ≡ 0 → W taken × ((q : Set) → W q → (q ≡ taken) ⊎ Before taken q)
    taking_end pn e = (subst W (is witness h.sought h.has) h.sought, λ q w. go q w (h.first q w))
      where
        is : (q : Set) → W q → taken part_of q → q ≡ taken
        is q w f = same_set q taken (full n taken q (λ x g. pn x (part q w x g)) f (omega (arith, h.count, sized q w))) f

        go : (q : Set) → W q → Before taken q ⊎ ((x : ℕ) → x is_in p without r → q x ≡ taken x) → (q ≡ taken) ⊎ Before taken q
        go q w (inl f) = inr f
        go q w (inr f) = inl (is q w (agrees_has q f))

    -- j is the smallest station not yet tried
    module _ (j : ℕ) (mine : j is_in r) (least : (y : ℕ) → y < j → y not_in r) where
      rises : (x y : ℕ) → x is_in p without (r without only j) → y is_in r without only j → x < y
      rises x y g i = by (without_one p r j x g) (of_without r (only j) y i)
        where
          by : (x is_in p without r) ⊎ (x ≡ j) → (y is_in r) × (y not_in only j) → x < y
          by (inl a) (b, o) = h.above x y a b
          by (inr a) (b, o) = go (dec_lt y j) (dec_lt j y)
            where
              go : Dec (y < j) → Dec (j < y) → x < y
              go (yes l) k = never (r y) b (least y l)
              go (no l) (yes k) = omega arith
              go (no l) (no k) = let e : y ≡ j = omega arith in never (only j y) (rw e (is_only j)) o

      -- j is passed by: no set sought has it and the taken ones
      pub taking_pass : ((q : Set) → W q → taken part_of q → j is_in q → ⊥) → Taking n W p c taken witness (r without only j) left
      taking_pass never-has = record {
        sought = h.sought;
        has = h.has;
        inside = λ x g. h.inside x (of_without r (only j) x g).0;
        tried = λ x g. without_less p r j x (h.tried x g);
        above = rises;
        count = h.count;
        first = λ q w. go q w (h.first q w);
      }
        where
          go : (q : Set) → W q → Before taken q ⊎ ((x : ℕ) → x is_in p without r → q x ≡ taken x) → Before taken q ⊎ ((x : ℕ) → x is_in p without (r without only j) → q x ≡ taken x)
          go q w (inl f) = inl f
          go q w (inr f) = inr (λ x g. by x (without_one p r j x g))
            where
              lacks : j not_in q
              lacks = not_so (q j) (λ a. never-has q w (agrees_has q f) a)

              by : (x : ℕ) → (x is_in p without r) ⊎ (x ≡ j) → q x ≡ taken x
              by x (inl a) = f x a
              by x (inr a) = rw (a, lacks, fresh j mine) refl

      -- j is taken: a set sought has it and the taken ones
      pub taking_take : (s : Set) → W s → taken part_of s → j is_in s → Below n p → 0 < left → Taking n W p c (taken joined only j) s (r without only j) (left - 1)
      taking_take s w sub js pn pos = record {
        sought = w;
        has = joined_part taken (only j) s sub (λ x g. rw (only_is j x g) js);
        inside = λ x g. h.inside x (of_without r (only j) x g).0;
        tried = joined_part taken (only j) (p without (r without only j)) (λ x g. without_less p r j x (h.tried x g)) (λ x g. rw (only_is j x g, h.inside j mine, mine, is_only j) refl);
        above = rises;
        count = omega (arith, h.count, size_disjoint n taken (only j) apart, size-only n j (pn j (h.inside j mine)));
        first = λ q v. go q v (h.first q v) (test (q j));
      }
        where
          apart : (x : ℕ) → x is_in taken → x not_in only j
          apart x g = not_only j x (λ e. never (taken j) (rw (← e) g) (fresh j mine))

          -- below j nothing is new
          low : (x : ℕ) → x < j → (taken joined only j) x ≡ taken x
          low x l = rw (not_only j x (λ e. omega arith)) (by (taken x))
            where
              by : (b : Bool) → b || false ≡ b
              by true = refl
              by false = refl

          same : (q : Set) → W q → ((x : ℕ) → x is_in p without r → q x ≡ taken x) → (y : ℕ) → y < j → taken y ≡ q y
          same q v f y l = by (test (p y))
            where
              off : (t : Set) → t part_of p → y not_in p → y not_in t
              off t tp o = not_so (t y) (λ a. never (p y) (tp y a) o)

              by : (p y ≡ true) ⊎ (p y ≡ false) → taken y ≡ q y
              by (inl a) = sym (f y (in_without p r y a (least y l)))
              by (inr a) = off taken (λ x g. (of_without p r x (h.tried x g)).0) a ∙ sym (off q (part q v) a)

          go : (q : Set) → W q → Before taken q ⊎ ((x : ℕ) → x is_in p without r → q x ≡ taken x) → (q j ≡ true) ⊎ (q j ≡ false)
              → Before (taken joined only j) q ⊎ ((x : ℕ) → x is_in p without (r without only j) → q x ≡ (taken joined only j) x)
          go q v (inl f) e =
              let l : f.at < j = h.above f.at j (h.tried f.at f.mine) mine in
              inl (record { at = f.at; mine = or_left (taken f.at) (only j f.at) f.mine; theirs = f.theirs; alike = λ y i. low y (omega (arith, i)) ∙ f.alike y i })
          go q v (inr f) (inr e) = inl (record { at = j; mine = or_right (taken j) (only j j) (is_only j); theirs = e; alike = λ y l. low y l ∙ same q v f y l })
          go q v (inr f) (inl e) = inr (λ x g. by x (without_one p r j x g))
            where
              by : (x : ℕ) → (x is_in p without r) ⊎ (x ≡ j) → q x ≡ (taken joined only j) x
              by x (inl a) = f x a ∙ sym (low x (h.above x j a mine))
              by x (inr a) = rw a (e ∙ sym (or_right (taken j) (only j j) (is_only j)))
