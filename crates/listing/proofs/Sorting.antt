-- Sorting by insertion. The set s of row i goes to row j: the rows before j stay, those from j on move up by one, and s comes before them (Shifting).
-- Where s comes after row j - 1 too, the rows up to i are in order (inserted). Row after row, all g of them are (Sorting).
use mathlib.Core.List.{List}
use mathlib.Core.Logic.{◌⊎◌, inl, inr}
use mathlib.Core.Path.{◌≡◌, refl, sym, ap, ◌∙◌, subst}
use Prim.Native.Nat.{ℕ, ◌+◌, ◌-◌, ◌<◌, ◌≤◌}
use native.Mathlib.Decide.{ℕ_discrete, dec_lt}
use native.Mathlib.Omega.{arith}
use Rattle.stations.specs.Sets.{Set, Below, Before}
use Rattle.stations.specs.Words.{row}
use Rattle.stations.proofs.Laws.{has_small}
use Rattle.stations.proofs.Order.{before_trans, before_total, before_not_self}
use Rattle.listing.specs.List.{set_at}
use Rattle.listing.specs.Rows.{Kept, Stored, Ordered, Different, Unsorted, Sorted}
use Rattle.listing.proofs.Lists.{kept_none, kept_more, kept_less, kept_row}

pub record Shifting (l : List ℕ) (i : ℕ) (s : Set) (j : ℕ) (l' : List ℕ) : Type 0 where
  pub mine : s ≡ set_at l i
  pub upto : j ≤ i
  pub low : (m : ℕ) → m < j → set_at l' m ≡ set_at l m
  pub high : (m : ℕ) → j ≤ m → m < i → set_at l' (m + 1) ≡ set_at l m
  pub first : (m : ℕ) → j ≤ m → m < i → Before s (set_at l m)
  pub kept : Kept (i + 1) l l'

small : (l : List ℕ) (i : ℕ) → Below 256 (set_at l i)
small l i x h = has_small (row l i) x refl h

module _ {l : List ℕ} {i : ℕ} {s : Set} {j : ℕ} {l' : List ℕ} (h : Shifting l i s j l') (u : Unsorted l i) where
  -- of row j - 1 and s, that do not stand in this order, s comes first
  turned : (j ≡ 0 → ⊥) → (Before (set_at l (j - 1)) s → ⊥) → Before s (set_at l (j - 1))
  turned n b = go (before_total 256 (set_at l (j - 1)) (set_at l i) (small l (j - 1)) (small l i))
    where
      up : j ≤ i
      up = h.upto

      go : (set_at l (j - 1) ≡ set_at l i) ⊎ (Before (set_at l (j - 1)) (set_at l i) ⊎ Before (set_at l i) (set_at l (j - 1))) → Before s (set_at l (j - 1))
      go (inl e) = absurd (omega (arith, positive j n, u.differ (j - 1) i (omega arith) (omega arith) e))
        where
          positive : (m : ℕ) → (m ≡ 0 → ⊥) → 0 < m
          positive m d = omega arith
      go (inr (inl p)) = absurd (b (rw h.mine p))
      go (inr (inr p)) = rw h.mine p

  -- row j - 1 as it stood
  row_below : (A : Set) → (j ≡ 0 → ⊥) → A ≡ set_at l' (j - 1) → A ≡ set_at l (j - 1)
  row_below A n e = e ∙ h.low (j - 1) (positive j n)
    where
      positive : (m : ℕ) → (m ≡ 0 → ⊥) → m - 1 < m
      positive m d = omega arith

  pub shift_stop : (A : Set) → (j ≡ 0 → ⊥) → A ≡ set_at l' (j - 1) → Before A s → Before (set_at l (j - 1)) s
  shift_stop A n e b = subst (λ (z : Set). Before z s) (row_below A n e) b

  pub shift_one : (l'' : List ℕ) (A : Set) → (j ≡ 0 → ⊥) → A ≡ set_at l' (j - 1) → (Before A s → ⊥) → Stored l' j A l'' → Shifting l i s (j - 1) l''
  shift_one l'' A n e b st = record {
    mine = h.mine;
    upto = omega (arith, h.upto);
    low = λ m a. st.other m (λ q. omega arith) ∙ h.low m (omega arith);
    high = λ m a c. high m c (ℕ_discrete (m + 1) j) a;
    first = λ m a c. first m c (ℕ_discrete (m + 1) j) a;
    kept = kept_more h.kept (kept_less (i + 1) (omega (arith, h.upto)) st.kept);
  }
    where
      is : A ≡ set_at l (j - 1)
      is = row_below A n e

      high : (m : ℕ) → m < i → Dec (m + 1 ≡ j) → j - 1 ≤ m → set_at l'' (m + 1) ≡ set_at l m
      high m c (yes q) a = ap (set_at l'') q ∙ st.here ∙ is ∙ ap (set_at l) (omega arith)
      high m c (no q) a = st.other (m + 1) q ∙ h.high m (omega arith) c

      first : (m : ℕ) → m < i → Dec (m + 1 ≡ j) → j - 1 ≤ m → Before s (set_at l m)
      first m c (yes q) a = subst (λ (r : ℕ). Before s (set_at l r)) (omega arith) (turned n (λ p. b (rw is p)))
      first m c (no q) a = h.first m (omega arith) c

  -- s takes row j, and row j - 1 comes before it
  pub inserted : (l'' : List ℕ) → Stored l' j s l'' → (j ≡ 0) ⊎ Before (set_at l (j - 1)) s → Sorted l (i + 1) l''
  inserted l'' st top = record { from = from; onto = onto; order = order; kept = kept_more h.kept (kept_less (i + 1) (omega (arith, h.upto)) st.kept) }
    where
      up : j ≤ i
      up = h.upto

      low : (m : ℕ) → m < j → set_at l'' m ≡ set_at l m
      low m a = st.other m (λ q. omega arith) ∙ h.low m a

      mid : set_at l'' j ≡ set_at l i
      mid = st.here ∙ h.mine

      high : (m : ℕ) → j ≤ m → m < i → set_at l'' (m + 1) ≡ set_at l m
      high m a b = st.other (m + 1) (λ q. omega arith) ∙ h.high m a b

      -- where row m came from
      Came : ℕ → Type 0
      Came m = (m < j) ⊎ ((m ≡ j) ⊎ ((r : ℕ) × (m ≡ r + 1) × (j ≤ r) × (r < i)))

      came : (m : ℕ) → m < i + 1 → Came m
      came m a = go (dec_lt m j) (ℕ_discrete m j)
        where
          go : Dec (m < j) → Dec (m ≡ j) → Came m
          go (yes p) q = inl p
          go (no p) (yes q) = inr (inl q)
          go (no p) (no q) = inr (inr (m - 1, omega arith, omega arith, omega arith))

      from : (m : ℕ) → m < i + 1 → (r : ℕ) × (r < i + 1) × (set_at l'' m ≡ set_at l r)
      from m a = go (came m a)
        where
          go : Came m → (r : ℕ) × (r < i + 1) × (set_at l'' m ≡ set_at l r)
          go (inl p) = (m, omega arith, low m p)
          go (inr (inl p)) = (i, omega arith, ap (set_at l'') p ∙ mid)
          go (inr (inr (r, e, p, q))) = (r, omega arith, ap (set_at l'') e ∙ high r p q)

      onto : (r : ℕ) → r < i + 1 → (m : ℕ) × (m < i + 1) × (set_at l r ≡ set_at l'' m)
      onto r a = go (dec_lt r j) (ℕ_discrete r i)
        where
          go : Dec (r < j) → Dec (r ≡ i) → (m : ℕ) × (m < i + 1) × (set_at l r ≡ set_at l'' m)
          go (yes p) q = (r, omega arith, sym (low r p))
          go (no p) (yes q) = (j, omega arith, ap (set_at l) q ∙ sym mid)
          go (no p) (no q) = (r + 1, omega arith, sym (high r (omega arith) (omega arith)))

      -- the rows before j come before s
      under : (m : ℕ) → m < j → Before (set_at l m) (set_at l i)
      under m a = go top (ℕ_discrete m (j - 1))
        where
          go : (j ≡ 0) ⊎ Before (set_at l (j - 1)) s → Dec (m ≡ j - 1) → Before (set_at l m) (set_at l i)
          go (inl e) d = absurd (omega arith)
          go (inr b) (yes e) = rw (e, ← h.mine) b
          go (inr b) (no d) = before_trans (set_at l m) (set_at l (j - 1)) (set_at l i) (u.order m (j - 1) (omega arith) (omega arith)) (rw h.mine at b)

      order : Ordered (i + 1) (set_at l'')
      order a b lt bound = go (came a (omega arith)) (came b bound)
        where
          go : Came a → Came b → Before (set_at l'' a) (set_at l'' b)
          go (inl p) (inl q) = rw (low a p, low b q) (u.order a b lt (omega arith))
          go (inl p) (inr (inl q)) = rw (low a p, q, mid) (under a p)
          go (inl p) (inr (inr (r, e, x, y))) = rw (low a p, e, high r x y) (u.order a r (omega arith) y)
          go (inr (inl p)) (inl q) = absurd (omega arith)
          go (inr (inl p)) (inr (inl q)) = absurd (omega arith)
          go (inr (inl p)) (inr (inr (r, e, x, y))) = rw (p, mid, e, high r x y) (rw h.mine at (h.first r x y))
          go (inr (inr (r, e, x, y))) (inl q) = absurd (omega arith)
          go (inr (inr (r, e, x, y))) (inr (inl q)) = absurd (omega arith)
          go (inr (inr (r, e, x, y))) (inr (inr (r', e', x', y'))) = rw (e, high r x y, e', high r' x' y') (u.order r r' (omega arith) y')

-- the loop of `sort`: the first g rows hold the same sets, all different, and the first i are in order
pub record Sorting (l : List ℕ) (g i : ℕ) (l' : List ℕ) : Type 0 where
  pub from : (m : ℕ) → m < g → (r : ℕ) × (r < g) × (set_at l' m ≡ set_at l r)
  pub onto : (r : ℕ) → r < g → (m : ℕ) × (m < g) × (set_at l r ≡ set_at l' m)
  pub differ : Different g (set_at l')
  pub order : Ordered i (set_at l')
  pub kept : Kept g l l'

pub sort_none : (l : List ℕ) (g : ℕ) → Different g (set_at l) → Sorting l g 0 l
sort_none l g d = record {
  from = λ m h. (m, h, refl);
  onto = λ r h. (r, h, refl);
  differ = d;
  order = λ a b p q. absurd (omega arith);
  kept = kept_none g l;
}

module _ {l : List ℕ} {g i : ℕ} {l' : List ℕ} (s : Sorting l g i l') (lt : i < g) where
  pub sort_one : (l'' : List ℕ) → Sorted l' (i + 1) l'' → Sorting l g (i + 1) l''
  sort_one l'' t = record { from = from; onto = onto; differ = differ; order = t.order; kept = kept_more s.kept (kept_less g (omega arith) t.kept) }
    where
      past : (m : ℕ) → (m < i + 1 → ⊥) → set_at l'' m ≡ set_at l' m
      past m n = kept_row t.kept m (omega arith)

      -- row m holds what row r held
      back : (m : ℕ) → m < g → (r : ℕ) × (r < g) × (set_at l'' m ≡ set_at l' r)
      back m h = go (dec_lt m (i + 1))
        where
          go : Dec (m < i + 1) → (r : ℕ) × (r < g) × (set_at l'' m ≡ set_at l' r)
          go (yes p) = let x = t.from m p in (x.0, omega (arith, x.1), x.2)
          go (no p) = (m, h, past m p)

      from : (m : ℕ) → m < g → (r : ℕ) × (r < g) × (set_at l'' m ≡ set_at l r)
      from m h = let x = back m h in let y = s.from x.0 x.1 in (y.0, y.1, x.2 ∙ y.2)

      onto : (r : ℕ) → r < g → (m : ℕ) × (m < g) × (set_at l r ≡ set_at l'' m)
      onto r h = go (s.onto r h)
        where
          go : (m : ℕ) × (m < g) × (set_at l r ≡ set_at l' m) → (m : ℕ) × (m < g) × (set_at l r ≡ set_at l'' m)
          go (m, p, e) = by (dec_lt m (i + 1))
            where
              by : Dec (m < i + 1) → (m : ℕ) × (m < g) × (set_at l r ≡ set_at l'' m)
              by (yes q) = let x = t.onto m q in (x.0, omega (arith, x.1), e ∙ x.2)
              by (no q) = (m, p, e ∙ sym (past m q))

      apart : (a b : ℕ) → a < i + 1 → (b < i + 1 → ⊥) → b < g → set_at l'' a ≡ set_at l'' b → ⊥
      apart a b p n q e = go (t.from a p)
        where
          go : (r : ℕ) × (r < i + 1) × (set_at l'' a ≡ set_at l' r) → ⊥
          go (r, h, f) = omega (arith, s.differ r b (omega arith) q (sym f ∙ e ∙ past b n))

      differ : Different g (set_at l'')
      differ a b p q e = go (dec_lt a (i + 1)) (dec_lt b (i + 1)) (dec_lt a b) (dec_lt b a)
        where
          go : Dec (a < i + 1) → Dec (b < i + 1) → Dec (a < b) → Dec (b < a) → a ≡ b
          go (yes x) (no y) _ _ = absurd (apart a b x y q e)
          go (no x) (yes y) _ _ = absurd (apart b a y x p (sym e))
          go (no x) (no y) _ _ = s.differ a b p q (sym (past a x) ∙ e ∙ past b y)
          go (yes x) (yes y) (yes z) _ = absurd (before_not_self (set_at l'' b) (rw e at (t.order a b z y)))
          go (yes x) (yes y) (no _) (yes z) = absurd (before_not_self (set_at l'' a) (rw (← e) at (t.order b a z x)))
          go (yes x) (yes y) (no z) (no w) = omega arith
