-- A turn of the search takes up the piece in row g, pruned to P. Where P holds, it stays in row g and is done (finished). Where P has k stations or
-- fewer, the last row takes its place (dropped). Where a loss parts it, the last row takes its place and its parts come after the rows (divided). The
-- measure falls: row g had stations above k, and the parts have fewer of them than P.
use mathlib.Core.List.{List}
use mathlib.Core.Logic.{◌≢◌}
use mathlib.Core.Path.{◌≡◌, sym, ap, ◌∙◌, subst}
use Prim.Native.Nat.{ℕ, zero, suc, ◌+◌, ◌-◌, ◌*◌, ◌<◌, ◌≤◌}
use native.Mathlib.Decide.{ℕ_discrete, dec_lt}
use native.Mathlib.Omega.{arith}
use lib.ListN.{length}
use Rattle.stations.specs.Sets.{Set, size}
use Rattle.stations.proofs.Counting.{size-sub}
use Rattle.mesh.specs.Mesh.{Links, Holds, Weak}
use Rattle.mesh.specs.Table.{linked, Fits}
use Rattle.mesh.proofs.Bound.{total, total_same, weight}
use Rattle.mesh.proofs.Pieces.{Pieces, put, put_same, put_other, total_put, pieces_same, shrink, drop, few_sets, few_pieces}
use Rattle.listing.specs.List.{set_at}
use Rattle.listing.specs.Rows.{Kept, Stored}
use Rattle.listing.specs.Steps.{Pruned, over, Dividing, Divided, State, Turned}
use Rattle.listing.proofs.Lists.{kept_more, kept_less}
use Rattle.listing.proofs.Exchange.{total_both, exchange, replaced}

total_upto : (g c : ℕ) (f : ℕ → ℕ) → g ≤ c → total g f ≤ total c f
unfolding total
total_upto g zero f h = omega (arith, ap (λ (x : ℕ). total x f) (none g h))
  where
    none : (x : ℕ) → x ≤ 0 → x ≡ 0
    none x a = omega arith
total_upto g (suc c) f h = go (ℕ_discrete g (suc c)) (total_upto g c f)
  where
    go : Dec (g ≡ suc c) → (g ≤ c → total g f ≤ total c f) → total g f ≤ f c + total c f
    go (yes e) ih = omega (arith, ap (λ (x : ℕ). total x f) e)
    go (no d) ih = omega (arith, ih (omega arith))

-- a set that takes the place g of a family
module _ (Q Q' : ℕ → Set) (g : ℕ) (A : Set) (here : Q' g ≡ A) (other : (i : ℕ) → i ≢ g → Q' i ≡ Q i) where
  is_put : (i : ℕ) → Q' i ≡ put Q g A i
  is_put i = go (ℕ_discrete i g)
    where
      go : Dec (i ≡ g) → Q' i ≡ put Q g A i
      go (yes e) = ap Q' e ∙ here ∙ sym (put_same Q g A) ∙ ap (put Q g A) (sym e)
      go (no d) = other i d ∙ sym (put_other Q g A i d)

  total_place : (c : ℕ) (f : Set → ℕ) → g < c → total c (λ i. f (Q' i)) + f (Q g) ≡ total c (λ i. f (Q i)) + f A
  total_place c f l = omega (arith, total_put c Q g A f l, total_same c (λ i. f (Q' i)) (λ i. f (put Q g A i)) (λ i h. ap f (is_put i)))

  total_early : (f : Set → ℕ) → total g (λ i. f (Q' i)) ≡ total g (λ i. f (Q i))
  total_early f = total_same g (λ i. f (Q' i)) (λ i. f (Q i)) (λ i h. ap f (other i (λ e. omega arith)))

module _ {t l : List ℕ} {k w : ℕ} {D : Set} {g c : ℕ} (s : State t k w D l g c) where
  -- the rows fit
  pub rows_few : c ≤ w
  rows_few = few_pieces (linked t) 256 k w D c (set_at l) s.pieces s.large

  pub rows_room : c * 4 ≤ length l
  rows_room = omega (arith, rows_few, s.room)

  pub row_room : g < c → g * 4 + 4 ≤ length l
  row_room lt = omega (arith, rows_room)

  pub row_fits : g < c → Fits t (set_at l g)
  row_fits lt j h = s.fits j (s.pieces.inside g lt j h)

  -- no row is unfinished
  pub all_done : c ≤ g → State t k w D l g g
  all_done h = subst (λ (x : ℕ). State t k w D l g x) e s
    where
      e : c ≡ g
      e = omega (arith, s.upto)

  first_large : g < c → 0 < over k (set_at l g)
  first_large lt = omega (arith, s.large g lt)

  -- rows 0 to g have no more above k than all rows
  first_under : g < c → over k (set_at l g) + total g (λ i. over k (set_at l i)) ≤ total c (λ i. over k (set_at l i))
  unfolding total
  first_under lt = total_upto (suc g) c (λ i. over k (set_at l i)) (omega arith)

-- o is a state; what is shown of the next holds for every w and D
module _ {t l : List ℕ} {k v : ℕ} {E : Set} {g c : ℕ} (o : State t k v E l g c) (lt : g < c) (P : Set) (pr : Pruned (linked t) k (set_at l g) P) where
  abbrev L : Links
  L = linked t

  abbrev Q : ℕ → Set
  Q = set_at l

  over_P : over k P ≤ over k (Q g)
  over_P = omega (arith, size-sub 256 P (Q g) pr.part)

  pruned : {w : ℕ} {D : Set} → State t k w D l g c → Pieces L 256 k w D c (put Q g P)
  pruned {w = w} {D = D} s = shrink L 256 k w D c Q s.pieces g lt P pr.part pr.keeps

  -- P holds, and stays in row g
  module _ (l' : List ℕ) (holds : Holds L 256 k P) (st : Stored l g P l') where
    finished_state : (w : ℕ) (D : Set) → State t k w D l g c → State t k w D l' (g + 1) c × Kept w l l'
    finished_state w D s = (
      record {
        fits = s.fits;
        mesh = s.mesh;
        room = omega (arith, s.room, st.kept.long);
        upto = omega arith;
        pieces = pieces_same L 256 k w D c (put Q g P) (set_at l') (pruned s) (λ i h. sym (is_put Q (set_at l') g P st.here st.other i));
        large = λ i h. large i h (ℕ_discrete i g);
        firm = λ i h. firm i h (ℕ_discrete i g);
      },
      kept_less w (omega (arith, rows_few s)) st.kept,
    )
      where
        large : (i : ℕ) → i < c → Dec (i ≡ g) → k < size 256 (set_at l' i)
        large i h (yes e) = rw (ap (set_at l') e ∙ st.here) holds.above
        large i h (no d) = rw (st.other i d) (s.large i h)

        firm : (i : ℕ) → i < g + 1 → Dec (i ≡ g) → Holds L 256 k (set_at l' i)
        firm i h (yes e) = subst (λ (z : Set). Holds L 256 k z) (sym (ap (set_at l') e ∙ st.here)) holds
        firm i h (no d) = subst (λ (z : Set). Holds L 256 k z) (sym (st.other i d)) (s.firm i (omega arith))

    pub finished : Turned t k l g c l' (g + 1) c
    unfolding total
    finished = record {
      state = finished_state;
      less = omega (
        arith,
        total_place Q (set_at l') g P st.here st.other c (over k) lt,
        total_early Q (set_at l') g P st.here st.other (over k),
        ap (λ (x : ℕ). total x (λ i. over k (set_at l' i))) (add_one g),
        ap (over k) st.here,
        first_under o lt,
        first_large o lt,
      );
    }
      where
        add_one : (x : ℕ) → x + 1 ≡ suc x
        add_one x = omega arith

-- the last row takes the place of row g
module _ {t l : List ℕ} {k v : ℕ} {E : Set} {g r : ℕ} (o : State t k v E l g (suc r)) (lt : g < suc r) (P : Set) (pr : Pruned (linked t) k (set_at l g) P) (l' : List ℕ)
    (st : Stored l g (set_at l r) l') where
  abbrev L1 : Links
  L1 = linked t

  abbrev Q1 : ℕ → Set
  Q1 = set_at l

  abbrev X : ℕ → Set
  X = put Q1 g P

  moved : g < r → X r ≡ Q1 r
  moved h = put_other Q1 g P r (λ e. omega arith)

  rest_large : {w : ℕ} {D : Set} → State t k w D l g (suc r) → (i : ℕ) → i < r → k < size 256 (set_at l' i)
  rest_large s i h = go (ℕ_discrete i g)
    where
      go : Dec (i ≡ g) → k < size 256 (set_at l' i)
      go (yes e) = rw (ap (set_at l') e ∙ st.here) (s.large r (omega arith))
      go (no d) = rw (st.other i d) (s.large i (omega arith))

  rest_firm : {w : ℕ} {D : Set} → State t k w D l g (suc r) → (i : ℕ) → i < g → Holds L1 256 k (set_at l' i)
  rest_firm s i h = subst (λ (z : Set). Holds L1 256 k z) (sym (st.other i (λ e. omega arith))) (s.firm i h)

  -- the rows without row g have as much above k as before, but for what row g had
  rest_total : total r (λ i. over k (set_at l' i)) + over k (Q1 g) ≡ total (suc r) (λ i. over k (Q1 i))
  unfolding total
  rest_total = omega (arith, total_place Q1 (set_at l') g (Q1 r) st.here st.other (suc r) (over k) lt, ap (over k) (last (ℕ_discrete r g)))
    where
      last : Dec (r ≡ g) → set_at l' r ≡ Q1 r
      last (yes e) = ap (set_at l') e ∙ st.here
      last (no d) = st.other r d

  -- P has k stations or fewer, and is dropped
  module _ (few : size 256 P ≤ k) where
    dropped_state : (w : ℕ) (D : Set) → State t k w D l g (suc r) → State t k w D l' g r × Kept w l l'
    dropped_state w D s = (
      record {
        fits = s.fits;
        mesh = s.mesh;
        room = omega (arith, s.room, st.kept.long);
        upto = omega arith;
        pieces = pieces_same L1 256 k w D r (put X g (X r)) (set_at l')
            (drop L1 256 k w D r X (pruned o lt P pr s) g lt (omega (arith, ap (size 256) (put_same Q1 g P)))) (λ i h. sym (pick i h (ℕ_discrete i g)));
        large = rest_large s;
        firm = rest_firm s;
      },
      kept_less w (omega (arith, rows_few s)) st.kept,
    )
      where
        pick : (i : ℕ) → i < r → Dec (i ≡ g) → set_at l' i ≡ put X g (X r) i
        pick i h (yes e) = ap (set_at l') e ∙ st.here ∙ sym (moved (omega arith)) ∙ sym (put_same X g (X r)) ∙ ap (put X g (X r)) (sym e)
        pick i h (no d) = st.other i d ∙ sym (put_other Q1 g P i d) ∙ sym (put_other X g (X r) i d)

    dropped_at : Turned t k l g (suc r) l' g r
    dropped_at = record {
      state = dropped_state;
      less = omega (arith, rest_total, total_early Q1 (set_at l') g (Q1 r) st.here st.other (over k), first_under o lt, first_large o lt);
    }

  -- P stands at the end for a while
  put_last : {w : ℕ} {D : Set} → State t k w D l g (suc r) → Pieces L1 256 k w D (suc r) (put (set_at l') r P)
  put_last {w = w} {D = D} s = exchange L1 256 k w D r X (pruned o lt P pr s) g lt (put (set_at l') r P)
      (put_same (set_at l') r P ∙ sym (put_same Q1 g P))
      (λ h. put_other (set_at l') r P g (λ e. omega arith) ∙ st.here ∙ sym (moved h))
      (λ i h d. put_other (set_at l') r P i (λ e. omega arith) ∙ st.other i d ∙ sym (put_other Q1 g P i d))

  -- there is room for its parts
  last_room : {w : ℕ} {D : Set} → State t k w D l g (suc r) → (r + weight k (size 256 P)) * 4 ≤ length l'
  unfolding total
  last_room s = omega (
    arith,
    s.room,
    st.kept.long,
    (put_last s).light,
    ap (λ (z : Set). weight k (size 256 z)) (put_same (set_at l') r P),
    few_sets 256 k r (put (set_at l') r P) (λ i h. rw (put_other (set_at l') r P i (λ e. omega arith)) (rest_large s i h)),
  )

  -- a loss parts P, and its parts come after the rows
  module _ (l'' : List ℕ) (m : ℕ) (d : Divided L1 k P r l' l'' m) where
    divided_pieces : {w : ℕ} {D : Set} → State t k w D l g (suc r) → Pieces L1 256 k w D (r + m) (set_at l'')
    divided_pieces {w = w} {D = D} s = replaced L1 256 k w D r (put (set_at l') r P) (put_last s) m (set_at l'')
        (λ i h. d.before i h ∙ sym (put_other (set_at l') r P i (λ e. omega arith)))
        (subst (λ (z : Set). Pieces L1 256 k (weight k (size 256 z)) z m (λ i. set_at l'' (r + i))) (sym (put_same (set_at l') r P)) d.pieces)

    divided_large : {w : ℕ} {D : Set} → State t k w D l g (suc r) → (i : ℕ) → i < r + m → k < size 256 (set_at l'' i)
    divided_large s i h = go (dec_lt i r)
      where
        back : r ≤ i → r + (i - r) ≡ i
        back a = omega arith

        go : Dec (i < r) → k < size 256 (set_at l'' i)
        go (yes a) = rw (d.before i a) (rest_large s i a)
        go (no a) = subst (λ (x : ℕ). k < size 256 (set_at l'' x)) (back (omega arith)) (d.large (i - r) (omega arith))

    divided_state : (w : ℕ) (D : Set) → State t k w D l g (suc r) → State t k w D l'' g (r + m) × Kept w l l''
    divided_state w D s = (
      record {
        fits = s.fits;
        mesh = s.mesh;
        room = omega (arith, s.room, st.kept.long, d.kept.long);
        upto = omega arith;
        pieces = divided_pieces s;
        large = divided_large s;
        firm = λ i h. subst (λ (z : Set). Holds L1 256 k z) (sym (d.before i (omega arith))) (rest_firm s i h);
      },
      kept_more (kept_less w (omega (arith, rows_few s)) st.kept) (kept_less w (few_pieces L1 256 k w D (r + m) (set_at l'') (divided_pieces s) (divided_large s)) d.kept),
    )

    divided_at : Turned t k l g (suc r) l'' g (r + m)
    divided_at = record {
      state = divided_state;
      less = omega (
        arith,
        rest_total,
        total_both r m (λ i. over k (set_at l'' i)),
        total_same r (λ i. over k (set_at l'' i)) (λ i. over k (set_at l' i)) (λ i h. ap (over k) (d.before i h)),
        total_same g (λ i. over k (set_at l'' i)) (λ i. over k (set_at l' i)) (λ i h. ap (over k) (d.before i (omega arith))),
        total_early Q1 (set_at l') g (Q1 r) st.here st.other (over k),
        first_under o lt,
        first_large o lt,
        d.less,
        over_P o lt P pr,
      );
    }

-- the same with the number of rows as the program has it
module _ {t l : List ℕ} {k w : ℕ} {D : Set} {g c r : ℕ} (s : State t k w D l g c) (lt : g < c) (e : r + 1 ≡ c) (P : Set) (pr : Pruned (linked t) k (set_at l g) P) (l' : List ℕ)
    (st : Stored l g (set_at l r) l') where
  all : c ≡ suc r
  all = omega arith

  before_last : g < suc r
  before_last = omega arith

  state_suc : State t k w D l g (suc r)
  state_suc = subst (λ (x : ℕ). State t k w D l g x) all s

  pub dropped : size 256 P ≤ k → Turned t k l g c l' g r
  dropped few = subst (λ (x : ℕ). Turned t k l g x l' g r) (sym all) (dropped_at state_suc before_last P pr l' st few)

  pub dividing : (S : Set) → k < size 256 P → Weak (linked t) 256 k P S → Dividing t k P S l' r
  dividing S large weak = record {
    fits = λ j h. row_fits s lt j (pr.part j h);
    mesh = s.mesh;
    large = large;
    weak = weak;
    room = last_room state_suc before_last P pr l' st state_suc;
  }

  pub divided : (l'' : List ℕ) (m : ℕ) → Divided (linked t) k P r l' l'' m → Turned t k l g c l'' g (r + m)
  divided l'' m d = subst (λ (x : ℕ). Turned t k l g x l'' g (r + m)) (sym all) (divided_at state_suc before_last P pr l' st l'' m d)
