-- The loop of `divide`. A piece P is parted by a loss S; `rest` is what is left of the islands of P without S. The parts so far, and `rest` joined S
-- as one more, are pieces within P (mesh's Pieces): an island I of `rest` splits `rest` joined S into I joined S and what is left of it (split), and
-- I joined S is kept or, if it has k stations or fewer, dropped (drop). The stations above k of the parts together are fewer than those of P as soon
-- as an island is split off that is not all of P without S; and it is never all of it, since S parts P.
use mathlib.Core.Bool.{true, false}
use mathlib.Core.List.{List}
use mathlib.Core.Logic.{◌⊎◌, inl, inr}
use mathlib.Core.Path.{◌≡◌, refl, sym, ap, ◌∙◌, subst}
use Prim.Native.Nat.{ℕ, suc, ◌+◌, ◌*◌, ◌<◌, ◌≤◌}
use native.Mathlib.Decide.{ℕ_discrete, dec_lt}
use native.Mathlib.Omega.{arith}
use lib.ListN.{length}
use Rattle.stations.specs.Sets.{Set, ◌is_in◌, ◌not_in◌, ◌part_of◌, Below, ◌without◌, ◌joined◌, size}
use Rattle.stations.proofs.Bools.{test, never, or_left, or_right}
use Rattle.stations.proofs.Members.{same_set, in_without, of_without, of_joined}
use Rattle.stations.proofs.Counting.{size_disjoint, size_minus, size_pos}
use Rattle.mesh.specs.Mesh.{Links, Mesh, here, Whole, Weak}
use Rattle.mesh.proofs.Bound.{total, total_same, weight}
use Rattle.mesh.proofs.Chains.{touch_join, touch_back, touch_end, touch_link}
use Rattle.mesh.proofs.Pieces.{Pieces, put, put_same, put_other, pieces_same, begin, split, drop, few_sets, halves_weigh, halves_share, halves_keep}
use Rattle.mesh.specs.Table.{linked}
use Rattle.touch.specs.Reach.{Island}
use Rattle.listing.specs.List.{set_at}
use Rattle.listing.specs.Rows.{Kept, Stored}
use Rattle.listing.specs.Steps.{over, Dividing, Divided}
use Rattle.listing.proofs.Lists.{kept_none, kept_more, kept_less}

pub record Parting (L : Links) (k : ℕ) (P S rest : Set) (m : ℕ) (Q : ℕ → Set) : Type 0 where
  pub inside : rest part_of P without S
  pub pieces : Pieces L 256 k (weight k (size 256 P)) P (suc m) (put Q m (rest joined S))
  pub large : (i : ℕ) → i < m → k < size 256 (Q i)
  -- nothing is split off yet, or the stations above k are fewer already
  pub less : ((m ≡ 0) × (rest ≡ P without S)) ⊎ (total m (λ i. over k (Q i)) + over k (rest joined S) < over k P)

back_together : (P S : Set) → S part_of P → (P without S) joined S ≡ P
back_together P S sp = same_set ((P without S) joined S) P (λ x h. one x (of_joined (P without S) S x h)) (λ x h. two x h (test (S x)))
  where
    one : (x : ℕ) → (x is_in P without S) ⊎ (x is_in S) → x is_in P
    one x (inl h) = (of_without P S x h).0
    one x (inr h) = sp x h

    two : (x : ℕ) → x is_in P → (S x ≡ true) ⊎ (S x ≡ false) → x is_in (P without S) joined S
    two x h (inl e) = or_right ((P without S) x) (S x) e
    two x h (inr e) = or_left ((P without S) x) (S x) (in_without P S x h e)

-- at the start
pub part_none : (L : Links) (k : ℕ) (P S : Set) (Q : ℕ → Set) → S part_of P → Parting L k P S (P without S) 0 Q
part_none L k P S Q sp = record {
  inside = λ x h. h;
  pieces = pieces_same L 256 k (weight k (size 256 P)) P 1 (λ i. P) (put Q 0 ((P without S) joined S)) (begin L 256 k P)
      (λ i l. sym (ap (put Q 0 ((P without S) joined S)) (zero_only i l) ∙ put_same Q 0 ((P without S) joined S) ∙ back_together P S sp));
  large = λ i l. absurd (omega arith);
  less = inl (refl, refl);
}
  where
    zero_only : (i : ℕ) → i < 1 → i ≡ 0
    zero_only i l = omega arith

-- at the end
module _ {L : Links} {k : ℕ} {P S rest : Set} {m : ℕ} {Q : ℕ → Set} (s : Parting L k P S rest m Q) (w : Weak L 256 k P S) (none : (x : ℕ) → x not_in rest) where
  small : size 256 (rest joined S) < k
  small = omega (arith, ap (size 256) e, w.few)
    where
      e : rest joined S ≡ S
      e = same_set (rest joined S) S (λ x h. one x (of_joined rest S x h)) (λ x h. or_right (rest x) (S x) h)
        where
          one : (x : ℕ) → (x is_in rest) ⊎ (x is_in S) → x is_in S
          one x (inl h) = never (rest x) h (none x)
          one x (inr h) = h

  pub part_all : Pieces L 256 k (weight k (size 256 P)) P m Q
  part_all = pieces_same L 256 k (weight k (size 256 P)) P m (put X m (X m)) Q (drop L 256 k (weight k (size 256 P)) P m X s.pieces m (omega arith) (omega (arith, ap (size 256) (put_same Q m (rest joined S)), small)))
      (λ i l. put_other X m (X m) i (λ e. omega arith) ∙ put_other Q m (rest joined S) i (λ e. omega arith))
    where
      X : ℕ → Set
      X = put Q m (rest joined S)

  pub part_less : total m (λ i. over k (Q i)) < over k P
  part_less = go s.less
    where
      go : ((m ≡ 0) × (rest ≡ P without S)) ⊎ (total m (λ i. over k (Q i)) + over k (rest joined S) < over k P) → total m (λ i. over k (Q i)) < over k P
      go (inl (e, f)) = absurd (w.parts (λ a b h g. never (rest a) (subst (λ (z : Set). a is_in z) (sym f) h) (none a)))
      go (inr h) = omega arith

-- a turn: v is a station of rest, and I its island there
module _ {L : Links} {k : ℕ} {P S rest : Set} {m : ℕ} {Q : ℕ → Set} (s : Parting L k P S rest m Q) (mesh : Mesh L) (large : k < size 256 P) (w : Weak L 256 k P S)
    (below : Below 256 rest) (v : ℕ) (v-in : v is_in rest) (bound : v < 256) (I : Set) (isl : Island L rest v I) where
  I_rest : I part_of rest
  I_rest x h = touch_end (isl.only x h)

  rest_S : (x : ℕ) → x is_in rest → x not_in S
  rest_S x h = (of_without P S x (s.inside x h)).1

  closed : (x y : ℕ) → x is_in I → y is_in rest → L x y ≡ true → y is_in I
  closed x y h g l = isl.all y (touch_link (isl.only x h) l g)

  abbrev U : Set
  U = rest joined S

  abbrev rest' : Set
  rest' = rest without I

  U-S : U without S ≡ rest
  U-S = same_set (U without S) rest (λ x h. one x (of_without U S x h)) (λ x h. in_without U S x (or_left (rest x) (S x) h) (rest_S x h))
    where
      one : (x : ℕ) → (x is_in U) × (x not_in S) → x is_in rest
      one x (a, b) = go (of_joined rest S x a)
        where
          go : (x is_in rest) ⊎ (x is_in S) → x is_in rest
          go (inl h) = h
          go (inr h) = never (S x) h b

  U-I : U without I ≡ rest' joined S
  U-I = same_set (U without I) (rest' joined S) (λ x h. one x (of_without U I x h)) (λ x h. two x (of_joined rest' S x h))
    where
      one : (x : ℕ) → (x is_in U) × (x not_in I) → x is_in rest' joined S
      one x (a, b) = go (of_joined rest S x a)
        where
          go : (x is_in rest) ⊎ (x is_in S) → x is_in rest' joined S
          go (inl h) = or_left (rest' x) (S x) (in_without rest I x h b)
          go (inr h) = or_right (rest' x) (S x) h

      two : (x : ℕ) → (x is_in rest') ⊎ (x is_in S) → x is_in U without I
      two x (inl h) = let a = of_without rest I x h in in_without U I x (or_left (rest x) (S x) a.0) a.1
      two x (inr h) = in_without U I x (or_right (rest x) (S x) h) (off x h (test (I x)))
        where
          off : (x : ℕ) → x is_in S → (I x ≡ true) ⊎ (I x ≡ false) → x not_in I
          off x h (inl e) = never (S x) h (rest_S x (I_rest x e))
          off x h (inr e) = e

  abbrev X : ℕ → Set
  X = put Q m U

  -- rest joined S is split
  halved : Pieces L 256 k (weight k (size 256 P)) P (suc (suc m)) (put (put X m (I joined S)) (suc m) (rest' joined S))
  halved = split L 256 k (weight k (size 256 P)) P (suc m) X s.pieces m (omega arith) (I joined S) (rest' joined S)
      (rw (put_same Q m U) (λ x h. sub x (of_joined I S x h)))
      (rw (put_same Q m U) (λ x h. (of_without U I x (subst (λ (z : Set). x is_in z) (sym U-I) h)).0))
      (rw (← U-I) (halves_share L 256 k U S I mesh sp few ip cl))
      (rw (put_same Q m U, ← U-I) (halves_weigh L 256 k U S I mesh sp few ip cl))
      (λ H h g. subst (λ (z : Set). (H part_of I joined S) ⊎ (H part_of z)) U-I (halves_keep L 256 k U S I mesh sp few ip cl H h (subst (λ (z : Set). H part_of z) (put_same Q m U) g)))
    where
      sub : (x : ℕ) → (x is_in I) ⊎ (x is_in S) → x is_in U
      sub x (inl h) = or_left (rest x) (S x) (I_rest x h)
      sub x (inr h) = or_right (rest x) (S x) h

      sp : S part_of U
      sp x h = or_right (rest x) (S x) h

      few : size 256 S < k
      few = w.few

      ip : I part_of U without S
      ip x h = subst (λ (z : Set). x is_in z) (sym U-S) (I_rest x h)

      cl : (x y : ℕ) → x is_in I → y is_in U without S → L x y ≡ true → y is_in I
      cl x y h g l = closed x y h (subst (λ (z : Set). y is_in z) U-S g) l

  inside' : rest' part_of P without S
  inside' x h = s.inside x (of_without rest I x h).0

  size_I : size 256 (I joined S) ≡ size 256 I + size 256 S
  size_I = size_disjoint 256 I S (λ x h. rest_S x (I_rest x h))

  size_rest : size 256 (rest' joined S) ≡ size 256 rest' + size 256 S
  size_rest = size_disjoint 256 rest' S (λ x h. rest_S x (of_without rest I x h).0)

  size_U : size 256 U ≡ size 256 rest + size 256 S
  size_U = size_disjoint 256 rest S rest_S

  size_split : size 256 rest' + size 256 I ≡ size 256 rest
  size_split = size_minus 256 rest I I_rest

  some_I : 0 < size 256 I
  some_I = size_pos 256 I v bound (isl.all v (here v-in))

  -- the first island is not all of P without S
  proper : rest ≡ P without S → 0 < size 256 rest'
  proper e = go (dec_lt 0 (size 256 rest'))
    where
      all_in : ¬ (0 < size 256 rest') → (x : ℕ) → x is_in rest → x < 256 → x is_in I
      all_in n x h l = by (test (I x))
        where
          by : (I x ≡ true) ⊎ (I x ≡ false) → x is_in I
          by (inl f) = f
          by (inr f) = absurd (n (size_pos 256 rest' x l (in_without rest I x h f)))

      go : Dec (0 < size 256 rest') → 0 < size 256 rest'
      go (yes d) = d
      go (no n) = absurd (w.parts (subst (Whole L) e (λ a b h g.
          touch_join (touch_back mesh (isl.only a (all_in n a h (below a h)))) (isl.only b (all_in n b g (below b g))))))

  -- what the two parts have above k
  falls : (c : ℕ) → c + over k U < over k P → over k (I joined S) + c + over k (rest' joined S) < over k P
  falls c h = omega (arith, size_I, size_rest, size_U, size_split, w.few)

  falls_first : rest ≡ P without S → over k (I joined S) + over k (rest' joined S) < over k P
  falls_first e = omega (arith, size_I, size_rest, size_U, size_split, w.few, some_I, proper e, large, ap (size 256) (back_together P S w.part), ap (λ (z : Set). size 256 (z joined S)) e)

  abbrev A : Set
  A = I joined S

  abbrev B : Set
  B = rest' joined S

  abbrev Y : ℕ → Set
  Y = put (put X m A) (suc m) B

  at_last : Y (suc m) ≡ B
  at_last = put_same (put X m A) (suc m) B

  at_m : Y m ≡ A
  at_m = put_other (put X m A) (suc m) B m (λ e. omega arith) ∙ put_same X m A

  at_i : (i : ℕ) → i < m → Y i ≡ Q i
  at_i i l = put_other (put X m A) (suc m) B i (λ e. omega arith) ∙ put_other X m A i (λ e. omega arith) ∙ put_other Q m U i (λ e. omega arith)

  total_none : (f : ℕ → ℕ) → m ≡ 0 → total m f ≡ 0
  unfolding total
  total_none f e = ap (λ (c : ℕ). total c f) e

  -- the part is kept, as the set m of the family
  module _ (Q' : ℕ → Set) (old : (i : ℕ) → i < m → Q' i ≡ Q i) (new : Q' m ≡ A) (big : k < size 256 A) where
    keep_less : total (suc m) (λ i. over k (Q' i)) + over k B < over k P
    unfolding total
    keep_less = go s.less
      where
        same : total m (λ i. over k (Q' i)) ≡ total m (λ i. over k (Q i))
        same = total_same m (λ i. over k (Q' i)) (λ i. over k (Q i)) (λ i l. ap (over k) (old i l))

        go : ((m ≡ 0) × (rest ≡ P without S)) ⊎ (total m (λ i. over k (Q i)) + over k (rest joined S) < over k P) → over k (Q' m) + total m (λ i. over k (Q' i)) + over k B < over k P
        go (inl (e, f)) = omega (arith, ap (over k) new, falls_first f, total_none (λ i. over k (Q' i)) e)
        go (inr h) = omega (arith, ap (over k) new, falls (total m (λ i. over k (Q i))) h, same)

    pub part_keep : Parting L k P S rest' (m + 1) Q'
    part_keep = subst (λ (c : ℕ). Parting L k P S rest' c Q') (omega arith) (record {
      inside = inside';
      pieces = pieces_same L 256 k (weight k (size 256 P)) P (suc (suc m)) Y (put Q' (suc m) B) halved (λ i l. pick i l (ℕ_discrete i (suc m)) (ℕ_discrete i m));
      large = λ i l. size_of i l (ℕ_discrete i m);
      less = inr keep_less;
    })
      where
        pick : (i : ℕ) → i < suc (suc m) → Dec (i ≡ suc m) → Dec (i ≡ m) → Y i ≡ put Q' (suc m) B i
        pick i l (yes e) d = ap Y e ∙ at_last ∙ sym (put_same Q' (suc m) B) ∙ ap (put Q' (suc m) B) (sym e)
        pick i l (no e) (yes d) = ap Y d ∙ at_m ∙ sym new ∙ ap Q' (sym d) ∙ sym (put_other Q' (suc m) B i e)
        pick i l (no e) (no d) = at_i i (omega arith) ∙ sym (old i (omega arith)) ∙ sym (put_other Q' (suc m) B i e)

        size_of : (i : ℕ) → i < suc m → Dec (i ≡ m) → k < size 256 (Q' i)
        size_of i l (yes d) = rw (ap Q' d ∙ new) big
        size_of i l (no d) = rw (old i (omega arith)) (s.large i (omega arith))

  -- there is room for a part that is kept
  pub part_room : k < size 256 A → m < weight k (size 256 P)
  unfolding total
  part_room big = omega (arith, few_sets 256 k (suc m) Y (λ i l. size_of i l (ℕ_discrete i m)), halved.light)
    where
      size_of : (i : ℕ) → i < suc m → Dec (i ≡ m) → k < size 256 (Y i)
      size_of i l (yes d) = rw (ap Y d ∙ at_m) big
      size_of i l (no d) = rw (at_i i (omega arith)) (s.large i (omega arith))

  -- the part is dropped
  pub part_drop : size 256 A ≤ k → Parting L k P S rest' m Q
  part_drop few = record {
    inside = inside';
    pieces = pieces_same L 256 k (weight k (size 256 P)) P (suc m) (put Y m (Y (suc m))) (put Q m B)
        (drop L 256 k (weight k (size 256 P)) P (suc m) Y halved m (omega arith) (omega (arith, ap (size 256) at_m, few))) (λ i l. pick i l (ℕ_discrete i m));
    large = s.large;
    less = inr (go s.less);
  }
    where
      pick : (i : ℕ) → i < suc m → Dec (i ≡ m) → put Y m (Y (suc m)) i ≡ put Q m B i
      pick i l (yes d) = ap (put Y m (Y (suc m))) d ∙ put_same Y m (Y (suc m)) ∙ at_last ∙ sym (put_same Q m B) ∙ ap (put Q m B) (sym d)
      pick i l (no d) = put_other Y m (Y (suc m)) i d ∙ at_i i (omega arith) ∙ sym (put_other Q m B i d)

      go : ((m ≡ 0) × (rest ≡ P without S)) ⊎ (total m (λ i. over k (Q i)) + over k (rest joined S) < over k P) → total m (λ i. over k (Q i)) + over k B < over k P
      go (inl (e, f)) = omega (arith, falls_first f, total_none (λ i. over k (Q i)) e)
      go (inr h) = omega (arith, falls (total m (λ i. over k (Q i))) h)

  pub rest_less : size 256 rest' < size 256 rest
  rest_less = omega (arith, size_split, some_I)

-- a turn: the island of a station of rest, joined with the loss, is the part A, and rest' is left
pub record Split (L : Links) (S rest A rest' : Set) : Type 0 where
  pub below : Below 256 rest
  pub at : ℕ
  pub mine : at is_in rest
  pub bound : at < 256
  pub island : Set
  pub reached : Island L rest at island
  pub part : A ≡ island joined S
  pub left : rest' ≡ rest without island

-- the same over a list, whose rows from a on are the parts
pub record Cutting (L : Links) (k : ℕ) (P S : Set) (l : List ℕ) (a : ℕ) (rest : Set) (m : ℕ) (l' : List ℕ) : Type 0 where
  pub parting : Parting L k P S rest m (λ i. set_at l' (a + i))
  pub before : (i : ℕ) → i < a → set_at l' i ≡ set_at l i
  pub kept : Kept (a + m) l l'

module _ {t : List ℕ} {k : ℕ} {P S : Set} {l : List ℕ} {a : ℕ} (d : Dividing t k P S l a) where
  pub cut_none : (rest : Set) → rest ≡ P without S → Cutting (linked t) k P S l a rest 0 l
  cut_none rest e = rw e (record { parting = part_none (linked t) k P S (λ i. set_at l (a + i)) d.weak.part; before = λ i h. refl; kept = kept_none (a + 0) l })

  module _ {rest : Set} {m : ℕ} {l' : List ℕ} (s : Cutting (linked t) k P S l a rest m l') where
    pub cut_all : ((x : ℕ) → x not_in rest) → Divided (linked t) k P a l l' m
    cut_all none = record {
      pieces = part_all s.parting d.weak none;
      large = s.parting.large;
      less = part_less s.parting d.weak none;
      before = s.before;
      kept = s.kept;
    }

    module _ {A rest' : Set} (p : Split (linked t) S rest A rest') where
      pub cut_less : size 256 rest' < size 256 rest
      cut_less = rw p.left (rest_less s.parting d.mesh d.large d.weak p.below p.at p.mine p.bound p.island p.reached)

      pub cut_small : size 256 A ≤ k → Cutting (linked t) k P S l a rest' m l'
      cut_small few = rw p.left (record {
        parting = part_drop s.parting d.mesh d.large d.weak p.below p.at p.mine p.bound p.island p.reached (rw p.part at few);
        before = s.before;
        kept = s.kept;
      })

      pub cut_room : k < size 256 A → (a + m) * 4 + 4 ≤ length l'
      cut_room big = omega (
        arith,
        part_room s.parting d.mesh d.large d.weak p.below p.at p.mine p.bound p.island p.reached (rw p.part at big),
        d.room,
        s.kept.long,
      )

      pub cut_large : k < size 256 A → (l'' : List ℕ) → Stored l' (a + m) A l'' → Cutting (linked t) k P S l a rest' (m + 1) l''
      cut_large big l'' st = rw p.left (record {
        parting = part_keep s.parting d.mesh d.large d.weak p.below p.at p.mine p.bound p.island p.reached (λ i. set_at l'' (a + i))
            (λ i h. st.other (a + i) (λ q. omega arith)) (st.here ∙ p.part) (rw p.part at big);
        before = λ i h. st.other i (λ q. omega arith) ∙ s.before i h;
        kept = kept_more (kept_less (a + (m + 1)) (omega arith) s.kept) (kept_less (a + (m + 1)) (omega arith) st.kept);
      })
