-- One source: a station u of q is tried against others at a level l. known has stations that are firm with u, among them u and its links:
-- no loss of fewer than l parts them from u. A flow from v goes inside d, which is q without u and v, from the links of v to known. If no loss
-- of d parts the two (Joined), v is firm with u: a loss that misses u and v leaves a chain from v to some w of known, and w is in touch with u.
-- If S parts the two (Parted), it parts v from u: a chain to u comes by a link of u, which is in known.
use mathlib.Core.Path.{◌≡◌, refl}
use mathlib.Core.Logic.{◌⊎◌, inl, inr}
use mathlib.Core.Bool.{true, false}
use Prim.Native.Nat.{ℕ}
use Rattle.stations.specs.Sets.{Set, ◌is_in◌, ◌not_in◌, ◌part_of◌, only, ◌without◌, ◌cut◌, ◌joined◌}
use Rattle.mesh.specs.Mesh.{Links, Mesh, Touch, here, step}
use Rattle.search.specs.Losses.{Loss, Joined, Parted}
use Rattle.stations.proofs.Bools.{test, never, and_left, and_right, and_in, or_cases, or_left, or_right}
use Rattle.stations.proofs.Members.{of_without, in_without, only_is, is_only, not_only}
use Rattle.mesh.proofs.Chains.{touch_sub, touch_end, touch_join, touch_back}
use Rattle.search.proofs.Arrival.{last_link}

-- no loss of fewer than l of q, with neither u nor w in it, parts u from w
abbrev pub Firm : Links → ℕ → Set → ℕ → Set → ℕ → ℕ → Type 0
Firm L n may l q u w = (S : Set) → Loss n may l q S → u not_in S → w not_in S → Touch L (q without S) u w

-- q without u and v: where the inner stations of a flow are
abbrev pub inner : Set → ℕ → ℕ → Set
inner q u v = (q without only u) without only v

-- the source u at level l in q: the stations N are to be firm with it; known are, left are not yet tried
pub record Known (L : Links) (n : ℕ) (may : Set) (l : ℕ) (q : Set) (u : ℕ) (N known left : Set) : Type 0 where
  pub firm : (w : ℕ) → w is_in known → Firm L n may l q u w
  pub source : u is_in known
  pub links : q cut L u part_of known
  pub inside : left part_of q
  pub fresh : (v : ℕ) → v is_in left → v not_in known
  pub all : N part_of known joined left

-- the links of u and u itself
abbrev pub near : Links → Set → ℕ → Set
near L q u = (q cut L u) joined only u

pub known_begin : (L : Links) (n : ℕ) (may : Set) (l : ℕ) (q : Set) (u : ℕ) (N : Set) → u is_in q → N part_of q
    → Known L n may l q u N (near L q u) (N without near L q u)
known_begin L n may l q u N uq nq = record {
  firm = λ w g S o uS wS. go S uS w wS (or_cases ((q cut L u) w) (only u w) g);
  source = or_right ((q cut L u) u) (only u u) (is_only u);
  links = λ w g. or_left ((q cut L u) w) (only u w) g;
  inside = λ v g. nq v (of_without N (near L q u) v g).0;
  fresh = λ v g. (of_without N (near L q u) v g).1;
  all = λ w g. by w g (test (near L q u w));
}
  where
    go : (S : Set) → u not_in S → (w : ℕ) → w not_in S → (w is_in q cut L u) ⊎ (w is_in only u) → Touch L (q without S) u w
    go S uS w wS (inl a) = step (in_without q S u uq uS) (and_right (q w) (L u w) a) (here (in_without q S w (and_left (q w) (L u w) a) wS))
    go S uS w wS (inr a) = rw (only_is u w a) (here (in_without q S u uq uS))

    by : (w : ℕ) → w is_in N → (near L q u w ≡ true) ⊎ (near L q u w ≡ false) → w is_in near L q u joined (N without near L q u)
    by w g (inl a) = or_left (near L q u w) ((N without near L q u) w) a
    by w g (inr a) = or_right (near L q u w) ((N without near L q u) w) (in_without N (near L q u) w g a)

module _ {L : Links} {n : ℕ} {may : Set} {l : ℕ} {q : Set} {u : ℕ} where
  -- what is joined with stations firm with u is firm with u
  pub joined_firm : (known : Set) (v : ℕ) → Mesh L → ((w : ℕ) → w is_in known → Firm L n may l q u w) → v is_in q
      → Joined L n may l (inner q u v) (L v) known → Firm L n may l q u v
  joined_firm known v m firm vq j S o uS vS = from (j S (record { part = part; free = o.free; few = o.few }))
    where
      part : S part_of inner q u v
      part x g = in_without (q without only u) (only v) x
          (in_without q (only u) x (o.part x g) (not_only u x (λ e. never (S u) (rw (← e) g) uS)))
          (not_only v x (λ e. never (S v) (rw (← e) g) vS))

      rest : inner q u v without S part_of q without S
      rest x g = let w = of_without (inner q u v) S x g in
          in_without q S x (of_without q (only u) x (of_without (q without only u) (only v) x w.0).0).0 w.1

      from : (x y : ℕ) × (x is_in L v) × (y is_in known) × Touch L (inner q u v without S) x y → Touch L (q without S) u v
      from (x, y, a, b, c) =
          let d : Touch L (q without S) v y = step (in_without q S v vq vS) a (touch_sub rest c) in
          touch_join (firm y b S o uS (of_without q S y (touch_end d)).1) (touch_back m d)

  module _ {N known left : Set} where
    pub known_turn : (v : ℕ) → Mesh L → Known L n may l q u N known left → v is_in left
        → Joined L n may l (inner q u v) (L v) known → Known L n may l q u N (known joined only v) (left without only v)
    known_turn v m h g j = record {
      firm = λ w a. go w (or_cases (known w) (only v w) a);
      source = or_left (known u) (only v u) h.source;
      links = λ w a. or_left (known w) (only v w) (h.links w a);
      inside = λ w a. h.inside w (of_without left (only v) w a).0;
      fresh = λ w a. let r = of_without left (only v) w a in rw (h.fresh w r.0, r.1) refl;
      all = λ w a. by w (or_cases (known w) (left w) (h.all w a)) (test (only v w));
    }
      where
        go : (w : ℕ) → (w is_in known) ⊎ (w is_in only v) → Firm L n may l q u w
        go w (inl a) = h.firm w a
        go w (inr a) = rw (only_is v w a) (joined_firm known v m h.firm (h.inside v g) j)

        by : (w : ℕ) → (w is_in known) ⊎ (w is_in left) → (only v w ≡ true) ⊎ (only v w ≡ false) → w is_in (known joined only v) joined (left without only v)
        by w (inl a) e = rw a refl
        by w (inr a) (inl e) = or_left ((known joined only v) w) ((left without only v) w) (or_right (known w) (only v w) e)
        by w (inr a) (inr e) = or_right ((known joined only v) w) ((left without only v) w) (in_without left (only v) w a e)

    pub known_end : Known L n may l q u N known left → ((v : ℕ) → v not_in left) → (w : ℕ) → w is_in N → Firm L n may l q u w
    known_end h none w a = go (or_cases (known w) (left w) (h.all w a))
      where
        go : (w is_in known) ⊎ (w is_in left) → Firm L n may l q u w
        go (inl b) = h.firm w b
        go (inr b) = never (left w) b (none w)

    -- what parts v from known parts v from u
    pub parted_source : (v : ℕ) (S : Set) → Mesh L → Known L n may l q u N known left → v is_in left
        → Parted L (inner q u v) S (L v) known → Touch L (q without S) v u → ⊥
    parted_source v S m h g p c = one (last_link L (q without S) u c (λ e. never (known v) (rw e h.source) (h.fresh v g)))
      where
        rest : ((q without S) without only u) without only v part_of inner q u v without S
        rest x a =
            let r = of_without ((q without S) without only u) (only v) x a in
            let s = of_without (q without S) (only u) x r.0 in
            let t = of_without q S x s.0 in
            in_without (inner q u v) S x (in_without (q without only u) (only v) x (in_without q (only u) x t.0 s.1) r.1) t.1

        one : (w : ℕ) × (L w u ≡ true) × Touch L ((q without S) without only u) v w → ⊥
        one (w, a, d) = two (last_link L ((q without S) without only u) v (touch_back m d) (λ e. never (known v) (rw (← e) wk) (h.fresh v g)))
          where
            wk : w is_in known
            wk = h.links w (and_in (q w) (L u w) (of_without q S w (of_without (q without S) (only u) w (touch_end d)).0).0 (m.both w u a))

            two : (x : ℕ) × (L x v ≡ true) × Touch L (((q without S) without only u) without only v) w x → ⊥
            two (x, b, e) = p x w (m.both x v b) wk (touch_back m (touch_sub rest e))
