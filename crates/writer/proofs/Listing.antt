-- Listing the members of a set as records, lowest first: the member x stands at the place that counts the members below it.
-- A list up to A goes on with a list of what lies from A up, since size (A + y) s is size A s and the members between.
use mathlib.Core.Bool.{Bool, true, false}
use mathlib.Core.List.{List}
use mathlib.Core.Path.{◌≡◌, sym, ap, ◌∙◌}
use Prim.Native.Nat.{ℕ, suc, ◌+◌, ◌-◌, ◌*◌, ◌<◌, ◌≤◌}
use native.Mathlib.Nat.{add-zero}
use native.Mathlib.Decide.{dec_lt, ℕ_discrete}
use native.Mathlib.Omega.{arith}
use Rattle.stations.specs.Sets.{Set, ◌is_in◌, ◌not_in◌, size}
use Rattle.stations.proofs.Counting.{size-add, size_pos, size_none, size_ext}
use Rattle.records.specs.Bytes.{short, Kept}
use Rattle.records.proofs.Fields.{kept_self, kept_trans, short_kept}
use Rattle.writer.specs.Steps.{Laid, Put}

-- ---- members below a number
-- a member below N has fewer members below it than N has
pub rank_less : (N : ℕ) (s : Set) (x : ℕ) → x < N → x is_in s → size x s < size N s
rank_less N s x l h =
    let k : ℕ = N - suc x in
    let e : N ≡ x + suc k = omega arith in
    omega (arith, ap (λ (i : ℕ). size i s) e, size-add x (suc k) s, size_pos (suc k) (λ y. s (x + y)) 0 (omega arith) (ap s (add-zero x) ∙ h))

-- no member between
pub rank_gap : (x y : ℕ) (s : Set) → x ≤ y → ((z : ℕ) → x ≤ z → z < y → z not_in s) → size y s ≡ size x s
rank_gap x y s l g =
    let k : ℕ = y - x in
    let e : y ≡ x + k = omega arith in
    omega (arith, ap (λ (i : ℕ). size i s) e, size-add x k s, size_none k (λ z. s (x + z)) (λ z h. g (x + z) (omega arith) (omega arith)))

pub rank_one : (x : ℕ) (s : Set) → x is_in s → size (suc x) s ≡ suc (size x s)
unfolding size
rank_one x s h = rw h (omega arith)

-- ---- lists
pub put_none : (s : Set) (lo hi : ℕ → ℕ) (at : ℕ) (bs : List ℕ) → Put 0 s lo hi at at bs bs
unfolding size
put_none s lo hi at bs = record { next = omega arith; kept = kept_self at bs; laid = λ x l. absurd (omega arith) }

module _ {N : ℕ} {s : Set} {lo hi : ℕ → ℕ} {at r : ℕ} {bs bs' : List ℕ} (P : Put N s lo hi at r bs bs') where
  -- what is listed stays when more is put after it
  pub laid_kept : {bs'' : List ℕ} → Kept r bs' bs'' → Laid N s lo hi at bs''
  laid_kept K x l h =
      let f = rank_less N s x l h in
      let e = P.next in
      (short_kept (at + size x s * 4) K (omega arith) ∙ (P.laid x l h).0, short_kept (at + size x s * 4 + 2) K (omega arith) ∙ (P.laid x l h).1)

  pub put_past : at ≤ r
  put_past = omega (arith, P.next)

  -- no member up to M
  pub put_skip : (M : ℕ) → N ≤ M → ((z : ℕ) → N ≤ z → z < M → z not_in s) → Put M s lo hi at r bs bs'
  put_skip M l g = record { next = omega (arith, P.next, rank_gap N M s l g); kept = P.kept; laid = λ x h i. go x h i (dec_lt x N) }
    where
      go : (x : ℕ) → x < M → x is_in s → Dec (x < N) → (short bs' (at + size x s * 4) ≡ lo x) × (short bs' (at + size x s * 4 + 2) ≡ hi x)
      go x h i (yes m) = P.laid x m i
      go x h i (no m) = absurd (clash (s x) i (g x (omega arith) h))
        where
          clash : (b : Bool) → b ≡ true → b ≡ false → ⊥
          clash b p q = mathlib.Core.Bool.true≢false (sym p ∙ q)

  -- the member N, put at r
  pub put_one : {bs'' : List ℕ} → N is_in s → Kept r bs' bs'' → short bs'' r ≡ lo N → short bs'' (r + 2) ≡ hi N → Put (suc N) s lo hi at (r + 4) bs bs''
  put_one {bs''} i K e f = record { next = omega (arith, P.next, rank_one N s i); kept = kept_trans P.kept K put_past; laid = λ x h j. go x h j (ℕ_discrete x N) }
    where
      go : (x : ℕ) → x < suc N → x is_in s → Dec (x ≡ N) → (short bs'' (at + size x s * 4) ≡ lo x) × (short bs'' (at + size x s * 4 + 2) ≡ hi x)
      go x h j (yes q) = rw q (ap (short bs'') (sym P.next) ∙ e, ap (λ (p : ℕ). short bs'' (p + 2)) (sym P.next) ∙ f)
      go x h j (no q) = laid_kept K x (omega arith) j

  -- and then the members from N up
  pub put_join : {p : ℕ} {bs'' : List ℕ} (M : ℕ) → Put M (λ x. s (N + x)) (λ x. lo (N + x)) (λ x. hi (N + x)) r p bs' bs'' → Put (N + M) s lo hi at p bs bs''
  put_join {p} {bs''} M Q = record { next = omega (arith, P.next, Q.next, size-add N M s); kept = kept_trans P.kept Q.kept put_past; laid = λ x h i. go x h i (dec_lt x N) }
    where
      far : (x y : ℕ) → x ≡ N + y → y < M → x is_in s → (short bs'' (at + size x s * 4) ≡ lo x) × (short bs'' (at + size x s * 4 + 2) ≡ hi x)
      far x y e l i =
          let L = Q.laid y l (ap s (sym e) ∙ i) in
          let q : r + size y (λ z. s (N + z)) * 4 ≡ at + size x s * 4 = omega (arith, P.next, size-add N y s, ap (λ (k : ℕ). size k s) e) in
          (ap (short bs'') (sym q) ∙ L.0 ∙ ap lo (sym e), ap (λ (k : ℕ). short bs'' (k + 2)) (sym q) ∙ L.1 ∙ ap hi (sym e))

      go : (x : ℕ) → x < N + M → x is_in s → Dec (x < N) → (short bs'' (at + size x s * 4) ≡ lo x) × (short bs'' (at + size x s * 4 + 2) ≡ hi x)
      go x h i (yes l) = laid_kept Q.kept x l i
      go x h i (no l) = far x (x - N) (omega arith) (omega arith) i

  -- the same in other words
  pub put_same : (s' : Set) (lo' hi' : ℕ → ℕ) → ((x : ℕ) → x < N → s x ≡ s' x) → ((x : ℕ) → x < N → lo x ≡ lo' x) → ((x : ℕ) → x < N → hi x ≡ hi' x)
      → Put N s' lo' hi' at r bs bs'
  put_same s' lo' hi' e f g = record {
    next = P.next ∙ ap (λ (k : ℕ). at + k * 4) (size_ext N s s' e);
    kept = P.kept;
    laid = λ x l i.
        let L = P.laid x l (e x l ∙ i) in
        let q : size x s ≡ size x s' = size_ext x s s' (λ y h. e y (omega arith)) in
        (ap (λ (k : ℕ). short bs' (at + k * 4)) (sym q) ∙ L.0 ∙ f x l, ap (λ (k : ℕ). short bs' (at + k * 4 + 2)) (sym q) ∙ L.1 ∙ g x l);
  }
