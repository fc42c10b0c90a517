-- The records of a survey are the links of its table in order: record j is the link with j links below it, and there are as many as the table has.
-- The numbers a * 256 + b of the records rise, and are exactly the links; so those below the number of record j are the records before it (pigeon, both ways).
use mathlib.Core.Bool.{true}
use mathlib.Core.List.{List}
use mathlib.Core.Logic.{inl, inr}
use mathlib.Core.Path.{◌≡◌, refl, sym, ap, ◌∙◌}
use Prim.Native.Nat.{ℕ, zero, suc, ◌+◌, ◌*◌, ◌/◌, ◌%◌, ◌<◌, ◌≤◌}
use native.Mathlib.Decide.{dec_lt, ℕ_discrete}
use native.Mathlib.Omega.{arith}
use Rattle.stations.specs.Sets.{◌is_in◌, size}
use Rattle.stations.proofs.Counting.{pigeon, size_all}
use Rattle.records.specs.Bytes.{short}
use Rattle.records.specs.Survey.{low, high, After, Survey, links, link_count}
use Rattle.writer.specs.Steps.{Laid}
use Rattle.writer.proofs.File.{link_of, of_link}

module _ {v n m : ℕ} {serials t bs : List ℕ} (Y : Survey v n m serials t bs) where
  abbrev key : ℕ → ℕ
  key j = low 4 n bs j * 256 + high 4 n bs j

  small : (j : ℕ) → j < m → high 4 n bs j < 256
  small j l = omega (arith, Y.pairs_right.below j l, Y.accepted.few)

  key_step : (j : ℕ) → suc j < m → After (low 4 n bs j) (high 4 n bs j) (low 4 n bs (suc j)) (high 4 n bs (suc j)) → key j < key (suc j)
  key_step j l (inl a) = omega (arith, small j (omega arith))
  key_step j l (inr (a, b)) = omega arith

  key_less : (i j : ℕ) → i < j → j < m → key i < key j
  key_less i zero h l = absurd (omega arith)
  key_less i (suc j) h l = go (ℕ_discrete i j) (λ p. key_less i j p (omega arith))
    where
      go : Dec (i ≡ j) → (i < j → key i < key j) → key i < key (suc j)
      go (yes e) ih = rw e (key_step j l (Y.pairs_right.rising j l))
      go (no d) ih = omega (arith, ih (omega arith), key_step j l (Y.pairs_right.rising j l))

  key_one : (i j : ℕ) → i < m → j < m → key i ≡ key j → i ≡ j
  key_one i j l h e = go (dec_lt i j) (dec_lt j i)
    where
      go : Dec (i < j) → Dec (j < i) → i ≡ j
      go (yes p) q = absurd (omega (arith, key_less i j p h))
      go (no p) (yes q) = absurd (omega (arith, key_less j i q l))
      go (no p) (no q) = omega arith

  key_in : (j : ℕ) → j < m → key j is_in links t
  key_in j l = of_link t (low 4 n bs j) (high 4 n bs j) (Y.pairs_right.apart j l) (small j l) (Y.record_linked j l)

  key_all : (x : ℕ) → x is_in links t → (j : ℕ) × (j < m) × (x ≡ key j)
  key_all x h =
      let (e, l) = link_of t x h in
      let (j, k, p, q) = Y.linked_record (x / 256) (x % 256) l e in
      (j, k, omega arith)

  ranked : (K j : ℕ) → j ≤ m → ((y : ℕ) → y < j → key y < K) → ((x : ℕ) → x < K → x is_in links t → (y : ℕ) × (y < j) × (x ≡ key y)) → size K (links t) ≡ j
  ranked K j l f g = omega (arith, up, down, size_all j)
    where
      up : size K (links t) ≤ size j (λ y. true)
      up = pigeon K j (links t) (λ y. true) (λ x y. x ≡ key y) (λ x h i. let (y, k, e) = g x h i in (y, k, refl, e)) (λ x x' y p q. p ∙ sym q)

      down : size j (λ y. true) ≤ size K (links t)
      down =
          pigeon j K (λ y. true) (links t) (λ y x. (y < j) × (x ≡ key y)) (λ y h i. (key y, f y h, key_in y (omega arith), (h, refl)))
          (λ y y' x p q. key_one y y' (omega (arith, p.0)) (omega (arith, q.0)) (sym p.1 ∙ q.1))

  pub links_counted : link_count n t ≡ m
  links_counted = ranked (n * 256) m (omega arith) (λ y l. omega (arith, Y.pairs_right.apart y l, Y.pairs_right.below y l, small y l)) (λ x l h. key_all x h)

  rank : (j : ℕ) → j < m → size (key j) (links t) ≡ j
  rank j l = ranked (key j) j (omega arith) (λ y h. key_less y j h l) (λ x h i. let (y, k, e) = key_all x i in (y, early x y h e k (dec_lt y j) (dec_lt j y), e))
    where
      early : (x y : ℕ) → x < key j → x ≡ key y → y < m → Dec (y < j) → Dec (j < y) → y < j
      early x y h e k (yes p) q = p
      early x y h e k (no p) (yes q) = absurd (omega (arith, key_less j y q k))
      early x y h e k (no p) (no q) = let r : y ≡ j = omega arith in absurd (omega (arith, ap key r))

  pub survey_laid : Laid (n * 256) (links t) (λ x. x / 256) (λ x. x % 256) (9 + n * 4) bs
  survey_laid x h i =
      let (j, l, e) = key_all x i in
      let r : size x (links t) ≡ j = ap (λ (k : ℕ). size k (links t)) e ∙ rank j l in
      let s = small j l in (
        ap (λ (k : ℕ). short bs (9 + n * 4 + k * 4)) r ∙ omega arith,
        ap (λ (k : ℕ). short bs (9 + n * 4 + k * 4 + 2)) r ∙ omega arith,
      )
