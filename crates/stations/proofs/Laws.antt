-- The laws of a set of words: where a station stands (has_at), sets told word by word (has_by, zipped), the same members are the same words
-- (members_same), the size is the sum of the ones, the smallest station is the lowest bit, the order by the smallest difference, rows of tables.
use mathlib.Core.Bool.{Bool, true, false, not, ◌&&◌, xor, true≢false, false≢true}
use mathlib.Core.List.{List, [], ◌∷◌}
use mathlib.Core.Path.{◌≡◌, refl, sym, ap, ap₂, ◌∙◌, subst}
use Prim.Native.Nat.{ℕ, zero, suc, ◌+◌, ◌-◌, ◌*◌, ◌/◌, ◌%◌, ◌^◌, ◌≤◌, ◌<◌}
use native.Mathlib.Nat.{not-suc-le-zero, le_of_suc-le-suc, add-zero}
use native.Mathlib.Decide.{dec_lt, ℕ_discrete}
use native.Mathlib.Omega.{arith}
use lib.Bits.{bit_and}
use lib.Count.{ones, count_trailing_zeros}
use lib.Dec.{eqb, ltb, lit<}
use lib.ListN.{length, get_or, set, length-set, get_or-eq_default}
use lib.Seq.{ext_get_or, get_or-set_same, get_or-set_other}
use borrow.Author.Tests.{eqb-true, eq-eqb, ne_eqb, ltb-true, lt-ltb, le-ltb}
use Rattle.stations.specs.Sets.{Set, Before, ◌without◌, only, size}
use Rattle.stations.specs.Words.{bit, has, row, put_row}
use Rattle.stations.specs.Answers.{Least, Taken, Sameness, Order}
use Rattle.stations.proofs.Bit.{bit-none, bit_ext, bit_rest, trailing_at, trailing_below, trailing_lt}
use Rattle.stations.proofs.Bools.{and_left, and_right, and_in, and_whole}
use Rattle.stations.proofs.Ones.{size-bit}
use Rattle.stations.proofs.Counting.{size_ext, size-add}
use Rattle.stations.proofs.Order.{before_not_after}

-- ---- where a station stands

pub has_at : (ws : List ℕ) (j q k : ℕ) → j / 64 ≡ q → j % 64 ≡ k → has ws j ≡ bit (get_or ws q 0) k
unfolding has
has_at ws j q k e f = ap₂ (λ (x y : ℕ). bit (get_or ws x 0) y) e f

pub has_beyond : (ws : List ℕ) (j : ℕ) → length ws ≡ 4 → 256 ≤ j → has ws j ≡ false
has_beyond ws j l h =
    has_at ws j (j / 64) (j % 64) refl refl
    ∙ ap (λ (x : ℕ). bit x (j % 64)) (get_or-eq_default ws 0 {n = j / 64} (omega arith)) ∙ bit-none (j % 64)

pub has_small : (ws : List ℕ) (j : ℕ) → length ws ≡ 4 → has ws j ≡ true → j < 256
has_small ws j l e = go (dec_lt j 256)
  where
    go : Dec (j < 256) → j < 256
    go (yes p) = p
    go (no p) = absurd (true≢false (sym e ∙ has_beyond ws j l (omega arith)))

-- a set that is told word by word
pub has_by : (ws : List ℕ) (f : ℕ → Bool) → length ws ≡ 4 → ((j : ℕ) → 256 ≤ j → f j ≡ false)
    → ((i k : ℕ) → i < 4 → k < 64 → bit (get_or ws i 0) k ≡ f (i * 64 + k)) → (j : ℕ) → has ws j ≡ f j
has_by ws f l z w j = go (dec_lt j 256)
  where
    go : Dec (j < 256) → has ws j ≡ f j
    go (yes p) = has_at ws j (j / 64) (j % 64) refl refl ∙ w (j / 64) (j % 64) (omega arith) (omega arith) ∙ ap f (omega arith)
    go (no p) = let h : 256 ≤ j = omega arith in has_beyond ws j l h ∙ sym (z j h)

-- what holds of 0, 1, 2 and 3 holds below 4
pub four : (P : ℕ → Type 0) → P 0 → P 1 → P 2 → P 3 → (i : ℕ) → i < 4 → P i
four P p q r s zero h = p
four P p q r s (suc zero) h = q
four P p q r s (suc (suc zero)) h = r
four P p q r s (suc (suc (suc zero))) h = s
four P p q r s (suc (suc (suc (suc i)))) h = absurd (not-suc-le-zero (le_of_suc-le-suc (le_of_suc-le-suc (le_of_suc-le-suc (le_of_suc-le-suc h)))))

-- what holds of each station of each word holds of each station of the set
pub by_words : (a b c d : ℕ) (P : ℕ → Type 0) → ((j : ℕ) → j < 64 → bit a j ≡ true → P (0 + j)) → ((j : ℕ) → j < 64 → bit b j ≡ true → P (64 + j))
    → ((j : ℕ) → j < 64 → bit c j ≡ true → P (128 + j)) → ((j : ℕ) → j < 64 → bit d j ≡ true → P (192 + j))
    → (x : ℕ) → has (a ∷ b ∷ c ∷ d ∷ []) x ≡ true → P x
by_words a b c d P p q r s x h =
    subst P (omega arith) (four (λ (i : ℕ). bit (get_or ws i 0) (x % 64) ≡ true → P (i * 64 + x % 64))
    (p (x % 64) (omega arith)) (q (x % 64) (omega arith)) (r (x % 64) (omega arith)) (s (x % 64) (omega arith))
    (x / 64) (omega (arith, has_small ws x refl h)) (sym (has_at ws x (x / 64) (x % 64) refl refl) ∙ h))
  where
    ws : List ℕ
    ws = a ∷ b ∷ c ∷ d ∷ []

-- a station of a word is a station of the set
pub of_word : (ws : List ℕ) (i base j : ℕ) → base ≡ i * 64 → j < 64 → bit (get_or ws i 0) j ≡ true → has ws (base + j) ≡ true
of_word ws i base j e l h = has_at ws (base + j) i j (omega arith) (omega arith) ∙ h

-- ---- an operation word by word is the operation station by station
module _ (g : ℕ → ℕ → ℕ) (op : Bool → Bool → Bool) (law : (a b k : ℕ) → bit (g a b) k ≡ op (bit a k) (bit b k)) (rest : op false false ≡ false) where
  pub zipped : (a b c d a' b' c' d' j : ℕ)
      → has (g a a' ∷ g b b' ∷ g c c' ∷ g d d' ∷ []) j ≡ op (has (a ∷ b ∷ c ∷ d ∷ []) j) (has (a' ∷ b' ∷ c' ∷ d' ∷ []) j)
  zipped a b c d a' b' c' d' =
      let v : List ℕ = a ∷ b ∷ c ∷ d ∷ [] in
      let v' : List ℕ = a' ∷ b' ∷ c' ∷ d' ∷ [] in
      let r : List ℕ = g a a' ∷ g b b' ∷ g c c' ∷ g d d' ∷ [] in
      has_by r (λ j. op (has v j) (has v' j)) refl
      (λ j h. ap₂ op (has_beyond v j refl h) (has_beyond v' j refl h) ∙ rest)
      (λ i k h l.
      four (λ (n : ℕ). bit (get_or r n 0) k ≡ op (bit (get_or v n 0) k) (bit (get_or v' n 0) k)) (law a a' k) (law b b' k) (law c c' k) (law d d' k) i h
      ∙ sym (ap₂ op (has_at v (i * 64 + k) i k (omega arith) (omega arith)) (has_at v' (i * 64 + k) i k (omega arith) (omega arith))))

pub xor-none : xor false false ≡ false
unfolding xor
xor-none = refl

-- ---- two sets with the same members are the same words
abbrev pub Wide : List ℕ → Type 0
Wide ws = (i : ℕ) → get_or ws i 0 < 2 ^ 64

pub members_same : (v w : List ℕ) → length v ≡ 4 → length w ≡ 4 → Wide v → Wide w → ((j : ℕ) → has v j ≡ has w j) → v ≡ w
members_same v w lv lw bv bw e =
    ext_get_or 0 v w (lv ∙ sym lw)
    (λ i h. bit_ext 64 (get_or v i 0) (get_or w i 0) (bv i) (bw i)
    (λ k l. sym (has_at v (i * 64 + k) i k (omega arith) (omega arith)) ∙ e (i * 64 + k) ∙ has_at w (i * 64 + k) i k (omega arith) (omega arith)))

pub wide_four : (a b c d : ℕ) → a < 2 ^ 64 → b < 2 ^ 64 → c < 2 ^ 64 → d < 2 ^ 64 → Wide (a ∷ b ∷ c ∷ d ∷ [])
wide_four a b c d p q r s zero = p
wide_four a b c d p q r s (suc zero) = q
wide_four a b c d p q r s (suc (suc zero)) = r
wide_four a b c d p q r s (suc (suc (suc zero))) = s
wide_four a b c d p q r s (suc (suc (suc (suc i)))) = lit< tt

-- the same words, as `==` compares them, are the same members
pub same_words : (a b c d a' b' c' d' : ℕ) → Wide (a ∷ b ∷ c ∷ d ∷ []) → Wide (a' ∷ b' ∷ c' ∷ d' ∷ [])
    → (r : Bool) → r ≡ (eqb a a' && (eqb b b' && (eqb c c' && eqb d d'))) → Sameness (has (a ∷ b ∷ c ∷ d ∷ [])) (has (a' ∷ b' ∷ c' ∷ d' ∷ [])) r
same_words a b c d a' b' c' d' wide wide' r e = record {
  same = λ f x.
      let h : (eqb a a' && (eqb b b' && (eqb c c' && eqb d d'))) ≡ true = sym e ∙ f in
      let h' : _ = and_right (eqb a a') (eqb b b' && (eqb c c' && eqb d d')) h in
      let h'' : _ = and_right (eqb b b') (eqb c c' && eqb d d') h' in
      let p : a ≡ a' = eqb-true a a' (and_left (eqb a a') (eqb b b' && (eqb c c' && eqb d d')) h) in
      let q : b ≡ b' = eqb-true b b' (and_left (eqb b b') (eqb c c' && eqb d d') h') in
      let u : c ≡ c' = eqb-true c c' (and_left (eqb c c') (eqb d d') h'') in
      let v : d ≡ d' = eqb-true d d' (and_right (eqb c c') (eqb d d') h'') in
      rw (p, q, u, v) refl;
  other = λ f h.
      let same : (a ∷ b ∷ c ∷ d ∷ []) ≡ (a' ∷ b' ∷ c' ∷ d' ∷ []) = members_same (a ∷ b ∷ c ∷ d ∷ []) (a' ∷ b' ∷ c' ∷ d' ∷ []) refl refl wide wide' h in
      true≢false (
      sym (and_in (eqb a a') (eqb b b' && (eqb c c' && eqb d d')) (eq-eqb a a' (ap (λ (l : List ℕ). get_or l 0 0) same))
      (and_in (eqb b b') (eqb c c' && eqb d d') (eq-eqb b b' (ap (λ (l : List ℕ). get_or l 1 0) same))
      (and_in (eqb c c') (eqb d d') (eq-eqb c c' (ap (λ (l : List ℕ). get_or l 2 0) same)) (eq-eqb d d' (ap (λ (l : List ℕ). get_or l 3 0) same)))))
      ∙ sym e ∙ f
      );
}

-- ---- the size is the sum of the words' set bits
pub size_ones : (a b c d : ℕ) → a < 2 ^ 64 → b < 2 ^ 64 → c < 2 ^ 64 → d < 2 ^ 64 → size 256 (has (a ∷ b ∷ c ∷ d ∷ [])) ≡ ones a + (ones b + (ones c + ones d))
size_ones a b c d p q r s =
    let v : List ℕ = a ∷ b ∷ c ∷ d ∷ [] in
    size-add 64 192 (has v)
    ∙ ap₂ (λ (x y : ℕ). x + y)
    (size_ext 64 (has v) (bit a) (λ j h. has_at v j 0 j (omega arith) (omega arith)) ∙ size-bit 64 a p)
    (size-add 64 128 (λ j. has v (64 + j))
    ∙ ap₂ (λ (x y : ℕ). x + y)
    (size_ext 64 (λ j. has v (64 + j)) (bit b) (λ j h. has_at v (64 + j) 1 j (omega arith) (omega arith)) ∙ size-bit 64 b q)
    (size-add 64 64 (λ j. has v (64 + (64 + j)))
    ∙ ap₂ (λ (x y : ℕ). x + y)
    (size_ext 64 (λ j. has v (64 + (64 + j))) (bit c) (λ j h. has_at v (64 + (64 + j)) 2 j (omega arith) (omega arith)) ∙ size-bit 64 c r)
    (size_ext 64 (λ j. has v (64 + (64 + (64 + j)))) (bit d) (λ j h. has_at v (64 + (64 + (64 + j))) 3 j (omega arith) (omega arith)) ∙ size-bit 64 d s)))

-- ---- the smallest station: the lowest bit of the first word that is not 0
abbrev pub Blank : List ℕ → ℕ → Type 0
Blank ws q = (i : ℕ) → i < q → get_or ws i 0 ≡ 0

pub blank_none : (ws : List ℕ) → Blank ws 0
blank_none ws i h = absurd (not-suc-le-zero h)

pub blank_cons : {a : ℕ} (ws : List ℕ) (q : ℕ) → a ≡ 0 → Blank ws q → Blank (a ∷ ws) (suc q)
blank_cons ws q e r zero h = e
blank_cons ws q e r (suc i) h = r i (le_of_suc-le-suc h)

module _ (ws : List ℕ) (q : ℕ) (above : Blank ws q) where
  pub zeros_below : (j : ℕ) → j < q * 64 → has ws j ≡ false
  zeros_below j h = has_at ws j (j / 64) (j % 64) refl refl ∙ ap (λ (x : ℕ). bit x (j % 64)) (above (j / 64) (omega arith)) ∙ bit-none (j % 64)

  module _ (wide : get_or ws q 0 < 2 ^ 64) (some : get_or ws q 0 ≡ 0 → ⊥) where
    pub first_has : has ws (q * 64 + count_trailing_zeros 64 (get_or ws q 0)) ≡ true
    first_has =
        let t : ℕ = count_trailing_zeros 64 (get_or ws q 0) in
        let l : t < 64 = trailing_lt 64 (get_or ws q 0) wide some in
        has_at ws (q * 64 + t) q t (omega arith) (omega arith) ∙ trailing_at 64 (get_or ws q 0) l

    pub first_below : (j : ℕ) → j < q * 64 + count_trailing_zeros 64 (get_or ws q 0) → has ws j ≡ false
    first_below j h = go (dec_lt j (q * 64))
      where
        go : Dec (j < q * 64) → has ws j ≡ false
        go (yes p) = zeros_below j p
        go (no p) =
            let l : count_trailing_zeros 64 (get_or ws q 0) < 64 = trailing_lt 64 (get_or ws q 0) wide some in
            has_at ws j q (j % 64) (omega arith) refl ∙ trailing_below 64 (get_or ws q 0) (j % 64) (omega arith)

-- ---- tests
pub eqb_iff : (a b c d : ℕ) → (a ≡ b → c ≡ d) → (c ≡ d → a ≡ b) → eqb a b ≡ eqb c d
eqb_iff a b c d f g = go (eqb a b) refl
  where
    go : (t : Bool) → eqb a b ≡ t → eqb a b ≡ eqb c d
    go true e = e ∙ sym (eq-eqb c d (f (eqb-true a b e)))
    go false e = e ∙ sym (ne_eqb c d (λ h. borrow.Author.Tests.eqb-false a b e (g h)))

not_lt : (a b : ℕ) → (a < b → ⊥) → b ≤ a
not_lt a b h = omega arith

not_le : {a b : ℕ} → a < b → b ≤ a → ⊥
not_le p q = omega arith

pub ltb_iff : (a b c d : ℕ) → (a < b → c < d) → (c < d → a < b) → ltb a b ≡ ltb c d
ltb_iff a b c d f g = go (ltb a b) refl
  where
    go : (t : Bool) → ltb a b ≡ t → ltb a b ≡ ltb c d
    go true e = e ∙ sym (lt-ltb c d (f (ltb-true a b e)))
    go false e = let h : b ≤ a = borrow.Author.Tests.ltb-false a b e in e ∙ sym (le-ltb c d (not_lt c d (λ p. not_le (g p) h)))

-- the smallest station, where the words before word q are 0
pub least_at : (ws : List ℕ) (q j : ℕ) → Blank ws q → q < 4 → get_or ws q 0 < 2 ^ 64 → (get_or ws q 0 ≡ 0 → ⊥) → j ≡ q * 64 + count_trailing_zeros 64 (get_or ws q 0) → Least (has ws) j
least_at ws q j b l w z e =
    let t : count_trailing_zeros 64 (get_or ws q 0) < 64 = trailing_lt 64 (get_or ws q 0) w z in
    record {
      small = omega arith;
      mine = ap (has ws) e ∙ first_has ws q b w z;
      below = λ k h. first_below ws q b w z k (subst (λ (x : ℕ). k < x) e h);
    }

-- ---- the smallest station taken out: the lowest bit of word q is cleared, the other words stay
module _ (ws ws' : List ℕ) (l : length ws ≡ 4) (l' : length ws' ≡ 4) (q : ℕ) (wide : get_or ws q 0 < 2 ^ 64) (some : get_or ws q 0 ≡ 0 → ⊥)
    (cleared : get_or ws' q 0 ≡ bit_and (get_or ws q 0) (get_or ws q 0 - 1)) (same : (i : ℕ) → i < 4 → (i ≡ q → ⊥) → get_or ws' i 0 ≡ get_or ws i 0) where
  abbrev lowest : ℕ
  lowest = count_trailing_zeros 64 (get_or ws q 0)

  pub popped : (x : ℕ) → has ws' x ≡ (has ws without only (q * 64 + count_trailing_zeros 64 (get_or ws q 0))) x
  popped = has_by ws' (has ws without only (q * 64 + lowest)) l' (λ j h. ap (λ (b : Bool). b && not (eqb j (q * 64 + lowest))) (has_beyond ws j l h)) word
    where
      small : lowest < 64
      small = trailing_lt 64 (get_or ws q 0) wide some

      word : (i k : ℕ) → i < 4 → k < 64 → bit (get_or ws' i 0) k ≡ (has ws without only (q * 64 + lowest)) (i * 64 + k)
      word i k h m = go (ℕ_discrete i q)
        where
          mine : has ws (i * 64 + k) ≡ bit (get_or ws i 0) k
          mine = has_at ws (i * 64 + k) i k (omega arith) (omega arith)

          go : Dec (i ≡ q) → bit (get_or ws' i 0) k ≡ (has ws without only (q * 64 + lowest)) (i * 64 + k)
          go (yes e) =
              ap (λ (y : ℕ). bit (get_or ws' y 0) k) e ∙ ap (λ (y : ℕ). bit y k) cleared ∙ bit_rest 64 (get_or ws q 0) wide some k
              ∙ ap₂ (λ (b t : Bool). b && not t) (ap (λ (y : ℕ). bit (get_or ws y 0) k) (sym e) ∙ sym mine)
              (eqb_iff k lowest (i * 64 + k) (q * 64 + lowest) (λ f. omega arith) (λ f. omega arith))
          go (no n) =
              ap (λ (y : ℕ). bit y k) (same i h n) ∙ sym mine ∙ sym (and_whole (has ws (i * 64 + k)))
              ∙ ap (λ (t : Bool). has ws (i * 64 + k) && not t) (sym (ne_eqb (i * 64 + k) (q * 64 + lowest) (λ f. let m' : lowest < 64 = small in n (omega arith))))

-- a set with no word but 0
pub blank_all : (ws : List ℕ) → length ws ≡ 4 → Blank ws 4 → (j : ℕ) → has ws j ≡ false
blank_all ws l b = has_by ws (λ j. false) l (λ j h. refl) (λ i k h p. ap (λ (x : ℕ). bit x k) (b i h) ∙ bit-none k)

-- ---- the same for four words, as the code has them
module _ (a b c d : ℕ) where
  abbrev ws : List ℕ
  ws = a ∷ b ∷ c ∷ d ∷ []

  pub none_four : a ≡ 0 → b ≡ 0 → c ≡ 0 → d ≡ 0 → (j : ℕ) → has (a ∷ b ∷ c ∷ d ∷ []) j ≡ false
  none_four p q r s = blank_all ws refl (four (λ (i : ℕ). get_or ws i 0 ≡ 0) p q r s)

  pub least₀ : (j : ℕ) → a < 2 ^ 64 → (a ≡ 0 → ⊥) → j ≡ count_trailing_zeros 64 a → Least (has (a ∷ b ∷ c ∷ d ∷ [])) j
  least₀ j w z e = least_at ws 0 j (blank_none ws) (lit< tt) w z (omega arith)

  pub least₁ : (j : ℕ) → a ≡ 0 → b < 2 ^ 64 → (b ≡ 0 → ⊥) → j ≡ 64 + count_trailing_zeros 64 b → Least (has (a ∷ b ∷ c ∷ d ∷ [])) j
  least₁ j p w z e = least_at ws 1 j (blank_cons (b ∷ c ∷ d ∷ []) 0 p (blank_none (b ∷ c ∷ d ∷ []))) (lit< tt) w z (omega arith)

  pub least₂ : (j : ℕ) → a ≡ 0 → b ≡ 0 → c < 2 ^ 64 → (c ≡ 0 → ⊥) → j ≡ 128 + count_trailing_zeros 64 c → Least (has (a ∷ b ∷ c ∷ d ∷ [])) j
  least₂ j p q w z e = least_at ws 2 j (blank_cons (b ∷ c ∷ d ∷ []) 1 p (blank_cons (c ∷ d ∷ []) 0 q (blank_none (c ∷ d ∷ [])))) (lit< tt) w z (omega arith)

  pub least₃ : (j : ℕ) → a ≡ 0 → b ≡ 0 → c ≡ 0 → d < 2 ^ 64 → (d ≡ 0 → ⊥) → j ≡ 192 + count_trailing_zeros 64 d → Least (has (a ∷ b ∷ c ∷ d ∷ [])) j
  least₃ j p q r w z e = least_at ws 3 j (blank_cons (b ∷ c ∷ d ∷ []) 2 p (blank_cons (c ∷ d ∷ []) 1 q (blank_cons (d ∷ []) 0 r (blank_none (d ∷ []))))) (lit< tt) w z (omega arith)

  -- one word changed
  abbrev others : ℕ → List ℕ → ℕ → Type 0
  others q ws' i = (i ≡ q → ⊥) → get_or ws' i 0 ≡ get_or ws i 0

  pub taken₀ : (j : ℕ) → a < 2 ^ 64 → (a ≡ 0 → ⊥) → j ≡ count_trailing_zeros 64 a → Taken (has (a ∷ b ∷ c ∷ d ∷ [])) j (has (bit_and a (a - 1) ∷ b ∷ c ∷ d ∷ []))
  taken₀ j w z e =
      let ws' : List ℕ = bit_and a (a - 1) ∷ b ∷ c ∷ d ∷ [] in record {
        least = least₀ j w z e;
        rest = subst (λ (y : ℕ). (x : ℕ) → has ws' x ≡ (has ws without only y) x) (omega arith)
            (popped ws ws' refl refl 0 w z refl (four (others 0 ws') (λ n. absurd (n refl)) (λ n. refl) (λ n. refl) (λ n. refl)));
      }

  pub taken₁ : (j : ℕ) → a ≡ 0 → b < 2 ^ 64 → (b ≡ 0 → ⊥) → j ≡ 64 + count_trailing_zeros 64 b
      → Taken (has (a ∷ b ∷ c ∷ d ∷ [])) j (has (a ∷ bit_and b (b - 1) ∷ c ∷ d ∷ []))
  taken₁ j p w z e =
      let ws' : List ℕ = a ∷ bit_and b (b - 1) ∷ c ∷ d ∷ [] in record {
        least = least₁ j p w z e;
        rest = subst (λ (y : ℕ). (x : ℕ) → has ws' x ≡ (has ws without only y) x) (omega arith)
            (popped ws ws' refl refl 1 w z refl (four (others 1 ws') (λ n. refl) (λ n. absurd (n refl)) (λ n. refl) (λ n. refl)));
      }

  pub taken₂ : (j : ℕ) → a ≡ 0 → b ≡ 0 → c < 2 ^ 64 → (c ≡ 0 → ⊥) → j ≡ 128 + count_trailing_zeros 64 c
      → Taken (has (a ∷ b ∷ c ∷ d ∷ [])) j (has (a ∷ b ∷ bit_and c (c - 1) ∷ d ∷ []))
  taken₂ j p q w z e =
      let ws' : List ℕ = a ∷ b ∷ bit_and c (c - 1) ∷ d ∷ [] in record {
        least = least₂ j p q w z e;
        rest = subst (λ (y : ℕ). (x : ℕ) → has ws' x ≡ (has ws without only y) x) (omega arith)
            (popped ws ws' refl refl 2 w z refl (four (others 2 ws') (λ n. refl) (λ n. refl) (λ n. absurd (n refl)) (λ n. refl)));
      }

  pub taken₃ : (j : ℕ) → a ≡ 0 → b ≡ 0 → c ≡ 0 → d < 2 ^ 64 → (d ≡ 0 → ⊥) → j ≡ 192 + count_trailing_zeros 64 d
      → Taken (has (a ∷ b ∷ c ∷ d ∷ [])) j (has (a ∷ b ∷ c ∷ bit_and d (d - 1) ∷ []))
  taken₃ j p q r w z e =
      let ws' : List ℕ = a ∷ b ∷ c ∷ bit_and d (d - 1) ∷ [] in record {
        least = least₃ j p q r w z e;
        rest = subst (λ (y : ℕ). (x : ℕ) → has ws' x ≡ (has ws without only y) x) (omega arith)
            (popped ws ws' refl refl 3 w z refl (four (others 3 ws') (λ n. refl) (λ n. refl) (λ n. refl) (λ n. absurd (n refl))));
      }

  -- told word by word
  pub four_by : (f : ℕ → Bool) → ((j : ℕ) → 256 ≤ j → f j ≡ false)
      → ((k : ℕ) → k < 64 → bit a k ≡ f (0 * 64 + k)) → ((k : ℕ) → k < 64 → bit b k ≡ f (1 * 64 + k))
      → ((k : ℕ) → k < 64 → bit c k ≡ f (2 * 64 + k)) → ((k : ℕ) → k < 64 → bit d k ≡ f (3 * 64 + k)) → (j : ℕ) → has (a ∷ b ∷ c ∷ d ∷ []) j ≡ f j
  four_by f z p q r s = has_by ws f refl z (λ i k h l. four (λ (n : ℕ). bit (get_or ws n 0) k ≡ f (n * 64 + k)) (p k l) (q k l) (r k l) (s k l) i h)

-- ---- the order of two sets
pub xor_eq : (p q : Bool) → xor p q ≡ false → p ≡ q
unfolding xor
xor_eq true true e = refl
xor_eq true false e = e
xor_eq false true e = sym e
xor_eq false false e = refl

pub xor_self : (p : Bool) → xor p p ≡ false
unfolding xor
xor_self true = refl
xor_self false = refl

pub xor_mine : (p q : Bool) → xor p q ≡ true → p ≡ true → q ≡ false
unfolding xor
xor_mine true true e f = sym e
xor_mine true false e f = refl
xor_mine false q e f = absurd (false≢true f)

pub xor_theirs : (p q : Bool) → xor p q ≡ true → p ≡ false → q ≡ true
unfolding xor
xor_theirs false true e f = refl
xor_theirs false false e f = e
xor_theirs true q e f = absurd (true≢false f)

-- d has the stations in one of the two and not in the other, and j is the smallest of them
module _ (s t d : Set) (law : (x : ℕ) → d x ≡ xor (s x) (t x)) (j : ℕ) (l : Least d j) where
  alike : (x : ℕ) → x < j → s x ≡ t x
  alike x h = xor_eq (s x) (t x) (sym (law x) ∙ l.below x h)

  pub before_mine : s j ≡ true → Before s t
  before_mine e = record { at = j; mine = e; theirs = xor_mine (s j) (t j) (sym (law j) ∙ l.mine) e; alike = alike }

  pub before_theirs : s j ≡ false → Before t s
  before_theirs e = record { at = j; mine = xor_theirs (s j) (t j) (sym (law j) ∙ l.mine) e; theirs = e; alike = λ x h. sym (alike x h) }

pub before_differs : (s t : Set) → Before s t → ((x : ℕ) → s x ≡ t x) → ⊥
before_differs s t b e = true≢false (sym b.mine ∙ e b.at ∙ b.theirs)

-- the answer of a comparison
pub order_at : (s t d : Set) → ((x : ℕ) → d x ≡ xor (s x) (t x)) → (j : ℕ) → Least d j → (r : Bool) → r ≡ s j → Order s t r
order_at s t d law j l r e = record {
  before = λ h. before_mine s t d law j l (sym e ∙ h);
  after = λ h b. before_not_after s t b (before_theirs s t d law j l (sym e ∙ h));
}

pub order_none : (s t d : Set) → ((x : ℕ) → d x ≡ xor (s x) (t x)) → ((x : ℕ) → d x ≡ false) → Order s t false
order_none s t d law z = record {
  before = λ h. absurd (true≢false (sym h));
  after = λ h b. before_differs s t b (λ x. xor_eq (s x) (t x) (sym (law x) ∙ z x));
}

-- a row of four words, read as a table of one row
pub row_whole : (x : List ℕ) → length x ≡ 4 → row x 0 ≡ x
row_whole [] e = absurd (short e)
  where
    short : ◌≡◌ {A = ℕ} 0 4 → ⊥
    short e = omega arith
row_whole (a ∷ []) e = absurd (short e)
  where
    short : ◌≡◌ {A = ℕ} 1 4 → ⊥
    short e = omega arith
row_whole (a ∷ b ∷ []) e = absurd (short e)
  where
    short : ◌≡◌ {A = ℕ} 2 4 → ⊥
    short e = omega arith
row_whole (a ∷ b ∷ c ∷ []) e = absurd (short e)
  where
    short : ◌≡◌ {A = ℕ} 3 4 → ⊥
    short e = omega arith
row_whole (a ∷ b ∷ c ∷ d ∷ []) e = refl
row_whole (a ∷ b ∷ c ∷ d ∷ f ∷ ws) e = absurd (long (length ws) e)
  where
    long : (n : ℕ) → suc (suc (suc (suc (suc n)))) ≡ 4 → ⊥
    long n e = omega arith

-- the word of a row that has station j, as it stands in the table
pub row_word : (t : List ℕ) (i j : ℕ) → j < 256 → has (row t i) j ≡ bit (get_or t (i * 4 + j / 64) 0) (j % 64)
row_word t i j h =
    has_at (row t i) j (j / 64) (j % 64) refl refl
    ∙ ap (λ (x : ℕ). bit x (j % 64)) (four (λ (q : ℕ). get_or (row t i) q 0 ≡ get_or t (i * 4 + q) 0) (ap (λ (m : ℕ). get_or t m 0) (sym (add-zero (i * 4)))) refl refl refl (j / 64) (omega arith))

-- ---- a row that is put into a table
pub put_length : (t : List ℕ) (i a b c d : ℕ) → length (put_row t i a b c d) ≡ length t
put_length t i a b c d = simp length-set

cons₄ : {a b c d a' b' c' d' : ℕ} → a ≡ a' → b ≡ b' → c ≡ c' → d ≡ d' → ◌≡◌ {A = List ℕ} (a ∷ b ∷ c ∷ d ∷ []) (a' ∷ b' ∷ c' ∷ d' ∷ [])
cons₄ p q r s = cc

module _ (t : List ℕ) (i a b c d : ℕ) where
  abbrev t₁ : List ℕ
  t₁ = set t (i * 4) a

  abbrev t₂ : List ℕ
  t₂ = set t₁ (i * 4 + 1) b

  abbrev t₃ : List ℕ
  t₃ = set t₂ (i * 4 + 2) c

  pub row_put : i * 4 + 4 ≤ length t → row (put_row t i a b c d) i ≡ a ∷ b ∷ c ∷ d ∷ []
  row_put h =
      let l₁ : length t₁ ≡ length t = length-set t (i * 4) a in
      let l₂ : length t₂ ≡ length t = length-set t₁ (i * 4 + 1) b ∙ l₁ in
      let l₃ : length t₃ ≡ length t = length-set t₂ (i * 4 + 2) c ∙ l₂ in
      cons₄
      (get_or-set_other t₃ (i * 4 + 3) (i * 4) d 0 (λ e. omega arith) ∙ get_or-set_other t₂ (i * 4 + 2) (i * 4) c 0 (λ e. omega arith)
      ∙ get_or-set_other t₁ (i * 4 + 1) (i * 4) b 0 (λ e. omega arith) ∙ get_or-set_same t (i * 4) a 0 (omega arith))
      (get_or-set_other t₃ (i * 4 + 3) (i * 4 + 1) d 0 (λ e. omega arith) ∙ get_or-set_other t₂ (i * 4 + 2) (i * 4 + 1) c 0 (λ e. omega arith)
      ∙ get_or-set_same t₁ (i * 4 + 1) b 0 (omega arith))
      (get_or-set_other t₃ (i * 4 + 3) (i * 4 + 2) d 0 (λ e. omega arith) ∙ get_or-set_same t₂ (i * 4 + 2) c 0 (omega arith))
      (get_or-set_same t₃ (i * 4 + 3) d 0 (omega arith))

  -- a place in another row keeps its word
  kept : (p : ℕ) → (p / 4 ≡ i → ⊥) → get_or (put_row t i a b c d) p 0 ≡ get_or t p 0
  kept p h =
      get_or-set_other t₃ (i * 4 + 3) p d 0 (λ e. h (omega arith)) ∙ get_or-set_other t₂ (i * 4 + 2) p c 0 (λ e. h (omega arith))
      ∙ get_or-set_other t₁ (i * 4 + 1) p b 0 (λ e. h (omega arith)) ∙ get_or-set_other t (i * 4) p a 0 (λ e. h (omega arith))

  pub row_put_other : (j : ℕ) → (j ≡ i → ⊥) → row (put_row t i a b c d) j ≡ row t j
  row_put_other j h =
      cons₄ (kept (j * 4) (λ e. h (omega arith))) (kept (j * 4 + 1) (λ e. h (omega arith))) (kept (j * 4 + 2) (λ e. h (omega arith))) (kept (j * 4 + 3) (λ e. h (omega arith)))
