-- The rows of a list: a store changes one row, and what is kept of the words past a row is kept of the rows.
use mathlib.Core.List.{List, [], ◌∷◌}
use mathlib.Core.Path.{◌≡◌, refl, sym, ap, ◌∙◌, subst₂}
use Prim.Native.Nat.{ℕ, ◌+◌, ◌*◌, ◌<◌, ◌≤◌}
use native.Mathlib.Omega.{arith}
use lib.ListN.{length, get_or, set}
use lib.Seq.{get_or-set_other}
use Rattle.stations.specs.Sets.{Set}
use Rattle.stations.specs.Words.{has, members, put_row}
use Rattle.stations.specs.declared.StationSet.{StationSet}
use Rattle.stations.proofs.Laws.{put_length, row_put, row_put_other}
use Rattle.listing.specs.List.{set_at}
use Rattle.listing.specs.Rows.{Kept, Stored}

pub kept_none : (c : ℕ) (l : List ℕ) → Kept c l l
kept_none c l = record { long = refl; past = λ p h. refl }

pub kept_more : {c : ℕ} {l l' l'' : List ℕ} → Kept c l l' → Kept c l' l'' → Kept c l l''
kept_more a b = record { long = b.long ∙ a.long; past = λ p h. b.past p h ∙ a.past p h }

pub kept_less : {c : ℕ} {l l' : List ℕ} (e : ℕ) → c ≤ e → Kept c l l' → Kept e l l'
kept_less e h a = record { long = a.long; past = λ p m. a.past p (omega arith) }

-- a row whose words are the same is the same
pub same_words : (l l' : List ℕ) (i : ℕ) → ((p : ℕ) → i * 4 ≤ p → p < i * 4 + 4 → get_or l' p 0 ≡ get_or l p 0) → set_at l' i ≡ set_at l i
same_words l l' i h = ap has (four (h (i * 4) (omega arith) (omega arith)) (h (i * 4 + 1) (omega arith) (omega arith)) (h (i * 4 + 2) (omega arith) (omega arith)) (h (i * 4 + 3) (omega arith) (omega arith)))
  where
    four : {a b c d a' b' c' d' : ℕ} → a ≡ a' → b ≡ b' → c ≡ c' → d ≡ d' → ◌≡◌ {A = List ℕ} (a ∷ b ∷ c ∷ d ∷ []) (a' ∷ b' ∷ c' ∷ d' ∷ [])
    four p q r s = cc

pub kept_row : {c : ℕ} {l l' : List ℕ} → Kept c l l' → (i : ℕ) → c ≤ i → set_at l' i ≡ set_at l i
kept_row {l = l} {l' = l'} k i h = same_words l l' i (λ p a b. k.past p (omega arith))

put_past : (l : List ℕ) (r a b c d p : ℕ) → (r + 1) * 4 ≤ p → get_or (put_row l r a b c d) p 0 ≡ get_or l p 0
put_past l r a b c d p h =
    get_or-set_other (set (set (set l (r * 4) a) (r * 4 + 1) b) (r * 4 + 2) c) (r * 4 + 3) p d 0 (λ e. omega arith)
    ∙ get_or-set_other (set (set l (r * 4) a) (r * 4 + 1) b) (r * 4 + 2) p c 0 (λ e. omega arith)
    ∙ get_or-set_other (set l (r * 4) a) (r * 4 + 1) p b 0 (λ e. omega arith)
    ∙ get_or-set_other l (r * 4) p a 0 (λ e. omega arith)

-- a set put into row r
put_stored : (l : List ℕ) (r a b c d : ℕ) → r * 4 + 4 ≤ length l → Stored l r (has (a ∷ b ∷ c ∷ d ∷ [])) (put_row l r a b c d)
put_stored l r a b c d h = record {
  here = ap has (row_put l r a b c d h);
  other = λ i n. ap has (row_put_other l r a b c d i n);
  kept = record { long = put_length l r a b c d; past = put_past l r a b c d };
}

-- the words of a station set put into row r
pub put_set : {l l' : List ℕ} {r : ℕ} {A : Set} (s : StationSet) → members s ≡ A → r * 4 + 4 ≤ length l → l' ≡ put_row l r s.a s.b s.c s.d → Stored l r A l'
put_set {l = l} {r = r} {A = A} s e h q = subst₂ (λ (B : Set) (u : List ℕ). Stored l r B u) e (sym q) (put_stored l r s.a s.b s.c s.d h)
