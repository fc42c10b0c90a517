-- Standings have one reply: two that a question allows are the same, refused or not, since there is one largest level.
use mathlib.Core.List.{List}
use mathlib.Core.Logic.{◌⊎◌, inl, inr}
use mathlib.Core.Path.{◌≡◌, refl, sym, ap}
use Rattle.std.proofs.Common.{Ok, Err}
use Prim.Native.Nat.{ℕ, ◌<◌, ◌≤◌}
use native.Mathlib.Decide.{dec_lt}
use native.Mathlib.Omega.{arith}
use Rattle.stations.specs.Sets.{Set, ◌is_in◌}
use Rattle.mesh.specs.Mesh.{Links, Group}
use Rattle.mesh.specs.Standing.{Standing, PairStanding}
use Rattle.mesh.specs.Table.{linked}
use Rattle.card.specs.Card.{number_of, Test}
use Rattle.card.proofs.Card.{first_one, refusal_one, number_above}
use Rattle.standings.specs.Reply.{Answer, Replies, station_order, pair_order}

standing_le : (L : Links) (n x v w : ℕ) → Standing L n x v → Standing L n x w → v ≤ w
standing_le L n x v w p q = go (dec_lt 0 v)
  where
    by : 0 < v → (s : Set) × Group L n v s × (x is_in s) → v ≤ w
    by h (s, G, e) = q.largest v s h p.top G e

    go : Dec (0 < v) → v ≤ w
    go (yes h) = by h (p.reached h)
    go (no h) = omega arith

pub standing_one : (L : Links) (n x v w : ℕ) → Standing L n x v → Standing L n x w → v ≡ w
standing_one L n x v w p q = omega (arith, standing_le L n x v w p q, standing_le L n x w v q p)

pub pair_one : (L : Links) (n x y v w : ℕ) → PairStanding L n x y v → PairStanding L n x y w → v ≡ w
pair_one L n x y v w p q =
    go p.smaller q.smaller (standing_one L n x p.one q.one p.first q.first) (standing_one L n y p.two q.two p.second q.second)
  where
    go : (v ≤ p.one) × (v ≤ p.two) × ((v ≡ p.one) ⊎ (v ≡ p.two)) → (w ≤ q.one) × (w ≤ q.two) × ((w ≡ q.one) ⊎ (w ≡ q.two)) → p.one ≡ q.one → p.two ≡ q.two → v ≡ w
    go (a, b, inl c) (d, e, inl f) g h = omega arith
    go (a, b, inl c) (d, e, inr f) g h = omega arith
    go (a, b, inr c) (d, e, inl f) g h = omega arith
    go (a, b, inr c) (d, e, inr f) g h = omega arith

-- whatever is asked, if there is one right level, there is one reply
reply_one : (ts : List Test) (P : ℕ → Type 0) → ((v w : ℕ) → P v → P w → v ≡ w) → (r r' : Answer) → Replies ts P r → Replies ts P r' → r ≡ r'
reply_one ts P one r r' p q = go r r' p q (first_one ts (number_of r) (number_of r') p.refused q.refused)
  where
    go : (r r' : Answer) → Replies ts P r → Replies ts P r' → number_of r ≡ number_of r' → r ≡ r'
    go (Ok v) (Ok w) p q e = ap Ok (one v w (p.right refl) (q.right refl))
    go (Err x) (Err y) p q e = ap Err (refusal_one x y e)
    go (Err x) (Ok w) p q e = absurd (number_above x e)
    go (Ok v) (Err y) p q e = absurd (number_above y (sym e))

pub station_only_one : (n : ℕ) (t : List ℕ) (a : ℕ) (r r' : Answer) → Replies (station_order n t a) (Standing (linked t) n a) r
    → Replies (station_order n t a) (Standing (linked t) n a) r' → r ≡ r'
station_only_one n t a = reply_one (station_order n t a) (Standing (linked t) n a) (λ v w. standing_one (linked t) n a v w)

pub pair_only_one : (n : ℕ) (t : List ℕ) (a b : ℕ) (r r' : Answer) → Replies (pair_order n t a b) (PairStanding (linked t) n a b) r
    → Replies (pair_order n t a b) (PairStanding (linked t) n a b) r' → r ≡ r'
pair_only_one n t a b = reply_one (pair_order n t a b) (PairStanding (linked t) n a b) (λ v w. pair_one (linked t) n a b v w)
