-- Standings are always answered: a station of an accepted table has its standing, and so have two different ones.
use mathlib.Core.List.{List, [], ◌∷◌}
use mathlib.Core.Logic.{◌≢◌, inl, inr}
use mathlib.Core.Path.{◌≡◌}
use Prim.Native.Nat.{ℕ, ◌<◌}
use native.Mathlib.Omega.{arith}
use Rattle.mesh.specs.Table.{linked, Table}
use Rattle.mesh.specs.Standing.{Standing, PairStanding}
use Rattle.card.specs.Card.{number_of, STATION, PAIR}
use Rattle.card.proofs.Card.{none_given, table_passes, rows_pass}
use Rattle.standings.specs.Reply.{Answer, Replies, ROWS_AT_ALL, station_order, pair_order}

rows_at_all_pass : (n : ℕ) (t : List ℕ) → ¬ (ROWS_AT_ALL n t).fails
rows_at_all_pass n t (k, a, b, f) = rows_pass n t k f

pub station_answers : (n : ℕ) (t : List ℕ) (a : ℕ) (r : Answer) → Replies (station_order n t a) (Standing (linked t) n a) r → Table n t → a < n → number_of r ≡ 0
station_answers n t a r p T l = none_given (station_order n t a) (number_of r) p.refused
    (table_passes n t (STATION n a ∷ ROWS_AT_ALL n t ∷ []) T (λ x. omega arith, (rows_at_all_pass n t, tt)))

pub pair_answers : (n : ℕ) (t : List ℕ) (a b : ℕ) (r : Answer) → Replies (pair_order n t a b) (PairStanding (linked t) n a b) r → Table n t → a < n → b < n → a ≢ b → number_of r ≡ 0
pair_answers n t a b r p T l m d = none_given (pair_order n t a b) (number_of r) p.refused (table_passes n t (PAIR n a b ∷ ROWS_AT_ALL n t ∷ []) T (pair, (rows_at_all_pass n t, tt)))
  where
    pair : ¬ (PAIR n a b).fails
    pair (inl x) = omega arith
    pair (inr (inl x)) = omega arith
    pair (inr (inr x)) = d x
