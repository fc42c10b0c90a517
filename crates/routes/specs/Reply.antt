-- The routes question: its replies in the numbers of the rules, and when each is right. Rules R1 to R4.
--   number_of r, joined r, count r  of the reply r: its refusal number (0 where answered), whether it says that the two are linked, its count
--   order n t a b                   2, 3, 4, 7
--   Replies n t a b r               r is the reply to the question about stations a and b of the table t of n stations
use Rattle.std.specs.Prelude.{Bool, true, false, Result, Ok, Err, List, [], ◌∷◌, ◌≡◌, ℕ}
use Rattle.stations.specs.Sets.{stations}
use Rattle.mesh.specs.Table.{linked}
use Rattle.mesh.specs.Routes.{Most, Least}
use Rattle.card.specs.Card.{number_of, Test, FirstFailing, STATIONS, TABLE_LENGTH, TABLE, PAIR}
use Rattle.card.specs.declared.Refusal.{Refusal}
use Rattle.routes.specs.declared.Answer.{Answer}
use Rattle.routes.specs.declared.Answer.TheVariants.{Counted, Joined}

-- what the routes question replies
abbrev pub Reply : Type 0
Reply = Result Answer Refusal

abbrev pub joined : Reply → Bool
joined (Ok (Counted c)) = false
joined (Ok Joined) = true
joined (Err r) = false

-- rules R3 and C2: 0 for a linked pair and for a refusal
abbrev pub count : Reply → ℕ
count (Ok (Counted c)) = c
count (Ok Joined) = 0
count (Err r) = 0

abbrev pub order : ℕ → List ℕ → ℕ → ℕ → List Test
order n t a b = STATIONS n ∷ TABLE_LENGTH n t ∷ TABLE n t ∷ PAIR n a b ∷ []

pub record Replies (n : ℕ) (t : List ℕ) (a b : ℕ) (r : Reply) : Type 0 where
  -- refused exactly when a test fails, by the first that does
  pub refused : FirstFailing (order n t a b) (number_of r)
  -- rule R3: joined exactly for a linked pair
  pub linked_pair : number_of r ≡ 0 → joined r ≡ linked t a b
  -- rule R1: for a pair without a link, the greatest number of separate routes
  pub most : number_of r ≡ 0 → linked t a b ≡ false → Most (linked t) (stations n) a b (count r)
  -- rule R2: and the smallest loss of other stations that parts the two
  pub least : number_of r ≡ 0 → linked t a b ≡ false → Least (linked t) n (stations n) a b (count r)
