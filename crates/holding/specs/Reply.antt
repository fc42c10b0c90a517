-- The holding question: its replies in the numbers of the rules, and when each is right. Rules H1 to H4 and H7.
--   number_of r, verdict r, weak_set r the refusal's number (0 where answered); 0 HOLDS, 1 FEW, 2 WEAK; the set of the reply
--   order n t k s                      2, 3, 4, 1, 6
--   Judges n t k s r                   r is the verdict alone
--   Replies n t k s r                  r is the reply about the set s at level k, in the table t of n stations
use Rattle.std.specs.Prelude.{Result, Ok, Err, List, [], ◌∷◌, ◌≡◌, ℕ, ◌<◌}
use Rattle.stations.specs.Sets.{Set, none, size}
use Rattle.stations.specs.Words.{has, members}
use Rattle.stations.specs.declared.StationSet.{StationSet}
use Rattle.mesh.specs.Mesh.{Links, Answers, HOLDS, FEW, WEAK}
use Rattle.mesh.specs.Mesh as mesh
use Rattle.mesh.specs.Table.{linked}
use Rattle.card.specs.Card.{number_of, Test, FirstFailing, STATIONS, TABLE_LENGTH, TABLE, LEVEL, SET}
use Rattle.card.specs.declared.Refusal.{Refusal}
use Rattle.verdicts.specs.declared.Answer.{Answer}
use Rattle.verdicts.specs.declared.Answer.TheVariants.{Holds, Few, Weak}

-- what the holding question replies, and what it replies of the verdict alone
abbrev pub Full : Type 0
Full = Result (Answer StationSet) Refusal

abbrev pub Brief : Type 0
Brief = Result (Answer (Unit {0})) Refusal

abbrev pub verdict : {W : Type 0} → Result (Answer W) Refusal → ℕ
verdict (Ok Holds) = 0
verdict (Ok Few) = 1
verdict (Ok (Weak s)) = 2
verdict (Err r) = 0

-- the weak set of WEAK, and otherwise the empty set
abbrev pub weak_set : Full → Set
weak_set (Ok Holds) = none
weak_set (Ok Few) = none
weak_set (Ok (Weak s)) = members s
weak_set (Err r) = none

-- the reply is right, as the definitions have it
abbrev pub Right : Links → ℕ → ℕ → Set → Full → Type 0
Right L n k s (Ok Holds) = Answers L n k s HOLDS
Right L n k s (Ok Few) = Answers L n k s FEW
Right L n k s (Ok (Weak p)) = Answers L n k s (WEAK (members p))
Right L n k s (Err r) = ⊥

abbrev pub order : ℕ → List ℕ → ℕ → List ℕ → List Test
order n t k s = STATIONS n ∷ TABLE_LENGTH n t ∷ TABLE n t ∷ LEVEL k ∷ SET n s ∷ []

pub record Replies (n : ℕ) (t : List ℕ) (k : ℕ) (s : List ℕ) (r : Full) : Type 0 where
  -- refused exactly when a test fails, by the first that does
  pub refused : FirstFailing (order n t k s) (number_of r)
  -- otherwise HOLDS, FEW or WEAK with the smallest and first weak set
  pub right : number_of r ≡ 0 → Right (linked t) n k (has s) r

-- ---- the verdict alone

abbrev pub RightBriefly : Links → ℕ → ℕ → Set → Brief → Type 0
RightBriefly L n k s (Ok Holds) = Answers L n k s HOLDS
RightBriefly L n k s (Ok Few) = Answers L n k s FEW
RightBriefly L n k s (Ok (Weak p)) = (k < size n s) × ((q : Set) × mesh.Weak L n k s q)
RightBriefly L n k s (Err r) = ⊥

pub record Judges (n : ℕ) (t : List ℕ) (k : ℕ) (s : List ℕ) (r : Brief) : Type 0 where
  pub refused : FirstFailing (order n t k s) (number_of r)
  pub right : number_of r ≡ 0 → RightBriefly (linked t) n k (has s) r
