-- What the steps of the holding question ask and answer. t is a table of links, p a piece, and a loss may take every station.
--   SmallestOf t p k       a weak pair of p whose loss is as small as any and has fewer than k stations, or none
--   SmallestWeak t p s     s is a weak set of p as small as any
--   FirstWeak t p s r      r is the weak set of p, where s is one as small as any
--   JudgedOf L k s         the verdict alone, with some loss
--   reply                  the reply of the holding question, as mesh/specs has it
use Rattle.std.specs.Prelude.{List, Option, Some, None, ℕ, ◌+◌, ◌<◌}
use Rattle.stations.specs.Sets.{Set, ◌is_in◌, ◌not_in◌, ◌part_of◌, size}
use Rattle.stations.specs.Words.{members}
use Rattle.stations.specs.declared.StationSet.{StationSet}
use Rattle.mesh.specs.Mesh.{Links, WeakSet, Reply, HOLDS, FEW, WEAK, Answers}
use Rattle.mesh.specs.Table.{linked}
use Rattle.search.specs.Losses.{every, WeakPair, Smallest, Safe}
use Rattle.pairs.specs.Piece.{Piece}
use Rattle.pairs.specs.declared.WeakPair as declared
use Rattle.verdicts.specs.declared.Answer.{Answer}
use Rattle.verdicts.specs.declared.Answer.TheVariants.{Holds, Few, Weak}

abbrev pub SmallestOf : List ℕ → StationSet → ℕ → Option declared.WeakPair → Type 0
SmallestOf t p k None = Safe (linked t) 256 every k (members p)
SmallestOf t p k (Some r) = WeakPair (linked t) 256 every k (members p) r.one r.other (members r.loss) × Safe (linked t) 256 every (size 256 (members r.loss)) (members p)

pub record SmallestWeak (t : List ℕ) (p s : StationSet) : Type 0 where
  pub piece : Piece t p
  pub small : Smallest (linked t) 256 every (size 256 (members s)) (members p) (members s)
  pub safe : Safe (linked t) 256 every (size 256 (members s)) (members p)

abbrev pub FirstWeak : List ℕ → StationSet → StationSet → StationSet → Type 0
FirstWeak t p s r = (k : ℕ) → size 256 (members s) < k → WeakSet (linked t) 256 k (members p) (members r)

-- a smallest loss s of p has the taken stations and `left` others
pub record Leads (t : List ℕ) (p taken : StationSet) (left : ℕ) (s : Set) : Type 0 where
  pub small : Smallest (linked t) 256 every (size 256 (members taken) + left) (members p) s
  pub has : members taken part_of s

-- the witness does, no smaller loss parts p, and j is to be tried
pub record Trial (t : List ℕ) (p taken witness : StationSet) (j left : ℕ) : Type 0 where
  pub piece : Piece t p
  pub leads : Leads t p taken left (members witness)
  pub safe : Safe (linked t) 256 every (size 256 (members taken) + left) (members p)
  pub mine : j is_in members p
  pub fresh : j not_in members taken

-- r does, and has j if any such loss has it
pub record Led (t : List ℕ) (p taken : StationSet) (j left : ℕ) (r : StationSet) : Type 0 where
  pub leads : Leads t p taken left (members r)
  pub none : j not_in members r → (s : Set) → Leads t p taken left s → j is_in s → ⊥

abbrev pub reply : Answer StationSet → Reply
reply Holds = HOLDS
reply Few = FEW
reply (Weak s) = WEAK (members s)

-- the verdict alone, with some loss that parts the set
abbrev pub JudgedOf : Links → ℕ → Set → Answer StationSet → Type 0
JudgedOf L k s Holds = Answers L 256 k s HOLDS
JudgedOf L k s Few = Answers L 256 k s FEW
JudgedOf L k s (Weak p) = (k < size 256 s) × Rattle.mesh.specs.Mesh.Weak L 256 k s (members p)
