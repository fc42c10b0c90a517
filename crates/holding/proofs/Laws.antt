-- From the tests that passed to what the verdict asks, and from what it says, counted below 256, to the reply, counted below n.
use mathlib.Core.Bool.{true}
use mathlib.Core.List.{List, [], ◌∷◌}
use mathlib.Core.Logic.{inl, inr}
use mathlib.Core.Path.{◌≡◌, sym, ◌∙◌, ap, subst}
use Rattle.std.proofs.Common.{Ok, Err}
use Prim.Native.Nat.{ℕ, ◌<◌, ◌≤◌}
use native.Mathlib.Decide.{dec_lt, ℕ_discrete}
use native.Mathlib.Omega.{arith}
use lib.ListN.{length}
use Rattle.stations.specs.Sets.{Set, Below, size}
use Rattle.stations.specs.Words.{has, words, members, row}
use Rattle.stations.specs.declared.StationSet.{StationSet}
use Rattle.stations.proofs.Laws.{row_whole}
use Rattle.stations.proofs.Counting.{size_past}
use Rattle.mesh.specs.Mesh as mesh
use Rattle.mesh.specs.Mesh.{Answers, HOLDS, FEW}
use Rattle.mesh.specs.Table.{linked, Table}
use Rattle.mesh.proofs.Past.{answers_to, weak_to}
use Rattle.card.specs.declared.Refusal.{Refusal}
use Rattle.card.specs.Card.{FirstFailing, number, LEVEL, SET}
use Rattle.card.proofs.Card.{Passes, table_passed, number_above}
use Rattle.card.proofs.TableTest.{table_mesh}
use Rattle.pairs.specs.Piece.{Piece}
use Rattle.verdicts.specs.Verdicts.{reply, JudgedOf}
use Rattle.verdicts.specs.declared.Answer.{Answer}
use Rattle.verdicts.specs.declared.Answer.TheVariants.{Holds, Few, Weak}
use Rattle.holding.specs.Reply.{order, Right, Replies, Judges}
use Rattle.holding.specs.Steps.{alone}

-- the question once every test has passed
pub record Accepted (n : ℕ) (t : List ℕ) (k : ℕ) (s : List ℕ) : Type 0 where
  pub table : Table n t
  pub above : 0 < k
  pub most : k ≤ 16
  pub four_words : length s ≡ 4
  pub below : Below n (has s)

pub passed : (n : ℕ) (t : List ℕ) (k : ℕ) (s : List ℕ) → FirstFailing (order n t k s) 0 → Accepted n t k s
passed n t k s f = go (table_passed n t (LEVEL k ∷ SET n s ∷ []) (omega arith, (omega arith, tt)) f)
  where
    go : Table n t × Passes (LEVEL k ∷ SET n s ∷ []) → Accepted n t k s
    go (table, (level, (set, _))) = record { table = table; above = above (ℕ_discrete k 0); most = most (dec_lt 16 k); four_words = four (ℕ_discrete (length s) 4); below = λ x h. below x h (dec_lt x n) }
      where
        above : Dec (k ≡ 0) → 0 < k
        above (yes z) = absurd (level (inl z))
        above (no z) = omega arith

        most : Dec (16 < k) → k ≤ 16
        most (yes l) = absurd (level (inr l))
        most (no l) = omega arith

        four : Dec (length s ≡ 4) → length s ≡ 4
        four (yes q) = q
        four (no q) = absurd (set (inl q))

        below : (x : ℕ) → has s x ≡ true → Dec (x < n) → x < n
        below x h (yes l) = l
        below x h (no l) = absurd (set (inr (x, omega arith, h)))

module _ (n : ℕ) (t : List ℕ) (k : ℕ) (s : List ℕ) (A : Accepted n t k s) (p : StationSet) (own : words p ≡ row s 0) where
  mine : has s ≡ members p
  mine = ap has (sym (own ∙ row_whole s A.four_words))

  pub piece : Piece t p
  piece = record {
    fits = λ x h. omega (arith, subst (Below n) mine A.below x h, A.table.long);
    mesh = table_mesh A.table;
  }

  pub told : (v : Answer StationSet) → Answers (linked t) 256 k (members p) (reply v) → Answers (linked t) n k (has s) (reply v)
  told v a = answers_to (linked t) n 256 k A.table.few (has s) A.below (reply v) (subst (λ (x : Set). Answers (linked t) 256 k x (reply v)) (sym mine) a)

  pub judged_holds : Answers (linked t) 256 k (members p) HOLDS → Answers (linked t) n k (has s) HOLDS
  judged_holds a = answers_to (linked t) n 256 k A.table.few (has s) A.below HOLDS (subst (λ (x : Set). Answers (linked t) 256 k x HOLDS) (sym mine) a)

  pub judged_few : Answers (linked t) 256 k (members p) FEW → Answers (linked t) n k (has s) FEW
  judged_few a = answers_to (linked t) n 256 k A.table.few (has s) A.below FEW (subst (λ (x : Set). Answers (linked t) 256 k x FEW) (sym mine) a)

  pub judged_weak : (q : Set) → (k < size 256 (members p)) × mesh.Weak (linked t) 256 k (members p) q → (k < size n (has s)) × ((q : Set) × mesh.Weak (linked t) n k (has s) q)
  judged_weak q (a, w) = (
    omega (arith, a, ap (size 256) mine, size_past n 256 (has s) A.below A.table.few),
    (q, weak_to (linked t) n 256 k A.table.few (has s) A.below q (subst (λ (x : Set). mesh.Weak (linked t) 256 k x q) (sym mine) w)),
  )

-- the reply of a question that passed, and of one that did not
module _ (n : ℕ) (t : List ℕ) (k : ℕ) (s : List ℕ) (f : FirstFailing (order n t k s) 0) (p : StationSet) (own : words p ≡ row s 0) where
  pub replied : (v : Answer StationSet) → Answers (linked t) 256 k (members p) (reply v) → Replies n t k s (Ok v)
  replied v a = record { refused = f; right = λ _. right v (told n t k s (passed n t k s f) p own v a) }
    where
      right : (v : Answer StationSet) → Answers (linked t) n k (has s) (reply v) → Right (linked t) n k (has s) (Ok v)
      right Holds a = a
      right Few a = a
      right (Weak q) a = a

  pub judged_reply : (v : Answer StationSet) → JudgedOf (linked t) k (members p) v → Judges n t k s (Ok (alone v))
  judged_reply Holds a = record { refused = f; right = λ _. judged_holds n t k s (passed n t k s f) p own a }
  judged_reply Few a = record { refused = f; right = λ _. judged_few n t k s (passed n t k s f) p own a }
  judged_reply (Weak q) a = record { refused = f; right = λ _. judged_weak n t k s (passed n t k s f) p own (members q) a }

pub refused_reply : (n : ℕ) (t : List ℕ) (k : ℕ) (s : List ℕ) (r : Refusal) → FirstFailing (order n t k s) (number r) → Replies n t k s (Err r)
refused_reply n t k s r f = record { refused = f; right = λ e. absurd (number_above r e) }

pub judged_refused : (n : ℕ) (t : List ℕ) (k : ℕ) (s : List ℕ) (r : Refusal) → FirstFailing (order n t k s) (number r) → Judges n t k s (Err r)
judged_refused n t k s r f = record { refused = f; right = λ e. absurd (number_above r e) }
