-- DEMAND 3, phrase by phrase, of every reply that the list question allows. Each theorem takes such a reply that is no refusal (number_of r ≡ 0), and speaks
-- of the definitions of mesh/specs alone. The rows of the list afterwards are the sets `set_at l' i`, for i below the count.
use mathlib.Core.List.{List, [], ◌∷◌}
use mathlib.Core.Logic.{◌≢◌}
use mathlib.Core.Path.{◌≡◌, refl, ap, subst}
use Rattle.std.proofs.Common.{Ok, Err}
use Prim.Native.Nat.{ℕ, ◌+◌, ◌-◌, ◌*◌, ◌/◌, ◌<◌, ◌≤◌}
use lib.ListN.{length}
use native.Mathlib.Omega.{arith}
use Rattle.stations.specs.Sets.{Set, ◌part_of◌, ◌cut◌, size, Before}
use Rattle.stations.specs.Words.{has, row, members}
use Rattle.mesh.specs.Mesh.{Mesh, Group, Reply, HOLDS, FEW, WEAK, Answers, R}
use Rattle.mesh.specs.Mesh as mesh
use Rattle.mesh.specs.Table.{linked, Table}
use Rattle.mesh.proofs.OnlyOne.{answer_one}
use Rattle.card.specs.Card.{number_of, FirstFailing, LEVEL, LIST_ROOM, ROWS}
use Rattle.card.proofs.Card.{number_above, none_given, table_passes, level_passes, rows_pass}
use Rattle.card.proofs.TableTest.{table_mesh}
use Rattle.verdicts.specs.declared.Answer.TheVariants.{Holds, Few, Weak}
use Rattle.holding.specs.Reply as holding
use Rattle.holding.proofs.Demands.{answers as holding_answers}
use Rattle.mesh.proofs.Covered.{covered}
use Rattle.mesh.proofs.Sharing.{groups_share}
use Rattle.mesh.proofs.Bound.{rows_weight}
use Rattle.listing.specs.List.{set_at}
use Rattle.groups.specs.Reply.{Answer, count, order, Replies, RowReplies}
use Rattle.groups.proofs.Laws.{Accepted, passed}

abbrev code : Reply → ℕ
code HOLDS = 0
code FEW = 1
code (WEAK s) = 2

few_holds : FEW ≡ HOLDS → ⊥
few_holds e = omega (arith, ap code e)

weak_holds : {s : Set} → WEAK s ≡ HOLDS → ⊥
weak_holds e = omega (arith, ap code e)

-- every accepted table, level from 1 to 16 and list with room is answered: no refusal is left, 15 neither
pub answers : (n : ℕ) (t : List ℕ) (k : ℕ) (l l' : List ℕ) (r : Answer) → Replies n t k l l' r → Table n t → 1 ≤ k → k ≤ 16 → R n k * 4 ≤ length l → number_of r ≡ 0
answers n t k l l' r p T a b room = none_given (order n t k (length l)) (number_of r) p.refused
    (table_passes n t (LEVEL k ∷ LIST_ROOM n k (length l) ∷ ROWS n t k ∷ []) T (level_passes k a b, (λ x. omega arith, (rows_pass n t k, tt))))

module _ (n : ℕ) (t : List ℕ) (k : ℕ) (l l' : List ℕ) (r : Answer) (p : Replies n t k l l' r) (answered : number_of r ≡ 0) where
  -- L1: each group is a row
  pub names_each : (s : Set) → Group (linked t) n k s → (i : ℕ) × (i < count r) × (s ≡ set_at l' i)
  names_each = (p.listed answered).groups.all

  -- L2: and one row only
  pub once : (i j : ℕ) → i < count r → j < count r → set_at l' i ≡ set_at l' j → i ≡ j
  once = (p.listed answered).groups.differ

  -- L4: the rows stand in order
  pub in_order : (i j : ℕ) → i < j → j < count r → Before (set_at l' i) (set_at l' j)
  in_order = (p.listed answered).order

  -- L3: and each row is a group
  pub nothing_else : (i : ℕ) → i < count r → Group (linked t) n k (set_at l' i)
  nothing_else = (p.listed answered).groups.group

  -- L5: a set that holds lies in a row
  pub every_set_inside : (s : Set) → mesh.Holds (linked t) n k s → (i : ℕ) × (i < count r) × (s part_of set_at l' i)
  every_set_inside = covered (linked t) n k (table_mesh (passed n t k (length l) (subst (FirstFailing (order n t k (length l))) answered p.refused)).table) (count r) (set_at l') (p.listed answered).groups

  -- L6: two rows have fewer than k stations in common
  pub share_fewer : (i j : ℕ) → i < count r → j < count r → i ≢ j → size n (set_at l' i cut set_at l' j) < k
  share_fewer i j a b d = groups_share (linked t) n k (set_at l' i) (set_at l' j) (nothing_else i a) (nothing_else j b) (λ e. d (once i j a b e))

  -- L7: how many rows there are at most; with n at k or less there is none
  pub at_most : k < n → count r ≤ (n - k + 1) / 2
  at_most h = omega (arith, p.most, rows_weight n k)

  pub none_at_all : n ≤ k → count r ≡ 0
  none_at_all h = omega (arith, p.most, rows_weight n k)

-- H6: the holding question about a listed row, asked in its place, replies HOLDS
pub listed_row_holds : (n : ℕ) (t : List ℕ) (k : ℕ) (l l' : List ℕ) (r : Answer) → Replies n t k l l' r → number_of r ≡ 0 → (i : ℕ) → i < count r
    → (a : holding.Full) → RowReplies n t k l' i a → a ≡ Ok Holds
listed_row_holds n t k l l' r p e i h a q = only a (q.inside inside)
  where
    A : Accepted n t k (length l)
    A = passed n t k (length l) (subst (FirstFailing (order n t k (length l))) e p.refused)

    inside : i * 4 + 4 ≤ length l'
    inside = omega (arith, p.most, p.long, A.room)

    g : Group (linked t) n k (set_at l' i)
    g = (p.listed e).groups.group i h

    answered : (a : holding.Full) → holding.Replies n t k (row l' i) a → number_of a ≡ 0
    answered a q = holding_answers n t k (row l' i) a q A.table A.above A.most refl g.holds.below

    one : (x : Reply) → Answers (linked t) n k (has (row l' i)) x → x ≡ HOLDS
    one x b = answer_one (linked t) n k (has (row l' i)) x HOLDS b g.holds

    only : (a : holding.Full) → holding.Replies n t k (row l' i) a → a ≡ Ok Holds
    only (Ok Holds) q = refl
    only (Ok Few) q = let z = one FEW (q.right refl) in absurd (few_holds z)
    only (Ok (Weak s)) q = let z = one (WEAK (members s)) (q.right refl) in absurd (weak_holds z)
    only (Err x) q = absurd (number_above x (answered (Err x) q))
