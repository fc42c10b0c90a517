-- A station in a group at a level is in one at each lower level, since what holds at k holds below (level_down) and lies in a group (in_group). So a
-- station in no group at v + 1 stands at v if it is in one at v.
use mathlib.Core.Bool.{Bool}
use mathlib.Core.List.{List, [], ◌∷◌}
use mathlib.Core.Logic.{◌⊎◌, inl, inr}
use mathlib.Core.Path.{◌≡◌, sym, ◌∙◌, ap}
use Rattle.std.proofs.Common.{Ok, Err}
use Prim.Native.Nat.{ℕ, ◌+◌, ◌*◌, ◌<◌, ◌≤◌}
use native.Mathlib.Decide.{dec_le}
use native.Mathlib.Omega.{arith}
use lib.ListN.{length}
use Rattle.stations.specs.Sets.{Set, ◌is_in◌, stations}
use Rattle.stations.specs.Words.{members}
use Rattle.stations.specs.declared.StationSet.{StationSet}
use Rattle.mesh.specs.Mesh.{Links, Mesh, Group, Listed}
use Rattle.mesh.specs.Standing.{Standing, PairStanding}
use Rattle.mesh.specs.Table.{linked, Table}
use Rattle.mesh.proofs.Pruning.{level_down}
use Rattle.mesh.proofs.Covered.{in_group}
use Rattle.card.specs.declared.Refusal.{Refusal}
use Rattle.card.specs.Card.{Test, FirstFailing, number, Says}
use Rattle.card.proofs.Card.{number_above, rows_pass}
use Rattle.card.proofs.TableTest.{table_mesh}
use Rattle.listing.specs.List as listing
use Rattle.listing.specs.List.{set_at}
use Rattle.listing.proofs.AllStations as all
use Rattle.standings.specs.Reply.{ROWS_AT_ALL, Replies}
use Rattle.standings.specs.Steps.{Named, InGroup}

-- ---- one level: the list of all stations in 512 words
module _ (n : ℕ) (t : List ℕ) (a k : ℕ) (T : Table n t) (above : 0 < k) (l : List ℕ) (room : length l ≡ 512) (set : StationSet) (law : (x : ℕ) → members set x ≡ stations n x) where
  pub asked : listing.Asked t (members set) k l
  asked = all.asked n t k T above l room set law

  module _ (l' : List ℕ) (g : ℕ) (f : listing.Listing t (members set) k l l' g) where
    pub rows_room : g * 4 ≤ length l'
    rows_room = all.rows_room n t k T above l room set law l' g f

    pub told : (r : Bool) → Says (Named l' g a) r → Says (InGroup t n k a) r
    told r s = record { yes_so = λ e. one (s.yes_so e); not_so = λ e h. s.not_so e (back h) }
      where
        L : Listed (linked t) n k g (set_at l')
        L = all.listed n t k T above l room set law l' g f

        one : Named l' g a → InGroup t n k a
        one (i, h, e) = (set_at l' i, L.groups.group i h, e)

        back : InGroup t n k a → Named l' g a
        back (s, G, e) = let (i, h, q) = L.groups.all s G in (i, h, ap (λ (z : Set). z a) (sym q) ∙ e)

-- ---- upward through the levels
lower : (L : Links) (n j k a : ℕ) → Mesh L → j ≤ k → (s : Set) × Group L n k s × (a is_in s) → (s : Set) × Group L n j s × (a is_in s)
lower L n j k a m l (s, G, e) = let (u, H, f) = in_group L n j m s (level_down L n j k s l G.holds) in (u, H, f a e)

module _ (n : ℕ) (t : List ℕ) (a : ℕ) (T : Table n t) where
  pub stands : (v : ℕ) → v ≤ 16 → (0 < v → InGroup t n v a) → (v < 16 → ¬ InGroup t n (v + 1) a) → Standing (linked t) n a v
  stands v h held not = record { top = h; reached = held; largest = λ k s x y G e. go k s y G e (dec_le k v) }
    where
      go : (k : ℕ) (s : Set) → k ≤ 16 → Group (linked t) n k s → a is_in s → Dec (k ≤ v) → k ≤ v
      go k s y G e (yes d) = d
      go k s y G e (no d) = absurd (not (omega arith) (lower (linked t) n (v + 1) k a (table_mesh T) (omega arith) (s, G, e)))

pub pair_stands : (L : Links) (n a b p q v : ℕ) → Standing L n a p → Standing L n b q → (v ≤ p) × (v ≤ q) × ((v ≡ p) ⊎ (v ≡ q)) → PairStanding L n a b v
pair_stands L n a b p q v P Q s = record { one = p; two = q; first = P; second = Q; smaller = s }

-- ---- the tests: the table's, then the question's own, then 15, which never fails
pub own_last : (n : ℕ) (t : List ℕ) (own : Test) (r : ℕ) → FirstFailing (own ∷ []) r → FirstFailing (own ∷ ROWS_AT_ALL n t ∷ []) r
own_last n t own r (inl x) = inl x
own_last n t own r (inr x) = inr (x.0, inr (λ (k, a, b, f). rows_pass n t k f, x.1))

pub replied : (ts : List Test) (P : ℕ → Type 0) (v : ℕ) → FirstFailing ts 0 → P v → Replies ts P (Ok v)
replied ts P v f p = record { refused = f; right = λ _. p }

pub refused_reply : (ts : List Test) (P : ℕ → Type 0) (r : Refusal) → FirstFailing ts (number r) → Replies ts P (Err r)
refused_reply ts P r f = record { refused = f; right = λ e. absurd (number_above r e) }
