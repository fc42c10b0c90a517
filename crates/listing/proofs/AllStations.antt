-- The list of all stations at a level, in 512 words: 128 rows are the most that any level needs.
use mathlib.Core.List.{List}
use mathlib.Core.Path.{◌≡◌, sym, ◌∙◌, ap, subst, fun_ext}
use Prim.Native.Nat.{ℕ, ◌*◌, ◌<◌, ◌≤◌}
use native.Mathlib.Omega.{arith}
use lib.ListN.{length}
use borrow.Author.Tests.{ltb-true}
use Rattle.stations.specs.Sets.{Set, stations, size}
use Rattle.stations.specs.Words.{members}
use Rattle.stations.specs.declared.StationSet.{StationSet}
use Rattle.stations.proofs.Counting.{size_past, size-stations}
use Rattle.mesh.specs.Mesh.{Listed, R}
use Rattle.mesh.specs.Table.{linked, Table}
use Rattle.mesh.proofs.Bound.{rows_weight}
use Rattle.listing.specs.List.{set_at, ListedIn, Asked, Listing}
use Rattle.listing.proofs.Ending.{listed_groups}

module _ (n : ℕ) (t : List ℕ) (k : ℕ) (T : Table n t) (above : 0 < k) (l : List ℕ) (room : length l ≡ 512) (set : StationSet) (law : (x : ℕ) → members set x ≡ stations n x) where
  many : size 256 (members set) ≡ n
  many = ap (size 256) (fun_ext law) ∙ size_past n 256 (stations n) (λ x. ltb-true x n) T.few ∙ size-stations n

  pub few_rows : R (size 256 (members set)) k ≤ 128
  few_rows = omega (arith, rows_weight (size 256 (members set)) k, many, T.few)

  pub asked : Asked t (members set) k l
  asked = record {
    fits = λ x h. omega (arith, ltb-true x n (sym (law x) ∙ h), T.long);
    mesh = record { apart = T.apart; both = T.both };
    room = omega (arith, few_rows);
  }

  module _ (l' : List ℕ) (g : ℕ) (f : Listing t (members set) k l l' g) where
    pub rows_room : g * 4 ≤ length l'
    rows_room = omega (arith, f.most, f.long, few_rows)

    pub listed : Listed (linked t) n k g (set_at l')
    listed = listed_groups (linked t) n k g (set_at l') T.few (subst (λ (D : Set). ListedIn (linked t) 256 k D g (set_at l')) (fun_ext law) f.listed)
