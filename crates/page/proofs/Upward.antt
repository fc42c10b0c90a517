-- The lines of the levels, one level after the other, with the room that they take.
use mathlib.Core.List.{List, [], ◌++◌}
use mathlib.Core.Logic.{inr}
use mathlib.Core.Path.{◌≡◌, refl, ap, subst}
use Prim.Native.Nat.{ℕ, zero, suc, ◌+◌, ◌*◌, ◌<◌, ◌≤◌}
use native.Mathlib.Decide.{ℕ_discrete}
use native.Mathlib.Omega.{arith}
use lib.ListN.{length}
use Rattle.stations.specs.Sets.{stations}
use Rattle.stations.specs.Words.{members}
use Rattle.stations.specs.declared.StationSet.{StationSet}
use Rattle.mesh.specs.Mesh.{Listed}
use Rattle.mesh.specs.Table.{linked, Table}
use Rattle.mesh.proofs.Bound.{total}
use Rattle.listing.specs.List.{set_at, Asked, Listing}
use Rattle.listing.proofs.AllStations as all
use Rattle.lines.specs.Sheets.{Room, Put}
use Rattle.lines.specs.declared.Sheet.{Sheet}
use Rattle.lines.proofs.Adding.{put_none, put_then}
use Rattle.page.specs.Page.{group_lines, no_level, next_level, Last}
use Rattle.page.specs.Steps.{line_room, Fit, LevelPut, levels_room, LevelsPut}
use Rattle.page.proofs.Level.{level_most}

room_next : (h : ℕ) → levels_room (suc h) ≡ levels_room h + (3712 + 1408 * suc h)
unfolding levels_room
room_next h = refl

room_up : (h m : ℕ) → h ≤ m → levels_room h ≤ levels_room m
room_up h zero l = omega (arith, ap levels_room (zero_only h (omega arith)))
  where
    zero_only : (h : ℕ) → h ≤ 0 → h ≡ 0
    zero_only h l = omega arith
room_up h (suc m) l = go (ℕ_discrete h (suc m)) (λ i. room_up h m i)
  where
    go : Dec (h ≡ suc m) → (h ≤ m → levels_room h ≤ levels_room m) → levels_room h ≤ levels_room (suc m)
    go (yes e) ih = omega (arith, ap levels_room e)
    go (no d) ih = omega (arith, ih (omega arith), room_next m)

-- every page fits
pub room_16 : levels_room 16 ≡ 250880
unfolding levels_room
room_16 = refl

pub room_most : (h : ℕ) → h ≤ 16 → levels_room h ≤ 250880
room_most h l = omega (arith, room_up h 16 l, room_16)

pub levels_none : (n : ℕ) (t serials : List ℕ) (p : Sheet) → LevelsPut n t serials 0 p p
unfolding levels_room
levels_none n t serials p = record { lines = []; levels = no_level; put = put_none p; end = omega arith }

module _ {n : ℕ} {t serials : List ℕ} {h : ℕ} {p q : Sheet} (P : LevelsPut n t serials h p q) (T : Table n t) (below : h < 16)
    (l : List ℕ) (rows : length l ≡ 512) (set : StationSet) (law : (x : ℕ) → members set x ≡ stations n x) where
  above : 0 < h + 1
  above = omega arith

  pub level_asked : Asked t (members set) (h + 1) l
  level_asked = all.asked n t (h + 1) T above l rows set law

  module _ {l' : List ℕ} {g : ℕ} (f : Listing t (members set) (h + 1) l l' g) where
    few : g ≤ 128
    few = omega (arith, f.most, all.few_rows n t (h + 1) T above l rows set law)

    most : total g (line_room l') ≤ 3712 + 1408 * (h + 1)
    most = level_most (h + 1) g l' few (omega (arith, f.weigh, all.few_rows n t (h + 1) T above l rows set law))

    pub level_fit : Room (levels_room 16 + 60) p → Fit (h + 1) l' g q
    level_fit room = record {
      level = omega arith;
      most = few;
      rows = all.rows_room n t (h + 1) T above l rows set law l' g f;
      room = omega (arith, room, P.put.added.long, P.end, most, room_next h, room_up (suc h) 16 below);
    }

    groups : Listed (linked t) n (h + 1) g (set_at l')
    groups = all.listed n t (h + 1) T above l rows set law l' g f

    listed : Listed (linked t) n (suc h) g (set_at l')
    listed = subst (λ (k : ℕ). Listed (linked t) n k g (set_at l')) {x = h + 1} (omega arith) groups

    -- the level has no group
    pub no_more : g ≡ 0 → Last (linked t) n h
    no_more e = inr (below, λ s G. let (i, m, q) = listed.groups.all s G in absurd (omega arith))

    pub levels_more : {r : Sheet} → ¬ (g ≡ 0) → LevelPut (h + 1) serials l' g q r → LevelsPut n t serials (h + 1) p r
    levels_more {r} some a = subst (λ (k : ℕ). LevelsPut n t serials k p r) {x = suc h} (omega arith) (record {
      lines = P.lines ++ group_lines (suc h) serials (set_at l') g;
      levels = next_level P.levels g (set_at l') (omega arith) listed;
      put = put_then P.put (subst (λ (k : ℕ). Put (group_lines k serials (set_at l') g) q r) {x = h + 1} (omega arith) a.put);
      end = omega (arith, P.end, a.end, most, room_next h);
    })
