-- The lines of a level, one group after the other, with the room that they take.
use mathlib.Core.List.{List}
use mathlib.Core.Path.{◌≡◌, refl, ap, subst}
use Prim.Native.Nat.{ℕ, zero, suc, ◌+◌, ◌*◌, ◌<◌, ◌≤◌}
use native.Mathlib.Nat.{zero-mul, suc-mul, mul-le-mul_right}
use native.Mathlib.Decide.{ℕ_discrete}
use native.Mathlib.Omega.{arith}
use Rattle.stations.specs.Sets.{size}
use Rattle.stations.specs.Words.{has, words, row, members}
use Rattle.stations.specs.declared.StationSet.{StationSet}
use Rattle.mesh.proofs.Bound.{total, weight}
use Rattle.listing.specs.List.{set_at}
use Rattle.lines.specs.Lines.{group_line}
use Rattle.lines.specs.Sheets.{Room, Put}
use Rattle.lines.specs.declared.Sheet.{Sheet}
use Rattle.lines.proofs.Adding.{put_none, put_then}
use Rattle.page.specs.Page.{group_lines}
use Rattle.page.specs.Steps.{line_room, Fit, LevelPut}

-- a sum has room for each of its numbers
total_up : (g i : ℕ) (f : ℕ → ℕ) → i < g → f i + total i f ≤ total g f
unfolding total
total_up zero i f h = absurd (omega arith)
total_up (suc g) i f h = go (ℕ_discrete i g) (λ l. total_up g i f l)
  where
    go : Dec (i ≡ g) → (i < g → f i + total i f ≤ total g f) → f i + total i f ≤ f g + total g f
    go (yes e) ih = omega (arith, ap f e, ap (λ (j : ℕ). total j f) e)
    go (no d) ih = omega (arith, ih (omega arith))

total_next : (i : ℕ) (f : ℕ → ℕ) → total (suc i) f ≡ f i + total i f
unfolding total
total_next i f = refl

pub level_none : (k : ℕ) (serials l : List ℕ) (p : Sheet) → LevelPut k serials l 0 p p
unfolding group_lines total
level_none k serials l p = record { put = put_none p; end = omega arith }

module _ {k : ℕ} {serials l : List ℕ} {i : ℕ} {p q : Sheet} (P : LevelPut k serials l i p q) (s : StationSet) (is : words s ≡ row l i) where
  pub level_room : {g : ℕ} → Fit k l g p → i < g → Room (size 256 (members s) * 11 + 60) q
  level_room {g} F h = omega (arith, P.end, P.put.added.long, F.room, total_up g i (line_room l) h, ap (λ (w : List ℕ). size 256 (has w)) is)

  pub level_more : {r : Sheet} → Put (group_line k (i + 1) serials (members s)) q r → r.at ≤ q.at + 7 + size 256 (members s) * 11 → LevelPut k serials l (i + 1) p r
  unfolding group_lines
  level_more {r} a h = subst (λ (j : ℕ). LevelPut k serials l j p r) {x = suc i} (omega arith) (record {
    put = put_then P.put line;
    end = omega (arith, P.end, h, total_next i (line_room l), ap (λ (w : List ℕ). size 256 (has w)) is);
  })
    where
      line : Put (group_line k (suc i) serials (set_at l i)) q r
      line =
          subst (λ (j : ℕ). Put (group_line k j serials (set_at l i)) q r) {x = i + 1} (omega arith)
          (subst (λ (w : List ℕ). Put (group_line k (i + 1) serials (has w)) q r) is a)

-- ---- rows that weigh at most 128 have at most 128 times k + 2 stations
sum_of : (g c : ℕ) (f w : ℕ → ℕ) → ((i : ℕ) → f i ≤ c + 22 * w i) → total g f ≤ g * c + 22 * total g w
unfolding total
sum_of zero c f w h = omega (arith, zero-mul c)
sum_of (suc g) c f w h = omega (arith, h g, sum_of g c f w h, suc-mul g c)

pub level_most : (k g : ℕ) (l : List ℕ) → g ≤ 128 → total g (λ i. weight k (size 256 (set_at l i))) ≤ 128 → total g (line_room l) ≤ 3712 + 1408 * k
level_most k g l few h =
    omega (arith, sum_of g (7 + 11 * k) (line_room l) (λ i. weight k (size 256 (set_at l i))) (λ i. omega arith), mul-le-mul_right (7 + 11 * k) few)
