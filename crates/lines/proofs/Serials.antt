-- The serials of a set's stations, from the smallest station up, with the room that they take.
use mathlib.Core.Bool.{Bool}
use mathlib.Core.List.{List, ◌++◌, append-nil}
use mathlib.Core.Path.{◌≡◌, refl, sym, ◌∙◌, ap, subst}
use Prim.Native.Nat.{ℕ, zero, suc, ◌+◌, ◌-◌, ◌*◌, ◌<◌, ◌≤◌}
use native.Mathlib.Nat.{add-zero, add-suc}
use native.Mathlib.Omega.{arith}
use native.Mathlib.Decide.{dec_lt}
use lib.ListN.{length, get_or}
use Rattle.stations.specs.Sets.{Set, ◌is_in◌, ◌not_in◌, ◌without◌, only, size}
use Rattle.stations.specs.Answers.{Least}
use Rattle.stations.proofs.Bools.{never}
use Rattle.stations.proofs.Counting.{size-add}
use Rattle.stations.proofs.Members.{less_same, lost_without, off_without, is_only}
use Rattle.lines.specs.Lines.{labelled, serial_if, serials_of}
use Rattle.lines.specs.Sheets.{Room, Put}
use Rattle.lines.specs.declared.Sheet.{Sheet}
use Rattle.lines.proofs.Adding.{put_none, put_then}

-- stations that the set has not add no serial
serials_skip : (serials : List ℕ) (s : Set) (j k : ℕ) → ((x : ℕ) → j ≤ x → x < j + k → x not_in s) → serials_of (j + k) serials s ≡ serials_of j serials s
unfolding serials_of
serials_skip serials s j zero h = rw (add-zero j)
serials_skip serials s j (suc k) h =
    ap (λ (i : ℕ). serials_of i serials s) (add-suc j k)
    ∙ ap (λ (b : Bool). serials_of (j + k) serials s ++ serial_if b (get_or serials (j + k) 0)) (h (j + k) (omega arith) (omega arith))
    ∙ append-nil (serials_of (j + k) serials s)
    ∙ serials_skip serials s j k (λ x l g. h x l (omega arith))

serials_past : (serials : List ℕ) (s : Set) (j m : ℕ) → j ≤ m → ((x : ℕ) → j ≤ x → x < m → x not_in s) → serials_of m serials s ≡ serials_of j serials s
serials_past serials s j m l h =
    ap (λ (i : ℕ). serials_of i serials s) {x = m} {y = j + (m - j)} (omega arith) ∙ serials_skip serials s j (m - j) (λ x g i. h x g (omega arith))

-- the stations below j are no more than those below m
size_up : (j m : ℕ) (s : Set) → j ≤ m → size j s ≤ size m s
size_up j m s h = subst (λ (i : ℕ). size j s ≤ size i s) {x = j + (m - j)} (omega arith) (omega (arith, size-add j (m - j) s))

size_next : (j : ℕ) (s : Set) → j is_in s → size (suc j) s ≡ suc (size j s)
unfolding size
size_next j s h = rw h (omega arith)

-- the serials of the stations below `done` stand on the page, and `rest` has the set's other stations
pub record Spelled (serials : List ℕ) (s : Set) (p q : Sheet) (rest : Set) : Type 0 where
  pub done : ℕ
  pub within : done ≤ length serials
  pub put : Put (serials_of done serials s) p q
  pub end : q.at ≤ p.at + size done s * 11
  pub gone : (x : ℕ) → x < done → x not_in rest
  pub left : (x : ℕ) → done ≤ x → rest x ≡ s x

pub spelled_none : (serials : List ℕ) (s : Set) (p : Sheet) → Spelled serials s p p s
unfolding serials_of size
spelled_none serials s p = record {
  done = 0;
  within = omega arith;
  put = put_none p;
  end = omega arith;
  gone = λ x l. absurd (omega arith);
  left = λ x l. refl;
}

module _ {serials : List ℕ} {s rest : Set} {p q : Sheet} (S : Spelled serials s p q rest) (few : length serials ≤ 256) where
  -- none of the rest has a serial
  pub all_put : ((x : ℕ) → x < length serials → x not_in rest) → Put (serials_of (length serials) serials s) p q
  all_put h = rw (serials_past serials s S.done (length serials) S.within (λ x l g. sym (S.left x l) ∙ h x g)) S.put

  pub all_end : q.at ≤ p.at + size 256 s * 11
  all_end = omega (arith, S.end, size_up S.done 256 s (omega (arith, S.within)))

  -- j is the smallest of the rest
  module _ {j : ℕ} (l : Least rest j) (small : j < length serials) where
    reached : S.done ≤ j
    reached = go (dec_lt j S.done)
      where
        go : Dec (j < S.done) → S.done ≤ j
        go (yes g) = never (rest j) l.mine (S.gone j g)
        go (no g) = omega arith

    mine : j is_in s
    mine = sym (S.left j reached) ∙ l.mine

    more : size S.done s + 1 ≤ size (suc j) s
    more = omega (arith, size_up S.done j s reached, size_next j s mine)

    pub spelled_room : Room (size 256 s * 11 + 10) p → Room 21 q
    spelled_room h = omega (arith, S.end, S.put.added.long, more, size_up (suc j) 256 s (omega arith))

    pub spelled_more : {q' : Sheet} {rest' : Set} → Put (labelled " " (get_or serials j 0)) q q' → q'.at ≤ q.at + 11
        → ((x : ℕ) → rest' x ≡ (rest without only j) x) → Spelled serials s p q' rest'
    unfolding serials_of
    spelled_more {q'} {rest'} a h e = record {
      done = suc j;
      within = omega arith;
      put =
          subst (λ (w : List ℕ). Put w p q')
          (ap (λ (w : List ℕ). w ++ labelled " " (get_or serials j 0)) (sym (serials_past serials s S.done j reached (λ x g i. sym (S.left x g) ∙ l.below x i)))
          ∙ ap (λ (b : Bool). serials_of j serials s ++ serial_if b (get_or serials j 0)) (sym mine))
          (put_then S.put a);
      end = omega (arith, S.end, h, more);
      gone = λ x g. e x ∙ out x g (dec_lt x j);
      left = λ x g. e x ∙ less_same rest j x (λ i. omega arith) ∙ S.left x (omega (arith, reached));
    }
      where
        out : (x : ℕ) → x < suc j → Dec (x < j) → x not_in rest without only j
        out x g (yes i) = off_without rest (only j) x (l.below x i)
        out x g (no i) = let q : j ≡ x = omega arith in subst (λ (y : ℕ). y not_in rest without only j) q (lost_without rest (only j) j (is_only j))
