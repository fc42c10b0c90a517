-- A survey has one page, and the night list one reply: two that the contract allows are the same, refused or not, and so are the buffers afterwards.
use mathlib.Core.List.{List, [], ◌∷◌, ◌++◌}
use mathlib.Core.Logic.{inl, inr}
use mathlib.Core.Path.{◌≡◌, refl, sym, ◌∙◌, ap, ap₂, subst}
use Prim.Native.Nat.{ℕ, zero, suc, ◌<◌, ◌≤◌}
use native.Mathlib.Decide.{dec_lt, ℕ_discrete}
use native.Mathlib.Omega.{arith}
use lib.ListN.{length, take}
use lib.Seq.{length-take-le}
use Rattle.std.specs.Prelude.{Result, Ok, Err}
use Rattle.stations.specs.Sets.{Set}
use Rattle.mesh.specs.Mesh.{Links, Group}
use Rattle.mesh.specs.Table.{linked}
use Rattle.mesh.proofs.OnlyOne.{listed_one}
use Rattle.card.specs.Card.{number_of}
use Rattle.card.specs.declared.Refusal.{Refusal}
use Rattle.card.proofs.Card.{first_one, none_given, refusal_one, number_above}
use Rattle.survey.proofs.OneSurvey.{same_version, same_stations, same_records, same_serials, same_table}
use Rattle.survey.proofs.OnlyOne.{rejoined}
use Rattle.lines.specs.Lines.{first_line, group_line, last_line, refused_line}
use Rattle.page.specs.Page.{group_lines, Levels, no_level, next_level, Last, survey_order, Page, refused, listed}
use Rattle.page.specs.Reply.{PAGE_ROOM, Prints}

lines_same : (k g : ℕ) (serials : List ℕ) (Q Q' : ℕ → Set) → ((i : ℕ) → i < g → Q i ≡ Q' i) → group_lines k serials Q g ≡ group_lines k serials Q' g
unfolding group_lines
lines_same k zero serials Q Q' h = refl
lines_same k (suc g) serials Q Q' h =
    ap₂ (λ (u w : List ℕ). u ++ w) (lines_same k g serials Q Q' (λ i l. h i (omega arith))) (ap (group_line k (suc g) serials) (h g (omega arith)))

module _ (L : Links) (n : ℕ) (serials : List ℕ) where
  -- the same level, the same lines
  levels_same : {h : ℕ} {x y : List ℕ} → Levels L n serials h x → Levels L n serials h y → x ≡ y
  levels_same no_level no_level = refl
  levels_same (next_level {h = h} {lines = a} p g Q l A) (next_level {lines = b} q g' Q' l' B) =
      let (e, f) = listed_one L n (suc h) g g' Q Q' A B in
      ap₂ (λ (u w : List ℕ). u ++ w) (levels_same p q) (lines_same (suc h) g serials Q Q' f ∙ ap (group_lines (suc h) serials Q') e)

  -- each level up to h has a group
  has_group : {h : ℕ} {x : List ℕ} → Levels L n serials h x → (j : ℕ) → j < h → (s : Set) × Group L n (suc j) s
  has_group no_level j l = absurd (omega arith)
  has_group (next_level {h = h} p g Q some A) j l = go (ℕ_discrete j h) (λ m. has_group p j m)
    where
      go : Dec (j ≡ h) → (j < h → (s : Set) × Group L n (suc j) s) → (s : Set) × Group L n (suc j) s
      go (yes e) ih = (Q 0, subst (λ (i : ℕ). Group L n (suc i) (Q 0)) (sym e) (A.groups.group 0 some))
      go (no d) ih = ih (omega arith)

  not_above : {h h' : ℕ} {y : List ℕ} → Last L n h → Levels L n serials h' y → Last L n h' → h < h' → ⊥
  not_above {h} {h'} (inl e) q (inl f) l = omega arith
  not_above {h} {h'} (inl e) q (inr f) l = omega (arith, f.0)
  not_above {h} {h'} (inr e) q f l = let (s, G) = has_group q h l in e.1 s G

  same_top : {h h' : ℕ} {x y : List ℕ} → Levels L n serials h x → Last L n h → Levels L n serials h' y → Last L n h' → h ≡ h'
  same_top {h} {h'} p a q b = go (dec_lt h h') (dec_lt h' h)
    where
      go : Dec (h < h') → Dec (h' < h) → h ≡ h'
      go (yes l) d = absurd (not_above a q b l)
      go (no l) (yes m) = absurd (not_above b p a m)
      go (no l) (no m) = omega arith

  same_text : {h h' : ℕ} {x y : List ℕ} (v m : ℕ) → Levels L n serials h x → Last L n h → Levels L n serials h' y → Last L n h'
      → first_line v n m ++ x ++ last_line h ≡ first_line v n m ++ y ++ last_line h'
  same_text {h} {h'} {x} {y} v m p a q b =
      let e = same_top p a q b in
      ap₂ (λ (u w : List ℕ). first_line v n m ++ u ++ w) (levels_same (subst (λ (i : ℕ). Levels L n serials i x) e p) q) (ap last_line e)

pub page_one : (bs x y : List ℕ) → Page bs x → Page bs y → x ≡ y
page_one bs x y (refused r f l) (refused r' g m) = ap refused_line (first_one (survey_order bs) r r' f g)
page_one bs x y (refused r f l) (listed g Y p a) = absurd (omega (arith, first_one (survey_order bs) r 0 f g))
page_one bs x y (listed f Y p a) (refused r' g m) = absurd (omega (arith, first_one (survey_order bs) r' 0 g f))
page_one bs x y (listed {v = v} {n = n} {m = m} {h = h} {serials = s} {table = t} {lines = u} f Y p a) (listed {v = v'} {n = n'} {m = m'} {h = h'} {serials = s'} {table = t'} {lines = w} g Z q b) =
    first ∙ same_text (linked t') n' s' v' m' p' a' q b
  where
    first : first_line v n m ++ u ++ last_line h ≡ first_line v' n' m' ++ u ++ last_line h
    first =
        ap (λ (k : ℕ). first_line k n m ++ u ++ last_line h) (same_version Y Z) ∙ ap (λ (k : ℕ). first_line v' k m ++ u ++ last_line h) (same_stations Y Z)
        ∙ ap (λ (k : ℕ). first_line v' n' k ++ u ++ last_line h) (same_records Y Z)

    p' : Levels (linked t') n' s' h u
    p' =
        subst (λ (z : List ℕ). Levels (linked z) n' s' h u) (same_table Y Z)
        (subst (λ (z : List ℕ). Levels (linked t) n' z h u) (same_serials Y Z) (subst (λ (k : ℕ). Levels (linked t) k s h u) (same_stations Y Z) p))

    a' : Last (linked t') n' h
    a' = subst (λ (z : List ℕ). Last (linked z) n' h) (same_table Y Z) (subst (λ (k : ℕ). Last (linked t) k h) (same_stations Y Z) a)

-- a buffer with room is never refused
pub night_list_answers : (bs p p' : List ℕ) (r : Result ℕ Refusal) → Prints bs p p' r → 262144 ≤ length p → number_of r ≡ 0
night_list_answers bs p p' r x h = none_given (PAGE_ROOM (length p) ∷ []) (number_of r) x.refused (λ l. omega arith, tt)

pub night_list_only_one : (bs p a b : List ℕ) (r r' : Result ℕ Refusal) → Prints bs p a r → Prints bs p b r' → (r ≡ r') × (a ≡ b)
night_list_only_one bs p a b r r' x y = go r r' x y (first_one (PAGE_ROOM (length p) ∷ []) (number_of r) (number_of r') x.refused y.refused)
  where
    go : (r r' : Result ℕ Refusal) → Prints bs p a r → Prints bs p b r' → number_of r ≡ number_of r' → (r ≡ r') × (a ≡ b)
    go (Ok k) (Ok j) x y e = (ap Ok same, rejoined k j a b p same text (x.beyond refl) (y.beyond refl))
      where
        text : take k a ≡ take j b
        text = page_one bs (take k a) (take j b) (x.printed refl) (y.printed refl)

        same : k ≡ j
        same = sym (length-take-le k a x.inside) ∙ ap length text ∙ length-take-le j b y.inside
    go (Err u) (Err w) x y e = (ap Err (refusal_one u w e), x.kept (number_above u) ∙ sym (y.kept (number_above w)))
    go (Err u) (Ok j) x y e = absurd (number_above u e)
    go (Ok k) (Err w) x y e = absurd (number_above w (sym e))
