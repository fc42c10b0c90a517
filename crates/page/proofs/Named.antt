-- THE PAGE NAMES ALL OF THEM. For every accepted survey, every level from 1 to 16 and every group at that level, the page has the group's line, with
-- the place that the group has in the level's list (names_every_group). The page of an accepted survey is its first line, the lines of the levels'
-- lists and the last line, and nothing else (page_of).
use mathlib.Core.List.{List, [], ◌∷◌, ◌++◌, append_assoc, append-nil}
use mathlib.Core.Logic.{inl, inr}
use mathlib.Core.Path.{◌≡◌, refl, sym, ◌∙◌, ap, subst}
use Prim.Native.Nat.{ℕ, zero, suc, ◌<◌, ◌≤◌}
use native.Mathlib.Decide.{dec_le, ℕ_discrete}
use native.Mathlib.Omega.{arith}
use lib.ListN.{length, get_or, length-append}
use Rattle.stations.specs.Sets.{Set}
use Rattle.mesh.specs.Mesh.{Links, Mesh, Group}
use Rattle.mesh.specs.Table.{linked}
use Rattle.mesh.proofs.Pruning.{level_down}
use Rattle.mesh.proofs.Covered.{in_group}
use Rattle.card.proofs.Card.{first_one}
use Rattle.card.proofs.TableTest.{table_mesh}
use Rattle.records.specs.Survey.{Survey}
use Rattle.survey.proofs.OneSurvey.{same_version, same_stations, same_records, same_serials, same_table}
use Rattle.survey.proofs.RoundTrips.{reader_takes}
use Rattle.lines.specs.Lines.{text, decimal, labelled, serials_of, first_line, group_line, last_line}
use Rattle.lines.proofs.Unbroken.{group_one_line}
use Rattle.page.specs.Page.{group_lines, Levels, no_level, next_level, Last, survey_order, Page, refused, listed, Ended, OnPage, NamedOn}
use Rattle.page.proofs.Reading.{room_passed}

-- ---- a line inside another is not on the page
pub not_inside : ¬ OnPage (text "1 1 101\n") (text "11 1 101\n")
not_inside h = go h.before h.begins h.is
  where
    nothing : (x : ℕ) → Ended (x ∷ []) → x ≡ 49 → ⊥
    nothing x (inl e) q = omega (arith, ap length e)
    nothing x (inr ([], e)) q = omega (arith, ap (λ (l : List ℕ). get_or l 0 0) e)
    nothing x (inr (y ∷ z, e)) q = omega (arith, ap length e, length-append z (text "\n"))

    go : (b : List ℕ) → Ended b → text "11 1 101\n" ≡ b ++ text "1 1 101\n" ++ h.after → ⊥
    go [] d e = omega (arith, ap (λ (l : List ℕ). get_or l 1 0) e)
    go (x ∷ []) d e = nothing x d (sym (ap (λ (l : List ℕ). get_or l 0 0) e))
    go (x ∷ y ∷ z) d e = omega (arith, ap length e, length-append (z ++ text "1 1 101\n") h.after, length-append z (text "1 1 101\n"))

-- ---- lines behind one another
ended_then : (x y : List ℕ) → Ended x → Ended y → Ended (x ++ y)
ended_then x y p (inl e) = subst Ended (sym (ap (λ (z : List ℕ). x ++ z) e ∙ append-nil x)) p
ended_then x y p (inr (z, e)) = inr (x ++ z, ap (λ (u : List ℕ). x ++ u) e ∙ sym (append_assoc x z (text "\n")))

on_more : {line page : List ℕ} (more : List ℕ) → OnPage line page → OnPage line (page ++ more)
on_more {line} more h = record {
  one_line = h.one_line;
  before = h.before;
  after = h.after ++ more;
  begins = h.begins;
  is = ap (λ (z : List ℕ). z ++ more) h.is ∙ append_assoc (h.before ++ line) h.after more;
}

on_behind : {line page : List ℕ} (front : List ℕ) → Ended front → OnPage line page → OnPage line (front ++ page)
on_behind {line} front q h = record {
  one_line = h.one_line;
  before = front ++ h.before;
  after = h.after;
  begins = ended_then front h.before q h.begins;
  is = ap (λ (z : List ℕ). front ++ z) h.is ∙ simp append_assoc;
}

module _ (k : ℕ) (serials : List ℕ) (Q : ℕ → Set) where
  ended_lines : (g : ℕ) → Ended (group_lines k serials Q g)
  unfolding group_lines
  ended_lines zero = inl refl
  ended_lines (suc g) = ended_then (group_lines k serials Q g) (group_line k (suc g) serials (Q g)) (ended_lines g) (inr (decimal k ++ labelled " " (suc g) ++ serials_of (length serials) serials (Q g), refl))

  on_lines : (g i : ℕ) → i < g → OnPage (group_line k (suc i) serials (Q i)) (group_lines k serials Q g)
  unfolding group_lines
  on_lines zero i l = absurd (omega arith)
  on_lines (suc g) i l = go (ℕ_discrete i g) (on_lines g i)
    where
      last : OnPage (group_line k (suc g) serials (Q g)) (group_lines k serials Q g ++ group_line k (suc g) serials (Q g))
      last = record { one_line = group_one_line k (suc g) serials (Q g); before = group_lines k serials Q g; after = []; begins = ended_lines g; is = sym (append-nil (group_lines k serials Q g ++ group_line k (suc g) serials (Q g))) }

      go : Dec (i ≡ g) → (i < g → OnPage (group_line k (suc i) serials (Q i)) (group_lines k serials Q g))
          → OnPage (group_line k (suc i) serials (Q i)) (group_lines k serials Q g ++ group_line k (suc g) serials (Q g))
      go (yes e) ih = subst (λ (j : ℕ). OnPage (group_line k (suc j) serials (Q j)) (group_lines k serials Q g ++ group_line k (suc g) serials (Q g))) (sym e) last
      go (no d) ih = on_more (group_line k (suc g) serials (Q g)) (ih (omega arith))

module _ (L : Links) (n : ℕ) (serials : List ℕ) where
  ended_levels : {h : ℕ} {lines : List ℕ} → Levels L n serials h lines → Ended lines
  ended_levels no_level = inl refl
  ended_levels (next_level {h = h} {lines = lines} p g Q some A) = ended_then lines (group_lines (suc h) serials Q g) (ended_levels p) (ended_lines (suc h) serials Q g)

  on_page : {k : ℕ} {s : Set} {page page' : List ℕ} → ((line : List ℕ) → OnPage line page → OnPage line page') → NamedOn L n k serials s page → NamedOn L n k serials s page'
  on_page {k} {s} f h = record { count = h.count; list = h.list; listed = h.listed; place = h.place; inside = h.inside; is = h.is; line = f (group_line k (suc h.place) serials s) h.line }

  -- at a level that is printed
  named : {h : ℕ} {lines : List ℕ} → Levels L n serials h lines → (j : ℕ) → j < h → (s : Set) → Group L n (suc j) s → NamedOn L n (suc j) serials s lines
  named no_level j l s G = absurd (omega arith)
  named (next_level {h = h} {lines = lines} p g Q some A) j l s G = go (ℕ_discrete j h) (λ m. named p j m s G)
    where
      here : Group L n (suc h) s → NamedOn L n (suc h) serials s (lines ++ group_lines (suc h) serials Q g)
      here H = let (i, m, f) = A.groups.all s H in record {
        count = g;
        list = Q;
        listed = A;
        place = i;
        inside = m;
        is = f;
        line = on_behind lines (ended_levels p) (subst (λ (z : Set). OnPage (group_line (suc h) (suc i) serials z) (group_lines (suc h) serials Q g)) (sym f) (on_lines (suc h) serials Q g i m));
      }

      go : Dec (j ≡ h) → (j < h → NamedOn L n (suc j) serials s lines) → NamedOn L n (suc j) serials s (lines ++ group_lines (suc h) serials Q g)
      go (no d) ih = on_page (λ line. on_more (group_lines (suc h) serials Q g)) (ih (omega arith))
      go (yes e) ih = subst (λ (i : ℕ). NamedOn L n (suc i) serials s (lines ++ group_lines (suc h) serials Q g)) (sym e) (here (subst (λ (i : ℕ). Group L n (suc i) s) e G))

  -- a level above the last has no group: what holds at it holds below
  below_top : (h j : ℕ) → Mesh L → Last L n h → j < 16 → (s : Set) → Group L n (suc j) s → j < h
  below_top h j m d l s G = go (dec_le h j)
    where
      go : Dec (h ≤ j) → j < h
      go (no x) = omega arith
      go (yes x) = none d
        where
          none : Last L n h → j < h
          none (inl e) = omega arith
          none (inr e) = let (t, H, q) = in_group L n (suc h) m s (level_down L n (suc h) (suc j) s (omega arith) G.holds) in absurd (e.1 t H)

module _ {v n m : ℕ} {serials table bs : List ℕ} (page : List ℕ) (P : Page bs page) (Y : Survey v n m serials table bs) where
  -- the page of an accepted survey: its first line, the lines of the levels from 1 to the last, and the last line
  pub page_of : (h : ℕ) × (lines : List ℕ) × Levels (linked table) n serials h lines × Last (linked table) n h × (page ≡ first_line v n m ++ lines ++ last_line h)
  page_of = go page P
    where
      go : (page : List ℕ) → Page bs page
          → (h : ℕ) × (lines : List ℕ) × Levels (linked table) n serials h lines × Last (linked table) n h × (page ≡ first_line v n m ++ lines ++ last_line h)
      go page (refused r f l) = absurd (omega (arith, first_one (survey_order bs) r 0 f (room_passed bs 0 (reader_takes 256 1024 Y (omega (arith, Y.accepted.few)) (omega (arith, Y.accepted.few))))))
      go page (listed {v = v'} {n = n'} {m = m'} {h = h} {serials = s'} {table = t'} {lines = lines} f Z p d) = (
        h,
        lines,
        subst (λ (z : List ℕ). Levels (linked z) n serials h lines) (same_table Z Y)
            (subst (λ (z : List ℕ). Levels (linked t') n z h lines) (same_serials Z Y) (subst (λ (k : ℕ). Levels (linked t') k s' h lines) (same_stations Z Y) p)),
        subst (λ (z : List ℕ). Last (linked z) n h) (same_table Z Y) (subst (λ (k : ℕ). Last (linked t') k h) (same_stations Z Y) d),
        ap (λ (k : ℕ). first_line k n' m' ++ lines ++ last_line h) (same_version Z Y) ∙ ap (λ (k : ℕ). first_line v k m' ++ lines ++ last_line h) (same_stations Z Y)
            ∙ ap (λ (k : ℕ). first_line v n k ++ lines ++ last_line h) (same_records Z Y),
      )

  pub names_every_group : (k : ℕ) → 1 ≤ k → k ≤ 16 → (s : Set) → Group (linked table) n k s → NamedOn (linked table) n k serials s page
  names_every_group zero a b s G = absurd (omega arith)
  names_every_group (suc j) a b s G = go page_of
    where
      go : (h : ℕ) × (lines : List ℕ) × Levels (linked table) n serials h lines × Last (linked table) n h × (page ≡ first_line v n m ++ lines ++ last_line h)
          → NamedOn (linked table) n (suc j) serials s page
      go (h, lines, p, d, e) =
          subst (NamedOn (linked table) n (suc j) serials s) (sym e)
          (on_page (linked table) n serials (λ line x. on_more (last_line h) (on_behind (first_line v n m) (inr (labelled "RLM " v ++ labelled " stations " n ++ labelled " links " m, refl)) x))
          (named (linked table) n serials p j (below_top (linked table) n serials h j (table_mesh Y.accepted) d (omega arith) s G) s G))
