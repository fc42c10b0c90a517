-- From what the reader replied to the page.
use mathlib.Core.List.{List, ◌++◌}
use mathlib.Core.Logic.{inl, inr}
use mathlib.Core.Path.{◌≡◌, refl, sym, ◌∙◌, subst₂}
use Prim.Native.Nat.{ℕ, zero, suc, ◌+◌, ◌*◌, ◌<◌, ◌≤◌}
use native.Mathlib.Omega.{arith}
use lib.ListN.{length, take}
use Rattle.std.specs.Prelude.{Ok, Err}
use Rattle.card.specs.Card.{FirstFailing, number}
use Rattle.card.specs.declared.Refusal.{Refusal}
use Rattle.card.proofs.Card.{number_above}
use Rattle.records.specs.Lines.{reader_order}
use Rattle.reader.specs.declared.Heading.{Heading}
use Rattle.reader.specs.Reply.{Reads}
use Rattle.lines.specs.Lines.{first_line, last_line, refused_line}
use Rattle.lines.specs.Sheets.{Room, Put}
use Rattle.lines.specs.declared.Sheet.{Sheet}
use Rattle.page.specs.Page.{survey_order, refused, listed}
use Rattle.page.specs.Steps.{SurveyPut, PagePut}

-- with room for 256 serials and 1,024 words, 14 is never given
pub room_passed : (bs : List ℕ) (r : ℕ) → FirstFailing (reader_order bs 256 1024) r → FirstFailing (survey_order bs) r
room_passed bs r (inl a) = inl a
room_passed bs r (inr (a, inl b)) = inr (a, inl b)
room_passed bs r (inr (a, inr (b, inl c))) = inr (a, inr (b, inl c))
room_passed bs r (inr (a, inr (b, inr (c, inl d)))) = inr (a, inr (b, inr (c, inl d)))
room_passed bs r (inr (a, inr (b, inr (c, inr (d, inl (inl e, f)))))) = absurd (c (inl e))
room_passed bs r (inr (a, inr (b, inr (c, inr (d, inl (inr e, f)))))) = absurd (c (inl (omega arith)))
room_passed bs r (inr (a, inr (b, inr (c, inr (d, inr (e, f)))))) = inr (a, inr (b, inr (c, inr (d, f))))

-- ---- the page of what the reader replied
module _ {bs serials t serials' t' : List ℕ} (room : length serials ≡ 256) (words : length t ≡ 1024) where
  module _ {h : Heading} (R : Reads bs serials t serials' t' (Ok h)) where
    order : FirstFailing (survey_order bs) 0
    order = room_passed bs 0 (subst₂ (λ (a b : ℕ). FirstFailing (reader_order bs a b) 0) room words R.refused)

    pub page_read : {p q : Sheet} → Room 262144 p → SurveyPut h.version h.stations h.links (take (h.stations * 4) t') (take h.stations serials') p q → PagePut bs p q
    page_read r s = record {
      text = first_line h.version h.stations h.links ++ s.lines ++ last_line s.top;
      page_is = listed order (R.survey refl) s.levels s.last;
      put = s.put;
      inside = omega (arith, r, s.end, s.put.added.long);
    }

  pub page_refused : {x : Refusal} → Reads bs serials t serials' t' (Err x) → {y : ℕ} → y ≡ number x → {p q : Sheet} → Room 262144 p → Put (refused_line y) p q → q.at ≤ p.at + 40 → PagePut bs p q
  page_refused {x} R {y} is h a e = record {
    text = refused_line y;
    page_is = refused y (room_passed bs y (rw is (subst₂ (λ (a b : ℕ). FirstFailing (reader_order bs a b) (number x)) room words R.refused))) (above y (λ z. number_above x (sym is ∙ z)));
    put = a;
    inside = omega (arith, h, e, a.added.long);
  }
    where
      above : (z : ℕ) → ¬ (z ≡ 0) → 0 < z
      above zero f = absurd (f refl)
      above (suc z) f = omega arith
