-- The reader and the writer have one reply each: two that the contract allows are the same, refused or not, and so are the buffers afterwards.
use mathlib.Core.List.{List, ◌++◌}
use mathlib.Core.Path.{◌≡◌, refl, sym, ap, ap₂, ◌∙◌}
use Prim.Native.Nat.{ℕ, ◌*◌}
use lib.ListN.{length, take, drop, take-append-drop}
use Rattle.std.specs.Prelude.{Result, Ok, Err}
use Rattle.card.specs.declared.Refusal.{Refusal}
use Rattle.card.specs.Card.{number_of}
use Rattle.card.proofs.Card.{first_one, refusal_one, number_above}
use Rattle.records.specs.Lines.{reader_order, writer_order}
use Rattle.reader.specs.declared.Heading.{Heading}
use Rattle.reader.specs.Reply.{Reads}
use Rattle.writer.specs.Reply.{Writes}
use Rattle.survey.proofs.OneSurvey.{same_version, same_stations, same_records, same_serials, same_table, same_bytes}

-- two lists with the same front and the same rest are the same
pub rejoined : (n n' : ℕ) (x y z : List ℕ) → n ≡ n' → take n x ≡ take n' y → drop n x ≡ drop n z → drop n' y ≡ drop n' z → x ≡ y
rejoined n n' x y z e p q r =
    sym (take-append-drop n x)
    ∙ ap₂ (λ (u w : List ℕ). u ++ w) (p ∙ ap (λ (k : ℕ). take k y) (sym e)) (q ∙ ap (λ (k : ℕ). drop k z) e ∙ sym r ∙ ap (λ (k : ℕ). drop k y) (sym e))
    ∙ take-append-drop n y

heading : ℕ → ℕ → ℕ → Heading
heading v n m = record { version = v; stations = n; links = m }

same_heading : (h h' : Heading) → h.version ≡ h'.version → h.stations ≡ h'.stations → h.links ≡ h'.links → h ≡ h'
unfolding heading
same_heading h h' p q r = ap₂ (λ (v n : ℕ). heading v n h.links) p q ∙ ap (heading h'.version h'.stations) r

pub reader_only_one : (bs serials table s t s' t' : List ℕ) (r r' : Result Heading Refusal) → Reads bs serials table s t r → Reads bs serials table s' t' r' → (r ≡ r') × (s ≡ s') × (t ≡ t')
reader_only_one bs serials table s t s' t' r r' p q = go r r' p q (first_one (reader_order bs (length serials) (length table)) _ _ p.refused q.refused)
  where
    go : (r r' : Result Heading Refusal) → Reads bs serials table s t r → Reads bs serials table s' t' r' → number_of r ≡ number_of r'
        → (r ≡ r') × (s ≡ s') × (t ≡ t')
    go (Ok h) (Ok h') p q e =
        let Y = p.survey refl in
        let Z = q.survey refl in
        let k = same_stations Y Z in (
          ap Ok (same_heading h h' (same_version Y Z) k (same_records Y Z)),
          rejoined h.stations h'.stations s s' serials k (same_serials Y Z) (p.serials_beyond refl) (q.serials_beyond refl),
          rejoined (h.stations * 4) (h'.stations * 4) t t' table (ap (λ (i : ℕ). i * 4) k) (same_table Y Z) (p.table_beyond refl) (q.table_beyond refl),
        )
    go (Err x) (Err y) p q e =
        let (a, b) = p.kept (number_above x) in
        let (c, d) = q.kept (number_above y) in
        (ap Err (refusal_one x y e), a ∙ sym c, b ∙ sym d)
    go (Err x) (Ok h) p q e = absurd (number_above x e)
    go (Ok h) (Err y) p q e = absurd (number_above y (sym e))

pub writer_only_one : (n : ℕ) (serials table bs b b' : List ℕ) (r r' : Result ℕ Refusal) → Writes n serials table bs b r → Writes n serials table bs b' r' → (r ≡ r') × (b ≡ b')
writer_only_one n serials table bs b b' r r' p q = go r r' p q (first_one (writer_order n serials table (length bs)) _ _ p.refused q.refused)
  where
    go : (r r' : Result ℕ Refusal) → Writes n serials table bs b r → Writes n serials table bs b' r' → number_of r ≡ number_of r'
        → (r ≡ r') × (b ≡ b')
    go (Ok l) (Ok k) p q e =
        let h : l ≡ k = p.whole refl ∙ sym (q.whole refl) in
        (ap Ok h, rejoined l k b b' bs h (same_bytes (p.survey refl) (q.survey refl)) (p.beyond refl) (q.beyond refl))
    go (Err x) (Err y) p q e = (ap Err (refusal_one x y e), p.kept (number_above x) ∙ sym (q.kept (number_above y)))
    go (Err x) (Ok k) p q e = absurd (number_above x e)
    go (Ok l) (Err y) p q e = absurd (number_above y (sym e))
