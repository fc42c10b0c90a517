-- Bytes are added to a page one after the other: nothing, a text, and two things in a row.
use mathlib.Core.List.{List, [], ◌++◌, append_assoc, append-nil}
use mathlib.Core.Path.{◌≡◌, refl, sym, ◌∙◌, ap, subst}
use Prim.Native.Nat.{ℕ, ◌+◌, ◌-◌, ◌≤◌}
use native.Mathlib.Nat.{add-sub_of_le}
use native.Mathlib.Omega.{arith}
use lib.ListN.{length, take, drop, length-append}
use lib.Seq.{drop-drop}
use borrow.Rule.Slice.PartMut.{put_mid}
use borrow.Author.Rules.{rules}
use Rattle.std.proofs.lemmas.Slice.{take-put_mid, drop-put_mid, overwrites}
use Rattle.lines.specs.Lines.{Added}
use Rattle.lines.specs.Sheets.{Put}
use Rattle.lines.specs.declared.Sheet.{Sheet}

pub added_none : (at : ℕ) (bs : List ℕ) → Added at at [] bs bs
added_none at bs = record { next = omega arith; front = sym (append-nil (take at bs)); beyond = refl; long = refl }

drop_on : (p r : ℕ) (xs ys : List ℕ) → p ≤ r → drop p xs ≡ drop p ys → drop r xs ≡ drop r ys
drop_on p r xs ys h e =
    subst (λ (q : ℕ). drop q xs ≡ drop q ys) (add-sub_of_le h) (sym (drop-drop (r - p) p xs) ∙ ap (drop (r - p)) e ∙ drop-drop (r - p) p ys)

pub added_then : (at p r : ℕ) (a b bs bs₁ bs₂ : List ℕ) → Added at p a bs bs₁ → Added p r b bs₁ bs₂ → Added at r (a ++ b) bs bs₂
added_then at p r a b bs bs₁ bs₂ x y = record {
  next = omega (arith, x.next, y.next, length-append a b);
  front = y.front ∙ ap (λ (f : List ℕ). f ++ b) x.front ∙ append_assoc (take at bs) a b;
  beyond = y.beyond ∙ drop_on p r bs₁ bs (omega (arith, y.next)) x.beyond;
  long = y.long ∙ x.long;
}

-- a text is copied whole
pub copied : (at k : ℕ) (new new' bs : List ℕ) → new' ≡ new → k ≡ length new → at + length new ≤ length bs → Added at (at + length new) new bs (put_mid at k bs new')
copied at k new new' bs e f room = rw e record {
  next = refl;
  front = take-put_mid at k bs new (at + length new) refl (omega arith);
  beyond = drop-put_mid at k bs new (at + length new) (omega arith) (omega arith) (omega arith);
  long = search (rules, overwrites);
}

pub put_none : (p : Sheet) → Put [] p p
put_none p = record { same = refl; added = added_none p.at p.bytes.now }

pub put_then : {a b : List ℕ} {p q r : Sheet} → Put a p q → Put b q r → Put (a ++ b) p r
put_then x y = record { same = y.same ∙ x.same; added = added_then _ _ _ _ _ _ _ _ x.added y.added }
