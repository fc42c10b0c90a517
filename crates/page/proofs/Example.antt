-- The page of a survey of no station, computed: two lines, and no other page is allowed for it (empty_page, empty_page_only).
use mathlib.Core.Bool.{Bool, true, false, ◌&&◌}
use mathlib.Core.List.{List, [], ◌∷◌, ◌++◌}
use mathlib.Core.Logic.{inr}
use mathlib.Core.Path.{◌≡◌, refl}
use Prim.Native.Nat.{ℕ, zero, suc}
use native.Mathlib.Omega.{arith}
use lib.Dec.{ltb, lit<}
use borrow.Author.Tests.{ltb-true}
use Rattle.stations.specs.Sets.{Set}
use Rattle.stations.proofs.Bools.{never, and_left, and_right}
use Rattle.stations.proofs.Counting.{size_le}
use Rattle.mesh.specs.Mesh.{Links, Group}
use Rattle.mesh.specs.Table.{linked}
use Rattle.records.specs.Bytes.{short, Octets}
use Rattle.records.specs.Survey.{Survey}
use Rattle.reader.proofs.Put.{no_link}
use Rattle.survey.proofs.RoundTrips.{reader_takes}
use Rattle.lines.specs.Lines.{text, decimal_in, first_line, last_line}
use Rattle.page.specs.Page.{Levels, no_level, next_level, Last, Page, listed}
use Rattle.page.proofs.Reading.{room_passed}
use Rattle.page.proofs.Named.{page_of}

-- the mark, version 1, no station, no link
abbrev pub nine : List ℕ
nine = 82 ∷ 76 ∷ 77 ∷ 1 ∷ 0 ∷ 0 ∷ 0 ∷ 0 ∷ 0 ∷ []

abbrev small : List ℕ → Bool
small [] = true
small (b ∷ bs) = ltb b 256 && small bs

octets : (bs : List ℕ) → small bs ≡ true → Octets bs
octets [] h i = lit< tt
octets (b ∷ bs) h zero = ltb-true b 256 (and_left (ltb b 256) (small bs) h)
octets (b ∷ bs) h (suc i) = octets bs (and_right (ltb b 256) (small bs) h) i

unlinked : (x y : ℕ) → linked [] x y ≡ false
unlinked x y = no_link [] (λ i. refl) x y

empty : Survey 1 0 0 [] [] nine
unfolding short
empty = record {
  one = refl;
  frame = record { octets = octets nine refl; mark = (refl, refl, refl); version_is = refl; stations_are = refl; records_are = refl; whole = refl; few_records = omega arith };
  all_serials = refl;
  serial_is = λ i l. absurd (omega arith);
  serials_right = record { some = λ i l. absurd (omega arith); rising = λ i l. absurd (omega arith) };
  pairs_right = record { apart = λ j l. absurd (omega arith); below = λ j l. absurd (omega arith); rising = λ j l. absurd (omega arith) };
  accepted = record {
    few = omega arith;
    long = refl;
    apart = λ a. unlinked a a;
    both = λ a b e. never (linked [] a b) e (unlinked a b);
    below = λ a b e. never (linked [] a b) e (unlinked a b);
  };
  words = λ i. lit< tt;
  record_linked = λ j l. absurd (omega arith);
  linked_record = λ a b l e. never (linked [] a b) e (unlinked a b);
}

no_group : (L : Links) (k : ℕ) (s : Set) → ¬ Group L 0 k s
no_group L k s G = omega (arith, G.holds.above, size_le 0 s)

abbrev pub two_lines : List ℕ
two_lines = text "RLM 1 stations 0 links 0\nend 0\n"

pub empty_page : Page nine two_lines
unfolding decimal_in
empty_page = listed (room_passed nine 0 (reader_takes 256 1024 empty (omega arith) (omega arith))) empty no_level (inr (omega arith, no_group (linked []) 1))

pub empty_page_only : (page : List ℕ) → Page nine page → page ≡ two_lines
unfolding decimal_in
empty_page_only page p = go (page_of page p empty)
  where
    go : (h : ℕ) × (lines : List ℕ) × Levels (linked []) 0 [] h lines × Last (linked []) 0 h × (page ≡ first_line 1 0 0 ++ lines ++ last_line h) → page ≡ two_lines
    go (h, lines, no_level, d, e) = e
    go (h, lines, next_level {h = j} q g Q some A, d, e) = absurd (no_group (linked []) (suc j) (Q 0) (A.groups.group 0 some))
