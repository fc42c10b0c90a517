-- From the reader's tests to an accepted file, and from the filled buffers to the reply.
use mathlib.Core.List.{List, [], ◌∷◌, ◌++◌}
use mathlib.Core.Logic.{inl, inr}
use mathlib.Core.Path.{◌≡◌, refl, sym, subst₂}
use Prim.Native.Nat.{ℕ, ◌*◌, ◌≤◌}
use native.Mathlib.Omega.{arith}
use lib.ListN.{length, get_or, drop}
use lib.Seq.{take_at, drop_at}
use Rattle.std.specs.Prelude.{Result, Ok, Err, IsErrAnd}
use Rattle.card.specs.Card.{number, Test, FirstFailing}
use Rattle.card.specs.declared.Refusal.{Refusal}
use Rattle.card.proofs.Card.{Numbered, Passes, none_fails, number_above, first_go}
use Rattle.records.specs.Bytes.{Octets}
use Rattle.records.specs.Survey.{Mark, version, stations, records, Survey}
use Rattle.records.specs.Lines.{MARK, VERSION, COUNT, LENGTH, ROOM, SERIAL, LINK, reader_order}
use Rattle.records.proofs.Climbing.{serials_right, pairs_right}
use Rattle.records.proofs.Order.{stable, at_most}
use Rattle.reader.specs.Reply.{Reads}
use Rattle.reader.specs.declared.Heading.{Heading}
use Rattle.reader.specs.Steps.{Heads, Accepted}

pub order_numbered : (bs : List ℕ) (p q : ℕ) → Numbered (reader_order bs p q)
order_numbered bs p q = (omega arith, (omega arith, (omega arith, (omega arith, (omega arith, (omega arith, (omega arith, tt)))))))

mark_right : (bs : List ℕ) → ¬ (MARK bs).fails → Mark bs
mark_right bs h = (
  stable (get_or bs 0 0) 82 (λ o. h (inr (λ m. o m.0))),
  stable (get_or bs 1 0) 76 (λ o. h (inr (λ m. o m.1))),
  stable (get_or bs 2 0) 77 (λ o. h (inr (λ m. o m.2))),
)

-- ---- the reader's order, step by step: 8 passed, and 9, 10 and 11 with the heading h, so the rest decides
abbrev pub rest : List ℕ → ℕ → ℕ → ℕ → ℕ → List Test
rest bs n m serials words = ROOM n serials words ∷ SERIAL n bs ∷ LINK n m bs ∷ []

pub order_rest : (bs : List ℕ) (h : Heading) (serials words r : ℕ) → FirstFailing (MARK bs ∷ []) 0 → FirstFailing (VERSION bs ∷ COUNT bs ∷ LENGTH bs ∷ []) 0 → Heads bs h
    → FirstFailing (rest bs h.stations h.links serials words) r → FirstFailing (reader_order bs serials words) r
order_rest bs h serials words r f g H e =
    let last : List Test = rest bs (stations bs) (records bs) serials words in
    first_go (MARK bs ∷ []) (VERSION bs ∷ COUNT bs ∷ LENGTH bs ∷ last) r (omega arith, tt) f
    (first_go (VERSION bs ∷ COUNT bs ∷ LENGTH bs ∷ []) last r (omega arith, (omega arith, (omega arith, tt))) g
    (subst₂ (λ (n m : ℕ). FirstFailing (rest bs n m serials words) r) H.stations_are H.records_are e))

-- a file that passed every test, with the heading h
pub record Passed (bs : List ℕ) (h : Heading) (serials words : ℕ) : Type 0 where
  pub accepted : Accepted bs h.stations h.links
  pub room_serials : h.stations ≤ serials
  pub room_words : h.stations * 4 ≤ words

pub passed : (bs : List ℕ) (h : Heading) (serials words : ℕ) → Octets bs → Heads bs h → FirstFailing (reader_order bs serials words) 0 → Passed bs h serials words
passed bs h serials words o H f = go (none_fails (reader_order bs serials words) (order_numbered bs serials words) f)
  where
    go : Passes (reader_order bs serials words) → Passed bs h serials words
    go (mark, (v, (count, (l, (room, (serial, (link, _))))))) =
        record {
          accepted = record {
            few = H.few;
            frame = record { octets = o; mark = mark_right bs mark; version_is = stable (version bs) 1 v; stations_are = sym H.stations_are; records_are = sym H.records_are; whole = H.whole; few_records = H.most };
            serials_right = rw H.stations_are (serials_right (stations bs) _ serial);
            pairs_right = rw (H.stations_are, H.records_are) (pairs_right (stations bs) (records bs) _ _ link);
          };
          room_serials = rw H.stations_are (at_most (stations bs) serials (λ x. room (inl x)));
          room_words = rw H.stations_are (at_most (stations bs * 4) words (λ x. room (inr x)));
        }

-- ---- the reply
pub refused_reply : (bs serials table : List ℕ) (reply : Result Heading Refusal) (r : Refusal) → IsErrAnd reply (λ e. e ≡ r)
    → FirstFailing (reader_order bs (length serials) (length table)) (number r) → Reads bs serials table serials table reply
refused_reply bs serials table (Ok h) r i f = elim i [ ]
refused_reply bs serials table (Err e) r i f = record {
  refused = rw i f;
  kept = λ _. (refl, refl);
  survey = λ z. absurd (number_above e z);
  serials_beyond = λ z. absurd (number_above e z);
  table_beyond = λ z. absurd (number_above e z);
}

-- s and t are what the first n serials and the first n * 4 words became
pub read_reply : (bs serials table s t : List ℕ) (h : Heading) → h.version ≡ 1 → FirstFailing (reader_order bs (length serials) (length table)) 0 → length s ≡ h.stations
    → length t ≡ h.stations * 4 → Survey 1 h.stations h.links s t bs → Reads bs serials table (s ++ drop h.stations serials) (t ++ drop (h.stations * 4) table) (Ok h)
read_reply bs serials table s t h one f ls lt S = record {
  refused = f;
  kept = λ o. absurd (o refl);
  survey = λ _. rw (one, take_at s (drop h.stations serials) h.stations ls, take_at t (drop (h.stations * 4) table) (h.stations * 4) lt) S;
  serials_beyond = λ _. drop_at s (drop h.stations serials) h.stations ls;
  table_beyond = λ _. drop_at t (drop (h.stations * 4) table) (h.stations * 4) lt;
}
