-- From the writer's tests to what a file needs, and from the filled buffer to the reply.
use mathlib.Core.List.{List, [], ◌∷◌, ◌++◌}
use mathlib.Core.Logic.{inl, inr}
use mathlib.Core.Path.{◌≡◌, refl}
use Prim.Native.Nat.{ℕ, ◌+◌, ◌*◌, ◌≤◌}
use native.Mathlib.Omega.{arith}
use lib.ListN.{length, get_or, drop}
use lib.Seq.{take_at, drop_at}
use Rattle.mesh.specs.Table.{Table}
use Rattle.std.specs.Prelude.{Result, Ok, Err, IsErrAnd}
use Rattle.card.specs.Card.{number, Test, FirstFailing}
use Rattle.card.specs.declared.Refusal.{Refusal}
use Rattle.card.proofs.Card.{Passes, table_passed, number_above}
use Rattle.records.specs.Survey.{Serials, Survey, link_count}
use Rattle.records.specs.Lines.{GIVEN_SERIAL, LINK_COUNT, FILE_ROOM, writer_order}
use Rattle.records.proofs.Climbing.{serials_right}
use Rattle.records.proofs.Order.{stable, at_most}
use Rattle.writer.specs.Reply.{Writes}

abbrev pub own : ℕ → List ℕ → List ℕ → ℕ → List Test
own n serials t room = GIVEN_SERIAL n serials ∷ LINK_COUNT n t ∷ FILE_ROOM n t room ∷ []

-- a survey that passed every test
pub record Passed (n : ℕ) (serials t : List ℕ) (room : ℕ) : Type 0 where
  pub table : Table n t
  pub all_serials : length serials ≡ n
  pub serials_good : Serials n (λ i. get_or serials i 0)
  pub most : link_count n t ≤ 8192
  pub fits : 9 + n * 4 + link_count n t * 4 ≤ room

pub passed : (n : ℕ) (serials t : List ℕ) (room : ℕ) → FirstFailing (writer_order n serials t room) 0 → Passed n serials t room
passed n serials t room f = go (table_passed n t (own n serials t room) (omega arith, (omega arith, (omega arith, tt))) f)
  where
    go : Table n t × Passes (own n serials t room) → Passed n serials t room
    go (table, (given, (count, (fit, _)))) = record {
      table = table;
      all_serials = stable (length serials) n (λ o. given (inl o));
      serials_good = serials_right n (λ i. get_or serials i 0) (λ o. given (inr o));
      most = at_most (link_count n t) 8192 count;
      fits = at_most (9 + n * 4 + link_count n t * 4) room fit;
    }

-- ---- the reply
pub refused_reply : (n : ℕ) (serials t bs : List ℕ) (reply : Result ℕ Refusal) (r : Refusal) → IsErrAnd reply (λ e. e ≡ r)
    → FirstFailing (writer_order n serials t (length bs)) (number r) → Writes n serials t bs bs reply
refused_reply n serials t bs (Ok l) r i f = elim i [ ]
refused_reply n serials t bs (Err e) r i f = record {
  refused = rw i f;
  kept = λ _. refl;
  whole = λ z. absurd (number_above e z);
  survey = λ z. absurd (number_above e z);
  beyond = λ z. absurd (number_above e z);
}

-- b is what the first l bytes became
pub written_reply : (n : ℕ) (serials t bs b : List ℕ) (l : ℕ) → FirstFailing (writer_order n serials t (length bs)) 0 → length b ≡ l → l ≡ 9 + n * 4 + link_count n t * 4
    → Survey 1 n (link_count n t) serials t b → Writes n serials t bs (b ++ drop l bs) (Ok l)
written_reply n serials t bs b l f e w S = record {
  refused = f;
  kept = λ o. absurd (o refl);
  whole = λ _. w;
  survey = λ _. rw (take_at b (drop l bs) l e) S;
  beyond = λ _. drop_at b (drop l bs) l e;
}
