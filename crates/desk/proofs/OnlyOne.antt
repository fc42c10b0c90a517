-- Each exported question has one reply: the returned number and every lent number are what they are.
use mathlib.Core.List.{List, [], ◌∷◌}
use mathlib.Core.Path.{◌≡◌, refl, sym, ap, ◌∙◌}
use Prim.Native.Nat.{ℕ}
use native.Mathlib.Decide.{ℕ_discrete}
use denote.Ref.{Bor}
use lib.ListN.{length}
use Rattle.stations.specs.Sets.{Set, one_if}
use Rattle.stations.proofs.Laws.{Wide, members_same}
use Rattle.stations.proofs.OnlyOne.{order_only_one}
use Rattle.card.specs.Card.{number_of}
use Rattle.routes.specs.Reply as routes
use Rattle.routes.proofs.OnlyOne.{routes_only_one}
use Rattle.holding.specs.Reply as holding
use Rattle.holding.proofs.OnlyOne.{holding_one, judged_only_one}
use Rattle.groups.specs.Reply as groups
use Rattle.groups.proofs.OnlyOne.{list_only_one}
use Rattle.standings.specs.Reply as standings
use Rattle.standings.proofs.OnlyOne.{station_only_one, pair_only_one}
use Rattle.reader.specs.Reply as reader
use Rattle.writer.specs.Reply as writer
use Rattle.survey.proofs.OnlyOne.{reader_only_one, writer_only_one}
use Rattle.page.specs.Reply as page
use Rattle.page.proofs.OnlyOne.{night_list_only_one}
use Rattle.desk.specs.Desk.{FirstRowDesk, RoutesDesk, HoldingDesk, VerdictDesk, ListDesk, StationDesk, PairDesk, ReadDesk, WriteDesk, PageDesk}

pub first_row_desk_only_one : (x y : Bor (List ℕ)) (r w r' w' : ℕ) → FirstRowDesk x y r w → FirstRowDesk x y r' w' → (r ≡ r') × (w ≡ w')
first_row_desk_only_one x y r w r' w' p q = (
  go (ℕ_discrete r r'),
  p.counted ∙ ap length (order_only_one x y p.answer q.answer p.replies q.replies).1 ∙ sym q.counted,
)
  where
    -- numbers that differ would be neither both 1 nor both 0
    go : Dec (r ≡ r') → r ≡ r'
    go (yes e) = e
    go (no d) = p.first (λ a b c. d (p.second a b c ∙ sym (q.second a b c))) ∙ sym (q.first (λ a b c. d (p.second a b c ∙ sym (q.second a b c))))

pub routes_desk_only_one : (n : ℕ) (t : List ℕ) (a b r j c r' j' c' : ℕ) → RoutesDesk n t a b r j c → RoutesDesk n t a b r' j' c' → (r ≡ r') × (j ≡ j') × (c ≡ c')
routes_desk_only_one n t a b r j c r' j' c' p q =
    let e = routes_only_one n t a b p.answer q.answer p.replies q.replies in (
      p.number ∙ ap number_of e ∙ sym q.number,
      p.linked_pair ∙ ap (λ (x : routes.Reply). one_if (routes.joined x)) e ∙ sym q.linked_pair,
      p.counted ∙ ap routes.count e ∙ sym q.counted,
    )

-- the four words are words of 64 bits (Wide), which their type says
pub holding_desk_only_one : (n : ℕ) (t : List ℕ) (k : ℕ) (s : List ℕ) (r v w0 w1 w2 w3 r' v' w0' w1' w2' w3' : ℕ)
    → HoldingDesk n t k s r v w0 w1 w2 w3 → HoldingDesk n t k s r' v' w0' w1' w2' w3' → Wide (w0 ∷ w1 ∷ w2 ∷ w3 ∷ []) → Wide (w0' ∷ w1' ∷ w2' ∷ w3' ∷ [])
    → (r ≡ r') × (v ≡ v') × (◌≡◌ {A = List ℕ} (w0 ∷ w1 ∷ w2 ∷ w3 ∷ []) (w0' ∷ w1' ∷ w2' ∷ w3' ∷ []))
holding_desk_only_one n t k s r v w0 w1 w2 w3 r' v' w0' w1' w2' w3' p q a b =
    let (e, f, g) = holding_one n t k s p.answer q.answer p.replies q.replies in (
      p.number ∙ e ∙ sym q.number,
      p.told ∙ f ∙ sym q.told,
      members_same (w0 ∷ w1 ∷ w2 ∷ w3 ∷ []) (w0' ∷ w1' ∷ w2' ∷ w3' ∷ []) refl refl a b (λ x. p.weak x ∙ ap (λ (z : Set). z x) g ∙ sym (q.weak x)),
    )

pub verdict_desk_only_one : (n : ℕ) (t : List ℕ) (k : ℕ) (s : List ℕ) (r v r' v' : ℕ) → VerdictDesk n t k s r v → VerdictDesk n t k s r' v' → (r ≡ r') × (v ≡ v')
verdict_desk_only_one n t k s r v r' v' p q =
    let e = judged_only_one n t k s p.brief q.brief p.replies q.replies in
    (p.number ∙ ap number_of e ∙ sym q.number, p.told ∙ ap holding.verdict e ∙ sym q.told)

-- the words of a list are words of 64 bits (Wide), which their type says
pub list_desk_only_one : (n : ℕ) (t : List ℕ) (k : ℕ) (l a b : List ℕ) (r g r' g' : ℕ) → Wide a → Wide b → ListDesk n t k l a r g → ListDesk n t k l b r' g'
    → (r ≡ r') × (g ≡ g') × (a ≡ b)
list_desk_only_one n t k l a b r g r' g' wa wb p q =
    let (e, f) = list_only_one n t k l a b wa wb p.answer q.answer p.replies q.replies in
    (p.number ∙ ap number_of e ∙ sym q.number, p.counted ∙ ap groups.count e ∙ sym q.counted, f)

pub station_desk_only_one : (n : ℕ) (t : List ℕ) (a r s r' s' : ℕ) → StationDesk n t a r s → StationDesk n t a r' s' → (r ≡ r') × (s ≡ s')
station_desk_only_one n t a r s r' s' p q =
    let e = station_only_one n t a p.answer q.answer p.replies q.replies in
    (p.number ∙ ap number_of e ∙ sym q.number, p.stands ∙ ap standings.level e ∙ sym q.stands)

pub pair_desk_only_one : (n : ℕ) (t : List ℕ) (a b r s r' s' : ℕ) → PairDesk n t a b r s → PairDesk n t a b r' s' → (r ≡ r') × (s ≡ s')
pair_desk_only_one n t a b r s r' s' p q =
    let e = pair_only_one n t a b p.answer q.answer p.replies q.replies in
    (p.number ∙ ap number_of e ∙ sym q.number, p.stands ∙ ap standings.level e ∙ sym q.stands)

pub read_desk_only_one : (bs serials table s t s' t' : List ℕ) (r v n l r' v' n' l' : ℕ) → ReadDesk bs serials table s t r v n l → ReadDesk bs serials table s' t' r' v' n' l'
    → (r ≡ r') × (v ≡ v') × (n ≡ n') × (l ≡ l') × (s ≡ s') × (t ≡ t')
read_desk_only_one bs serials table s t s' t' r v n l r' v' n' l' p q =
    let (e, f, g) = reader_only_one bs serials table s t s' t' p.answer q.answer p.replies q.replies in (
      p.number ∙ ap number_of e ∙ sym q.number,
      p.of_version ∙ ap reader.version e ∙ sym q.of_version,
      p.of_stations ∙ ap reader.stations e ∙ sym q.of_stations,
      p.of_links ∙ ap reader.links e ∙ sym q.of_links,
      f,
      g,
    )

pub write_desk_only_one : (n : ℕ) (serials table bs b b' : List ℕ) (r l r' l' : ℕ) → WriteDesk n serials table bs b r l → WriteDesk n serials table bs b' r' l' → (r ≡ r') × (l ≡ l') × (b ≡ b')
write_desk_only_one n serials table bs b b' r l r' l' p q =
    let (e, f) = writer_only_one n serials table bs b b' p.answer q.answer p.replies q.replies in
    (p.number ∙ ap number_of e ∙ sym q.number, p.of_length ∙ ap writer.file_length e ∙ sym q.of_length, f)

pub page_desk_only_one : (bs p a b : List ℕ) (r l r' l' : ℕ) → PageDesk bs p a r l → PageDesk bs p b r' l' → (r ≡ r') × (l ≡ l') × (a ≡ b)
page_desk_only_one bs p a b r l r' l' x y =
    let (e, f) = night_list_only_one bs p a b x.answer y.answer x.replies y.replies in
    (x.number ∙ ap number_of e ∙ sym y.number, x.of_length ∙ ap page.page_length e ∙ sym y.of_length, f)
