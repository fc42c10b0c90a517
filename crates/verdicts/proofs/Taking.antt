-- The first of the smallest losses, over sets by value: how a station is tried (led_..), and the turns of the loop that takes stations (take_..).
use mathlib.Core.List.{List}
use Rattle.std.proofs.Common.{Some, None}
use mathlib.Core.Path.{◌≡◌, refl, sym, ◌∙◌, subst, subst₂, fun_ext}
use Prim.Native.Nat.{ℕ, ◌+◌, ◌-◌, ◌<◌}
use native.Mathlib.Omega.{arith}
use Rattle.stations.specs.Sets.{Set, ◌is_in◌, ◌not_in◌, ◌part_of◌, only, none, ◌without◌, ◌joined◌, size}
use Rattle.stations.specs.Words.{members}
use Rattle.stations.specs.Answers.{Least}
use Rattle.stations.specs.declared.StationSet.{StationSet}
use Rattle.stations.proofs.Bools.{never, or_left, or_right}
use Rattle.mesh.specs.Mesh.{Whole}
use Rattle.mesh.specs.Table.{linked}
use Rattle.search.specs.Losses.{every, WeakPair, Smallest, Safe, Around}
use Rattle.search.proofs.FirstLoss.{Taking, taking_begin, taking_witness, taking_more, taking_end, taking_pass, taking_take}
use Rattle.search.proofs.SmallestLoss.{smallest_part, smallest_size, witness_next, none_around}
use Rattle.search.proofs.Reply.{pair_loss, weak_set}
use Rattle.pairs.specs.Piece.{AroundOf}
use Rattle.verdicts.specs.Verdicts.{SmallestWeak, FirstWeak, Trial, Led}
use Rattle.pairs.specs.declared.WeakPair as declared
use Rattle.pairs.proofs.Starts.{below}

-- ---- a station j is tried
module _ {t : List ℕ} {p taken witness : StationSet} {j left : ℕ} (h : Trial t p taken witness j left) where
  part : members taken part_of members p
  part x g = h.leads.small.weak.loss.part x (h.leads.has x g)

  -- in p without the taken stations
  module _ (rest : StationSet) (lr : (x : ℕ) → members rest x ≡ (members p without members taken) x) where
    pub led_found : (w : declared.WeakPair) (r : StationSet) → AroundOf t rest j left (Some w) → ((x : ℕ) → members r x ≡ (members w.loss joined members taken) x) → Led t p taken j left r
    led_found w r a e = record {
      leads = record {
        small = subst (Smallest (linked t) 256 every (size 256 (members taken) + left) (members p)) (sym (fun_ext e))
            (witness_next left part (λ x g. refl) refl h.safe (members w.loss) (pair_loss (subst (λ (z : Set). WeakPair (linked t) 256 every (left + 1) z w.one w.other (members w.loss)) (fun_ext lr) a.0)));
        has = λ x g. e x ∙ or_right (members w.loss x) (members taken x) g;
      };
      none = λ o. never (members r j) (e j ∙ or_left (members w.loss j) (members taken j) a.1) o;
    }

    pub led_none : AroundOf t rest j left None → Led t p taken j left witness
    led_none a = record {
      leads = h.leads;
      none = λ o s l g. none_around left part (λ x g. refl) refl h.safe j h.piece.mesh (below p) h.fresh
          (subst (λ (z : Set). (S : Set) → Around (linked t) 256 every (left + 1) z j S → Whole (linked t) (z without S)) (fun_ext lr) a) s l.small l.has g;
    }

-- ---- stations are taken
abbrev pub Takes : List ℕ → StationSet → ℕ → StationSet → StationSet → StationSet → ℕ → Type 0
Takes t p c taken witness rest left = Taking 256 (Smallest (linked t) 256 every c (members p)) (members p) c (members taken) (members witness) (members rest) left

pub take_begin : (t : List ℕ) (p s taken : StationSet) (c : ℕ) → SmallestWeak t p s → c ≡ size 256 (members s) → ((x : ℕ) → members taken x ≡ none x) → Takes t p c taken s p c
take_begin t p s taken c h e lt =
    subst (λ (z : Set). Taking 256 (Smallest (linked t) 256 every c (members p)) (members p) c z (members s) (members p) c) (sym (fun_ext lt))
    (taking_begin smallest_part smallest_size (members s) (subst (λ (i : ℕ). Smallest (linked t) 256 every i (members p) (members s)) (sym e) h.small))

module _ (t : List ℕ) (p : StationSet) (c : ℕ) (taken witness rest : StationSet) (left : ℕ) (h : Takes t p c taken witness rest left) where
  abbrev Small : ℕ → Set → Type 0
  Small i s = Smallest (linked t) 256 every i (members p) s

  -- j is the next station
  module _ (j : ℕ) (l : Least (members rest) j) where
    module _ (w rest' : StationSet) (led : Led t p taken j left w) (lr : (x : ℕ) → members rest' x ≡ (members rest without only j) x) where
      sought : Small c (members w)
      sought = subst (λ (i : ℕ). Small i (members w)) h.count led.leads.small

      pub take_in : (taken' : StationSet) → j is_in members w → ((x : ℕ) → members taken' x ≡ (members taken joined only j) x) → 0 < left → Takes t p c taken' w rest' (left - 1)
      take_in taken' g lt pos =
          subst₂ (λ (y z : Set). Taking 256 (Small c) (members p) c y (members w) z (left - 1)) (sym (fun_ext lt)) (sym (fun_ext lr))
          (taking_take smallest_part smallest_size h j l.mine l.below (members w) sought led.leads.has g (below p) pos)

      pub take_out : j not_in members w → Takes t p c taken w rest' left
      take_out o =
          subst (λ (z : Set). Taking 256 (Small c) (members p) c (members taken) (members w) z left) (sym (fun_ext lr))
          (taking_pass smallest_part smallest_size (taking_witness smallest_part smallest_size h (members w) sought led.leads.has) j l.mine l.below
          (λ q m sub g. led.none o q (record { small = subst (λ (i : ℕ). Small i q) (sym h.count) m; has = sub }) g))

  -- once all were tried, none is to be taken
  pub take_tried : ((x : ℕ) → x not_in members rest) → left ≡ 0
  take_tried z = omega (arith, stuck)
    where
      stuck : 0 < left → ⊥
      stuck pos = let (x, i, g) = taking_more smallest_part smallest_size h (below p) pos in never (members rest x) g (z x)

  pub take_end : left ≡ 0 → (s : StationSet) → SmallestWeak t p s → c ≡ size 256 (members s) → FirstWeak t p s taken
  take_end z s a e k l =
      let (w, first) = taking_end smallest_part smallest_size h (below p) z in
      weak_set (subst (λ (i : ℕ). Safe (linked t) 256 every i (members p)) (sym e) a.safe) w first k (omega (arith, e, l))
