-- The search as the program has it: what its steps do to its fields comes to what Parting and Turning say of the rows.
use mathlib.Core.List.{List}
use mathlib.Core.Path.{◌≡◌, refl, sym, ◌∙◌, subst, subst₂}
use Prim.Native.Nat.{ℕ, ◌+◌, ◌*◌, ◌<◌, ◌≤◌}
use native.Mathlib.Omega.{arith}
use lib.ListN.{length}
use Rattle.stations.specs.Sets.{Set, ◌not_in◌, ◌without◌, size}
use Rattle.mesh.specs.Mesh.{Holds, Weak}
use Rattle.mesh.specs.Table.{linked}
use Rattle.listing.specs.List.{set_at}
use Rattle.listing.specs.Rows.{Kept, Stored}
use Rattle.listing.specs.Steps.{Pruned, Dividing, Divided, State, Turned}
use Rattle.listing.specs.Searches.{Stands, Same, Later, Turn, Filled, Parted}
use Rattle.listing.specs.declared.steps.Search.{Search}
use Rattle.listing.proofs.Lists.{kept_more}
use Rattle.listing.proofs.Parting.{Split, Cutting, cut_none, cut_all, cut_less, cut_small, cut_room, cut_large}
use Rattle.listing.proofs.Turning.{all_done, finished, dropped, dividing, divided}

pub same_none : (s : Search) → Same s s
same_none s = record { table = refl; level = refl; list = refl }

pub same_then : {r s t : Search} → Same r s → Same s t → Same r t
same_then a b = record { table = b.table ∙ a.table; level = b.level ∙ a.level; list = b.list ∙ a.list }

-- the loop of `divide`: t is s with the parts so far behind its rows, and `rest` is left
pub record Cut (P S : Set) (s : Search) (rest : Set) (t : Search) : Type 0 where
  pub same : Same s t
  pub done : t.done ≡ s.done
  pub more : ℕ
  pub all : t.all ≡ s.all + more
  pub cutting : Cutting (linked s.table.now) s.k P S s.list.now s.all rest more t.list.now

module _ {P S : Set} {s : Search} (d : Dividing s.table.now s.k P S s.list.now s.all) where
  pub all_to_cut : (rest : Set) → rest ≡ P without S → Cut P S s rest s
  all_to_cut rest e = record { same = same_none s; done = refl; more = 0; all = omega arith; cutting = cut_none d rest e }

  module _ {rest : Set} {t : Search} (c : Cut P S s rest t) where
    pub all_cut : ((x : ℕ) → x not_in rest) → Parted P s t
    all_cut none = record { same = c.same; done = c.done; more = c.more; all = c.all; divided = cut_all d c.cutting none }

    module _ {A rest' : Set} (p : Split (linked s.table.now) S rest A rest') where
      pub rest_falls : size 256 rest' < size 256 rest
      rest_falls = cut_less d c.cutting p

      pub small_cut : size 256 A ≤ s.k → Cut P S s rest' t
      small_cut few = record { same = c.same; done = c.done; more = c.more; all = c.all; cutting = cut_small d c.cutting p few }

      module _ (big : s.k < size 256 A) where
        pub room_cut : t.all * 4 + 4 ≤ length t.list.now
        room_cut = rw c.all (cut_room d c.cutting p big)

        pub large_cut : {u : Search} → Same s u → u.done ≡ s.done → u.all ≡ t.all + 1 → Stored t.list.now t.all A u.list.now → Cut P S s rest' u
        large_cut {u = u} same done all st = record {
          same = same;
          done = done;
          more = c.more + 1;
          all = omega (arith, all, c.all);
          cutting = cut_large d c.cutting p big u.list.now (subst (λ (r : ℕ). Stored t.list.now r A u.list.now) c.all st);
        }

abbrev Reached : Search → List ℕ → ℕ → ℕ → Type 0
Reached s l g c = Turned s.table.now s.k s.list.now s.done s.all l g c

-- a turn takes up the piece in row done, pruned to P
module _ {s : Search} {w : ℕ} {D : Set} (st : Stands w D s) (lt : s.done < s.all) (P : Set) (pr : Pruned (linked s.table.now) s.k (set_at s.list.now s.done) P) where
  pub turn_finished : {t : Search} → Same s t → t.done ≡ s.done + 1 → t.all ≡ s.all → Holds (linked s.table.now) 256 s.k P → Stored s.list.now s.done P t.list.now → Turn s t
  turn_finished {t = t} same e f holds so = record { same = same; turned = subst₂ (λ (g c : ℕ). Reached s t.list.now g c) (sym e) (sym f) (finished st lt P pr t.list.now holds so) }

  module _ {u : Search} (f : Filled s u) where
    pub turn_dropped : size 256 P ≤ s.k → Turn s u
    turn_dropped few = record { same = f.same; turned = subst (λ (g : ℕ). Reached s u.list.now g u.all) (sym f.done) (dropped st lt f.all P pr u.list.now f.stored few) }

    pub turn_dividing : (S : Set) → s.k < size 256 P → Weak (linked s.table.now) 256 s.k P S → Dividing u.table.now u.k P S u.list.now u.all
    turn_dividing S large weak =
        subst₂ (λ (t : List ℕ) (k : ℕ). Dividing t k P S u.list.now u.all) (sym f.same.table) (sym f.same.level) (dividing st lt f.all P pr u.list.now f.stored S large weak)

    pub turn_divided : {t : Search} → Parted P u t → Turn s t
    turn_divided {t = t} p = record {
      same = same_then f.same p.same;
      turned = subst₂ (λ (g c : ℕ). Reached s t.list.now g c) (sym (p.done ∙ f.done)) (sym p.all) (divided st lt f.all P pr u.list.now f.stored t.list.now p.more parts);
    }
      where
        parts : Divided (linked s.table.now) s.k P u.all u.list.now t.list.now p.more
        parts = subst₂ (λ (t' : List ℕ) (k : ℕ). Divided (linked t') k P u.all u.list.now t.list.now p.more) f.same.table f.same.level p.divided

-- turn after turn
pub later_turn : {r s t : Search} → Later r s → Turn s t → Later r t
later_turn {r = r} {s = s} {t = t} a b = record { same = same_then a.same b.same; state = state }
  where
    state : (w : ℕ) (D : Set) → Stands w D r → Stands w D t × Kept w r.list.now t.list.now
    state w D x =
        let y = a.state w D x in
        let z = b.turned.state w D y.0 in
        (subst₂ (λ (t' : List ℕ) (k : ℕ). State t' k w D t.list.now t.done t.all) (sym b.same.table) (sym b.same.level) z.0, kept_more y.1 z.1)

-- every row holds
pub search_over : {s t : Search} {w : ℕ} {D : Set} → Later s t → t.all ≤ t.done → Stands w D s → State s.table.now s.k w D t.list.now t.done t.done × Kept w s.list.now t.list.now
search_over {s = s} {t = t} {w = w} {D = D} a h x =
    let y = a.state w D x in
    (subst₂ (λ (t' : List ℕ) (k : ℕ). State t' k w D t.list.now t.done t.done) a.same.table a.same.level (all_done y.0 h), y.1)
