-- A search over station sets, as `search` goes: it is a sweep of the net (Going). It begins with the starts (going_begin). A turn takes a station w
-- that waits and the station v that w holds: v is an end, and the search came to it (going_came); or the search comes into v and its links, all from
-- w, and v is out (going_turn), and less is left to do (going_fewer). Where none waits, it is closed (going_stuck).
use mathlib.Core.Bool.{true, not, cond}
use mathlib.Core.List.{List}
use mathlib.Core.Logic.{◌⊎◌, inl, inr, ⊎_elim}
use mathlib.Core.Path.{◌≡◌, sym, ap, ◌∙◌}
use Prim.Native.Nat.{ℕ, ◌<◌}
use native.Mathlib.Omega.{arith}
use borrow.Author.Tests.{not-false}
use Rattle.stations.specs.Sets.{Set, ◌is_in◌, ◌not_in◌, ◌without◌, ◌cut◌, ◌joined◌, only, size}
use Rattle.stations.specs.Words.{members}
use Rattle.mesh.specs.Table.{linked}
use Rattle.stations.specs.declared.StationSet.{StationSet}
use Rattle.stations.proofs.Bools.{test, or_left, or_right, and_off, never}
use Rattle.linkage.specs.Net.{Net}
use Rattle.linkage.specs.Linkage.{Arc, idle, inward, first, Sweep, undone}
use Rattle.stations.proofs.Members.{in_without, of_without, in_cut, of_cut, of_joined, only_is, is_only}
use Rattle.linkage.proofs.Sweep.{sweep_begin, sweep_turn, sweep_fewer, sweep_closed}
use Rattle.flow.specs.Net.{net_of}
use Rattle.flow.specs.Search.{at, read, Setting, Marked, Came, Stuck}

module _ {t : List ℕ} {inner ends : StationSet} {hold : List ℕ} {into₀ todo₀ : StationSet} (Z : Setting t inner ends hold into₀ todo₀) where
  open Z use {starts, first as fs}

  abbrev N : Net
  N = net_of t inner starts ends

  abbrev p : ℕ → ℕ
  p = read (members fs) hold

  -- the search so far; no station that waits starts a chain
  pub record Going (from : List ℕ) (into out todo : StationSet) : Type 0 where
    pub time : ℕ → ℕ
    pub sweep : Sweep N p (read (members starts) from) time (members into) (members out) (members todo)
    pub apart : (w : ℕ) → w is_in members todo → w not_in members fs

  pub going_begin : (from : List ℕ) (out : StationSet) → ((w : ℕ) → w not_in members out) → Going from into₀ out todo₀
  going_begin from out none = record {
    time = λ w. 0;
    sweep = sweep_begin N p (read (members starts) from) (members into₀) (members out) (members todo₀)
        (λ w m. let h = began w m in (h.1, h.0))
        (λ w i s. Z.into_law w ∙ in_cut (members starts) (members inner) w s i)
        (λ w m. mark (members starts) from w (began w m).0)
        none
        (λ w m. (waits w m).0)
        (λ w m o. mark (members fs) hold w (not-false _ (and_off (members into₀ w) (not (members fs w)) (sym (Z.todo_law w) ∙ o) m)));
    apart = λ w m. (waits w m).1;
  }
    where
      began : (w : ℕ) → w is_in members into₀ → (w is_in members starts) × (w is_in members inner)
      began w m = of_cut (members starts) (members inner) w (sym (Z.into_law w) ∙ m)

      waits : (w : ℕ) → w is_in members todo₀ → (w is_in members into₀) × (w not_in members fs)
      waits w m = of_without (members into₀) (members fs) w (sym (Z.todo_law w) ∙ m)

      mark : (s : Set) (l : List ℕ) (w : ℕ) → s w ≡ true → read s l w ≡ 256
      mark s l w m = rw m

  -- a station w that waits, and what it holds
  module _ {from : List ℕ} {into out todo : StationSet} (X : Going from into out todo) (w : ℕ) (wt : w is_in members todo) (v : ℕ) (e : v ≡ at hold w) (small : v < 256) where
    holds : p w ≡ v
    holds = off w (X.apart w wt) ∙ sym e
      where
        off : (x : ℕ) → x not_in members fs → p x ≡ at hold x
        off x o = rw o

    inside : w is_in members inner
    inside = X.sweep.search.within w (X.sweep.waits w wt)

    pub going_inner : v is_in members inner
    going_inner = elim (Z.held.linkage.arc w inside) [
      | idle q ↦ ap (members inner) (sym holds ∙ q) ∙ inside
      | inward u l ↦ ap (members inner) (sym holds) ∙ u
      | first q l ↦ absurd (omega (arith, sym holds ∙ q))
    ]

    pub going_came : v is_in members ends → Came N starts (members fs) hold from w
    going_came m = record {
      reached = members into;
      time = X.time;
      search = X.sweep.search;
      here = X.sweep.waits w wt;
      held = ap (members inner) holds ∙ going_inner;
      ends = ap (members ends) holds ∙ m;
    }

    module _ (from' : List ℕ) (into' out' todo' fresh : StationSet)
        (lf : (x : ℕ) → members fresh x ≡ (linked t v joined only v cut members inner without members into) x)
        (li : (x : ℕ) → members into' x ≡ (members into joined members fresh) x)
        (lo : (x : ℕ) → members out' x ≡ (members out joined only v) x)
        (lt : (x : ℕ) → members todo' x ≡ (members todo without only w joined members fresh) x)
        (mk : Marked from (members fresh) w from') where
      time' : ℕ → ℕ
      time' x = cond (members fresh x) (size 256 (members into)) (X.time x)

      time_new : (x : ℕ) → x is_in members fresh → time' x ≡ size 256 (members into)
      unfolding time'
      time_new x i = rw i

      time_old : (x : ℕ) → x not_in members fresh → time' x ≡ X.time x
      unfolding time'
      time_old x o = rw o

      parts : (x : ℕ) → x is_in members fresh → (x is_in linked t v joined only v) × (x is_in members inner) × (x not_in members into)
      parts x i =
          let h = of_without (linked t v joined only v cut members inner) (members into) x (sym (lf x) ∙ i) in
          let k = of_cut (linked t v joined only v) (members inner) x h.0 in
          (k.0, k.1, h.1)

      new : (x : ℕ) → x is_in members fresh → (x is_in members inner) × (x not_in members into) × Arc N (p w) x
      new x i =
          let (r, m, o) = parts x i in (
            m,
            o,
            ⊎_elim
                (λ l. inward (ap (members inner) holds ∙ going_inner) (ap (λ (y : ℕ). linked t y x) holds ∙ l))
                (λ q. idle (holds ∙ sym (only_is v x q))) (of_joined (linked t v) (only v) x r),
          )

      all : (x : ℕ) → x is_in members inner → x not_in members into → (x ≡ p w) ⊎ (linked t (p w) x ≡ true) → x is_in members fresh
      all x m o r =
          lf x ∙ in_without (linked t v joined only v cut members inner) (members into) x (in_cut (linked t v joined only v) (members inner) x (either_way r) m) o
        where
          either_way : (x ≡ p w) ⊎ (linked t (p w) x ≡ true) → x is_in linked t v joined only v
          either_way (inl q) = or_right (linked t v x) (only v x) (ap (only v) (q ∙ holds) ∙ is_only v)
          either_way (inr l) = or_left (linked t v x) (only v x) (ap (λ (y : ℕ). linked t y x) (sym holds) ∙ l)

      -- a new station is no start
      no_start : (x : ℕ) → x is_in members fresh → x not_in members starts
      no_start x i =
          let (r, m, o) = parts x i in
          ⊎_elim (λ s. never _ (X.sweep.start x m s) o) (λ q. q) (test (members starts x))

      fn : (x : ℕ) → x is_in members fresh → read (members starts) from' x ≡ w
      fn x i = off x (no_start x i) ∙ mk.new x i
        where
          off : (y : ℕ) → y not_in members starts → read (members starts) from' y ≡ at from' y
          off y o = rw o

      fo : (x : ℕ) → x not_in members fresh → read (members starts) from' x ≡ read (members starts) from x
      fo x o = ap (cond (members starts x) 256) (mk.old x o)

      lo' : (x : ℕ) → members out' x ≡ (members out joined only (p w)) x
      lo' x = lo x ∙ ap (λ (y : ℕ). (members out joined only y) x) (sym holds)

      apart' : (x : ℕ) → x is_in members todo' → x not_in members fs
      apart' x m = ⊎_elim
          (λ h. X.apart x (of_without (members todo) (only w) x h).0)
          (λ i. ⊎_elim (λ s. never _ (Z.held.firsts x s).1 (no_start x i)) (λ q. q) (test (members fs x)))
          (of_joined (members todo without only w) (members fresh) x (sym (lt x) ∙ m))

      pub going_turn : v not_in members ends → Going from' into' out' todo'
      going_turn stops = record {
        time = time';
        sweep = sweep_turn N p (read (members starts) from) X.time (members into) (members out) (members todo) X.sweep w wt
            (ap (members inner) holds ∙ going_inner) (read (members starts) from') time' (members into') (members out') (members todo') (members fresh)
            new all li lo' lt fn fo time_new time_old (ap (members ends) holds ∙ stops);
        apart = apart';
      }

      pub going_fewer : size 256 (undone (members into') (members todo')) < size 256 (undone (members into) (members todo))
      going_fewer =
          sweep_fewer N p (read (members starts) from) X.time (members into) (members out) (members todo) X.sweep w wt
          (ap (members inner) holds ∙ going_inner) (read (members starts) from') time' (members into') (members out') (members todo') (members fresh)
          new all li lo' lt fn fo time_new time_old

  pub going_stuck : {from : List ℕ} {into out todo : StationSet} → Going from into out todo → ((w : ℕ) → w not_in members todo)
      → (s : StationSet) → ((w : ℕ) → members s w ≡ (members into without members out) w) → Stuck N (members fs) hold s
  going_stuck {from} {into} {out} {todo} X none s law = record {
    into = members into;
    out = members out;
    closed = sweep_closed N p (read (members starts) from) X.time (members into) (members out) (members todo) X.sweep none;
    loss = law;
  }
