-- THE SEARCH as the program has it, and what its steps do.
--   Stands w D s       the state that s is in, w being the weight of D
--   Same s t           the table, the level and the list of t are those of s
--   Later s t          t is s some turns later
--   Turn s t           t is s a turn later
--   Filled s t         the last row took the place of the first unfinished piece
--   Parted P s t       the pieces that P is parted into came after the rows
use Rattle.std.specs.Prelude.{ℕ, ◌≡◌, ◌+◌}
use Rattle.stations.specs.Sets.{Set}
use Rattle.mesh.specs.Table.{linked}
use Rattle.listing.specs.List.{set_at}
use Rattle.listing.specs.Rows.{Kept, Stored}
use Rattle.listing.specs.Steps.{Divided, State, Turned}
use Rattle.listing.specs.declared.steps.Search.{Search}

abbrev pub Stands : ℕ → Set → Search → Type 0
Stands w D s = State s.table.now s.k w D s.list.now s.done s.all

pub record Same (s t : Search) : Type 0 where
  pub table : t.table.now ≡ s.table.now
  pub level : t.k ≡ s.k
  pub list : t.list.ghost_name ≡ s.list.ghost_name

pub record Later (s t : Search) : Type 0 where
  pub same : Same s t
  pub state : (w : ℕ) (D : Set) → Stands w D s → Stands w D t × Kept w s.list.now t.list.now

pub record Turn (s t : Search) : Type 0 where
  pub same : Same s t
  pub turned : Turned s.table.now s.k s.list.now s.done s.all t.list.now t.done t.all

pub record Filled (s t : Search) : Type 0 where
  pub same : Same s t
  pub done : t.done ≡ s.done
  pub all : t.all + 1 ≡ s.all
  pub stored : Stored s.list.now s.done (set_at s.list.now t.all) t.list.now

pub record Parted (P : Set) (s t : Search) : Type 0 where
  pub same : Same s t
  pub done : t.done ≡ s.done
  pub more : ℕ
  pub all : t.all ≡ s.all + more
  pub divided : Divided (linked s.table.now) s.k P s.all s.list.now t.list.now more
