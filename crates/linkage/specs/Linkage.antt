-- Linkages, and the search for a greater one. Each station of a net holds a number: itself, a station that is linked to it, or the mark of the
-- source; no two hold the same station. So c disjoint chains are held with no chain written down: each starts at a station that holds the mark.
--   Linkage N W hold c            the stations of W hold a linkage of c chains
--   Search N hold from time In k  a search from the starts came into the stations of In
--   Closed N hold In Out          it can go no further
--   Hole N hold time In p h c     the way back along a search: a linkage but for the station h
--   Sweep N hold from time ..     a search as a loop over sets;  undone, steps: the numbers that fall
use Rattle.std.specs.Prelude.{◌≡◌, ◌≢◌, true, false, cond, not, ◌&&◌, ℕ, zero, suc, ◌≤◌, ◌<◌}
use Rattle.stations.specs.Sets.{Set, ◌is_in◌, ◌not_in◌, ◌without◌, ◌cut◌, only, size}
use Rattle.linkage.specs.Net.{Net}

-- u is what the station w may hold: itself (it is idle), or an inner station that is linked to it, or the mark of the source, if w is a start
pub data Arc (N : Net) (u w : ℕ) : Type 0 where
  idle : u ≡ w → Arc N u w
  inward : u is_in N.inner → N.link u w ≡ true → Arc N u w
  first : u ≡ N.mark → N.starts w ≡ true → Arc N u w

-- the stations that hold the mark
abbrev pub marked : Net → (ℕ → ℕ) → Set
marked N hold w = only N.mark (hold w)

-- The stations of W hold a linkage of c chains. W is all inner stations, or all but one, the hole. The chains start at the stations that hold the mark.
pub record Linkage (N : Net) (W : Set) (hold : ℕ → ℕ) (c : ℕ) : Type 0 where
  pub arc : (w : ℕ) → w is_in W → Arc N (hold w) w
  pub inj : (w w' : ℕ) → w is_in W → w' is_in W → hold w ≡ hold w' → hold w ≢ N.mark → w ≡ w'
  pub out : (v : ℕ) → v is_in N.inner → ((w : ℕ) → w is_in W → hold w ≢ v) → N.ends v ≡ true
  pub starts : size N.mark (W cut marked N hold) ≡ c

-- ---- the search from the starts for a greater linkage

-- f' is f with u stored at h
abbrev pub Stored : {A : Type 0} → (ℕ → A) → ℕ → A → (ℕ → A) → Type 0
Stored f h u f' = (f' h ≡ u) × ((w : ℕ) → w ≢ h → f' w ≡ f w)

-- Why the search came into w, with g for where it came from: it is a start, with the mark for g, or from a station g in E, over the station that g holds.
pub data Cause (N : Net) (hold : ℕ → ℕ) (E : ℕ → Type 0) (g w : ℕ) : Type 0 where
  near : g ≡ N.mark → N.starts w ≡ true → Cause N hold E g w
  over : E g → hold g is_in N.inner → Arc N (hold g) w → Cause N hold E g w

-- The search came into the stations of In, into each at its time, before now; `from` says from where.
pub record Search (N : Net) (hold from time : ℕ → ℕ) (In : Set) (now : ℕ) : Type 0 where
  pub past : (w : ℕ) → w is_in In → time w < now
  pub within : (w : ℕ) → w is_in In → w is_in N.inner
  pub cause : (w : ℕ) → w is_in In → Cause N hold (λ g. (g is_in In) × (time g < time w)) (from w) w

-- It can go no further: it came into the stations In, and out of the stations Out.
pub record Closed (N : Net) (hold : ℕ → ℕ) (In Out : Set) : Type 0 where
  pub within : (w : ℕ) → w is_in In → w is_in N.inner
  pub through : (v : ℕ) → v is_in Out → v is_in In
  pub start : (w : ℕ) → w is_in N.inner → N.starts w ≡ true → w is_in In
  pub back : (w : ℕ) → w is_in In → hold w ≢ N.mark → hold w is_in Out
  pub onward : (v w : ℕ) → v is_in Out → w is_in N.inner → N.link v w ≡ true → w is_in In
  pub stop : (v : ℕ) → v is_in Out → N.ends v ≡ false

-- The way back along a search: p is a linkage but for the hole h, and is hold at h and at what the search came into before h.
pub record Hole (N : Net) (hold time : ℕ → ℕ) (In : Set) (p : ℕ → ℕ) (h c : ℕ) : Type 0 where
  pub here : h is_in In
  pub rest : Linkage N (N.inner without only h) p c
  pub same : (x : ℕ) → x is_in In → time x ≤ time h → p x ≡ hold x

-- A search as a loop over sets: it came into In, and of that the stations of Todo wait; from each other it came out, into Out. A station's time is
-- how many the search had come into before.
pub record Sweep (N : Net) (hold from time : ℕ → ℕ) (In Out Todo : Set) : Type 0 where
  pub search : Search N hold from time In (size N.mark In)
  pub waits : (w : ℕ) → w is_in Todo → w is_in In
  pub through : (v : ℕ) → v is_in Out → v is_in In
  pub start : (w : ℕ) → w is_in N.inner → N.starts w ≡ true → w is_in In
  pub back : (w : ℕ) → w is_in In → w not_in Todo → hold w ≢ N.mark → hold w is_in Out
  pub onward : (v w : ℕ) → v is_in Out → w is_in N.inner → N.link v w ≡ true → w is_in In
  pub stop : (v : ℕ) → v is_in Out → N.ends v ≡ false

-- what it has not come out of: this falls at each turn
abbrev pub undone : Set → Set → Set
undone In Todo x = not (In x && not (Todo x))

-- how many steps of `from` lead from h into E, if not above k: this falls on the way back
unfoldable pub steps : Set → (ℕ → ℕ) → ℕ → ℕ → ℕ
steps E from zero h = 0
steps E from (suc k) h = cond (E h) 0 (suc (steps E from k (from h)))
