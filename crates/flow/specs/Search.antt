-- What the steps of `flow` know of their arrays: what each station holds, and where a search came from.
--   read s l w           the bridge from arrays to linkages: the mark at the stations of s, and elsewhere what the array has
--   Marked, Idle         what is stored
--   Held t .. c          `hold` and `first` hold a linkage of c chains
--   Searched N .. r      what a search came to: an end (Came), or none (Stuck)
--   Start, Turned        what the way back along a search starts from and comes to, whatever the net
use Rattle.std.specs.Prelude.{cond, List, Option, Some, None, Result, Ok, Err, ◌≡◌, ℕ, suc, ◌<◌, length, get_or}
use Rattle.stations.specs.Sets.{Set, ◌is_in◌, ◌not_in◌, ◌part_of◌, ◌without◌, ◌cut◌, ◌joined◌, only, size}
use Rattle.stations.specs.Words.{members}
use Rattle.stations.specs.declared.StationSet.{StationSet}
use Rattle.linkage.specs.Net.{Net}
use Rattle.linkage.specs.Linkage.{Linkage, Search, Closed}
use Rattle.flow.specs.Net.{net_of}

abbrev pub at : List ℕ → ℕ → ℕ
at l w = get_or l w 0

-- the mark, 256, at the stations of s, and elsewhere what the list has
abbrev pub read : Set → List ℕ → ℕ → ℕ
read s l w = cond (s w) 256 (at l w)

-- a station of the set, or none
abbrev pub SomeOf : Set → Option ℕ → Type 0
SomeOf s (Some j) = (j < 256) × (j is_in s)
SomeOf s None = (x : ℕ) → x not_in s

-- g is stored at the stations of s
pub record Marked (from : List ℕ) (s : Set) (g : ℕ) (from' : List ℕ) : Type 0 where
  pub whole : length from' ≡ 256
  pub new : (x : ℕ) → x is_in s → at from' x ≡ g
  pub old : (x : ℕ) → x not_in s → at from' x ≡ at from x

-- each station below k holds itself
pub record Idle (hold : List ℕ) (k : ℕ) : Type 0 where
  pub whole : length hold ≡ 256
  pub same : (w : ℕ) → w < k → at hold w ≡ w

-- hold is a linkage of c chains, and these start at the stations of `first`
pub record Held (t : List ℕ) (inner starts ends first : StationSet) (hold : List ℕ) (c : ℕ) : Type 0 where
  pub whole : length hold ≡ 256
  pub firsts : (w : ℕ) → w is_in members first → (w is_in members inner) × (w is_in members starts)
  pub linkage : Linkage (net_of t inner starts ends) (members inner) (read (members first) hold) c

-- what a search begins with: into and todo are the starts, and those of them that start no chain
pub record Setting (t : List ℕ) (inner ends : StationSet) (hold : List ℕ) (into todo : StationSet) : Type 0 where
  pub starts : StationSet
  pub first : StationSet
  pub number : ℕ
  pub held : Held t inner starts ends first hold number
  pub into_law : (w : ℕ) → members into w ≡ (members starts cut members inner) w
  pub todo_law : (w : ℕ) → members todo w ≡ (members into without members first) w

-- The search came to the station h, which holds an end.
pub record Came (N : Net) (starts : StationSet) (first : Set) (hold from : List ℕ) (h : ℕ) : Type 0 where
  pub reached : Set
  pub time : ℕ → ℕ
  pub search : Search N (read first hold) (read (members starts) from) time reached (size N.mark reached)
  pub here : h is_in reached
  pub held : read first hold h is_in N.inner
  pub ends : read first hold h is_in N.ends

-- The search came to no end, and s is what it came into and not out of.
pub record Stuck (N : Net) (first : Set) (hold : List ℕ) (s : StationSet) : Type 0 where
  pub into : Set
  pub out : Set
  pub closed : Closed N (read first hold) into out
  pub loss : (w : ℕ) → members s w ≡ (into without out) w

abbrev pub Told : Net → StationSet → Set → List ℕ → List ℕ → Result ℕ StationSet → Type 0
Told N starts first hold from (Ok h) = Came N starts first hold from h
Told N starts first hold from (Err s) = Stuck N first hold s

pub record Searched (N : Net) (starts : StationSet) (first : Set) (hold from : List ℕ) (r : Result ℕ StationSet) : Type 0 where
  pub whole : length from ≡ 256
  pub told : Told N starts first hold from r

-- what the way back starts from, whatever the net
pub record Start (starts : StationSet) (hold from : List ℕ) (last : ℕ) : Type 0 where
  pub whole : length hold ≡ 256
  pub net : Net
  pub mark : net.mark ≡ 256
  pub entry : (w : ℕ) → net.starts w ≡ members starts w
  pub first : Set
  pub firsts : first part_of members starts
  pub number : ℕ
  pub linkage : Linkage net net.inner (read first hold) number
  pub came : Came net starts first hold from last

-- it ends at the station r, where the new chain starts
pub record Turned (starts : StationSet) (hold from : List ℕ) (last : ℕ) (hold' : List ℕ) (r : ℕ) : Type 0 where
  pub whole : length hold' ≡ 256
  pub small : r < 256
  pub start : r is_in members starts
  pub inner : (W : Start starts hold from last) → r is_in W.net.inner
  pub linkage : (W : Start starts hold from last) → Linkage W.net W.net.inner (read (W.first joined only r) hold') (suc W.number)
