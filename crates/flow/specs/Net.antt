-- What `flow` answers about the net between two sets of ends, in a table of links.
--   net_of t inner starts ends    the net
--   Flow N limit r               as many chains as the limit, that share no station; or fewer, with a loss of as many stations that leaves none
use Rattle.std.specs.Prelude.{List, Option, Some, None, ◌≡◌, refl, ℕ, ◌<◌}
use Rattle.stations.specs.Sets.{◌part_of◌, size}
use Rattle.stations.specs.Words.{words, members}
use Rattle.stations.specs.declared.StationSet.{StationSet}
use Rattle.stations.proofs.Laws.{has_small}
use Rattle.mesh.specs.Table.{linked}
use Rattle.linkage.specs.Net.{Net, Family, Parts}
use Rattle.flow.specs.declared.Cut.{Cut}

-- The net of the stations `inner`, with the links of the table t, from the stations `starts` to the stations `ends`.
abbrev pub net_of : List ℕ → StationSet → StationSet → StationSet → Net
net_of t inner starts ends = record {
  mark = 256;
  link = linked t;
  inner = members inner;
  starts = members starts;
  ends = members ends;
  below = λ w m. has_small (words inner) w refl m;
}

-- c chains that share no station, fewer than the limit, and a loss s of c stations of the net that leaves no chain: so c is the greatest number of
-- such chains, and the least size of such a loss
pub record Solved (N : Net) (limit c : ℕ) (s : StationSet) : Type 0 where
  pub fewer : c < limit
  pub family : Family N c
  pub within : members s part_of N.inner
  pub parts : Parts N (members s)
  pub exact : size 256 (members s) ≡ c

-- as many chains as the limit, that share no station; or fewer, with a loss
abbrev pub Flow : Net → ℕ → Option Cut → Type 0
Flow N limit None = Family N limit
Flow N limit (Some r) = Solved N limit r.chains r.loss
