use mathlib.Core.List.{List}
use mathlib.Core.Path.{◌≡◌, refl, sym, subst}
use Prim.Native.Nat.{ℕ, ◌<◌}
use native.Mathlib.Omega.{arith}
use borrow.Author.Rules.{rules}
use Rattle.stations.specs.Sets.{Set, size}
use Rattle.stations.specs.Words.{members}
use Rattle.mesh.proofs.Bound.{weight}
use Rattle.listing.specs.List.{Asked, Listing}
use Rattle.listing.specs.Rows.{Kept, Stored}
use Rattle.listing.specs.Steps.{State}
use Rattle.listing.proofs.Lists.{put_set}
use Rattle.listing.proofs.Ending.{nothing, first_room, begun, clear_room, sort_room, ended}
use Rattle.listing.proofs.Searching.{search_over}
use Rattle.listing.proofs.list_within.Goals.{After-div_ceil-most, After-gather, After-put_row, Else-n-k}
use Rattle.listing.proofs.list_within.Goals as goal

-- `listing::list_within` meets its contract.
module _ (c : Else-n-k) where
  abbrev D : Set
  D = members c.args.set

  asked : Asked c.args.table.now D c.args.k c.args.list.now
  asked = c.requires

  large : c.args.k < size 256 D
  large = omega (arith, c.if-n-k.false, c.size-n.ensures)

-- the rows that there is room for
most : (c : After-div_ceil-most) → c.div_ceil-most.result ≡ weight c.args.k (size 256 (D (goal.at.After-div_ceil-most c).Else-n-k))
most c = omega (arith, large (goal.at.After-div_ceil-most c).Else-n-k, c.div_ceil-most.ensures, c.size-n.ensures)

stored : (c : After-put_row) → Stored c.args.list.now 0 (D (goal.at.After-put_row c).Else-n-k) c.put_row.new.t
stored c = put_set c.args.set refl (first_room (asked (goal.at.After-put_row c).Else-n-k) (large (goal.at.After-put_row c).Else-n-k)) c.put_row.ensures

gathered : (c : After-gather) →
    let e = (goal.at.After-gather c).Else-n-k in let a = c.args in let w = weight a.k (size 256 (D e)) in
    State a.table.now a.k w (D e) c.gather.new.self.list.now c.gather.new.self.done c.gather.new.self.done × Kept w c.put_row.new.t c.gather.new.self.list.now
gathered c =
    let e = (goal.at.After-gather c).Else-n-k in
    search_over c.gather.ensures.later c.gather.ensures.over (begun (asked e) (large e) (stored (goal.at.After-gather c).After-put_row))

-- a list that is read anew is what it is
read : {l l' : List ℕ} {t : List ℕ} {D : Set} {k : ℕ} {o : List ℕ} {g : ℕ} → l' ≡ l → Listing t D k o l g → Listing t D k o l' g
read {t = t} {D = D} {k = k} {o = o} {g = g} e x = subst (λ (u : List ℕ). Listing t D k o u g) (sym e) x

pub returns-then-n-k : goal.returns-then-n-k
returns-then-n-k c = nothing c.requires (omega (arith, c.if-n-k.true, c.size-n.ensures))

pub gather-requires : goal.gather-requires
gather-requires c = (_, _, begun (asked (goal.at.gather-requires c).Else-n-k) (large (goal.at.gather-requires c).Else-n-k) (stored (goal.at.gather-requires c).After-put_row))

pub clear-requires : goal.clear-requires
clear-requires c =
    let e = (goal.at.clear-requires c).Else-n-k in
    let q = (goal.at.clear-requires c).After-gather in
    clear_room (asked e) (large e) (stored (goal.at.clear-requires c).After-put_row) (gathered q).0 (gathered q).1 _ (most (goal.at.clear-requires c).After-div_ceil-most)

pub sort-requires : goal.sort-requires
sort-requires c =
    let e = (goal.at.sort-requires c).Else-n-k in
    let q = (goal.at.sort-requires c).After-gather in
    sort_room (asked e) (large e) (stored (goal.at.sort-requires c).After-put_row) (gathered q).0 (gathered q).1 (most (goal.at.sort-requires c).After-div_ceil-most) c.clear.ensures

pub returns : goal.returns
returns c =
    let e = (goal.at.returns c).Else-n-k in
    let q = (goal.at.returns c).After-gather in
    let same = c.gather.ensures.later.same.list in
    read (search (rules, same)) (ended (asked e) (large e) (stored (goal.at.returns c).After-put_row) (gathered q).0 (gathered q).1 (most (goal.at.returns c).After-div_ceil-most) c.clear.ensures c.sort.ensures)
