-- The links of a table as numbers a * 256 + b, row by row: those from a * 256 to a * 256 + 255 are the stations above a in the row of a.
use mathlib.Core.Bool.{◌&&◌}
use mathlib.Core.List.{List}
use mathlib.Core.Path.{◌≡◌, refl, sym, ap, ap₂, ◌∙◌, subst}
use Prim.Native.Nat.{ℕ, ◌+◌, ◌-◌, ◌*◌, ◌/◌, ◌%◌, ◌<◌, ◌≤◌}
use native.Mathlib.Omega.{arith}
use lib.Dec.{ltb}
use Rattle.stations.specs.Sets.{Set, size}
use Rattle.stations.specs.Words.{row}
use Rattle.stations.proofs.Counting.{size-add, size_ext}
use Rattle.mesh.specs.Table.{linked}
use Rattle.records.specs.Survey.{links, link_count}
use Rattle.writer.specs.Steps.{Put, LinksPut}
use Rattle.writer.proofs.Listing.{put_none, put_join, put_same}

pub links_row : (t : List ℕ) (a x : ℕ) → x < 256 → links t (a * 256 + x) ≡ (linked t a x && ltb a x)
unfolding links
links_row t a x l =
    let p : (a * 256 + x) / 256 ≡ a = omega arith in
    let q : (a * 256 + x) % 256 ≡ x = omega arith in
    ap₂ (λ (u v : ℕ). linked t u v && ltb u v) p q

-- no row yet
pub count_none : (t : List ℕ) → 0 ≡ size (0 * 256) (links t)
unfolding size
count_none t = refl

pub links_none : (t : List ℕ) (at : ℕ) (bs : List ℕ) → LinksPut 0 t at at bs bs
links_none t at bs = put_none (links t) (λ x. x / 256) (λ x. x % 256) at bs

-- one row more: counted
pub count_more : (t : List ℕ) (a m k : ℕ) (row : Set) → ((x : ℕ) → row x ≡ (linked t a x && ltb a x)) → m ≡ size (a * 256) (links t) → k ≡ size 256 row
    → m + k ≡ size ((a + 1) * 256) (links t)
count_more t a m k row law p q =
    let e : a * 256 + 256 ≡ (a + 1) * 256 = omega arith in
    omega (arith, ap (λ (i : ℕ). size i (links t)) e, size-add (a * 256) 256 (links t), size_ext 256 (λ x. links t (a * 256 + x)) row (λ x l. links_row t a x l ∙ sym (law x)))

-- the rows from a on are at most all rows
pub count_part : (t : List ℕ) (a n : ℕ) → a < n → size (a * 256) (links t) + size 256 (λ x. links t (a * 256 + x)) ≤ size (n * 256) (links t)
count_part t a n l =
    let r : ℕ = (n - (a + 1)) * 256 in
    let e : a * 256 + 256 + r ≡ n * 256 = omega arith in
    omega (arith, ap (λ (i : ℕ). size i (links t)) e, size-add (a * 256) 256 (links t), size-add (a * 256 + 256) r (links t))

-- one row more: listed
pub links_more : (t : List ℕ) (a : ℕ) {at p r : ℕ} {bs bs' bs'' : List ℕ} (row : Set) → ((x : ℕ) → row x ≡ (linked t a x && ltb a x)) → LinksPut a t at p bs bs'
    → Put 256 row (λ b. a) (λ b. b) p r bs' bs'' → LinksPut (a + 1) t at r bs bs''
links_more t a {at} {p} {r} {bs} {bs'} {bs''} row law P Q =
    let e : a * 256 + 256 ≡ (a + 1) * 256 = omega arith in
    subst (λ (i : ℕ). Put i (links t) (λ x. x / 256) (λ x. x % 256) at r bs bs'') e
    (put_join P 256
    (put_same Q (λ x. links t (a * 256 + x)) (λ x. (a * 256 + x) / 256) (λ x. (a * 256 + x) % 256)
    (λ x l. law x ∙ sym (links_row t a x l)) (λ x l. omega arith) (λ x l. omega arith)))

-- the room for all links has room for the next row
pub row_room : (t : List ℕ) (a n at p l : ℕ) (row : Set) → ((x : ℕ) → row x ≡ (linked t a x && ltb a x)) → a < n → p ≡ at + size (a * 256) (links t) * 4
    → at + link_count n t * 4 ≤ l → p + size 256 row * 4 ≤ l
row_room t a n at p l row law h e r = omega (arith, count_part t a n h, size_ext 256 (λ x. links t (a * 256 + x)) row (λ x i. links_row t a x i ∙ sym (law x)))
