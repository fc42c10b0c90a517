-- The bytes say which serials and which table, and these say which bytes.
-- Words with the same bits are the same words; numbers of 16 and 32 bits that are the same have the same bytes.
use mathlib.Core.Bool.{true}
use mathlib.Core.List.{List}
use mathlib.Core.Path.{◌≡◌, sym, ap, ◌∙◌, subst}
use Prim.Native.Nat.{ℕ, ◌+◌, ◌-◌, ◌*◌, ◌/◌, ◌%◌, ◌<◌}
use native.Mathlib.Decide.{dec_lt}
use native.Mathlib.Omega.{arith}
use lib.ListN.{length, get_or}
use lib.Seq.{ext_get_or}
use Rattle.stations.specs.Words.{bit}
use Rattle.stations.proofs.Bools.{never, same_bool}
use Rattle.stations.proofs.Bit.{bit_ext}
use Rattle.stations.proofs.Counting.{nth}
use Rattle.stations.proofs.Laws.{four, row_word}
use Rattle.mesh.specs.Table.{linked, Table}
use Rattle.records.specs.Bytes.{short, long, Octets, Words}
use Rattle.records.specs.Survey.{low, high, Survey, links}
use Rattle.records.proofs.Fields.{short_bytes, long_shorts}
use Rattle.survey.proofs.Ranks.{links_counted, survey_laid}

-- ---- the same links, the same table
one_way : (n n' : ℕ) (t t' : List ℕ) → Table n t → Table n' t' → ((a b : ℕ) → a < b → linked t a b ≡ true → linked t' a b ≡ true) → (a b : ℕ) → linked t a b ≡ true → linked t' a b ≡ true
one_way n n' t t' T T' up a b h = go (dec_lt a b) (dec_lt b a)
  where
    go : Dec (a < b) → Dec (b < a) → linked t' a b ≡ true
    go (yes l) q = up a b l h
    go (no l) (yes q) = T'.both b a (up b a q (T.both a b h))
    go (no l) (no q) = let e : a ≡ b = omega arith in never (linked t a b) h (ap (λ (x : ℕ). linked t x b) e ∙ T.apart b)

table_by : (n : ℕ) (t t' : List ℕ) → Table n t → Table n t' → Words t → Words t' → ((a b : ℕ) → linked t a b ≡ linked t' a b) → t ≡ t'
table_by n t t' T T' w w' e = ext_get_or 0 t t' (T.long ∙ sym T'.long) (λ i l. bit_ext 64 (get_or t i 0) (get_or t' i 0) (w i) (w' i) (λ k h. sym (at t i k h) ∙ e (i / 4) (i % 4 * 64 + k) ∙ at t' i k h))
  where
    at : (u : List ℕ) (i k : ℕ) → k < 64 → linked u (i / 4) (i % 4 * 64 + k) ≡ bit (get_or u i 0) k
    at u i k h =
        let p : i / 4 * 4 + (i % 4 * 64 + k) / 64 ≡ i = omega arith in
        let q : (i % 4 * 64 + k) % 64 ≡ k = omega arith in
        row_word u (i / 4) (i % 4 * 64 + k) (omega arith) ∙ mathlib.Core.Path.ap₂ (λ (x y : ℕ). bit (get_or u x 0) y) p q

module _ {v n m v' n' m' : ℕ} {s t s' t' bs : List ℕ} (Y : Survey v n m s t bs) (Z : Survey v' n' m' s' t' bs) where
  pub same_version : v ≡ v'
  same_version = Y.one ∙ sym Z.one

  pub same_stations : n ≡ n'
  same_stations = sym Y.frame.stations_are ∙ Z.frame.stations_are

  pub same_records : m ≡ m'
  same_records = sym Y.frame.records_are ∙ Z.frame.records_are

  pub same_serials : s ≡ s'
  same_serials = ext_get_or 0 s s' (Y.all_serials ∙ same_stations ∙ sym Z.all_serials) (λ i l. let h = Y.all_serials in let e = same_stations in sym (Y.serial_is i (omega arith)) ∙ Z.serial_is i (omega arith))

-- a link of the one table is a link of the other: its record is
linked_too : {v n m v' m' : ℕ} {s t s' t' bs : List ℕ} → Survey v n m s t bs → Survey v' n m' s' t' bs → (a b : ℕ) → a < b → linked t a b ≡ true → linked t' a b ≡ true
linked_too {n = n} {t' = t'} {bs = bs} Y Z a b l h =
    let (j, k, p, q) = Y.linked_record a b l h in
    let e = same_records Y Z in
    subst (λ (x : ℕ). linked t' x b ≡ true) p (subst (λ (x : ℕ). linked t' (low 4 n bs j) x ≡ true) q (Z.record_linked j (omega arith)))

same_table_at : {v n m v' m' : ℕ} {s t s' t' bs : List ℕ} → Survey v n m s t bs → Survey v' n m' s' t' bs → t ≡ t'
same_table_at {n = n} {t = t} {t' = t'} Y Z =
    table_by n t t' Y.accepted Z.accepted Y.words Z.words
    (λ a b. same_bool (linked t a b) (linked t' a b) (one_way n n t t' Y.accepted Z.accepted (linked_too Y Z) a b) (one_way n n t' t Z.accepted Y.accepted (linked_too Z Y) a b))

-- the bytes say which table
pub same_table : {v n m v' n' m' : ℕ} {s t s' t' bs : List ℕ} → Survey v n m s t bs → Survey v' n' m' s' t' bs → t ≡ t'
same_table {v' = v'} {m' = m'} {s' = s'} {t' = t'} {bs = bs} Y Z = same_table_at Y (subst (λ (k : ℕ). Survey v' k m' s' t' bs) (sym (same_stations Y Z)) Z)

-- ---- the same numbers, the same bytes
module _ (bs bs' : List ℕ) (o : Octets bs) (o' : Octets bs') where
  -- the four bytes of two numbers of 16 bits
  by_shorts : (p : ℕ) → short bs p ≡ short bs' p → short bs (p + 2) ≡ short bs' (p + 2) → (r : ℕ) → r < 4 → get_or bs (p + r) 0 ≡ get_or bs' (p + r) 0
  by_shorts p e f =
      let (x, y) = short_bytes bs bs' p o o' e in
      let (z, w) = short_bytes bs bs' (p + 2) o o' f in
      four (λ (r : ℕ). get_or bs (p + r) 0 ≡ get_or bs' (p + r) 0) (subst (λ (k : ℕ). get_or bs k 0 ≡ get_or bs' k 0) (omega arith) x) y z (subst (λ (k : ℕ). get_or bs k 0 ≡ get_or bs' k 0) (omega arith) w)

  -- and of one of 32
  by_long : (p : ℕ) → long bs p ≡ long bs' p → (r : ℕ) → r < 4 → get_or bs (p + r) 0 ≡ get_or bs' (p + r) 0
  by_long p e = by_shorts p (long_shorts bs bs' p o o' e).0 (long_shorts bs bs' p o o' e).1

module _ {v n m v' m' : ℕ} {s t bs bs' : List ℕ} (Y : Survey v n m s t bs) (Z : Survey v' n m' s t bs') where
  abbrev o : Octets bs
  o = Y.frame.octets

  abbrev o' : Octets bs'
  o' = Z.frame.octets

  pub same_count : m ≡ m'
  same_count = sym (links_counted Y) ∙ links_counted Z

  -- the head: the mark, the version and the two counts
  head : (i : ℕ) → i < 9 → get_or bs i 0 ≡ get_or bs' i 0
  head i l = go i l (dec_lt i 4) (dec_lt i 8)
    where
      one : (get_or bs 3 0 ≡ get_or bs' 3 0) × (get_or bs 4 0 ≡ get_or bs' 4 0)
      one = short_bytes bs bs' 3 o o' (Y.frame.version_is ∙ Y.one ∙ sym (Z.frame.version_is ∙ Z.one))

      two : (get_or bs 5 0 ≡ get_or bs' 5 0) × (get_or bs 6 0 ≡ get_or bs' 6 0)
      two = short_bytes bs bs' 5 o o' (Y.frame.stations_are ∙ sym Z.frame.stations_are)

      three : (get_or bs 7 0 ≡ get_or bs' 7 0) × (get_or bs 8 0 ≡ get_or bs' 8 0)
      three = short_bytes bs bs' 7 o o' (Y.frame.records_are ∙ same_count ∙ sym Z.frame.records_are)

      go : (i : ℕ) → i < 9 → Dec (i < 4) → Dec (i < 8) → get_or bs i 0 ≡ get_or bs' i 0
      go i l (yes h) q =
          four (λ (k : ℕ). get_or bs k 0 ≡ get_or bs' k 0) (Y.frame.mark.0 ∙ sym Z.frame.mark.0) (Y.frame.mark.1 ∙ sym Z.frame.mark.1) (Y.frame.mark.2 ∙ sym Z.frame.mark.2) one.0 i h
      go i l (no h) (yes q) =
          subst (λ (k : ℕ). get_or bs k 0 ≡ get_or bs' k 0) (omega arith)
          (four (λ (k : ℕ). get_or bs (4 + k) 0 ≡ get_or bs' (4 + k) 0) one.1 two.0 two.1 three.0 (i - 4) (omega arith))
      go i l (no h) (no q) = subst (λ (k : ℕ). get_or bs k 0 ≡ get_or bs' k 0) (omega arith) three.1

  -- record j of both is the link with j links below it
  records_same : (j : ℕ) → j < m → (low 4 n bs j ≡ low 4 n bs' j) × (high 4 n bs j ≡ high 4 n bs' j)
  records_same j l =
      let c = links_counted Y in
      let (x, h, i, e) = nth (n * 256) (links t) j (omega arith) in
      let (p, q) = survey_laid Y x h i in
      let (p', q') = survey_laid Z x h i in (
        subst (λ (k : ℕ). short bs (9 + n * 4 + k * 4) ≡ short bs' (9 + n * 4 + k * 4)) e (p ∙ sym p'),
        subst (λ (k : ℕ). short bs (9 + n * 4 + k * 4 + 2) ≡ short bs' (9 + n * 4 + k * 4 + 2)) e (q ∙ sym q'),
      )

  -- the serials and the table say which bytes
  pub same_bytes : bs ≡ bs'
  same_bytes = ext_get_or 0 bs bs' (Y.frame.whole ∙ ap (λ (k : ℕ). 9 + n * 4 + k * 4) same_count ∙ sym Z.frame.whole) (λ i l. go i l (dec_lt i 9) (dec_lt i (9 + n * 4)))
    where
      at : (p r i : ℕ) → p + r ≡ i → get_or bs (p + r) 0 ≡ get_or bs' (p + r) 0 → get_or bs i 0 ≡ get_or bs' i 0
      at p r i e h = subst (λ (k : ℕ). get_or bs k 0 ≡ get_or bs' k 0) e h

      in_serials : (i q r : ℕ) → 9 + q * 4 + r ≡ i → q < n → r < 4 → get_or bs i 0 ≡ get_or bs' i 0
      in_serials i q r e l h = at (9 + q * 4) r i e (by_long bs bs' o o' (9 + q * 4) (Y.serial_is q l ∙ sym (Z.serial_is q l)) r h)

      in_records : (i j r : ℕ) → 9 + n * 4 + j * 4 + r ≡ i → j < m → r < 4 → get_or bs i 0 ≡ get_or bs' i 0
      in_records i j r e l h = at (9 + n * 4 + j * 4) r i e (by_shorts bs bs' o o' (9 + n * 4 + j * 4) (records_same j l).0 (records_same j l).1 r h)

      go : (i : ℕ) → i < length bs → Dec (i < 9) → Dec (i < 9 + n * 4) → get_or bs i 0 ≡ get_or bs' i 0
      go i l (yes h) q = head i h
      go i l (no h) (yes q) = in_serials i ((i - 9) / 4) ((i - 9) % 4) (omega arith) (omega arith) (omega arith)
      go i l (no h) (no q) = let w = Y.frame.whole in in_records i ((i - (9 + n * 4)) / 4) ((i - (9 + n * 4)) % 4) (omega arith) (omega arith) (omega arith)
