-- A whole file: the head, the serials and the links stand in the buffer, and then the buffer is the survey.
-- Record j is the link with j links below it (nth); records rise because their ranks do.
use mathlib.Core.Bool.{true, ◌&&◌}
use mathlib.Core.List.{List, [], ◌∷◌, ◌++◌}
use mathlib.Core.Logic.{inl, inr}
use mathlib.Core.Path.{◌≡◌, refl, sym, ap, ◌∙◌, subst, subst₂}
use Prim.Native.Nat.{ℕ, suc, ◌+◌, ◌*◌, ◌/◌, ◌%◌, ◌<◌, ◌≤◌}
use native.Mathlib.Decide.{dec_lt, ℕ_discrete}
use native.Mathlib.Omega.{arith}
use lib.Dec.{ltb}
use lib.ListN.{length, get_or, drop}
use Rattle.std.proofs.Common.{length-drop}
use borrow.Author.Tests.{ltb-true, lt-ltb}
use Rattle.stations.specs.Sets.{◌is_in◌, size}
use Rattle.stations.proofs.Bools.{and_left, and_right, and_in}
use Rattle.stations.proofs.Counting.{nth}
use Rattle.mesh.specs.Table.{linked, Table}
use Rattle.records.specs.Bytes.{short, long, Octets, Words, Kept}
use Rattle.records.specs.Survey.{Mark, Serials, serial, low, high, After, Pairs, Survey, links, link_count}
use Rattle.records.proofs.Fields.{kept_trans, short_kept, long_kept}
use Rattle.writer.specs.Steps.{Laid, HeadPut, SerialsPut, LinksPut, FilePut}
use Rattle.writer.proofs.Listing.{rank_less}

-- ---- the head
-- the three letters and what is behind them
abbrev pub marked : List ℕ → List ℕ
marked bs = (82 ∷ 76 ∷ 77 ∷ []) ++ drop 3 bs

mark_kept : {at : ℕ} {bs bs' : List ℕ} → Kept at bs bs' → 3 ≤ at → Mark bs → Mark bs'
mark_kept K l (p, q, r) = (K.same 0 (omega arith) ∙ p, K.same 1 (omega arith) ∙ q, K.same 2 (omega arith) ∙ r)

pub head_put : (n m : ℕ) {bs letters b₁ b₂ b₃ : List ℕ} → 9 ≤ length bs → letters ≡ 82 ∷ 76 ∷ 77 ∷ [] → Kept 3 (letters ++ drop 3 bs) b₁ → short b₁ 3 ≡ 1
    → Kept 5 b₁ b₂ → short b₂ 5 ≡ n → Kept 7 b₂ b₃ → short b₃ 7 ≡ m → HeadPut n m bs b₃
head_put n m {bs} {letters} {b₁} l r J e L f M g =
    let K : Kept 3 (marked bs) b₁ = subst (λ (xs : List ℕ). Kept 3 (xs ++ drop 3 bs) b₁) r J in
    record {
      whole = M.whole ∙ L.whole ∙ K.whole ∙ omega (arith, length-drop 3 bs);
      mark = mark_kept M (omega arith) (mark_kept L (omega arith) (mark_kept K (omega arith) (refl, refl, refl)));
      one = short_kept 3 M (omega arith) ∙ short_kept 3 L (omega arith) ∙ e;
      stations_are = short_kept 5 M (omega arith) ∙ f;
      records_are = g;
    }

head_kept : {n m at : ℕ} {bs b₁ b₂ : List ℕ} → HeadPut n m bs b₁ → Kept at b₁ b₂ → 9 ≤ at → HeadPut n m bs b₂
head_kept H K l = record {
  whole = K.whole ∙ H.whole;
  mark = mark_kept K (omega arith) H.mark;
  one = short_kept 3 K (omega arith) ∙ H.one;
  stations_are = short_kept 5 K (omega arith) ∙ H.stations_are;
  records_are = short_kept 7 K (omega arith) ∙ H.records_are;
}

-- ---- the serials
pub serials_more : (i : ℕ) {serials bs b₁ b₂ : List ℕ} → SerialsPut i serials bs b₁ → Kept (9 + i * 4) b₁ b₂ → long b₂ (9 + i * 4) ≡ get_or serials i 0
    → SerialsPut (i + 1) serials bs b₂
serials_more i {serials} {bs} {b₁} {b₂} S K e = record { kept = kept_trans S.kept K (omega arith); each = λ k l. go k l (ℕ_discrete k i) }
  where
    go : (k : ℕ) → k < i + 1 → Dec (k ≡ i) → serial 4 b₂ k ≡ get_or serials k 0
    go k l (yes q) = rw q e
    go k l (no q) = long_kept (9 + k * 4) K (omega arith) ∙ S.each k (omega arith)

-- ---- the whole file
pub file_put : (n m r : ℕ) (t : List ℕ) {serials bs b₁ b₂ b₃ : List ℕ} → HeadPut n m bs b₁ → length serials ≡ n → SerialsPut (length serials) serials b₁ b₂ → LinksPut n t (9 + n * 4) r b₂ b₃ → FilePut n m serials t bs b₃
file_put n m r t H e S L = record {
  head = head_kept (head_kept H S.kept (omega arith)) L.kept (omega arith);
  serials_are = λ i l. long_kept (9 + i * 4) L.kept (omega arith) ∙ S.each i (omega arith);
  links_are = L.laid;
}

-- ---- and the survey that it is
pub link_of : (t : List ℕ) (x : ℕ) → x is_in links t → (linked t (x / 256) (x % 256) ≡ true) × (x / 256 < x % 256)
unfolding links
link_of t x h = (
  and_left (linked t (x / 256) (x % 256)) (ltb (x / 256) (x % 256)) h,
  ltb-true (x / 256) (x % 256) (and_right (linked t (x / 256) (x % 256)) (ltb (x / 256) (x % 256)) h),
)

pub of_link : (t : List ℕ) (a b : ℕ) → a < b → b < 256 → linked t a b ≡ true → (a * 256 + b) is_in links t
unfolding links
of_link t a b l h e =
    let p : (a * 256 + b) / 256 ≡ a = omega arith in
    let q : (a * 256 + b) % 256 ≡ b = omega arith in
    mathlib.Core.Path.ap₂ (λ (u v : ℕ). linked t u v && ltb u v) p q ∙ and_in (linked t a b) (ltb a b) e (lt-ltb a b l)

module _ {n : ℕ} {t : List ℕ} (bs : List ℕ) (T : Table n t) (laid : Laid (n * 256) (links t) (λ x. x / 256) (λ x. x % 256) (9 + n * 4) bs) where
  -- the record j is the link x with j links below it
  at_rank : (j : ℕ) → j < link_count n t → (x : ℕ) × (x < n * 256) × (x is_in links t) × (size x (links t) ≡ j) × (low 4 n bs j ≡ x / 256) × (high 4 n bs j ≡ x % 256)
  at_rank j l =
      let (x, h, i, e) = nth (n * 256) (links t) j l in
      let L = laid x h i in
      (x, h, i, e, subst (λ (k : ℕ). short bs (9 + n * 4 + k * 4) ≡ x / 256) e L.0, subst (λ (k : ℕ). short bs (9 + n * 4 + k * 4 + 2) ≡ x % 256) e L.1)

  after : (x y : ℕ) → x < y → After (x / 256) (x % 256) (y / 256) (y % 256)
  after x y l = go (dec_lt (x / 256) (y / 256))
    where
      go : Dec (x / 256 < y / 256) → After (x / 256) (x % 256) (y / 256) (y % 256)
      go (yes h) = inl h
      go (no h) = inr (omega arith, omega arith)

  rank_back : (x y : ℕ) → x < n * 256 → y is_in links t → size x (links t) < size y (links t) → Dec (x < y) → x < y
  rank_back x y h i l (yes m) = m
  rank_back x y h i l (no m) = absurd (down (ℕ_discrete x y))
    where
      down : Dec (x ≡ y) → ⊥
      down (yes e) = omega (arith, ap (λ (k : ℕ). size k (links t)) e)
      down (no e) = omega (arith, rank_less x (links t) y (omega arith) i)

  pairs : Pairs n (link_count n t) (low 4 n bs) (high 4 n bs)
  pairs = record {
    apart = λ j l. let (x, h, i, e, p, q) = at_rank j l in omega (arith, (link_of t x i).1);
    below = λ j l. let (x, h, i, e, p, q) = at_rank j l in omega (arith, T.below (x / 256) (x % 256) (link_of t x i).0);
    rising = λ j l. rise j l (at_rank j (omega arith)) (at_rank (suc j) l);
  }
    where
      rise : (j : ℕ) → suc j < link_count n t
          → (x : ℕ) × (x < n * 256) × (x is_in links t) × (size x (links t) ≡ j) × (low 4 n bs j ≡ x / 256) × (high 4 n bs j ≡ x % 256)
          → (y : ℕ) × (y < n * 256) × (y is_in links t) × (size y (links t) ≡ suc j) × (low 4 n bs (suc j) ≡ y / 256) × (high 4 n bs (suc j) ≡ y % 256)
          → After (low 4 n bs j) (high 4 n bs j) (low 4 n bs (suc j)) (high 4 n bs (suc j))
      rise j l (x, h, i, e, p, q) (y, h', i', e', p', q') = rw (p, q, p', q') (after x y (rank_back x y h i' (omega arith) (dec_lt x y)))

  pub survey_put : {serials b₀ : List ℕ} (m : ℕ) → link_count n t ≤ 8192 → m ≡ link_count n t → length serials ≡ n → Serials n (λ i. get_or serials i 0) → Words t → Octets bs → HeadPut n m b₀ bs
      → length bs ≡ 9 + n * 4 + m * 4 → ((i : ℕ) → i < n → serial 4 bs i ≡ get_or serials i 0) → Survey 1 n (link_count n t) serials t bs
  survey_put {serials} m most c long S w o H whole each = record {
    one = refl;
    frame = record { octets = o; mark = H.mark; version_is = H.one; stations_are = H.stations_are; records_are = H.records_are ∙ c; whole = whole ∙ ap (λ (k : ℕ). 9 + n * 4 + k * 4) c; few_records = most };
    all_serials = long;
    serial_is = each;
    serials_right = record {
      some = λ i l. subst (λ (k : ℕ). 0 < k) (sym (each i l)) (S.some i l);
      rising = λ i l. subst₂ (λ (k h : ℕ). k < h) (sym (each i (omega arith))) (sym (each (suc i) l)) (S.rising i l);
    };
    pairs_right = pairs;
    accepted = T;
    words = w;
    record_linked = λ j l. let (x, h, i, e, p, q) = at_rank j l in rw (p, q) (link_of t x i).0;
    linked_record = λ a b l h. found a b l h (T.below a b h);
  }
    where
      found : (a b : ℕ) → a < b → linked t a b ≡ true → b < n → (j : ℕ) × (j < link_count n t) × (low 4 n bs j ≡ a) × (high 4 n bs j ≡ b)
      found a b l h m =
          let i = of_link t a b l (omega (arith, T.few)) h in
          let L = laid (a * 256 + b) (omega arith) i in
          (size (a * 256 + b) (links t), rank_less (n * 256) (links t) (a * 256 + b) (omega arith) i, L.0 ∙ omega (arith, T.few), L.1 ∙ omega (arith, T.few))
