-- The loop over the words of a row, and in it the loop over the set bits of a word, lowest first, that list the stations of the row: `past` is the
-- place up to which the bits of the word are listed, and w has the others.
use mathlib.Core.Bool.{true, false, not}
use mathlib.Core.List.{List}
use mathlib.Core.Path.{◌≡◌, refl, sym, ap, subst, ◌∙◌}
use Prim.Native.Nat.{ℕ, suc, ◌+◌, ◌-◌, ◌*◌, ◌<◌, ◌≤◌}
use native.Mathlib.Decide.{dec_lt, ℕ_discrete}
use native.Mathlib.Omega.{arith}
use lib.Dec.{eqb}
use lib.ListN.{length, get_or}
use borrow.Author.Tests.{ne_eqb, eq-eqb}
use Rattle.stations.specs.Sets.{size}
use Rattle.stations.specs.Words.{bit, has}
use Rattle.stations.specs.Answers.{BitTaken}
use Rattle.stations.proofs.Bools.{never, and_left, and_right, and_in, not_true, not_so}
use Rattle.stations.proofs.Counting.{size-add, size_ext}
use Rattle.card.proofs.TableTest.{word_station}
use Rattle.records.specs.Bytes.{short, Kept}
use Rattle.writer.specs.Steps.{Put}
use Rattle.writer.proofs.Listing.{rank_less, put_none, put_skip, put_one, put_join, put_same}

-- ---- the bits of a word
pub record Walking (word w a base at place : ℕ) (bs bs' : List ℕ) : Type 0 where
  pub past : ℕ
  pub small : past ≤ 64
  pub mine : (k : ℕ) → bit w k ≡ true → bit word k ≡ true
  pub from : (k : ℕ) → bit w k ≡ true → past ≤ k
  pub others : (k : ℕ) → past ≤ k → bit word k ≡ true → bit w k ≡ true
  pub put : Put past (bit word) (λ k. a) (λ k. base + k) at place bs bs'

pub walking_none : (word a base at : ℕ) (bs : List ℕ) → Walking word word a base at at bs bs
walking_none word a base at bs = record {
  past = 0;
  small = omega arith;
  mine = λ k e. e;
  from = λ k e. omega arith;
  others = λ k m e. e;
  put = put_none (bit word) (λ k. a) (λ k. base + k) at bs;
}

module _ {word w a base at place : ℕ} {bs bs' : List ℕ} (G : Walking word w a base at place bs bs') where
  -- all bits are past
  pub walking_all : ((k : ℕ) → bit w k ≡ false) → Put 64 (bit word) (λ k. a) (λ k. base + k) at place bs bs'
  walking_all z = put_skip G.put 64 G.small (λ k m l. not_so (bit word k) (λ e. never (bit w k) (G.others k m e) (z k)))

  module _ {low w' : ℕ} (p : BitTaken w low w') where
    -- what is listed up to the next bit
    up_to : Put low (bit word) (λ k. a) (λ k. base + k) at place bs bs'
    up_to = put_skip G.put low (G.from low p.mine) (λ k m l. not_so (bit word k) (λ e. never (bit w k) (G.others k m e) (p.below k l)))

    pub walking_room : at + size 64 (bit word) * 4 ≤ length bs → place + 4 ≤ length bs'
    walking_room r = omega (arith, up_to.next, up_to.kept.whole, rank_less 64 (bit word) low p.small (G.mine low p.mine))

    pub walking_more : {bs'' : List ℕ} → Kept place bs' bs'' → short bs'' place ≡ a → short bs'' (place + 2) ≡ base + low
        → Walking word w' a base at (place + 4) bs bs''
    walking_more K e f = record {
      past = suc low;
      small = p.small;
      mine = λ k h. G.mine k (was k h);
      from = λ k h. beyond k (was k h) (and_right (bit w k) (not (eqb k low)) (sym (p.rest k) ∙ h)) (dec_lt k low) (ℕ_discrete k low);
      others = λ k m h.
          p.rest k ∙ and_in (bit w k) (not (eqb k low)) (G.others k (omega (arith, G.from low p.mine)) h) (ap not (ne_eqb k low (λ q. omega arith)));
      put = put_one up_to (G.mine low p.mine) K e f;
    }
      where
        was : (k : ℕ) → bit w' k ≡ true → bit w k ≡ true
        was k h = and_left (bit w k) (not (eqb k low)) (sym (p.rest k) ∙ h)

        beyond : (k : ℕ) → bit w k ≡ true → not (eqb k low) ≡ true → Dec (k < low) → Dec (k ≡ low) → suc low ≤ k
        beyond k h o (yes l) d = never (bit w k) h (p.below k l)
        beyond k h o (no l) (yes q) = never (eqb k low) (eq-eqb k low q) (not_true (eqb k low) o)
        beyond k h o (no l) (no q) = omega arith

-- ---- the words of a row
-- the first i of them are listed
pub record Listed (ws : List ℕ) (i a at place : ℕ) (bs bs' : List ℕ) : Type 0 where
  pub few : i ≤ 4
  pub put : Put (i * 64) (has ws) (λ b. a) (λ b. b) at place bs bs'

pub listed_none : (ws : List ℕ) (a at : ℕ) (bs : List ℕ) → Listed ws 0 a at at bs bs
listed_none ws a at bs = record { few = omega arith; put = put_none (has ws) (λ b. a) (λ b. b) at bs }

module _ {ws : List ℕ} {i a at place : ℕ} {bs bs' : List ℕ} (P : Listed ws i a at place bs bs') where
  pub listed_all : 4 ≤ i → Put 256 (has ws) (λ b. a) (λ b. b) at place bs bs'
  listed_all l = let e : i * 64 ≡ 256 = omega (arith, P.few) in
      subst (λ (N : ℕ). Put N (has ws) (λ b. a) (λ b. b) at place bs bs') e P.put

  -- the room for the row has room for the next word
  pub word_room : i < 4 → at + size 256 (has ws) * 4 ≤ length bs → place + size 64 (bit (get_or ws i 0)) * 4 ≤ length bs'
  word_room l r =
      let rest : ℕ = 256 - (i * 64 + 64) in
      let e : i * 64 + 64 + rest ≡ 256 = omega arith in
      omega (
        arith,
        ap (λ (N : ℕ). size N (has ws)) e,
        size-add (i * 64) 64 (has ws),
        size-add (i * 64 + 64) rest (has ws),
        size_ext 64 (λ x. has ws (i * 64 + x)) (bit (get_or ws i 0)) (word_station ws i),
        P.put.next,
        P.put.kept.whole,
      )

  pub listed_more : {r : ℕ} {bs'' : List ℕ} → i < 4 → Put 64 (bit (get_or ws i 0)) (λ k. a) (λ k. i * 64 + k) place r bs' bs''
      → Listed ws (i + 1) a at r bs bs''
  listed_more {r} {bs''} l Q = record {
    few = omega arith;
    put = let e : i * 64 + 64 ≡ (i + 1) * 64 = omega arith in
        subst (λ (N : ℕ). Put N (has ws) (λ b. a) (λ b. b) at r bs bs'') e
        (put_join P.put 64
        (put_same Q (λ x. has ws (i * 64 + x)) (λ x. a) (λ x. i * 64 + x) (λ x h. sym (word_station ws i x h)) (λ x h. refl) (λ x h. refl)));
  }
