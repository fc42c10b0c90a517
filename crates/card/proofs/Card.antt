-- The laws of the card: there is one first failing test, tests follow one another, and where none fails each passed.
use mathlib.Core.Bool.{cond}
use mathlib.Core.List.{List, [], ◌∷◌, ◌++◌}
use mathlib.Core.Logic.{inl, inr}
use mathlib.Core.Path.{◌≡◌, refl, sym, ap, ◌∙◌}
use Prim.Native.Nat.{ℕ, ◌*◌, ◌<◌, ◌≤◌}
use native.Mathlib.Omega.{arith}
use native.Mathlib.Decide.{ℕ_discrete}
use lib.Dec.{eqb}
use lib.ListN.{length}
use Rattle.stations.proofs.Bools.{never}
use Rattle.std.specs.Prelude.{Result, Ok, Err}
use Rattle.std.specs.Result.{IsErrAnd, result_and}
use Rattle.mesh.specs.Table.{linked, Table, Fault, self_link, one_sided, from_n_up}
use Rattle.mesh.proofs.NeverMore.{never_more}
use Rattle.card.specs.declared.Refusal.{Refusal}
use Rattle.card.specs.declared.Refusal.TheVariants.{Level, Stations, TableLength, ListRoom, Set, Station, Mark, Version, Count, Length, Serial, Link, Room, Rows}
use Rattle.card.specs.Card.{number, number_of, Test, FirstFailing, LEVEL, table_order, ROWS}
use Rattle.card.proofs.TableTest.{accepted}

-- two numbers that are both that of the first failing test are the same
pub first_one : (ts : List Test) (r r' : ℕ) → FirstFailing ts r → FirstFailing ts r' → r ≡ r'
first_one [] r r' p q = p ∙ sym q
first_one (t ∷ ts) r r' (inl p) (inl q) = p.1 ∙ sym q.1
first_one (t ∷ ts) r r' (inl p) (inr q) = absurd (q.0 p.0)
first_one (t ∷ ts) r r' (inr p) (inl q) = absurd (p.0 q.0)
first_one (t ∷ ts) r r' (inr p) (inr q) = first_one ts r r' p.1 q.1

-- each test has a number of the card, so 0 says that none fails
abbrev pub Numbered : List Test → Type 0
Numbered [] = Unit {0}
Numbered (t ∷ ts) = (0 < t.refusal) × Numbered ts

abbrev pub Passes : List Test → Type 0
Passes [] = Unit {0}
Passes (t ∷ ts) = (¬ t.fails) × Passes ts

pub none_fails : (ts : List Test) → Numbered ts → FirstFailing ts 0 → Passes ts
none_fails [] m p = tt
none_fails (t ∷ ts) m (inl p) = absurd (omega (arith, m.0, p.1))
none_fails (t ∷ ts) m (inr p) = (p.0, none_fails ts m.1 p.1)

pub passes_none : (ts : List Test) → Passes ts → FirstFailing ts 0
passes_none [] p = refl
passes_none (t ∷ ts) p = inr (p.0, passes_none ts p.1)

-- where every test passes, no number but 0 is given
pub none_given : (ts : List Test) (r : ℕ) → FirstFailing ts r → Passes ts → r ≡ 0
none_given ts r f p = first_one ts r 0 f (passes_none ts p)

-- none of the first list fails, so the later ones decide
pub first_go : (ts us : List Test) (a : ℕ) → Numbered ts → FirstFailing ts 0 → FirstFailing us a → FirstFailing (ts ++ us) a
first_go [] us a m p q = q
first_go (t ∷ ts) us a m (inl p) q = absurd (omega (arith, m.0, p.1))
first_go (t ∷ ts) us a m (inr p) q = inr (p.0, first_go ts us a m.1 p.1 q)

-- the refusal of a number, and so a number of the card is that of one refusal only
refusal_of : ℕ → Refusal
refusal_of n =
    cond (eqb n 1) Level (cond (eqb n 2) Stations (cond (eqb n 3) TableLength (cond (eqb n 4) Refusal.Table (cond (eqb n 5) ListRoom (cond (eqb n 6) Set (cond (eqb n 7) Station (cond (eqb n 8) Mark (cond (eqb n 9) Version (cond (eqb n 10) Count (cond (eqb n 11) Length (cond (eqb n 12) Serial (cond (eqb n 13) Link (cond (eqb n 14) Room Rows)))))))))))))

refusal_back : (r : Refusal) → refusal_of (number r) ≡ r
unfolding refusal_of
refusal_back Level = refl
refusal_back Stations = refl
refusal_back TableLength = refl
refusal_back Refusal.Table = refl
refusal_back ListRoom = refl
refusal_back Set = refl
refusal_back Station = refl
refusal_back Mark = refl
refusal_back Version = refl
refusal_back Count = refl
refusal_back Length = refl
refusal_back Serial = refl
refusal_back Link = refl
refusal_back Room = refl
refusal_back Rows = refl

pub refusal_one : (r r' : Refusal) → number r ≡ number r' → r ≡ r'
refusal_one r r' e = sym (refusal_back r) ∙ ap refusal_of e ∙ refusal_back r'

-- a refusal's number is above 0
pub number_above : (r : Refusal) → number r ≡ 0 → ⊥
number_above Level e = omega arith
number_above Stations e = omega arith
number_above TableLength e = omega arith
number_above Refusal.Table e = omega arith
number_above ListRoom e = omega arith
number_above Set e = omega arith
number_above Station e = omega arith
number_above Mark e = omega arith
number_above Version e = omega arith
number_above Count e = omega arith
number_above Length e = omega arith
number_above Serial e = omega arith
number_above Link e = omega arith
number_above Room e = omega arith
number_above Rows e = omega arith

-- a test of the first list refuses, so the later ones do not count
pub first_stop : (ts us : List Test) (r : Refusal) → FirstFailing ts (number r) → FirstFailing (ts ++ us) (number r)
first_stop [] us r p = absurd (number_above r p)
first_stop (t ∷ ts) us r (inl p) = inl p
first_stop (t ∷ ts) us r (inr p) = inr (p.0, first_stop ts us r p.1)

-- the exit of a `?`: the reply is the refusal of the tests ts
pub first_exit : {A : Type 0} (ts us : List Test) (reply : Result A Refusal) (r : Refusal) → IsErrAnd reply (λ e. e ≡ r) → FirstFailing ts (number r)
    → FirstFailing (ts ++ us) (number_of reply)
first_exit ts us (Ok x) r i f = elim i [ ]
first_exit ts us (Err e) r i f = first_stop ts us e (rw i f)

-- what is returned there
pub exit_is : {A : Type 0} (reply : Result A Refusal) (r : Refusal) → IsErrAnd reply (λ e. e ≡ r) → reply ≡ Err r
exit_is (Ok x) r i = elim i [ ]
exit_is (Err e) r i = ap Err i

-- what `and` makes of two tests
pub first_and : {A B : Type 0} (ts us : List Test) (a : Result A Refusal) (b : Result B Refusal) → Numbered ts → FirstFailing ts (number_of a) → FirstFailing us (number_of b)
    → FirstFailing (ts ++ us) (number_of (result_and a b))
first_and ts us (Ok x) b m p q = first_go ts us (number_of b) m p q
first_and ts us (Err r) b m p q = first_stop ts us r p

-- the tests of a table are numbered, and a table that passes them is an accepted one
pub table_numbered : (n : ℕ) (t : List ℕ) → Numbered (table_order n t)
table_numbered n t = (omega arith, (omega arith, (omega arith, tt)))

-- a question of its own tests us after the table's: none fails, so the table is accepted and each of us passed
pub table_passed : (n : ℕ) (t : List ℕ) (us : List Test) → Numbered us → FirstFailing (table_order n t ++ us) 0 → Table n t × Passes us
table_passed n t us m f = go (none_fails (table_order n t ++ us) (omega arith, (omega arith, (omega arith, m))) f)
  where
    long : ¬ ¬ (length t ≡ n * 4) → Dec (length t ≡ n * 4) → length t ≡ n * 4
    long h (yes e) = e
    long h (no d) = absurd (h d)

    go : Passes (table_order n t ++ us) → Table n t × Passes us
    go (few, (h, (fault, rest))) = (accepted n t (omega arith) (long h (ℕ_discrete (length t) (n * 4))) fault, rest)

-- and an accepted table passes them; a level from 1 to 16 passes its test
pub table_passes : (n : ℕ) (t : List ℕ) (us : List Test) → Table n t → Passes us → Passes (table_order n t ++ us)
table_passes n t us T p = (λ x. omega (arith, T.few), (λ x. x T.long, (faultless, p)))
  where
    faultless : ¬ Fault n t
    faultless (self_link a l e) = never (linked t a a) e (T.apart a)
    faultless (one_sided a b l m e o) = never (linked t b a) (T.both a b e) o
    faultless (from_n_up a b l g e) = omega (arith, T.below a b e)

pub level_passes : (k : ℕ) → 1 ≤ k → k ≤ 16 → ¬ (LEVEL k).fails
level_passes k a b (inl x) = omega arith
level_passes k a b (inr x) = omega arith

-- ---- 15 is never given
pub rows_pass : (n : ℕ) (t : List ℕ) (k : ℕ) → ¬ (ROWS n t k).fails
rows_pass n t k (Ps, d, l) = omega (arith, never_more (linked t) n k Ps d)
