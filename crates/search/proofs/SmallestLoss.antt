-- The smallest losses that part p, where p is safe at their size c. Each station j of such a loss has a link to every island that the loss leaves:
-- else the loss without j would part p as well. So where some stations are taken already, the search around j in p without the taken ones decides
-- whether a smallest loss has j and the taken ones.
use mathlib.Core.Path.{◌≡◌, refl, sym, ◌∙◌, ap, subst}
use mathlib.Core.Logic.{◌⊎◌, inl, inr}
use mathlib.Core.Bool.{true, false}
use Prim.Native.Nat.{ℕ, ◌+◌, ◌<◌}
use native.Mathlib.Omega.{arith}
use native.Mathlib.Decide.{dec_lt}
use Rattle.stations.specs.Sets.{Set, ◌is_in◌, ◌not_in◌, ◌part_of◌, only, ◌without◌, ◌cut◌, ◌joined◌, Below, size}
use Rattle.mesh.specs.Mesh.{Links, Mesh, Whole}
use Rattle.search.specs.Losses.{Loss, WeakLoss, Smallest, Safe, Toward, Around}
use Rattle.stations.proofs.Bools.{test, never, and_in, or_left, or_right}
use Rattle.stations.proofs.Members.{of_without, in_without, same_set, is_only}
use Rattle.stations.proofs.Counting.{size_minus_one, size_minus, size_disjoint}
use Rattle.mesh.proofs.Chains.{touch_sub, touch_end}
use Rattle.search.proofs.Arrival.{last_link}
use Rattle.search.proofs.Parts.{joined_part, without_twice}

pub smallest_part : {L : Links} {n : ℕ} {may : Set} {c : ℕ} {p : Set} (q : Set) → Smallest L n may c p q → q part_of p
smallest_part q w = w.weak.loss.part

pub smallest_size : {L : Links} {n : ℕ} {may : Set} {c : ℕ} {p : Set} (q : Set) → Smallest L n may c p q → size n q ≡ c
smallest_size q w = w.count

-- each station of a loss has a link to every island that it leaves, where no smaller loss parts P
pub around : (L : Links) (n : ℕ) (may : Set) (l : ℕ) (P S : Set) (j : ℕ) → Mesh L → Below n P → Safe L n may l P
    → Loss n may (l + 1) P S → j is_in S → Around L n may (l + 1) P j S
around L n may l P S j m pn safe o js = record { loss = o; mine = js; toward = toward }
  where
    T : Set
    T = S without only j

    smaller : Loss n may l P T
    smaller = record {
      part = λ x g. o.part x (of_without S (only j) x g).0;
      free = λ x g. o.free x (of_without S (only j) x g).0;
      few = omega (arith, o.few, size_minus_one n S j (pn j (o.part j js)) js);
    }

    jT : j not_in T
    jT = rw (js, is_only j) refl

    rest : (P without T) without only j part_of P without S
    rest x g = let a = of_without (P without T) (only j) x g in let b = of_without P T x a.0 in by (test (S x)) b.0 b.1 a.1
      where
        by : (S x ≡ true) ⊎ (S x ≡ false) → x is_in P → x not_in T → x not_in only j → x is_in P without S
        by (inl e) a b d = never (T x) (in_without S (only j) x e d) b
        by (inr e) a b d = in_without P S x a e

    toward : Toward L P (P cut L j) S
    toward x g =
        let a = of_without P S x g in
        let c = safe T smaller x j (in_without P T x a.0 (rw a.1 refl)) (in_without P T j (o.part j js) jT) in
        let (w, i, d) = last_link L (P without T) j c (λ e. never (S j) js (rw e at a.1)) in
        (w, and_in (P w) (L j w) (of_without P S w (rest w (touch_end d))).0 (m.both w j i), touch_sub rest d)

-- taken are stations of smallest losses, and `left` more are to be taken
module _ {L : Links} {n : ℕ} {may : Set} {c : ℕ} {p taken : Set} (left : ℕ) (tp : taken part_of p) (tm : taken part_of may) (count : size n taken + left ≡ c) (safe : Safe L n may c p) where
  -- a loss of p without the taken ones, with the taken ones
  more_loss : (l : ℕ) (S : Set) → Loss n may l (p without taken) S → Loss n may (size n taken + l) p (S joined taken)
  more_loss l S o = record {
    part = joined_part S taken p (λ x g. (of_without p taken x (o.part x g)).0) tp;
    free = joined_part S taken may o.free tm;
    few = omega (arith, o.few, size_disjoint n S taken (λ x g. (of_without p taken x (o.part x g)).1));
  }

  pub safe_rest : Safe L n may left (p without taken)
  safe_rest S o = subst (Whole L) (sym (without_twice p S taken)) (safe (S joined taken) (rw count at (more_loss left S o)))

  -- the search around j found S: it is the next witness, with the taken ones
  pub witness_next : (S : Set) → WeakLoss L n may (left + 1) (p without taken) S → Smallest L n may c p (S joined taken)
  witness_next S w = record { weak = record { loss = record { part = o.part; free = o.free; few = omega (arith, e) }; parts = parts }; count = e }
    where
      o : Loss n may (size n taken + (left + 1)) p (S joined taken)
      o = more_loss (left + 1) S w.loss

      parts : ¬ Whole L (p without (S joined taken))
      parts = subst (λ (t : Set). ¬ Whole L t) (without_twice p S taken) w.parts

      e : size n (S joined taken) ≡ c
      e = go (dec_lt (size n (S joined taken)) c)
        where
          go : Dec (size n (S joined taken) < c) → size n (S joined taken) ≡ c
          go (yes d) = absurd (parts (safe (S joined taken) (record { part = o.part; free = o.free; few = d })))
          go (no d) = omega (arith, o.few, count)

  -- the search around j found nothing: no smallest loss has j and the taken ones
  pub none_around : (j : ℕ) → Mesh L → Below n p → j not_in taken
      → ((S : Set) → Around L n may (left + 1) (p without taken) j S → Whole L ((p without taken) without S)) → (q : Set) → Smallest L n may c p q → taken part_of q → j is_in q → ⊥
  none_around j m pn jr none q w sub jq = w.weak.parts (subst (Whole L) same (none S (around L n may left (p without taken) S j m below safe_rest o jS)))
    where
      S : Set
      S = q without taken

      below : Below n (p without taken)
      below x g = pn x (of_without p taken x g).0

      o : Loss n may (left + 1) (p without taken) S
      o = record {
        part = λ x g. let a = of_without q taken x g in in_without p taken x (w.weak.loss.part x a.0) a.1;
        free = λ x g. w.weak.loss.free x (of_without q taken x g).0;
        few = omega (arith, size_minus n q taken sub, w.count, count);
      }

      jS : j is_in S
      jS = in_without q taken j jq jr

      both : S joined taken ≡ q
      both = same_set (S joined taken) q (joined_part S taken q (λ x g. (of_without q taken x g).0) sub) (λ x g. on x g (test (taken x)))
        where
          on : (x : ℕ) → x is_in q → (taken x ≡ true) ⊎ (taken x ≡ false) → x is_in S joined taken
          on x g (inl a) = or_right (S x) (taken x) a
          on x g (inr a) = or_left (S x) (taken x) (in_without q taken x g a)

      same : (p without taken) without S ≡ p without q
      same = without_twice p S taken ∙ ap (λ (t : Set). p without t) both
