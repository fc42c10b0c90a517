-- The loop of `prune`. A is what is left of the piece P; T, a part of it, the stations that this round still has to look at; G those for the next
-- round. A station with fewer than k links in A is in no set of A that holds, so A without it keeps every set that holds. The measure: with each
-- round A loses a station, or else there is no station to look at again.
use mathlib.Core.Logic.{◌⊎◌, inl, inr}
use mathlib.Core.Path.{◌≡◌, subst}
use Prim.Native.Nat.{ℕ, ◌+◌, ◌<◌, ◌≤◌}
use native.Mathlib.Omega.{arith}
use Rattle.std.proofs.Common.{min}
use Rattle.stations.specs.Sets.{Set, ◌is_in◌, ◌not_in◌, ◌part_of◌, Below, only, ◌without◌, ◌cut◌, size}
use Rattle.stations.proofs.Bools.{never, not_so}
use Rattle.stations.proofs.Members.{of_without, of_cut, of_less, in_less}
use Rattle.stations.proofs.Counting.{size_minus_one, size-sub, none_of}
use Rattle.mesh.specs.Mesh.{Links, Mesh}
use Rattle.mesh.proofs.Pruning.{prune}
use Rattle.listing.specs.Steps.{Pruned}

pub record Trimming (L : Links) (k : ℕ) (P A T : Set) : Type 0 where
  pub pruned : Pruned L k P A
  pub inside : T part_of A

-- what a round comes to: a station is taken out of A, or there is none to look at again
abbrev pub Round : Set → Set → Set → Type 0
Round A A' G = (size 256 A' < size 256 A) ⊎ ((size 256 A' ≡ size 256 A) × (size 256 G ≡ 0))

module _ {L : Links} {k : ℕ} {P A T : Set} (s : Trimming L k P A T) (v : ℕ) (in-T : v is_in T) where
  -- v is taken out
  pub trim_out : Mesh L → (K A' T' : Set) → K ≡ A cut L v → size 256 K < k → A' ≡ A without only v → T' ≡ T without only v → Trimming L k P A' T'
  trim_out m K A' T' i few e d = rw (e, d) (record {
    pruned = record {
      part = λ x h. s.pruned.part x (of_without A (only v) x h).0;
      keeps = λ H h p. prune L 256 k A H v m (rw i at few) h (s.pruned.keeps H h p);
    };
    inside = λ x h. let w = of_less T v x h in in_less A v x (s.inside x w.0) w.1;
  })

  -- and so A has fewer
  pub out_round : (B A' G : Set) → Round B A G → A' ≡ A without only v → v < 256 → size 256 A' < size 256 B
  out_round B A' G r e l = rw e (go r)
    where
      one : size 256 (A without only v) + 1 ≡ size 256 A
      one = size_minus_one 256 A v l (s.inside v in-T)

      go : Round B A G → size 256 (A without only v) < size 256 B
      go (inl x) = omega (arith, one, x)
      go (inr x) = omega (arith, one, x.0)

module _ {L : Links} {k : ℕ} {P A T : Set} (s : Trimming L k P A T) (G T' : Set) (e : T' ≡ G cut A) where
  -- the measure falls: A has lost a station, or no station is looked at again
  pub round_less : (B U : Set) → Round B A G → Below 256 U → (((x : ℕ) → x not_in U) → ⊥) → size 256 A + min 1 (size 256 T') < size 256 B + min 1 (size 256 U)
  round_less B U r below some = go r
    where
      fewer : size 256 T' ≤ size 256 G
      fewer = size-sub 256 T' G (λ x h. (of_cut G A x (subst (λ (z : Set). x is_in z) e h)).0)

      somebody : size 256 U ≡ 0 → ⊥
      somebody z = some (λ x. not_so (U x) (λ h. never (U x) h (none_of 256 U z x (below x h))))

      go : Round B A G → size 256 A + min 1 (size 256 T') < size 256 B + min 1 (size 256 U)
      go (inl x) = omega (arith, x, somebody)
      go (inr x) = omega (arith, x.0, x.1, fewer, somebody)
