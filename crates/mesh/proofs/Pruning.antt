-- What a search may leave out: lower levels hold where a higher one does, and a station with fewer than k links inside a piece is in none of its
-- sets that hold, since such a set gives each of its stations k links (degree).
use Prim.Native.Nat.{ℕ, ◌≤◌, ◌<◌}
use native.Mathlib.Omega.{arith}
use Rattle.stations.specs.Sets.{Set, ◌part_of◌, only, ◌without◌, ◌cut◌, size}
use Rattle.stations.proofs.Bools.{and_left, and_right, and_in}
use Rattle.stations.proofs.Members.{in_without, not_only}
use Rattle.stations.proofs.Counting.{size-sub}
use Rattle.mesh.specs.Mesh.{Links, Mesh, Holds}
use Rattle.mesh.proofs.Chains.{degree}

-- a set that holds at a level holds at each lower one
pub level_down : (L : Links) (n j k : ℕ) (s : Set) → j ≤ k → Holds L n k s → Holds L n j s
level_down L n j k s l h = record { below = h.below; above = omega (arith, h.above); firm = λ p ps few. h.firm p ps (omega arith) }

-- pruning: a station with fewer than k links in P is in no set of P that holds
pub prune : (L : Links) (n k : ℕ) (P H : Set) (x : ℕ) → Mesh L → size n (P cut L x) < k → Holds L n k H → H part_of P → H part_of P without only x
prune L n k P H x m few h hp y g = in_without P (only x) y (hp y g) (not_only x y (λ e.
    let d = degree L n k H m h y g in
    let sub : H cut L y part_of P cut L x = λ z a. and_in (P z) (L x z) (hp z (and_left (H z) (L y z) a)) (rw e at (and_right (H z) (L y z) a)) in
    omega (arith, d, size-sub n (H cut L y) (P cut L x) sub)))
