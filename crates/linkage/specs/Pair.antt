-- Two stations a and b of a set, and a net that lies between them.
--   other_links L a b     the links but for the link between a and b
--   Between N L s a b     the net N lies between the stations a and b of s, by the links L
use Rattle.std.specs.Prelude.{◌≡◌, ◌≢◌, false, not, ◌&&◌, ◌||◌, ℕ}
use Rattle.stations.specs.Sets.{Set, ◌is_in◌, only}
use Rattle.mesh.specs.Mesh.{Links}
use Rattle.mesh.specs.Routes.{others}
use Rattle.linkage.specs.Net.{Net}

-- the links but for the link between a and b
unfoldable pub other_links : Links → ℕ → ℕ → Links
other_links L a b v w = L v w && not ((only a v && only b w) || (only b v && only a w))

-- The two are not linked. The inner stations of the net are the other stations of s; its starts are those that a is linked to, its ends those that
-- are linked to b.
pub record Between (N : Net) (L : Links) (s : Set) (a b : ℕ) : Type 0 where
  pub differ : a ≢ b
  pub a_in : a is_in s
  pub b_in : b is_in s
  pub unlinked : L a b ≡ false
  pub inner : (w : ℕ) → N.inner w ≡ others s a b w
  pub links : (v w : ℕ) → v is_in N.inner → w is_in N.inner → N.link v w ≡ L v w
  pub starts : (w : ℕ) → w is_in N.inner → N.starts w ≡ L a w
  pub ends : (w : ℕ) → w is_in N.inner → N.ends w ≡ L w b
