-- What the steps of the routes question say.
use Rattle.std.specs.Prelude.{false, Ok, List, ◌≡◌, ℕ}
use Rattle.stations.specs.Sets.{stations}
use Rattle.mesh.specs.Table.{linked}
use Rattle.mesh.specs.Routes.{Most, Least}
use Rattle.routes.specs.declared.Answer.{Answer}
use Rattle.routes.specs.Reply.{joined, count}

-- the answer, once every test has passed
pub record Answered (n : ℕ) (t : List ℕ) (a b : ℕ) (r : Answer) : Type 0 where
  pub linked_pair : joined (Ok r) ≡ linked t a b
  pub most : linked t a b ≡ false → Most (linked t) (stations n) a b (count (Ok r))
  pub least : linked t a b ≡ false → Least (linked t) n (stations n) a b (count (Ok r))
