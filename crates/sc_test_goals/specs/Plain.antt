-- Numbers of a table that stand for terms in which no entity is written and no member is picked.
use Rattle.std.specs.Prelude.{◌≡◌, ◌<◌, ℕ, false, List, [], length}
use Rattle.sc_sorts.specs.declared.node.Node.{Node}
use Rattle.sc_terms.specs.Tables.{tree}
use Rattle.sc_closure_rules.specs.Goals.{has_pick, uids_of}

pub record IsPlain (xs : List Node) (n : ℕ) : Type 0 where
  pub within : n < length xs
  pub picks_none : has_pick (tree xs n) ≡ false
  pub writes_none : uids_of (tree xs n) ≡ []
