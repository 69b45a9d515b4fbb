-- What a goal has to be.
use Rattle.std.specs.Prelude.{◌≡◌, ◌⊎◌, ◌||◌, Bool, true, false, List, [], ◌∷◌, ◌++◌, Contains}
use Rattle.std.specs.List.{AllByRecursion}
use Rattle.sc_names.specs.declared.uid.Uid.{Uid}
use Rattle.sc_schema.specs.declared.declarations.Env.{Env}
use Rattle.sc_schema.specs.Declarations.{Declarations, environments, action_uids}
use Rattle.sc_world.specs.Named.{IsDeclared}
use Rattle.sc_sorts.specs.declared.sort.Sort.TheVariants as sort
use Rattle.sc_sorts.specs.declared.node.Leaf.TheVariants.{Literal}
use Rattle.sc_sorts.specs.declared.node.Literal.TheVariants.{Entity}
use Rattle.sc_sorts.specs.declared.node.BinaryOp.{BinaryOp}
use Rattle.sc_sorts.specs.declared.node.BinaryOp.TheVariants as binary
use Rattle.sc_terms.specs.Trees.{Tree, leaf, one, two, choice, many, Trees, no_part, part}
use Rattle.sc_term_laws.specs.Judging.{IsTermOf}

abbrev pub is_pick : BinaryOp → Bool
is_pick binary.DifferencePick = true
is_pick binary.CommonPick = true
is_pick _ = false

unfoldable mutual
  -- whether a member is picked somewhere in a term
  pub has_pick : Tree → Bool
  has_pick (leaf l) = false
  has_pick (one o a) = has_pick a
  has_pick (two o a b) = is_pick o || (has_pick a || has_pick b)
  has_pick (choice c a b) = has_pick c || (has_pick a || has_pick b)
  has_pick (many o ts) = some_pick ts

  pub some_pick : Trees → Bool
  some_pick no_part = false
  some_pick (part l t ts) = has_pick t || some_pick ts

unfoldable mutual
  -- the entities that are written in a term
  pub uids_of : Tree → List Uid
  uids_of (leaf (Literal (Entity u us))) = u ∷ []
  uids_of (leaf l) = []
  uids_of (one o a) = uids_of a
  uids_of (two o a b) = uids_of a ++ uids_of b
  uids_of (choice c a b) = uids_of c ++ (uids_of a ++ uids_of b)
  uids_of (many o ts) = all_uids ts

  pub all_uids : Trees → List Uid
  all_uids no_part = []
  all_uids (part l t ts) = uids_of t ++ all_uids ts

-- Over the variables of an environment and the types, attributes, ancestor types and tags of its schema, a truth value
-- as the constructors make it. It picks no member, each entity that is written in it is a declared action or one of the
-- literals, and these are declared.
pub record IsGoal (d : Declarations) (env : Env) (literals : List Uid) (goal : Tree) : Type 0 where
  pub environment : Contains (environments d) env
  pub term : IsTermOf d env literals sort.Bool goal
  pub plain : has_pick goal ≡ false
  pub written : (u : Uid) → Contains (uids_of goal) u → Contains literals u ⊎ Contains (action_uids d) u
  pub declared : AllByRecursion (IsDeclared d) literals
