-- SE1 as steps that don't go on: a start y is one with a middle x, that is a member of an end S, and the start isn't.
use Rattle.std.specs.Prelude.{◌≡◌, ⊤, ℕ, Bool, false, List, Option, Some, None, option_and_then, option_map, slice_get}
use Rattle.sc_clauses.specs.Assignments.{Assignment}
use Rattle.sc_lists.specs.Members.{Has}
use Rattle.sc_terms.specs.Trees.{Tree}
use Rattle.sc_terms.specs.Folds.{equal_term}
use Rattle.sc_terms.specs.Tables.{tree}
use Rattle.sc_rule_laws.specs.Terms.{member}
use Rattle.sc_footprint.specs.Problems.{Posed, numbered, literal_in}
use Rattle.sc_rule_instances.specs.declared.rule.SetRule.{SetRule}
use Rattle.sc_rule_instances.specs.declared.rule.SetRule.TheVariants.{Se1}
use Rattle.sc_rule_instances.specs.Instances.{set_said}
use Rattle.sc_rule_instances.specs.Known.{known, is_falsified}
use Rattle.sc_closure.specs.Following.{put_one}
use Rattle.th_sets.specs.Named.{named_at}
use Rattle.th_sets.specs.declared.named.Named.{Named}
use Rattle.th_sets.specs.declared.named.Named.TheVariants.{Member}

-- the closed term whose number stands at a place, by its number in the table
abbrev pub place_at : Posed → List ℕ → ℕ → Option ℕ
place_at p ns i = option_and_then (numbered p.closed) (slice_get ns i)

abbrev pub term_at : Posed → List ℕ → ℕ → Option Tree
term_at p ns i = option_map (tree p.nodes) (place_at p ns i)

-- what is known of what is made of two terms, where there are two
abbrev pub known_two : Posed → Assignment → (Tree → Tree → Tree) → Option Tree → Option Tree → Option Bool
known_two p m make (Some a) (Some b) = known m (literal_in p (make a b))
known_two p m make _ _ = None

abbrev pub equal_known : Posed → Assignment → List ℕ → ℕ → ℕ → Option Bool
equal_known p m xs y x = known_two p m equal_term (term_at p xs x) (term_at p xs y)

abbrev pub member_known : Posed → Assignment → List ℕ → List ℕ → ℕ → ℕ → Option Bool
member_known p m xs ss x s = known_two p m member (term_at p xs x) (term_at p ss s)

-- a membership's parts are among these
abbrev pub IsAmong : List ℕ → List ℕ → Named → Type 0
IsAmong xs ss (Member x s) = Has xs x × Has ss s
IsAmong xs ss _ = ⊤

-- the instance of the numbers at three places
abbrev pub move_of : Option ℕ → Option ℕ → Option ℕ → Option SetRule
move_of (Some x) (Some y) (Some s) = Some (Se1 x y s)
move_of _ _ _ = None

-- no instance of SE1 is falsified
abbrev pub AreMovesFree : Posed → Assignment → Type 0
AreMovesFree p m = (x y s : ℕ) → is_falsified p m (set_said p (Se1 x y s)) ≡ false

-- the parts of a membership come after the others, and else all stay
abbrev pub IsPutBy : List ℕ → List ℕ → Named → List ℕ → List ℕ → Type 0
IsPutBy xs ss (Member x s) ys ts = (ys ≡ put_one xs x) × (ts ≡ put_one ss s)
IsPutBy xs ss _ ys ts = (ys ≡ xs) × (ts ≡ ss)

-- the parts of each closed membership are among these
abbrev pub AreAmong : Posed → List ℕ → List ℕ → Type 0
AreAmong p xs ss = (n : ℕ) → IsAmong xs ss (named_at p n)
