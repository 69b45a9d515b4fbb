-- The problem of a goal: its closed terms and its listed atoms, both numbered from 1 in the order of terms.
use Rattle.std.specs.Prelude.{◌≡◌, ◌↔◌, ◌<◌, ◌≤◌, ◌-◌, ◌^◌, ◌==◌, ℕ, List, [], ◌∷◌, map, length, Option, Some, None, option_map, option_and_then, slice_get, if◌then◌else◌}
use Rattle.std.specs.List.{AllByRecursion, Contains}
use Rattle.std.specs.List.Sorted.{IsStrictlySortedBy}
use Rattle.sc_names.specs.declared.uid.Uid.{Uid}
use Rattle.sc_schema.specs.declared.declarations.Env.{Env}
use Rattle.sc_schema.specs.Declarations.{Declarations}
use Rattle.sc_schema.specs.Lawful.{IsLawful}
use Rattle.sc_clauses.specs.declared.lit.Lit.{Lit}
use Rattle.sc_clauses.specs.Clauses.{positive, negation}
use Rattle.sc_sorts.specs.declared.node.Node.{Node}
use Rattle.sc_sorts.specs.declared.node.UnaryOp.TheVariants.{Not}
use Rattle.sc_terms.specs.Trees.{Tree, leaf, one, two, choice, many}
use Rattle.sc_terms.specs.Tables.{tree}
use Rattle.sc_terms.specs.Order.{tree_cmp, tree_eq}
use Rattle.sc_closure.specs.Atoms.{is_bool, is_opposite, atoms_among, most_atoms}
use Rattle.sc_closure.specs.Closure.{follow, Closed}
use Rattle.sc_closure.specs.Goals.{IsGoal}
use Rattle.sc_closure.specs.Places.{one_more, place_among}

-- a goal, by its number in a table of terms, the closed terms by theirs, and the uids that are to be stored
pub record Posed : Type 0 where
  pub schema : Declarations
  pub env : Env
  pub literals : List Uid
  pub nodes : List Node
  pub goal : ℕ
  pub closed : List ℕ

abbrev pub goal_term : Posed → Tree
goal_term p = tree p.nodes p.goal

-- the closed terms
abbrev pub closed_terms : Posed → List Tree
closed_terms p = map (tree p.nodes) p.closed

-- the terms are just the closed ones of a goal, in order
pub record AreClosed (d : Declarations) (env : Env) (goal : Tree) (ts : List Tree) : Type 0 where
  pub ordered : IsStrictlySortedBy tree_cmp ts
  pub just : (t : Tree) → Contains ts t ↔ Closed d env goal t

-- the listed atoms
abbrev pub atoms : Posed → List Tree
atoms p = atoms_among (closed_terms p)

-- What a problem is. No call on it asks more: the schema is lawful, the goal is one, the closed terms are the goal's
-- own, no more of them are atoms than may be, and a log can write their numbers.
pub record IsPosed (p : Posed) : Type 0 where
  pub lawful : IsLawful p.schema
  pub goal_within : p.goal < length p.nodes
  pub within : AllByRecursion (λ n. n < length p.nodes) p.closed
  pub goal_is : IsGoal p.schema p.env p.literals (goal_term p)
  pub are_closed : AreClosed p.schema p.env (goal_term p) (closed_terms p)
  pub few : length (atoms p) ≤ most_atoms
  pub small : length p.closed < 10 ^ 18

-- ---- numbers

-- the one of a number, counted from 1
abbrev pub numbered : {X : Type 0} → List X → ℕ → Option X
numbered xs n = if n == 0 then None else slice_get xs (n - 1)

-- the number of a term, counted from 1; 0 where it isn't there
abbrev pub number_among : List Tree → Tree → ℕ
number_among [] t = 0
number_among (x ∷ xs) t = if tree_eq x t then 1 else one_more (number_among xs t)

-- the number of an atom
abbrev pub atom_number : Posed → Tree → ℕ
atom_number p t = number_among (atoms p) t

abbrev pub if_any : ℕ → Option ℕ
if_any n = if n == 0 then None else Some n

-- the number of a closed term, which is given by its number in the table
abbrev pub number_of : Posed → ℕ → Option ℕ
number_of p n = if_any (place_among p.closed n)

-- the closed term of a number
abbrev pub term_of : Posed → ℕ → Option Tree
term_of p n = option_map (tree p.nodes) (numbered p.closed n)

-- of the terms that go with the closed term of a number the one at a place, counted from 0
abbrev pub companion : Posed → ℕ → ℕ → Option Tree
companion p n i = option_and_then (λ (x : Tree). slice_get (follow p.schema x) i) (term_of p n)

-- ---- literals

-- of an atom its number, of `false` the negation of atom 1, which is `true`, and of a negation the negation of its
-- part's
unfoldable pub literal : (Tree → ℕ) → Tree → Lit
literal number (leaf l) = if is_opposite (leaf l) then negation (positive 1) else positive (number (leaf l))
literal number (one Not a) = negation (literal number a)
literal number (one o a) = positive (number (one o a))
literal number (two o a b) = positive (number (two o a b))
literal number (choice c a b) = positive (number (choice c a b))
literal number (many o ts) = positive (number (many o ts))

abbrev pub literal_in : Posed → Tree → Lit
literal_in p t = literal (atom_number p) t

-- the literal that is true where the goal is
abbrev pub goal_literal : Posed → Lit
goal_literal p = literal_in p (goal_term p)

-- the literal of a closed term, where that is a truth value
abbrev pub literal_at : Posed → Option Tree → Option Lit
literal_at p None = None
literal_at p (Some t) = if is_bool t then Some (literal_in p t) else None

-- ---- problems of a goal

-- the problem of this goal
pub record IsProblemOf (d : Declarations) (env : Env) (literals : List Uid) (goal : Tree) (p : Posed) : Type 0 where
  pub schema_is : p.schema ≡ d
  pub env_is : p.env ≡ env
  pub literals_are : p.literals ≡ literals
  pub goal_is : goal_term p ≡ goal
