-- Clauses of a problem, and what their laws may rest on.
use Rattle.std.specs.Prelude.{◌<◌, ◌≤◌, ℕ, List, length}
use Rattle.std.specs.List.{Contains}
use Rattle.sc_names.specs.declared.uid.Uid.{Uid}
use Rattle.sc_schema.specs.declared.declarations.Env.{Env}
use Rattle.sc_schema.specs.Declarations.{Declarations}
use Rattle.sc_schema.specs.Lawful.{IsLawful}
use Rattle.sc_clauses.specs.declared.lit.Lit.{Lit}
use Rattle.sc_clauses.specs.Clauses.{Clause, negation}
use Rattle.sc_terms.specs.Trees.{Tree}
use Rattle.sc_terms.specs.TreeSorts.{tree_sort}
use Rattle.sc_closure.specs.Fitting.{TermsFit}
use Rattle.sc_closure.specs.Judging.{IsTermOf}
use Rattle.sc_closure.specs.Truths.{DefinitionsHold, AddressesHold, InputsAreTerms}
use Rattle.sc_closure.specs.Closure.{Closed}
use Rattle.sc_closure.specs.Goals.{IsGoal}
use Rattle.sc_footprint.specs.Problems.{Posed, atoms}

-- the literal is of one of the first atoms
abbrev pub IsListed : ℕ → Lit → Type 0
IsListed count l = (0 < l.atom) × (l.atom ≤ count)

-- literals of listed atoms, none of them with its negation
abbrev pub IsClauseOf : Posed → Clause → Type 0
IsClauseOf p c = (l : Lit) → Contains c l → IsListed (length (atoms p)) l × ¬ Contains c (negation l)

-- each closed term of a goal is a term of its sort
abbrev pub ClosedAreTerms : Type 0
ClosedAreTerms = (d : Declarations) (env : Env) (literals : List Uid) (goal t : Tree) → IsLawful d
    → IsGoal d env literals goal → Closed d env goal t → IsTermOf d env literals (tree_sort t) t

-- What is proved of all terms. A theory's laws may rest on it, and `problem_laws` gives it.
pub record TermsHold : Type 0 where
  pub closed : ClosedAreTerms
  pub fit : TermsFit
  pub inputs : InputsAreTerms
  pub defined : DefinitionsHold
  pub addresses : AddressesHold
