-- What a problem keeps of its atoms, of what goes with its terms, and of its terms by sorts, and how literals go down
-- negations. No public promise speaks of it.
use Rattle.std.specs.Prelude.{◌≡◌, ◌<◌, ◌&&◌, ℕ, Bool, true, false, List, [], map, find, length, Option, Some, None, if◌then◌else◌}
use Rattle.std.specs.List.{AllByRecursion}
use Rattle.sc_names.specs.declared.uid.Uid.{Uid}
use Rattle.sc_schema.specs.declared.declarations.Env.{Env}
use Rattle.sc_schema.specs.Declarations.{Declarations}
use Rattle.sc_clauses.specs.declared.lit.Lit.{Lit}
use Rattle.sc_clauses.specs.Clauses.{positive, negation}
use Rattle.sc_sorts.specs.declared.node.Node.{Node}
use Rattle.sc_terms.specs.Trees.{Tree}
use Rattle.sc_terms.specs.Tables.{tree}
use Rattle.sc_terms.specs.Folds.{constant}
use Rattle.sc_closure.specs.Making.{stood}
use Rattle.sc_rule_laws.specs.Terms.{one_sort}
use Rattle.sc_footprint.specs.declared.kind.Kind.{Kind}
use Rattle.sc_footprint.specs.declared.companions.Span.{Span}
use Rattle.sc_footprint.specs.declared.shelves.Shelf.{Shelf}
use Rattle.sc_footprint.specs.Companions.{AreListed}
use Rattle.sc_footprint.specs.Kinds.{same_kind}
use Rattle.sc_footprint.specs.Problems.{Posed, IsPosed, atoms}
use Rattle.sc_footprint.specs.Shelves.{shelf}

-- the problem of a goal's number
abbrev pub problem_of : Declarations → Env → List Uid → List Node → ℕ → List ℕ → Posed
problem_of d env literals xs goal closed =
    record { schema = d; env = env; literals = literals; nodes = xs; goal = goal; closed = closed }

-- the terms of the first shelf of a kind and of a term's sort
abbrev pub is_shelf : List Node → Kind → ℕ → Shelf → Bool
is_shelf xs k n s = same_kind s.kind k && one_sort (tree xs s.key) (tree xs n)

abbrev pub terms_on : Option Shelf → List ℕ
terms_on None = []
terms_on (Some s) = s.terms.items

abbrev pub terms_at : List Node → List Shelf → Kind → ℕ → List ℕ
terms_at xs ss k n = terms_on (find (is_shelf xs k n) ss)

pub record AreShelves (p : Posed) (ss : List Shelf) : Type 0 where
  pub keys_within : AllByRecursion (λ (s : Shelf). s.key < length p.nodes) ss
  pub within : AllByRecursion (λ (s : Shelf). AllByRecursion (λ n. n < length p.nodes) s.terms.items) ss
  pub each : (k : Kind) (n : ℕ) → n < length p.nodes
      → stood p.nodes (terms_at p.nodes ss k n) ≡ shelf p k (tree p.nodes n)

-- a problem of a goal, its atoms by their numbers in the table, what goes with its terms, and its terms by sorts
pub record IsKept (p : Posed) (atom_terms : List ℕ) (spans : List Span) (companions : List ℕ)
    (ss : List Shelf) : Type 0 where
  pub posed : IsPosed p
  pub atoms_within : AllByRecursion (λ n. n < length p.nodes) atom_terms
  pub atoms_are : map (tree p.nodes) atom_terms ≡ atoms p
  pub companions_are : AreListed p.schema p.nodes p.closed spans companions
  pub shelves_are : AreShelves p ss

-- ---- literals, one negation at a time

-- the literal, or its negation
abbrev pub signed : Bool → Lit → Lit
signed negated l = if negated then negation l else l

-- of a term that is no negation: given the truth value that it is, and its number
abbrev pub plain_literal : Option Bool → ℕ → Lit
plain_literal (Some false) n = negation (positive 1)
plain_literal (Some true) n = positive n
plain_literal None n = positive n

abbrev pub own_literal : (Tree → ℕ) → Tree → Lit
own_literal number t = plain_literal (constant t) (number t)
