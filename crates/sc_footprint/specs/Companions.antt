-- What goes with terms, in one list. No public promise speaks of it.
use Rattle.std.specs.Prelude.{◌≡◌, ◌<◌, ◌≤◌, ◌-◌, ◌++◌, ℕ, List, take, drop, length}
use Rattle.std.specs.List.{AllByRecursion, AllZip}
use Rattle.sc_schema.specs.Declarations.{Declarations}
use Rattle.sc_sorts.specs.declared.node.Node.{Node}
use Rattle.sc_terms.specs.Tables.{tree, Keeps}
use Rattle.sc_closure.specs.Making.{stood, IsSomeTerm}
use Rattle.sc_closure.specs.Closure.{follow}
use Rattle.sc_footprint.specs.declared.companions.Span.{Span}

-- the numbers from one place up to another
abbrev pub between : List ℕ → Span → List ℕ
between ns s = take (s.until - s.from) (drop s.from ns)

-- what goes with a term stands between two places
pub record IsSpanOf (d : Declarations) (xs : List Node) (ns : List ℕ) (n : ℕ) (s : Span) : Type 0 where
  pub ordered : s.from ≤ s.until
  pub within : s.until ≤ length ns
  pub term : s.term ≡ n
  pub stands : stood xs (between ns s) ≡ follow d (tree xs n)

-- of each of these terms
pub record AreListed (d : Declarations) (xs : List Node) (terms : List ℕ) (spans : List Span)
    (ns : List ℕ) : Type 0 where
  pub within : AllByRecursion (λ n. n < length xs) ns
  pub each : AllZip (IsSpanOf d xs ns) terms spans

-- What goes with the first of some terms is listed, while the table grows: these are the ones to come.
pub record IsListing (d : Declarations) (first now : List Node) (all rest : List ℕ) (spans : List Span)
    (ns : List ℕ) : Type 0 where
  pub kept : Keeps first now
  pub done : List ℕ
  pub are : all ≡ done ++ rest
  pub done_within : AllByRecursion (λ n. n < length first) done
  pub rest_within : AllByRecursion (λ n. n < length first) rest
  pub rest_terms : AllByRecursion (λ n. IsSomeTerm (tree first n)) rest
  pub listed : AreListed d now done spans ns
