-- What a closed term names: a membership, an inclusion, or that two sets have a member in common. The parts have the
-- numbers of closed terms; 0 is the number of none. No public promise speaks of it.
use Rattle.std.specs.Prelude.{◌≡◌, ◌+◌, ◌++◌, ◌<◌, ⊤, ℕ, Bool, true, false, List, [], ◌∷◌, Option, Some, None}
use Rattle.sc_lists.specs.Members.{Has}
use Rattle.sc_sorts.specs.declared.node.BinaryOp.TheVariants as binary
use Rattle.sc_terms.specs.Trees.{Tree, two}
use Rattle.sc_footprint.specs.Problems.{Posed, closed_terms, number_among, term_of}
use Rattle.th_sets.specs.declared.named.Named.{Named}
use Rattle.th_sets.specs.declared.named.Named.TheVariants.{Member, Subset, Common, Other}

abbrev pub number_in : Posed → Tree → ℕ
number_in p t = number_among (closed_terms p) t

abbrev pub named_in : Posed → Tree → Named
named_in p (two binary.Member x s) = Member (number_in p x) (number_in p s)
named_in p (two binary.Subset s t) = Subset (number_in p s) (number_in p t)
named_in p (two binary.Common s t) = Common (number_in p s) (number_in p t)
named_in p _ = Other

abbrev pub named_if : Posed → Option Tree → Named
named_if p (Some t) = named_in p t
named_if p None = Other

-- by the closed term of a number
abbrev pub named_at : Posed → ℕ → Named
named_at p n = named_if p (term_of p n)

-- it holds of what the first so many closed terms name, by their numbers from 1 on
unfoldable pub AreFirst : Posed → (Named → Type 0) → ℕ → Type 0
AreFirst p P count = (n : ℕ) → n < count → P (named_at p (n + 1))

-- ---- all that closed terms name, listed

-- what a closed term names is among these, if that is something
abbrev pub IsNameAmong : List Named → Named → Type 0
IsNameAmong names (Member x s) = Has names (Member x s)
IsNameAmong names (Subset s t) = Has names (Subset s t)
IsNameAmong names (Common s t) = Has names (Common s t)
IsNameAmong names Other = ⊤

abbrev pub AreNames : Posed → List Named → Type 0
AreNames p names = (n : ℕ) → IsNameAmong names (named_at p n)

-- a name is of two sets
abbrev pub is_of_sets : Named → Bool
is_of_sets (Subset s t) = true
is_of_sets (Common s t) = true
is_of_sets _ = false

-- what a closed term names is among these, if that is of two sets
abbrev pub IsAmongSets : List Named → Named → Type 0
IsAmongSets names (Subset s t) = Has names (Subset s t)
IsAmongSets names (Common s t) = Has names (Common s t)
IsAmongSets names _ = ⊤

abbrev pub AreOfSets : Posed → List Named → Type 0
AreOfSets p names = (n : ℕ) → IsAmongSets names (named_at p n)

-- what a closed term names comes after the others, if that is something
abbrev pub IsNamePut : List Named → Named → List Named → Type 0
IsNamePut names (Member x s) more = more ≡ names ++ Member x s ∷ []
IsNamePut names (Subset s t) more = more ≡ names ++ Subset s t ∷ []
IsNamePut names (Common s t) more = more ≡ names ++ Common s t ∷ []
IsNamePut names Other more = more ≡ names
