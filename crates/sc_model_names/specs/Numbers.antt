-- Terms by their numbers in a table, with names.
use Rattle.std.specs.Prelude.{ℕ, ◌<◌, List, map, length}
use Rattle.std.specs.List.{AllByRecursion}
use Rattle.sc_sorts.specs.declared.node.Node.{Node}
use Rattle.sc_terms.specs.Trees.{Tree}
use Rattle.sc_terms.specs.Tables.{tree}
use Rattle.sc_model_laws.specs.Names.{Name, Named}

-- each is a number of the table
abbrev pub AreIn : List Node → List ℕ → Type 0
AreIn xs ns = AllByRecursion (λ n. n < length xs) ns

abbrev pub Entry : Type 0
Entry = ℕ × Name

abbrev pub HaveTerms : List Node → List Entry → Type 0
HaveTerms xs es = AllByRecursion (λ (e : Entry). e.0 < length xs) es

-- a term with its name
abbrev pub named_term : List Node → Entry → Tree × Name
named_term xs e = (tree xs e.0, e.1)

abbrev pub named_terms : List Node → List Entry → Named
named_terms xs es = map (named_term xs) es
