-- The clauses that define a problem: those of each listed atom by its definition, those of each address, and last the
-- goal.
use Rattle.std.specs.Prelude.{◌&&◌, ℕ, ◌+◌, Bool, true, false, not, List, [], ◌∷◌, ◌++◌, map, filter, flat_map, length, Option, Some, None, if◌then◌else◌}
use Rattle.std.specs.List.{list_any}
use Rattle.sc_sorts.specs.declared.sort.Sort.{Sort, Sort-F, out-Sort}
use Rattle.sc_sorts.specs.declared.sort.Sort.TheOpen as s
use Rattle.sc_clauses.specs.declared.lit.Lit.{Lit}
use Rattle.sc_clauses.specs.Clauses.{Clause, negation, is_in}
use Rattle.sc_terms.specs.Trees.{Tree}
use Rattle.sc_terms.specs.TreeSorts.{tree_sort}
use Rattle.sc_terms.specs.Folds.{bit_term, literal_of}
use Rattle.sc_closure.specs.DefinedFunction.{Function}
use Rattle.sc_closure.specs.DefinedShape.{Shape}
use Rattle.sc_closure.specs.DefinedShape.TheVariants.{Table, All, NotAll, Fixed, Free}
use Rattle.sc_closure.specs.Functions.{value_of, rows}
use Rattle.sc_closure.specs.Definitions.{counted, shape_of, inputs_of}
use Rattle.sc_footprint.specs.Problems.{Posed, closed_terms, atoms, literal_in, goal_literal}

-- some atom stands in the clause with its negation
abbrev pub is_tautology : Clause → Bool
is_tautology c = list_any (λ (l : Lit). is_in c (negation l)) c

-- such clauses are dropped, and all others stay
abbrev pub kept : List Clause → List Clause
kept cs = filter (λ (c : Clause). not (is_tautology c)) cs

-- the literal that an input differs from a value, and the one that it has it
abbrev pub differs : Lit → Bool → Lit
differs l v = if v then negation l else l

abbrev pub has_value : Lit → Bool → Lit
has_value l v = if v then l else negation l

-- that some of the literals differ from a row's values
abbrev pub differ_all : List Lit → List Bool → List Lit
differ_all [] vs = []
differ_all (l ∷ ls) [] = []
differ_all (l ∷ ls) (v ∷ vs) = differs l v ∷ differ_all ls vs

-- a row of a truth table: some input differs from the row, or x has the row's value
abbrev pub row : Function → Lit → List Lit → List Bool → Clause
row f x ls vs = differ_all ls vs ++ has_value x (value_of f vs) ∷ []

-- all rows of the truth table of x and these inputs
abbrev pub table : Function → Lit → List Lit → List Clause
table f x ls = map (row f x ls) (rows (length ls))

-- x is whether all are true: not x, or each of them; and x, or not all of them
abbrev pub conjunction : Lit → List Lit → List Clause
conjunction x ls = map (λ (l : Lit). negation x ∷ l ∷ []) ls ++ (x ∷ map negation ls) ∷ []

-- of a difference the second input is negated
abbrev pub turned : Bool → List Lit → List Lit
turned true (k ∷ l ∷ ls) = k ∷ negation l ∷ ls
turned true (k ∷ []) = k ∷ []
turned true [] = []
turned false ls = ls

-- the clauses of a definition, by the literals of what it defines and of its inputs
abbrev pub clauses_by : Shape → Lit → List Lit → List Clause
clauses_by (Table f turn) x ls = table f x (turned turn ls)
clauses_by All x ls = conjunction x ls
clauses_by NotAll x ls = conjunction (negation x) ls
clauses_by (Fixed b) x ls = (has_value x b ∷ []) ∷ []
clauses_by Free x ls = []

-- what defines an atom, where each truth value has this literal
abbrev pub definition_clauses : (Tree → Lit) → Tree → List Clause
definition_clauses lit x = kept (clauses_by (shape_of x) (lit x) (map lit (inputs_of x)))

-- ---- addresses: a prefix is so many first places, and an address of version 4 has none from place 32 on

-- by the literals of the bits
abbrev pub mask_clause : (ℕ → Lit) → ℕ → Clause
mask_clause bit j = negation (bit (2 + j)) ∷ bit (1 + j) ∷ []

abbrev pub short_clauses : (ℕ → Lit) → ℕ → List Clause
short_clauses bit j = (bit 0 ∷ negation (bit (1 + j)) ∷ []) ∷ (bit 0 ∷ negation (bit (129 + j)) ∷ []) ∷ []

abbrev pub address_by : (ℕ → Lit) → List Clause
address_by bit = map (mask_clause bit) (counted 0 127) ++ flat_map (short_clauses bit) (counted 32 96)

abbrev pub address_clauses : (Tree → Lit) → Tree → List Clause
address_clauses lit t = address_by (λ i. lit (bit_term t i))

abbrev pub is_address_in : Sort-F Sort → Bool
is_address_in s.Ip = true
is_address_in _ = false

abbrev pub is_other : {X : Type 0} → Option X → Bool
is_other (Some l) = false
is_other None = true

-- an address that isn't written
abbrev pub is_address : Tree → Bool
is_address t = is_address_in (out-Sort (tree_sort t)) && is_other (literal_of t)

-- ---- all of them: the definitions by the numbers of their atoms, the addresses in the order of terms, and the
-- goal's literal

abbrev pub defining : Posed → List Clause
defining p =
    flat_map (definition_clauses (literal_in p)) (atoms p)
    ++ (flat_map (address_clauses (literal_in p)) (filter is_address (closed_terms p))
    ++ (goal_literal p ∷ []) ∷ [])
