-- The clauses of a problem in items, and their literals by places. No public promise speaks of it.
use Rattle.std.specs.Prelude.{◌<◌, ◌≤◌, ◌+◌, ◌-◌, ◌/◌, ◌%◌, ◌^◌, ◌==◌, ⊤, ℕ, Bool, true, false, List, [], map, length, get_or, nat_lt, Option, Some, None, option_map, unwrap_or, if◌then◌else◌}
use Rattle.sc_clauses.specs.declared.lit.Lit.{Lit}
use Rattle.sc_clauses.specs.Clauses.{Clause, positive, negation}
use Rattle.sc_sorts.specs.declared.node.Leaf.TheVariants as leafs
use Rattle.sc_sorts.specs.declared.node.Node.{Node}
use Rattle.sc_sorts.specs.declared.node.Node.TheVariants as node
use Rattle.sc_terms.specs.Trees.{Tree}
use Rattle.sc_term_definitions.specs.declared.function.Function.{Function}
use Rattle.sc_term_definitions.specs.declared.function.Shape.{Shape}
use Rattle.sc_term_definitions.specs.declared.function.Shape.TheVariants.{Table, All, NotAll, Fixed, Free}
use Rattle.sc_term_definitions.specs.Functions.{value_of, rows, is_turned}
use Rattle.sc_term_definitions.specs.Definitions.{counted, shape_of, inputs_of}
use Rattle.sc_footprint.specs.Problems.{Posed, closed_terms, atoms, companion, number_among, numbered, literal_in, term_of}
use Rattle.sc_footprint.specs.Definitions.{kept, differs, has_value, clauses_by, address_by, is_address}
use Rattle.th_defs.specs.declared.item.Item.{Item}
use Rattle.th_defs.specs.declared.item.Item.TheVariants as item

-- the literal of a term that goes with the closed term of a number, and of atom 1 where there is none
abbrev pub companion_or : Posed → ℕ → ℕ → Lit
companion_or p n i = unwrap_or (option_map (literal_in p) (companion p n i)) (positive 1)

abbrev pub companions_or : Posed → ℕ → ℕ → List Lit
companions_or p n count = map (companion_or p n) (counted 0 count)

-- the clauses of an item, those too that are dropped
abbrev pub item_clauses : Posed → Item → List Clause
item_clauses p item.Nothing = []
item_clauses p (item.Definition n shape whole count) = clauses_by shape whole (companions_or p n count)
item_clauses p (item.Address n) = address_by (companion_or p n)

abbrev pub clause_at : Posed → Item → ℕ → Clause
clause_at p i k = get_or (item_clauses p i) k []

abbrev pub kept_clauses : Posed → Item → List Clause
kept_clauses p i = kept (item_clauses p i)

-- ---- which items there are

abbrev pub definition_of : Posed → Tree → Item
definition_of p x = item.Definition (number_among (closed_terms p) x) (shape_of x) (literal_in p x)
    (length (inputs_of x))

abbrev pub if_atom : Posed → Option Tree → Item
if_atom p None = item.Nothing
if_atom p (Some x) = definition_of p x

abbrev pub if_address : ℕ → Option Tree → Item
if_address n None = item.Nothing
if_address n (Some t) = if is_address t then item.Address n else item.Nothing

abbrev pub address_of : Posed → ℕ → Item
address_of p n = if_address n (term_of p n)

-- no literal
abbrev pub is_unwritten : Node → Bool
is_unwritten (node.Leaf (leafs.Literal l)) = false
is_unwritten _ = true

-- the item at a place, counted from 0: first the atoms, then the closed terms
abbrev pub item_at : Posed → ℕ → Item
item_at p i = if nat_lt i (length (atoms p)) then if_atom p (numbered (atoms p) (i + 1))
    else address_of p (i - length (atoms p) + 1)

abbrev pub item_count : Posed → ℕ
item_count p = length (atoms p) + length p.closed

-- what an item's clauses are told from: of a table there are one, two or three inputs, and of no definition more than
-- an address has bits
abbrev pub HasInputs : Shape → ℕ → Type 0
HasInputs (Table f turn) count = (0 < count) × (count ≤ 3)
HasInputs _ count = count ≤ 257

abbrev pub IsItem : Item → Type 0
IsItem item.Nothing = ⊤
IsItem (item.Definition n shape whole count) = HasInputs shape count
IsItem (item.Address n) = ⊤

-- ---- how many clauses a definition by so many inputs has, and how many literals each

abbrev pub clauses_in : Shape → ℕ → ℕ
clauses_in (Table f turn) count = 2 ^ count
clauses_in All count = count + 1
clauses_in NotAll count = count + 1
clauses_in (Fixed b) count = 1
clauses_in Free count = 0

abbrev pub conjunction_literals : ℕ → ℕ → ℕ
conjunction_literals count k = if nat_lt k count then 2 else count + 1

abbrev pub literals_in : Shape → ℕ → ℕ → ℕ
literals_in (Table f turn) count k = count + 1
literals_in All count k = conjunction_literals count k
literals_in NotAll count k = conjunction_literals count k
literals_in (Fixed b) count k = 1
literals_in Free count k = 0

-- ---- literals by places

abbrev pub turned_if : Bool → Lit → Lit
turned_if turn l = if turn then negation l else l

abbrev pub input_literal : Posed → ℕ → Shape → ℕ → Lit
input_literal p n shape i = turned_if (is_turned shape i) (companion_or p n i)

abbrev pub literal_of_row : Posed → ℕ → Shape → Function → Lit → ℕ → ℕ → ℕ → Lit
literal_of_row p n shape f whole count r i =
    if nat_lt i count then differs (input_literal p n shape i) (get_or (get_or (rows count) r []) i false)
    else has_value whole (value_of f (get_or (rows count) r []))

abbrev pub literal_of_conjunction : Posed → ℕ → Lit → ℕ → ℕ → ℕ → Lit
literal_of_conjunction p n whole count k i =
    if nat_lt k count
    then (if i == 0 then negation whole else companion_or p n k)
    else (if i == 0 then whole else negation (companion_or p n (i - 1)))

abbrev pub later_bit : ℕ → ℕ
later_bit k = (if k % 2 == 0 then 1 else 129) + (32 + k / 2)

abbrev pub literal_of_address : Posed → ℕ → ℕ → ℕ → Lit
literal_of_address p n k i =
    if nat_lt k 127
    then (if i == 0 then negation (companion_or p n (2 + k)) else companion_or p n (1 + k))
    else (if i == 0 then companion_or p n 0 else negation (companion_or p n (later_bit (k - 127))))

abbrev pub literal_of_definition : Posed → ℕ → Shape → Lit → ℕ → ℕ → ℕ → Lit
literal_of_definition p n (Table f turn) whole count k i = literal_of_row p n (Table f turn) f whole count k i
literal_of_definition p n All whole count k i = literal_of_conjunction p n whole count k i
literal_of_definition p n NotAll whole count k i = literal_of_conjunction p n (negation whole) count k i
literal_of_definition p n (Fixed b) whole count k i = has_value whole b
literal_of_definition p n Free whole count k i = whole
