-- Names for classes of equal strings and entities: strings by texts that match the patterns which they are to match.
use Rattle.std.specs.Prelude.{ℕ, zero, suc, ◌+◌, Bool, List, [], ◌∷◌, ◌++◌, length, map, flat_map, Option, Some, None, if◌then◌else◌}
use Rattle.std.specs.List.{filter, list_any}
use Rattle.std.specs.Str.{bytes_eq}
use Rattle.sc_sorts.specs.declared.sort.Sort.{Sort}
use Rattle.sc_sorts.specs.declared.sort.Sort.TheVariants as sort
use Rattle.sc_sorts.specs.contracts.sort.SortPartialEq.TheImpl.{ghosts as sorts}
use Rattle.sc_sorts.specs.declared.node.Leaf.TheVariants.{Literal}
use Rattle.sc_sorts.specs.declared.node.Literal.TheVariants as literal
use Rattle.sc_terms.specs.Trees.{Tree, leaf}
use Rattle.sc_terms.specs.TreeSorts.{tree_sort}
use Rattle.sc_terms.specs.Folds.{equal_term, like_term}
use Rattle.sc_term_laws.specs.Tests.{name_of}
use Rattle.sc_rule_laws.specs.Strings.{Pattern}
use Rattle.sc_model_laws.specs.Assignments.{Assignment, lit}
use Rattle.sc_model_laws.specs.Vals.{Model}

abbrev pub Name : Type 0
Name = List ℕ

abbrev pub or_name : Option Name → Option Name → Option Name
or_name (Some n) o = Some n
or_name None o = o

-- ---- the class of a term among others, by which are in one class

module _ (same : Tree → Tree → Bool) (literal : Tree → Option Name) where
  -- what a literal of its class says
  unfoldable pub literal_among : List Tree → Tree → Option Name
  literal_among [] x = None
  literal_among (y ∷ ys) x = or_name (if same x y then literal y else None) (literal_among ys x)

  -- the place of the first term of its class
  unfoldable pub place_among : List Tree → Tree → ℕ
  place_among [] x = zero
  place_among (y ∷ ys) x = if same x y then zero else suc (place_among ys x)

abbrev pub or_fresh : Option Name → Name → Name
or_fresh None n = n
or_fresh (Some m) n = m

-- a text of so many zeros
unfoldable pub zeros : ℕ → Name
zeros zero = []
zeros (suc n) = 48 ∷ zeros n

abbrev pub length_of : Option Name → ℕ
length_of None = 0
length_of (Some n) = length n

-- at least as long as each literal
unfoldable pub longest : (Tree → Option Name) → List Tree → ℕ
longest literal [] = 0
longest literal (x ∷ xs) = length_of (literal x) + longest literal xs

-- what a literal of its class says, else a text that is longer than all literals and tells its class
abbrev pub class_name : (Tree → Tree → Bool) → (Tree → Option Name) → List Tree → Tree → Name
class_name same literal xs x =
    or_fresh (literal_among same literal xs x) (zeros (longest literal xs + suc (place_among same literal xs x)))

-- ---- the names of strings and entities

abbrev pub literal_text : Tree → Option Name
literal_text (leaf (Literal (literal.String t))) = Some t
literal_text _ = None

abbrev pub literal_id : Tree → Option Name
literal_id (leaf (Literal (literal.Entity u us))) = Some u.id
literal_id _ = None

-- those of a sort
unfoldable pub of_sort : Sort → List Tree → List Tree
of_sort k xs = filter (λ x. sorts.eq (tree_sort x) k) xs

abbrev pub are_equal : Assignment → Tree → Tree → Bool
are_equal m x y = lit m (equal_term x y)

-- ---- strings, which match patterns

-- by each pattern whether a string matches it
abbrev pub signs_of : Assignment → List Pattern → Tree → List Bool
signs_of m qs x = map (λ (q : Pattern). lit m (like_term x q)) qs

-- texts for strings with these signs
abbrev pub Texts : Type 0
Texts = List Bool → List Name

-- strings with their names, in the order in which they got them
abbrev pub Named : Type 0
Named = List (Tree × Name)

-- the name of a string that is the same
unfoldable pub name_in : (Tree → Tree → Bool) → Named → Tree → Option Name
name_in same [] x = None
name_in same (e ∷ es) x = if same x e.0 then Some e.1 else name_in same es x

-- the first text that is no name yet
unfoldable pub unused : Named → List Name → Name
unused es [] = []
unused es (t ∷ ts) = if list_any (λ (e : Tree × Name). bytes_eq e.1 t) es then unused es ts else t

-- a literal's name is what it says
abbrev pub entry_by : Tree → Option Name → Named
entry_by x None = []
entry_by x (Some n) = (x, n) ∷ []

abbrev pub literal_entries : List Tree → Named
literal_entries xs = flat_map (λ x. entry_by x (literal_text x)) xs

-- the name of an equal string, else a text with its signs that is no name yet
abbrev pub next_name : Assignment → List Pattern → Texts → Named → Tree → Name
next_name m qs texts es x = or_fresh (name_in (are_equal m) es x) (unused es (texts (signs_of m qs x)))

unfoldable pub named : Assignment → List Pattern → Texts → Named → List Tree → Named
named m qs texts es [] = es
named m qs texts es (x ∷ xs) = named m qs texts (es ++ (x, next_name m qs texts es x) ∷ []) xs

-- literals first, then all strings in their order
abbrev pub names_of : Assignment → List Pattern → Texts → List Tree → Named
names_of m qs texts closed =
    named m qs texts (literal_entries (of_sort sort.String closed)) (of_sort sort.String closed)

abbrev pub text_of : Assignment → List Pattern → Texts → List Tree → Tree → Name
text_of m qs texts closed x = or_fresh (name_in (are_equal m) (names_of m qs texts closed) x) []

-- ---- entities

abbrev pub id_of : Assignment → List Tree → Tree → Name
id_of m closed x = class_name (are_equal m) literal_id (of_sort (tree_sort x) closed) x

-- the model of an assignment to these closed terms, with texts that have the signs of these patterns
abbrev pub model_of : List Pattern → Texts → List Tree → Assignment → Model
model_of qs texts closed m = record {
  truths = m;
  closed = closed;
  text = text_of m qs texts closed;
  uid = λ x. record { type_name = name_of (tree_sort x); id = id_of m closed x };
}
