-- The script of a goal (SMT-LIB 2.6, with the theory of sets as cvc5 has it).
use Rattle.std.specs.Prelude.{◌≡◌, ◌<◌, ℕ, List, [], ◌∷◌, ◌++◌, map, flat_map, length, get_or}
use Rattle.sc_lists.specs.Members.{Has}
use Rattle.sc_names.specs.declared.uid.Uid.{Uid}
use Rattle.sc_sorts.specs.declared.sort.Sort.{Sort, Sort-F, out-Sort}
use Rattle.sc_sorts.specs.declared.sort.Sort.TheOpen as s
use Rattle.sc_sorts.specs.declared.node.Leaf.{Leaf}
use Rattle.sc_sorts.specs.declared.node.Leaf.TheVariants as leafs
use Rattle.sc_terms.specs.Trees.{Tree, leaf}
use Rattle.sc_terms.specs.Order.{tree_cmp}
use Rattle.sc_smtlib_forms.specs.Forms.{plain, with_one, with_two}
use Rattle.sc_smtlib_forms.specs.declared.form.Form.{Form}
use Rattle.sc_smtlib_forms.specs.declared.form.Form.TheVariants as form
use Rattle.sc_smtlib_terms.specs.Forms.{IsSubterm}
use Rattle.sc_smtlib_terms.specs.Sorts.{sort_text, data_line, choice_line}
use Rattle.sc_turns.specs.Turns.{InTurn}
use Rattle.sc_smtlib_lines.specs.declared.functions.Function.{Function}
use Rattle.sc_smtlib_lines.specs.Subterms.{AreJust, datatypes_of}
use Rattle.sc_smtlib_lines.specs.Depths.{depth_cmp}
use Rattle.sc_smtlib_lines.specs.Functions.{function_cmp, called}
use Rattle.sc_smtlib_lines.specs.Ancestries.{ancestries, own_line, nested_line, nested_function, of_each}
use Rattle.sc_smtlib_lines.specs.Names.{term_name, definition, part_places}

-- ---- lines that declare

-- those that stand in every script
abbrev pub header : List (List ℕ)
header = plain form.Logic ∷ plain form.LongSort ∷ plain form.DecimalSort ∷ []

-- the line of the ids of a sort, where some are listed
abbrev pub ids_lines : List Sort → Sort → List Uid → List (List ℕ)
ids_lines ds k [] = []
ids_lines ds k (u ∷ us) = choice_line ds k (u ∷ us) ∷ []

abbrev pub choices_in : List Sort → Sort → Sort-F Sort → List (List ℕ)
choices_in ds k (s.Entity name choices) = ids_lines ds k choices
choices_in ds k _ = []

-- the line of a sort's ids, where it lists them
unfoldable pub choices_lines : List Sort → Sort → List (List ℕ)
choices_lines ds k = choices_in ds k (out-Sort k)

abbrev pub constant_line : List Sort → Form → Sort → List ℕ
constant_line ds v k = with_two form.Constant (plain v) (sort_text ds k)

abbrev pub leaf_lines : List Sort → Leaf → List (List ℕ)
leaf_lines ds (leafs.Literal l) = []
leaf_lines ds (leafs.None held) = []
leaf_lines ds (leafs.Principal k) = constant_line ds form.Principal k ∷ []
leaf_lines ds (leafs.Resource k) = constant_line ds form.Resource k ∷ []
leaf_lines ds (leafs.Context k) = constant_line ds form.Context k ∷ []

-- the line of a variable
abbrev pub constant_lines : List Sort → Tree → List (List ℕ)
constant_lines ds (leaf l) = leaf_lines ds l
constant_lines ds _ = []

-- the functions that terms call, and those of lines on two ancestries
abbrev pub functions_of : List Sort → List Tree → List Function
functions_of ds ts = flat_map (called ds) ts ++ of_each (nested_function ds) (ancestries ts)

abbrev pub declarations : List Sort → List Tree → List Function → List (List ℕ)
declarations ds ts fs =
    header ++ (map (data_line ds) ds
    ++ (flat_map (choices_lines ds) ds ++ (flat_map (constant_lines ds) ts ++ map (λ (f : Function). f.line) fs)))

-- ---- lines that define and assert

-- the definition of the term at a place
abbrev pub definition_at : List Sort → List Tree → Tree → ℕ → List ℕ
definition_at ds ts goal x = definition ds ts (get_or ts x goal)

-- that the goal is true, and the question
abbrev pub question : List Tree → Tree → List (List ℕ)
question ts goal = with_one form.Assertion (term_name ts goal) ∷ plain form.Check ∷ []

abbrev pub assertions : List Sort → List Tree → List ℕ → Tree → List (List ℕ)
assertions ds ts order goal =
    map (definition_at ds ts goal) order
    ++ (flat_map (own_line ds ts) (ancestries ts)
    ++ (of_each (nested_line ds ts) (ancestries ts) ++ question ts goal))

-- ---- scripts

abbrev pub with_newline : List ℕ → List ℕ
with_newline l = l ++ 10 ∷ []

-- by the subterms of a goal and its datatypes
pub record IsScriptBy (goal : Tree) (terms : List Tree) (datatypes : List Sort) (text : List ℕ) : Type 0 where
  pub functions : List Function
  pub order : List ℕ
  pub used : AreJust function_cmp (Has (functions_of datatypes terms)) functions
  pub in_turn : InTurn (part_places terms) order
  pub whole : (x : ℕ) → x < length terms → Has order x
  pub is : text ≡ flat_map with_newline
      (declarations datatypes terms functions ++ assertions datatypes terms order goal)

-- What the script of a goal is: the lines, each with a newline, of its subterms in the order of terms, the datatypes
-- that these tell of, each after those that it is made of, and the functions that are used. A term is defined as soon
-- as it is the least whose parts are.
pub record IsScript (goal : Tree) (text : List ℕ) : Type 0 where
  pub terms : List Tree
  pub datatypes : List Sort
  pub subterms : AreJust tree_cmp (IsSubterm goal) terms
  pub told_of : AreJust depth_cmp (Has (datatypes_of terms)) datatypes
  pub by : IsScriptBy goal terms datatypes text
