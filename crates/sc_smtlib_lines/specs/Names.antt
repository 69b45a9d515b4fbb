-- The names of terms, and their definitions by names. The terms of a script are a list, in the order of terms; each is known by
-- its place, counted from 1.
use Rattle.std.specs.Prelude.{◌-◌, ℕ, List, map}
use Rattle.std.specs.Fmt.{decimal}
use Rattle.sc_sorts.specs.declared.sort.Sort.{Sort}
use Rattle.sc_sorts.specs.declared.node.ManyOp.{ManyOp}
use Rattle.sc_sorts.specs.declared.node.ManyOp.TheVariants as manys
use Rattle.sc_terms.specs.Trees.{Tree, leaf, one, two, choice, many}
use Rattle.sc_terms.specs.TreeSorts.{tree_sort}
use Rattle.sc_closure_rules.specs.Closure.{parts, trees_in}
use Rattle.sc_footprint.specs.Problems.{number_among}
use Rattle.sc_smtlib_forms.specs.Forms.{with_one, with_three}
use Rattle.sc_smtlib_forms.specs.declared.form.Form.TheVariants as form
use Rattle.sc_smtlib_terms.specs.Sets.{set_text}
use Rattle.sc_smtlib_terms.specs.Sorts.{record_name, sort_text}
use Rattle.sc_smtlib_terms.specs.Defaults.{record_text}
use Rattle.sc_smtlib_terms.specs.Bodies.{leaf_body, unary_body, binary_body}

abbrev pub term_name : List Tree → Tree → List ℕ
term_name ts t = with_one form.TermName (decimal (number_among ts t))

-- a record or a set of terms
abbrev pub many_body : List Sort → ManyOp → Sort → List (List ℕ) → List ℕ
many_body ds manys.Record k names = record_text (record_name ds k) names
many_body ds (manys.Set member) k names = set_text (sort_text ds k) names

-- a term by the names of its parts
abbrev pub body : List Sort → List Tree → Tree → List ℕ
body ds ts (leaf l) = leaf_body ds l
body ds ts (one o a) = unary_body ds o (tree_sort a) (term_name ts a)
body ds ts (two o a b) = binary_body ds o (tree_sort a) (term_name ts a) (term_name ts b)
body ds ts (choice c a b) = with_three form.Choice (term_name ts c) (term_name ts a) (term_name ts b)
body ds ts (many o us) = many_body ds o (tree_sort (many o us)) (map (term_name ts) (trees_in us))

abbrev pub definition : List Sort → List Tree → Tree → List ℕ
definition ds ts t = with_three form.Definition (term_name ts t) (sort_text ds (tree_sort t)) (body ds ts t)

-- the places of terms, counted from 0
abbrev pub places_of : List Tree → List Tree → List ℕ
places_of ts ps = map (λ p. number_among ts p - 1) ps

-- for each term the places of its parts, counted from 0
abbrev pub part_places : List Tree → List (List ℕ)
part_places ts = map (λ t. places_of ts (parts t)) ts
