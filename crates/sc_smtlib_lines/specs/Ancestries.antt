-- What a script says of ancestors: no entity is one of its own, and theirs are its own too.
use Rattle.std.specs.Prelude.{◌&&◌, ℕ, Bool, not, List, [], ◌∷◌, flat_map, if◌then◌else◌}
use Rattle.sc_sorts.specs.declared.sort.Sort.{Sort}
use Rattle.sc_sorts.specs.contracts.sort.SortPartialEq.TheImpl.{ghosts as sorts}
use Rattle.sc_sorts.specs.declared.node.UnaryOp.TheVariants as unary
use Rattle.sc_terms.specs.Trees.{Tree, one}
use Rattle.sc_terms.specs.TreeSorts.{tree_sort}
use Rattle.sc_terms.specs.Order.{tree_eq}
use Rattle.sc_smtlib_forms.specs.Forms.{with_one, with_two}
use Rattle.sc_smtlib_forms.specs.declared.form.Form.TheVariants as form
use Rattle.sc_smtlib_terms.specs.Calls.{ancestors_call}
use Rattle.sc_smtlib_lines.specs.declared.functions.Function.{Function}
use Rattle.sc_smtlib_lines.specs.Functions.{ancestors_function}
use Rattle.sc_smtlib_lines.specs.Names.{term_name}

-- an entity, and the sort of which its ancestors are asked
abbrev pub Ancestry : Type 0
Ancestry = Tree × Sort

abbrev pub ancestry_of : Tree → List Ancestry
ancestry_of (one (unary.Ancestors u) e) = (e, u) ∷ []
ancestry_of _ = []

-- those that terms speak of
abbrev pub ancestries : List Tree → List Ancestry
ancestries ts = flat_map ancestry_of ts

-- whether the entity's own sort is asked
abbrev pub is_own : Ancestry → Bool
is_own a = sorts.eq a.1 (tree_sort a.0)

-- that an entity is no ancestor of its own
abbrev pub own_text : List Sort → List Tree → Ancestry → List ℕ
own_text ds ts a =
    with_one form.Assertion (with_one form.Not
    (with_two form.Member (term_name ts a.0) (ancestors_call ds (tree_sort a.0) (tree_sort a.0) (term_name ts a.0))))

-- the line that says it
abbrev pub own_line : List Sort → List Tree → Ancestry → List (List ℕ)
own_line ds ts a = if is_own a then own_text ds ts a ∷ [] else []

-- whether the entity of the second may be an ancestor of the first's
abbrev pub is_above : Ancestry → Ancestry → Bool
is_above a b = sorts.eq a.1 (tree_sort b.0) && not (tree_eq a.0 b.0)

-- that the ancestors of the second's entity are the first's too, where it is one itself
abbrev pub nested_text : List Sort → List Tree → Ancestry → Ancestry → List ℕ
nested_text ds ts a b =
    with_one form.Assertion (with_two form.Implication
    (with_two form.Member (term_name ts b.0) (ancestors_call ds (tree_sort a.0) a.1 (term_name ts a.0)))
    (with_two form.Subset (ancestors_call ds a.1 b.1 (term_name ts b.0))
    (ancestors_call ds (tree_sort a.0) b.1 (term_name ts a.0))))

abbrev pub nested_line : List Sort → List Tree → Ancestry → Ancestry → List (List ℕ)
nested_line ds ts a b = if is_above a b then nested_text ds ts a b ∷ [] else []

-- the function that the line uses and no term may call
abbrev pub nested_function : List Sort → Ancestry → Ancestry → List Function
nested_function ds a b = if is_above a b then ancestors_function ds (tree_sort a.0) b.1 ∷ [] else []

-- of each with each
abbrev pub of_each : {Y : Type 0} → (Ancestry → Ancestry → List Y) → List Ancestry → List Y
of_each f all = flat_map (λ a. flat_map (f a) all) all
