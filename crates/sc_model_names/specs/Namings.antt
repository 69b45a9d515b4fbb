-- The name of a term: a string's text, an entity's id, and the empty text of any other.
use Rattle.std.specs.Prelude.{◌≡◌, [], refl}
use Rattle.sc_sorts.specs.declared.sort.Sort.{Sort, Sort-F, out-Sort}
use Rattle.sc_sorts.specs.declared.sort.Sort.TheOpen as s
use Rattle.sc_terms.specs.Trees.{Tree}
use Rattle.sc_terms.specs.TreeSorts.{tree_sort}
use Rattle.sc_model_laws.specs.Assignments.{Assignment}
use Rattle.sc_model_laws.specs.Names.{Name, Named, or_fresh, name_in, are_equal}
use Rattle.sc_model_names.specs.Ids.{is_same}

abbrev pub name_by : Sort-F Sort → Name → Name → Name
name_by s.String text id = text
name_by (s.Entity name choices) text id = id
name_by _ text id = []

abbrev pub name_of_term : Assignment → Named → Named → Tree → Name
name_of_term m strings ids t =
    name_by (out-Sort (tree_sort t)) (or_fresh (name_in (are_equal m) strings t) [])
    (or_fresh (name_in (is_same m) ids t) [])

-- ---- worked rows

pub of_string : (text id : Name) → name_by s.String text id ≡ text
of_string text id = refl

pub of_number : (text id : Name) → name_by s.Long text id ≡ []
of_number text id = refl
