-- Which numbers of a table stand for terms that have a body in a script. No public promise speaks of it.
use Rattle.std.specs.Prelude.{ℕ, Bool, true, List, if◌then◌else◌}
use Rattle.sc_sorts.specs.declared.node.Node.{Node}
use Rattle.sc_terms.specs.Tables.{tree}
use Rattle.sc_smtlib_terms.specs.Forms.{has_form}
use Rattle.sc_smtlib.specs.Marks.{is_marked}

-- whether the term of a number has one, where it is marked
abbrev pub is_spoken : List Node → List Bool → ℕ → Bool
is_spoken xs marks n = if is_marked marks n then has_form (tree xs n) else true
