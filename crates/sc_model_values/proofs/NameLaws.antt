-- The numbers of closed terms, and their uids.
use Rattle.std.proofs.Common.{◌≡◌, ℕ, List}
use Rattle.sc_clauses.specs.Assignments.{Assignment}
use Rattle.sc_terms.specs.Trees.{Tree}
use Rattle.sc_terms.specs.TreeSorts.{tree_sort}
use Rattle.sc_term_laws.specs.Tests.{name_of}
use Rattle.sc_footprint.specs.Problems.{Posed}
use Rattle.sc_model_values.specs.Models.{model, name_in}

pub uid_told : (p : Posed) (m : Assignment) (names : List (List ℕ)) (t : Tree) (name id : List ℕ) → name ≡ name_of (tree_sort t) → id ≡ name_in p names t
    → record { type_name = name; id = id } ≡ (model p m names).uid t
unfolding model
uid_told p m names t name id e f = λ i. record { type_name = e i; id = f i }
