-- What an assignment of a problem's atoms says of terms, with names for the closed ones.
use Rattle.std.proofs.Common.{ap}
use Rattle.std.specs.Prelude.{◌≡◌, ◌∷◌, ℕ, Bool, false, List, [], unwrap_or}
use Rattle.sc_clauses.specs.Assignments.{Assignment, value_of}
use Rattle.sc_terms.specs.Trees.{Tree}
use Rattle.sc_terms.specs.TreeSorts.{tree_sort}
use Rattle.sc_term_laws.specs.Tests.{name_of}
use Rattle.sc_footprint.specs.Problems.{Posed, closed_terms, numbered, number_among, atom_number}
use Rattle.sc_model_laws.specs.Vals.{Model}

-- the truth of a term's atom, and `false` where it has none
abbrev pub truth_in : Posed → Assignment → Tree → Bool
truth_in p m t = unwrap_or (value_of m (atom_number p t)) false

-- the name of a closed term, by its number; no other term has one
abbrev pub name_in : Posed → List (List ℕ) → Tree → List ℕ
name_in p names t = unwrap_or (numbered names (number_among (closed_terms p) t)) []

-- a string's name is its text, and an entity's its id
unfoldable pub model : Posed → Assignment → List (List ℕ) → Model
model p m names = record {
  truths = truth_in p m;
  closed = closed_terms p;
  text = name_in p names;
  uid = λ t. record { type_name = name_of (tree_sort t); id = name_in p names t };
}

-- ---- worked rows

-- a term without an atom isn't true, and one that isn't closed has no name
pub without_atom : (p : Posed) (m : Assignment) (t : Tree) → atom_number p t ≡ 0 → truth_in p m t ≡ false
without_atom p m t e = ap (λ (n : ℕ). unwrap_or (value_of m n) false) e

pub without_name : (p : Posed) (names : List (List ℕ)) (t : Tree) → number_among (closed_terms p) t ≡ 0
    → name_in p names t ≡ []
without_name p names t e = ap (λ (n : ℕ). unwrap_or (numbered names n) []) e

-- the second name is that of the second closed term
pub second_name : (p : Posed) (a b : List ℕ) (t : Tree) → number_among (closed_terms p) t ≡ 2
    → name_in p (a ∷ b ∷ []) t ≡ b
second_name p a b t e = ap (λ (n : ℕ). unwrap_or (numbered (a ∷ b ∷ []) n) []) e
