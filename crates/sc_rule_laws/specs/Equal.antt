-- The rules of equations, choices, records and options.
use Rattle.std.proofs.Common.{refl, ap}
use Rattle.std.specs.Prelude.{◌≡◌, ◌&&◌, ℕ, zero, suc, Bool, true, List, [], ◌∷◌, map, Option, Some, None, slice_get}
use Rattle.sc_sorts.specs.declared.sort.Sort.{Sort}
use Rattle.sc_sorts.specs.Inside.{SortField, SortFields, held_sort}
use Rattle.sc_sorts.specs.declared.node.UnaryOp.{UnaryOp}
use Rattle.sc_terms.specs.Trees.{Tree, one, choice}
use Rattle.sc_terms.specs.TreeSorts.{tree_sort}
use Rattle.sc_terms.specs.Folds.{equal_term, field_term, present_term, held_term, default_term}
use Rattle.sc_rule_laws.specs.Signed.{Said, so, unless, given}
use Rattle.sc_rule_laws.specs.Terms.{one_sort, is_named, is_option, fields_of}

-- whether two records have one field
abbrev pub field_equal : Tree → Tree → SortField → Tree
field_equal r s f = equal_term (field_term f.0 r) (field_term f.0 s)

-- EQ1: of strings and entities, what equals one thing is equal
abbrev pub eq1 : Tree → Tree → Tree → Said
eq1 a b c =
    given (is_named a && (is_named b && is_named c))
    (unless (equal_term a b) ∷ unless (equal_term b c) ∷ so (equal_term a c) ∷ [])

-- EQ2: a choice is what its condition says
abbrev pub eq2 : Tree → ℕ → Said
eq2 (choice c a b) zero = Some (unless c ∷ so (equal_term (choice c a b) a) ∷ [])
eq2 (choice c a b) (suc zero) = Some (so c ∷ so (equal_term (choice c a b) b) ∷ [])
eq2 _ _ = None

-- EQ3: equal records have equal fields
abbrev pub eq3_of : Tree → Tree → Option SortField → Said
eq3_of r s (Some f) = given (one_sort r s) (unless (equal_term r s) ∷ so (field_equal r s f) ∷ [])
eq3_of r s None = None

abbrev pub field_at : Option SortFields → ℕ → Option SortField
field_at (Some fs) i = slice_get fs i
field_at None i = None

abbrev pub eq3 : Tree → Tree → ℕ → Said
eq3 r s i = eq3_of r s (field_at (fields_of r) i)

-- EQ4: records with equal fields are equal
abbrev pub eq4_of : Tree → Tree → Option SortFields → Said
eq4_of r s (Some fs) = given (one_sort r s) (so (equal_term r s) ∷ map (λ f. unless (field_equal r s f)) fs)
eq4_of r s None = None

abbrev pub eq4 : Tree → Tree → Said
eq4 r s = eq4_of r s (fields_of r)

-- two options of one sort
abbrev pub are_options : Tree → Tree → Bool
are_options o q = one_sort o q && is_option o

-- EQ5: where one of two equal options holds a value, so does the other
abbrev pub eq5 : Tree → Tree → Said
eq5 o q = given (are_options o q) (unless (equal_term o q) ∷ unless (present_term o) ∷ so (present_term q) ∷ [])

-- EQ6: equal options hold equal values
abbrev pub eq6 : Tree → Tree → Said
eq6 o q = given (are_options o q) (unless (equal_term o q) ∷ so (equal_term (held_term o) (held_term q)) ∷ [])

-- EQ7: options are equal that hold nothing, or equal values
abbrev pub eq7 : Tree → Tree → ℕ → Said
eq7 o q zero = given (are_options o q) (so (equal_term o q) ∷ so (present_term o) ∷ so (present_term q) ∷ [])
eq7 o q (suc zero) =
    given (are_options o q)
    (so (equal_term o q) ∷ unless (present_term o) ∷ unless (present_term q)
    ∷ unless (equal_term (held_term o) (held_term q)) ∷ [])
eq7 o q _ = None

-- EQ8: what an option holds that holds nothing is the default
abbrev pub eq8 : Tree → Said
eq8 o =
    given (is_option o)
    (so (present_term o) ∷ so (equal_term (held_term o) (default_term (held_sort (tree_sort o)))) ∷ [])

-- ---- worked rows

pub eq2_chosen : (c a b : Tree) → eq2 (choice c a b) 0 ≡ Some (unless c ∷ so (equal_term (choice c a b) a) ∷ [])
eq2_chosen c a b = refl

pub eq2_of_no_choice : (o : UnaryOp) (a : Tree) → eq2 (one o a) 0 ≡ None
eq2_of_no_choice o a = refl

pub eq4_of_two : (r s : Tree) (m n : List ℕ) (k l : Sort) → one_sort r s ≡ true
    → eq4_of r s (Some ((m, k) ∷ (n, l) ∷ []))
    ≡ Some (so (equal_term r s) ∷ unless (field_equal r s (m, k)) ∷ unless (field_equal r s (n, l)) ∷ [])
eq4_of_two r s m n k l e =
    ap (λ test. given test (so (equal_term r s) ∷ unless (field_equal r s (m, k))
    ∷ unless (field_equal r s (n, l)) ∷ [])) e

pub eq7_held : (o q : Tree) → are_options o q ≡ true
    → eq7 o q 1
    ≡ Some (so (equal_term o q) ∷ unless (present_term o) ∷ unless (present_term q)
    ∷ unless (equal_term (held_term o) (held_term q)) ∷ [])
eq7_held o q e =
    ap (λ test. given test (so (equal_term o q) ∷ unless (present_term o) ∷ unless (present_term q)
    ∷ unless (equal_term (held_term o) (held_term q)) ∷ [])) e
