-- The terms that go with a term: what is no truth value has no definition, so what is inside it goes first.
use Rattle.std.proofs.Common.{◌≡◌, ◌++◌, ℕ, zero, suc, true, false, List, [], ◌∷◌, slice_get, Some, IsSome, option_map, refl, sym, ap, ◌∙◌}
use Rattle.std.proofs.lemmas.Option.{slice_get-map}
use Rattle.sc_schema.specs.Declarations.{Declarations}
use Rattle.sc_sorts.specs.declared.sort.Sort.{Sort, Sort-F, out-Sort}
use Rattle.sc_sorts.specs.declared.sort.Sort.TheOpen as s
use Rattle.sc_sorts.specs.declared.sort.Sort.TheVariants as sort
use Rattle.sc_sorts.specs.Inside.{SortField, SortFields}
use Rattle.sc_sorts.proofs.OutLaws.{out_Bool}
use Rattle.sc_sorts.specs.declared.node.Leaf.TheVariants as leafs
use Rattle.sc_sorts.specs.declared.node.Literal.TheVariants as literals
use Rattle.sc_sorts.specs.declared.node.UnaryOp.TheVariants as unary
use Rattle.sc_sorts.specs.declared.node.BinaryOp.TheVariants as binary
use Rattle.sc_terms.specs.Trees.{Tree, leaf, one, two, choice}
use Rattle.sc_terms.specs.TreeSorts.{tree_sort}
use Rattle.sc_terms.specs.Folds.{field_term}
use Rattle.sc_footprint.specs.TermDefinitions.{definition, inputs_of, chosen_of}
use Rattle.sc_footprint.specs.Atoms.{is_bool, is_bool_in}
use Rattle.sc_footprint.specs.Closure.{follow, inside, choices, beside, parts, field_terms}

no_bool : {X : Type 0} → is_bool_in (out-Sort sort.Bool) ≡ false → X
no_bool h = let no : true ≡ false = ap is_bool_in (sym out_Bool) ∙ h in absurd cc

chosen_none : (k : Sort-F Sort) (c a b : Tree) → is_bool_in k ≡ false → (chosen_of k c a b).inputs ≡ []
chosen_none s.Bool c a b h = absurd cc
chosen_none _ c a b h = refl

no_inputs : (x : Tree) → is_bool x ≡ false → inputs_of x ≡ []
unfolding definition tree_sort
no_inputs (leaf (leafs.Literal (literals.Bool true))) h = refl
no_inputs (one (unary.Bit i) a) h = no_bool h
no_inputs (one (unary.CarryIn i) a) h = no_bool h
no_inputs (one (unary.ProductRow i j) a) h = no_bool h
no_inputs (one (unary.ProductCarry i j) a) h = no_bool h
no_inputs (two binary.And a b) h = no_bool h
no_inputs (two binary.Or a b) h = no_bool h
no_inputs (two binary.Equal a b) h = no_bool h
no_inputs (two binary.AddOverflows a b) h = no_bool h
no_inputs (two binary.SubtractOverflows a b) h = no_bool h
no_inputs (two binary.MultiplyOverflows a b) h = no_bool h
no_inputs (two binary.Less a b) h = no_bool h
no_inputs (two binary.InRange a b) h = no_bool h
no_inputs (two (binary.Low i) a b) h = no_bool h
no_inputs (choice c a b) h = chosen_none (out-Sort (tree_sort a)) c a b h
no_inputs _ h = refl

front : (xs ys : List Tree) (i : ℕ) → IsSome (slice_get xs i) → slice_get (xs ++ ys) i ≡ slice_get xs i
front [] ys i h = absurd cc
front (x ∷ xs) ys zero h = refl
front (x ∷ xs) ys (suc i) h = front xs ys i h

pub follows : (d : Declarations) (x : Tree) (i : ℕ) → is_bool x ≡ false → IsSome (slice_get (inside x) i) → slice_get (follow d x) i ≡ slice_get (inside x) i
unfolding follow
follows d x i h there =
    ap (λ (l : List Tree). slice_get (l ++ (inside x ++ (choices x ++ (beside d x ++ parts x)))) i) (no_inputs x h)
    ∙ front (inside x) (choices x ++ (beside d x ++ parts x)) i there

-- the field of a record at a place
pub field_place : (fs : SortFields) (x : Tree) (i : ℕ) (f : SortField) → slice_get fs i ≡ Some f → slice_get (field_terms fs x) i ≡ Some (field_term f.0 x)
field_place fs x i f g = slice_get-map (λ (u : SortField). field_term u.0 x) fs i ∙ ap (option_map (λ (u : SortField). field_term u.0 x)) g
