-- What closed terms are, by what they are judged to be: truth values in each world, inputs of definitions, and what is negated.
use Rattle.std.proofs.Common.{◌≡◌, Bool, true, false, List, ◌++◌, refl, sym, ap, ◌∙◌, subst}
use Rattle.sc_lists.proofs.MemberLaws.{Has-left, Has-right}
use Rattle.sc_lists.specs.Members.{Has}
use Rattle.sc_names.specs.declared.uid.Uid.{Uid}
use Rattle.sc_schema.specs.declared.declarations.Env.{Env}
use Rattle.sc_schema.specs.Declarations.{Declarations}
use Rattle.sc_values.specs.declared.value.Value.{Value, Value-F, out-Value, roll-Value, roll-out-Value}
use Rattle.sc_values.specs.declared.value.Value.TheVariants as value
use Rattle.sc_values.specs.declared.value.Value.TheVariants.{rolls-Bool}
use Rattle.sc_values.specs.declared.value.Value.TheOpen as v
use Rattle.sc_world.specs.Conforms.{is_bool as is_truth_value}
use Rattle.sc_world.specs.Stores.{Entities}
use Rattle.sc_sorts.specs.declared.sort.Sort.{Sort, Sort-F, out-Sort, map-Sort}
use Rattle.sc_sorts.specs.declared.sort.Sort.TheVariants as sort
use Rattle.sc_sorts.specs.declared.sort.Sort.TheOpen as s
use Rattle.sc_sorts.proofs.OutLaws.{out_Bool}
use Rattle.sc_sorts.specs.declared.node.UnaryOp.TheVariants as unary
use Rattle.sc_terms.specs.Trees.{Tree, one}
use Rattle.sc_terms.specs.TreeSorts.{tree_sort}
use Rattle.sc_terms.specs.Values.{Val, it, yes, truth}
use Rattle.sc_terms.proofs.FoldValues.{truth_yes}
use Rattle.sc_term_laws.proofs.FitLaws.{seen, fits_out}
use Rattle.sc_closure.specs.Fitting.{Test, Seen, fits, fits_step, Fits, as_value, as_option}
use Rattle.sc_closure.specs.Judging.{IsTermOf}
use Rattle.sc_closure.specs.Judging as judged
use Rattle.sc_term_laws.proofs.FitVals.{no_option_at}
use Rattle.sc_closure.specs.Definitions.{inputs_of}
use Rattle.sc_closure.specs.Atoms.{is_bool, is_bool_in}
use Rattle.sc_closure.specs.Closure.{inside, choices, beside, parts, follow}

pub bool_is : (t : Tree) → tree_sort t ≡ sort.Bool → is_bool t ≡ true
bool_is t e = ap (λ (k : Sort). is_bool_in (out-Sort k)) e ∙ ap is_bool_in out_Bool

-- ---- where inputs and parts stand among what goes with a term

pub input_follows : (d : Declarations) (x t : Tree) → Has (inputs_of x) t → Has (follow d x) t
unfolding follow
input_follows d x t h = Has-left (inputs_of x) (inside x ++ (choices x ++ (beside d x ++ parts x))) t h

pub part_follows : (d : Declarations) (x t : Tree) → Has (parts x) t → Has (follow d x) t
unfolding follow
part_follows d x t h =
    Has-right (inputs_of x) (inside x ++ (choices x ++ (beside d x ++ parts x))) t (Has-right (inside x) (choices x ++ (beside d x ++ parts x)) t
    (Has-right (choices x) (beside d x ++ parts x) t (Has-right (beside d x) (parts x) t h)))

-- ---- what is negated is a truth value

module _ (d : Declarations) (env : Env) (written : List Uid) where
  negated_by : (k : Sort) (t x : Tree) → IsTermOf d env written k t → t ≡ one unary.Not x → IsTermOf d env written sort.Bool x
  negated_by _ _ x (judged.of_not a h stays) e = let same : a ≡ x = cc in subst (IsTermOf d env written sort.Bool) same h
  negated_by _ _ x _ e = absurd cc

  pub negated_is : (x : Tree) (k : Sort) → IsTermOf d env written k (one unary.Not x) → IsTermOf d env written sort.Bool x
  negated_is x k h = negated_by k (one unary.Not x) x h refl

-- ---- a value that fits the sort of truth values

bool_in : (x : Value-F Value) → is_truth_value x ≡ true → (b : Bool) × (x ≡ v.Bool b)
bool_in (v.Bool b) h = (b, refl)
bool_in _ h = absurd cc

tests : (x : Value) → fits sort.Bool x ≡ is_truth_value (out-Value x)
tests x = ap (λ (q : Test). q x) (fits_out sort.Bool) ∙ ap (λ (k : Sort-F Sort). fits_step (map-Sort Sort Seen seen k) x) out_Bool

module _ (d : Declarations) (es : Entities) where
  value_is : (x : Value) → fits sort.Bool x ≡ true → (b : Bool) × (x ≡ value.Bool b)
  value_is x h =
      let k = bool_in (out-Value x) (sym (tests x) ∙ h) in
      (k.0, sym (roll-out-Value x) ∙ ap roll-Value k.1 ∙ rolls-Bool k.0)

  pub truth_is : (x : Val) → Fits d es sort.Bool x → x ≡ yes (truth x)
  truth_is _ (as_value x plain is) = let k = value_is x is.of_sort in ap it k.1 ∙ ap yes (sym (truth_yes k.0)) ∙ ap (λ (y : Value). yes (truth (it y))) (sym k.1)
  truth_is _ (as_option o plain is) = absurd (let no : true ≡ false = sym plain ∙ no_option_at sort.Bool s.Bool out_Bool refl in cc)
