-- The truths of a well-formed world falsify nothing.
use Rattle.std.proofs.Common.{◌≡◌, ◌||◌, ◌+◌, ◌<◌, ℕ, arith, Bool, true, false, not, cond, List, [], ◌∷◌, map, Some, IfSome, refl, sym, ap, ◌∙◌, subst}
use Rattle.std.specs.List.{AllByRecursion, All}
use Rattle.std.proofs.lemmas.List.Elements.{All-from_recursion}
use Rattle.sc_lists.proofs.ListLaws.{all_weaker}
use Rattle.sc_lists.proofs.MemberLaws.{Has-AllByRecursion}
use Rattle.sc_names.specs.declared.uid.Uid.{Uid}
use Rattle.sc_schema.specs.declared.declarations.Env.{Env}
use Rattle.sc_schema.specs.Declarations.{Declarations}
use Rattle.sc_schema.specs.Lawful.{IsLawful}
use Rattle.sc_values.specs.declared.value.Value.{Value, Value-F, out-Value}
use Rattle.sc_values.specs.declared.value.Value.TheOpen as v
use Rattle.sc_world.specs.declared.world.World.{World}
use Rattle.sc_world.specs.Conforms.{is_bool}
use Rattle.sc_world.specs.WellFormed.{IsWellFormed}
use Rattle.sc_sorts.specs.declared.sort.Sort.{Sort}
use Rattle.sc_sorts.specs.declared.sort.Sort.TheVariants as sort
use Rattle.sc_sorts.specs.declared.sort.Sort.TheVariants.{rolls-Bool}
use Rattle.sc_sorts.specs.declared.sort.Sort.TheOpen as s
use Rattle.sc_sorts.proofs.OutLaws.{out_Bool}
use Rattle.sc_sorts.specs.declared.node.Leaf.TheVariants.{Literal}
use Rattle.sc_sorts.specs.declared.node.Literal.TheVariants.{Bool as bool}
use Rattle.sc_sorts.specs.declared.node.UnaryOp.TheVariants.{Not}
use Rattle.sc_bits.specs.Blocks.{AreBlockBits}
use Rattle.sc_terms.specs.Trees.{Tree, leaf, one}
use Rattle.sc_terms.specs.TreeSorts.{tree_sort}
use Rattle.sc_terms.specs.Folds.{bit_term}
use Rattle.sc_terms.specs.Values.{Val, it, val, truth, seen, bool_seen}
use Rattle.sc_terms.proofs.FoldValues.{truth_is, truth_yes, one_is, not_truth}
use Rattle.sc_term_definitions.specs.Definitions.{shape_of, inputs_of}
use Rattle.sc_term_definitions.specs.Truths.{defined, truths_of, DefinitionsHold, AddressesHold}
use Rattle.sc_term_laws.specs.Fitting.{Fits, as_value, as_option}
use Rattle.sc_term_laws.specs.Judging.{IsTermOf}
use Rattle.sc_term_laws.specs.Judging as judged
use Rattle.sc_term_laws.proofs.FitVals.{fits_at, no_option_at}
use Rattle.sc_term_laws.proofs.TermsFitLaws.{value_fits}
use Rattle.sc_rule_laws.specs.Signed.{Signed, Said, is_true, some_holds, Holds}
use Rattle.sc_rule_laws.proofs.EqualSound.{eq1_holds, eq2_holds, eq5_holds, eq6_holds, eq8_holds}
use Rattle.sc_rule_laws.proofs.SetSound.{se1_holds, se3_holds, se4_holds, se5_holds, se6_holds, se7_holds}
use Rattle.sc_rule_laws.proofs.WrittenSound.{se9_holds, se10_holds}
use Rattle.sc_rule_laws.proofs.EntitySound.{en1_holds, en2_holds, en3_holds}
use Rattle.sc_rule_laws.proofs.StringSound.{st1_holds}
use Rattle.sc_rule_laws.proofs.TermsHold.{eq3_true, eq4_true, eq7_true, se2_true, se8_true, en4_true, en5_true, en6_true, en7_true, en8_true, eq9_true, st3_true}
use Rattle.sc_closure_rules.specs.Closure.{Closed}
use Rattle.sc_model_laws.specs.Assignments.{lit, some_hold}
use Rattle.sc_model_laws.specs.Consistent as rule
use Rattle.sc_model_laws.specs.Consistent.{IsRuleAt, IsConsistent}
use Rattle.sc_model_laws.specs.Laws.{truths_in}
use Rattle.sc_model_laws.proofs.ClaimLaws.{AreTerms}
use Rattle.sc_model_laws.proofs.ClosedLaws.{of_input, ip_bit_closed}

-- a value of the sort of truth values is one
bool_by : (x : Value) (y : Value-F Value) → out-Value x ≡ y → is_bool y ≡ true → (b : Bool) × (seen (it x) ≡ Some b)
bool_by x (v.Bool b) e h = (b, ap bool_seen e)
bool_by x _ e h = absurd cc

negated : (d : Declarations) (env : Env) (literals : List Uid) (k : Sort) (a : Tree) → IsTermOf d env literals k (one Not a) → IsTermOf d env literals sort.Bool a
negated d env literals _ a (judged.of_not _ h e) = h

module _ (d : Declarations) (env : Env) (literals : List Uid) (w : World) (lawful : IsLawful d) (well : IsWellFormed d env literals w) where
  seen_bool : (a : Tree) → IsTermOf d env literals sort.Bool a → (b : Bool) × (seen (val a w) ≡ Some b)
  seen_bool a h = by (val a w) (value_fits d env literals w lawful well sort.Bool a h) where
    by : (x : Val) → Fits d w.store sort.Bool x → (b : Bool) × (seen x ≡ Some b)
    by _ (as_value x none f) = bool_by x (out-Value x) refl (ap (λ (z : Value → Bool). z x) (sym (fits_at sort.Bool s.Bool rolls-Bool)) ∙ f.of_sort)
    by _ (as_option o some f) = let both : true ≡ false = sym some ∙ no_option_at sort.Bool s.Bool out_Bool refl in absurd cc

  pub lit_told : (k : Sort) (x : Tree) → IsTermOf d env literals k x → lit (truths_in w) x ≡ is_true x w
  unfolding lit
  lit_told k (leaf (Literal (bool b))) h = sym (ap truth (truth_is b w) ∙ truth_yes b)
  lit_told k (one Not a) h =
      let inside = negated d env literals k a h in
      let b = seen_bool a inside in
      ap not (lit_told sort.Bool a inside) ∙ sym (not_truth (val a w) b.0 b.1) ∙ ap truth (sym (one_is Not a w))
  lit_told k x h = refl

module _ (d : Declarations) (env : Env) (literals : List Uid) (goal : Tree) (terms : AreTerms d env literals goal) (w : World) (lawful : IsLawful d) (well : IsWellFormed d env literals w) where
  pub closed_told : (x : Tree) → Closed d env goal x → lit (truths_in w) x ≡ is_true x w
  closed_told x c = lit_told d env literals w lawful well (tree_sort x) x (terms.made x c)

  all_told : (ts : List Tree) → AllByRecursion (Closed d env goal) ts → map (lit (truths_in w)) ts ≡ truths_of ts w
  all_told [] h = refl
  all_told (t ∷ ts) h =
      let first = closed_told t h.0 in
      let rest = all_told ts h.1 in
      λ i. first i ∷ rest i

  signed_told : (parts : List Signed) → AllByRecursion (λ (s : Signed). Closed d env goal s.1) parts → some_hold (truths_in w) parts ≡ some_holds w parts
  unfolding some_hold some_holds
  signed_told [] h = refl
  signed_told (p ∷ parts) h =
      let first = closed_told p.1 h.0 in
      let rest = signed_told parts h.1 in
      λ i. cond p.0 (first i) (not (first i)) || rest i

  all_terms : (ts : List Tree) → AllByRecursion (Closed d env goal) ts → All (λ t. IsTermOf d env literals (tree_sort t) t) ts
  all_terms ts h = All-from_recursion (λ t. IsTermOf d env literals (tree_sort t) t) ts (all_weaker (Closed d env goal) (λ t. IsTermOf d env literals (tree_sort t) t) (λ t c. terms.made t c) ts h)

  rule_holds : (said : Said) → IsRuleAt d (Closed d env goal) said → Holds w said
  rule_holds _ (rule.of_eq1 a b c p q r) = eq1_holds w a b c
  rule_holds _ (rule.of_eq2 x i p) = eq2_holds w x i
  rule_holds _ (rule.of_eq3 r q i c e) = eq3_true d env literals w lawful well r q i (terms.made r c) (terms.made q e)
  rule_holds _ (rule.of_eq4 r q c e) = eq4_true d env literals w lawful well r q (terms.made r c) (terms.made q e)
  rule_holds _ (rule.of_eq5 o q c e) = eq5_holds w o q
  rule_holds _ (rule.of_eq6 o q c e) = eq6_holds w o q
  rule_holds _ (rule.of_eq7 o q i c e) = eq7_true d env literals w lawful well o q i (terms.made o c) (terms.made q e)
  rule_holds _ (rule.of_eq8 o c) = eq8_holds w o
  rule_holds _ (rule.of_se1 x y z c e f) = se1_holds w x y z
  rule_holds _ (rule.of_se2 x z c e) = se2_true d env literals w lawful well x z (terms.made x c) (terms.made z e)
  rule_holds _ (rule.of_se3 x z i c e) = se3_holds w x z i
  rule_holds _ (rule.of_se4 x y z c e f) = se4_holds w x y z
  rule_holds _ (rule.of_se5 x y i c e) = se5_holds w x y i
  rule_holds _ (rule.of_se6 x y i c e) = se6_holds w x y i
  rule_holds _ (rule.of_se7 x y z c e f) = se7_holds w x y z
  rule_holds _ (rule.of_se8 x y i c e) = se8_true d env literals w lawful well x y i (terms.made x c) (terms.made y e)
  rule_holds _ (rule.of_se9 x y i c e) = se9_holds w x y i
  rule_holds _ (rule.of_se10 x y i c e) = se10_holds w x y i
  rule_holds _ (rule.of_en1 x y i z p q r) = en1_holds w x y i z
  rule_holds _ (rule.of_en2 x y z c e f) = en2_holds w x y z
  rule_holds _ (rule.of_en3 x y i z p q r) = en3_holds w x y i z
  rule_holds _ (rule.of_en4 e c) = en4_true d env literals w lawful well e
  rule_holds _ (rule.of_en5 e f x y p q r t) = en5_true d env literals w lawful well e f x y
  rule_holds _ (rule.of_en6 a c) = en6_true d env literals w lawful well a (terms.made a c)
  rule_holds _ (rule.of_en7 y x c e) = en7_true d env literals w lawful well y x
  rule_holds _ (rule.of_en8 x c) = en8_true d env literals w lawful well x (terms.made x c)
  rule_holds _ (rule.of_eq9 x c) = eq9_true d env literals w lawful well x (terms.made x c)
  rule_holds _ (rule.of_st1 qs a b i c e) = st1_holds w qs a b i
  rule_holds _ (rule.of_st3 qs signs ts c few) = st3_true d env literals w lawful well qs signs ts (all_terms ts c) few

  module _ (hold : DefinitionsHold) (addressed : AddressesHold) where
    bit_told : (x : Tree) → Closed d env goal x → tree_sort x ≡ sort.Ip → (i : ℕ) → i < 257 → lit (truths_in w) (bit_term x i) ≡ is_true (bit_term x i) w
    bit_told x c e i b = closed_told (bit_term x i) (ip_bit_closed d env goal x i e c b)

    block_told : (x : Tree) → Closed d env goal x → tree_sort x ≡ sort.Ip → AreBlockBits (λ i. is_true (bit_term x i) w) → AreBlockBits (λ i. lit (truths_in w) (bit_term x i))
    block_told x c e h = record {
      mask = λ j b. rw (bit_told x c e (2 + j) (omega (arith, b)), bit_told x c e (1 + j) (omega (arith, b))) (h.mask j b);
      short_mask = λ j a b. rw (bit_told x c e 0 (omega arith), bit_told x c e (1 + j) (omega (arith, b))) (h.short_mask j a b);
      short_address = λ j a b. rw (bit_told x c e 0 (omega arith), bit_told x c e (129 + j) (omega (arith, b))) (h.short_address j a b);
    }

    pub truths_consistent : IsConsistent d env goal (truths_in w)
    truths_consistent = record {
      definitions = λ x c e.
          let told = hold d env literals w x lawful well (subst (λ (k : Sort). IsTermOf d env literals k x) e (terms.made x c)) in
          subst (λ (us : List Bool). IfSome (defined (shape_of x) us) (λ b. lit (truths_in w) x ≡ b)) (sym (all_told (inputs_of x) (Has-AllByRecursion (Closed d env goal) (inputs_of x) (λ t h. of_input d env goal x t c h))))
          (subst (λ (u : Bool). IfSome (defined (shape_of x) (truths_of (inputs_of x) w)) (λ b. u ≡ b)) (sym (closed_told x c)) told);
      addresses = λ x c e. block_told x c e (addressed d env literals w x lawful well (subst (λ (k : Sort). IsTermOf d env literals k x) e (terms.made x c)));
      rules = λ parts r all. signed_told parts all ∙ rule_holds (Some parts) r;
    }
