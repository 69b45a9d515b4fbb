-- The laws of the values that a consistent assignment gives.
use Rattle.std.proofs.Common.{◌≡◌, List, refl, sym, ap, ◌∙◌}
use Rattle.sc_names.specs.declared.uid.Uid.{Uid}
use Rattle.sc_schema.specs.declared.declarations.Env.{Env}
use Rattle.sc_schema.specs.Declarations.{Declarations}
use Rattle.sc_schema.specs.Lawful.{IsLawful}
use Rattle.sc_sorts.specs.declared.sort.Sort.{Sort}
use Rattle.sc_terms.specs.Trees.{Tree}
use Rattle.sc_terms.specs.TreeSorts.{tree_sort}
use Rattle.sc_term_definitions.specs.Truths.{DefinitionsHold, AddressesHold}
use Rattle.sc_term_laws.specs.Judging.{IsTermOf}
use Rattle.sc_closure_rules.specs.Closure.{Closed}
use Rattle.sc_closure_rules.specs.Goals.{IsGoal}
use Rattle.sc_model_laws.specs.Laws.{EquationsAgree, TermsAreRight, TruthsAreRight, ClassesBound, HasModel, NamesAreTexts, TruthsAreConsistent, TruthsAreTold}
use Rattle.sc_model_laws.specs.Vals.{val_of}
use Rattle.sc_model_laws.proofs.BoundLaws.{classes_bound}
use Rattle.sc_model_laws.proofs.EqualityLaws.{strings_equated}
use Rattle.sc_model_laws.proofs.ClaimLaws.{AreTerms, AreAddresses}
use Rattle.sc_model_laws.proofs.SetClaims.{claims}
use Rattle.sc_model_laws.proofs.ModelLaws.{is_model}
use Rattle.sc_model_laws.proofs.SortLaws.{sort_lawful}
use Rattle.sc_model_laws.proofs.TextNames.{name_text}
use Rattle.sc_model_laws.proofs.TermLaws.{right}
use Rattle.sc_model_laws.proofs.TruthLaws.{closed_told, truths_consistent}
use Rattle.sc_model_laws.proofs.ValLaws.{val_Bool}

-- each closed term of a goal is a term of its sort
abbrev pub AreJudged : Type 0
AreJudged = (d : Declarations) (env : Env) (literals : List Uid) (goal t : Tree) → IsLawful d → IsGoal d env literals goal
    → Closed d env goal t → IsTermOf d env literals (tree_sort t) t

module _ (judged : AreJudged) where
  pub terms_of : (d : Declarations) (env : Env) (literals : List Uid) (goal : Tree) → IsLawful d → IsGoal d env literals goal → AreTerms d env literals goal
  terms_of d env literals goal lawful is = record {
    made = λ x c. judged d env literals goal x lawful is c;
    lawful = λ x c. sort_lawful d env literals lawful is.environment is.declared (tree_sort x) x (judged d env literals goal x lawful is c);
  }

  pub truths_are_told : TruthsAreTold
  truths_are_told d env literals goal w x lawful is well c =
      closed_told d env literals goal (terms_of d env literals goal lawful is) w lawful well x c

  pub truths_are_consistent : DefinitionsHold → AddressesHold → TruthsAreConsistent
  truths_are_consistent hold addressed d env literals goal w lawful is well =
      truths_consistent d env literals goal (terms_of d env literals goal lawful is) w lawful well hold addressed

  pub names_are_texts : NamesAreTexts
  names_are_texts d env literals goal closed m qs texts lawful is listed texts_are x =
      name_text m qs texts texts_are d env literals goal (terms_of d env literals goal lawful is) closed listed x

  module _ (addresses : AreAddresses) where
    pub equations_agree : EquationsAgree
    equations_agree d env literals goal m x y lawful is model c e sorts q =
        let agrees = claims d env literals goal addresses (terms_of d env literals goal lawful is) m model (tree_sort x) x y
        (record { first = c; second = e; first_sort = refl; second_sort = sym sorts }) q in
        let later : val_of m (tree_sort x) y ≡ val_of m (tree_sort y) y = ap (λ (k : Sort). val_of m k y) sorts in
        (λ t. agrees.same t ∙ later, λ t. agrees.told (t ∙ sym later))

    pub terms_are_right : TermsAreRight
    terms_are_right d env literals goal m w x lawful is model holds c p =
        right d env literals goal addresses (terms_of d env literals goal lawful is) m model w holds (tree_sort x) x (judged d env literals goal x lawful is c) p c

    pub truths_are_right : TruthsAreRight
    truths_are_right d env literals goal m w x lawful is model holds c e p =
        terms_are_right d env literals goal m w x lawful is model holds c p ∙ ap (λ (k : Sort). val_of m k x) e ∙ val_Bool m x

pub has_model : HasModel
has_model d env goal closed m qs texts is listed patterns texts_are = is_model d env goal closed m is listed qs patterns texts texts_are

pub bounded : ClassesBound
bounded d env goal m qs signs xs ts is stands others = classes_bound d env goal m (strings_equated d env goal m is) qs signs xs stands ts others
