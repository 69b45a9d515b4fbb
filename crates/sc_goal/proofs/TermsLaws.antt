-- Goals are terms.
use Rattle.std.proofs.Common.{◌≡◌, List, [], ◌∷◌, Some, sym, subst}
use Rattle.std.specs.List.{AllByRecursion}
use Rattle.sc_ast.specs.declared.policy.Policy.{Policy}
use Rattle.sc_names.specs.declared.uid.Uid.{Uid}
use Rattle.sc_schema.specs.declared.declarations.Env.{Env}
use Rattle.sc_schema.specs.Declarations.{Declarations}
use Rattle.sc_sorts.specs.declared.sort.Sort.{Sort}
use Rattle.sc_sorts.specs.declared.sort.Sort.TheVariants as sort
use Rattle.sc_question.specs.declared.question.Question.{Question}
use Rattle.sc_question.specs.declared.question.Question.TheVariants.{NeverErrors, AlwaysAllows, AlwaysDenies, Implies, Equivalent, Disjoint}
use Rattle.sc_terms.specs.Trees.{Tree}
use Rattle.sc_terms.specs.Folds.{not_term, equal_term}
use Rattle.sc_term_laws.specs.Judging.{IsTermOf}
use Rattle.sc_constructs.specs.Code.{Code}
use Rattle.sc_symeval.specs.Compiling.{policy_code}
use Rattle.sc_symeval_laws.specs.Written.{IsSetting, IsWritten}
use Rattle.sc_symauth.specs.Standings.{Compiled, allow, any_error}
use Rattle.sc_symauth.specs.Agreement.{AreTerms}
use Rattle.sc_symauth.proofs.TermsLaws.{NotMade, AndMade}
use Rattle.sc_goal.specs.Goals.{goal_of, compiled, all_compiled, goal_term}
use Rattle.sc_goal.proofs.RightLaws.{parts_of, no_parts, compiled_of, goal_parts}

-- ---- what is known of the crates below

abbrev pub EqualMade : Type 0
EqualMade = (s : Declarations) (env : Env) (written : List Uid) (k : Sort) (a b : Tree) → IsTermOf s env written k a → IsTermOf s env written k b → IsTermOf s env written sort.Bool (equal_term a b)

abbrev pub AllowMade : Type 0
AllowMade = (s : Declarations) (env : Env) (written : List Uid) (cs : List Compiled) → AllByRecursion (AreTerms s env written) cs → IsTermOf s env written sort.Bool (allow cs)

abbrev pub ErrorMade : Type 0
ErrorMade = (s : Declarations) (env : Env) (written : List Uid) (cs : List Compiled) → AllByRecursion (AreTerms s env written) cs → IsTermOf s env written sort.Bool (any_error cs)

abbrev pub CodesAreTerms : Type 0
CodesAreTerms = (s : Declarations) (env : Env) (written : List Uid) (p : Policy) (c : Code) → IsSetting s env written → IsWritten written p → policy_code s env p ≡ Some c
    → IsTermOf s env written sort.Bool c.ok × IsTermOf s env written sort.Bool c.val

module _ (negation : NotMade) (both : AndMade) (equation : EqualMade) (allowed : AllowMade) (erring : ErrorMade) (s : Declarations) (env : Env) (written : List Uid) where
  abbrev Are : List Compiled → Type 0
  Are = AllByRecursion (AreTerms s env written)

  goal_of_is_term : (q : Question) (x y : List Compiled) → Are x → Are y → IsTermOf s env written sort.Bool (goal_of q x y)
  goal_of_is_term NeverErrors x y h k = erring s env written x h
  goal_of_is_term AlwaysAllows x y h k = negation s env written (allow x) (allowed s env written x h)
  goal_of_is_term AlwaysDenies x y h k = allowed s env written x h
  goal_of_is_term Implies x y h k = both s env written (allow x) (not_term (allow y)) (allowed s env written x h) (negation s env written (allow y) (allowed s env written y k))
  goal_of_is_term Equivalent x y h k =
      negation s env written (equal_term (allow x) (allow y)) (equation s env written sort.Bool (allow x) (allow y) (allowed s env written x h) (allowed s env written y k))
  goal_of_is_term Disjoint x y h k = both s env written (allow x) (allow y) (allowed s env written x h) (allowed s env written y k)

  -- ---- compiled policies

  module _ (codes : CodesAreTerms) (setting : IsSetting s env written) where
    one_is : (p : Policy) (c : Compiled) → IsWritten written p → compiled s env p ≡ Some c → AreTerms s env written c
    one_is p c h e =
        let k = compiled_of p.effect (policy_code s env p) c e in
        let g = codes s env written p k.code setting h k.is in
        subst (λ (d : Compiled). AreTerms s env written d) (sym k.whole) (record { ok = g.0; val = g.1 })

    all_are : (ps : List Policy) (cs : List Compiled) → AllByRecursion (IsWritten written) ps → all_compiled s env ps ≡ Some cs → Are cs
    all_are [] cs h e = subst Are (sym (no_parts cs e)) tt
    all_are (p ∷ ps) cs h e =
        let k = parts_of (compiled s env p) (all_compiled s env ps) cs e in
        subst Are (sym k.whole) (one_is p k.first h.0 k.first_is, all_are ps k.rest h.1 k.rest_is)

    pub goal_is_term : (q : Question) (a b : List Policy) (t : Tree) → AllByRecursion (IsWritten written) a → AllByRecursion (IsWritten written) b → goal_term s env q a b ≡ Some t
        → IsTermOf s env written sort.Bool t
    goal_is_term q a b t h k e =
        let g = goal_parts q (all_compiled s env a) (all_compiled s env b) t e in
        subst (IsTermOf s env written sort.Bool) (sym g.whole) (goal_of_is_term q g.first g.second (all_are a g.first h g.first_is) (all_are b g.second k g.second_is))
