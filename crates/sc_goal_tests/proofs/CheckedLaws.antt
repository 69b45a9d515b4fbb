-- Checked policies have goals that closure takes.
use Rattle.std.proofs.Common.{◌≡◌, inl, inr, ℕ, List, [], ◌∷◌, Option, Some, None, IsSome, Contains, refl, sym, subst}
use Rattle.std.specs.Prelude.{IfSome}
use Rattle.std.specs.List.{AllByRecursion}
use Rattle.sc_lists.proofs.ListLaws.{all_of_elements, contains_first, contains_rest, contains_joined}
use Rattle.sc_names.specs.declared.uid.Uid.{Uid}
use Rattle.sc_ast.specs.declared.policy.Policy.{Policy}
use Rattle.sc_ast.specs.Literals.{policy_uids, literals}
use Rattle.sc_schema.specs.declared.declarations.Env.{Env}
use Rattle.sc_schema.specs.Declarations.{Declarations, environments}
use Rattle.sc_schema.specs.Lawful.{IsLawful}
use Rattle.sc_world.specs.Named.{IsDeclared}
use Rattle.sc_eval.specs.Written.{HaveProperConstants}
use Rattle.sc_typing.specs.Checking.{fault_from}
use Rattle.sc_typing.specs.Names.{name_fault}
use Rattle.sc_sorts.specs.declared.node.Node.{Node}
use Rattle.sc_terms.specs.Tables.{StandsFor}
use Rattle.sc_terms.specs.Trees.{Tree}
use Rattle.sc_closure_rules.specs.Goals.{IsGoal}
use Rattle.sc_symeval_laws.specs.Written.{IsSetting, IsWritten}
use Rattle.sc_goal.specs.Goals.{goal_term}
use Rattle.sc_goal.specs.Queries.{Asked, IsAsked, second}
use Rattle.sc_goal_laws.proofs.WrittenLaws.{declared_passes}
use Rattle.sc_question.specs.declared.question.Question.{Question}
use Rattle.sc_goal_tests.specs.Checked.{IsChecked, IsGoalAt}

pub none_checked : (s : Declarations) → IsChecked s []
unfolding fault_from
none_checked s = record { types = refl; names = refl }

-- ---- what checked policies write

abbrev AreDeclared : Declarations → Type 0
AreDeclared s = (ps : List Policy) (u : Uid) → name_fault s ps ≡ None → Contains (literals ps) u → IsDeclared s u

within_set : (lits : List Uid) (ps : List Policy) → ((u : Uid) → Contains (literals ps) u → Contains lits u) → HaveProperConstants ps → AllByRecursion (IsWritten lits) ps
within_set lits ps f h = each ps h (λ p among. all_of_elements (Contains lits) (policy_uids p) (λ u has. f u (contains_joined policy_uids ps p u among has)))
  where
    each : (qs : List Policy) → HaveProperConstants qs → ((p : Policy) → Contains qs p → AllByRecursion (Contains lits) (policy_uids p)) → AllByRecursion (IsWritten lits) qs
    each [] h g = tt
    each (q ∷ qs) h g = (record { uids = g q (contains_first q qs); constants = h.0 }, each qs h.1 (λ p among. g p (contains_rest q qs p among)))

-- ---- their goals

module _ (s : Declarations) (env : Env) (q : Asked) (lawful : IsLawful s) (here : Contains (environments s) env) (asked : IsAsked q) (declared : AreDeclared s)
    (first : IsChecked s q.first) (later : IsChecked s (second q)) where
  setting : IsSetting s env q.literals
  setting = record {
    lawful = lawful;
    environment = here;
    declared = λ u among. declared_passes s u (elim ((asked.written u).0 among) [
      | inl left ↦ declared q.first u first.names left
      | inr right ↦ declared (second q) u later.names right
    ]);
  }

  posed_by : ((lits : List Uid) (t : Tree) → IsSetting s env lits → AllByRecursion (IsWritten lits) q.first → AllByRecursion (IsWritten lits) (second q) → goal_term s env q.question q.first (second q) ≡ Some t → IsGoal s env lits t)
      → (xs : List Node) (n : ℕ) (o : Option Tree) → goal_term s env q.question q.first (second q) ≡ o → IsSome o → IfSome o (λ t. StandsFor xs n t) → IsGoalAt s env q.literals xs n
  posed_by law xs n None e h k = absurd cc
  posed_by law xs n (Some t) e h k = record {
    within = k.within;
    goal = subst (IsGoal s env q.literals) (sym k.is)
        (law q.literals t setting (within_set q.literals q.first (λ u has. (asked.written u).1 (inl has)) asked.first_proper) (within_set q.literals (second q) (λ u has. (asked.written u).1 (inr has)) asked.second_proper) e);
  }

  pub posed_at : ((lits : List Uid) (question : Question) (a b : List Policy) (t : Tree) → IsSetting s env lits → AllByRecursion (IsWritten lits) a → AllByRecursion (IsWritten lits) b → goal_term s env question a b ≡ Some t → IsGoal s env lits t)
      → (xs : List Node) (n : ℕ) → IsSome (goal_term s env q.question q.first (second q)) → IfSome (goal_term s env q.question q.first (second q)) (λ t. StandsFor xs n t) → IsGoalAt s env q.literals xs n
  posed_at law xs n h k = posed_by (λ lits t. law lits q.question q.first (second q) t) xs n (goal_term s env q.question q.first (second q)) refl h k
