-- The goal of a query is what the closure of problems asks of a goal.
use Rattle.std.proofs.Common.{◌≡◌, inl, inr, List, Some, Contains}
use Rattle.std.specs.List.{AllByRecursion}
use Rattle.sc_lists.proofs.ListLaws.{all_element}
use Rattle.sc_names.specs.declared.uid.Uid.{Uid}
use Rattle.sc_ast.specs.declared.policy.Policy.{Policy}
use Rattle.sc_schema.specs.declared.declarations.Env.{Env}
use Rattle.sc_schema.specs.Declarations.{Declarations, environments}
use Rattle.sc_schema.specs.Lawful.{IsLawful}
use Rattle.sc_world.specs.Named.{IsDeclared}
use Rattle.sc_terms.specs.Trees.{Tree}
use Rattle.sc_symeval_laws.specs.Written.{IsSetting, IsWritten}
use Rattle.sc_footprint.specs.Goals.{IsGoal}
use Rattle.sc_goal.specs.Goals as compiled
use Rattle.sc_goal.specs.Queries.{Asked as Query, IsAsked, second}
use Rattle.sc_goal_laws.proofs.WrittenLaws.{declared_passes, set_written}
use Rattle.sc_question.specs.declared.question.Question.{Question}

abbrev Goals : Type 0
Goals = (s : Declarations) (env : Env) (lits : List Uid) (q : Question) (a b : List Policy) (t : Tree) → IsSetting s env lits → AllByRecursion (IsWritten lits) a → AllByRecursion (IsWritten lits) b
    → compiled.goal_term s env q a b ≡ Some t → IsGoal s env lits t

pub query-goal : Goals → (s : Declarations) (env : Env) (q : Query) (t : Tree) → IsLawful s → Contains (environments s) env → IsAsked q → AllByRecursion (IsDeclared s) q.literals
    → compiled.goal_term s env q.question q.first (second q) ≡ Some t → IsGoal s env q.literals t
query-goal goals s env q t lawful among asked declared e =
    goals s env q.literals q.question q.first (second q) t
    (record { lawful = lawful; environment = among; declared = λ u c. declared_passes s u (all_element (IsDeclared s) q.literals u declared c) })
    (set_written q.literals q.first (λ u c. (asked.written u).1 (inl c)) asked.first_proper) (set_written q.literals (second q) (λ u c. (asked.written u).1 (inr c)) asked.second_proper) e
