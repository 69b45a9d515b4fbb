-- What the answers of each theory come to.
use Rattle.std.proofs.Common.{◌≡◌, ◌↔◌, Bool, true, false, IsTrue, Option, Some, None, IfSome, Result, Ok, Err, IfOk}
use Rattle.std.proofs.lemmas.Result.{IfOk-weaker}
use Rattle.std.specs.declared.alloc.AllocError.{AllocError}
use Rattle.sc_clauses.specs.Assignments.{Assignment, falsifies}
use Rattle.sc_clauses.specs.Clauses.{Clause}
use Rattle.sc_clauses.specs.declared.step.Instance.{Instance}
use Rattle.sc_footprint.specs.Problems.{Posed}
use Rattle.th_defs.specs.Instances.{is_definition, definition_clause}
use Rattle.sc_rule_instances.specs.Instances.{HasEqual, HasSet, HasEntity, equal_clause, set_clause, entity_clause}
use Rattle.th_strings_instances.specs.Instances.{HasString, string_clause}
use Rattle.sc_solver.specs.Theories.{HasRule, HasOtherRule, rule_clause}
use Rattle.sc_solver.specs.OtherLaws.{string_out, none_out}
use Rattle.sc_solver.specs.RuleLaws.{other_is, none_falsified}

-- a test tells what comes to the same
pub tells : {A B : Type 0} → (A ↔ B) → (r : Result Bool AllocError) → IfOk r (λ b. IsTrue b ↔ A) → IfOk r (λ b. IsTrue b ↔ B)
tells e r h = IfOk-weaker r _ _ (λ b k. (λ t. e.0 (k.0 t), λ x. k.1 (e.1 x))) h

abbrev pub Found : Type 0
Found = Result (Option Instance) AllocError

abbrev pub Passes : (Instance → Type 0) → (Instance → Clause) → Assignment → Type 0
Passes has clause m = (i : Instance) → has i → falsifies m (clause i) ≡ false

module _ (p : Posed) (m : Assignment) where
  pub string_has : (r : Found) → IfOk r (λ o. IfSome o (HasString p)) → IfOk r (λ o. IfSome o (λ i. falsifies m (string_clause p i) ≡ true)) → IfOk r (λ o. IfSome o (HasOtherRule p))
  string_has (Ok None) h k = tt
  string_has (Ok (Some i)) h k = (string_out p i m h k).0
  string_has (Err e) h k = tt

  pub string_false : (r : Found) → IfOk r (λ o. IfSome o (HasString p)) → IfOk r (λ o. IfSome o (λ i. falsifies m (string_clause p i) ≡ true))
      → IfOk r (λ o. IfSome o (λ i. falsifies m (rule_clause p i) ≡ true))
  string_false (Ok None) h k = tt
  string_false (Ok (Some i)) h k = (string_out p i m h k).1
  string_false (Err e) h k = tt

  pub none_other : (r : Found) → Passes (HasEqual p) (equal_clause p) m → Passes (HasSet p) (set_clause p) m → Passes (HasEntity p) (entity_clause p) m
      → IfOk r (λ o. o ≡ None → Passes (HasString p) (string_clause p) m) → IfOk r (λ o. o ≡ None → Passes (HasOtherRule p) (rule_clause p) m)
  none_other (Ok o) equal set entity string = λ none i h. none_out p i m (equal i) (set i) (entity i) (string none i) h
  none_other (Err e) equal set entity string = tt

  pub other_has : (r : Found) → IfOk r (λ o. IfSome o (HasOtherRule p)) → IfOk r (λ o. IfSome o (HasRule p))
  other_has (Ok None) h = tt
  other_has (Ok (Some i)) h = other_is p i h
  other_has (Err e) h = tt

  pub none_rule : (r : Found) → Passes (λ i. IsTrue (is_definition p i)) (definition_clause p) m → IfOk r (λ o. o ≡ None → Passes (HasOtherRule p) (rule_clause p) m)
      → IfOk r (λ o. o ≡ None → Passes (HasRule p) (rule_clause p) m)
  none_rule (Ok o) definition other = λ none i h. none_falsified p i m (definition i) (other none i) h
  none_rule (Err e) definition other = tt
