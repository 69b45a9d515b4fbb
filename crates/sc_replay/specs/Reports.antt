-- What a world does, as lines: whether it is well-formed, what each policy answers, and what the policies decide.
use Rattle.std.specs.Prelude.{ℕ, ◌+◌, List, [], ◌∷◌, ◌++◌, if◌then◌else◌, Option, Some, None, Ok, Err, codes}
use Rattle.std.specs.Fmt.{decimal}
use Rattle.sc_names.specs.Escapes.{uid_text}
use Rattle.sc_values.specs.declared.value.Value.{out-Value}
use Rattle.sc_world.specs.declared.world.World.{World}
use Rattle.sc_replay.specs.declared.breaks.Break.{Break}
use Rattle.sc_replay.specs.declared.breaks.Break.TheVariants as break
use Rattle.sc_ast.specs.declared.policy.Policy.{Policy}
use Rattle.sc_ast.specs.Conditions.{condition}
use Rattle.sc_eval.specs.declared.error.EvalError.{EvalError}
use Rattle.sc_eval.specs.declared.error.EvalError.TheVariants.{TypeError, Overflow, EntityMissing, AttrMissing, TagMissing, BadText}
use Rattle.sc_eval.specs.Outcomes.{Outcome}
use Rattle.sc_eval.specs.Eval.{eval}
use Rattle.sc_auth.specs.declared.decision.Decision.{Decision}
use Rattle.sc_auth.specs.declared.decision.Decision.TheVariants.{Allow, Deny}
use Rattle.sc_auth.specs.Decisions.{true_in, allows, decided}

-- ---- the world

-- what keeps a world from being well-formed
abbrev pub break_text : Break → List ℕ
break_text break.Request = codes "request"
break_text (break.Entity u) = codes "entity " ++ uid_text u
break_text (break.Missing u) = codes "missing " ++ uid_text u

unfoldable pub world_line : Option Break → List ℕ
world_line None = codes "world well-formed\n"
world_line (Some b) = codes "world not well-formed: " ++ break_text b ++ codes "\n"

-- ---- the policies

abbrev pub error_name : EvalError → List ℕ
error_name TypeError = codes "TypeError"
error_name Overflow = codes "Overflow"
error_name EntityMissing = codes "EntityMissing"
error_name AttrMissing = codes "AttrMissing"
error_name TagMissing = codes "TagMissing"
error_name BadText = codes "BadText"

-- whether a condition is true, or why it has no value
abbrev pub answer_text : Outcome → List ℕ
answer_text (Ok x) = if true_in (out-Value x) then codes "satisfied" else codes "not satisfied"
answer_text (Err e) = codes "errs " ++ error_name e

-- the policy at place n
unfoldable pub policy_line : World → ℕ → Policy → List ℕ
policy_line w n p = codes "policy" ++ decimal n ++ codes " " ++ answer_text (eval (condition p) w) ++ codes "\n"

-- policies of which the first is at place n
abbrev pub policy_lines : World → ℕ → List Policy → List (List ℕ)
policy_lines w n [] = []
policy_lines w n (p ∷ ps) = policy_line w n p ∷ policy_lines w (n + 1) ps

-- ---- the decision

abbrev pub decision_line : Decision → List ℕ
decision_line Allow = codes "decision Allow\n"
decision_line Deny = codes "decision Deny\n"

-- ---- the report

-- on a world, and on what keeps it from being well-formed
abbrev pub report_lines : Option Break → World → List Policy → List (List ℕ)
report_lines found w ps = world_line found ∷ (policy_lines w 0 ps ++ decision_line (decided (allows w ps)) ∷ [])

-- 3 where something keeps the world from being well-formed, else 0
abbrev pub status_of : Option Break → ℕ
status_of None = 0
status_of (Some b) = 3
