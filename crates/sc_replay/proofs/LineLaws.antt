-- The lines of policies are those of how they stand.
use Rattle.std.proofs.Common.{◌≡◌, ℕ, ◌+◌, List, [], ◌∷◌, ◌++◌, Bool, true, false, if◌then◌else◌, Option, Ok, Err, map, codes, refl, sym, ap, ◌∙◌}
use Rattle.std.specs.Fmt.{decimal}
use Rattle.sc_values.specs.declared.value.Value.{out-Value}
use Rattle.sc_world.specs.declared.world.World.{World}
use Rattle.sc_replay.specs.declared.breaks.Break.{Break}
use Rattle.sc_ast.specs.declared.policy.Policy.{Policy}
use Rattle.sc_ast.specs.Conditions.{condition}
use Rattle.sc_eval.specs.Outcomes.{Outcome}
use Rattle.sc_eval.specs.Eval.{eval}
use Rattle.sc_auth.specs.declared.decision.Decision.{Decision}
use Rattle.sc_auth.specs.declared.standing.Standing.{Standing}
use Rattle.sc_auth.specs.declared.standing.Standing.TheVariants.{Satisfied, Unsatisfied}
use Rattle.sc_auth.specs.Decisions.{true_in, allows, decided}
use Rattle.sc_auth.specs.Standings.{standing_in, standing_of}
use Rattle.sc_replay.specs.Reports.{world_line, answer_text, policy_line, policy_lines, decision_line, report_lines}
use Rattle.sc_replay.specs.Lines.{standing_text, standing_line, standing_lines}

text_if : (b : Bool) → (if b then codes "satisfied" else codes "not satisfied") ≡ standing_text (if b then Satisfied else Unsatisfied)
text_if true = refl
text_if false = refl

text_is : (o : Outcome) → answer_text o ≡ standing_text (standing_in o)
text_is (Ok x) = text_if (true_in (out-Value x))
text_is (Err e) = refl

line_is : (w : World) (n : ℕ) (p : Policy) → policy_line w n p ≡ standing_line n (standing_of w p)
unfolding policy_line standing_line
line_is w n p = ap (λ text. codes "policy" ++ decimal n ++ codes " " ++ text ++ codes "\n") (text_is (eval (condition p) w))

lines_are : (w : World) (n : ℕ) (ps : List Policy) → policy_lines w n ps ≡ standing_lines n (map (standing_of w) ps)
lines_are w n [] = refl
lines_are w n (p ∷ ps) =
    ap (λ line. line ∷ policy_lines w (n + 1) ps) (line_is w n p) ∙ ap (λ lines. standing_line n (standing_of w p) ∷ lines) (lines_are w (n + 1) ps)

-- the report, from how policies stand and what is decided
pub report_is : (found : Option Break) (w : World) (ps : List Policy) (standings : List Standing) (d : Decision) (first last : List ℕ) (lines : List (List ℕ))
    → standings ≡ map (standing_of w) ps → d ≡ decided (allows w ps) → first ≡ world_line found → last ≡ decision_line d
    → lines ≡ (first ∷ standing_lines 0 standings) ++ last ∷ [] → lines ≡ report_lines found w ps
report_is found w ps standings d first last lines stand decides opens closes are =
    are ∙ ap (λ l. (l ∷ standing_lines 0 standings) ++ last ∷ []) opens
    ∙ ap (λ ss. (world_line found ∷ standing_lines 0 ss) ++ last ∷ []) stand
    ∙ ap (λ ls. (world_line found ∷ ls) ++ last ∷ []) (sym (lines_are w 0 ps))
    ∙ ap (λ l. (world_line found ∷ policy_lines w 0 ps) ++ l ∷ []) (closes ∙ ap decision_line decides)
