use Rattle.std.proofs.Common.{List, ℕ, IfOk, IfErr, subst}
use Rattle.sc_ast.specs.declared.policy.Policy.{Policy}
use Rattle.sc_outside.specs.Failures.{FailsAt}
use Rattle.sc_parser.specs.Spelling.{Spells}
use Rattle.sc_inputs.specs.Readings.{FailsWith, IsNoPolicies}
use Rattle.sc_inputs.specs.Refusals.{RefusesFile, RefusesPolicies, policy_file, policies_unread}
use Rattle.sc_inputs.specs.View.{side_view}
use Rattle.sc_inputs.proofs.ReadingLaws.{has_policies, policies_fail, fails_so}
use Rattle.sc_inputs.proofs.policy_reading.policies_of.Goals as goal

pub returns-in-Ok-clause-reads : goal.returns-in-Ok-clause-reads
returns-in-Ok-clause-reads g c =
    has_policies (g.F.Files.content c.args.files.now) c.args.name.now c.in-Ok.bytes.items c.in-Ok.ensures.found c.policies_in.result
    (subst (λ (bytes : List ℕ). IfOk c.policies_in.result (λ (ps : List Policy). Spells bytes ps)) c.deref.ensures.value c.policies_in.ensures.spelled)

pub returns-in-Ok-clause-fails : goal.returns-in-Ok-clause-fails
returns-in-Ok-clause-fails g c =
    policies_fail (g.F.Files.content c.args.files.now) c.args.name.now c.in-Ok.bytes.items (side_view c.args.side) (FailsAt g.F.Files c.args.files.now c.content_of.new.files) c.in-Ok.ensures.found c.policies_in.result
    (subst (λ (bytes : List ℕ). IfErr c.policies_in.result (FailsWith (IsNoPolicies bytes (side_view c.args.side)))) c.deref.ensures.value c.policies_in.ensures.fails)

pub returns-in-Err-clause-fails : goal.returns-in-Err-clause-fails
returns-in-Err-clause-fails g c =
    let content = g.F.Files.content c.args.files.now in
    let failed = FailsAt g.F.Files c.args.files.now c.content_of.new.files in
    fails_so (RefusesFile content c.args.name.now failed (policy_file (side_view c.args.side))) (RefusesPolicies content c.args.name.now (side_view c.args.side) failed) (λ a h. policies_unread a h) c.in-Err.fault c.in-Err.ensures.fails
