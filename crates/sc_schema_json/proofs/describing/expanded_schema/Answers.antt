use Rattle.std.proofs.Common.{◌<◌, length, rules}
use Rattle.sc_schema.specs.Declarations.{environments}
use Rattle.sc_schema_json.specs.Schemas.{declarations_view}
use Rattle.sc_schema_json.specs.Spelling.{max_environments, of_environments}
use Rattle.sc_schema_json.proofs.DescribingLaws.{no_cycle_expanded}
use Rattle.sc_schema_json.proofs.describing.expanded_schema.Goals as goal

pub declarations_of-requires-clause-expanded : goal.declarations_of-requires-clause-expanded
declarations_of-requires-clause-expanded c = c.type_laws.ensures.expanded c.args.resolved.now c.args.expanded c.requires.resolved c.requires.expansion

pub declarations_of-requires-clause-acyclic : goal.declarations_of-requires-clause-acyclic
declarations_of-requires-clause-acyclic c =
    let kept = c.type_laws.ensures.kept c.args.resolved.now c.args.expanded c.requires.expansion in
    no_cycle_expanded c.args.resolved.now c.args.expanded kept c.requires.acyclic.actions

pub returns-then-has_more_environments-clause-err : goal.returns-then-has_more_environments-clause-err
returns-then-has_more_environments-clause-err c =
    let declared = declarations_view c.in_ok-types.field-0 in
    let many : max_environments < length (environments declared) = search rules in
    of_environments declared (record { acyclic = c.requires.acyclic; expanded = c.args.expanded; types = c.requires.expansion; schema = c.in_ok-types.ensures }) many

pub new-requires : goal.new-requires
new-requires c =
    let r = c.args.resolved.now in
    let x = c.args.expanded in
    let kept = c.type_laws.ensures.kept r x c.requires.expansion in
    let proper = c.type_laws.ensures.expanded r x c.requires.resolved c.requires.expansion in
    c.schema_laws.ensures.lawful x (declarations_view c.in_ok-types.field-0) proper (no_cycle_expanded r x kept c.requires.acyclic.actions) c.in_ok-types.ensures
