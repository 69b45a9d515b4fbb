use Rattle.std.proofs.Common.{◌∙◌, sym}
use Rattle.sc_schema_names.specs.Tables.{known}
use Rattle.sc_schema_names.proofs.NamespaceLaws.{action_told, common_type_told, entity_type_told}
use Rattle.sc_schema_names.proofs.checking.namespace_fault.Goals as goal

pub returns-in-Some : goal.returns-in-Some
returns-in-Some c =
    action_told (known c.args.declared.now) c.args.namespace.now c.as_str-name.result.now c.in-Some.fault c.as_str-name.ensures (sym c.in-Some.is ∙ c.in_ok-fault.ensures)

pub returns-in-Some-2 : goal.returns-in-Some-2
returns-in-Some-2 c =
    common_type_told (known c.args.declared.now) c.args.namespace.now c.as_str-name.result.now c.in-Some-2.fault c.as_str-name.ensures
    (sym c.in_default.is ∙ c.in_ok-fault.ensures) (sym c.in-Some-2.is ∙ c.in_ok-fault-2.ensures)

pub returns : goal.returns
returns c =
    entity_type_told (known c.args.declared.now) c.args.namespace.now c.as_str-name.result.now c.members_fault-3.result c.as_str-name.ensures
    (sym c.in_default.is ∙ c.in_ok-fault.ensures) (sym c.in_default-2.is ∙ c.in_ok-fault-2.ensures) c.members_fault-3.ensures
