use Rattle.std.proofs.Common.{◌≡◌, ◌∙◌, Option, IfOk, refl, sym, ap, subst}
use Rattle.std.specs.BTreeSet.{insert_key}
use Rattle.std.proofs.lemmas.Result.{IfOk-weaker}
use Rattle.serde_json.specs.View.{view}
use Rattle.sc_names.specs.Uids.{uid_cmp}
use Rattle.sc_world_json.specs.declared.fault.WorldFault.{WorldFault}
use Rattle.sc_world_json.specs.Faults.{fault_unless}
use Rattle.sc_world_json.specs.Worlds.{uid_of}
use Rattle.sc_world_json.proofs.EntityFaultsLaws.{uid_fault}
use Rattle.sc_world_json.proofs.first_fault.entity_fault.Goals as goal

pub returns-clause-fault : goal.returns-clause-fault
returns-clause-fault c =
    let is_new = c.in_ok-is_new.is_new in
    let told = uid_fault c.args.before.now.keys (view c.args.value.now) c.in_ok-uid.uid is_new (fault_unless is_new)
    (sym c.in_default.is ∙ c.in_ok-fault.ensures) (c.in_ok-uid.ensures.value ∙ ap uid_of c.get.ensures) c.in_ok-is_new.ensures.added refl in
    subst (λ (fault : Option WorldFault). IfOk c.uid_fault.result (λ f. f ≡ fault)) told c.uid_fault.ensures

pub returns-clause-stored : goal.returns-clause-stored
returns-clause-stored c =
    IfOk-weaker c.uid_fault.result _ _
    (λ fault told none. c.in_ok-is_new.ensures.keys ∙ ap (insert_key uid_cmp c.args.before.now.keys) (c.in_ok-uid.ensures.value ∙ ap uid_of c.get.ensures))
    c.uid_fault.ensures
