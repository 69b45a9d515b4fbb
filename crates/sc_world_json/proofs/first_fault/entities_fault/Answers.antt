use Rattle.std.proofs.Common.{◌≡◌, ◌∙◌, Some, length, get_or, ap, sym, subst, rules, arith}
use Rattle.std.specs.Fmt.{decimal}
use Rattle.sc_world_json.specs.Faults.{under}
use Rattle.sc_world_json.proofs.EntityFaultsLaws.{fault_of_entity, no_fault_of_entity, no_entities_left}
use Rattle.sc_world_json.proofs.first_fault.entities_fault.Goals as goal

pub returns-in-Some : goal.returns-in-Some
returns-in-Some c =
    let n = c.loop-number.number-counter in
    let all = c.deref-item-items.ensures.value in
    let x = c.item-item.result in
    let here = subst (λ vs. x ≡ get_or vs n x) all c.item-item.is in
    let key : c.as_str.result.now ≡ decimal n = search rules in
    ap Some (c.in_ok-under.ensures ∙ ap (λ k. under k c.in-Some.fault) key)
    ∙ fault_of_entity c.loop-number.before.keys c.args.items.now.items n x c.in-Some.fault here (omega (arith, ap length all)) c.loop-number.invariant (sym c.in-Some.is ∙ c.in_ok-fault.ensures.fault)

pub loop-number-preserved : goal.loop-number-preserved
loop-number-preserved c =
    let n = c.loop-number.number-counter in
    let all = c.deref-item-items.ensures.value in
    let x = c.item-item.result in
    let here = subst (λ vs. x ≡ get_or vs n x) all c.item-item.is in
    no_fault_of_entity c.loop-number.before.keys c.entity_fault.new.before.keys c.args.items.now.items n x here (omega (arith, ap length all)) c.loop-number.invariant
    (sym c.in_default.is ∙ c.in_ok-fault.ensures.fault) (c.in_ok-fault.ensures.stored c.in_default.is)

pub returns : goal.returns
returns c =
    let all = c.deref-item-items.ensures.value in
    no_entities_left c.loop-number.before.keys c.args.items.now.items c.loop-number.number-counter (omega (arith, ap length all)) c.loop-number.invariant
