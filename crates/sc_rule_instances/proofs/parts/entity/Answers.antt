use Rattle.std.proofs.Common.{◌∙◌, Option, Some, refl, sym, subst}
use Rattle.sc_terms.specs.Trees.{Tree}
use Rattle.sc_rule_instances.specs.EntityLiterals.{is_entity_literal}
use Rattle.sc_rule_instances.specs.Lookups.{IsNumberAmong}
use Rattle.sc_rule_instances.proofs.PartLaws.{found_here, found_later}
use Rattle.sc_rule_instances.proofs.parts.entity.Goals as goal

pub returns-then-is_literal_of : goal.returns-then-is_literal_of
returns-then-is_literal_of c =
    let here = found_here c.args.problem.now (is_entity_literal c.args.uid.now) c.loop-place.place c.closed_at-n.result c.loop-place.invariant c.closed_at-n.ensures.number (sym c.is_literal_of.ensures ∙ c.if-is_literal_of.true) in
    subst (λ (o : Option Tree). IsNumberAmong c.args.problem.now.nodes o (Some c.closed_at-n.result)) (sym here) (record { within = c.closed_at-n.ensures.within; is = refl })

pub loop-place-preserved : goal.loop-place-preserved
loop-place-preserved c =
    found_later c.args.problem.now (is_entity_literal c.args.uid.now) c.loop-place.place c.closed_at-n.result c.loop-place.invariant c.closed_at-n.ensures.number (sym c.is_literal_of.ensures ∙ c.if-is_literal_of.false)
