use Rattle.std.proofs.Common.{◌∙◌, length, true, false, eq-eqb}
use Rattle.std.proofs.lemmas.Bool.{ne_eqb}
use Rattle.sc_world_json.proofs.MembersLaws.{has_just_tested}
use Rattle.sc_world_json.proofs.member_form.has_just.Goals as goal

pub returns-then-no_more : goal.returns-then-no_more
returns-then-no_more c =
    let same = eq-eqb c.len.result (length c.args.names.now) c.if-no_more.true in
    has_just_tested c.args.names.now c.args.members.now.entries c.len.result true _ c.len.ensures.len same c.has_each-each.ensures

pub returns-else-no_more : goal.returns-else-no_more
returns-else-no_more c =
    let other = ne_eqb c.len.result (length c.args.names.now) c.if-no_more.false in
    other ∙ has_just_tested c.args.names.now c.args.members.now.entries c.len.result false _ c.len.ensures.len other c.has_each-each.ensures
