use Rattle.std.proofs.lemmas.List.{take_all}
use Rattle.std.proofs.Common.{arith, length, ◌≡◌, ◌∙◌, ap, map, take, rules}
use Rattle.sc_terms.proofs.DefaultLaws.{put_is, record_is, with_default}
use Rattle.sc_terms.proofs.terms.Terms.+defaults.Goals as goal

pub put_default-returns-clause-more : goal.put_default-returns-clause-more
put_default-returns-clause-more t c =
    put_is _ _ c.args.parts.now c.push.new.self c.args.field.now.0 c.in_ok-n.n c.args.field.now.1 c.default_of.ensures.kept c.requires c.in_ok-n.ensures.ok (search rules)

pub default_record-returns-clause-ok : goal.default_record-returns-clause-ok
default_record-returns-clause-ok t c =
    let whole : take c.loop-field.field-index c.args.fields.now ≡ c.args.fields.now = take_all _ _ (omega (arith, ap length c.as_slice-field-items.ensures, c.loop-field-test.false)) in
    record_is _ _ _ c.loop-field.parts c.args.fields.now (c.loop-field.invariant.listed ∙ ap (map with_default) whole) c.in_ok-n.ensures.ok
