use Rattle.std.proofs.Common.{flat_map, map, refl, rules}
use Rattle.sc_smtlib_lines.specs.Ancestries.{nested_line}
use Rattle.sc_smtlib_lines.specs.Gaining.{seen_at, terms_of}
use Rattle.sc_smtlib_lines.proofs.PutLaws.{put_over, put_step}
use Rattle.sc_smtlib_lines.proofs.assertions.put_nested_with.Goals as goal

pub loop-b-preserved : goal.loop-b-preserved
loop-b-preserved c =
    let s = c.args.names.now in
    record {
      within = search rules;
      put = put_step (λ bs. flat_map (nested_line s.sorts.now (terms_of s) (seen_at s c.args.a.now)) (map (seen_at s) bs)) (λ b. nested_line s.sorts.now (terms_of s) (seen_at s c.args.a.now) (seen_at s b)) (λ x xs. refl) _ _ _ c.loop-b.rest.now c.in-Some.later.now c.in-Some.b.now (search rules) c.loop-b.invariant.put c.in_ok-put_nested.ensures;
    }

pub returns : goal.returns
returns c =
    let s = c.args.names.now in
    put_over (λ bs. flat_map (nested_line s.sorts.now (terms_of s) (seen_at s c.args.a.now)) (map (seen_at s) bs)) _ _ c.loop-b.rest.now refl (search rules) c.loop-b.invariant.put
