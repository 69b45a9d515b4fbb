use Rattle.std.proofs.Common.{flat_map, map, refl, rules}
use Rattle.sc_smtlib_lines.specs.Ancestries.{nested_line}
use Rattle.sc_smtlib_lines.specs.Gaining.{seen_at, terms_of}
use Rattle.sc_smtlib_lines.proofs.PutLaws.{put_over, put_step}
use Rattle.sc_smtlib_lines.proofs.assertions.put_all_nested.Goals as goal

pub loop-a-preserved : goal.loop-a-preserved
loop-a-preserved c =
    let s = c.args.names.now in
    let all = map (seen_at s) c.args.all.now in
    record {
      within = search rules;
      put = put_step (λ bs. flat_map (λ a. flat_map (nested_line s.sorts.now (terms_of s) a) all) (map (seen_at s) bs)) (λ b. flat_map (nested_line s.sorts.now (terms_of s) (seen_at s b)) all) (λ x xs. refl) _ _ _ c.loop-a.rest.now c.in-Some.later.now c.in-Some.a.now (search rules) c.loop-a.invariant.put c.in_ok-put_nested_with.ensures;
    }

pub returns : goal.returns
returns c =
    let s = c.args.names.now in
    let all = map (seen_at s) c.args.all.now in
    put_over (λ bs. flat_map (λ a. flat_map (nested_line s.sorts.now (terms_of s) a) all) (map (seen_at s) bs)) _ _ c.loop-a.rest.now refl (search rules) c.loop-a.invariant.put
