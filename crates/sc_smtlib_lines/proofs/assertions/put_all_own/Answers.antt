use Rattle.std.proofs.Common.{flat_map, map, refl, rules}
use Rattle.sc_smtlib_lines.specs.Ancestries.{own_line}
use Rattle.sc_smtlib_lines.specs.Gaining.{seen_at, terms_of}
use Rattle.sc_smtlib_lines.proofs.PutLaws.{put_over, put_step}
use Rattle.sc_smtlib_lines.proofs.assertions.put_all_own.Goals as goal

pub loop-a-preserved : goal.loop-a-preserved
loop-a-preserved c =
    let s = c.args.names.now in
    record {
      within = search rules;
      put = put_step (λ bs. flat_map (own_line s.sorts.now (terms_of s)) (map (seen_at s) bs)) (λ b. own_line s.sorts.now (terms_of s) (seen_at s b)) (λ x xs. refl) _ _ _ c.loop-a.rest.now c.in-Some.later.now c.in-Some.a.now (search rules) c.loop-a.invariant.put c.in_ok-put_own.ensures;
    }

pub returns : goal.returns
returns c =
    let s = c.args.names.now in
    put_over (λ bs. flat_map (own_line s.sorts.now (terms_of s)) (map (seen_at s) bs)) _ _ c.loop-a.rest.now refl (search rules) c.loop-a.invariant.put
