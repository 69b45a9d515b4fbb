use Rattle.std.proofs.Common.{flat_map, map, refl, rules}
use Rattle.sc_terms.specs.Tables.{tree}
use Rattle.sc_smtlib_lines.specs.Scripts.{constant_lines}
use Rattle.sc_smtlib_lines.proofs.PutLaws.{put_over, put_step}
use Rattle.sc_smtlib_lines.proofs.declarations.put_constants.Goals as goal

pub loop-n-preserved : goal.loop-n-preserved
loop-n-preserved c =
    let s = c.args.names.now in
    record {
      within = search rules;
      put = put_step (λ ns. flat_map (constant_lines s.sorts.now) (map (tree s.terms.now) ns)) (λ n. constant_lines s.sorts.now (tree s.terms.now n)) (λ x xs. refl) _ _ _ c.loop-n.rest.now c.in-Some.later.now c.in-Some.n.now (search rules) c.loop-n.invariant.put c.in_ok-put_variable.ensures;
    }

pub returns : goal.returns
returns c =
    let s = c.args.names.now in
    put_over (λ ns. flat_map (constant_lines s.sorts.now) (map (tree s.terms.now) ns)) _ _ c.loop-n.rest.now refl (search rules) c.loop-n.invariant.put
