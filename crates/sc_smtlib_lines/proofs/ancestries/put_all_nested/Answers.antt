use Rattle.std.proofs.Common.{flat_map, map, refl, rules}
use Rattle.sc_smtlib_lines.specs.Ancestries.{nested_function}
use Rattle.sc_smtlib_lines.specs.Gaining.{seen_at}
use Rattle.sc_smtlib_lines.proofs.GainingLaws.{leads_over, leads_step}
use Rattle.sc_smtlib_lines.proofs.ancestries.put_all_nested.Goals as goal

pub loop-a-preserved : goal.loop-a-preserved
loop-a-preserved c =
    let s = c.args.names.now in
    let all = map (seen_at s) c.args.all.now in
    record {
      ascending = c.in_ok-put_nested_with.ensures.ascending;
      within = search rules;
      leads = leads_step (λ bs. flat_map (λ a. flat_map (nested_function s.sorts.now a) all) (map (seen_at s) bs)) (λ a. flat_map (nested_function s.sorts.now (seen_at s a)) all) (λ b bs. refl) _ _ _ _ c.loop-a.rest.now c.in-Some.later.now c.in-Some.a.now
          (search rules) c.loop-a.invariant.leads c.in_ok-put_nested_with.ensures.gains;
    }

pub returns-clause-gains : goal.returns-clause-gains
returns-clause-gains c =
    let s = c.args.names.now in
    let all = map (seen_at s) c.args.all.now in
    leads_over (λ bs. flat_map (λ a. flat_map (nested_function s.sorts.now a) all) (map (seen_at s) bs)) _ _ _ c.loop-a.rest.now refl (search rules) c.loop-a.invariant.leads
