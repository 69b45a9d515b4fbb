use Rattle.std.proofs.Common.{ℕ, flat_map, map, refl, rules}
use Rattle.sc_sorts.specs.declared.sort.Sort.{Sort}
use Rattle.sc_smtlib_lines.specs.Ancestries.{nested_function}
use Rattle.sc_smtlib_lines.specs.Gaining.{seen_at}
use Rattle.sc_smtlib_lines.proofs.GainingLaws.{leads_over, leads_step}
use Rattle.sc_smtlib_lines.proofs.ancestries.put_nested_with.Goals as goal

pub loop-b-preserved : goal.loop-b-preserved
loop-b-preserved c =
    let s = c.args.names.now in
    record {
      ascending = c.in_ok-put_nested.ensures.ascending;
      within = search rules;
      leads = leads_step (λ bs. flat_map (nested_function s.sorts.now (seen_at s c.args.a.now)) (map (seen_at s) bs)) (λ b. nested_function s.sorts.now (seen_at s c.args.a.now) (seen_at s b)) (λ b bs. refl) _ _ _ _ c.loop-b.rest.now c.in-Some.later.now c.in-Some.b.now
          (search rules) c.loop-b.invariant.leads c.in_ok-put_nested.ensures.gains;
    }

pub returns-clause-gains : goal.returns-clause-gains
returns-clause-gains c =
    let s = c.args.names.now in
    leads_over (λ bs. flat_map (nested_function s.sorts.now (seen_at s c.args.a.now)) (map (seen_at s) bs)) _ _ _ c.loop-b.rest.now refl (search rules) c.loop-b.invariant.leads
