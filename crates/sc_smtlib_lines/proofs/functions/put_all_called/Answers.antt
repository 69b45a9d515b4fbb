use Rattle.std.proofs.Common.{flat_map, map, refl, rules}
use Rattle.sc_terms.specs.Tables.{tree}
use Rattle.sc_smtlib_lines.specs.Functions.{called}
use Rattle.sc_smtlib_lines.proofs.GainingLaws.{leads_begin, leads_over, leads_step}
use Rattle.sc_smtlib_lines.proofs.functions.put_all_called.Goals as goal

pub loop-n-preserved : goal.loop-n-preserved
loop-n-preserved c =
    let s = c.args.names.now in
    record {
      ascending = c.in_ok-put_called.ensures.ascending;
      within = search rules;
      leads = leads_step (λ ns. flat_map (called s.sorts.now) (map (tree s.terms.now) ns)) (λ n. called s.sorts.now (tree s.terms.now n)) (λ n ns. refl) _ _ _ _ c.loop-n.rest.now c.in-Some.later.now c.in-Some.n.now
          (search rules) c.loop-n.invariant.leads c.in_ok-put_called.ensures.gains;
    }

pub returns-clause-gains : goal.returns-clause-gains
returns-clause-gains c =
    let s = c.args.names.now in
    leads_over (λ ns. flat_map (called s.sorts.now) (map (tree s.terms.now) ns)) _ _ _ c.loop-n.rest.now refl (search rules) c.loop-n.invariant.leads
