use Rattle.std.proofs.Common.{List, map, refl, rules, subst}
use Rattle.sc_terms.specs.Tables.{tree}
use Rattle.sc_terms.specs.TreeSorts.{tree_sort}
use Rattle.sc_smtlib_lines.specs.Gaining.{Gains, sorts_in}
use Rattle.sc_smtlib_lines.specs.Subterms.{datatypes_in, datatypes_of}
use Rattle.sc_smtlib_lines.proofs.DatatypeLaws.{leads_none, none_layered}
use Rattle.sc_smtlib_lines.proofs.GainingLaws.{leads_over, leads_step}
use Rattle.sc_smtlib_lines.proofs.datatypes.layers.Goals as goal

pub loop-n-init : goal.loop-n-init
loop-n-init c = record {
  layered = none_layered _ c.new-set.ensures;
  within = c.requires;
  leads = leads_none _ _ c.new-set.ensures;
}

pub loop-n-preserved : goal.loop-n-preserved
loop-n-preserved c =
    let xs = c.args.terms.now in
    record {
      layered = c.in_ok-put_inside.ensures.layered;
      within = search rules;
      leads = leads_step (λ ns. datatypes_of (map (tree xs) ns)) (λ n. datatypes_in (tree_sort (tree xs n))) (λ n ns. refl) _ _ _ _ c.loop-n.rest.now c.in-Some.later.now c.in-Some.n.now
          (search rules) c.loop-n.invariant.leads (subst (λ k. Gains (sorts_in c.loop-n.set) (sorts_in c.put_inside.new.set) (datatypes_in k)) c.sort.ensures c.in_ok-put_inside.ensures.gains);
    }

pub returns-clause-gains : goal.returns-clause-gains
returns-clause-gains c = leads_over (λ ns. datatypes_of (map (tree c.args.terms.now) ns)) _ _ _ c.loop-n.rest.now refl (search rules) c.loop-n.invariant.leads
