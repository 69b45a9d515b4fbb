use Rattle.sc_symeval.proofs.CollectionLaws.{set_of_stands}
use Rattle.sc_symeval.proofs.collections.set_of.Goals as goal

pub returns-clause-ok : goal.returns-clause-ok
returns-clause-ok c =
    set_of_stands c.args.terms.now _ _ c.args.codes.now _ _ _ _ _ _ _ _ c.requires c.in_ok-values.ensures c.as_slice.ensures c.in_ok-member.ensures c.as_slice-2.ensures c.in_ok-val.ensures.kept c.in_ok-val.ensures.ok
    c.in_ok-conditions.ensures c.as_slice-3.ensures c.in_ok-ok.ensures.kept c.in_ok-ok.ensures.ok
