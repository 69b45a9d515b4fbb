use Rattle.sc_symeval.proofs.CollectionLaws.{record_of_stands}
use Rattle.sc_symeval.proofs.collections.record_of.Goals as goal

pub returns-clause-ok : goal.returns-clause-ok
returns-clause-ok c =
    record_of_stands c.args.terms.now _ _ c.args.fields.now _ _ _ _ _ c.requires c.in_ok-conditions.ensures c.as_slice.ensures c.in_ok-ok.ensures.kept c.in_ok-ok.ensures.ok c.in_ok-parts.ensures c.in_ok-val.ensures.kept
    c.in_ok-val.ensures.ok
