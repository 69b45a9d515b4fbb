use Rattle.sc_terms.proofs.terms.Terms.all_of.Goals as goal

pub returns-in-Err-clause-err : goal.returns-in-Err-clause-err
returns-in-Err-clause-err c = c.take_back.ensures _ c.laws.ensures c.all_joined.ensures.kept c.len-count.ensures
