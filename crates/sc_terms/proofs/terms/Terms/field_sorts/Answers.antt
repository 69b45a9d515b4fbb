use Rattle.std.proofs.Common.{rules}
use Rattle.sc_terms.proofs.SortingLaws.{sorts_go_on, sorts_end}
use Rattle.sc_terms.proofs.terms.Terms.field_sorts.Goals as goal

pub loop-part-preserved : goal.loop-part-preserved
loop-part-preserved c =
    record {
      here = search rules;
      whole = sorts_go_on _ _ _ _ c.in-Some.part.now c.loop-part.rest.now c.in-Some.later.now c.in_ok-put_sort.ensures (search rules) c.loop-part.invariant.whole;
    }

pub returns : goal.returns
returns c = sorts_end _ _ _ c.loop-part.rest.now (search rules) c.loop-part.invariant.whole
