use Rattle.th_sets.proofs.NameLaws.{of_sets}
use Rattle.th_sets.proofs.finding.falsified_row.Goals as goal

pub among-requires : goal.among-requires
among-requires c = record {
  names = rw c.as_slice-2.ensures.value c.in_ok-names.ensures;
  pairs = rw (c.as_slice-3.ensures.value, c.in_ok-pairs.ensures, c.as_slice.ensures.value) (of_sets c.args.problem.now _ c.in_ok-names.ensures);
}
