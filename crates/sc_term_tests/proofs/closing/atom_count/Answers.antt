use Rattle.sc_closure.proofs.CountingLaws.{read_below}
use Rattle.sc_term_tests.proofs.closing.atom_count.Goals as goal

pub is_atom-requires : goal.is_atom-requires
is_atom-requires c = read_below _ _ _ _ c.requires c.in-Some.ensures.value
