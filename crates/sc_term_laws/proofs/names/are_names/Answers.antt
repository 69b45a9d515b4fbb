use Rattle.sc_term_laws.proofs.LawfulSortLaws.{names_told}
use Rattle.sc_term_laws.proofs.names.are_names.Goals as goal

pub returns-then-ascending : goal.returns-then-ascending
returns-then-ascending g c = (names_told c.args.named.now _ _ c.do_ascend-ascending.ensures c.are_texts-texts.ensures).0 c.if-ascending.true

pub returns-else-ascending : goal.returns-else-ascending
returns-else-ascending g c = (names_told c.args.named.now _ _ c.do_ascend-ascending.ensures c.are_texts-texts.ensures).1 c.if-ascending.false
