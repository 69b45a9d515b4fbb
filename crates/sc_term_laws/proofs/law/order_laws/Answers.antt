use Rattle.sc_terms.proofs.OrderLaws.{tree_cmp_total, tree_cmp_level}
use Rattle.sc_term_laws.proofs.law.order_laws.Goals as goal

pub returns : goal.returns
returns c = record { total = tree_cmp_total; level = tree_cmp_level }
