use Rattle.sc_sorts.specs.OrderLaws.{sort_cmp_by_kind, sort_cmp_total, sort_cmp_level, sort_eq_decides}
use Rattle.sc_sorts.proofs.law.sort_laws.Goals as goal

pub returns : goal.returns
returns c = record { by_kind = sort_cmp_by_kind; total = sort_cmp_total; level = sort_cmp_level; same = sort_eq_decides }
