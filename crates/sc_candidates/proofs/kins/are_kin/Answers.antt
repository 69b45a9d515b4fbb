use Rattle.std.proofs.Common.{sym, ◌∙◌}
use Rattle.sc_terms.proofs.OrderLaws.{tree_eq-exact}
use Rattle.sc_candidates.proofs.KinLaws.{kin_of_same, kin_linked}
use Rattle.sc_candidates.proofs.kins.are_kin.Goals as goal

pub returns-then-is_same : goal.returns-then-is_same
returns-then-is_same c = λ h. kin_of_same _ _ (tree_eq-exact _ _ (sym c.is_same.ensures ∙ c.if-is_same.true))

pub returns-then-is_above : goal.returns-then-is_above
returns-then-is_above c = λ h. kin_linked _ _ _ _ c.is_above.ensures c.if-is_above.true c.are_linked.ensures h
