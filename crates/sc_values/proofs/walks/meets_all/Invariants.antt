use Rattle.std.proofs.Common.{◌≡◌, drop}
use Rattle.sc_values.specs.Order.{value_cmp}
use Rattle.sc_values.specs.Walks.{meets_all}
use Rattle.sc_values.proofs.walks.meets_all.Given as goal

abbrev pub invariant-loop-value : goal.invariant-loop-value
invariant-loop-value l = meets_all value_cmp (drop l.value-index l.s) l.rest ≡ meets_all value_cmp l.s l.t
