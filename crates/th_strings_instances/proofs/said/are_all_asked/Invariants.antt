use Rattle.std.proofs.Common.{◌≡◌, length}
use Rattle.sc_rule_laws.specs.Strings.{is_asked_all}
use Rattle.th_strings_instances.proofs.said.are_all_asked.Given as goal

abbrev pub invariant-loop-sign : goal.invariant-loop-sign
invariant-loop-sign l = is_asked_all l.fn.signs ≡ is_asked_all l.rest

abbrev pub decreases-loop-sign : goal.decreases-loop-sign
decreases-loop-sign l = length l.rest
