use Rattle.std.proofs.Common.{◌∙◌, sym, length}
use Rattle.std.proofs.lemmas.List.{nil_from_length}
use Rattle.sc_laws.proofs.NumberLaws.{nat_eq_true}
use Rattle.th_strings.proofs.TheoryLaws.{none_where_empty, none_after}
use Rattle.th_strings.proofs.theory.broken_rule.Goals as goal

pub returns-then-is_empty-clause-none : goal.returns-then-is_empty-clause-none
returns-then-is_empty-clause-none c =
    none_where_empty c.args.problem.now c.args.m.now c.args.patterns.now (nil_from_length c.args.patterns.now (nat_eq_true (length c.args.patterns.now) 0 (sym c.is_empty.ensures ∙ c.if-is_empty.true)))

pub returns-clause-none : goal.returns-clause-none
returns-clause-none c = none_after c.args.problem.now c.args.m.now c.args.patterns.now _ c.broken_crowd.result c.in-None.is c.in_ok-rule.ensures.none c.broken_crowd.ensures.none
