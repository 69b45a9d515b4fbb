use Rattle.std.proofs.Common.{flat_map, subst}
use Rattle.sc_lists.proofs.OrderedLaws.{none_ascends}
use Rattle.sc_smtlib_lines.specs.Functions.{called, function_cmp}
use Rattle.sc_smtlib_lines.specs.Gaining.{Gains, terms_of}
use Rattle.sc_smtlib_lines.proofs.FunctionLaws.{just_functions}
use Rattle.sc_smtlib_lines.proofs.script.functions.Goals as goal

pub put_all_called-requires-clause-ascending : goal.put_all_called-requires-clause-ascending
put_all_called-requires-clause-ascending c = none_ascends function_cmp _ c.new-set.ensures

pub returns : goal.returns
returns c =
    let s = c.args.names.now in
    just_functions s.sorts.now (terms_of s) _ _ _ c.requires.are c.in_ok-put_all_nested.ensures.ascending
    (subst (λ z. Gains z c.put_all_called.new.set (flat_map (called s.sorts.now) (terms_of s))) c.new-set.ensures c.in_ok-put_all_called.ensures.gains)
    c.in_ok-put_all_nested.ensures.gains
