use Rattle.std.proofs.Common.{sym, ap, ◌∙◌}
use Rattle.std.proofs.lemmas.Result.{on_ok_weaker}
use Rattle.sc_smtlib_lines.specs.Depths.{depth}
use Rattle.sc_smtlib_lines.proofs.DatatypeLaws.{gains_sorts, layers_more}
use Rattle.sc_smtlib_lines.proofs.datatypes.put_one.Goals as goal

pub returns-clause-layered : goal.returns-clause-layered
returns-clause-layered c =
    on_ok_weaker c.put.result
    (λ more. layers_more (λ a b. (c.sort_laws.ensures.level a b).0) _ _ _ c.requires (c.depth.ensures ∙ ap depth (sym c.in_ok-copy.ensures)) c.put.ensures.ascending more)
    c.put.ensures.one_more

pub returns-clause-gains : goal.returns-clause-gains
returns-clause-gains c =
    on_ok_weaker c.put.result
    (λ more. gains_sorts (λ a b. (c.sort_laws.ensures.level a b).0) _ _ _ c.args.sort.now c.in_ok-copy.ensures more)
    c.put.ensures.one_more
