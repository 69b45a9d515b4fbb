use Rattle.std.proofs.Common.{◌∙◌, List, ap}
use Rattle.sc_model_values.specs.Models.{model}
use Rattle.sc_sorts.specs.declared.node.Node.{Node}
use Rattle.sc_sorts.specs.Defaults.{is_option}
use Rattle.sc_terms.specs.Tables.{tree}
use Rattle.sc_terms.specs.TreeSorts.{tree_sort}
use Rattle.sc_model_worlds.proofs.ValueLaws.{of_plain, of_option}
use Rattle.sc_model_worlds.proofs.values.value_at.Goals as goal

pub returns-then-is_option : goal.returns-then-is_option
returns-then-is_option c =
    let t = tree c.args.problem.now.nodes c.args.term in
    of_option (model c.args.problem.now c.args.m.now c.args.names.now) (tree_sort t) t c.is_option.result
    (c.is_option.ensures ∙ ap is_option (c.sort.ensures ∙ ap (λ (xs : List Node). tree_sort (tree xs c.args.term)) c.terms.ensures)) c.if-is_option.true

pub returns : goal.returns
returns c =
    let t = tree c.args.problem.now.nodes c.args.term in
    c.shown_or_false.ensures
    ∙ of_plain (model c.args.problem.now c.args.m.now c.args.names.now) (tree_sort t) t c.in_ok-shown.shown c.is_option.result
    (c.is_option.ensures ∙ ap is_option (c.sort.ensures ∙ ap (λ (xs : List Node). tree_sort (tree xs c.args.term)) c.terms.ensures)) c.if-is_option.false c.in_ok-shown.ensures
