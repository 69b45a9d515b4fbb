use Rattle.sc_terms.specs.Tables.{tree}
use Rattle.th_strings_instances.proofs.PatternLaws.{found_like}
use Rattle.th_strings_instances.proofs.literals.found_like.Goals as goal

pub returns : goal.returns
returns c =
    found_like c.args.problem.now c.args.pattern.now _ (tree c.args.problem.now.nodes c.args.text) c.find.result c.literal_if.result c.laws.ensures c.in_ok-try_clone.ensures c.find.ensures c.literal_if.ensures.some c.literal_if.ensures.none
