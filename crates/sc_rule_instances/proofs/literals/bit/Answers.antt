use Rattle.std.proofs.Common.{◌∙◌, sym, ap}
use Rattle.sc_terms.specs.Tables.{tree}
use Rattle.sc_footprint.specs.Problems.{literal_in}
use Rattle.sc_rule_instances.proofs.LookupLaws.{found_bit, bit_plain}
use Rattle.sc_rule_instances.proofs.literals.bit.Goals as goal

pub returns : goal.returns
returns c =
    found_bit c.args.problem.now (tree c.args.problem.now.nodes c.args.n) c.args.place c.find.result c.literal_if.result c.laws.ensures c.find.ensures c.literal_if.ensures.some c.literal_if.ensures.none
    ∙ ap (literal_in c.args.problem.now) (sym (bit_plain (tree c.args.problem.now.nodes c.args.n) c.args.place c.requires.other))
