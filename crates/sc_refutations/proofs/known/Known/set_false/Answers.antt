use Rattle.std.proofs.Common.{◌∙◌}
use Rattle.std.proofs.lemmas.List.{length-set}
use Rattle.sc_clauses.specs.Clauses.{negation}
use Rattle.sc_refutations.specs.Arenas.{lit_of}
use Rattle.sc_refutations.proofs.CodeLaws.{listed_below, negation_place}
use Rattle.sc_refutations.proofs.KnownLaws.{stamped_set, marked_set}
use Rattle.sc_refutations.proofs.known.Known.set_false.Goals as goal

pub invariant_of-self : goal.invariant_of-self
invariant_of-self c = record {
  room = length-set c.args.self.now.marks.items _ c.args.self.now.step ∙ c.args.self.now.room;
  stamped = stamped_set c.args.self.now.step c.args.self.now.marks.items _ c.args.self.now.stamped;
  few = c.args.self.now.few;
}

pub returns-clause-known : goal.returns-clause-known
returns-clause-known c =
    marked_set c.args.self.now.step c.args.self.now.marks.items (negation (lit_of c.args.code)) c.args.code (negation_place c.args.code)
    (listed_below c.args.self.now.count _ c.args.code c.args.self.now.room c.requires)
