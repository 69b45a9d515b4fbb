use Rattle.std.proofs.Common.{◌∙◌, ◌<◌, ℕ, length, sym, subst}
use Rattle.std.proofs.lemmas.List.{length-set}
use Rattle.sc_refutations.specs.Arenas.{lit_of}
use Rattle.sc_refutations.proofs.CodeLaws.{negation_below}
use Rattle.sc_refutations.proofs.KnownLaws.{stamped_set, marked_set}
use Rattle.sc_refutations.proofs.known.Known.insert.Goals as goal

pub invariant_of-self : goal.invariant_of-self
invariant_of-self c = record {
  room = length-set c.args.self.now.marks.items _ c.args.self.now.step ∙ c.args.self.now.room;
  stamped = stamped_set c.args.self.now.step c.args.self.now.marks.items _ c.args.self.now.stamped;
  few = c.args.self.now.few;
}

pub returns-clause-known : goal.returns-clause-known
returns-clause-known c =
    marked_set c.args.self.now.step c.args.self.now.marks.items (lit_of c.args.code) c.negation_of.result c.negation_of.ensures
    (subst (λ (k : ℕ). k < length c.args.self.now.marks.items) (sym c.negation_of.ensures)
    (negation_below c.args.self.now.count (length c.args.self.now.marks.items) c.args.code c.args.self.now.room c.requires))
