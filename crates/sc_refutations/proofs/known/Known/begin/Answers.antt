use Rattle.std.proofs.Common.{arith}
use Rattle.sc_refutations.proofs.KnownLaws.{stamped_later, marked_none}
use Rattle.sc_refutations.proofs.known.Known.begin.Goals as goal

pub invariant_of-self : goal.invariant_of-self
invariant_of-self c = record { room = c.args.self.now.room; stamped = stamped_later c.args.self.now.step c.args.step c.args.self.now.marks.items (omega arith) c.args.self.now.stamped; few = c.args.self.now.few }

pub returns-clause-nothing : goal.returns-clause-nothing
returns-clause-nothing c = marked_none c.args.self.now.step c.args.step c.args.self.now.marks.items c.requires c.args.self.now.stamped
