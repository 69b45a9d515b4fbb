use Rattle.sc_terms.specs.Tables.{tree}
use Rattle.sc_closure.specs.Atoms.{is_atom}
use Rattle.sc_closure.proofs.PuttingLaws.{all_listed}
use Rattle.sc_footprint.proofs.listing.atoms_among.Goals as goal

pub returns : goal.returns
returns c = all_listed (λ n. is_atom (tree c.args.terms.now n)) c.args.closed.now.keys c.loop-n.n-iterator c.loop-n.atoms.keys c.in-None.ensures.steps.0 c.iter-n-items.ensures.unique c.loop-n.invariant.listed
