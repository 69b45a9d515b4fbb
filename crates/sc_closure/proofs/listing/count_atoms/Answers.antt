use Rattle.std.proofs.Common.{drop, sym, ◌∙◌, arith}
use Rattle.std.proofs.lemmas.List.{length-drop}
use Rattle.sc_closure.proofs.CountingLaws.{read_below, atom_counted, other_passed, none_left, atoms_fewer}
use Rattle.sc_closure.proofs.listing.count_atoms.Goals.{then-is_atom, else-is_atom}
use Rattle.sc_closure.proofs.listing.count_atoms.Goals as goal

pub is_atom-requires : goal.is_atom-requires
is_atom-requires c = read_below _ _ _ _ c.requires c.in-Some.ensures.value

pub overflow_add-count : goal.overflow_add-count
overflow_add-count c =
    omega (arith, c.loop-n.invariant, atoms_fewer c.args.terms.now (drop c.args.from c.args.closed.now.keys), length-drop c.args.from c.args.closed.now.keys, c.len-count.ensures.small, c.len-count.ensures.len)

pub loop-n-preserved : goal.loop-n-preserved
loop-n-preserved c =
    elim c.if-is_atom.branch [
      | then-is_atom w ↦ omega (arith, w.count-is, c.loop-n.invariant, atom_counted c.args.terms.now c.args.closed.now.keys c.loop-n.place c.in-Some.n c.in-Some.ensures.value (sym c.is_atom.ensures ∙ w.if-is_atom.true))
      | else-is_atom w ↦ omega (arith, w.count-is, c.loop-n.invariant, other_passed c.args.terms.now c.args.closed.now.keys c.loop-n.place c.in-Some.n c.in-Some.ensures.value (sym c.is_atom.ensures ∙ w.if-is_atom.false))
    ]

pub returns-clause-value : goal.returns-clause-value
returns-clause-value c = omega (arith, c.loop-n.invariant, none_left c.args.terms.now c.args.closed.now.keys c.loop-n.place c.in_default.ensures.value)

pub returns-clause-within : goal.returns-clause-within
returns-clause-within c =
    omega (arith, c.loop-n.invariant, atoms_fewer c.args.terms.now (drop c.args.from c.args.closed.now.keys), length-drop c.args.from c.args.closed.now.keys)

pub returns-clause-small : goal.returns-clause-small
returns-clause-small c =
    omega (arith, c.loop-n.invariant, atoms_fewer c.args.terms.now (drop c.args.from c.args.closed.now.keys), length-drop c.args.from c.args.closed.now.keys, c.len-count.ensures.small, c.len-count.ensures.len)
