use Rattle.std.proofs.Common.{◌≡◌, ◌∙◌, ℕ, List, Some, None, false, unwrap_or, sym, ap, subst}
use Rattle.sc_clauses.specs.Assignments.{value_of}
use Rattle.sc_model_values.specs.Models.{truth_in}
use Rattle.sc_sorts.specs.declared.node.Node.{Node}
use Rattle.sc_terms.specs.Folds.{constant}
use Rattle.sc_terms.specs.Tables.{tree}
use Rattle.sc_model_values.proofs.TruthLaws.{of_constant, of_atom_number}
use Rattle.sc_model_values.proofs.truth.plain_truth.Goals as goal

pub returns-in-Some : goal.returns-in-Some
returns-in-Some c = λ h. sym (of_constant (truth_in c.args.problem.now c.args.m.now) (tree c.args.problem.now.nodes c.args.term) c.in-Some.value
    (subst (λ (xs : List Node). Some c.in-Some.value ≡ constant (tree xs c.args.term)) c.terms.ensures c.in-Some.ensures))

pub returns-in-None : goal.returns-in-None
returns-in-None c = λ h.
    c.atom_truth.ensures
    ∙ ap (λ (n : ℕ). unwrap_or (value_of c.args.m.now n) false) (ap (λ l. l.atom) c.literal.ensures)
    ∙ of_atom_number c.args.problem.now c.args.m.now (tree c.args.problem.now.nodes c.args.term) h
    (subst (λ (xs : List Node). None ≡ constant (tree xs c.args.term)) c.terms.ensures c.in-None.ensures)
