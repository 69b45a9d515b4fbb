use Rattle.std.proofs.Common.{List, Contains, ◌↔◌, IfOk, subst, ◌∙◌}
use Rattle.sc_names.specs.declared.uid.Uid.{Uid}
use Rattle.sc_ast.proofs.written.literals.Goals as goal

pub returns : goal.returns
returns c =
    subst (λ (us : List Uid). IfOk c.lits_of.result (λ lits. (u : Uid) → Contains lits u ↔ Contains us u)) (c.as_slice.ensures ∙ c.in_ok-uids.ensures) c.lits_of.ensures
