use Rattle.std.proofs.Common.{◌≡◌, ℕ, Option, IfOk, IfSome, subst}
use Rattle.sc_terms.specs.Trees.{Tree}
use Rattle.sc_model_worlds.specs.Listed.{IsListed}
use Rattle.sc_model_worlds.specs.Saying.{uid_in}
use Rattle.sc_model_worlds.proofs.RequestLaws.{principal_found, principal_there}
use Rattle.sc_model_worlds.proofs.request.principal_of.Goals as goal

pub unreachable-requires : goal.unreachable-requires
unreachable-requires c =
    principal_there c.args.problem.now c.args.names.now c.laws.ensures c.closed_laws.ensures.judged c.args.closed.now c.requires.all c.first-found.result c.first-found.ensures.value c.in-None.is

pub returns : goal.returns
returns c =
    let listed = subst (λ (o : Option ℕ). IfSome o (IsListed c.args.problem.now)) c.in-Some.is c.first-found.ensures.listed in
    subst (λ (t : Tree). IfOk c.uid_at.result (λ u. u ≡ uid_in c.args.problem.now c.args.names.now t))
    (principal_found c.args.problem.now c.args.names.now c.laws.ensures c.closed_laws.ensures.judged c.args.closed.now c.requires.all c.in-Some.term c.first-found.result c.first-found.ensures.value c.in-Some.is listed)
    c.uid_at.ensures
