use Rattle.std.proofs.Common.{◌≡◌, ◌∙◌, ap, map, subst, Option, IfSome}
use Rattle.sc_clauses.specs.Clauses.{Clause}
use Rattle.sc_refutations.specs.Arenas.{lit_of}
use Rattle.sc_search.proofs.giving.if_due.Goals as goal
use Rattle.sc_propagation.specs.Giving.{Gives}

pub returns : goal.returns
returns g c = record {
  accepted = subst (λ (o : Option Clause). IfSome o (λ d. g.S.Source.has_instance c.args.source.now c.args.instance)) c.in-Some.is c.in_ok-clause.ensures.accepted;
  clause_is = subst (λ (o : Option Clause). IfSome o (λ d. d ≡ g.S.Source.clause_of c.args.source.now c.args.instance)) c.in-Some.is c.in_ok-clause.ensures.clause;
  gives = subst (λ (d : Clause). Gives c.args.trail.now d) (ap (map lit_of) c.deref.ensures.value ∙ c.in_ok-codes.ensures ∙ c.as_slice.ensures) (c.is_due.ensures c.if-not-is_due.false);
}
