use Rattle.std.proofs.Common.{◌≡◌, ◌<◌, ◌-◌, ◌∙◌, ℕ, List, length, slice_get, Option, None, option_map, IfSome, Contains, sym, ap, subst}
use Rattle.sc_laws.proofs.NumberLaws.{eqb_false}
use Rattle.sc_terms.specs.Tables.{tree}
use Rattle.sc_footprint.specs.declared.companions.Span.{Span}
use Rattle.sc_footprint.specs.Companions.{between}
use Rattle.sc_footprint.specs.Problems.{Posed, companion}
use Rattle.sc_footprint.proofs.CompanionLaws.{span_ordered, companion_value, companion_within, companion_closed, companion_none}
use Rattle.sc_footprint.proofs.problem.Problem.companion.Goals as goal

pub number_between-requires : goal.number_between-requires
number_between-requires c =
    let is = sym (c.span_at.ensures ∙ ap (λ (ss : List Span). slice_get ss (c.args.n - 1)) c.deref.ensures.value) ∙ c.in-Some.is in
    span_ordered _ _ _ _ _ c.self.invariant c.args.n c.args.place (eqb_false c.args.n 0 c.if-n-eq0.false) _ is

pub returns-in-Some-clause-value : goal.returns-in-Some-clause-value
returns-in-Some-clause-value c =
    let is = sym (c.span_at.ensures ∙ ap (λ (ss : List Span). slice_get ss (c.args.n - 1)) c.deref.ensures.value) ∙ c.in-Some.is in
    let number = c.number_between.ensures ∙ ap (λ (ns : List ℕ). slice_get (between ns c.in-Some.span) c.args.place) c.deref-in-Some.ensures.value in
    subst (λ (p : Posed). option_map (tree p.nodes) c.number_between.result ≡ companion p c.args.n c.args.place) c.self.view_is
    (ap (option_map (tree c.self.inside.terms)) number ∙ companion_value _ _ _ _ _ c.self.invariant c.args.n c.args.place (eqb_false c.args.n 0 c.if-n-eq0.false) _ is)

pub returns-in-Some-clause-within : goal.returns-in-Some-clause-within
returns-in-Some-clause-within c =
    let is = sym (c.span_at.ensures ∙ ap (λ (ss : List Span). slice_get ss (c.args.n - 1)) c.deref.ensures.value) ∙ c.in-Some.is in
    let number = c.number_between.ensures ∙ ap (λ (ns : List ℕ). slice_get (between ns c.in-Some.span) c.args.place) c.deref-in-Some.ensures.value in
    subst (λ (p : Posed). IfSome c.number_between.result (λ t. t < length p.nodes)) c.self.view_is
    (subst (λ (o : Option ℕ). IfSome o (λ t. t < length c.self.inside.terms)) (sym number) (companion_within _ _ _ _ _ c.self.invariant c.args.n c.args.place (eqb_false c.args.n 0 c.if-n-eq0.false) _ is))

pub returns-in-Some-clause-closed : goal.returns-in-Some-clause-closed
returns-in-Some-clause-closed c =
    let is = sym (c.span_at.ensures ∙ ap (λ (ss : List Span). slice_get ss (c.args.n - 1)) c.deref.ensures.value) ∙ c.in-Some.is in
    let number = c.number_between.ensures ∙ ap (λ (ns : List ℕ). slice_get (between ns c.in-Some.span) c.args.place) c.deref-in-Some.ensures.value in
    subst (λ (p : Posed). IfSome c.number_between.result (λ t. Contains p.closed t)) c.self.view_is
    (subst (λ (o : Option ℕ). IfSome o (λ t. Contains c.self.inside.closed.keys t)) (sym number) (companion_closed _ _ _ _ _ c.self.invariant c.args.n c.args.place (eqb_false c.args.n 0 c.if-n-eq0.false) _ is c.laws.ensures))

pub returns-in-None-clause-value : goal.returns-in-None-clause-value
returns-in-None-clause-value c =
    let is = sym (c.span_at.ensures ∙ ap (λ (ss : List Span). slice_get ss (c.args.n - 1)) c.deref.ensures.value) ∙ c.in-None.is in
    subst (λ (p : Posed). None ≡ companion p c.args.n c.args.place) c.self.view_is (companion_none _ _ _ _ _ c.self.invariant c.args.n c.args.place (eqb_false c.args.n 0 c.if-n-eq0.false) is)
