use Rattle.std.proofs.Common.{◌≡◌, ◌∙◌, length, sym, ap, arith, rules}
use Rattle.sc_footprint.specs.Problems.{Posed}
use Rattle.sc_footprint.proofs.CompanionLaws.{companions_many}
use Rattle.sc_footprint.proofs.problem.Problem.closed_count.Goals as goal

pub returns-clause-value : goal.returns-clause-value
returns-clause-value c =
    let here : c.len.result ≡ length c.self.inside.spans.items = search rules in
    let many = companions_many _ _ _ _ _ c.self.invariant.companions_are in
    here ∙ sym many ∙ ap (λ (p : Posed). length p.closed) c.self.view_is

pub returns-clause-small : goal.returns-clause-small
returns-clause-small c =
    let here : c.len.result ≡ length c.self.inside.spans.items = search rules in
    let many = companions_many _ _ _ _ _ c.self.invariant.companions_are in
    omega (arith, here, many, c.self.invariant.posed.small)
