use Rattle.std.proofs.Common.{◌∙◌, List, ℕ, length, sym, subst, arith}
use Rattle.th_strings.specs.Scarce.{AreScarce}
use Rattle.th_strings.proofs.CrowdLaws.{crowd_told, crowd_none}
use Rattle.th_strings.proofs.crowds.broken_crowd.Goals as goal

pub returns-in-Some-clause-found : goal.returns-in-Some-clause-found
returns-in-Some-clause-found c =
    let scarce = subst (λ (ks : List ℕ). AreScarce c.args.problem.now c.args.m.now c.args.patterns.now (length c.args.texts.now) c.args.texts.now ks) (sym c.as_slice-numbers.ensures.value) c.in_ok-scarce.ensures in
    crowd_told c.args.problem.now c.args.m.now c.args.patterns.now c.as_slice-numbers.result.now c.laws.ensures (length c.args.texts.now) c.args.texts.now c.requires scarce _ (c.as_slice.ensures.value ∙ c.in_ok-signs.ensures) _
    c.in-Some.crowd c.in_ok-crowd_rule-in-Some.field-0 c.in-Some.is c.in_ok-crowd.ensures.found c.in_ok-crowd_rule-in-Some.ensures

pub returns-clause-none : goal.returns-clause-none
returns-clause-none c =
    let scarce = subst (λ (ks : List ℕ). AreScarce c.args.problem.now c.args.m.now c.args.patterns.now (length c.args.texts.now) c.args.texts.now ks) (sym c.as_slice-numbers.ensures.value) c.in_ok-scarce.ensures in
    crowd_none c.args.problem.now c.args.m.now c.args.patterns.now c.as_slice-numbers.result.now c.laws.ensures (length c.args.texts.now) c.args.texts.now c.requires scarce _ (c.as_slice.ensures.value ∙ c.in_ok-signs.ensures) _
    (omega arith) c.in-None.is c.in_ok-crowd.ensures.none
