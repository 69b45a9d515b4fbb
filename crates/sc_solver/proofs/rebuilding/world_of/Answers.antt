use Rattle.sc_model_consistency.specs.Models.{model}
use Rattle.sc_solver.proofs.RebuiltLaws.{of_model, well_formed, has_truths, satisfies}
use Rattle.sc_solver.proofs.rebuilding.world_of.Goals as goal

pub returns-clause-well_formed : goal.returns-clause-well_formed
returns-clause-well_formed c =
    let p = c.args.problem.now in
    let m = c.args.m.now in
    let names = c.args.names.now in
    well_formed
    (record { possible = c.rebuilt_laws.ensures.possible; holds_there = c.rebuilt_laws.ensures.holds; right = c.rebuilding_laws.ensures.truths; covered = c.rebuilding_laws.ensures.covered })
    p c.laws.ensures (λ d h. c.defining_laws.ensures.lawful p d c.laws.ensures h) m c.requires.consistent names c.requires.named
    c.world_with.result c.requires.texts
    (of_model p (model p m names) _ _ _ _ c.world_with.result c.schema.ensures c.in_ok-given.ensures c.in_ok-request.ensures c.lits.ensures
    (record { of_request = c.world_with.ensures.request; value = c.world_with.ensures.value; exact = c.world_with.ensures.exact; well_formed = c.world_with.ensures.well_formed }))

pub returns-clause-truths : goal.returns-clause-truths
returns-clause-truths c =
    let p = c.args.problem.now in
    let m = c.args.m.now in
    let names = c.args.names.now in
    has_truths
    (record { possible = c.rebuilt_laws.ensures.possible; holds_there = c.rebuilt_laws.ensures.holds; right = c.rebuilding_laws.ensures.truths; covered = c.rebuilding_laws.ensures.covered })
    p c.laws.ensures (λ d h. c.defining_laws.ensures.lawful p d c.laws.ensures h) m c.requires.consistent names c.requires.named
    c.world_with.result c.requires.texts
    (of_model p (model p m names) _ _ _ _ c.world_with.result c.schema.ensures c.in_ok-given.ensures c.in_ok-request.ensures c.lits.ensures
    (record { of_request = c.world_with.ensures.request; value = c.world_with.ensures.value; exact = c.world_with.ensures.exact; well_formed = c.world_with.ensures.well_formed }))

pub returns-clause-satisfies : goal.returns-clause-satisfies
returns-clause-satisfies c =
    let p = c.args.problem.now in
    let m = c.args.m.now in
    let names = c.args.names.now in
    satisfies
    (record { possible = c.rebuilt_laws.ensures.possible; holds_there = c.rebuilt_laws.ensures.holds; right = c.rebuilding_laws.ensures.truths; covered = c.rebuilding_laws.ensures.covered })
    p c.laws.ensures (λ d h. c.defining_laws.ensures.lawful p d c.laws.ensures h) m c.requires.consistent names c.requires.named
    c.world_with.result c.requires.texts
    (of_model p (model p m names) _ _ _ _ c.world_with.result c.schema.ensures c.in_ok-given.ensures c.in_ok-request.ensures c.lits.ensures
    (record { of_request = c.world_with.ensures.request; value = c.world_with.ensures.value; exact = c.world_with.ensures.exact; well_formed = c.world_with.ensures.well_formed }))
