use Rattle.std.proofs.Common.{true≢false, refl, sym, ap, ◌∙◌, ◌∷◌, [], ◌++◌, List, Some}
use Rattle.sc_schema_types.specs.declared.search.Step.{Step}
use Rattle.sc_schema_types.specs.Searches.{opened}
use Rattle.sc_schema_types.specs.Tables.{body_in}
use Rattle.sc_schema_types.proofs.OnceLaws.{no_mark}
use Rattle.sc_schema_types.proofs.SearchesLaws.{goes_back, goes_down, meets, skips_seen, stops_at}
use Rattle.sc_schema_types.proofs.search.go_on.Goals as goal

pub returns-in_default : goal.returns-in_default
returns-in_default c =
    goes_back (body_in c.args.bodies.now.entries) c.args.search.now c.leave.new.self c.args.step c.skip_placed-placed.result c.requires
    (skips_seen c.args.search.now.marks.entries c.as_slice.result.now c.args.step.next c.args.step.placed c.skip_placed-placed.result c.as_slice.ensures c.skip_placed-placed.ensures.over) (sym c.in_default.ensures) c.in_ok-leave.ensures.order c.in_ok-leave.ensures.path c.in_ok-leave.ensures.marks

pub returns-then-is_marked : goal.returns-then-is_marked
returns-then-is_marked c =
    meets (body_in c.args.bodies.now.entries) c.args.search.now.order.items c.args.search.now.path.items c.args.search.now.marks.entries c.args.step c.requires c.skip_placed-placed.result
    (skips_seen c.args.search.now.marks.entries c.as_slice.result.now c.args.step.next c.args.step.placed c.skip_placed-placed.result c.as_slice.ensures c.skip_placed-placed.ensures.over) c.in_ok-following.following
    (sym c.in-Some.ensures ∙ ap Some (sym c.in_ok-following.ensures)) (c.is_marked.ensures.0 c.if-is_marked.true)

pub returns : goal.returns
returns c =
    let further : Step = record { name = c.args.step.name; next = c.args.step.next; placed = c.skip_placed-placed.result } in
    goes_down (body_in c.args.bodies.now.entries) c.args.search.now c.enter.new.self c.args.step further c.in_ok-following.following c.skip_placed-placed.result c.requires
    (skips_seen c.args.search.now.marks.entries c.as_slice.result.now c.args.step.next c.args.step.placed c.skip_placed-placed.result c.as_slice.ensures c.skip_placed-placed.ensures.over)
    (sym c.in-Some.ensures ∙ ap Some (sym c.in_ok-following.ensures))
    (no_mark c.args.search.now.marks.entries c.in_ok-following.following
    (stops_at c.args.search.now.marks.entries c.as_slice.result.now c.args.step.next c.skip_placed-placed.result c.in_ok-following.following c.as_slice.ensures c.skip_placed-placed.ensures.stops
    (sym c.in-Some.ensures ∙ ap Some (sym c.in_ok-following.ensures)))
    (λ e. true≢false (sym (c.is_marked.ensures.1 e) ∙ c.if-is_marked.false))) refl refl refl c.in_ok-enter.ensures.order
    (c.in_ok-enter.ensures.path ∙ ap (λ (p : List Step). p ++ opened (body_in c.args.bodies.now.entries) c.in_ok-following.following ∷ []) c.in_ok-push.ensures.items) c.in_ok-enter.ensures.marks
