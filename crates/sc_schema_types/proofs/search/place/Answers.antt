use Rattle.std.proofs.Common.{◌-◌, ℕ, take, refl, sym, ap, ◌∙◌, true≢false}
use Rattle.std.proofs.lemmas.Option.{MatchOption-at_none}
use Rattle.sc_schema_types.specs.declared.search.Search.{Search}
use Rattle.sc_schema_types.specs.Tables.{body_in}
use Rattle.sc_schema_types.proofs.SearchesLaws.{rests_unmarked, placing_first, placing_next, placing_last}
use Rattle.sc_schema_types.proofs.search.place.Goals as goal

pub loop-step-init : goal.loop-step-init
loop-step-init c =
    placing_first (body_in c.args.bodies.now.entries) c.args.search.now c.enter.new.self c.args.start.now c.requires
    (rests_unmarked (body_in c.args.bodies.now.entries) c.args.search.now c.args.start.now c.requires (λ e. true≢false (sym (c.is_marked.ensures.1 e) ∙ c.if-is_marked.false))) c.in_ok-enter.ensures.order c.in_ok-enter.ensures.path c.in_ok-enter.ensures.marks

pub loop-step-preserved : goal.loop-step-preserved
loop-step-preserved c =
    let old : Search = c.loop-step.search in
    let popped : Search = record { order = c.loop-step.search.order; path = c.pop.new.self; marks = c.loop-step.search.marks } in
    placing_next (body_in c.args.bodies.now.entries) c.args.search.now.order.items c.args.start.now old popped c.go_on.new.search c.in-Some.step c.loop-step.invariant c.in-Some.ensures.items refl
    (MatchOption-at_none _ _ c.in_default-2.is c.in_ok-cycle.ensures)

pub returns : goal.returns
returns c =
    let old : Search = c.loop-step.search in
    let new : Search = record { order = c.loop-step.search.order; path = c.pop.new.self; marks = c.loop-step.search.marks } in
    placing_last (body_in c.args.bodies.now.entries) c.args.search.now.order.items c.args.start.now old new c.loop-step.invariant c.in_default.ensures.items (c.in_default.ensures.rest ∙ ap (λ (n : ℕ). take (n - 1) c.loop-step.search.path.items) c.in_default.ensures.cases.0) refl refl
