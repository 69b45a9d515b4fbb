use Rattle.std.proofs.Common.{rules, arith, ℕ, List, length, length-append, ◌+◌, ◌*◌, ◌≡◌, ◌<◌, ◌≤◌, ◌-◌, ◌∙◌, ap, refl, sym, subst, ◌++◌, ◌∷◌, [], Some, false}
use Rattle.std.specs.List.{All}
use Rattle.sc_falsified.specs.Crowds.{Signs, IsMeet, IsChosen, HasRoomFrom}
use Rattle.sc_falsified.proofs.CrowdLaws.{in_room, in_end, chosen_more, in_next, in_tight, if_none}
use Rattle.sc_falsified.proofs.crowds.+visit.Goals as goal

pub visit-returns-then-not-branch-clause-none : goal.visit-returns-then-not-branch-clause-none
visit-returns-then-not-branch-clause-none g t c =
    in_room (g.E.Equalities.truth c.args.items.now) (g.S.Texts.sign c.args.texts.now) (g.S.Texts.few c.args.texts.now) (g.E.Equalities.size c.args.items.now) 0
    (g.met.S.Texts.greater c.args.texts.now) (g.met.S.Texts.asked c.args.texts.now) c.args.chosen.now c.args.signs.now c.args.from c.in_ok-most.most (c.in_ok-most.ensures.room c.args.from (omega arith) c.requires.from) (search rules)

pub visit-loop-at-init : goal.visit-loop-at-init
visit-loop-at-init g t c =
    let size = c.len-at.ensures.size in
    record {
      from = search rules;
      bound = omega arith;
      none =
          in_end (g.E.Equalities.truth c.args.items.now) (g.S.Texts.sign c.args.texts.now) (g.S.Texts.few c.args.texts.now) (g.E.Equalities.size c.args.items.now) 0
          (g.met.S.Texts.greater c.args.texts.now) (g.met.S.Texts.asked c.args.texts.now) c.args.chosen.now c.args.signs.now c.len-at.result (omega arith) (search rules);
    }

pub visit-visit_with-requires : goal.visit-visit_with-requires
visit-visit_with-requires g t c κs within =
    let bound = c.loop-at.invariant.bound in
    let from = c.loop-at.invariant.from in
    let test = c.loop-at-test.true in
    let given = c.requires.short in
    let chosen = c.requires.chosen in
    let most = c.in_ok-most.ensures.small in
    let few = c.in_ok-most.ensures.bounded in
    let low : c.args.from ≤ c.loop-at.at - 1 = omega arith in
    let less : c.loop-at.at - 1 < g.E.Equalities.size c.args.items.now = omega arith in
    let short : length c.args.chosen.now ≤ c.loop-at.at - 1 = omega arith in
    let away : All (λ d. g.E.Equalities.truth c.args.items.now d (c.loop-at.at - 1) ≡ Some false) c.args.chosen.now = search rules in
    let room : HasRoomFrom (g.E.Equalities.truth c.args.items.now) (g.S.Texts.sign c.args.texts.now) (g.E.Equalities.size c.args.items.now) c.args.chosen.now (c.loop-at.at - 1) c.in_ok-most.most =
    λ place above le. c.in_ok-most.ensures.room place (omega arith) le in
    let falls : 2 * (g.E.Equalities.size c.args.items.now - (c.loop-at.at - 1)) < 2 * (g.E.Equalities.size c.args.items.now - c.args.from) + 1 = omega arith in
    search rules

pub visit_with-visit-requires : goal.visit_with-visit-requires
visit_with-visit-requires g t c κs within =
    let less = c.requires.at in
    let given = c.requires.short in
    let met : IsMeet (g.S.Texts.sign c.args.texts.now) c.args.signs.now c.args.at c.as_slice-3.result.now =
    subst (λ (v : Signs). IsMeet (g.S.Texts.sign c.args.texts.now) c.args.signs.now c.args.at v) (sym c.as_slice-3.ensures.value) c.in_ok-met.ensures in
    let longer : c.as_slice-2.result.now ≡ c.args.chosen.now ++ c.args.at ∷ [] = c.as_slice-2.ensures.value ∙ c.in_ok-further.ensures in
    let chosen : IsChosen (g.E.Equalities.truth c.args.items.now) (g.S.Texts.sign c.args.texts.now) (g.E.Equalities.size c.args.items.now) (g.S.Texts.patterns c.args.texts.now) c.as_slice-2.result.now c.as_slice-3.result.now =
    chosen_more (g.E.Equalities.truth c.args.items.now) (g.S.Texts.sign c.args.texts.now) (g.S.Texts.few c.args.texts.now) (g.E.Equalities.size c.args.items.now) (g.S.Texts.patterns c.args.texts.now)
    c.args.chosen.now c.as_slice-2.result.now c.args.signs.now c.as_slice-3.result.now c.args.at c.requires.chosen met longer less c.requires.apart in
    let size : length (c.args.chosen.now ++ c.args.at ∷ []) ≡ length c.args.chosen.now + 1 = length-append c.args.chosen.now (c.args.at ∷ []) in
    let same : length c.as_slice-2.result.now ≡ length (c.args.chosen.now ++ c.args.at ∷ []) = ap (λ (l : List ℕ). length l) longer in
    let short : length c.as_slice-2.result.now ≤ c.args.at + 1 = omega arith in
    let falls : 2 * (g.E.Equalities.size c.args.items.now - (c.args.at + 1)) + 1 < 2 * (g.E.Equalities.size c.args.items.now - c.args.at) = omega arith in
    search rules

pub visit_with-returns-then-not-branch-clause-none : goal.visit_with-returns-then-not-branch-clause-none
visit_with-returns-then-not-branch-clause-none g t c =
    in_tight (g.E.Equalities.truth c.args.items.now) (g.S.Texts.sign c.args.texts.now) (g.S.Texts.few c.args.texts.now) (g.E.Equalities.size c.args.items.now) 0
    (g.met.S.Texts.greater c.args.texts.now) (g.met.S.Texts.asked c.args.texts.now) c.args.chosen.now c.args.signs.now c.in_ok-met.met.items c.args.at c.args.at (c.args.at + 1) c.args.most
    refl (omega arith) c.requires.at c.in_ok-met.ensures c.requires.room (search rules)

pub visit_with-returns-clause-none : goal.visit_with-returns-clause-none
visit_with-returns-clause-none g t c =
    let met : IsMeet (g.S.Texts.sign c.args.texts.now) c.args.signs.now c.args.at c.as_slice-3.result.now =
    subst (λ (v : Signs). IsMeet (g.S.Texts.sign c.args.texts.now) c.args.signs.now c.args.at v) (sym c.as_slice-3.ensures.value) c.in_ok-met.ensures in
    if_none c.visit.result
    (in_next (g.E.Equalities.truth c.args.items.now) (g.S.Texts.sign c.args.texts.now) (g.S.Texts.few c.args.texts.now) (g.E.Equalities.size c.args.items.now) 0
    c.args.chosen.now c.as_slice-2.result.now c.args.signs.now c.as_slice-3.result.now c.args.at (c.args.at + 1) refl c.requires.at met (c.as_slice-2.ensures.value ∙ c.in_ok-further.ensures))
    c.visit.ensures.none
