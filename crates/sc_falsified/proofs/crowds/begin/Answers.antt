use Rattle.std.proofs.Common.{rules, ◌∙◌, ap, sym, subst, ◌++◌, ◌∷◌, [], List, ℕ}
use Rattle.sc_falsified.specs.Crowds.{IsRow, Signs}
use Rattle.sc_falsified.proofs.CrowdLaws.{after_room, after_next, if_none}
use Rattle.sc_falsified.proofs.crowds.begin.Goals as goal

pub returns-then-not-branch-clause-none : goal.returns-then-not-branch-clause-none
returns-then-not-branch-clause-none g c =
    let other : ¬ (g.S.Texts.few c.args.texts.now c.in_ok-signs.signs.items c.args.most) = search rules in
    after_room (g.E.Equalities.truth c.args.items.now) (g.S.Texts.sign c.args.texts.now) (g.S.Texts.few c.args.texts.now) (g.E.Equalities.size c.args.items.now) (g.S.Texts.patterns c.args.texts.now)
    (g.met.S.Texts.greater c.args.texts.now) (g.met.S.Texts.asked c.args.texts.now) c.args.empty.now c.in_ok-signs.signs.items c.args.item c.args.most c.requires.empty c.requires.bound
    c.in_ok-signs.ensures c.requires.room other

pub returns-clause-none : goal.returns-clause-none
returns-clause-none g c =
    let row : IsRow (g.S.Texts.sign c.args.texts.now) (g.S.Texts.patterns c.args.texts.now) c.args.item c.as_slice-3.result.now =
    subst (λ (v : Signs). IsRow (g.S.Texts.sign c.args.texts.now) (g.S.Texts.patterns c.args.texts.now) c.args.item v) (sym c.as_slice-3.ensures.value) c.in_ok-signs.ensures in
    if_none c.visit.result
    (after_next (g.E.Equalities.truth c.args.items.now) (g.S.Texts.sign c.args.texts.now) (g.S.Texts.few c.args.texts.now) (g.E.Equalities.size c.args.items.now) (g.S.Texts.patterns c.args.texts.now)
    c.as_slice-2.result.now c.as_slice-3.result.now c.args.item c.requires.bound row
    (c.as_slice-2.ensures.value ∙ c.in_ok-chosen.ensures ∙ ap (λ (l : List ℕ). l ++ c.args.item ∷ []) c.requires.empty))
    c.visit.ensures.none
