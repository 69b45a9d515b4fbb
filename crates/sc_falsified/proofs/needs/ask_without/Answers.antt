use Rattle.std.proofs.Common.{rules, set, ◌∙◌, None}
use Rattle.sc_falsified.proofs.NeedLaws.{needed_taken, needed_kept}
use Rattle.sc_falsified.proofs.needs.ask_without.Goals as goal

pub returns-then-branch-clause-needed : goal.returns-then-branch-clause-needed
returns-then-branch-clause-needed g c =
    needed_taken (g.S.Texts.few c.args.texts.now) c.args.count (g.met.S.Texts.asked c.args.texts.now) c.args.signs.now.items c.in_ok-fewer.fewer.items c.args.pattern
    (c.in_ok-fewer.ensures ∙ c.as_slice.ensures.value) c.requires.needed

pub returns-clause-needed : goal.returns-clause-needed
returns-clause-needed g c =
    let other : ¬ (g.S.Texts.few c.args.texts.now (set c.in_ok-fewer.fewer.items c.args.pattern None) c.args.count) = search rules in
    needed_kept (g.S.Texts.few c.args.texts.now) c.args.count c.args.signs.now.items c.in_ok-fewer.fewer.items c.args.pattern (c.in_ok-fewer.ensures ∙ c.as_slice.ensures.value) other
    c.requires.needed
