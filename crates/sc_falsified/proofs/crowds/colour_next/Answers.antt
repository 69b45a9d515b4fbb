use Rattle.std.proofs.Common.{rules}
use Rattle.sc_falsified.specs.Colours.{IsAway}
use Rattle.sc_falsified.proofs.ColourLaws.{coloured_none, coloured_old, coloured_new}
use Rattle.sc_falsified.proofs.crowds.colour_next.Goals as goal

pub returns-then-not-is_apart : goal.returns-then-not-is_apart
returns-then-not-is_apart g c =
    let other : ¬ (IsAway (g.E.Equalities.truth c.args.items.now) c.args.chosen.now c.args.item) = search rules in
    coloured_none (g.E.Equalities.truth c.args.items.now) c.args.chosen.now c.args.from c.args.item c.args.count c.args.colours.now.items c.push-then-not-is_apart.new.self.items
    c.in_ok-push-2.ensures.items (λ both. other both.1) c.requires.coloured

pub returns-then-colour-count : goal.returns-then-colour-count
returns-then-colour-count g c =
    coloured_old (g.E.Equalities.truth c.args.items.now) c.args.chosen.now c.args.from c.args.item c.args.count c.colour_of-colour.result c.as_slice.result.now c.args.colours.now.items c.push-2.new.self.items
    c.as_slice.ensures.value c.in_ok-push-3.ensures.items (search rules) c.colour_of-colour.ensures.may c.requires.coloured

pub returns : goal.returns
returns g c =
    coloured_new (g.E.Equalities.truth c.args.items.now) c.args.chosen.now c.args.from c.args.item c.args.count c.colour_of-colour.result c.args.colours.now.items c.push-2.new.self.items
    c.in_ok-push-3.ensures.items c.colour_of-colour.ensures.small (search rules) c.requires.coloured
