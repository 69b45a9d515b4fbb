use Rattle.std.proofs.Common.{◌||◌, ap, sym, ◌∙◌}
use Rattle.sc_typed.specs.Capabilities.{is_known}
use Rattle.sc_typed.proofs.CapabilityLaws.{either_known}
use Rattle.sc_typed.proofs.capability.is_known_in_either.Goals as goal

pub returns-then-is_known : goal.returns-then-is_known
returns-then-is_known c =
    c.if-is_known.true
    ∙ (ap (λ b. b || is_known c.args.second.now c.args.capability.now) (sym c.if-is_known.true ∙ c.is_known.ensures)
    ∙ either_known c.args.first.now c.args.second.now c.args.capability.now)

pub returns-else-is_known : goal.returns-else-is_known
returns-else-is_known c =
    c.is_known-else-is_known.ensures
    ∙ (ap (λ b. b || is_known c.args.second.now c.args.capability.now) (sym c.if-is_known.false ∙ c.is_known.ensures)
    ∙ either_known c.args.first.now c.args.second.now c.args.capability.now)
