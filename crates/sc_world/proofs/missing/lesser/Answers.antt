use Rattle.std.proofs.Common.{◌∙◌, true, false, Option, Some, refl, ap, sym, option_copied}
use Rattle.sc_names.specs.declared.uid.Uid.{Uid}
use Rattle.sc_world.specs.Tests.{lesser_of}
use Rattle.sc_world.proofs.LeastLaws.{lesser_told}
use Rattle.sc_world.proofs.missing.lesser.Goals as goal

pub returns-then-is_stored : goal.returns-then-is_stored
returns-then-is_stored c =
    let least = option_copied c.args.least in
    lesser_told c.args.store.now least least c.args.uid.now c.is_stored.result true c.is_stored.ensures c.if-is_stored.true refl

pub returns-in-Some : goal.returns-in-Some
returns-in-Some c =
    let u = c.args.uid.now in
    lesser_told c.args.store.now (option_copied c.args.least) (Some c.lesser_of.result.now) u c.is_stored.result false c.is_stored.ensures c.if-is_stored.false
    (ap Some c.lesser_of.ensures ∙ ap (λ (o : Option Uid). lesser_of o u) (ap option_copied (sym c.in-Some.is)))

pub returns-in-None : goal.returns-in-None
returns-in-None c =
    let u = c.args.uid.now in
    lesser_told c.args.store.now (option_copied c.args.least) (Some u) u c.is_stored.result false c.is_stored.ensures c.if-is_stored.false
    (ap (λ (o : Option Uid). lesser_of o u) (ap option_copied (sym c.in-None.is)))
