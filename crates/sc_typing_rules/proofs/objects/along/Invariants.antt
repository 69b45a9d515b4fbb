use Rattle.std.proofs.Common.{◌≡◌, drop}
use Rattle.sc_typing_rules.specs.Paths.{along}
use Rattle.sc_typing_rules.proofs.objects.along.Given as goal

abbrev pub invariant-loop-i : goal.invariant-loop-i
invariant-loop-i l =
    along l.setting.schema.now l.place l.setting.known.now (record { object = l.object; at = l.at; type = l.ty }) l.path (drop l.i l.names)
    ≡ along l.setting.schema.now l.place l.setting.known.now (record { object = l.fn.object; at = l.fn.at; type = l.fn.ty }) l.fn.path l.names
