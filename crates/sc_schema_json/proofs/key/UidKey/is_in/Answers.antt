use Rattle.std.proofs.Common.{◌↔◌, sym, subst, Bool, Contains, IsTrue}
use Rattle.sc_schema_json.proofs.PlaceLaws.{uid_among}
use Rattle.sc_schema_json.proofs.key.UidKey.is_in.Goals as goal

pub returns : goal.returns
returns c =
    subst (λ (b : Bool). IsTrue b ↔ Contains c.args.keys.now c.args.key.now) (sym c.is_ok.ensures.value)
    (uid_among c.args.keys.now c.args.key.now c.place.result c.place.ensures.found c.place.ensures.absent)
