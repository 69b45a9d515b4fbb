use Rattle.std.proofs.Common.{◌≡◌, IfOk, sym, subst}
use Rattle.sc_world.specs.declared.world.Request.{Request}
use Rattle.sc_world.specs.Named.{StoresNamed, IsRequestAmong}
use Rattle.sc_world.proofs.DefaultEntityLaws.{default_among}
use Rattle.sc_world.proofs.default_worlds.default_world.Goals as goal

pub returns : goal.returns
returns c =
    let s = c.args.s.now in
    let env = c.args.env.now in
    let literals = c.args.lits.now in
    let is = c.in_ok-request.ensures in
    record {
      request = subst (λ (r : Request). IfOk c.world_for.result (λ w. w.request ≡ r)) is c.world_for.ensures.request;
      value = c.world_for.ensures.value;
      exact = subst (λ (r : Request). IfOk c.world_for.result (λ w. StoresNamed s r literals w.store)) is c.world_for.ensures.exact;
      well_formed = λ declared.
          c.world_for.ensures.well_formed env (subst (λ (r : Request). IsRequestAmong s env r literals) (sym is) (default_among s c.laws.ensures.lawful env literals c.requires declared));
    }
