use Rattle.std.proofs.Common.{sym, subst}
use Rattle.std.proofs.lemmas.Result.{IfOk-weaker}
use Rattle.sc_world.specs.Given.{AreAsGiven, StoresNamedWith}
use Rattle.sc_world.specs.Sound.{AreSound}
use Rattle.sc_world.specs.Stores.{Entities}
use Rattle.sc_world.proofs.NamedWithLaws.{are_defaults, stores_named}
use Rattle.sc_world.proofs.default_worlds.world_for.Goals as goal

pub returns : goal.returns
returns c =
    let s = c.args.s.now in
    let nothing = c.new-nothing.ensures in
    record {
      request = c.world_with.ensures.request;
      value = IfOk-weaker c.world_with.result _ _ (λ w h. are_defaults s w.store (subst (λ (given : Entities). AreAsGiven s given w.store) nothing h)) c.world_with.ensures.value;
      exact = IfOk-weaker c.world_with.result _ _
          (λ w h. stores_named s c.laws.ensures.lawful c.args.request c.args.lits.now w.store (subst (λ (given : Entities). StoresNamedWith s given c.args.request c.args.lits.now w.store) nothing h)) c.world_with.ensures.exact;
      well_formed = λ env among. c.world_with.ensures.well_formed env among (subst (AreSound s) (sym nothing) tt);
    }
