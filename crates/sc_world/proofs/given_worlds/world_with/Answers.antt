use Rattle.std.proofs.Common.{refl}
use Rattle.sc_lists.proofs.ListLaws.{all_weaker}
use Rattle.sc_values.specs.Proper.{IsUidText}
use Rattle.sc_world.specs.Sound.{IsSoundEntry}
use Rattle.sc_world.specs.WellFormed.{Entry}
use Rattle.sc_world.proofs.GivenWorldLaws.{well_formed_with}
use Rattle.sc_world.proofs.given_worlds.world_with.Goals as goal

pub returns : goal.returns
returns c =
    let s = c.args.s.now in
    let given = c.args.given in
    let filled = c.in_ok-store.ensures in
    record {
      request = refl;
      value = filled.value;
      exact = filled.exact;
      well_formed = λ env among sound.
          let texts = all_weaker (IsSoundEntry s given) (λ (x : Entry). IsUidText x.0) (λ x h. h.proper.uid) given sound in
          well_formed_with s c.laws.ensures.lawful given sound env c.args.request c.args.lits.now c.in_ok-store.store among (filled.texts texts) filled.value filled.exact c.entities-ascending.ensures.ascending;
    }
