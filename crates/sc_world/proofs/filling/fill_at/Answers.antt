use Rattle.std.proofs.Common.{Result, Ok, Err, OnOk}
use Rattle.sc_world.proofs.FillLaws.{known-at, added-at}
use Rattle.sc_world.proofs.filling.fill_at.Goals as goal

pub returns-then-is_stored : goal.returns-then-is_stored
returns-then-is_stored c =
    known-at c.args.s.now c.args.uids.now _ c.args.store.now c.args.at _ c.as_slice.ensures c.index-as_slice-at.is c.requires (c.is_stored.ensures.0 c.if-is_stored.true)

both : {X E : Type 0} (r : Result X E) (P Q R : Type 0) → OnOk r P → OnOk r Q → (P → Q → R) → OnOk r R
both (Ok x) P Q R p q f = f p q
both (Err e) P Q R p q f = tt

pub returns : goal.returns
returns c =
    both c.fill_with.result _ _ _ c.fill_with.ensures.uids c.fill_with.ensures.store
    (λ uids store. added-at c.args.s.now c.args.uids.now _ _ c.args.store.now _ c.args.at _ _ _ c.as_slice.ensures c.index-as_slice-at.is c.requires c.is_stored.ensures c.if-is_stored.false c.in_ok-uid.ensures c.fill_with.ensures.text uids store)
