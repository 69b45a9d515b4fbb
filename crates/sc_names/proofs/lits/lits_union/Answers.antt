use Rattle.std.proofs.Common.{◌≡◌, ◌++◌}
use Rattle.sc_names.proofs.LitsLaws.{same_list, either}
use Rattle.sc_names.proofs.lits.lits_union.Goals as goal

pub returns : goal.returns
returns c =
    let both : c.put_all-2.new.list.items ≡ c.args.a.now ++ c.args.b.now =
    rw (c.in_ok-put_all.ensures, c.new-list.ensures.items, c.as_slice.ensures.value, c.as_slice-2.ensures.value) at c.in_ok-put_all-2.ensures in
    either _ _ _ (same_list _ _ _ both c.set_of.ensures)
