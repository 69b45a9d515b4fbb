use Rattle.sc_lists.proofs.MemberLaws.{list_any-Has}
use Rattle.th_strings_instances.proofs.plenty.is_among.Goals as goal

pub returns : goal.returns
returns c = rw c.contains.ensures.value (list_any-Has c.args.letters.now c.args.c)
