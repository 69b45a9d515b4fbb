use Rattle.std.proofs.Common.{rules}
use Rattle.std.proofs.lemmas.Cmp.{nat_list_cmp_total}
use Rattle.std.proofs.lemmas.Fn.{always_returns_same}
use Rattle.sc_lists.proofs.OrderedLaws.{searched}
use Rattle.sc_names.specs.Uids.{text_cmp}
use Rattle.sc_schema.proofs.fields.place.Goals as goal

-- the closure compares a field's name with the one that is looked for
pub returns-clause-found : goal.returns-clause-found
returns-clause-found g c =
    let compares = c.binary_search_by.ensures.position (λ f. text_cmp f.0 c.args.name.now) (always_returns_same _ _ _ (λ a r f called. (search rules, search rules))) in
    (searched nat_list_cmp_total (λ f. f.0) c.args.fields.now c.args.name.now _ c.requires c.binary_search_by.ensures.bound compares).0

pub returns-clause-absent : goal.returns-clause-absent
returns-clause-absent g c =
    let compares = c.binary_search_by.ensures.position (λ f. text_cmp f.0 c.args.name.now) (always_returns_same _ _ _ (λ a r f called. (search rules, search rules))) in
    (searched nat_list_cmp_total (λ f. f.0) c.args.fields.now c.args.name.now _ c.requires c.binary_search_by.ensures.bound compares).1
