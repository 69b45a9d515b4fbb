use Rattle.std.proofs.Common.{IsPermutation}
use Rattle.sc_names.specs.Uids.{uid_cmp}
use Rattle.sc_schema.specs.Resolved.{actions}
use Rattle.sc_schema_json.specs.Schemas.{resolved_links}
use Rattle.sc_schema_json.proofs.CycleLaws.{resolved_distinct, resolved_named, least_told, none_told}
use Rattle.sc_schema_json.proofs.LinksLaws.{named_permuted}
use Rattle.sc_schema_json.proofs.cycle.least_cycle.Goals as goal

pub links_in_order-links-requires : goal.links_in_order-links-requires
links_in_order-links-requires c = rw c.in_ok-links_of.ensures (resolved_distinct c.args.schema.now c.requires)

pub least_above_itself-requires-clause-declared : goal.least_above_itself-requires-clause-declared
least_above_itself-requires-clause-declared c =
    let links = resolved_links (actions c.args.schema.now) in
    let permutation : IsPermutation links c.as_slice.result.now = rw (c.as_slice.ensures, ← c.in_ok-links_of.ensures) c.links_in_order-links.ensures.same in
    named_permuted links c.as_slice.result.now permutation (resolved_named c.args.schema.now c.requires)

pub returns-clause-found : goal.returns-clause-found
returns-clause-found c =
    let links = resolved_links (actions c.args.schema.now) in
    let permutation : IsPermutation links c.as_slice.result.now = rw (c.as_slice.ensures, ← c.in_ok-links_of.ensures) c.links_in_order-links.ensures.same in
    least_told uid_cmp c.least_above_itself.result links c.as_slice.result.now permutation c.least_above_itself.ensures.found

pub returns-clause-none : goal.returns-clause-none
returns-clause-none c =
    let links = resolved_links (actions c.args.schema.now) in
    let permutation : IsPermutation links c.as_slice.result.now = rw (c.as_slice.ensures, ← c.in_ok-links_of.ensures) c.links_in_order-links.ensures.same in
    none_told c.least_above_itself.result links c.as_slice.result.now permutation c.least_above_itself.ensures.none
