use Rattle.std.proofs.Common.{◌∙◌, ap}
use Rattle.std.specs.Map.{keys_of}
use Rattle.sc_sorts.specs.Inside.{fields_in}
use Rattle.sc_sorts.specs.declared.sort.Sort.{Sort, out-Sort}
use Rattle.sc_terms.proofs.TableLaws.{keeps_then}
use Rattle.sc_term_definitions.specs.Definitions.{bit_count}
use Rattle.sc_closure_rules.proofs.InsideLaws.{places_later, inside_put}
use Rattle.sc_closure_rules.proofs.inside.put_inside.Goals as goal

pub put_bits-requires-clause-places : goal.put_bits-requires-clause-places
put_bits-requires-clause-places c =
    places_later c.args.terms.now _ c.args.n _ _ (keeps_then _ _ _ c.in_ok-put_fields.ensures.kept c.in_ok-put_held.ensures.kept) c.requires c.sort-2.ensures c.bit_count-count.ensures

pub returns-clause-ok : goal.returns-clause-ok
returns-clause-ok c =
    inside_put _ _ _ _ c.args.n _ _ _ _ _ _ c.requires
    (c.as_slice.ensures ∙ c.in_ok-names.ensures ∙ ap (λ (k : Sort). keys_of (fields_in (out-Sort k))) c.sort.ensures)
    (c.bit_count-count.ensures ∙ ap bit_count c.sort-2.ensures)
    c.in_ok-put_fields.ensures.ok
    c.in_ok-put_held.ensures.ok
    c.in_ok-put_bits.ensures.ok
