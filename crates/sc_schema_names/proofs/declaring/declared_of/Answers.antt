use Rattle.std.proofs.Common.{ap, ◌∙◌}
use Rattle.sc_lists.specs.Ordered.{is_in}
use Rattle.sc_names.specs.Uids.{text_cmp, uid_cmp}
use Rattle.sc_schema_names.proofs.DeclaredLaws.{known_is}
use Rattle.sc_schema_names.proofs.declaring.declared_of.Goals as goal

pub returns : goal.returns
returns c =
    known_is _ c.args.written.now
    (λ n. c.in_ok-set_of.ensures n ∙ ap (is_in text_cmp n) c.in_ok-entity_types.ensures)
    (λ n. c.in_ok-set_of-2.ensures n ∙ ap (is_in text_cmp n) c.in_ok-common_types.ensures)
    (λ u. c.in_ok-set_of-3.ensures u ∙ ap (is_in uid_cmp u) c.in_ok-actions.ensures)
