-- What the sets of declared names tell. No public promise speaks of them.
use Rattle.sc_lists.specs.Ordered.{is_in}
use Rattle.sc_names.specs.Uids.{text_cmp, uid_cmp}
use Rattle.sc_schema_names.specs.declared.declared.Declared.{Declared}
use Rattle.sc_schema_names.specs.Names.{Known}

unfoldable pub known : Declared → Known
known d =
    record {
      is_entity_type = λ name. is_in text_cmp name d.entity_types.keys;
      is_common_type = λ name. is_in text_cmp name d.common_types.keys;
      is_action = λ uid. is_in uid_cmp uid d.actions.keys;
    }
