use Rattle.std.proofs.Common.{◌≡◌, ◌∙◌, ap, sym, rules, string_bytes}
use Rattle.serde_json.specs.Data.{object}
use Rattle.serde_json.specs.View.{view, members_view}
use Rattle.sc_schema_syntax.specs.declared.type_word.TypeWord.TheVariants as word
use Rattle.sc_schema_syntax.specs.declared.written_type.WrittenType.TheVariants as type
use Rattle.sc_schema_syntax.proofs.DepthLaws.{depth_start, depth_next}
use Rattle.sc_schema_syntax.proofs.WrittenLaws.{type_of_word, object_is, no_attributes, attributes_start, attributes_next, attributes_end}
use Rattle.sc_schema_syntax.proofs.types.+types.Goals as goal

pub type_of-returns-in-Boolean : goal.type_of-returns-in-Boolean
type_of-returns-in-Boolean t c =
    type_of_word (view c.args.value.now) word.Boolean c.text_of-word.result.now _ c.in-Boolean.ensures c.text_of-word.ensures c.value_at.ensures.found

pub type_of-returns-in-Long : goal.type_of-returns-in-Long
type_of-returns-in-Long t c =
    type_of_word (view c.args.value.now) word.Long c.text_of-word.result.now _ c.in-Long.ensures c.text_of-word.ensures c.value_at.ensures.found

pub type_of-returns-in-String : goal.type_of-returns-in-String
type_of-returns-in-String t c =
    type_of_word (view c.args.value.now) word.String c.text_of-word.result.now _ c.in-String.ensures c.text_of-word.ensures c.value_at.ensures.found

pub type_of-returns-in_ok-element_of-in-Set : goal.type_of-returns-in_ok-element_of-in-Set
type_of-returns-in_ok-element_of-in-Set t c =
    ap type.Set c.in_ok-element_of-in-Set.ensures
    ∙ type_of_word (view c.args.value.now) word.Set c.text_of-word.result.now _ c.in-Set.ensures c.text_of-word.ensures c.value_at.ensures.found

pub type_of-returns-in_ok-attributes_in-in-Record : goal.type_of-returns-in_ok-attributes_in-in-Record
type_of-returns-in_ok-attributes_in-in-Record t c =
    ap type.Record c.in_ok-attributes_in-in-Record.ensures
    ∙ type_of_word (view c.args.value.now) word.Record c.text_of-word.result.now _ c.in-Record.ensures c.text_of-word.ensures c.value_at.ensures.found

pub type_of-returns-in_ok-name_of-in-Entity : goal.type_of-returns-in_ok-name_of-in-Entity
type_of-returns-in_ok-name_of-in-Entity t c =
    ap type.Entity c.in_ok-name_of-in-Entity.ensures
    ∙ type_of_word (view c.args.value.now) word.Entity c.text_of-word.result.now _ c.in-Entity.ensures c.text_of-word.ensures c.value_at.ensures.found

pub type_of-returns-in-Extension : goal.type_of-returns-in-Extension
type_of-returns-in-Extension t c =
    ap type.Extension c.extension_of.ensures
    ∙ type_of_word (view c.args.value.now) word.Extension c.text_of-word.result.now _ c.in-Extension.ensures c.text_of-word.ensures c.value_at.ensures.found

pub type_of-returns-in_ok-name_of-in-EntityOrCommon : goal.type_of-returns-in_ok-name_of-in-EntityOrCommon
type_of-returns-in_ok-name_of-in-EntityOrCommon t c =
    ap type.EntityOrCommon c.in_ok-name_of-in-EntityOrCommon.ensures
    ∙ type_of_word (view c.args.value.now) word.EntityOrCommon c.text_of-word.result.now _ c.in-EntityOrCommon.ensures c.text_of-word.ensures c.value_at.ensures.found

pub type_of-returns-in_ok-from_str-in-Common : goal.type_of-returns-in_ok-from_str-in-Common
type_of-returns-in_ok-from_str-in-Common t c =
    ap type.Common c.in_ok-from_str-in-Common.ensures
    ∙ type_of_word (view c.args.value.now) word.Common c.text_of-word.result.now _ c.in-Common.ensures c.text_of-word.ensures c.value_at.ensures.found

pub attributes_of-returns-in_default : goal.attributes_of-returns-in_default
attributes_of-returns-in_default t c = no_attributes (view c.args.value.now) c.new-attributes.result c.new-attributes.ensures c.in_default.ensures

pub attributes_of-loop-name-init : goal.attributes_of-loop-name-init
attributes_of-loop-name-init t c =
    let entries : c.into_iter-name-iterator.result ≡ c.in-Some.members.now.entries = search rules in
    let seen : view c.args.value.now ≡ object (members_view c.into_iter-name-iterator.result) =
    object_is (view c.args.value.now) _ c.in-Some.ensures ∙ ap (λ es. object (members_view es)) (sym entries) in
    record {
      goes_on = tt;
      ends = tt;
      so_far = attributes_start (view c.args.value.now) _ _ c.new-attributes.ensures seen;
      inside = depth_start (view c.args.value.now) _ seen;
    }

pub attributes_of-loop-name-preserved : goal.attributes_of-loop-name-preserved
attributes_of-loop-name-preserved t c =
    let so_far = rw c.in-Some-2.ensures.steps at c.loop-name.invariant.so_far in
    let inside = rw c.in-Some-2.ensures.steps at c.loop-name.invariant.inside in
    let name : c.in_ok-from_str.field-0 ≡ string_bytes c.in-Some-2.name.now = search rules in
    record {
      goes_on = tt;
      ends = tt;
      so_far = attributes_next (view c.args.value.now) c.loop-name.attributes _ _ _ _ _ _ _ name c.presence_of.ensures c.in_ok-type_of.ensures c.in_ok-push.ensures.ok so_far;
      inside = depth_next (string_bytes c.in-Some-2.name.now) _ _ _ inside;
    }

pub attributes_of-returns : goal.attributes_of-returns
attributes_of-returns t c =
    attributes_end (view c.args.value.now) c.loop-name.attributes (rw c.in-None.ensures.steps.0 at c.loop-name.invariant.so_far)
