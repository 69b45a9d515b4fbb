-- The values that a tree says, kind by kind, and so far beside those to come.
use Rattle.std.proofs.Common.{◌≡◌, ◌∙◌, ℕ, pos, List, [], ◌∷◌, ◌++◌, append_assoc, append-nil, Bool, false, Option, Some, None, String, Global, string_bytes, string_cmp, Less, unwrap_or, codes, sym, ap, subst}
use Rattle.std.specs.List.{AllByRecursion}
use Rattle.std.specs.List.Sorted.{IsStrictlySortedBy}
use Rattle.std.specs.Map.{keys_of}
use Rattle.std.specs.Str.{IsUtf8}
use Rattle.serde_json.specs.Data.{Data, array, object, Items, no_items, item, Members, no_members, member}
use Rattle.serde_json.specs.Find.{as_i64, get_member}
use Rattle.serde_json.specs.View.{view, number_view, items_view, members_view}
use Rattle.serde_json.specs.declared.number.Number.{Number as JsonNumber}
use Rattle.serde_json.specs.declared.value.Value.{Value as Json, Null, Bool as Truth, Number, String as Text}
use Rattle.sc_names.specs.declared.uid.Uid.{Uid}
use Rattle.sc_names.specs.Uids.{text_cmp}
use Rattle.sc_values.specs.declared.value.Value.{Value}
use Rattle.sc_values.specs.declared.value.Value.TheVariants as value
use Rattle.sc_values.specs.Order.{value_cmp}
use Rattle.sc_values.specs.Records.{Fields}
use Rattle.sc_values.specs.Proper.{IsProperLevel, IsProper, IsProperRecord}
use Rattle.sc_values.proofs.LevelLaws.{in_Set, in_Record}
use Rattle.sc_values.proofs.OrderLaws.{value_cmp_total, value_cmp_exact}
use Rattle.sc_world_json.specs.declared.mark.Mark.{Mark}
use Rattle.sc_world_json.specs.declared.mark.Mark.TheVariants.{Entity, Extension}
use Rattle.sc_world_json.specs.Marks.{mark_of}
use Rattle.sc_world_json.specs.Worlds.{uid_of, in_order, extension_of, object_value, value_of, values_of, fields_of}
use Rattle.sc_world_json.proofs.InOrderLaws.{ascending-in_order, all-in_order}
use Rattle.sc_json.proofs.ViewLaws.{view_null, view_truth, view_number, view_text}

-- ---- each kind

pub null_said : (v : Json) → v ≡ Null → value.Bool false ≡ value_of (view v)
unfolding value_of
null_said v is = sym (ap value_of (view_null v is))

pub truth_said : (v : Json) (b : Bool) → v ≡ Truth b → value.Bool b ≡ value_of (view v)
unfolding value_of
truth_said v b is = sym (ap value_of (view_truth v b is))

pub number_said : (v : Json) (n : JsonNumber) (x : Value) → v ≡ Number n → x ≡ value.Long (unwrap_or (as_i64 (number_view n)) (pos 0)) → x ≡ value_of (view v)
unfolding value_of
number_said v n x is told = told ∙ sym (ap value_of (view_number v n is))

pub text_said : (v : Json) (s : String Global) (seen text : List ℕ) → v ≡ Text s → seen ≡ string_bytes s → text ≡ seen → value.String text ≡ value_of (view v)
unfolding value_of
text_said v s seen text is shown copied = ap value.String (copied ∙ shown) ∙ sym (ap value_of (view_text v s is))

pub set_said : (vs : List Json) (xs set : List Value) → xs ≡ values_of (items_view vs) → set ≡ in_order value_cmp xs → value.Set set ≡ value_of (array (items_view vs))
unfolding value_of
set_said vs xs set listed is = ap value.Set (is ∙ ap (in_order value_cmp) listed)

pub record_said : (ms : Members) (fields : Fields) → None ≡ mark_of ms → fields ≡ fields_of ms → value.Record fields ≡ value_of (object ms)
unfolding value_of
record_said ms fields none told = ap value.Record told ∙ ap (λ (m : Option Mark). object_value m ms (fields_of ms)) none

pub entity_said : (ms : Members) (mark : Mark) (found : Option Data) (uid : Uid) → mark ≡ Entity → Some mark ≡ mark_of ms → found ≡ get_member (codes "__entity") ms → uid ≡ uid_of found → value.Entity uid ≡ value_of (object ms)
unfolding value_of
entity_said ms mark found uid is marked at_name told =
    ap value.Entity (told ∙ ap uid_of at_name) ∙ ap (λ (m : Option Mark). object_value m ms (fields_of ms)) (ap Some (sym is) ∙ marked)

pub extension_said : (ms : Members) (mark : Mark) (found : Option Data) (x : Value) → mark ≡ Extension → Some mark ≡ mark_of ms → found ≡ get_member (codes "__extn") ms → x ≡ extension_of found → x ≡ value_of (object ms)
unfolding value_of
extension_said ms mark found x is marked at_name told =
    told ∙ (ap extension_of at_name ∙ ap (λ (m : Option Mark). object_value m ms (fields_of ms)) (ap Some (sym is) ∙ marked))

-- ---- lists

pub values_start : (ds : Items) (xs : List Value) → xs ≡ [] → xs ++ values_of ds ≡ values_of ds
values_start ds xs none = ap (λ (ys : List Value). ys ++ values_of ds) none

pub values_next : (whole : List Value) (xs new : List Value) (d : Data) (ds rest : Items) (x : Value) → rest ≡ item d ds → x ≡ value_of d → new ≡ xs ++ x ∷ []
    → xs ++ values_of rest ≡ whole → new ++ values_of ds ≡ whole
unfolding value_of
values_next whole xs new d ds rest x split is pushed so_far = rw (pushed, is, append_assoc) (ap (λ (es : Items). xs ++ values_of es) (sym split) ∙ so_far)

pub values_end : (whole : List Value) (xs : List Value) (rest : Items) → rest ≡ no_items → xs ++ values_of rest ≡ whole → xs ≡ whole
unfolding value_of
values_end whole xs rest none so_far = sym (append-nil xs) ∙ (ap (λ (es : Items). xs ++ values_of es) (sym none) ∙ so_far)

pub all-push : {X : Type 0} (P : X → Type 0) (xs new : List X) (x : X) → new ≡ xs ++ x ∷ [] → AllByRecursion P xs → P x → AllByRecursion P new
all-push P xs new x pushed all here = subst (AllByRecursion P) (sym pushed) (with_last xs all) where
  with_last : (ys : List _) → AllByRecursion P ys → AllByRecursion P (ys ++ x ∷ [])
  with_last [] h = (here, tt)
  with_last (y ∷ ys) h = (h.0, with_last ys h.1)

-- ---- fields

pub fields_start : (ms : Members) (fs : Fields) → fs ≡ [] → fs ++ fields_of ms ≡ fields_of ms
fields_start ms fs none = ap (λ (gs : Fields). gs ++ fields_of ms) none

pub fields_next : (whole : Fields) (fs new : Fields) (key : List ℕ) (d : Data) (ms : Members) (name : List ℕ) (x : Value) → name ≡ key → x ≡ value_of d → new ≡ fs ++ (name, x) ∷ []
    → fs ++ fields_of (member key d ms) ≡ whole → new ++ fields_of ms ≡ whole
unfolding value_of
fields_next whole fs new key d ms name x is_key is pushed so_far = rw (pushed, is_key, is, append_assoc) so_far

pub fields_end : (whole : Fields) (fs : Fields) → fs ++ fields_of no_members ≡ whole → fs ≡ whole
unfolding value_of
fields_end whole fs so_far = sym (append-nil fs) ∙ so_far

abbrev Entries : Type 0
Entries = List (String Global × Json)

names-below : (key : String Global) (es : Entries) → AllByRecursion (λ k. string_cmp key k ≡ Less) (keys_of es) → AllByRecursion (λ k. text_cmp (string_bytes key) k ≡ Less) (keys_of (fields_of (members_view es)))
unfolding value_of
names-below key [] below = tt
names-below key (e ∷ es) below = (below.0, names-below key es below.1)

names-ascend : (es : Entries) → IsStrictlySortedBy string_cmp (keys_of es) → IsStrictlySortedBy text_cmp (keys_of (fields_of (members_view es)))
unfolding value_of IsStrictlySortedBy
names-ascend [] ascending = tt
names-ascend (e ∷ es) ascending = (names-below e.0 es ascending.0, names-ascend es ascending.1)

pub all-names : (fs new : Fields) (name : List ℕ) (x : Value) → new ≡ fs ++ (name, x) ∷ [] → AllByRecursion IsUtf8 (keys_of fs) → IsUtf8 name → AllByRecursion IsUtf8 (keys_of new)
all-names fs new name x pushed all here = subst (λ (gs : Fields). AllByRecursion IsUtf8 (keys_of gs)) (sym pushed) (with_last fs all) where
  with_last : (gs : Fields) → AllByRecursion IsUtf8 (keys_of gs) → AllByRecursion IsUtf8 (keys_of (gs ++ (name, x) ∷ []))
  with_last [] h = (here, tt)
  with_last (g ∷ gs) h = (h.0, with_last gs h.1)

-- ---- made of values

pub proper_set : (xs set : List Value) → set ≡ in_order value_cmp xs → AllByRecursion IsProper xs → IsProper (value.Set set)
proper_set xs set is all =
    (in_Set IsProperLevel set).1 (
      subst (IsStrictlySortedBy value_cmp) (sym is) (ascending-in_order value_cmp_total value_cmp_exact xs),
      subst (AllByRecursion IsProper) (sym is) (all-in_order value_cmp IsProper xs all),
    )

pub proper_record : (es : Entries) (fs : Fields) → fs ≡ fields_of (members_view es) → IsStrictlySortedBy string_cmp (keys_of es) → AllByRecursion IsUtf8 (keys_of fs) → AllByRecursion (λ (f : List ℕ × Value). IsProper f.1) fs → IsProperRecord fs
proper_record es fs is ascending texts values =
    (in_Record IsProperLevel fs).1 ((subst (λ (gs : Fields). IsStrictlySortedBy text_cmp (keys_of gs)) (sym is) (names-ascend es ascending), texts), values)

pub proper_none : (fs : Fields) → fs ≡ [] → IsProperRecord fs
unfolding IsStrictlySortedBy
proper_none fs none = subst IsProperRecord (sym none) ((in_Record IsProperLevel []).1 ((tt, tt), tt))
