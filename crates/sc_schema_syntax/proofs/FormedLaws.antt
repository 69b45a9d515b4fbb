-- Just the trees without a fault are of the form.
use Rattle.std.proofs.Common.{◌≡◌, ℕ, ◌+◌, List, [], length, Bool, true, false, Option, Some, None, refl, sym, ap, subst, ◌∙◌}
use Rattle.std.specs.Option.{option_map_or}
use Rattle.std.specs.Prelude.{is_some}
use Rattle.serde_json.specs.Data.{Data, null, boolean, number, string, array, object, Items, no_items, item, Members, no_members, member}
use Rattle.sc_json.specs.Steps.{Step, HasMember, first_member, later_member, HasItem, first_item, later_item}
use Rattle.sc_laws.proofs.OptionLaws.{same_some}
use Rattle.sc_schema_syntax.specs.declared.form.Form.{Form}
use Rattle.sc_schema_syntax.specs.declared.level.Level.{Level}
use Rattle.sc_schema_syntax.specs.Forms.{item_form, elements, form_at, level_of, is_name, is_whole, member_form}
use Rattle.sc_schema_syntax.specs.Formed.{IsOf, of_truth, of_text, of_list, of_object, IsMemberOf, not_read, of_form}
use Rattle.sc_schema_syntax.specs.Places.{Kind, bad_name, bad_shape, is_shaped, FaultAt, misshapen, in_item, in_member, MemberFaultAt, misnamed, in_value}

-- ---- what is of the form has no fault

both_ways : {b : Bool} → b ≡ true → b ≡ false → ⊥
both_ways is other = let same : true ≡ false = sym is ∙ other in cc

object_shaped : (form : Form) (level : Level) (members : Members) → level_of form members ≡ Some level → is_whole level members ≡ true → is_shaped form (object members) ≡ true
object_shaped form level members wanted whole = ap (λ (o : Option Level). option_map_or (λ l. is_whole l members) o false) wanted ∙ whole

shaped : {form : Form} {d : Data} → IsOf form d → is_shaped form d ≡ true
shaped (of_truth form truth h) = h
shaped (of_text form text h) = h
shaped (of_list form each items wanted all) = ap is_some wanted
shaped (of_object form level members wanted whole all) = object_shaped form level members wanted whole

mutual
  pub none_of_form : {form : Form} {d : Data} {k : Kind} {ss : List Step} → FaultAt form d k ss → IsOf form d → ⊥
  none_of_form (misshapen form d h) is = both_ways (shaped is) h
  none_of_form (in_item form each items place value kind steps wanted has f) (of_list _ other _ also all) =
      none_of_form f (subst (λ (x : Form). IsOf (form_at x items place value) value) (same_some (sym also ∙ wanted)) (all place value has))
  none_of_form (in_member form level ms name value kind steps wanted has f) (of_object _ other _ also whole all) =
      none_of_member f (subst (λ (x : Level). IsMemberOf x name value) (same_some (sym also ∙ wanted)) (all name value has))

  none_of_member : {level : Level} {name : List ℕ} {value : Data} {k : Kind} {ss : List Step} → MemberFaultAt level name value k ss → IsMemberOf level name value → ⊥
  none_of_member (misnamed level name value h) (not_read _ _ _ may none) = both_ways may h
  none_of_member (misnamed level name value h) (of_form _ _ form _ may wanted is) = both_ways may h
  none_of_member (in_value level name form value kind steps wanted f) (not_read _ _ _ may none) = let no : Some form ≡ None = sym wanted ∙ none in cc
  none_of_member (in_value level name form value kind steps wanted f) (of_form _ _ other _ may also is) =
      none_of_form f (subst (λ (x : Form). IsOf x value) (same_some (sym also ∙ wanted)) is)

-- ---- what has no fault is of the form

abbrev NoFault : Form → Data → Type 0
NoFault form d = (k : Kind) (ss : List Step) → FaultAt form d k ss → ⊥

abbrev NoMemberFault : Level → List ℕ → Data → Type 0
NoMemberFault level name value = (k : Kind) (ss : List Step) → MemberFaultAt level name value k ss → ⊥

-- each item, and each member, has none
abbrev NoItemFaults : (ℕ → Data → Form) → ℕ → Items → Type 0
NoItemFaults each n items = (place : ℕ) (value : Data) → HasItem n items place value → NoFault (each place value) value

abbrev NoMemberFaults : Level → Members → Type 0
NoMemberFaults level members = (name : List ℕ) (value : Data) → HasMember members name value → NoMemberFault level name value

abbrev ItemsOf : (ℕ → Data → Form) → ℕ → Items → Type 0
ItemsOf each n items = (place : ℕ) (value : Data) → HasItem n items place value → IsOf (each place value) value

abbrev MembersOf : Level → Members → Type 0
MembersOf level members = (name : List ℕ) (value : Data) → HasMember members name value → IsMemberOf level name value

as_shaped : (form : Form) (d : Data) → NoFault form d → (b : Bool) → is_shaped form d ≡ b → is_shaped form d ≡ true
as_shaped form d none true is = is
as_shaped form d none false is = absurd (none bad_shape [] (misshapen form d is))

shaped_now : (form : Form) (d : Data) → NoFault form d → is_shaped form d ≡ true
shaped_now form d none = as_shaped form d none (is_shaped form d) refl

list_of : (form : Form) (items : Items) → NoFault form (array items) → ((each : ℕ → Data → Form) → NoItemFaults each 0 items → ItemsOf each 0 items)
    → (o : Option Form) → item_form form (length (elements items)) ≡ o → IsOf form (array items)
list_of form items none inside None is = absurd (both_ways (shaped_now form (array items) none) (ap is_some is))
list_of form items none inside (Some each) is =
    of_list form each items is (inside (form_at each items) (λ place value has k ss f. none k _ (in_item form each items place value k ss is has f)))

abbrev shaped_by : Members → Option Level → Bool
shaped_by members o = option_map_or (λ level. is_whole level members) o false

object_of : (form : Form) (members : Members) → NoFault form (object members) → ((level : Level) → NoMemberFaults level members → MembersOf level members)
    → (o : Option Level) → level_of form members ≡ o → IsOf form (object members)
object_of form members none inside None is = absurd (both_ways (shaped_now form (object members) none) (ap (shaped_by members) is))
object_of form members none inside (Some level) is =
    of_object form level members is (sym (ap (shaped_by members) is) ∙ shaped_now form (object members) none)
    (inside level (λ name value has k ss f. none k _ (in_member form level members name value k ss is has f)))

member_read : (level : Level) (name : List ℕ) (value : Data) → NoMemberFault level name value → ((form : Form) → NoFault form value → IsOf form value)
    → is_name level name ≡ true → (o : Option Form) → member_form level name ≡ o → IsMemberOf level name value
member_read level name value none inside may None is = not_read level name value may is
member_read level name value none inside may (Some form) is =
    of_form level name form value may is (inside form (λ k ss f. none k ss (in_value level name form value k ss is f)))

member_of : (level : Level) (name : List ℕ) (value : Data) → NoMemberFault level name value → ((form : Form) → NoFault form value → IsOf form value)
    → (b : Bool) → is_name level name ≡ b → IsMemberOf level name value
member_of level name value none inside true may = member_read level name value none inside may (member_form level name) refl
member_of level name value none inside false may = absurd (none bad_name [] (misnamed level name value may))

next_item : (each : ℕ → Data → Form) (m : ℕ) (first : Data) (rest : Items) → IsOf (each m first) first → ItemsOf each (m + 1) rest → ItemsOf each m (item first rest)
next_item each _ _ _ here later _ _ (first_item n value others) = here
next_item each _ _ _ here later _ _ (later_item n beside others place value h) = later place value h

next_member : (level : Level) (key : List ℕ) (first : Data) (rest : Members) → IsMemberOf level key first → MembersOf level rest → MembersOf level (member key first rest)
next_member level _ _ _ here later _ _ (first_member name value others) = here
next_member level _ _ _ here later _ _ (later_member other beside others name value h) = later name value h

mutual
  pub has_form : (d : Data) (form : Form) → NoFault form d → IsOf form d
  has_form null form none = absurd (both_ways (shaped_now form null none) refl)
  has_form (boolean truth) form none = of_truth form truth (shaped_now form (boolean truth) none)
  has_form (number n) form none = absurd (both_ways (shaped_now form (number n) none) refl)
  has_form (string text) form none = of_text form text (shaped_now form (string text) none)
  has_form (array items) form none = list_of form items none (λ each. items_have_form items each 0) (item_form form (length (elements items))) refl
  has_form (object members) form none = object_of form members none (members_have_form members) (level_of form members) refl

  items_have_form : (items : Items) (each : ℕ → Data → Form) (n : ℕ) → NoItemFaults each n items → ItemsOf each n items
  items_have_form no_items each n none = λ place value has. elim has [ ]
  items_have_form (item value items) each n none =
      next_item each n value items (has_form value (each n value) (none n value (first_item n value items)))
      (items_have_form items each (n + 1) (λ place other has. none place other (later_item n value items place other has)))

  members_have_form : (members : Members) (level : Level) → NoMemberFaults level members → MembersOf level members
  members_have_form no_members level none = λ name value has. elim has [ ]
  members_have_form (member key value members) level none =
      next_member level key value members
      (member_of level key value (none key value (first_member key value members)) (has_form value) (is_name level key) refl)
      (members_have_form members level (λ name other has. none name other (later_member key value members name other has)))
