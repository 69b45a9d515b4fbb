-- The fault that the walk tells first is the first of the faults that there are.
use Rattle.std.proofs.Common.{◌≡◌, ◌⊎◌, ℕ, ◌+◌, ◌<◌, ◌≤◌, List, [], ◌∷◌, length, Bool, true, false, Option, Some, None, inl, inr, refl, sym, ap, subst, ◌∙◌, arith}
use Rattle.std.specs.Fmt.{decimal}
use Rattle.std.specs.List.{AllByRecursion}
use Rattle.std.specs.List.Sorted.{IsStrictlySortedBy}
use Rattle.std.specs.Option.{option_or, option_map_or}
use Rattle.std.specs.Ordering.{is_eq, ordering_reverse}
use Rattle.std.specs.Prelude.{option_map, is_some}
use Rattle.std.specs.declared.cmp.Ordering.{Ordering}
use Rattle.std.specs.declared.cmp.Ordering.TheVariants.{Less, Equal, Greater}
use Rattle.std.proofs.Math.Nat.{eq-or-lt_of_le}
use Rattle.std.proofs.lemmas.Bool.{cases_lt}
use Rattle.std.proofs.lemmas.Cmp.{nat_list_cmp_total}
use Rattle.std.proofs.lemmas.Map.Keys.{sorted_head, sorted_tail}
use Rattle.std.proofs.lemmas.Map.Text.{is_eq-slice_cmp}
use Rattle.serde_json.specs.Data.{Num, Data, null, boolean, number, string, array, object, Items, no_items, item, Members, no_members, member}
use Rattle.sc_json.specs.Steps.{Step, to_member, to_item, word, pointer, HasMember, first_member, later_member, HasItem, first_item, later_item, LeadsTo, itself, by_member, by_item}
use Rattle.sc_json.specs.Trees.{HasTree, no_tree, in_tree, keys, IsTidy, AreTidyItems, AreTidyMembers}
use Rattle.sc_json.proofs.TidyTreeLaws.{tree_tidy}
use Rattle.sc_json.proofs.TreesLaws.{one_tree}
use Rattle.sc_laws.proofs.OptionLaws.{same_some}
use Rattle.sc_lists.proofs.TextLaws.{bytes_eq_true}
use Rattle.sc_names.specs.Uids.{text_cmp}
use Rattle.sc_schema_syntax.specs.declared.fault.SchemaFault.{SchemaFault}
use Rattle.sc_schema_syntax.specs.declared.form.Form.{Form}
use Rattle.sc_schema_syntax.specs.declared.form.Form.TheVariants.{Object}
use Rattle.sc_schema_syntax.specs.declared.level.Level.{Level}
use Rattle.sc_schema_syntax.specs.declared.level.Level.TheVariants.{Schema}
use Rattle.sc_schema_syntax.specs.declared.written_schema.WrittenSchema.{WrittenSchema}
use Rattle.sc_schema_syntax.specs.Pointers.{under}
use Rattle.sc_schema_syntax.specs.Forms.{item_form, elements, form_at, level_of, is_name, is_whole, member_form}
use Rattle.sc_schema_syntax.specs.Faults.{shape_fault, name_fault, value_fault, items_fault, members_fault, member_fault, first_fault}
use Rattle.sc_schema_syntax.specs.Places.{Kind, bad_name, bad_shape, told, is_shaped, FaultAt, misshapen, in_item, in_member, MemberFaultAt, misnamed, in_value, IsEarlier, IsBefore, name_first, outside, earlier, further, IsFirst, SchemaFaultAt, IsFirstOf, of_no_tree, of_tree, ArePlaced}
use Rattle.sc_schema_syntax.specs.Written.{schema_of}
use Rattle.sc_schema_syntax.proofs.FormedLaws.{none_of_form, has_form}
use Rattle.sc_schema_syntax.specs.Syntax.{Spells, HasFault}

-- ---- the order

text_not_below : (a b : List ℕ) → text_cmp a b ≡ Less → a ≡ b → ⊥
text_not_below a b h e =
    let itself : text_cmp a a ≡ Less = subst (λ (c : List ℕ). text_cmp a c ≡ Less) (sym e) h in
    let turned : Less ≡ Greater = sym itself ∙ nat_list_cmp_total.antisymm a a ∙ ap ordering_reverse itself in
    cc

text_one_way : (a b : List ℕ) → text_cmp a b ≡ Less → text_cmp b a ≡ Less → ⊥
text_one_way a b h k =
    let turned : Less ≡ Greater = sym h ∙ nat_list_cmp_total.antisymm a b ∙ ap ordering_reverse k in
    cc

name_in : Step → List ℕ
name_in (to_member name) = name
name_in (to_item n) = []

number_in : Step → ℕ
number_in (to_member name) = 0
number_in (to_item n) = n

not_earlier : (s t : Step) → IsEarlier s t → s ≡ t → ⊥
unfolding name_in number_in
not_earlier (to_member a) (to_member b) h e = text_not_below a b h (ap name_in e)
not_earlier (to_member a) (to_item n) h e = h
not_earlier (to_item m) (to_member b) h e = h
not_earlier (to_item m) (to_item n) h e = let same : m ≡ n = ap number_in e in absurd (omega (arith, h, same))

-- beside one first step
inner : {k l : Kind} {s t : Step} {ss ts : List Step} → IsBefore k (s ∷ ss) l (t ∷ ts) → s ≡ t → IsBefore k ss l ts
inner (earlier k l s t ss ts h) e = absurd (not_earlier s t h e)
inner (further k l s ss ts h) e = h

-- the first steps
heads : {k l : Kind} {s t : Step} {ss ts : List Step} → IsBefore k (s ∷ ss) l (t ∷ ts) → IsEarlier s t ⊎ (s ≡ t)
heads (earlier k l s t ss ts h) = inl h
heads (further k l s ss ts h) = inr refl

-- nothing comes before a name at the root, nor anything inside before the root

not_before_name : {k : Kind} {ss : List Step} → IsBefore k ss bad_name [] → ⊥
not_before_name h = elim h [ ]

not_before_root : {k l : Kind} {step : Step} {ss : List Step} → IsBefore k (step ∷ ss) l [] → ⊥
not_before_root h = elim h [ ]

root_shape : {form : Form} {d : Data} {k : Kind} {ss : List Step} → IsBefore k ss bad_shape [] → FaultAt form d k ss → ⊥
root_shape name_first f = elim f [ ]

-- ---- the first of several faults

-- what is told of these faults
abbrev Judged : (Kind → List Step → Type 0) → Option SchemaFault → Type 0
Judged F None = (k : Kind) (ss : List Step) → F k ss → ⊥
Judged F (Some fault) = IsFirst F fault

judged_or : (F G H : Kind → List Step → Type 0) → ((k : Kind) (ss : List Step) → H k ss → F k ss ⊎ G k ss)
    → ((k : Kind) (ss : List Step) → F k ss → H k ss) → ((k : Kind) (ss : List Step) → G k ss → H k ss)
    → ((k l : Kind) (ss ts : List Step) → F k ss → G l ts → IsBefore l ts k ss → ⊥)
    → (a b : Option SchemaFault) → Judged F a → Judged G b → Judged H (option_or a b)
judged_or F G H split left right apart None None f g = λ k ss h. elim (split k ss h) [
  | inl x ↦ f k ss x
  | inr y ↦ g k ss y
]
judged_or F G H split left right apart None (Some fault) f g =
    record {
      kind = g.kind;
      steps = g.steps;
      is = g.is;
      there = right g.kind g.steps g.there;
      first = λ k ss h before. elim (split k ss h) [
        | inl x ↦ f k ss x
        | inr y ↦ g.first k ss y before
      ];
    }
judged_or F G H split left right apart (Some fault) b f g =
    record {
      kind = f.kind;
      steps = f.steps;
      is = f.is;
      there = left f.kind f.steps f.there;
      first = λ k ss h before. elim (split k ss h) [
        | inl x ↦ f.first k ss x before
        | inr y ↦ apart f.kind k f.steps ss f.there y before
      ];
    }

-- faults behind one step
abbrev Behind : Step → (Kind → List Step → Type 0) → Kind → List Step → Type 0
Behind step F k ss = (rest : List Step) × (ss ≡ step ∷ rest) × F k rest

told_under : (step : Step) (kind : Kind) (steps : List Step) → under (word step) (told kind (pointer steps)) ≡ told kind (pointer (step ∷ steps))
told_under step bad_name steps = refl
told_under step bad_shape steps = refl

judged_under : (step : Step) (F : Kind → List Step → Type 0) (a : Option SchemaFault) → Judged F a → Judged (Behind step F) (option_map (under (word step)) a)
judged_under step F None f = λ k ss h. f k h.0 h.2
judged_under step F (Some fault) f =
    record {
      kind = f.kind;
      steps = step ∷ f.steps;
      is = ap (under (word step)) f.is ∙ told_under step f.kind f.steps;
      there = (f.steps, refl, f.there);
      first = λ k ss h before. f.first k h.0 h.2 (inner (subst (λ (ts : List Step). IsBefore k ts f.kind (step ∷ f.steps)) h.1 before) refl);
    }

-- the same faults otherwise said
judged_as : (F G : Kind → List Step → Type 0) → ((k : Kind) (ss : List Step) → F k ss → G k ss) → ((k : Kind) (ss : List Step) → G k ss → F k ss) → (a : Option SchemaFault) → Judged F a → Judged G a
judged_as F G to from None f = λ k ss g. f k ss (from k ss g)
judged_as F G to from (Some fault) f =
    record { kind = f.kind; steps = f.steps; is = f.is; there = to f.kind f.steps f.there; first = λ k ss g. f.first k ss (from k ss g) }

-- ---- a value's own fault

-- the value itself isn't of its form
abbrev OwnFault : Form → Data → Kind → List Step → Type 0
OwnFault form d k ss = (k ≡ bad_shape) × (ss ≡ []) × (is_shaped form d ≡ false)

no_shape_before : {ss : List Step} → IsBefore bad_shape ss bad_shape [] → ⊥
no_shape_before h = elim h [ ]

own : (form : Form) (d : Data) (b : Bool) → is_shaped form d ≡ b → Judged (OwnFault form d) (shape_fault b)
own form d true is = λ k ss h. (let no : true ≡ false = sym is ∙ h.2 in cc)
own form d false is =
    record {
      kind = bad_shape;
      steps = [];
      is = refl;
      there = (refl, refl, is);
      first = λ k ss h before. no_shape_before (subst (λ (l : Kind). IsBefore l ss bad_shape []) h.0 before);
    }

own_fault : (form : Form) (d : Data) (k : Kind) (ss : List Step) → OwnFault form d k ss → FaultAt form d k ss
own_fault form d k ss h = subst (λ (l : Kind). FaultAt form d l ss) (sym h.0) (subst (λ (ts : List Step). FaultAt form d bad_shape ts) (sym h.1) (misshapen form d h.2))

only_null : (form : Form) (k : Kind) (ss : List Step) → FaultAt form null k ss → OwnFault form null k ss
only_null form _ _ (misshapen _ _ h) = (refl, refl, h)

only_truth : (form : Form) (truth : Bool) (k : Kind) (ss : List Step) → FaultAt form (boolean truth) k ss → OwnFault form (boolean truth) k ss
only_truth form truth _ _ (misshapen _ _ h) = (refl, refl, h)

only_number : (form : Form) (n : Num) (k : Kind) (ss : List Step) → FaultAt form (number n) k ss → OwnFault form (number n) k ss
only_number form n _ _ (misshapen _ _ h) = (refl, refl, h)

only_text : (form : Form) (text : List ℕ) (k : Kind) (ss : List Step) → FaultAt form (string text) k ss → OwnFault form (string text) k ss
only_text form text _ _ (misshapen _ _ h) = (refl, refl, h)

alone : (form : Form) (d : Data) → ((k : Kind) (ss : List Step) → FaultAt form d k ss → OwnFault form d k ss) → Judged (FaultAt form d) (shape_fault (is_shaped form d))
alone form d only = judged_as (OwnFault form d) (FaultAt form d) (own_fault form d) only (shape_fault (is_shaped form d)) (own form d (is_shaped form d) refl)

-- ---- items

-- the items being counted from n on, one of them has a fault
record ItemFault (each : ℕ → Data → Form) (n : ℕ) (items : Items) (k : Kind) (ss : List Step) : Type 0 where
  place : ℕ
  value : Data
  rest : List Step
  is : ss ≡ to_item place ∷ rest
  has : HasItem n items place value
  fault : FaultAt (each place value) value k rest

from_on : {n place : ℕ} {items : Items} {value : Data} → HasItem n items place value → n ≤ place
from_on (first_item n value others) = omega arith
from_on (later_item n beside others place value h) = let more : n + 1 ≤ place = from_on h in omega (arith, more)

no_item : {n place : ℕ} {value : Data} → HasItem n no_items place value → ⊥
no_item h = elim h [ ]

no_item_fault : (each : ℕ → Data → Form) (n : ℕ) (k : Kind) (ss : List Step) → ItemFault each n no_items k ss → ⊥
no_item_fault each n k ss h = no_item h.has

item_split : (each : ℕ → Data → Form) (n : ℕ) (value : Data) (items : Items) (k : Kind) (ss rest : List Step) (place : ℕ) (d : Data)
    → ss ≡ to_item place ∷ rest → HasItem n (item value items) place d → FaultAt (each place d) d k rest
    → Behind (to_item n) (FaultAt (each n value) value) k ss ⊎ ItemFault each (n + 1) items k ss
item_split each _ _ _ k ss rest _ _ is (first_item n value others) fault = inl (rest, is, fault)
item_split each _ _ _ k ss rest _ _ is (later_item n beside others place d h) fault = inr (record { place = place; value = d; rest = rest; is = is; has = h; fault = fault })

item_apart : (each : ℕ → Data → Form) (n : ℕ) (value : Data) (items : Items) (k l : Kind) (ss ts : List Step)
    → Behind (to_item n) (FaultAt (each n value) value) k ss → ItemFault each (n + 1) items l ts → IsBefore l ts k ss → ⊥
unfolding number_in
item_apart each n value items k l ss ts p q before = by (heads moved) where
  moved : IsBefore l (to_item q.place ∷ q.rest) k (to_item n ∷ p.0)
  moved = subst (λ (us : List Step). IsBefore l us k (to_item n ∷ p.0)) q.is (subst (λ (us : List Step). IsBefore l ts k us) p.1 before)

  by : IsEarlier (to_item q.place) (to_item n) ⊎ (to_item q.place ≡ to_item n) → ⊥
  by (inl less) = let low : n + 1 ≤ q.place = from_on q.has in absurd (omega (arith, low, less))
  by (inr same) = let low : n + 1 ≤ q.place = from_on q.has in let is : q.place ≡ n = ap number_in same in absurd (omega (arith, low, is))

item_next : (each : ℕ → Data → Form) (n : ℕ) (value : Data) (items : Items) (a b : Option SchemaFault) → Judged (FaultAt (each n value) value) a → Judged (ItemFault each (n + 1) items) b
    → Judged (ItemFault each n (item value items)) (option_or (option_map (under (decimal n)) a) b)
item_next each n value items a b here rest =
    judged_or (Behind (to_item n) (FaultAt (each n value) value)) (ItemFault each (n + 1) items) (ItemFault each n (item value items))
    (λ k ss h. item_split each n value items k ss h.rest h.place h.value h.is h.has h.fault)
    (λ k ss h. record { place = n; value = value; rest = h.0; is = h.1; has = first_item n value items; fault = h.2 })
    (λ k ss h. record { place = h.place; value = h.value; rest = h.rest; is = h.is; has = later_item n value items h.place h.value h.has; fault = h.fault })
    (λ k l ss ts p q. item_apart each n value items k l ss ts p q)
    (option_map (under (decimal n)) a) b (judged_under (to_item n) (FaultAt (each n value) value) a here) rest

-- ---- members

record MemberFault (level : Level) (members : Members) (k : Kind) (ss : List Step) : Type 0 where
  name : List ℕ
  value : Data
  rest : List Step
  is : ss ≡ to_member name ∷ rest
  has : HasMember members name value
  fault : MemberFaultAt level name value k rest

no_member : {name : List ℕ} {value : Data} → HasMember no_members name value → ⊥
no_member h = elim h [ ]

below_all : (key name : List ℕ) (value : Data) (members : Members) → AllByRecursion (λ q. text_cmp key q ≡ Less) (keys members) → HasMember members name value → text_cmp key name ≡ Less
below_all key _ _ _ all (first_member name value others) = all.0
below_all key _ _ _ all (later_member other beside others name value h) = below_all key name value others all.1 h

member_split : (level : Level) (key : List ℕ) (value : Data) (members : Members) (k : Kind) (ss rest : List Step) (name : List ℕ) (d : Data)
    → ss ≡ to_member name ∷ rest → HasMember (member key value members) name d → MemberFaultAt level name d k rest
    → Behind (to_member key) (MemberFaultAt level key value) k ss ⊎ MemberFault level members k ss
member_split level _ _ _ k ss rest _ _ is (first_member name value others) fault = inl (rest, is, fault)
member_split level _ _ _ k ss rest _ _ is (later_member other beside others name d h) fault = inr (record { name = name; value = d; rest = rest; is = is; has = h; fault = fault })

member_apart : (level : Level) (key : List ℕ) (value : Data) (members : Members) (k l : Kind) (ss ts : List Step) → AllByRecursion (λ q. text_cmp key q ≡ Less) (keys members)
    → Behind (to_member key) (MemberFaultAt level key value) k ss → MemberFault level members l ts → IsBefore l ts k ss → ⊥
unfolding name_in
member_apart level key value members k l ss ts ascends p q before = by (heads moved) where
  moved : IsBefore l (to_member q.name ∷ q.rest) k (to_member key ∷ p.0)
  moved = subst (λ (us : List Step). IsBefore l us k (to_member key ∷ p.0)) q.is (subst (λ (us : List Step). IsBefore l ts k us) p.1 before)

  low : text_cmp key q.name ≡ Less
  low = below_all key q.name q.value members ascends q.has

  by : IsEarlier (to_member q.name) (to_member key) ⊎ (to_member q.name ≡ to_member key) → ⊥
  by (inl less) = text_one_way key q.name low less
  by (inr same) = text_not_below key q.name low (sym (ap name_in same))

member_next : (level : Level) (key : List ℕ) (value : Data) (members : Members) (a b : Option SchemaFault) → AllByRecursion (λ q. text_cmp key q ≡ Less) (keys members)
    → Judged (MemberFaultAt level key value) a → Judged (MemberFault level members) b
    → Judged (MemberFault level (member key value members)) (option_or (option_map (under key) a) b)
member_next level key value members a b ascends here rest =
    judged_or (Behind (to_member key) (MemberFaultAt level key value)) (MemberFault level members) (MemberFault level (member key value members))
    (λ k ss h. member_split level key value members k ss h.rest h.name h.value h.is h.has h.fault)
    (λ k ss h. record { name = key; value = value; rest = h.0; is = h.1; has = first_member key value members; fault = h.2 })
    (λ k ss h. record { name = h.name; value = h.value; rest = h.rest; is = h.is; has = later_member key value members h.name h.value h.has; fault = h.fault })
    (λ k l ss ts p q. member_apart level key value members k l ss ts ascends p q)
    (option_map (under key) a) b (judged_under (to_member key) (MemberFaultAt level key value) a here) rest

-- ---- one member

abbrev NameFault : Level → List ℕ → Kind → List Step → Type 0
NameFault level key k ss = (k ≡ bad_name) × (ss ≡ []) × (is_name level key ≡ false)

record ValueFault (level : Level) (key : List ℕ) (value : Data) (k : Kind) (ss : List Step) : Type 0 where
  form : Form
  wanted : member_form level key ≡ Some form
  fault : FaultAt form value k ss

named : (level : Level) (key : List ℕ) (b : Bool) → is_name level key ≡ b → Judged (NameFault level key) (name_fault b)
named level key true is = λ k ss h. (let no : true ≡ false = sym is ∙ h.2 in cc)
named level key false is =
    record { kind = bad_name; steps = []; is = refl; there = (refl, refl, is); first = λ k ss h before. not_before_name before }

valued : (level : Level) (key : List ℕ) (value : Data) (o : Option Form) → member_form level key ≡ o → ((form : Form) → Judged (FaultAt form value) (value_fault form value))
    → Judged (ValueFault level key value) (option_map_or (λ form. value_fault form value) o None)
valued level key value None is judge = λ k ss h. (let no : None ≡ Some h.form = sym is ∙ h.wanted in cc)
valued level key value (Some form) is judge =
    judged_as (FaultAt form value) (ValueFault level key value)
    (λ k ss f. record { form = form; wanted = is; fault = f })
    (λ k ss h. subst (λ (f : Form). FaultAt f value k ss) (same_some (sym h.wanted ∙ is)) h.fault)
    (value_fault form value) (judge form)

fault_split : (level : Level) (key : List ℕ) (value : Data) (k : Kind) (ss : List Step) → MemberFaultAt level key value k ss → NameFault level key k ss ⊎ ValueFault level key value k ss
fault_split _ _ _ _ _ (misnamed level name value h) = inl (refl, refl, h)
fault_split _ _ _ _ _ (in_value level name form value kind steps wanted f) = inr (record { form = form; wanted = wanted; fault = f })

name_misnamed : (level : Level) (key : List ℕ) (value : Data) (k : Kind) (ss : List Step) → NameFault level key k ss → MemberFaultAt level key value k ss
name_misnamed level key value k ss h =
    subst (λ (l : Kind). MemberFaultAt level key value l ss) (sym h.0) (subst (λ (ts : List Step). MemberFaultAt level key value bad_name ts) (sym h.1) (misnamed level key value h.2))

name_apart : (level : Level) (key : List ℕ) {k l : Kind} {ss ts : List Step} → NameFault level key k ss → IsBefore l ts k ss → ⊥
name_apart level key {k = k} {l = l} {ss = ss} {ts = ts} p before =
    not_before_name (subst (λ (m : Kind). IsBefore l ts m []) p.0 (subst (λ (us : List Step). IsBefore l ts k us) p.1 before))

one_member : (level : Level) (key : List ℕ) (value : Data) → ((form : Form) → Judged (FaultAt form value) (value_fault form value)) → Judged (MemberFaultAt level key value) (member_fault level key value)
one_member level key value judge =
    judged_or (NameFault level key) (ValueFault level key value) (MemberFaultAt level key value)
    (fault_split level key value) (name_misnamed level key value)
    (λ k ss h. in_value level key h.form value k ss h.wanted h.fault)
    (λ k l ss ts p q before. name_apart level key p before)
    (name_fault (is_name level key)) (option_map_or (λ form. value_fault form value) (member_form level key) None)
    (named level key (is_name level key) refl) (valued level key value (member_form level key) refl judge)

-- ---- lists and objects

list_split : (form each : Form) (items : Items) → item_form form (length (elements items)) ≡ Some each → (k : Kind) (ss : List Step) → FaultAt form (array items) k ss
    → ItemFault (form_at each items) 0 items k ss
list_split form each items is _ _ (misshapen _ _ h) = absurd (let no : true ≡ false = sym (ap is_some is) ∙ h in cc)
list_split form each items is _ _ (in_item _ other _ place value kind steps wanted has f) =
    record { place = place; value = value; rest = steps; is = refl; has = has; fault = subst (λ (g : Form). FaultAt (form_at g items place value) value kind steps) (same_some (sym wanted ∙ is)) f }

no_list : (form : Form) (items : Items) → item_form form (length (elements items)) ≡ None → (k : Kind) (ss : List Step) → FaultAt form (array items) k ss → OwnFault form (array items) k ss
no_list form items is _ _ (misshapen _ _ h) = (refl, refl, h)
no_list form items is _ _ (in_item _ other _ place value kind steps wanted has f) = absurd (let no : None ≡ Some other = sym is ∙ wanted in cc)

whole_list : (form : Form) (items : Items) (o : Option Form) → item_form form (length (elements items)) ≡ o
    → ((each : ℕ → Data → Form) → Judged (ItemFault each 0 items) (items_fault each 0 items))
    → Judged (FaultAt form (array items)) (option_map_or (λ each. items_fault (form_at each items) 0 items) o (shape_fault false))
whole_list form items None is judge =
    judged_as (OwnFault form (array items)) (FaultAt form (array items)) (own_fault form (array items)) (no_list form items is) (shape_fault false) (own form (array items) false (ap is_some is))
whole_list form items (Some each) is judge =
    judged_as (ItemFault (form_at each items) 0 items) (FaultAt form (array items))
    (λ k ss h. subst (λ (us : List Step). FaultAt form (array items) k us) (sym h.is) (in_item form each items h.place h.value k h.rest is h.has h.fault))
    (list_split form each items is) (items_fault (form_at each items) 0 items) (judge (form_at each items))

object_split : (form : Form) (level : Level) (members : Members) → level_of form members ≡ Some level → (k : Kind) (ss : List Step) → FaultAt form (object members) k ss
    → OwnFault form (object members) k ss ⊎ MemberFault level members k ss
object_split form level ms is _ _ (misshapen _ _ h) = inl (refl, refl, h)
object_split form level ms is _ _ (in_member _ other _ name value kind steps wanted has f) =
    inr (record { name = name; value = value; rest = steps; is = refl; has = has; fault = subst (λ (l : Level). MemberFaultAt l name value kind steps) (same_some (sym wanted ∙ is)) f })

no_object : (form : Form) (members : Members) → level_of form members ≡ None → (k : Kind) (ss : List Step) → FaultAt form (object members) k ss → OwnFault form (object members) k ss
no_object form ms is _ _ (misshapen _ _ h) = (refl, refl, h)
no_object form ms is _ _ (in_member _ other _ name value kind steps wanted has f) = absurd (let no : None ≡ Some other = sym is ∙ wanted in cc)

object_apart : (form : Form) (d : Data) (level : Level) (members : Members) {k l : Kind} {ss ts : List Step} → OwnFault form d k ss → MemberFault level members l ts → IsBefore l ts k ss → ⊥
object_apart form d level ms {k = k} {l = l} {ss = ss} {ts = ts} p q before =
    not_before_root (subst (λ (us : List Step). IsBefore l us k []) q.is (subst (λ (us : List Step). IsBefore l ts k us) p.1 before))

abbrev shaped_by : Members → Option Level → Bool
shaped_by members o = option_map_or (λ level. is_whole level members) o false

whole_object : (form : Form) (members : Members) (o : Option Level) → level_of form members ≡ o → ((level : Level) → Judged (MemberFault level members) (members_fault level members))
    → Judged (FaultAt form (object members)) (option_map_or (λ level. option_or (shape_fault (is_whole level members)) (members_fault level members)) o (shape_fault false))
whole_object form members None is judge =
    judged_as (OwnFault form (object members)) (FaultAt form (object members)) (own_fault form (object members)) (no_object form members is) (shape_fault false)
    (own form (object members) false (ap (shaped_by members) is))
whole_object form members (Some level) is judge =
    judged_or (OwnFault form (object members)) (MemberFault level members) (FaultAt form (object members))
    (object_split form level members is) (own_fault form (object members))
    (λ k ss h. subst (λ (us : List Step). FaultAt form (object members) k us) (sym h.is) (in_member form level members h.name h.value k h.rest is h.has h.fault))
    (λ k l ss ts p q before. object_apart form (object members) level members p q before)
    (shape_fault (is_whole level members)) (members_fault level members)
    (own form (object members) (is_whole level members) (ap (shaped_by members) is)) (judge level)

-- ---- all of it

mutual
  unfolding value_fault

  judged : (d : Data) → IsTidy d → (form : Form) → Judged (FaultAt form d) (value_fault form d)
  judged null tidy form = alone form null (only_null form)
  judged (boolean truth) tidy form = alone form (boolean truth) (only_truth form truth)
  judged (number n) tidy form = alone form (number n) (only_number form n)
  judged (string text) tidy form = alone form (string text) (only_text form text)
  judged (array items) tidy form = whole_list form items (item_form form (length (elements items))) refl (λ each. judged_items items tidy each 0)
  judged (object members) tidy form = whole_object form members (level_of form members) refl (λ level. judged_members members tidy.0.ascending tidy.1 level)

  judged_items : (items : Items) → AreTidyItems items → (each : ℕ → Data → Form) (n : ℕ) → Judged (ItemFault each n items) (items_fault each n items)
  judged_items no_items tidy each n = no_item_fault each n
  judged_items (item value items) tidy each n = item_next each n value items (value_fault (each n value) value) (items_fault each (n + 1) items) (judged value tidy.0 (each n value)) (judged_items items tidy.1 each (n + 1))

  judged_members : (members : Members) → IsStrictlySortedBy text_cmp (keys members) → AreTidyMembers members → (level : Level) → Judged (MemberFault level members) (members_fault level members)
  judged_members no_members ascends tidy level = λ k ss h. no_member h.has
  judged_members (member key value members) ascends tidy level =
      member_next level key value members (member_fault level key value) (members_fault level members) (sorted_head text_cmp key (keys members) ascends)
      (one_member level key value (λ form. judged value tidy.0 form)) (judged_members members (sorted_tail text_cmp key (keys members) ascends) tidy.1 level)

-- ---- where it is

mutual
  leads : {form : Form} {d : Data} {k : Kind} {ss : List Step} → FaultAt form d k ss → (end : Data) × LeadsTo d ss end
  leads (misshapen form d h) = (d, itself d)
  leads (in_item form each items place value kind steps wanted has f) =
      let on = leads f in
      (on.0, by_item items place value steps on.0 has on.1)
  leads (in_member form level members name value kind steps wanted has f) =
      let on = leads_member f in
      (on.0, by_member members name value steps on.0 has on.1)

  leads_member : {level : Level} {name : List ℕ} {value : Data} {k : Kind} {ss : List Step} → MemberFaultAt level name value k ss → (end : Data) × LeadsTo value ss end
  leads_member (misnamed level name value h) = (value, itself value)
  leads_member (in_value level name form value kind steps wanted f) = leads f

-- ---- of two faults one comes first

abbrev Compared : Kind → List Step → Kind → List Step → Type 0
Compared k ss l ts = IsBefore k ss l ts ⊎ (IsBefore l ts k ss ⊎ ((k ≡ l) × (ss ≡ ts)))

one_item : {n p q : ℕ} {items : Items} {v w : Data} → HasItem n items p v → HasItem n items q w → p ≡ q → v ≡ w
one_item (first_item n v others) (first_item _ _ _) e = refl
one_item (first_item n v others) (later_item _ _ _ place w h) e = let low : n + 1 ≤ place = from_on h in absurd (omega (arith, low, e))
one_item (later_item n v others place w h) (first_item _ _ _) e = let low : n + 1 ≤ place = from_on h in absurd (omega (arith, low, e))
one_item (later_item n v others place w h) (later_item _ _ _ _ _ g) e = one_item h g e

one_value : {members : Members} {a b : List ℕ} {v w : Data} → IsStrictlySortedBy text_cmp (keys members) → HasMember members a v → HasMember members b w → a ≡ b → v ≡ w
one_value ascends (first_member a v others) (first_member _ _ _) e = refl
one_value ascends (first_member a v others) (later_member _ _ _ b w h) e =
    absurd (text_not_below a b (below_all a b w others (sorted_head text_cmp a (keys others) ascends) h) e)
one_value ascends (later_member c v others a w h) (first_member _ _ _) e =
    absurd (text_not_below c a (below_all c a w others (sorted_head text_cmp c (keys others) ascends) h) (sym e))
one_value ascends (later_member c v others a w h) (later_member _ _ _ _ _ g) e = one_value (sorted_tail text_cmp c (keys others) ascends) h g e

tidy_item : {n place : ℕ} {items : Items} {value : Data} → AreTidyItems items → HasItem n items place value → IsTidy value
tidy_item tidy (first_item n value others) = tidy.0
tidy_item tidy (later_item n beside others place value h) = tidy_item tidy.1 h

tidy_member : {members : Members} {name : List ℕ} {value : Data} → AreTidyMembers members → HasMember members name value → IsTidy value
tidy_member tidy (first_member name value others) = tidy.0
tidy_member tidy (later_member other beside others name value h) = tidy_member tidy.1 h

by_number : (m n : ℕ) → (m < n) ⊎ ((n < m) ⊎ (m ≡ n))
by_number m n = at (cases_lt m n) where
  past : (n ≡ m) ⊎ (n < m) → (n < m) ⊎ (m ≡ n)
  past (inl same) = inr (sym same)
  past (inr more) = inl more

  at : (m < n) ⊎ (n ≤ m) → (m < n) ⊎ ((n < m) ⊎ (m ≡ n))
  at (inl less) = inl less
  at (inr upto) = inr (past (eq-or-lt_of_le upto))

by_text : (a b : List ℕ) → (text_cmp a b ≡ Less) ⊎ ((text_cmp b a ≡ Less) ⊎ (a ≡ b))
by_text a b = at (text_cmp a b) refl where
  at : (o : Ordering) → text_cmp a b ≡ o → (text_cmp a b ≡ Less) ⊎ ((text_cmp b a ≡ Less) ⊎ (a ≡ b))
  at Less is = inl is
  at Equal is = inr (inr (bytes_eq_true a b (sym (is_eq-slice_cmp a b) ∙ ap is_eq is)))
  at Greater is = inr (inl (nat_list_cmp_total.antisymm b a ∙ ap ordering_reverse is))

-- behind steps of which neither is earlier
behind_same : (k l : Kind) (s t : Step) (ss ts : List Step) → s ≡ t → Compared k ss l ts → Compared k (s ∷ ss) l (t ∷ ts)
behind_same k l s t ss ts e (inl before) = inl (subst (λ (u : Step). IsBefore k (s ∷ ss) l (u ∷ ts)) e (further k l s ss ts before))
behind_same k l s t ss ts e (inr (inl after)) = inr (inl (subst (λ (u : Step). IsBefore l (u ∷ ts) k (s ∷ ss)) e (further l k s ts ss after)))
behind_same k l s t ss ts e (inr (inr both)) = inr (inr (both.0, λ i. e i ∷ both.1 i))

behind_steps : (k l : Kind) (s t : Step) (ss ts : List Step) → IsEarlier s t ⊎ (IsEarlier t s ⊎ (s ≡ t)) → (s ≡ t → Compared k ss l ts) → Compared k (s ∷ ss) l (t ∷ ts)
behind_steps k l s t ss ts (inl before) inside = inl (earlier k l s t ss ts before)
behind_steps k l s t ss ts (inr (inl after)) inside = inr (inl (earlier l k t s ts ss after))
behind_steps k l s t ss ts (inr (inr same)) inside = behind_same k l s t ss ts same (inside same)

compare_items : (m n : ℕ) → IsEarlier (to_item m) (to_item n) ⊎ (IsEarlier (to_item n) (to_item m) ⊎ (to_item m ≡ to_item n))
compare_items m n = at (by_number m n) where
  at : (m < n) ⊎ ((n < m) ⊎ (m ≡ n)) → (m < n) ⊎ ((n < m) ⊎ (to_item m ≡ to_item n))
  at (inl less) = inl less
  at (inr (inl more)) = inr (inl more)
  at (inr (inr same)) = inr (inr (ap to_item same))

compare_names : (a b : List ℕ) → IsEarlier (to_member a) (to_member b) ⊎ (IsEarlier (to_member b) (to_member a) ⊎ (to_member a ≡ to_member b))
compare_names a b = at (by_text a b) where
  at : (text_cmp a b ≡ Less) ⊎ ((text_cmp b a ≡ Less) ⊎ (a ≡ b)) → (text_cmp a b ≡ Less) ⊎ ((text_cmp b a ≡ Less) ⊎ (to_member a ≡ to_member b))
  at (inl less) = inl less
  at (inr (inl more)) = inr (inl more)
  at (inr (inr same)) = inr (inr (ap to_member same))

same_number : {m n : ℕ} → to_item m ≡ to_item n → m ≡ n
unfolding number_in
same_number e = ap number_in e

same_name : {a b : List ℕ} → to_member a ≡ to_member b → a ≡ b
unfolding name_in
same_name e = ap name_in e

-- a name beside a fault of its value
name_beside : {form : Form} {value : Data} {k : Kind} {ss : List Step} → FaultAt form value k ss → IsBefore bad_name [] k ss
name_beside (misshapen form d h) = name_first
name_beside (in_item form each items place value kind steps wanted has f) = outside bad_name kind (to_item place) steps
name_beside (in_member form level ms name value kind steps wanted has f) = outside bad_name kind (to_member name) steps

mutual
  compared : {form : Form} {d : Data} {k l : Kind} {ss ts : List Step} → IsTidy d → FaultAt form d k ss → FaultAt form d l ts → Compared k ss l ts
  compared tidy (misshapen form d h) (misshapen _ _ g) = inr (inr (refl, refl))
  compared tidy (misshapen form _ h) (in_item _ each items place value kind steps wanted has f) = inl (outside bad_shape kind (to_item place) steps)
  compared tidy (misshapen form _ h) (in_member _ level ms name value kind steps wanted has f) = inl (outside bad_shape kind (to_member name) steps)
  compared tidy (in_item form each items place value kind steps wanted has f) (misshapen _ _ h) = inr (inl (outside bad_shape kind (to_item place) steps))
  compared tidy (in_member form level ms name value kind steps wanted has f) (misshapen _ _ h) = inr (inl (outside bad_shape kind (to_member name) steps))
  compared tidy (in_item form each items place value kind steps wanted has f) (in_item _ other _ beside second l ts also had g) =
      behind_steps kind l (to_item place) (to_item beside) steps ts (compare_items place beside)
      (λ e. compared (tidy_item tidy has) f
      (subst (λ (v : Data). FaultAt (form_at each items place v) v l ts) (sym (one_item has had (same_number e)))
      (subst (λ (p : ℕ). FaultAt (form_at each items p second) second l ts) (sym (same_number e))
      (subst (λ (x : Form). FaultAt (form_at x items beside second) second l ts) (same_some (sym also ∙ wanted)) g))))
  compared tidy (in_member form level ms name value kind steps wanted has f) (in_member _ other _ beside second l ts also had g) =
      behind_steps kind l (to_member name) (to_member beside) steps ts (compare_names name beside)
      (λ e. compared_member (tidy_member tidy.1 has) f
      (subst (λ (v : Data). MemberFaultAt level name v l ts) (sym (one_value tidy.0.ascending has had (same_name e)))
      (subst (λ (x : List ℕ). MemberFaultAt level x second l ts) (sym (same_name e)) (subst (λ (x : Level). MemberFaultAt x beside second l ts) (same_some (sym also ∙ wanted)) g))))

  compared_member : {level : Level} {name : List ℕ} {value : Data} {k l : Kind} {ss ts : List Step} → IsTidy value → MemberFaultAt level name value k ss → MemberFaultAt level name value l ts → Compared k ss l ts
  compared_member tidy (misnamed level name value h) (misnamed _ _ _ g) = inr (inr (refl, refl))
  compared_member tidy (misnamed level name value h) (in_value _ _ form _ kind steps wanted f) = inl (name_beside f)
  compared_member tidy (in_value level name form value kind steps wanted f) (misnamed _ _ _ h) = inr (inl (name_beside f))
  compared_member tidy (in_value level name form value kind steps wanted f) (in_value _ _ other _ l ts also g) =
      compared tidy f (subst (λ (x : Form). FaultAt x value l ts) (same_some (sym also ∙ wanted)) g)

one_first : (form : Form) (d : Data) (a b : SchemaFault) → IsTidy d → IsFirst (FaultAt form d) a → IsFirst (FaultAt form d) b → a ≡ b
one_first form d a b tidy h g = at (compared tidy h.there g.there) where
  at : Compared h.kind h.steps g.kind g.steps → a ≡ b
  at (inl before) = absurd (g.first h.kind h.steps h.there before)
  at (inr (inl after)) = absurd (h.first g.kind g.steps g.there after)
  at (inr (inr same)) = h.is ∙ (λ i. told (same.0 i) (pointer (same.1 i))) ∙ sym g.is

-- ---- files

judged_tree : (bytes : List ℕ) (d : Data) → HasTree bytes d → Judged (SchemaFaultAt d) (first_fault d)
judged_tree bytes d tree = judged d (tree_tidy bytes d tree) (Object Schema)

first_of_file : (bytes : List ℕ) (fault : SchemaFault) → HasFault bytes fault → IsFirstOf bytes fault
first_of_file bytes _ (no_tree none) = of_no_tree none
first_of_file bytes _ (in_tree d fault tree is) =
    let first : IsFirst (SchemaFaultAt d) fault = subst (Judged (SchemaFaultAt d)) is (judged_tree bytes d tree) in
    of_tree d fault tree first (leads first.there)

fault_of_file : (bytes : List ℕ) (fault : SchemaFault) → IsFirstOf bytes fault → HasFault bytes fault
fault_of_file bytes _ (of_no_tree none) = no_tree none
fault_of_file bytes _ (of_tree d fault tree first end) = at (first_fault d) refl (judged_tree bytes d tree) where
  at : (o : Option SchemaFault) → first_fault d ≡ o → Judged (SchemaFaultAt d) o → HasFault bytes fault
  at None is none = absurd (none first.kind first.steps first.there)
  at (Some other) is also =
      let same : fault ≡ other = one_first (Object Schema) d fault other (tree_tidy bytes d tree) first also in
      in_tree d fault tree (is ∙ ap Some (sym same))

-- a tree without a fault spells a schema
spelled_tree : (bytes : List ℕ) (d : Data) → HasTree bytes d → ((k : Kind) (steps : List Step) → ¬ SchemaFaultAt d k steps) → (w : WrittenSchema) × Spells bytes w
spelled_tree bytes d tree none = at (first_fault d) refl (judged_tree bytes d tree) where
  at : (o : Option SchemaFault) → first_fault d ≡ o → Judged (SchemaFaultAt d) o → (w : WrittenSchema) × Spells bytes w
  at None is _ = (schema_of d, record { d = d; tree = tree; no_fault = is; meant = refl })
  at (Some fault) is first = absurd (none first.kind first.steps first.there)

none_of_file : (bytes : List ℕ) (w : WrittenSchema) (d : Data) (k : Kind) (steps : List Step) → Spells bytes w → HasTree bytes d → ¬ SchemaFaultAt d k steps
none_of_file bytes w d k steps s tree fault =
    let same : s.d ≡ d = one_tree bytes s.d d s.tree tree in
    let none : Judged (SchemaFaultAt d) None = subst (Judged (SchemaFaultAt d)) (sym (ap first_fault same) ∙ s.no_fault) (judged_tree bytes d tree) in
    none k steps fault

pub are_placed : (bytes : List ℕ) → ArePlaced bytes
are_placed bytes =
    record {
      first = λ fault. (first_of_file bytes fault, fault_of_file bytes fault);
      none = λ d tree. (λ spelled k steps. none_of_file bytes spelled.0 d k steps spelled.1 tree, spelled_tree bytes d tree);
      formed = λ d tree. (
        λ spelled. has_form d (Object Schema) (λ k steps fault. none_of_file bytes spelled.0 d k steps spelled.1 tree fault),
        λ is. spelled_tree bytes d tree (λ k steps fault. none_of_form fault is),
      );
    }
