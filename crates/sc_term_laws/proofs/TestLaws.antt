-- What the tests of sorts say.
use Rattle.std.proofs.Common.{cond, ◌≡◌, ◌||◌, ◌<◌, ◌≤◌, ℕ, List, [], ◌∷◌, Bool, true, false, nat_lt, nat_le, Option, Some, None, Contains, ◌⊎◌, inl, inr, refl, sym, ap, ◌∙◌, subst, arith}
use Rattle.std.specs.List.{list_any}
use Rattle.std.specs.Map.{lookup}
use Rattle.std.specs.Str.{bytes_eq}
use Rattle.std.proofs.lemmas.Bool.Decides.{nat_tests}
use Rattle.std.proofs.lemmas.Slice.Eq.{bytes_eq-Decides}
use Rattle.sc_lists.proofs.ListLaws.{contains_first, contains_rest, contains_split, contains_nothing}
use Rattle.sc_lists.proofs.TextLaws.{bytes_eq_true}
use Rattle.sc_laws.proofs.NumberLaws.{nat_lt_true}
use Rattle.sc_schema.specs.declared.ty.Ty.{Ty}
use Rattle.sc_schema.specs.Declarations.{Declarations, ancestor_types}
use Rattle.sc_sorts.specs.declared.sort.Sort.{Sort, Sort-F, out-Sort, roll-Sort, roll-out-Sort}
use Rattle.sc_sorts.specs.declared.sort.Sort.TheVariants as sort
use Rattle.sc_sorts.specs.declared.sort.Sort.TheVariants.{rolls-Bool, rolls-Long, rolls-String, rolls-Decimal, rolls-Ip, rolls-Set, rolls-Record, rolls-Option}
use Rattle.sc_sorts.specs.declared.sort.Sort.TheOpen as s
use Rattle.sc_sorts.specs.contracts.sort.SortPartialEq.TheImpl.{ghosts as sorts}
use Rattle.sc_sorts.specs.Defaults.{is_option, is_option_level}
use Rattle.sc_sorts.specs.Entities.{choices_of, entity_sort}
use Rattle.sc_sorts.specs.Inside.{SortField, SortFields, name_in, fields_in, held_in, member_in, held_sort, member_sort}
use Rattle.sc_sorts.specs.OfTypes.{sort_of}
use Rattle.sc_sorts.proofs.OutLaws.{out_Bool, out_Long, out_String, out_Decimal, out_Ip, out_Entity, out_Set, out_Record, out_Option}
use Rattle.sc_sorts.specs.OrderLaws.{sort_eq_decides}
use Rattle.sc_sorts.specs.declared.node.BinaryOp.{BinaryOp}
use Rattle.sc_sorts.specs.declared.node.BinaryOp.TheVariants as binary
use Rattle.sc_terms.specs.Trees.{Tree, two}
use Rattle.sc_term_laws.specs.Judging.{HasPlace, IsNumberSort, IsSum}
use Rattle.sc_term_laws.specs.Judging as judged
use Rattle.sc_term_laws.specs.Tests.{bool_level, long_level, string_level, ip_level, number_level, set_level, place_level, set_of_level, entity_level, is_bool, is_long, is_string, is_ip, is_number, is_set, has_place, is_set_of, is_entity_sort, name_of, is_sort_of, has_name, is_above, has_field, is_sum, is_product}

-- a sort by what it is made of
pub at_level : (k : Sort) (x : Sort-F Sort) → out-Sort k ≡ x → k ≡ roll-Sort x
at_level k x e = sym (roll-out-Sort k) ∙ ap roll-Sort e

bool_at : (x : Sort-F Sort) → bool_level x ≡ true → x ≡ s.Bool
bool_at s.Bool h = refl
bool_at _ h = absurd cc

pub bool_sort : (k : Sort) → is_bool k ≡ true → k ≡ sort.Bool
bool_sort k h = at_level k s.Bool (bool_at (out-Sort k) h) ∙ rolls-Bool

long_at : (x : Sort-F Sort) → long_level x ≡ true → x ≡ s.Long
long_at s.Long h = refl
long_at _ h = absurd cc

pub long_sort : (k : Sort) → is_long k ≡ true → k ≡ sort.Long
long_sort k h = at_level k s.Long (long_at (out-Sort k) h) ∙ rolls-Long

string_at : (x : Sort-F Sort) → string_level x ≡ true → x ≡ s.String
string_at s.String h = refl
string_at _ h = absurd cc

pub string_sort : (k : Sort) → is_string k ≡ true → k ≡ sort.String
string_sort k h = at_level k s.String (string_at (out-Sort k) h) ∙ rolls-String

ip_at : (x : Sort-F Sort) → ip_level x ≡ true → x ≡ s.Ip
ip_at s.Ip h = refl
ip_at _ h = absurd cc

pub ip_sort : (k : Sort) → is_ip k ≡ true → k ≡ sort.Ip
ip_sort k h = at_level k s.Ip (ip_at (out-Sort k) h) ∙ rolls-Ip

pub same_sorts : (k l : Sort) → sorts.eq k l ≡ true → k ≡ l
same_sorts k l h = (sort_eq_decides k l).0 h

pub same_told : (k l : Sort) → k ≡ l → sorts.eq k l ≡ true
same_told k l e = (sort_eq_decides k l).1 e

set_at : (x : Sort-F Sort) (k : Sort) → set_of_level x k ≡ true → x ≡ s.Set k
set_at (s.Set member) k h = ap s.Set (same_sorts member k h)
set_at _ k h = absurd cc

pub set_sort : (x k : Sort) → is_set_of x k ≡ true → x ≡ sort.Set k
set_sort x k h = at_level x (s.Set k) (set_at (out-Sort x) k h) ∙ rolls-Set k

-- ---- numbers and places

pub number_at : (k : Sort) (x : Sort-F Sort) → out-Sort k ≡ x → number_level x ≡ true → IsNumberSort k
number_at k s.Long e h = subst IsNumberSort (sym (at_level k s.Long e ∙ rolls-Long)) judged.long
number_at k s.Decimal e h = subst IsNumberSort (sym (at_level k s.Decimal e ∙ rolls-Decimal)) judged.decimal
number_at k _ e h = absurd cc

pub number_sort : (k : Sort) → is_number k ≡ true → IsNumberSort k
number_sort k h = number_at k (out-Sort k) refl h

pub below : (i n : ℕ) → nat_lt i n ≡ true → i < n
below i n h = grind (arith, nat_tests)

pub place_at : (k : Sort) (x : Sort-F Sort) (i : ℕ) → out-Sort k ≡ x → place_level x i ≡ true → HasPlace k i
place_at k s.Long i e h = subst (λ (z : Sort). HasPlace z i) (sym (at_level k s.Long e ∙ rolls-Long)) (judged.of_long (below i 64 h))
place_at k s.Decimal i e h = subst (λ (z : Sort). HasPlace z i) (sym (at_level k s.Decimal e ∙ rolls-Decimal)) (judged.of_decimal (below i 64 h))
place_at k s.Ip i e h = subst (λ (z : Sort). HasPlace z i) (sym (at_level k s.Ip e ∙ rolls-Ip)) (judged.of_ip (below i 257 h))
place_at k _ i e h = absurd cc

pub place_sort : (k : Sort) (i : ℕ) → has_place k i ≡ true → HasPlace k i
place_sort k i h = place_at k (out-Sort k) i refl h

-- ---- entities and types

entity_at : (d : Declarations) (k : Sort) (x : Sort-F Sort) → entity_level d k x ≡ true → k ≡ entity_sort d (name_in x)
entity_at d k (s.Entity name us) h = same_sorts k (entity_sort d name) h
entity_at d k _ h = absurd cc

pub entity_is : (d : Declarations) (k : Sort) → is_entity_sort d k ≡ true → k ≡ entity_sort d (name_of k)
entity_is d k h = entity_at d k (out-Sort k) h

pub type_is : (o : Option Ty) (own : Sort) → is_sort_of o own ≡ true → (t : Ty) × (o ≡ Some t) × (own ≡ sort_of t)
type_is None own h = absurd cc
type_is (Some t) own h = (t, refl, same_sorts own (sort_of t) h)

pub type_told : (o : Option Ty) (t : Ty) → o ≡ Some t → is_sort_of o (sort_of t) ≡ true
type_told o t e = ap (λ (p : Option Ty). is_sort_of p (sort_of t)) e ∙ (sort_eq_decides (sort_of t) (sort_of t)).1 refl

-- ---- sums and products

pub sum_is : (t : Tree) → is_sum t ≡ true → (o : BinaryOp) × (a : Tree) × (b : Tree) × IsSum o × (t ≡ two o a b)
sum_is (two binary.Add a b) h = (binary.Add, a, b, judged.addition, refl)
sum_is (two binary.Subtract a b) h = (binary.Subtract, a, b, judged.subtraction, refl)
sum_is _ h = absurd cc

pub product_is : (t : Tree) → is_product t ≡ true → (a : Tree) × (b : Tree) × (t ≡ two binary.Multiply a b)
product_is (two binary.Multiply a b) h = (a, b, refl)
product_is _ h = absurd cc

-- ---- what a sort's test says the other way round

-- a test of what a sort is made of, at a sort that is another
pub at_sort : (p : Sort-F Sort → Bool) (k l : Sort) (x : Sort-F Sort) → k ≡ l → out-Sort l ≡ x → p x ≡ true → p (out-Sort k) ≡ true
at_sort p k l x e f h = ap (λ (z : Sort). p (out-Sort z)) e ∙ ap p f ∙ h

pub bool_told : (k : Sort) → k ≡ sort.Bool → is_bool k ≡ true
bool_told k e = at_sort bool_level k sort.Bool s.Bool e out_Bool refl

pub long_told : (k : Sort) → k ≡ sort.Long → is_long k ≡ true
long_told k e = at_sort long_level k sort.Long s.Long e out_Long refl

pub string_told : (k : Sort) → k ≡ sort.String → is_string k ≡ true
string_told k e = at_sort string_level k sort.String s.String e out_String refl

pub ip_told : (k : Sort) → k ≡ sort.Ip → is_ip k ≡ true
ip_told k e = at_sort ip_level k sort.Ip s.Ip e out_Ip refl

pub option_told : (k l : Sort) → k ≡ sort.Option l → is_option k ≡ true
option_told k l e = at_sort (is_option_level Sort) k (sort.Option l) (s.Option l) e (out_Option l) refl

pub set_told : (k l : Sort) → k ≡ sort.Set l → is_set k ≡ true
set_told k l e = at_sort set_level k (sort.Set l) (s.Set l) e (out_Set l) refl

pub set_of_told : (x k : Sort) → x ≡ sort.Set k → is_set_of x k ≡ true
set_of_told x k e = at_sort (λ (z : Sort-F Sort). set_of_level z k) x (sort.Set k) (s.Set k) e (out_Set k) (same_told k k refl)

number_is : (k : Sort) → IsNumberSort k → is_number k ≡ true
number_is _ judged.long = at_sort number_level sort.Long sort.Long s.Long refl out_Long refl
number_is _ judged.decimal = at_sort number_level sort.Decimal sort.Decimal s.Decimal refl out_Decimal refl

pub number_told : (k l : Sort) → k ≡ l → IsNumberSort l → is_number k ≡ true
number_told k l e h = ap is_number e ∙ number_is l h

place_is : (k : Sort) (i : ℕ) → HasPlace k i → has_place k i ≡ true
place_is _ i (judged.of_long h) = at_sort (λ (z : Sort-F Sort). place_level z i) sort.Long sort.Long s.Long refl out_Long (nat_lt_true i 64 h)
place_is _ i (judged.of_decimal h) = at_sort (λ (z : Sort-F Sort). place_level z i) sort.Decimal sort.Decimal s.Decimal refl out_Decimal (nat_lt_true i 64 h)
place_is _ i (judged.of_ip h) = at_sort (λ (z : Sort-F Sort). place_level z i) sort.Ip sort.Ip s.Ip refl out_Ip (nat_lt_true i 257 h)

pub place_told : (k l : Sort) (i : ℕ) → k ≡ l → HasPlace l i → has_place k i ≡ true
place_told k l i e h = ap (λ (z : Sort). has_place z i) e ∙ place_is l i h

entity_itself : (d : Declarations) (name : List ℕ) → is_entity_sort d (entity_sort d name) ≡ true
entity_itself d name =
    ap (entity_level d (entity_sort d name)) (out_Entity name (choices_of d name)) ∙ same_told (entity_sort d name) (entity_sort d name) refl

pub entity_told : (d : Declarations) (k : Sort) (name : List ℕ) → k ≡ entity_sort d name → is_entity_sort d k ≡ true
entity_told d k name e = ap (is_entity_sort d) e ∙ entity_itself d name

pub name_told : (d : Declarations) (k : Sort) (name : List ℕ) → k ≡ entity_sort d name → name_of k ≡ name
name_told d k name e = ap name_of e ∙ ap name_in (out_Entity name (choices_of d name))

-- ---- options, sets, records

option_at : (k : Sort) (x : Sort-F Sort) → out-Sort k ≡ x → is_option_level Sort x ≡ true → k ≡ sort.Option (held_in x)
option_at k (s.Option l) e h = at_level k (s.Option l) e ∙ rolls-Option l
option_at k _ e h = absurd cc

pub option_sort : (k : Sort) → is_option k ≡ true → k ≡ sort.Option (held_sort k)
option_sort k h = option_at k (out-Sort k) refl h

member_at : (k : Sort) (x : Sort-F Sort) → out-Sort k ≡ x → set_level x ≡ true → k ≡ sort.Set (member_in x)
member_at k (s.Set l) e h = at_level k (s.Set l) e ∙ rolls-Set l
member_at k _ e h = absurd cc

pub member_sort_of : (k : Sort) → is_set k ≡ true → k ≡ sort.Set (member_sort k)
member_sort_of k h = member_at k (out-Sort k) refl h

-- a field by its name
found_by : (b c : Bool) (x : Sort) (o : Option Sort) → (b || c) ≡ true → (c ≡ true → (k : Sort) × (o ≡ Some k)) → (k : Sort) × (cond b (Some x) o ≡ Some k)
found_by true c x o e later = (x, refl)
found_by false c x o e later = later e

found : (name : List ℕ) (fs : SortFields) → list_any (λ (f : SortField). bytes_eq name f.0) fs ≡ true → (k : Sort) × (lookup (bytes_eq name) fs ≡ Some k)
found name [] h = absurd cc
found name (f ∷ fs) h = found_by (bytes_eq name f.0) _ f.1 (lookup (bytes_eq name) fs) h (found name fs)

any_by : (b c : Bool) (x k : Sort) (o : Option Sort) → cond b (Some x) o ≡ Some k → (o ≡ Some k → c ≡ true) → (b || c) ≡ true
any_by true c x k o e later = refl
any_by false c x k o e later = later e

there : (name : List ℕ) (fs : SortFields) (k : Sort) → lookup (bytes_eq name) fs ≡ Some k → list_any (λ (f : SortField). bytes_eq name f.0) fs ≡ true
there name [] k e = cc
there name (f ∷ fs) k e = any_by (bytes_eq name f.0) _ f.1 k (lookup (bytes_eq name) fs) e (there name fs k)

record_at : (name : List ℕ) (k : Sort) (x : Sort-F Sort) → out-Sort k ≡ x → list_any (λ (f : SortField). bytes_eq name f.0) (fields_in x) ≡ true → k ≡ sort.Record (fields_in x)
record_at name k (s.Record fs) e h = at_level k (s.Record fs) e ∙ rolls-Record fs
record_at name k _ e h = absurd cc

-- of a sort that has a field
pub record HasFieldOf (name : List ℕ) (k : Sort) : Type 0 where
  pub fields : SortFields
  pub of_record : k ≡ sort.Record fields
  pub field : Sort
  pub found : lookup (bytes_eq name) fields ≡ Some field

pub field_sort_of : (name : List ℕ) (k : Sort) → has_field name k ≡ true → HasFieldOf name k
field_sort_of name k h =
    let p = found name (fields_in (out-Sort k)) h in
    record { fields = fields_in (out-Sort k); of_record = record_at name k (out-Sort k) refl h; field = p.0; found = p.1 }

pub field_told : (name : List ℕ) (k : Sort) (fs : SortFields) (l : Sort) → k ≡ sort.Record fs → lookup (bytes_eq name) fs ≡ Some l → has_field name k ≡ true
field_told name k fs l e f = ap (has_field name) e ∙ ap (λ (z : Sort-F Sort). list_any (λ (g : SortField). bytes_eq name g.0) (fields_in z)) (out_Record fs) ∙ there name fs l f

-- ---- types above a type

among_by : (n : List ℕ) (names : List (List ℕ)) (name : List ℕ) (b c : Bool) → bytes_eq name n ≡ b → (b || c) ≡ true → (c ≡ true → Contains names name) → Contains (n ∷ names) name
among_by n names name true c e h later = subst (Contains (n ∷ names)) (sym (bytes_eq_true name n e)) (contains_first n names)
among_by n names name false c e h later = contains_rest n names name (later h)

among : (names : List (List ℕ)) (name : List ℕ) → list_any (bytes_eq name) names ≡ true → Contains names name
among [] name h = absurd cc
among (n ∷ names) name h = among_by n names name (bytes_eq name n) _ refl h (among names name)

or_so : (a b : Bool) → (a ≡ true) ⊎ (b ≡ true) → (a || b) ≡ true
or_so true b h = refl
or_so false b (inl h) = absurd cc
or_so false b (inr h) = h

among_told : (names : List (List ℕ)) (name : List ℕ) → Contains names name → list_any (bytes_eq name) names ≡ true
among_told [] name h = absurd (contains_nothing name h)
among_told (n ∷ names) name h = elim (contains_split n names name h) [
  | inl is ↦ or_so (bytes_eq name n) _ (inl ((bytes_eq-Decides name n).1 (sym is)))
  | inr later ↦ or_so (bytes_eq name n) _ (inr (among_told names name later))
]

pub record IsAboveOf (d : Declarations) (name above : List ℕ) : Type 0 where
  pub names : List (List ℕ)
  pub declared : ancestor_types d name ≡ Some names
  pub among : Contains names above

named_above : (o : Option (List (List ℕ))) (above : List ℕ) → has_name o above ≡ true → (names : List (List ℕ)) × (o ≡ Some names) × Contains names above
named_above None above h = absurd cc
named_above (Some names) above h = (names, refl, among names above h)

pub above_is : (d : Declarations) (name above : List ℕ) → is_above d name above ≡ true → IsAboveOf d name above
above_is d name above h = let p = named_above (ancestor_types d name) above h in record { names = p.0; declared = p.1; among = p.2 }

pub above_told : (d : Declarations) (name above : List ℕ) (names : List (List ℕ)) → ancestor_types d name ≡ Some names → Contains names above → is_above d name above ≡ true
above_told d name above names e h = ap (λ (o : Option (List (List ℕ))). has_name o above) e ∙ among_told names above h

-- ---- bounds

pub at_most_told : (i n : ℕ) → i ≤ n → nat_le i n ≡ true
at_most_told i n h = grind (arith, nat_tests)
