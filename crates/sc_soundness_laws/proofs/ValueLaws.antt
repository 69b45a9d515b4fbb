-- Values by their types.
use Rattle.std.proofs.Common.{◌≡◌, ℕ, ℤ, List, [], ◌∷◌, Bool, true, false, if◌then◌else◌, IsTrue, Some, Result, Ok, Err, refl, sym, ap, subst, ◌∙◌}
use Rattle.std.specs.List.{AllByRecursion, list_all}
use Rattle.std.specs.Str.{bytes_eq}
use Rattle.std.proofs.lemmas.Slice.Eq.{bytes_eq-Decides}
use Rattle.std.proofs.lemmas.Bool.{and_from, and_parts}
use Rattle.sc_ip.specs.declared.ip.Ip.{Ip}
use Rattle.sc_names.specs.declared.uid.Uid.{Uid}
use Rattle.sc_schema.specs.declared.ty.EntityKind.{EntityKind}
use Rattle.sc_schema.specs.declared.ty.Ty.{Ty, Ty-F, out-Ty, roll-Ty, map-Ty, fold_out-Ty, fold-roll-Ty}
use Rattle.sc_schema.specs.declared.ty.Ty.TheVariants as types
use Rattle.sc_schema.specs.declared.ty.Ty.TheVariants.{rolls-True, rolls-False, rolls-Bool, rolls-Long, rolls-String, rolls-Decimal, rolls-Ip, rolls-Entity}
use Rattle.sc_schema.specs.declared.ty.Ty.TheOpen as t
use Rattle.sc_values.specs.declared.value.Value.{Value, Value-F, out-Value, roll-Value, roll-out-Value}
use Rattle.sc_values.specs.declared.value.Value.TheVariants as value
use Rattle.sc_values.specs.declared.value.Value.TheVariants.{rolls-Bool as value_rolls-Bool, rolls-String as value_rolls-String, rolls-Entity as value_rolls-Entity, rolls-Set as value_rolls-Set}
use Rattle.sc_values.specs.declared.value.Value.TheOpen as v
use Rattle.sc_values.proofs.EveryLaws as every
use Rattle.sc_values.proofs.OutLaws.{out_Bool, out_Long, out_String, out_Entity, out_Set, out_Decimal, out_Ip}
use Rattle.sc_world.specs.declared.world.World.{World}
use Rattle.sc_world.specs.Choices.{is_choice}
use Rattle.sc_world.specs.Conforms.{Test, conforms, conforms_step, is_truth}
use Rattle.sc_world.specs.Conforms as conform
use Rattle.sc_world.specs.WellFormed.{IsStored, NamesStored, NamesStoredLevel}
use Rattle.sc_eval.specs.declared.error.EvalError.{EvalError}
use Rattle.sc_eval.specs.Outcomes.{◌>>=◌, long_in, text_in, entity_in, set_in, decimal_in, address_in, as_long, as_text, as_entity, as_set, as_decimal, as_address}
use Rattle.sc_typed.specs.Types.{is_true, is_true_in, is_false, is_false_in, is_boolean, is_boolean_in, is_long, is_long_in, is_string, is_string_in, is_decimal, is_decimal_in, is_ip, is_ip_in, entity_name, entity_name_in, member, member_in, truth}
use Rattle.sc_soundness_laws.specs.Sound.{IsOf, OrOverflows}

-- ---- types by a test

pub by_test : (P : Ty → Type 0) (b : Bool) (x y : Ty) → (b ≡ true → P x) → (b ≡ false → P y) → P (if b then x else y)
by_test P true x y h k = h refl
by_test P false x y h k = k refl

-- ---- what conforms to a type, by the type's kind

abbrev pub fits : Ty-F Ty → Value → Bool
fits y x = conforms_step (map-Ty Ty Test conforms y) x

pub conforms-out : (type : Ty) (x : Value) → conforms type x ≡ fits (out-Ty type) x
unfolding conforms
conforms-out type x = ap (λ f. f x) (fold_out-Ty Test conforms_step type)

pub conforms-roll : (type : Ty) (y : Ty-F Ty) → roll-Ty y ≡ type → (x : Value) → conforms type x ≡ fits y x
unfolding conforms
conforms-roll type y at x = ap (λ u. conforms u x) (sym at) ∙ ap (λ f. f x) (fold-roll-Ty Test conforms_step y)

-- what follows an outcome
pub follows : {A B : Type 0} (P : A → Type 0) (Q : B → Type 0) (o : Result A EvalError) (f : A → Result B EvalError) → OrOverflows P o → ((x : A) → P x → OrOverflows Q (f x)) → OrOverflows Q (o >>= f)
follows P Q (Ok x) f h k = k x h
follows P Q (Err e) f h k = h

-- ---- which values are of a kind

truth_in : (p : Bool) (z : Value-F Value) → IsTrue (is_truth p z) → z ≡ v.Bool p
truth_in true (v.Bool true) h = refl
truth_in true (v.Bool false) h = absurd cc
truth_in false (v.Bool true) h = absurd cc
truth_in false (v.Bool false) h = refl
truth_in true _ h = absurd cc
truth_in false _ h = absurd cc

bool_value : (z : Value-F Value) → IsTrue (conform.is_bool z) → (b : Bool) × (z ≡ v.Bool b)
bool_value (v.Bool b) h = (b, refl)
bool_value _ h = absurd cc

pub long_value : (z : Value-F Value) → IsTrue (conform.is_long z) → (n : ℤ) × (z ≡ v.Long n)
long_value (v.Long n) h = (n, refl)
long_value _ h = absurd cc

string_value : (z : Value-F Value) → IsTrue (conform.is_string z) → (text : List ℕ) × (z ≡ v.String text)
string_value (v.String text) h = (text, refl)
string_value _ h = absurd cc

pub decimal_value : (z : Value-F Value) → IsTrue (conform.is_decimal z) → (n : ℤ) × (z ≡ v.Decimal n)
decimal_value (v.Decimal n) h = (n, refl)
decimal_value _ h = absurd cc

pub ip_value : (z : Value-F Value) → IsTrue (conform.is_ip z) → (a : Ip) × (z ≡ v.Ip a)
ip_value (v.Ip a) h = (a, refl)
ip_value _ h = absurd cc

entity_value : (kind : EntityKind) (z : Value-F Value) → IsTrue (conform.is_entity_of kind z) → (u : Uid) × (z ≡ v.Entity u) × (u.type_name ≡ kind.name)
entity_value kind (v.Entity u) h = (u, refl, (bytes_eq-Decides u.type_name kind.name).0 (and_parts (bytes_eq u.type_name kind.name) (is_choice kind.choices u.id) h).0)
entity_value kind _ h = absurd cc

set_value : (test : Test) (z : Value-F Value) → IsTrue (conform.is_set_of test z) → (xs : List Value) × (z ≡ v.Set xs) × IsTrue (list_all test xs)
set_value test (v.Set xs) h = (xs, refl, h)
set_value test _ h = absurd cc

-- ---- Booleans

-- the truth value is of the type
abbrev pub Fits : Ty → Bool → Type 0
Fits type b = IsTrue (conforms type (value.Bool b))

pub true_fits : Fits types.True true
true_fits = conforms-roll types.True t.True rolls-True (value.Bool true) ∙ ap (is_truth true) (out_Bool true)

pub false_fits : Fits types.False false
false_fits = conforms-roll types.False t.False rolls-False (value.Bool false) ∙ ap (is_truth false) (out_Bool false)

pub bool_fits : (b : Bool) → Fits types.Bool b
bool_fits b = conforms-roll types.Bool t.Bool rolls-Bool (value.Bool b) ∙ ap conform.is_bool (out_Bool b)

pub truth_fits : (b : Bool) → Fits (truth b) b
truth_fits true = true_fits
truth_fits false = false_fits

fit_true : (y : Ty-F Ty) (b : Bool) → is_true_in y ≡ true → IsTrue (fits y (value.Bool b)) → b ≡ true
fit_true t.True b k h = sym (ap (is_truth true) (out_Bool b)) ∙ h
fit_true _ b k h = absurd cc

fit_false : (y : Ty-F Ty) (b : Bool) → is_false_in y ≡ true → IsTrue (fits y (value.Bool b)) → b ≡ false
fit_false t.False true k h = absurd (let e : false ≡ true = sym (ap (is_truth false) (out_Bool true)) ∙ h in cc)
fit_false t.False false k h = refl
fit_false _ b k h = absurd cc

pub fits-true : (type : Ty) (b : Bool) → is_true type ≡ true → Fits type b → b ≡ true
fits-true type b k h = fit_true (out-Ty type) b k (sym (conforms-out type (value.Bool b)) ∙ h)

pub fits-false : (type : Ty) (b : Bool) → is_false type ≡ true → Fits type b → b ≡ false
fits-false type b k h = fit_false (out-Ty type) b k (sym (conforms-out type (value.Bool b)) ∙ h)

boolean_in : (y : Ty-F Ty) (x : Value) → is_boolean_in y ≡ true → IsTrue (fits y x) → (b : Bool) × (out-Value x ≡ v.Bool b)
boolean_in t.True x k h = (true, truth_in true (out-Value x) h)
boolean_in t.False x k h = (false, truth_in false (out-Value x) h)
boolean_in t.Bool x k h = bool_value (out-Value x) h
boolean_in _ x k h = absurd cc

pub is_Bool : (x : Value) (b : Bool) → out-Value x ≡ v.Bool b → x ≡ value.Bool b
is_Bool x b e = sym (roll-out-Value x) ∙ ap roll-Value e ∙ value_rolls-Bool b

pub boolean : (type : Ty) (x : Value) → is_boolean type ≡ true → IsTrue (conforms type x) → (b : Bool) × (x ≡ value.Bool b)
boolean type x k h = let p = boolean_in (out-Ty type) x k (sym (conforms-out type x) ∙ h) in (p.0, is_Bool x p.0 p.1)

-- ---- values of a world

module _ (w : World) where
  -- a value that has nothing inside it and is no entity names none
  pub of_Bool : (type : Ty) (b : Bool) → Fits type b → IsOf w type (value.Bool b)
  of_Bool type b h = record { conforming = h; stored = every.every_Bool (NamesStoredLevel w.store) b tt }

  pub of_Long : (n : ℤ) → IsOf w types.Long (value.Long n)
  of_Long n = record {
    conforming = conforms-roll types.Long t.Long rolls-Long (value.Long n) ∙ ap conform.is_long (out_Long n);
    stored = every.every_Long (NamesStoredLevel w.store) n tt;
  }

  pub of_String : (text : List ℕ) → IsOf w types.String (value.String text)
  of_String text = record {
    conforming = conforms-roll types.String t.String rolls-String (value.String text) ∙ ap conform.is_string (out_String text);
    stored = every.every_String (NamesStoredLevel w.store) text tt;
  }

  pub of_Decimal : (n : ℤ) → IsOf w types.Decimal (value.Decimal n)
  of_Decimal n = record {
    conforming = conforms-roll types.Decimal t.Decimal rolls-Decimal (value.Decimal n) ∙ ap conform.is_decimal (out_Decimal n);
    stored = every.every_Decimal (NamesStoredLevel w.store) n tt;
  }

  pub of_Ip : (a : Ip) → IsOf w types.Ip (value.Ip a)
  of_Ip a = record {
    conforming = conforms-roll types.Ip t.Ip rolls-Ip (value.Ip a) ∙ ap conform.is_ip (out_Ip a);
    stored = every.every_Ip (NamesStoredLevel w.store) a tt;
  }

  pub of_Entity : (kind : EntityKind) (u : Uid) → u.type_name ≡ kind.name → IsTrue (is_choice kind.choices u.id) → IsStored w.store u → IsOf w (types.Entity kind) (value.Entity u)
  of_Entity kind u is chosen h = record {
    conforming = conforms-roll (types.Entity kind) (t.Entity kind) (rolls-Entity kind) (value.Entity u) ∙ ap (conform.is_entity_of kind) (out_Entity u) ∙ and_from _ _ ((bytes_eq-Decides u.type_name kind.name).1 is) chosen;
    stored = every.every_Entity (NamesStoredLevel w.store) u h;
  }

  string_at : (y : Ty-F Ty) (x : Value) → is_string_in y ≡ true → IsTrue (fits y x) → (text : List ℕ) × (out-Value x ≡ v.String text)
  string_at t.String x k h = string_value (out-Value x) h
  string_at _ x k h = absurd cc

  pub string_of : (type : Ty) (x : Value) → is_string type ≡ true → IsOf w type x → (text : List ℕ) × (x ≡ value.String text)
  string_of type x k h = let p = string_at (out-Ty type) x k (sym (conforms-out type x) ∙ h.conforming) in (p.0, sym (roll-out-Value x) ∙ ap roll-Value p.1 ∙ value_rolls-String p.0)

  -- ---- operands of a kind

  module _ {B : Type 0} (Q : B → Type 0) where
    long_found : (y : Ty-F Ty) (x : Value) (f : ℤ → Result B EvalError) → is_long_in y ≡ true → IsTrue (fits y x) → ((n : ℤ) → OrOverflows Q (f n)) → OrOverflows Q (as_long x >>= f)
    long_found t.Long x f k h g = let p = long_value (out-Value x) h in subst (λ (z : Value-F Value). OrOverflows Q (long_in z >>= f)) (sym p.1) (g p.0)
    long_found _ x f k h g = absurd cc

    pub long : (type : Ty) (x : Value) (f : ℤ → Result B EvalError) → is_long type ≡ true → IsOf w type x → ((n : ℤ) → OrOverflows Q (f n)) → OrOverflows Q (as_long x >>= f)
    long type x f k h g = long_found (out-Ty type) x f k (sym (conforms-out type x) ∙ h.conforming) g

    decimal_found : (y : Ty-F Ty) (x : Value) (f : ℤ → Result B EvalError) → is_decimal_in y ≡ true → IsTrue (fits y x) → ((n : ℤ) → OrOverflows Q (f n)) → OrOverflows Q (as_decimal x >>= f)
    decimal_found t.Decimal x f k h g = let p = decimal_value (out-Value x) h in subst (λ (z : Value-F Value). OrOverflows Q (decimal_in z >>= f)) (sym p.1) (g p.0)
    decimal_found _ x f k h g = absurd cc

    pub decimal : (type : Ty) (x : Value) (f : ℤ → Result B EvalError) → is_decimal type ≡ true → IsOf w type x → ((n : ℤ) → OrOverflows Q (f n)) → OrOverflows Q (as_decimal x >>= f)
    decimal type x f k h g = decimal_found (out-Ty type) x f k (sym (conforms-out type x) ∙ h.conforming) g

    address_found : (y : Ty-F Ty) (x : Value) (f : Ip → Result B EvalError) → is_ip_in y ≡ true → IsTrue (fits y x) → ((a : Ip) → OrOverflows Q (f a)) → OrOverflows Q (as_address x >>= f)
    address_found t.Ip x f k h g = let p = ip_value (out-Value x) h in subst (λ (z : Value-F Value). OrOverflows Q (address_in z >>= f)) (sym p.1) (g p.0)
    address_found _ x f k h g = absurd cc

    pub address : (type : Ty) (x : Value) (f : Ip → Result B EvalError) → is_ip type ≡ true → IsOf w type x → ((a : Ip) → OrOverflows Q (f a)) → OrOverflows Q (as_address x >>= f)
    address type x f k h g = address_found (out-Ty type) x f k (sym (conforms-out type x) ∙ h.conforming) g

  -- an entity of a type
  pub record IsEntityOf (name : List ℕ) (x : Value) (u : Uid) : Type 0 where
    pub entity : x ≡ value.Entity u
    pub named : u.type_name ≡ name
    pub stored : IsStored w.store u

  entity_at : (name : List ℕ) (y : Ty-F Ty) (x : Value) → entity_name_in y ≡ Some name → IsTrue (fits y x) → (u : Uid) × (out-Value x ≡ v.Entity u) × (u.type_name ≡ name)
  entity_at name (t.Entity n) x k h = let same : n.name ≡ name = cc in let p = entity_value n (out-Value x) h in (p.0, p.1, p.2 ∙ same)
  entity_at name _ x k h = absurd cc

  pub entity_of : (name : List ℕ) (type : Ty) (x : Value) → entity_name type ≡ Some name → IsOf w type x → (u : Uid) × IsEntityOf name x u
  entity_of name type x k h =
      let p = entity_at name (out-Ty type) x k (sym (conforms-out type x) ∙ h.conforming) in (
        p.0,
        record {
          entity = sym (roll-out-Value x) ∙ ap roll-Value p.1 ∙ value_rolls-Entity p.0;
          named = p.2;
          stored = subst (NamesStoredLevel w.store) p.1 (every.every_level (NamesStoredLevel w.store) x h.stored);
        },
      )

  pub as_entity-is : (x : Value) (u : Uid) → x ≡ value.Entity u → as_entity x ≡ Ok u
  as_entity-is x u e = ap entity_in (ap out-Value e ∙ out_Entity u)

  -- a set of members of a type
  pub record IsSetWith (type : Ty) (x : Value) (xs : List Value) : Type 0 where
    pub set : x ≡ value.Set xs
    pub members : AllByRecursion (IsOf w type) xs

  members_of : (type : Ty) (xs : List Value) → IsTrue (list_all (conforms type) xs) → AllByRecursion (NamesStored w.store) xs → AllByRecursion (IsOf w type) xs
  members_of type [] h k = tt
  members_of type (x ∷ xs) h k = let p = and_parts (conforms type x) (list_all (conforms type) xs) h in (record { conforming = p.0; stored = k.0 }, members_of type xs p.1 k.1)

  set_at : (type : Ty) (y : Ty-F Ty) (x : Value) → member_in y ≡ Some type → IsTrue (fits y x) → (xs : List Value) × (out-Value x ≡ v.Set xs) × IsTrue (list_all (conforms type) xs)
  set_at type (t.Set m) x k h = let same : m ≡ type = cc in let p = set_value (conforms m) (out-Value x) h in (p.0, p.1, subst (λ u. IsTrue (list_all (conforms u) p.0)) same p.2)
  set_at type _ x k h = absurd cc

  pub set_of : (type set_type : Ty) (x : Value) → member set_type ≡ Some type → IsOf w set_type x → (xs : List Value) × IsSetWith type x xs
  set_of type set_type x k h =
      let p = set_at type (out-Ty set_type) x k (sym (conforms-out set_type x) ∙ h.conforming) in
      let is : x ≡ value.Set p.0 = sym (roll-out-Value x) ∙ ap roll-Value p.1 ∙ value_rolls-Set p.0 in
      (p.0, record { set = is; members = members_of type p.0 p.2 (every.every_members (NamesStoredLevel w.store) p.0 (subst (NamesStored w.store) is h.stored)) })

  pub as_set-is : (x : Value) (xs : List Value) → x ≡ value.Set xs → as_set x ≡ Ok xs
  as_set-is x xs e = ap set_in (ap out-Value e ∙ out_Set xs)

  module _ {B : Type 0} (Q : B → Type 0) where
    pub entity_asked : (name : List ℕ) (type : Ty) (x : Value) (f : Uid → Result B EvalError) → entity_name type ≡ Some name → IsOf w type x → ((u : Uid) → IsEntityOf name x u → OrOverflows Q (f u)) → OrOverflows Q (as_entity x >>= f)
    entity_asked name type x f k h g =
        let p = entity_of name type x k h in
        subst (λ (o : Result Uid EvalError). OrOverflows Q (o >>= f)) (sym (as_entity-is x p.0 p.1.entity)) (g p.0 p.1)

    pub set_asked : (type set_type : Ty) (x : Value) (f : List Value → Result B EvalError) → member set_type ≡ Some type → IsOf w set_type x → ((xs : List Value) → IsSetWith type x xs → OrOverflows Q (f xs)) → OrOverflows Q (as_set x >>= f)
    set_asked type set_type x f k h g =
        let p = set_of type set_type x k h in
        subst (λ (o : Result (List Value) EvalError). OrOverflows Q (o >>= f)) (sym (as_set-is x p.0 p.1.set)) (g p.0 p.1)

    pub text : (type : Ty) (x : Value) (f : List ℕ → Result B EvalError) → is_string type ≡ true → IsOf w type x → ((text : List ℕ) → OrOverflows Q (f text)) → OrOverflows Q (as_text x >>= f)
    text type x f k h g =
        let p = string_of type x k h in
        subst (λ (o : Result (List ℕ) EvalError). OrOverflows Q (o >>= f)) (sym (ap as_text p.1 ∙ ap text_in (out_String p.0))) (g p.0)
