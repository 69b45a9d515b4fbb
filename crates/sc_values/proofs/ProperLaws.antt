-- When a value of each kind is proper, in the words in which its parts are tested.
use Rattle.std.proofs.Common.{◌≡◌, ◌↔◌, ℕ, ℤ, List, [], ◌∷◌, Bool, true, false, ◌&&◌, All, IsTrue, FitsSigned, refl, sym, subst}
use Rattle.std.specs.List.{AllByRecursion}
use Rattle.std.specs.List.Sorted.{IsStrictlySortedBy}
use Rattle.std.specs.Map.{keys_of}
use Rattle.std.specs.Int.{w64}
use Rattle.std.specs.Str.{IsUtf8}
use Rattle.std.proofs.lemmas.List.Elements.{All-from_recursion, recursion_from_All}
use Rattle.sc_names.specs.declared.uid.Uid.{Uid}
use Rattle.sc_names.specs.Uids.{text_cmp}
use Rattle.sc_ip.specs.Addresses.{IsIp}
use Rattle.sc_ip.specs.declared.ip.Ip.{Ip}
use Rattle.sc_values.specs.declared.value.Value.{Value}
use Rattle.sc_values.specs.declared.value.Value.TheVariants as value
use Rattle.sc_values.specs.Order.{value_cmp}
use Rattle.sc_values.specs.Records.{Fields}
use Rattle.sc_values.specs.Proper.{IsUidText, HasTextName, IsProperLevel, IsProper, IsProperRecord}
use Rattle.sc_values.proofs.LevelLaws as level

-- a test of one fact tests another that holds exactly where it does
tests_also : {P Q : Type 0} (b : Bool) → P ↔ Q → (IsTrue b ↔ Q) → IsTrue b ↔ P
tests_also b same test = (λ h. same.1 (test.0 h), λ p. test.1 (same.0 p))

-- and of the same value by another name
tests_value : {Q : Type 0} (v x : Value) (b : Bool) → v ≡ x → IsProper x ↔ Q → (IsTrue b ↔ Q) → IsTrue b ↔ IsProper v
tests_value v x b is same test = subst (λ (z : Value). IsTrue b ↔ IsProper z) (sym is) (tests_also b same test)

both_tests : {P Q : Type 0} (a b : Bool) → (IsTrue a ↔ P) → (IsTrue b ↔ Q) → IsTrue (a && b) ↔ (P × Q)
both_tests true b p q = (λ h. (p.0 refl, q.0 h), λ h. q.1 h.1)
both_tests false b p q = (λ h. cc, λ h. p.1 h.0)

each : {X : Type 0} (P : X → Type 0) (xs : List X) → AllByRecursion P xs ↔ All P xs
each P xs = (All-from_recursion P xs, recursion_from_All P xs)

pub proper_Bool : (v : Value) (b : Bool) → v ≡ value.Bool b → IsTrue true ↔ IsProper v
proper_Bool v b is = (λ h. subst IsProper (sym is) ((level.in_Bool IsProperLevel b).1 tt), λ p. refl)

pub proper_Long : (v : Value) (n : ℤ) (b : Bool) → v ≡ value.Long n → (IsTrue b ↔ FitsSigned w64 n) → IsTrue b ↔ IsProper v
proper_Long v n b is test = tests_value v (value.Long n) b is (level.in_Long IsProperLevel n) test

pub proper_String : (v : Value) (text : List ℕ) (b : Bool) → v ≡ value.String text → (IsTrue b ↔ IsUtf8 text) → IsTrue b ↔ IsProper v
proper_String v text b is test = tests_value v (value.String text) b is (level.in_String IsProperLevel text) test

pub proper_Entity : (v : Value) (u : Uid) (b : Bool) → v ≡ value.Entity u → (IsTrue b ↔ IsUidText u) → IsTrue b ↔ IsProper v
proper_Entity v u b is test = tests_value v (value.Entity u) b is (level.in_Entity IsProperLevel u) test

pub proper_Decimal : (v : Value) (n : ℤ) (b : Bool) → v ≡ value.Decimal n → (IsTrue b ↔ FitsSigned w64 n) → IsTrue b ↔ IsProper v
proper_Decimal v n b is test = tests_value v (value.Decimal n) b is (level.in_Decimal IsProperLevel n) test

pub proper_Ip : (v : Value) (ip : Ip) (b : Bool) → v ≡ value.Ip ip → (IsTrue b ↔ IsIp ip) → IsTrue b ↔ IsProper v
proper_Ip v ip b is test = tests_value v (value.Ip ip) b is (level.in_Ip IsProperLevel ip) test

set_parts : (members : List Value) → IsProper (value.Set members) ↔ (IsStrictlySortedBy value_cmp members × All IsProper members)
set_parts members = (
  λ p. let parts = (level.in_Set IsProperLevel members).0 p in (parts.0, (each IsProper members).0 parts.1),
  λ parts. (level.in_Set IsProperLevel members).1 (parts.0, (each IsProper members).1 parts.1),
)

pub proper_Set : (v : Value) (members : List Value) (b : Bool) → v ≡ value.Set members → (IsTrue b ↔ (IsStrictlySortedBy value_cmp members × All IsProper members)) → IsTrue b ↔ IsProper v
proper_Set v members b is test = tests_value v (value.Set members) b is (set_parts members) test

-- each name is a text
names_are_texts : (fields : Fields) → AllByRecursion IsUtf8 (keys_of fields) ↔ AllByRecursion HasTextName fields
unfolding HasTextName
names_are_texts [] = (λ h. tt, λ h. tt)
names_are_texts (f ∷ fields) = (
  λ h. (h.0, (names_are_texts fields).0 h.1),
  λ h. (h.0, (names_are_texts fields).1 h.1),
)

abbrev pub HasNames : Fields → Type 0
HasNames fields = IsStrictlySortedBy text_cmp (keys_of fields) × All HasTextName fields

abbrev pub HasValues : Fields → Type 0
HasValues fields = All (λ (f : List ℕ × Value). IsProper f.1) fields

record_parts : (fields : Fields) → IsProperRecord fields ↔ (HasNames fields × HasValues fields)
record_parts fields = (
  λ p.
      let parts = (level.in_Record IsProperLevel fields).0 p in
      let texts = (each HasTextName fields).0 ((names_are_texts fields).0 parts.0.1) in
      ((parts.0.0, texts), (each (λ (f : List ℕ × Value). IsProper f.1) fields).0 parts.1),
  λ parts.
      let texts = (names_are_texts fields).1 ((each HasTextName fields).1 parts.0.1) in
      (level.in_Record IsProperLevel fields).1 ((parts.0.0, texts), (each (λ (f : List ℕ × Value). IsProper f.1) fields).1 parts.1),
)

-- the answer of two tests, the second asked where the first holds
pub proper_fields : (fields : Fields) (a b : Bool) → (IsTrue a ↔ HasNames fields) → (IsTrue b ↔ HasValues fields) → IsTrue (a && b) ↔ IsProperRecord fields
proper_fields fields a b names values = tests_also (a && b) (record_parts fields) (both_tests a b names values)
