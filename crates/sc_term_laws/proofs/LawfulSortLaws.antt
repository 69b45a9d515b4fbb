-- Which sorts are lawful, kind by kind.
use Rattle.std.proofs.lemmas.Bool.{false≢true}
use Rattle.std.proofs.Common.{◌≡◌, ◌↔◌, ◌<◌, length, get_or, ℕ, List, [], ◌∷◌, Bool, true, false, Result, IsTrue, IfOk, All, refl, sym, ap, ◌∙◌, subst}
use Rattle.std.specs.List.{AllByRecursion}
use Rattle.std.specs.List.Sorted.{IsStrictlySortedBy}
use Rattle.std.specs.Map.{keys_of}
use Rattle.std.specs.Str.{IsUtf8}
use Rattle.std.proofs.lemmas.List.Elements.{All-from_recursion, recursion_from_All}
use Rattle.sc_names.specs.Uids.{text_cmp}
use Rattle.sc_names.specs.declared.uid.Uid.{Uid}
use Rattle.sc_schema.specs.Declarations.{Declarations}
use Rattle.sc_sorts.specs.declared.sort.Sort.{Sort}
use Rattle.sc_sorts.specs.declared.sort.Sort.TheVariants as sort
use Rattle.sc_sorts.specs.Defaults.{is_option}
use Rattle.sc_sorts.specs.Entities.{choices_of, entity_sort}
use Rattle.sc_sorts.specs.Inside.{SortField, SortFields, name_in}
use Rattle.sc_sorts.proofs.EveryLaws.{in_Bool, in_Long, in_String, in_Decimal, in_Ip, in_Entity, in_Set, in_Record, in_Option}
use Rattle.sc_sorts.proofs.OutLaws.{out_Entity}
use Rattle.sc_term_laws.specs.LawfulSorts.{AreNames, IsNamed, IsDeclared, IsSortLevel, IsSortOf, IsHeldSort}
use Rattle.sc_term_laws.specs.Tests.{is_entity_sort, name_of}
use Rattle.sc_term_laws.proofs.TestLaws.{entity_is, entity_told}
use Rattle.sc_term_laws.proofs.ToldLaws.{by_fact}

-- ---- names

names_are_texts : {V : Type 0} (fs : List (List ℕ × V)) → AllByRecursion IsUtf8 (keys_of fs) ↔ AllByRecursion IsNamed fs
unfolding IsNamed
names_are_texts [] = (λ h. tt, λ h. tt)
names_are_texts (f ∷ fs) = let rest = names_are_texts fs in (λ h. (h.0, rest.0 h.1), λ h. (h.0, rest.1 h.1))

pub texts_told : {V : Type 0} (fs : List (List ℕ × V)) (b : Bool) → (IsTrue b ↔ All IsNamed fs) → IsTrue b ↔ AllByRecursion IsUtf8 (keys_of fs)
texts_told fs b told = (
  λ h. (names_are_texts fs).1 (recursion_from_All IsNamed fs (told.0 h)),
  λ texts. told.1 (All-from_recursion IsNamed fs ((names_are_texts fs).0 texts)),
)

pub names_told : {V : Type 0} (fs : List (List ℕ × V)) (a b : Bool) → (IsTrue a ↔ IsStrictlySortedBy text_cmp (keys_of fs)) → (IsTrue b ↔ All IsNamed fs) → (a ≡ true → IsTrue b ↔ AreNames (keys_of fs)) × (a ≡ false → IsTrue a ↔ AreNames (keys_of fs))
names_told fs a b ascend texts =
    let told = texts_told fs b texts in (
      λ e. (λ h. (ascend.0 e, told.0 h), λ both. told.1 both.1),
      λ e. (λ h. absurd cc, λ both. ascend.1 both.0),
    )

-- ---- sorts

module _ (d : Declarations) where
  pub bool_lawful : (v : Sort) → v ≡ sort.Bool → IsTrue true ↔ IsSortOf d v
  bool_lawful v is = (λ h. subst (IsSortOf d) (sym is) ((in_Bool (IsSortLevel d)).1 tt), λ h. refl)

  pub long_lawful : (v : Sort) → v ≡ sort.Long → IsTrue true ↔ IsSortOf d v
  long_lawful v is = (λ h. subst (IsSortOf d) (sym is) ((in_Long (IsSortLevel d)).1 tt), λ h. refl)

  pub string_lawful : (v : Sort) → v ≡ sort.String → IsTrue true ↔ IsSortOf d v
  string_lawful v is = (λ h. subst (IsSortOf d) (sym is) ((in_String (IsSortLevel d)).1 tt), λ h. refl)

  pub decimal_lawful : (v : Sort) → v ≡ sort.Decimal → IsTrue true ↔ IsSortOf d v
  decimal_lawful v is = (λ h. subst (IsSortOf d) (sym is) ((in_Decimal (IsSortLevel d)).1 tt), λ h. refl)

  pub ip_lawful : (v : Sort) → v ≡ sort.Ip → IsTrue true ↔ IsSortOf d v
  ip_lawful v is = (λ h. subst (IsSortOf d) (sym is) ((in_Ip (IsSortLevel d)).1 tt), λ h. refl)

  abbrev Told : {E : Type 0} → Result Bool E → Sort → Type 0
  Told r k = IfOk r (λ b. IsTrue b ↔ IsSortOf d k)

  pub set_lawful : {E : Type 0} (r : Result Bool E) (v k j : Sort) → v ≡ sort.Set k → j ≡ k → IfOk r (λ b. IsTrue b ↔ IsHeldSort d j) → Told r v
  set_lawful r v k j is e told =
      let same = in_Set (IsSortLevel d) j in
      subst (Told r) (sym (is ∙ ap sort.Set (sym e))) (by_fact r (same.1, same.0) told)

  pub option_lawful : {E : Type 0} (r : Result Bool E) (v k j : Sort) → v ≡ sort.Option k → j ≡ k → IfOk r (λ b. IsTrue b ↔ IsHeldSort d j) → Told r v
  option_lawful r v k j is e told =
      let same = in_Option (IsSortLevel d) j in
      subst (Told r) (sym (is ∙ ap sort.Option (sym e))) (by_fact r (same.1, same.0) told)

  abbrev AreLawful : SortFields → Type 0
  AreLawful fs = All (λ (f : SortField). IsSortOf d f.1) fs

  record_is : (fs : SortFields) → (AreNames (keys_of fs) × AreLawful fs) ↔ IsSortOf d (sort.Record fs)
  record_is fs = (
    λ h. (in_Record (IsSortLevel d) fs).1 (h.0, recursion_from_All (λ (f : SortField). IsSortOf d f.1) fs h.1),
    λ h. let p = (in_Record (IsSortLevel d) fs).0 h in (p.0, All-from_recursion (λ (f : SortField). IsSortOf d f.1) fs p.1),
  )

  pub record_lawful : {E : Type 0} (r : Result Bool E) (v : Sort) (fs : SortFields) → v ≡ sort.Record fs → IfOk r (λ b. IsTrue b ↔ (AreNames (keys_of fs) × AreLawful fs)) → Told r v
  record_lawful r v fs is told = subst (Told r) (sym is) (by_fact r (record_is fs) told)

  entity_of : (v : Sort) (name : List ℕ) (us : List Uid) → v ≡ sort.Entity name us → (IsDeclared d name × IsTrue (is_entity_sort d v)) ↔ IsSortOf d v
  entity_of v name us is = (
    λ h.
        let named : name_of v ≡ name = ap name_of is ∙ ap name_in (out_Entity name us) in
        let same : v ≡ entity_sort d name = entity_is d v h.1 ∙ ap (entity_sort d) named in
        subst (IsSortOf d) (sym same) ((in_Entity (IsSortLevel d) name (choices_of d name)).1 (h.0, refl)),
    λ h.
        let p = (in_Entity (IsSortLevel d) name us).0 (subst (IsSortOf d) is h) in
        (p.0, entity_told d v name (is ∙ ap (sort.Entity name) p.1)),
  )

  pub entity_lawful : {E : Type 0} (r : Result Bool E) (v : Sort) (name : List ℕ) (us : List Uid) → v ≡ sort.Entity name us
      → IfOk r (λ b. IsTrue b ↔ (IsDeclared d name × IsTrue (is_entity_sort d v))) → Told r v
  entity_lawful r v name us is told = by_fact r (entity_of v name us is) told

  -- ---- what sets and options hold

  pub held_fails : (k : Sort) (t : Bool) → t ≡ is_option k → t ≡ true → IsTrue false ↔ IsHeldSort d k
  held_fails k t is e = (λ h. absurd cc, λ h. let f : true ≡ false = sym e ∙ is ∙ h.0 in cc)

  pub held_told : (k : Sort) (t b : Bool) → t ≡ is_option k → t ≡ false → (IsTrue b ↔ IsSortOf d k) → IsTrue b ↔ IsHeldSort d k
  held_told k t b is e told = (λ h. (sym is ∙ e, told.0 h), λ h. told.1 h.1)

  -- ---- fields of which one isn't lawful

  pub field_fails : (fs : SortFields) (i : ℕ) (f : SortField) (b : Bool) → f ≡ get_or fs i f → i < length fs → (IsTrue b ↔ IsSortOf d f.1) → b ≡ false → IsTrue false ↔ AreLawful fs
  field_fails fs i f b is within told e = (
    λ h. absurd cc,
    λ all. absurd (false≢true (sym e ∙ told.1 (subst (λ (g : SortField). IsSortOf d g.1) (sym is) (all i f within)))),
  )
