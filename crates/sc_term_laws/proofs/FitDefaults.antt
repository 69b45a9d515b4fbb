-- The default of a lawful sort is of the sort.
use Rattle.std.proofs.Common.{◌≡◌, ◌++◌, inl, inr, ℕ, ℤ, FitsSigned, List, [], ◌∷◌, map, Bool, true, false, pos, arith, Option, None, Contains, refl, sym, ap, ◌∙◌, subst}
use Rattle.std.specs.List.{AllByRecursion, flat_map}
use Rattle.std.specs.Int.{w64}
use Rattle.std.specs.List.Sorted.{IsStrictlySortedBy}
use Rattle.std.specs.Str.{IsUtf8}
use Rattle.std.specs.Cmp.Derive.{both_true}
use Rattle.std.proofs.lemmas.Slice.Eq.{bytes_eq-Decides}
use Rattle.sc_ip.specs.declared.ip.Ip.{Ip}
use Rattle.sc_ip.specs.declared.ip.Ip.TheVariants.{V4}
use Rattle.sc_ip.specs.Addresses.{IsIp}
use Rattle.sc_lists.proofs.ListLaws.{contains_first}
use Rattle.sc_names.specs.declared.uid.Uid.{Uid}
use Rattle.sc_schema.specs.Declarations.{Declarations}
use Rattle.sc_schema.specs.Lawful.{IsLawful}
use Rattle.sc_schema.proofs.LawfulLaws.{ascii_text}
use Rattle.sc_sorts.specs.declared.sort.Sort.{Sort, Sort-F, roll-Sort, map-Sort, ind-Sort}
use Rattle.sc_sorts.specs.declared.sort.Sort.TheVariants as sort
use Rattle.sc_sorts.specs.declared.sort.Sort.TheVariants.{rolls-Bool, rolls-Long, rolls-String, rolls-Decimal, rolls-Ip, rolls-Entity, rolls-Set, rolls-Record, rolls-Option}
use Rattle.sc_sorts.specs.declared.sort.Sort.TheOpen as s
use Rattle.sc_sorts.specs.Defaults.{is_option, default_field, default_of, default_uid}
use Rattle.sc_sorts.specs.Inside.{SortField, SortFields, held_in}
use Rattle.sc_sorts.proofs.DefaultLaws as default
use Rattle.sc_sorts.proofs.DefaultLaws.{default_fields}
use Rattle.sc_sorts.proofs.EveryLaws.{in_Entity, in_Record, in_Option}
use Rattle.sc_sorts.proofs.OutLaws.{out_Option}
use Rattle.sc_values.specs.declared.value.Value.{Value}
use Rattle.sc_values.specs.declared.value.Value.TheVariants as value
use Rattle.sc_values.specs.Proper.{IsProperLevel, IsUidText}
use Rattle.sc_values.specs.Order.{value_cmp}
use Rattle.sc_values.proofs.EveryLaws as every
use Rattle.sc_values.proofs.OutLaws as out
use Rattle.sc_world.specs.Choices.{is_choice}
use Rattle.sc_world.specs.Conforms.{is_string, is_decimal, is_ip, is_entity_of}
use Rattle.sc_world.specs.Stores.{Entities}
use Rattle.sc_terms.specs.Values.{Val, it, field_of, default_by, default_val}
use Rattle.sc_term_laws.specs.Fitting.{kind_listed, fits, IsOfSort, IsKnown, NamesKnownLevel, Fits, as_value, as_option}
use Rattle.sc_term_laws.specs.LawfulSorts.{IsSortLevel, IsSortOf}
use Rattle.sc_term_laws.proofs.ChoicesLaws.{ids_in, listed_of, listed_itself, listed_choice}
use Rattle.sc_term_laws.proofs.FitVals.{fits_at, at, bool_of, long_of}
use Rattle.sc_term_laws.proofs.FitSets.{set_of}
use Rattle.sc_term_laws.proofs.FitRecords.{HaveVals, no_val, with_val, record_of, fits_held}
use Rattle.sc_term_laws.proofs.SortsLawful.{declared_text, listed_declared}
use Rattle.sc_term_laws.proofs.TestLaws.{option_told}

pub none_ascends : IsStrictlySortedBy value_cmp []
unfolding IsStrictlySortedBy
none_ascends = tt

module _ (d : Declarations) (es : Entities) where
  abbrev Of : Sort → Value → Type 0
  Of = IsOfSort d es

  abbrev FitsVal : Sort → Val → Type 0
  FitsVal = Fits d es

  -- an option's default is absent
  pub default_fits : (k : Sort) → Of k (default_of k) → FitsVal k (default_val k)
  default_fits k h = by (is_option k) refl
    where
      by : (b : Bool) → is_option k ≡ b → FitsVal k (default_by b (default_of k))
      by true e = as_option None e tt
      by false e = as_value (default_of k) e h

  -- ---- by kind

  pub string_of : (text : List ℕ) → IsUtf8 text → Of sort.String (value.String text)
  string_of text h = record {
    of_sort = at sort.String _ (fits_at sort.String s.String rolls-String) (value.String text) (ap is_string (out.out_String text));
    proper = every.every_String IsProperLevel text h;
    named = every.every_String (NamesKnownLevel d es) text tt;
  }

  pub decimal_of : (n : ℤ) → FitsSigned w64 n → Of sort.Decimal (value.Decimal n)
  decimal_of n h = record {
    of_sort = at sort.Decimal _ (fits_at sort.Decimal s.Decimal rolls-Decimal) (value.Decimal n) (ap is_decimal (out.out_Decimal n));
    proper = every.every_Decimal IsProperLevel n h;
    named = every.every_Decimal (NamesKnownLevel d es) n tt;
  }

  pub address_of : (ip : Ip) → IsIp ip → Of sort.Ip (value.Ip ip)
  address_of ip h = record {
    of_sort = at sort.Ip _ (fits_at sort.Ip s.Ip rolls-Ip) (value.Ip ip) (ap is_ip (out.out_Ip ip));
    proper = every.every_Ip IsProperLevel ip h;
    named = every.every_Ip (NamesKnownLevel d es) ip tt;
  }

  pub entity_of : (name : List ℕ) (us : List Uid) (u : Uid) → u.type_name ≡ name → is_choice (ids_in us) u.id ≡ true → IsUidText u → IsKnown d es u → Of (sort.Entity name us) (value.Entity u)
  entity_of name us u e chosen text known = record {
    of_sort = at (sort.Entity name us) _ (fits_at (sort.Entity name us) (s.Entity name us) (rolls-Entity name us)) (value.Entity u)
        (ap (is_entity_of (kind_listed name us)) (out.out_Entity u) ∙ both_true ((bytes_eq-Decides u.type_name name).1 e) chosen);
    proper = every.every_Entity IsProperLevel u text;
    named = every.every_Entity (NamesKnownLevel d es) u known;
  }

  module _ (lawful : IsLawful d) where
    -- the first of those that a type lists, or the entity with no id
    default_entity : (name : List ℕ) (us : List Uid) → IsSortLevel d (s.Entity name us) → Of (sort.Entity name us) (value.Entity (default_uid name us))
    default_entity name [] h =
        entity_of name [] (default_uid name []) refl refl (declared_text d lawful name h.0, ascii_text [] refl) (inr (inl (ap (default_uid name) h.1)))
    default_entity name (u ∷ us) h =
        let there = subst (λ (vs : List Uid). Contains vs u) h.1 (contains_first u us) in
        let listed = listed_itself d name u there in
        entity_of name (u ∷ us) u (listed_of d name u there).named (listed_choice (u ∷ us) u (contains_first u us)) (listed_declared d lawful u listed).text (inr (inr listed))

    -- ---- records

    abbrev defaults : SortFields → List (List ℕ × Val)
    defaults fs = map (λ (f : SortField). (f.0, default_val f.1)) fs

    field_is : (name : List ℕ) (b : Bool) (x : Value) → field_of (name, default_by b x) ≡ default_field name b x
    field_is name true x = refl
    field_is name false x = refl

    fields_are : (fs : SortFields) → flat_map field_of (defaults fs) ≡ default_fields fs
    fields_are [] = refl
    fields_are (f ∷ fs) =
        let first = field_is f.0 (is_option f.1) (default_of f.1) in
        let rest = fields_are fs in
        λ i. first i ++ rest i

    abbrev IsDefaulted : Sort → Type 0
    IsDefaulted k = IsSortOf d k → Of k (default_of k)

    abbrev Known : Type 0
    Known = (k : Sort) × IsDefaulted k

    abbrev forget : List ℕ × Known → SortField
    forget e = (e.0, e.1.0)

    vals_made : (ks : List (List ℕ × Known)) → AllByRecursion (λ (f : SortField). IsSortOf d f.1) (map forget ks) → HaveVals d es (map forget ks) (defaults (map forget ks))
    vals_made [] h = no_val
    vals_made (k ∷ ks) h =
        with_val k.0 k.1.0 (default_val k.1.0) (map forget ks) (defaults (map forget ks)) (default_fits k.1.0 (k.1.1 h.0)) (vals_made ks h.1)

    to : (k : Sort) (x : Value) → default_of k ≡ x → Of k x → Of k (default_of k)
    to k x e h = subst (Of k) (sym e) h

    option_of : (k : Sort) (x : Value) → Of k x → Of (sort.Option k) x
    option_of k x h = record {
      of_sort = fits_held (sort.Option k) x (option_told (sort.Option k) k refl) (ap (λ (z : Sort). fits z x) (ap held_in (out_Option k)) ∙ h.of_sort);
      proper = h.proper;
      named = h.named;
    }

    inner : (y : Sort-F Known) → IsDefaulted (roll-Sort (map-Sort Known Sort (λ e. e.0) y))
    inner s.Bool = subst IsDefaulted (sym rolls-Bool) (λ h. to sort.Bool _ default.default_Bool (bool_of d es false))
    inner s.Long = subst IsDefaulted (sym rolls-Long) (λ h. to sort.Long _ default.default_Long (long_of d es (pos 0) (omega arith)))
    inner s.String = subst IsDefaulted (sym rolls-String) (λ h. to sort.String _ default.default_String (string_of [] (ascii_text [] refl)))
    inner s.Decimal = subst IsDefaulted (sym rolls-Decimal) (λ h. to sort.Decimal _ default.default_Decimal (decimal_of (pos 0) (omega arith)))
    inner s.Ip = subst IsDefaulted (sym rolls-Ip) (λ h. to sort.Ip _ default.default_Ip (address_of (V4 0 32) (omega arith, omega arith)))
    inner (s.Entity name us) =
        subst IsDefaulted (sym (rolls-Entity name us))
        (λ h. to (sort.Entity name us) _ (default.default_Entity name us) (default_entity name us ((in_Entity (IsSortLevel d) name us).0 h)))
    inner (s.Set e) =
        subst IsDefaulted (sym (rolls-Set e.0)) (λ h. to (sort.Set e.0) _ (default.default_Set e.0) (set_of d es e.0 [] none_ascends tt))
    inner (s.Record ks) =
        let fs = map forget ks in
        subst IsDefaulted (sym (rolls-Record fs))
        (λ h.
        let p = (in_Record (IsSortLevel d) fs).0 h in
        to (sort.Record fs) _ (default.default_Record fs)
        (subst (λ (r : List (List ℕ × Value)). Of (sort.Record fs) (value.Record r)) (fields_are fs) (record_of d es fs (defaults fs) p.0 (vals_made ks p.1))))
    inner (s.Option e) =
        subst IsDefaulted (sym (rolls-Option e.0))
        (λ h. to (sort.Option e.0) _ (default.default_Option e.0) (option_of e.0 (default_of e.0) (e.1 ((in_Option (IsSortLevel d) e.0).0 h).1)))

    pub default_is : (k : Sort) → IsSortOf d k → Of k (default_of k)
    default_is = ind-Sort IsDefaulted (λ x y e. subst (λ (z : Sort-F Sort). IsDefaulted (roll-Sort z)) e (inner y))
