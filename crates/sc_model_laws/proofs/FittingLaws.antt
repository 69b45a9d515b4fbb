-- The value that a model gives a closed term fits the term's sort.
use Rattle.std.proofs.Common.{◌≡◌, ◌&&◌, inl, inr, cond, ℕ, Bool, true, false, List, [], ◌∷◌, map, flat_map, Some, None, refl, sym, ap, ◌∙◌, subst, Option, unwrap_or}
use Rattle.std.specs.Int.{w64}
use Rattle.std.specs.List.{AllByRecursion}
use Rattle.std.specs.Str.{IsUtf8}
use Rattle.std.proofs.lemmas.List.Folds.{flat_map-map}
use Rattle.sc_lists.proofs.MemberLaws.{flat_map-Has, Has-flat_map}
use Rattle.sc_lists.specs.Members.{Has}
use Rattle.std.specs.Cmp.Derive.{both_true}
use Rattle.sc_ip.specs.Addresses.{IsIp}
use Rattle.sc_bits.specs.Addresses.{ip_of}
use Rattle.sc_bits.specs.Blocks.{AreBlockBits}
use Rattle.sc_bits.specs.Bits.{of_bits64}
use Rattle.sc_bits.proofs.IntegerLaws.{fits-of_bits}
use Rattle.sc_names.specs.declared.uid.Uid.{Uid}
use Rattle.sc_values.specs.declared.value.Value.{Value}
use Rattle.sc_values.specs.declared.value.Value.TheVariants as value
use Rattle.sc_values.specs.Records.{Fields}
use Rattle.sc_values.specs.Proper.{IsUidText}
use Rattle.sc_schema.specs.declared.declarations.Env.{Env}
use Rattle.sc_schema.specs.Declarations.{Declarations}
use Rattle.sc_schema.specs.Lawful.{IsLawful}
use Rattle.sc_world.specs.Stores.{Entities}
use Rattle.sc_sorts.specs.declared.sort.Sort.{Sort, Sort-F, roll-Sort, map-Sort, ind-Sort}
use Rattle.sc_sorts.specs.declared.sort.Sort.TheVariants as sort
use Rattle.sc_sorts.specs.declared.sort.Sort.TheVariants.{rolls-Bool, rolls-Long, rolls-String, rolls-Decimal, rolls-Ip, rolls-Entity, rolls-Set, rolls-Record, rolls-Option}
use Rattle.sc_sorts.specs.declared.sort.Sort.TheOpen as s
use Rattle.sc_sorts.specs.Defaults.{is_option, is_option_level}
use Rattle.sc_sorts.specs.Inside.{SortField, SortFields, member_sort}
use Rattle.sc_sorts.proofs.EveryLaws.{in_Entity, in_Set, in_Record, in_Option}
use Rattle.sc_sorts.proofs.OutLaws.{out_Bool, out_Long, out_String, out_Decimal, out_Ip, out_Entity, out_Option}
use Rattle.sc_sorts.specs.declared.node.BinaryOp.TheVariants as binary
use Rattle.sc_terms.specs.Trees.{Tree, two}
use Rattle.sc_terms.specs.TreeSorts.{tree_sort}
use Rattle.sc_terms.specs.Order.{tree_eq}
use Rattle.sc_terms.specs.Folds.{field_term, present_term, held_term}
use Rattle.sc_terms.specs.Values.{Val, it, maybe, value_in, field_of, set_from}
use Rattle.sc_terms.proofs.OrderLaws.{tree_eq-exact, tree_eq-itself}
use Rattle.sc_term_laws.specs.Fitting.{IsOfSort, Fits, as_value, as_option}
use Rattle.sc_term_laws.specs.Judging.{IsTermOf}
use Rattle.sc_term_laws.specs.Judging as judged
use Rattle.sc_term_laws.specs.LawfulSorts.{IsSortLevel, IsSortOf}
use Rattle.sc_term_laws.proofs.DefaultMade.{held_made}
use Rattle.sc_term_laws.proofs.FitDefaults.{string_of, decimal_of, address_of, entity_of}
use Rattle.sc_term_laws.proofs.FitRecords.{HaveVals, no_val, with_val, record_fits}
use Rattle.sc_term_laws.proofs.FitSets.{set_ascends, set_each, set_fits, value_of}
use Rattle.sc_term_laws.proofs.FitVals.{no_option_at, yes_fits, long_fits}
use Rattle.sc_term_laws.proofs.JudgingLaws.{sort_is, member_of, held_of}
use Rattle.sc_term_laws.proofs.MadeLaws.{field_made}
use Rattle.sc_term_laws.proofs.SortsLawful.{declared_text}
use Rattle.sc_rule_laws.specs.Terms.{written}
use Rattle.sc_rule_laws.proofs.WrittenTerms.{written_made}
use Rattle.sc_closure_rules.specs.Closure.{Closed}
use Rattle.sc_closure_rules.specs.Goals.{IsGoal}
use Rattle.sc_closure_rules.proofs.SortLaws.{sort_lawful, found}
use Rattle.sc_model_laws.specs.Assignments.{Assignment, lit}
use Rattle.sc_model_laws.specs.Vals.{Model, member_in, assigned, elements, bits_of, held_by, val_of}
use Rattle.sc_model_laws.specs.Models.{IsModel}
use Rattle.sc_model_laws.proofs.ChosenLaws.{uid_choice}
use Rattle.sc_model_laws.proofs.ClosedLaws.{standing_closed}
use Rattle.sc_model_laws.specs.ValueLaws.{AreNamesIn}
use Rattle.sc_model_laws.proofs.ClosureLaws.{of_part, field_closed, held_closed}
use Rattle.sc_model_laws.proofs.SortedVals.{val_at, entity_val, set_val, fields_at, record_val}

-- each closed term is a term of its sort
abbrev pub AreMade : Declarations → Env → List Uid → Tree → Type 0
AreMade d env literals goal = (x : Tree) → Closed d env goal x → IsTermOf d env literals (tree_sort x) x

-- ---- what is assigned to a set

module _ (m : Assignment) where
  member_by : (c x y : Tree) → Has (member_in m x c) y → (c ≡ two binary.Member y x) × (m (two binary.Member y x) ≡ true)
  member_by (two binary.Member z u) x y h = by (tree_eq u x) (m (two binary.Member z u)) refl refl h where
    by : (b c : Bool) → tree_eq u x ≡ b → m (two binary.Member z u) ≡ c → Has (cond (b && c) (z ∷ []) []) y → (two binary.Member z u ≡ two binary.Member y x) × (m (two binary.Member y x) ≡ true)
    by true true e f (inl is) =
        let whole : two binary.Member z u ≡ two binary.Member y x = λ i. two binary.Member (is i) (tree_eq-exact u x e i) in
        (whole, ap m (sym whole) ∙ f)
    by true true e f (inr other) = absurd other
    by true false e f h = absurd h
    by false c e f h = absurd h
  member_by _ x y h = absurd h

  by_member : (x y : Tree) → m (two binary.Member y x) ≡ true → Has (member_in m x (two binary.Member y x)) y
  by_member x y e = subst (λ (b : Bool). Has (cond b (y ∷ []) []) y) (sym (both_true (tree_eq-itself x) e)) (inl refl)

all_so : {X Y : Type 0} (P : Y → Type 0) (f : X → Y) (xs : List X) → ((x : X) → Has xs x → P (f x)) → AllByRecursion P (map f xs)
all_so P f [] h = tt
all_so P f (x ∷ xs) h = (h x (inl refl), all_so P f xs (λ y k. h y (inr k)))

-- a member of a set is of the sort of its members
member_told : (d : Declarations) (env : Env) (literals : List Uid) (j : Sort) (y x : Tree) → IsTermOf d env literals j (two binary.Member y x)
    → (k : Sort) × (tree_sort y ≡ k) × (tree_sort x ≡ sort.Set k)
member_told d env literals _ _ _ (judged.of_member k y x g h) = (k, sort_is d env literals k y g, sort_is d env literals (sort.Set k) x h)
member_told d env literals _ _ _ (judged.of_arithmetic _ _ _ (judged.of_sum _ i) _ _) = elim i [ ]
member_told d env literals _ _ _ (judged.of_overflow _ _ _ i _ _) = elim i [ ]
member_told d env literals _ _ _ (judged.of_sets _ _ _ _ i _ _) = elim i [ ]
member_told d env literals _ _ _ (judged.of_pick _ _ _ _ i _ _) = elim i [ ]

module _ (d : Declarations) (env : Env) (literals : List Uid) (goal : Tree) (made : AreMade d env literals goal) (m : Model) (model : IsModel d env goal m) where
  pub is_assigned : (x y : Tree) → Has (assigned m x) y → Closed d env goal (two binary.Member y x) × (m.truths (two binary.Member y x) ≡ true)
  is_assigned x y h =
      let c = flat_map-Has (member_in m.truths x) m.closed y h in
      let r = member_by m.truths c.0 x y c.2 in
      (subst (Closed d env goal) r.0 ((model.listed c.0).0 c.1), r.1)

  pub assigned_is : (x y : Tree) → Closed d env goal (two binary.Member y x) → m.truths (two binary.Member y x) ≡ true → Has (assigned m x) y
  assigned_is x y c e =
      Has-flat_map (member_in m.truths x) m.closed (two binary.Member y x) y ((model.listed (two binary.Member y x)).1 c) (by_member m.truths x y e)

  pub member_sorted : (k : Sort) (x y : Tree) → tree_sort x ≡ sort.Set k → Closed d env goal (two binary.Member y x) → tree_sort y ≡ k
  member_sorted k x y e c =
      let r = member_told d env literals (tree_sort (two binary.Member y x)) y x (made (two binary.Member y x) c) in
      r.1 ∙ sym (member_of r.0) ∙ ap member_sort (sym r.2 ∙ e) ∙ member_of k

  pub assigned_sorted : (k : Sort) (x y : Tree) → tree_sort x ≡ sort.Set k → Has (assigned m x) y → Closed d env goal y × (tree_sort y ≡ k)
  assigned_sorted k x y e h =
      let r = is_assigned x y h in
      (of_part d env goal (two binary.Member y x) y r.0 (inl refl), member_sorted k x y e r.0)

  -- and so are the terms of its members
  pub elements_sorted : (k : Sort) (x y : Tree) → tree_sort x ≡ sort.Set k → Closed d env goal x → Has (elements m x) y → Closed d env goal y × (tree_sort y ≡ k)
  elements_sorted k x y e c h = by (written x) refl h where
    by : (o : Option (List Tree)) → written x ≡ o → Has (unwrap_or o (assigned m x)) y → Closed d env goal y × (tree_sort y ≡ k)
    by None w h = assigned_sorted k x y e h
    by (Some us) w h = (
      standing_closed d env goal x y us w c h,
      sort_is d env literals k y (written_made d env literals k x us y (subst (λ (j : Sort). IsTermOf d env literals j x) e (made x c)) w h),
    )

  module _ (lawful : IsLawful d) (is : IsGoal d env literals goal) where
    pub lawful_at : (k : Sort) (x : Tree) → tree_sort x ≡ k → Closed d env goal x → IsSortOf d k
    lawful_at k x e c = subst (IsSortOf d) e (sort_lawful d env literals lawful is.environment is.declared (tree_sort x) x (made x c))

    pub term_at : (k : Sort) (x : Tree) → tree_sort x ≡ k → Closed d env goal x → IsTermOf d env literals k x
    term_at k x e c = subst (λ (j : Sort). IsTermOf d env literals j x) e (made x c)

    module _ (addressed : (f : ℕ → Bool) → AreBlockBits f → IsIp (ip_of f)) (es : Entities) (named : AreNamesIn d env goal m es) where
      abbrev FitsVal : Sort → Val → Type 0
      FitsVal = Fits d es

      abbrev IsFit : Sort → Type 0
      IsFit k = (x : Tree) → Closed d env goal x → tree_sort x ≡ k → FitsVal k (val_of m k x)

      abbrev Known : Type 0
      Known = (k : Sort) × IsFit k

      -- ---- by kind

      on_long : IsFit sort.Long
      on_long x c e = subst (Fits d es sort.Long) (sym (val_at m sort.Long s.Long x out_Long)) (long_fits d es (of_bits64 (bits_of m x)) (fits-of_bits w64 (bits_of m x)))

      on_string : IsFit sort.String
      on_string x c e =
          subst (Fits d es sort.String) (sym (val_at m sort.String s.String x out_String))
          (as_value (value.String (m.text x)) (no_option_at sort.String s.String out_String refl) (string_of d es (m.text x) (named.texts x c)))

      on_decimal : IsFit sort.Decimal
      on_decimal x c e =
          subst (Fits d es sort.Decimal) (sym (val_at m sort.Decimal s.Decimal x out_Decimal))
          (as_value (value.Decimal (of_bits64 (bits_of m x))) (no_option_at sort.Decimal s.Decimal out_Decimal refl)
          (decimal_of d es (of_bits64 (bits_of m x)) (fits-of_bits w64 (bits_of m x))))

      on_ip : IsFit sort.Ip
      on_ip x c e =
          subst (Fits d es sort.Ip) (sym (val_at m sort.Ip s.Ip x out_Ip))
          (as_value (value.Ip (ip_of (bits_of m x))) (no_option_at sort.Ip s.Ip out_Ip refl)
          (address_of d es (ip_of (bits_of m x)) (addressed (bits_of m x) (model.consistent.addresses x c e))))

      pub uid_text : (name : List ℕ) (us : List Uid) (x : Tree) → Closed d env goal x → tree_sort x ≡ sort.Entity name us → IsUidText (m.uid x)
      uid_text name us x c e =
          let declared = ((in_Entity (IsSortLevel d) name us).0 (lawful_at (sort.Entity name us) x e c)).0 in
          let text = declared_text d lawful name declared in
          (subst IsUtf8 (sym (model.typed name us x e)) text, named.ids x c)

      on_entity : (name : List ℕ) (us : List Uid) → IsFit (sort.Entity name us)
      on_entity name us x c e =
          subst (Fits d es (sort.Entity name us)) (sym (entity_val m name us x))
          (as_value (value.Entity (m.uid x)) (no_option_at (sort.Entity name us) (s.Entity name us) (out_Entity name us) refl)
          (entity_of d es name us (m.uid x) (model.typed name us x e) (uid_choice d env goal m model literals made lawful is name us x c e) (uid_text name us x c e) (inl (named.stored x c))))

      on_set : (k : Sort) → IsFit k → IsFit (sort.Set k)
      on_set k known x c e =
          let plain = ((in_Set (IsSortLevel d) k).0 (lawful_at (sort.Set k) x e c)).0 in
          let vs : List Value = map (λ y. value_in (val_of m k y)) (elements m x) in
          subst (Fits d es (sort.Set k)) (sym (set_val m k x))
          (set_fits d es k (set_from vs) (set_ascends vs)
          (set_each (IsOfSort d es k) vs
          (all_so (IsOfSort d es k) (λ y. value_in (val_of m k y)) (elements m x)
          (λ y h. let r = elements_sorted k x y e c h in value_of d es k (val_of m k y) plain (known y r.0 r.1)))))

      -- ---- records

      abbrev forget : List ℕ × Known → SortField
      forget e = (e.0, e.1.0)

      abbrev with_val_of : Tree → SortField → List ℕ × Val
      with_val_of x f = (f.0, val_of m f.1 (field_term f.0 x))

      vals_fit : (x : Tree) (ks : List (List ℕ × Known)) → ((f : SortField) → Has (map forget ks) f → Closed d env goal (field_term f.0 x) × (tree_sort (field_term f.0 x) ≡ f.1))
          → HaveVals d es (map forget ks) (map (with_val_of x) (map forget ks))
      vals_fit x [] h = no_val
      vals_fit x (k ∷ ks) h =
          let here = h (k.0, k.1.0) (inl refl) in
          with_val k.0 k.1.0 (val_of m k.1.0 (field_term k.0 x)) (map forget ks) (map (with_val_of x) (map forget ks))
          (k.1.1 (field_term k.0 x) here.0 here.1) (vals_fit x ks (λ f j. h f (inr j)))

      on_record : (ks : List (List ℕ × Known)) → IsFit (sort.Record (map forget ks))
      on_record ks x c e =
          let fs : SortFields = map forget ks in
          let names = ((in_Record (IsSortLevel d) fs).0 (lawful_at (sort.Record fs) x e c)).0 in
          let same : fields_at m fs x ≡ flat_map field_of (map (with_val_of x) fs) = sym (flat_map-map field_of (with_val_of x) fs) in
          subst (Fits d es (sort.Record fs)) (sym (record_val m fs x ∙ ap (λ (r : Fields). it (value.Record r)) same))
          (record_fits d es fs (map (with_val_of x) fs) names
          (vals_fit x ks (λ f h. (
            field_closed d env goal fs x f e c h,
            sort_is d env literals f.1 (field_term f.0 x) (field_made d env literals fs f.0 f.1 x (term_at (sort.Record fs) x e c) (found fs f names.0 h)),
          ))))

      -- ---- options

      some_of_sort : (k : Sort) (v : Value) → IsOfSort d es k v → FitsVal (sort.Option k) (maybe (Some v))
      some_of_sort k v h = as_option (Some v) (ap (is_option_level Sort) (out_Option k)) (subst (λ (j : Sort). IsOfSort d es j v) (sym (held_of k)) h)

      on_option : (k : Sort) → IsFit k → IsFit (sort.Option k)
      on_option k known x c e = subst (Fits d es (sort.Option k)) (sym (val_at m (sort.Option k) (s.Option k) x (out_Option k))) (by (lit m.truths (present_term x))) where
        plain : is_option k ≡ false
        plain = ((in_Option (IsSortLevel d) k).0 (lawful_at (sort.Option k) x e c)).0

        held_fits : FitsVal k (val_of m k (held_term x))
        held_fits = known (held_term x) (held_closed d env goal k x e c) (sort_is d env literals k (held_term x) (held_made d env literals k x (term_at (sort.Option k) x e c)))

        by : (b : Bool) → FitsVal (sort.Option k) (held_by b (val_of m k (held_term x)))
        by true = some_of_sort k (value_in (val_of m k (held_term x))) (value_of d es k (val_of m k (held_term x)) plain held_fits)
        by false = as_option None (ap (is_option_level Sort) (out_Option k)) tt

      -- ---- all

      inner : (y : Sort-F Known) → IsFit (roll-Sort (map-Sort Known Sort (λ e. e.0) y))
      inner s.Bool = subst IsFit (sym rolls-Bool) (λ x c e. subst (Fits d es sort.Bool) (sym (val_at m sort.Bool s.Bool x out_Bool)) (yes_fits d es (lit m.truths x)))
      inner s.Long = subst IsFit (sym rolls-Long) on_long
      inner s.String = subst IsFit (sym rolls-String) on_string
      inner s.Decimal = subst IsFit (sym rolls-Decimal) on_decimal
      inner s.Ip = subst IsFit (sym rolls-Ip) on_ip
      inner (s.Entity name us) = subst IsFit (sym (rolls-Entity name us)) (on_entity name us)
      inner (s.Set k) = subst IsFit (sym (rolls-Set k.0)) (on_set k.0 k.1)
      inner (s.Record ks) = subst IsFit (sym (rolls-Record (map forget ks))) (on_record ks)
      inner (s.Option k) = subst IsFit (sym (rolls-Option k.0)) (on_option k.0 k.1)

      pub values_fit : (k : Sort) → IsFit k
      values_fit = ind-Sort IsFit (λ x y e. subst (λ (z : Sort-F Sort). IsFit (roll-Sort z)) e (inner y))
