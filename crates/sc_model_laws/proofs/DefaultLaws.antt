-- A closed term whose equation with the default of its sort is true has the default's value.
use Rattle.std.proofs.Common.{◌≡◌, ◌<◌, ◌++◌, inl, inr, cond, arith, pos, ℕ, Bool, true, false, not, List, [], ◌∷◌, map, Option, Some, None, refl, sym, ap, ◌∙◌, subst}
use Rattle.std.specs.Int.{w64}
use Rattle.std.specs.List.{AllByRecursion}
use Rattle.std.specs.Map.{lookup}
use Rattle.std.specs.Ordering.{is_gt}
use Rattle.std.specs.Str.{bytes_eq}
use Rattle.sc_lists.specs.Members.{Has}
use Rattle.sc_laws.proofs.BoolLaws.{true_both}
use Rattle.sc_ip.specs.declared.ip.Ip.{Ip}
use Rattle.sc_ip.specs.declared.ip.Ip.TheVariants.{V4}
use Rattle.sc_ip.specs.Addresses.{IsIp}
use Rattle.sc_bits.specs.Addresses.{ip_bit, ip_of}
use Rattle.sc_bits.specs.Bits.{bit64, of_bits64}
use Rattle.sc_bits.specs.Blocks.{AreBlockBits}
use Rattle.sc_bits.proofs.IntegerLaws.{of_bits-bit64, of_bits-same}
use Rattle.sc_names.specs.declared.uid.Uid.{Uid}
use Rattle.sc_schema.specs.declared.declarations.Env.{Env}
use Rattle.sc_schema.specs.Declarations.{Declarations}
use Rattle.sc_schema.specs.Lawful.{IsLawful}
use Rattle.sc_values.specs.declared.value.Value.{Value}
use Rattle.sc_values.specs.declared.value.Value.TheVariants as value
use Rattle.sc_values.specs.Records.{Fields}
use Rattle.sc_sorts.specs.declared.sort.Sort.{Sort, Sort-F, out-Sort, roll-Sort, map-Sort, ind-Sort}
use Rattle.sc_sorts.specs.declared.sort.Sort.TheVariants as sort
use Rattle.sc_sorts.specs.declared.sort.Sort.TheVariants.{rolls-Bool, rolls-Long, rolls-String, rolls-Decimal, rolls-Ip, rolls-Entity, rolls-Set, rolls-Record, rolls-Option}
use Rattle.sc_sorts.specs.declared.sort.Sort.TheOpen as s
use Rattle.sc_sorts.specs.Defaults.{is_option, is_option_level, default_field, default_of, default_uid}
use Rattle.sc_sorts.specs.Inside.{SortField, SortFields}
use Rattle.sc_sorts.proofs.DefaultLaws as plain
use Rattle.sc_sorts.proofs.EveryLaws.{in_Record}
use Rattle.sc_sorts.proofs.OutLaws.{out_Bool, out_Long, out_String, out_Decimal, out_Ip, out_Entity, out_Set, out_Record, out_Option}
use Rattle.sc_sorts.specs.declared.node.BinaryOp.{BinaryOp}
use Rattle.sc_sorts.specs.declared.node.BinaryOp.TheVariants as binary
use Rattle.sc_sorts.specs.declared.node.Leaf.TheVariants as leafs
use Rattle.sc_sorts.specs.declared.node.Literal.{Literal}
use Rattle.sc_sorts.specs.declared.node.Literal.TheVariants as literal
use Rattle.sc_sorts.specs.declared.node.ManyOp.TheVariants as manys
use Rattle.sc_terms.specs.Trees.{Tree, leaf, two, many, no_part, Labelled, listed, parts_of}
use Rattle.sc_terms.specs.TreeSorts.{tree_sort}
use Rattle.sc_terms.specs.Order.{tree_cmp, tree_eq}
use Rattle.sc_terms.specs.Folds.{literal_term, truth_term, constant, other_equal, equation, equal_by, equal_term, field_by, field_term, present_term, bit_term, default_term, default_parts, not_term}
use Rattle.sc_terms.specs.Values.{Val, it, yes, default_by, default_val, field_of, set_from}
use Rattle.sc_terms.proofs.DefaultLaws.{with_default, default_Bool, default_Long, default_String, default_Decimal, default_Ip, default_Entity, default_Set, default_Record, default_Option}
use Rattle.sc_terms.proofs.OrderLaws.{tree_eq-exact}
use Rattle.sc_term_laws.specs.LawfulSorts.{IsSortLevel, IsSortOf}
use Rattle.sc_term_laws.specs.Tests.{is_bool}
use Rattle.sc_term_laws.proofs.DefaultMade.{default_made}
use Rattle.sc_term_laws.proofs.FitVals.{no_option_at}
use Rattle.sc_term_laws.proofs.JudgingLaws.{sort_is}
use Rattle.sc_term_laws.proofs.MadeLaws.{constant_sort}
use Rattle.sc_term_laws.proofs.TestLaws.{bool_sort, bool_told}
use Rattle.sc_closure_rules.specs.Closure.{Closed}
use Rattle.sc_closure_rules.specs.Goals.{IsGoal}
use Rattle.sc_closure_rules.proofs.SortLaws.{found}
use Rattle.sc_model_laws.specs.Assignments.{lit}
use Rattle.sc_model_laws.specs.Laws.{EquationsAgree}
use Rattle.sc_model_laws.specs.Vals.{Model, bits_of, val_of}
use Rattle.sc_model_laws.specs.Models.{IsModel}
use Rattle.sc_model_laws.proofs.ClosureLaws.{of_part, field_closed}
use Rattle.sc_model_laws.proofs.FittingLaws.{AreMade}
use Rattle.sc_model_laws.proofs.SortedVals.{val_at, entity_val, set_val, fields_at, record_val}

-- what the bits of addresses promise
pub record AreAddresses : Type 0 where
  pub fits : (f : ℕ → Bool) → AreBlockBits f → IsIp (ip_of f)
  pub bits : (f : ℕ → Bool) → AreBlockBits f → (k : ℕ) → k < 257 → ip_bit (ip_of f) k ≡ f k
  pub only_one : (a b : Ip) → IsIp a → IsIp b → ((k : ℕ) → k < 257 → ip_bit a k ≡ ip_bit b k) → a ≡ b
  pub clauses : (a : Ip) → IsIp a → AreBlockBits (ip_bit a)

-- a list that holds nothing
pub nothing : {X : Type 0} (xs : List X) → ((x : X) → Has xs x → ⊥) → xs ≡ []
nothing [] h = refl
nothing (x ∷ xs) h = absurd (h x (inl refl))

one_field : (b : Bool) (name : List ℕ) (x : Value) → field_of (name, default_by b x) ≡ default_field name b x
one_field true name x = refl
one_field false name x = refl

-- the default of a field of a record's default
listed_parts : (ps : List Labelled) → listed (parts_of ps) ≡ ps
listed_parts [] = refl
listed_parts (p ∷ ps) = ap (λ (qs : List Labelled). p ∷ qs) (listed_parts ps)

default_found : (n : List ℕ) (fs : SortFields) (k : Sort) → lookup (bytes_eq n) fs ≡ Some k → lookup (bytes_eq n) (map with_default fs) ≡ Some (default_term k)
default_found n [] k e = absurd cc
default_found n (f ∷ fs) k e = by (bytes_eq n f.0) (default_found n fs k) e where
  by : (b : Bool) → (lookup (bytes_eq n) fs ≡ Some k → lookup (bytes_eq n) (map with_default fs) ≡ Some (default_term k))
      → cond b (Some f.1) (lookup (bytes_eq n) fs) ≡ Some k → cond b (Some (default_term f.1)) (lookup (bytes_eq n) (map with_default fs)) ≡ Some (default_term k)
  by true h g = let same : f.1 ≡ k = cc in ap (λ (j : Sort). Some (default_term j)) same
  by false h g = h g

default_part : (fs : SortFields) (n : List ℕ) (k : Sort) → lookup (bytes_eq n) fs ≡ Some k → field_term n (default_parts fs) ≡ default_term k
unfolding field_term
default_part fs n k e =
    ap (λ (ps : List Labelled). field_by (lookup (bytes_eq n) ps) n (default_parts fs)) (listed_parts (map with_default fs))
    ∙ ap (λ (o : Option Tree). field_by o n (default_parts fs)) (default_found n fs k e)

module _ (d : Declarations) (env : Env) (literals : List Uid) (goal : Tree) (made : AreMade d env literals goal) (m : Model) (model : IsModel d env goal m) (addresses : AreAddresses) where
  abbrev HasDefault : Sort → Type 0
  HasDefault k = IsSortOf d k → Closed d env goal (default_term k) → val_of m k (default_term k) ≡ default_val k

  -- a sort that is none of options, whose default term has this value
  given : (k : Sort) (l : Sort-F Sort) (t : Tree) (x : Value) → default_term k ≡ t → out-Sort k ≡ l → is_option_level Sort l ≡ false → default_of k ≡ x
      → (Closed d env goal t → val_of m k t ≡ it x) → HasDefault k
  given k l t x e o n f g h c =
      ap (val_of m k) e ∙ g (subst (Closed d env goal) e c) ∙ sym (ap (λ (b : Bool). default_by b (default_of k)) (ap (is_option_level Sort) o ∙ n) ∙ ap it f)

  default_bits : (l : Literal) → ((i : ℕ) → bits_of m (literal_term l) i ≡ bit64 (pos 0) i) → of_bits64 (bits_of m (literal_term l)) ≡ pos 0
  default_bits l h = of_bits-same w64 (bits_of m (literal_term l)) (bit64 (pos 0)) (λ i k. h i) ∙ of_bits-bit64 w64 (pos 0) (omega arith)

  on_bool : HasDefault sort.Bool
  unfolding lit
  on_bool = given sort.Bool s.Bool (truth_term false) (value.Bool false) default_Bool out_Bool refl plain.default_Bool (λ c. val_at m sort.Bool s.Bool (truth_term false) out_Bool)

  on_long : HasDefault sort.Long
  unfolding bit_term lit
  on_long =
      given sort.Long s.Long (literal_term (literal.Long (pos 0))) (value.Long (pos 0)) default_Long out_Long refl plain.default_Long
      (λ c. val_at m sort.Long s.Long (literal_term (literal.Long (pos 0))) out_Long ∙ ap (λ z. it (value.Long z)) (default_bits (literal.Long (pos 0)) (λ i. refl)))

  on_decimal : HasDefault sort.Decimal
  unfolding bit_term lit
  on_decimal =
      given sort.Decimal s.Decimal (literal_term (literal.Decimal (pos 0))) (value.Decimal (pos 0)) default_Decimal out_Decimal refl plain.default_Decimal
      (λ c. val_at m sort.Decimal s.Decimal (literal_term (literal.Decimal (pos 0))) out_Decimal ∙ ap (λ z. it (value.Decimal z)) (default_bits (literal.Decimal (pos 0)) (λ i. refl)))

  on_string : HasDefault sort.String
  on_string =
      given sort.String s.String (literal_term (literal.String [])) (value.String []) default_String out_String refl plain.default_String
      (λ c. val_at m sort.String s.String (literal_term (literal.String [])) out_String ∙ ap (λ z. it (value.String z)) (model.literal_text [] c))

  same_address : (a : Ip) → IsIp a → ip_of (bits_of m (literal_term (literal.Ip a))) ≡ a
  unfolding bit_term lit
  same_address a h =
      let blocks : AreBlockBits (bits_of m (literal_term (literal.Ip a))) = addresses.clauses a h in
      addresses.only_one (ip_of (bits_of m (literal_term (literal.Ip a)))) a (addresses.fits (bits_of m (literal_term (literal.Ip a))) blocks) h
      (λ k b. addresses.bits (bits_of m (literal_term (literal.Ip a))) blocks k b)

  on_ip : HasDefault sort.Ip
  on_ip =
      given sort.Ip s.Ip (literal_term (literal.Ip (V4 0 32))) (value.Ip (V4 0 32)) default_Ip out_Ip refl plain.default_Ip
      (λ c. val_at m sort.Ip s.Ip (literal_term (literal.Ip (V4 0 32))) out_Ip ∙ ap (λ z. it (value.Ip z)) (same_address (V4 0 32) (omega arith, omega arith)))

  on_entity : (name : List ℕ) (us : List Uid) → HasDefault (sort.Entity name us)
  on_entity name us =
      let u : Uid = default_uid name us in
      given (sort.Entity name us) (s.Entity name us) (literal_term (literal.Entity u us)) (value.Entity u) (default_Entity name us) (out_Entity name us) refl (plain.default_Entity name us)
      (λ c. entity_val m name us (literal_term (literal.Entity (default_uid name us) us)) ∙ ap (λ z. it (value.Entity z)) (model.literal_uid (default_uid name us) us c))

  -- ---- no term stands in the empty set

  on_set : (k : Sort) → HasDefault (sort.Set k)
  unfolding set_from
  on_set k =
      given (sort.Set k) (s.Set k) (many (manys.Set k) no_part) (value.Set []) (default_Set k) (out_Set k) refl (plain.default_Set k)
      (λ c. set_val m k (many (manys.Set k) no_part))

  on_option : (k : Sort) → HasDefault (sort.Option k)
  unfolding present_term lit
  on_option k h c =
      ap (val_of m (sort.Option k)) (default_Option k)
      ∙ val_at m (sort.Option k) (s.Option k) (leaf (leafs.None k)) (out_Option k)
      ∙ sym (ap (λ (b : Bool). default_by b (default_of (sort.Option k))) (ap (is_option_level Sort) (out_Option k)))

  -- ---- records

  abbrev Known : Type 0
  Known = (k : Sort) × HasDefault k

  abbrev forget : List ℕ × Known → SortField
  forget e = (e.0, e.1.0)

  fields_same : (x : Tree) (ks : List (List ℕ × Known)) → AllByRecursion (λ (f : SortField). IsSortOf d f.1) (map forget ks)
      → ((f : SortField) → Has (map forget ks) f → (field_term f.0 x ≡ default_term f.1) × Closed d env goal (field_term f.0 x))
      → fields_at m (map forget ks) x ≡ plain.default_fields (map forget ks)
  fields_same x [] l h = refl
  fields_same x (k ∷ ks) l h =
      let here = h (k.0, k.1.0) (inl refl) in
      let first : field_of (k.0, val_of m k.1.0 (field_term k.0 x)) ≡ default_field k.0 (is_option k.1.0) (default_of k.1.0) =
      ap (λ (v : Val). field_of (k.0, v)) (ap (val_of m k.1.0) here.0 ∙ k.1.1 l.0 (subst (Closed d env goal) here.0 here.1)) ∙ one_field (is_option k.1.0) k.0 (default_of k.1.0) in
      let rest = fields_same x ks l.1 (λ f j. h f (inr j)) in
      λ i. first i ++ rest i

  parts_sort : (k : Sort) (t : Tree) → IsSortOf d k → default_term k ≡ t → tree_sort t ≡ k
  parts_sort k t h e = ap tree_sort (sym e) ∙ sort_is d env literals k (default_term k) (default_made d env literals k h)

  on_record : (ks : List (List ℕ × Known)) → HasDefault (sort.Record (map forget ks))
  on_record ks h =
      let fs : SortFields = map forget ks in
      let inside = (in_Record (IsSortLevel d) fs).0 h in
      given (sort.Record fs) (s.Record fs) (default_parts fs) (value.Record (plain.default_fields fs)) (default_Record fs) (out_Record fs) refl (plain.default_Record fs)
      (λ c. record_val m fs (default_parts fs)
      ∙ ap (λ (r : Fields). it (value.Record r)) (fields_same (default_parts fs) ks inside.1 (λ f j. (
        default_part fs f.0 f.1 (found fs f inside.0.0 j),
        field_closed d env goal fs (default_parts fs) f (parts_sort (sort.Record fs) (default_parts fs) h (default_Record fs)) c j,
      )))) h

  inner : (y : Sort-F Known) → HasDefault (roll-Sort (map-Sort Known Sort (λ e. e.0) y))
  inner s.Bool = subst HasDefault (sym rolls-Bool) on_bool
  inner s.Long = subst HasDefault (sym rolls-Long) on_long
  inner s.String = subst HasDefault (sym rolls-String) on_string
  inner s.Decimal = subst HasDefault (sym rolls-Decimal) on_decimal
  inner s.Ip = subst HasDefault (sym rolls-Ip) on_ip
  inner (s.Entity name us) = subst HasDefault (sym (rolls-Entity name us)) (on_entity name us)
  inner (s.Set k) = subst HasDefault (sym (rolls-Set k.0)) (on_set k.0)
  inner (s.Record ks) = subst HasDefault (sym (rolls-Record (map forget ks))) (on_record ks)
  inner (s.Option k) = subst HasDefault (sym (rolls-Option k.0)) (on_option k.0)

  pub default_val_of : (k : Sort) → IsSortOf d k → Closed d env goal (default_term k) → val_of m k (default_term k) ≡ default_val k
  default_val_of = ind-Sort HasDefault (λ x y e. subst (λ (z : Sort-F Sort). HasDefault (roll-Sort z)) e (inner y))

  -- ---- a term of two parts whose equation with the default is true

  no_constant : (k : Sort) → IsSortOf d k → is_bool k ≡ false → constant (default_term k) ≡ None
  no_constant k h n = by (constant (default_term k)) refl where
    by : (o : Option Bool) → constant (default_term k) ≡ o → o ≡ None
    by None e = refl
    by (Some b) e =
        absurd (true_both (is_bool k) (bool_told k (sym (parts_sort k (default_term k) h refl) ∙ constant_sort (default_term k) b e)) n)

  plain_equation : (o : BinaryOp) (a b y : Tree) → constant y ≡ None
      → equal_term (two o a b) y ≡ other_equal (tree_eq (two o a b) y) None (two o a b) y
  unfolding equal_term
  plain_equation o a b y e = ap (λ (c : Option Bool). equal_by None c (two o a b) y) e

  other_closed : (x y : Tree) (same greater : Bool) → tree_eq x y ≡ same → is_gt (tree_cmp x y) ≡ greater → Closed d env goal x
      → Closed d env goal (other_equal same None x y) → Closed d env goal y
  other_closed x y true g e f c h = subst (Closed d env goal) (tree_eq-exact x y e) c
  other_closed x y false true e f c h = of_part d env goal (two binary.Equal y x) y (subst (λ (g : Bool). Closed d env goal (equation g x y)) f h) (inl refl)
  other_closed x y false false e f c h = of_part d env goal (two binary.Equal x y) y (subst (λ (g : Bool). Closed d env goal (equation g x y)) f h) (inr (inl refl))

  false_default : (o : BinaryOp) (a b : Tree) → lit m.truths (equal_term (two o a b) (truth_term false)) ≡ true → lit m.truths (two o a b) ≡ false
  unfolding equal_term not_term lit
  false_default o a b e = by (m.truths (two o a b)) e where
    by : (c : Bool) → not c ≡ true → c ≡ false
    by true f = absurd cc
    by false f = refl

  on_truth : (o : BinaryOp) (a b : Tree) → lit m.truths (equal_term (two o a b) (default_term sort.Bool)) ≡ true → val_of m sort.Bool (two o a b) ≡ default_val sort.Bool
  on_truth o a b e =
      let off = false_default o a b (ap (λ (t : Tree). lit m.truths (equal_term (two o a b) t)) (sym default_Bool) ∙ e) in
      val_at m sort.Bool s.Bool (two o a b) out_Bool ∙ ap yes off
      ∙ sym (ap (λ (c : Bool). default_by c (default_of sort.Bool)) (no_option_at sort.Bool s.Bool out_Bool refl) ∙ ap it plain.default_Bool)

  module _ (lawful : IsLawful d) (is : IsGoal d env literals goal) (agree : EquationsAgree) where
    pub is_default : (k : Sort) (o : BinaryOp) (a b : Tree) → IsSortOf d k → tree_sort (two o a b) ≡ k → Closed d env goal (two o a b)
        → Closed d env goal (equal_term (two o a b) (default_term k)) → lit m.truths (equal_term (two o a b) (default_term k)) ≡ true
        → val_of m k (two o a b) ≡ default_val k
    is_default k o a b h e c q t = by (is_bool k) refl where
      by : (n : Bool) → is_bool k ≡ n → val_of m k (two o a b) ≡ default_val k
      by true n =
          subst (λ (j : Sort). lit m.truths (equal_term (two o a b) (default_term j)) ≡ true → val_of m j (two o a b) ≡ default_val j) (sym (bool_sort k n)) (on_truth o a b) t
      by false n =
          let there = other_closed (two o a b) (default_term k) (tree_eq (two o a b) (default_term k)) (is_gt (tree_cmp (two o a b) (default_term k))) refl refl c
          (subst (Closed d env goal) (plain_equation o a b (default_term k) (no_constant k h n)) q) in
          let sorted = parts_sort k (default_term k) h refl in
          let vals = (agree d env literals goal m (two o a b) (default_term k) lawful is model c there (e ∙ sym sorted) q).0 t in
          ap (λ (j : Sort). val_of m j (two o a b)) (sym e) ∙ vals ∙ ap (λ (j : Sort). val_of m j (default_term k)) sorted ∙ default_val_of k h there
