-- What a model gives the like places of two terms is one, where each half of what says so is true: so are the attributes of equal
-- entities, and their tags under equal keys.
use Rattle.std.proofs.Common.{◌≡◌, ◌<◌, ℕ, Bool, true, false, nat_lt, List, [], ◌∷◌, map, Option, Some, None, IfSome, unwrap_or, refl, sym, ap, ◌∙◌, subst}
use Rattle.std.specs.Cmp.Derive.{both_true}
use Rattle.std.specs.Int.{w64}
use Rattle.std.specs.List.{AllByRecursion}
use Rattle.sc_laws.proofs.NumberLaws.{nat_lt_true}
use Rattle.sc_lists.specs.Members.{Has}
use Rattle.sc_lists.proofs.MemberLaws.{Has-map, map-Has}
use Rattle.sc_bits.specs.Addresses.{ip_of}
use Rattle.sc_bits.specs.Blocks.{AreBlockBits}
use Rattle.sc_bits.proofs.IntegerLaws.{of_bits-same}
use Rattle.sc_names.specs.declared.uid.Uid.{Uid}
use Rattle.sc_schema.specs.declared.declarations.Env.{Env}
use Rattle.sc_schema.specs.Declarations.{Declarations}
use Rattle.sc_schema.specs.Lawful.{IsLawful}
use Rattle.sc_values.specs.declared.value.Value.{Value}
use Rattle.sc_values.specs.declared.value.Value.TheVariants as value
use Rattle.sc_values.specs.Records.{Fields}
use Rattle.sc_sorts.specs.declared.sort.Sort.{Sort, Sort-F, out-Sort}
use Rattle.sc_sorts.specs.declared.sort.Sort.TheVariants as sort
use Rattle.sc_sorts.specs.declared.sort.Sort.TheOpen as s
use Rattle.sc_sorts.specs.Inside.{SortField, SortFields}
use Rattle.sc_sorts.proofs.EveryLaws.{in_Record}
use Rattle.sc_sorts.specs.OrderLaws.{sort_eq_decides}
use Rattle.sc_sorts.proofs.OutLaws.{out_Bool, out_Long, out_String, out_Decimal, out_Ip, out_Entity, out_Set, out_Option}
use Rattle.sc_sorts.specs.declared.node.UnaryOp.TheVariants as unary
use Rattle.sc_sorts.specs.declared.node.BinaryOp.TheVariants as binary
use Rattle.sc_terms.specs.Trees.{Tree, one, two}
use Rattle.sc_terms.specs.TreeSorts.{tree_sort}
use Rattle.sc_terms.specs.Folds.{equal_term, field_term, present_term, held_term, bit_term}
use Rattle.sc_terms.specs.Values.{Val, it, yes, value_in, field_of, set_from}
use Rattle.sc_term_laws.specs.LawfulSorts.{IsSortLevel}
use Rattle.sc_term_laws.proofs.DefaultMade.{held_made}
use Rattle.sc_term_laws.proofs.JudgingLaws.{sort_is}
use Rattle.sc_term_laws.proofs.MadeLaws.{field_made}
use Rattle.sc_closure_rules.specs.Closure.{Closed, own_sets, are_linked}
use Rattle.sc_closure_rules.specs.Goals.{IsGoal}
use Rattle.sc_closure_rules.proofs.SortLaws.{found}
use Rattle.sc_rule_laws.specs.Signed.{Signed, so, unless, given}
use Rattle.sc_rule_laws.specs.Terms.{one_sort, written}
use Rattle.sc_rule_laws.specs.Places.{roots, half_by, half}
use Rattle.sc_rule_laws.proofs.PlaceLaws.{step_roots, same_field, is_built, built_place, built_field, built_held}
use Rattle.sc_model_laws.specs.Assignments.{lit, some_hold}
use Rattle.sc_model_laws.specs.Vals.{Model, assigned, bits_of, held_by, val_of}
use Rattle.sc_model_laws.specs.Models.{IsModel}
use Rattle.sc_model_laws.proofs.ClosedLaws.{present_closed, long_bit, decimal_bit, ip_bit_closed}
use Rattle.sc_model_laws.proofs.CompositeClaims.{same_joined, one_set}
use Rattle.sc_model_laws.proofs.HoldLaws.{second, last}
use Rattle.sc_model_laws.proofs.SortSteps.{by_sorts}
use Rattle.sc_model_laws.proofs.ClosureLaws.{field_closed, held_closed, strings_equation, entities_equation, linked_member}
use Rattle.sc_model_laws.proofs.DefaultLaws.{AreAddresses}
use Rattle.sc_model_laws.proofs.FittingLaws.{AreMade, is_assigned, assigned_is, assigned_sorted, lawful_at, term_at}
use Rattle.sc_model_laws.proofs.SortedVals.{val_at, entity_val, set_val, record_val}

one_truth : (b c : Bool) → (b ≡ true → c ≡ true) → (c ≡ true → b ≡ true) → b ≡ c
one_truth true c f g = sym (f refl)
one_truth false false f g = refl
one_truth false true f g = g refl

module _ (d : Declarations) (env : Env) (literals : List Uid) (goal : Tree) (made : AreMade d env literals goal) (m : Model) (model : IsModel d env goal m)
    (addresses : AreAddresses) (lawful : IsLawful d) (is : IsGoal d env literals goal) where
  -- one half of what says that two terms are alike is true, where it speaks of closed terms
  abbrev pub HalfHolds : Tree → Tree → Type 0
  HalfHolds x y = (i : ℕ) (z : Option Tree) (parts : List Signed) → IfSome z (Closed d env goal) → half x y i z ≡ Some parts
      → AllByRecursion (λ (p : Signed). Closed d env goal p.1) parts → some_hold m.truths parts ≡ true

  -- the like places of two terms are alike, by both halves
  pub record AreLinked (r q : Tree) : Type 0 where
    pub built_first : is_built r ≡ true
    pub built_second : is_built q ≡ true
    pub own_forth : own_sets r q ≡ true
    pub own_back : own_sets q r ≡ true
    pub forth : (x y : Tree) → roots x y ≡ (r, q) → Closed d env goal x → Closed d env goal y → HalfHolds x y
    pub back : (x y : Tree) → roots y x ≡ (q, r) → Closed d env goal x → Closed d env goal y → HalfHolds y x

  field_sorted : (fs : SortFields) (x : Tree) (f : SortField) → tree_sort x ≡ sort.Record fs → Closed d env goal x → Has fs f → tree_sort (field_term f.0 x) ≡ f.1
  field_sorted fs x f e c h =
      let names = ((in_Record (IsSortLevel d) fs).0 (lawful_at d env literals goal made m model lawful is (sort.Record fs) x e c)).0 in
      sort_is d env literals f.1 (field_term f.0 x)
      (field_made d env literals fs f.0 f.1 x (term_at d env literals goal made m model lawful is (sort.Record fs) x e c) (found fs f names.0 h))

  held_sorted : (k : Sort) (x : Tree) → tree_sort x ≡ sort.Option k → Closed d env goal x → tree_sort (held_term x) ≡ k
  held_sorted k x e c =
      sort_is d env literals k (held_term x) (held_made d env literals k x (term_at d env literals goal made m model lawful is (sort.Option k) x e c))

  module _ (r q : Tree) (linked : AreLinked r q) where
    -- closed like places of a sort
    record ArePlaces (k : Sort) (x y : Tree) : Type 0 where
      first : Closed d env goal x
      second : Closed d env goal y
      first_sort : tree_sort x ≡ k
      second_sort : tree_sort y ≡ k
      forth : roots x y ≡ (r, q)
      back : roots y x ≡ (q, r)

    abbrev Claim : Sort → Type 0
    Claim k = (x y : Tree) → ArePlaces k x y → val_of m k x ≡ val_of m k y

    forth_half : (k : Sort) (l : Sort-F Sort) (x y : Tree) → ArePlaces k x y → out-Sort k ≡ l → (i : ℕ) (z : Option Tree) (parts : List Signed) → IfSome z (Closed d env goal)
        → half_by l x y i z ≡ Some parts → AllByRecursion (λ (p : Signed). Closed d env goal p.1) parts → some_hold m.truths parts ≡ true
    forth_half k l x y p o i z parts h e all =
        linked.forth x y p.forth p.first p.second i z parts h (ap (λ (j : Sort-F Sort). half_by j x y i z) (ap out-Sort p.first_sort ∙ o) ∙ e) all

    back_half : (k : Sort) (l : Sort-F Sort) (x y : Tree) → ArePlaces k x y → out-Sort k ≡ l → (i : ℕ) (z : Option Tree) (parts : List Signed) → IfSome z (Closed d env goal)
        → half_by l y x i z ≡ Some parts → AllByRecursion (λ (p : Signed). Closed d env goal p.1) parts → some_hold m.truths parts ≡ true
    back_half k l x y p o i z parts h e all =
        linked.back x y p.back p.first p.second i z parts h (ap (λ (j : Sort-F Sort). half_by j y x i z) (ap out-Sort p.second_sort ∙ o) ∙ e) all

    -- ---- truth values and what has bits

    on_bool : Claim sort.Bool
    on_bool x y p =
        val_at m sort.Bool s.Bool x out_Bool
        ∙ ap yes (one_truth (lit m.truths x) (lit m.truths y)
        (λ t. second m.truths false true x y (forth_half sort.Bool s.Bool x y p out_Bool 0 None (unless x ∷ so y ∷ []) tt refl (p.first, (p.second, tt))) t)
        (λ t. second m.truths false true y x (back_half sort.Bool s.Bool x y p out_Bool 0 None (unless y ∷ so x ∷ []) tt refl (p.second, (p.first, tt))) t))
        ∙ sym (val_at m sort.Bool s.Bool y out_Bool)

    bits_alike : (k : Sort) (l : Sort-F Sort) (n : ℕ) (x y : Tree) → ArePlaces k x y → out-Sort k ≡ l
        → ((a b : Tree) (i : ℕ) → half_by l a b i None ≡ given (nat_lt i n) (unless (bit_term a i) ∷ so (bit_term b i) ∷ []))
        → ((a : Tree) (i : ℕ) → tree_sort a ≡ k → Closed d env goal a → i < n → Closed d env goal (bit_term a i))
        → (i : ℕ) → i < n → bits_of m x i ≡ bits_of m y i
    bits_alike k l n x y p o halves closed i h =
        let within : (a b : Tree) → half_by l a b i None ≡ Some (unless (bit_term a i) ∷ so (bit_term b i) ∷ []) =
        λ a b. halves a b i ∙ ap (λ (t : Bool). given t (unless (bit_term a i) ∷ so (bit_term b i) ∷ [])) (nat_lt_true i n h) in
        let one = closed x i p.first_sort p.first h in
        let other = closed y i p.second_sort p.second h in
        one_truth (bits_of m x i) (bits_of m y i)
        (λ t. second m.truths false true (bit_term x i) (bit_term y i)
        (forth_half k l x y p o i None (unless (bit_term x i) ∷ so (bit_term y i) ∷ []) tt (within x y) (one, (other, tt))) t)
        (λ t. second m.truths false true (bit_term y i) (bit_term x i)
        (back_half k l x y p o i None (unless (bit_term y i) ∷ so (bit_term x i) ∷ []) tt (within y x) (other, (one, tt))) t)

    on_long : Claim sort.Long
    on_long x y p =
        val_at m sort.Long s.Long x out_Long
        ∙ ap (λ z. it (value.Long z)) (of_bits-same w64 (bits_of m x) (bits_of m y)
        (bits_alike sort.Long s.Long 64 x y p out_Long (λ a b i. refl) (λ a i e c h. long_bit d env goal a i e c h)))
        ∙ sym (val_at m sort.Long s.Long y out_Long)

    on_decimal : Claim sort.Decimal
    on_decimal x y p =
        val_at m sort.Decimal s.Decimal x out_Decimal
        ∙ ap (λ z. it (value.Decimal z)) (of_bits-same w64 (bits_of m x) (bits_of m y)
        (bits_alike sort.Decimal s.Decimal 64 x y p out_Decimal (λ a b i. refl) (λ a i e c h. decimal_bit d env goal a i e c h)))
        ∙ sym (val_at m sort.Decimal s.Decimal y out_Decimal)

    on_ip : Claim sort.Ip
    on_ip x y p =
        let one : AreBlockBits (bits_of m x) = model.consistent.addresses x p.first p.first_sort in
        let other : AreBlockBits (bits_of m y) = model.consistent.addresses y p.second p.second_sort in
        let alike = bits_alike sort.Ip s.Ip 257 x y p out_Ip (λ a b i. refl) (λ a i e c h. ip_bit_closed d env goal a i e c h) in
        val_at m sort.Ip s.Ip x out_Ip
        ∙ ap (λ z. it (value.Ip z)) (addresses.only_one (ip_of (bits_of m x)) (ip_of (bits_of m y)) (addresses.fits (bits_of m x) one) (addresses.fits (bits_of m y) other)
        (λ k h. addresses.bits (bits_of m x) one k h ∙ alike k h ∙ sym (addresses.bits (bits_of m y) other k h)))
        ∙ sym (val_at m sort.Ip s.Ip y out_Ip)

    -- ---- strings and entities

    on_string : Claim sort.String
    on_string x y p =
        let whole = strings_equation d env goal x y p.first_sort p.second_sort p.first p.second in
        let equal = last m.truths true (equal_term x y) (forth_half sort.String s.String x y p out_String 0 None (so (equal_term x y) ∷ []) tt refl (whole, tt)) in
        val_at m sort.String s.String x out_String
        ∙ ap (λ z. it (value.String z)) ((model.texts x y (p.first, p.first_sort) (p.second, p.second_sort)).1 equal)
        ∙ sym (val_at m sort.String s.String y out_String)

    on_entity : (name : List ℕ) (us : List Uid) → Claim (sort.Entity name us)
    on_entity name us x y p =
        let whole = entities_equation d env goal name us x y p.first_sort p.second_sort p.first p.second in
        let equal = last m.truths true (equal_term x y)
        (forth_half (sort.Entity name us) (s.Entity name us) x y p (out_Entity name us) 0 None (so (equal_term x y) ∷ []) tt refl (whole, tt)) in
        entity_val m name us x
        ∙ ap (λ z. it (value.Entity z)) ((model.uids name us x y (p.first, p.first_sort) (p.second, p.second_sort)).1 equal)
        ∙ sym (entity_val m name us y)

    -- ---- the places are of what is built

    built_one : (k : Sort) (x y : Tree) → ArePlaces k x y → is_built x ≡ true
    built_one k x y p = built_place x y (r, q) p.forth linked.built_first

    built_other : (k : Sort) (x y : Tree) → ArePlaces k x y → is_built y ≡ true
    built_other k x y p = built_place y x (q, r) p.back linked.built_second

    -- ---- sets: the same is assigned to both

    lit_member : (x y : Tree) → lit m.truths (two binary.Member y x) ≡ m.truths (two binary.Member y x)
    unfolding lit
    lit_member x y = refl

    built_plain : (x : Tree) → is_built x ≡ true → written x ≡ None
    built_plain (one o a) h = refl
    built_plain (two o a b) h = refl
    built_plain _ h = absurd cc

    one_kind : (k : Sort) (x y : Tree) → tree_sort x ≡ k → tree_sort y ≡ k → one_sort x y ≡ true
    one_kind k x y e f = (sort_eq_decides (tree_sort x) (tree_sort y)).1 (e ∙ sym f)

    moves_by : (k : Sort) (x y z : Tree) → written x ≡ None → tree_sort x ≡ sort.Set k → tree_sort y ≡ sort.Set k → Closed d env goal y → are_linked x y ≡ true
        → ((parts : List Signed) → Closed d env goal z → parts ≡ unless (two binary.Member z x) ∷ so (two binary.Member z y) ∷ []
        → AllByRecursion (λ (p : Signed). Closed d env goal p.1) parts → some_hold m.truths parts ≡ true)
        → Has (assigned m x) z → Has (assigned m y) z
    moves_by k x y z plain e f c linked holds h =
        let told = is_assigned d env literals goal made m model x z h in
        let there = assigned_sorted d env literals goal made m model k x z e h in
        let after : Closed d env goal (two binary.Member z y) = linked_member d env goal k z x y plain told.0 f c linked in
        let parts : List Signed = unless (two binary.Member z x) ∷ so (two binary.Member z y) ∷ [] in
        assigned_is d env literals goal made m model y z after
        (sym (lit_member y z) ∙ second m.truths false true (two binary.Member z x) (two binary.Member z y)
        (holds parts there.0 refl (told.0, (after, tt))) (lit_member x z ∙ told.1))

    plain_val : (k : Sort) (x : Tree) → written x ≡ None → val_of m (sort.Set k) x ≡ it (value.Set (set_from (map (λ z. value_in (val_of m k z)) (assigned m x))))
    plain_val k x e =
        set_val m k x ∙ ap (λ (o : Option (List Tree)). it (value.Set (set_from (map (λ z. value_in (val_of m k z)) (unwrap_or o (assigned m x)))))) e

    on_set : (k : Sort) → Claim k → Claim (sort.Set k)
    on_set k known x y p =
        let o = out_Set k in
        let one = built_plain x (built_one (sort.Set k) x y p) in
        let other = built_plain y (built_other (sort.Set k) x y p) in
        let way : are_linked x y ≡ true =
        both_true (one_kind (sort.Set k) x y p.first_sort p.second_sort) (ap (λ (z : Tree × Tree). own_sets z.0 z.1) p.forth ∙ linked.own_forth) in
        let turned : are_linked y x ≡ true =
        both_true (one_kind (sort.Set k) y x p.second_sort p.first_sort) (ap (λ (z : Tree × Tree). own_sets z.0 z.1) p.back ∙ linked.own_back) in
        let forth : (z : Tree) → Has (assigned m x) z → Has (assigned m y) z = λ z.
        moves_by k x y z one p.first_sort p.second_sort p.second way (λ parts c e all.
        forth_half (sort.Set k) (s.Set k) x y p o 0 (Some z) parts c (ap Some (sym e)) all) in
        let back : (z : Tree) → Has (assigned m y) z → Has (assigned m x) z = λ z.
        moves_by k y x z other p.second_sort p.first_sort p.first turned (λ parts c e all.
        back_half (sort.Set k) (s.Set k) x y p o 0 (Some z) parts c (ap Some (sym e)) all) in
        let f : Tree → Value = λ z. value_in (val_of m k z) in
        plain_val k x one
        ∙ ap (λ vs. it (value.Set vs)) (one_set (map f (assigned m x)) (map f (assigned m y))
        (λ v h. let z = map-Has f (assigned m x) v h in subst (Has (map f (assigned m y))) z.2 (Has-map f (assigned m y) z.0 (forth z.0 z.1)))
        (λ v h. let z = map-Has f (assigned m y) v h in subst (Has (map f (assigned m x))) z.2 (Has-map f (assigned m x) z.0 (back z.0 z.1))))
        ∙ sym (plain_val k y other)

    -- ---- records and options: step by step

    field_places : (fs : SortFields) (x y : Tree) → ArePlaces (sort.Record fs) x y → (f : SortField) → Has fs f → ArePlaces f.1 (field_term f.0 x) (field_term f.0 y)
    field_places fs x y p f h =
        let one = built_field f.0 x (built_one (sort.Record fs) x y p) in
        let other = built_field f.0 y (built_other (sort.Record fs) x y p) in
        record {
          first = field_closed d env goal fs x f p.first_sort p.first h;
          second = field_closed d env goal fs y f p.second_sort p.second h;
          first_sort = field_sorted fs x f p.first_sort p.first h;
          second_sort = field_sorted fs y f p.second_sort p.second h;
          forth = (λ i. roots (one i) (other i)) ∙ step_roots (unary.Field f.0) (unary.Field f.0) x y (same_field f.0) ∙ p.forth;
          back = (λ i. roots (other i) (one i)) ∙ step_roots (unary.Field f.0) (unary.Field f.0) y x (same_field f.0) ∙ p.back;
        }

    on_record : (fs : SortFields) → ((f : SortField) → Has fs f → Claim f.1) → Claim (sort.Record fs)
    on_record fs known x y p =
        record_val m fs x
        ∙ ap (λ (r : Fields). it (value.Record r)) (same_joined (λ (f : SortField). field_of (f.0, val_of m f.1 (field_term f.0 x)))
        (λ (f : SortField). field_of (f.0, val_of m f.1 (field_term f.0 y))) fs
        (λ f h. ap (λ (v : Val). field_of (f.0, v)) (known f h (field_term f.0 x) (field_term f.0 y) (field_places fs x y p f h))))
        ∙ sym (record_val m fs y)

    held_places : (k : Sort) (x y : Tree) → ArePlaces (sort.Option k) x y → ArePlaces k (held_term x) (held_term y)
    held_places k x y p =
        let one = built_held x (built_one (sort.Option k) x y p) in
        let other = built_held y (built_other (sort.Option k) x y p) in
        record {
          first = held_closed d env goal k x p.first_sort p.first;
          second = held_closed d env goal k y p.second_sort p.second;
          first_sort = held_sorted k x p.first_sort p.first;
          second_sort = held_sorted k y p.second_sort p.second;
          forth = (λ i. roots (one i) (other i)) ∙ step_roots unary.Held unary.Held x y refl ∙ p.forth;
          back = (λ i. roots (other i) (one i)) ∙ step_roots unary.Held unary.Held y x refl ∙ p.back;
        }

    on_option : (k : Sort) → Claim k → Claim (sort.Option k)
    on_option k known x y p =
        let one = present_closed d env goal k x p.first_sort p.first in
        let other = present_closed d env goal k y p.second_sort p.second in
        let present = one_truth (lit m.truths (present_term x)) (lit m.truths (present_term y))
        (λ t. second m.truths false true (present_term x) (present_term y)
        (forth_half (sort.Option k) (s.Option k) x y p (out_Option k) 0 None (unless (present_term x) ∷ so (present_term y) ∷ []) tt refl (one, (other, tt))) t)
        (λ t. second m.truths false true (present_term y) (present_term x)
        (back_half (sort.Option k) (s.Option k) x y p (out_Option k) 0 None (unless (present_term y) ∷ so (present_term x) ∷ []) tt refl (other, (one, tt))) t) in
        let held = known (held_term x) (held_term y) (held_places k x y p) in
        val_at m (sort.Option k) (s.Option k) x (out_Option k)
        ∙ (λ i. held_by (present i) (held i))
        ∙ sym (val_at m (sort.Option k) (s.Option k) y (out_Option k))

    claims : (k : Sort) → Claim k
    claims = by_sorts Claim (record {
      on_bool = on_bool;
      on_long = on_long;
      on_string = on_string;
      on_decimal = on_decimal;
      on_ip = on_ip;
      on_entity = on_entity;
      on_set = on_set;
      on_record = on_record;
      on_option = on_option;
    })

    -- so the two have one value
    pub linked_val : (k : Sort) → Closed d env goal r → Closed d env goal q → tree_sort r ≡ k → tree_sort q ≡ k → roots r q ≡ (r, q) → roots q r ≡ (q, r)
        → val_of m k r ≡ val_of m k q
    linked_val k c h e f forth back =
        claims k r q (record { first = c; second = h; first_sort = e; second_sort = f; forth = forth; back = back })
