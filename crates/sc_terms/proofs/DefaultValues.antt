-- The value of a default term is the default of its sort.
use Rattle.std.proofs.Common.{◌≡◌, ℕ, Bool, true, false, List, [], ◌∷◌, ◌++◌, map, Option, Some, None, refl, sym, ap, ◌∙◌, subst}
use Rattle.std.specs.List.{flat_map}
use Rattle.sc_values.specs.declared.value.Value.{Value}
use Rattle.sc_values.specs.declared.value.Value.TheVariants as value
use Rattle.sc_values.specs.Records.{Fields}
use Rattle.sc_world.specs.declared.world.World.{World}
use Rattle.sc_sorts.specs.declared.sort.Sort.{Sort, Sort-F, out-Sort, roll-Sort, map-Sort, ind-Sort}
use Rattle.sc_sorts.specs.declared.sort.Sort.TheVariants as sort
use Rattle.sc_sorts.specs.declared.sort.Sort.TheVariants.{rolls-Bool, rolls-Long, rolls-String, rolls-Decimal, rolls-Ip, rolls-Entity, rolls-Set, rolls-Record, rolls-Option}
use Rattle.sc_sorts.specs.declared.sort.Sort.TheOpen as s
use Rattle.sc_sorts.specs.Defaults.{is_option_level, is_option, default_field, default_of}
use Rattle.sc_sorts.specs.Inside.{held_in}
use Rattle.sc_sorts.proofs.OutLaws.{out_Bool, out_Long, out_String, out_Decimal, out_Ip, out_Entity, out_Set, out_Record, out_Option}
use Rattle.sc_sorts.proofs.DefaultLaws as plain
use Rattle.sc_sorts.specs.declared.node.Leaf.TheVariants as leafs
use Rattle.sc_sorts.specs.declared.node.UnaryOp.TheVariants as unary
use Rattle.sc_terms.specs.Trees.{Tree, leaf, one, two, choice, many, parts_of}
use Rattle.sc_terms.specs.TreeSorts.{tree_sort}
use Rattle.sc_terms.specs.Folds.{default_term, default_parts, absent, held_by, held_term}
use Rattle.sc_terms.specs.Values.{Val, it, val, vals, default_by, default_val, field_of, set_from}
use Rattle.sc_terms.proofs.DefaultLaws.{with_default, default_Bool, default_Long, default_String, default_Decimal, default_Ip, default_Entity, default_Set, default_Record, default_Option}

abbrev HasDefault : Sort → Type 0
HasDefault k = (w : World) → val (default_term k) w ≡ default_val k

-- a sort that is none of options, whose default term has this value
given : (k : Sort) (t : Tree) (x : Value) → default_term k ≡ t → ((w : World) → val t w ≡ it x) → is_option k ≡ false → default_of k ≡ x → HasDefault k
given k t x e f g h w = ap (λ (z : Tree). val z w) e ∙ f w ∙ sym (ap (λ (b : Bool). default_by b (default_of k)) g ∙ ap it h)

-- ---- records

abbrev Known : Type 0
Known = (k : Sort) × HasDefault k

abbrev forget : List ℕ × Known → List ℕ × Sort
forget e = (e.0, e.1.0)

one_field : (b : Bool) (name : List ℕ) (x : Value) → field_of (name, default_by b x) ≡ default_field name b x
one_field true name x = refl
one_field false name x = refl

each_field : (es : List (List ℕ × Known)) (w : World) → flat_map field_of (vals (parts_of (map with_default (map forget es))) w) ≡ plain.default_fields (map forget es)
unfolding val
each_field [] w = refl
each_field (e ∷ es) w =
    let first : field_of (e.0, val (default_term e.1.0) w) ≡ default_field e.0 (is_option e.1.0) (default_of e.1.0) =
    ap (λ (x : Val). field_of (e.0, x)) (e.1.1 w) ∙ one_field (is_option e.1.0) e.0 (default_of e.1.0) in
    let rest = each_field es w in
    λ i. first i ++ rest i

record_value : (es : List (List ℕ × Known)) (w : World) → val (default_parts (map forget es)) w ≡ it (value.Record (plain.default_fields (map forget es)))
unfolding val
record_value es w = ap (λ (fs : Fields). it (value.Record fs)) (each_field es w)

-- ---- each sort

none_level : {x : Sort-F Sort} (k : Sort) → out-Sort k ≡ x → is_option_level Sort x ≡ false → is_option k ≡ false
none_level k e h = ap (is_option_level Sort) e ∙ h

abbrev AtLevel : Sort-F Sort → Type 0
AtLevel x = HasDefault (roll-Sort x)

inner : (y : Sort-F Known) → AtLevel (map-Sort Known Sort (λ e. e.0) y)
unfolding val set_from
inner s.Bool = subst HasDefault (sym rolls-Bool) (given sort.Bool _ _ default_Bool (λ w. refl) (none_level sort.Bool out_Bool refl) plain.default_Bool)
inner s.Long = subst HasDefault (sym rolls-Long) (given sort.Long _ _ default_Long (λ w. refl) (none_level sort.Long out_Long refl) plain.default_Long)
inner s.String = subst HasDefault (sym rolls-String) (given sort.String _ _ default_String (λ w. refl) (none_level sort.String out_String refl) plain.default_String)
inner s.Decimal = subst HasDefault (sym rolls-Decimal) (given sort.Decimal _ _ default_Decimal (λ w. refl) (none_level sort.Decimal out_Decimal refl) plain.default_Decimal)
inner s.Ip = subst HasDefault (sym rolls-Ip) (given sort.Ip _ _ default_Ip (λ w. refl) (none_level sort.Ip out_Ip refl) plain.default_Ip)
inner (s.Entity name us) =
    subst HasDefault (sym (rolls-Entity name us))
    (given (sort.Entity name us) _ _ (default_Entity name us) (λ w. refl) (none_level (sort.Entity name us) (out_Entity name us) refl) (plain.default_Entity name us))
inner (s.Set e) =
    subst HasDefault (sym (rolls-Set e.0))
    (given (sort.Set e.0) _ _ (default_Set e.0) (λ w. refl) (none_level (sort.Set e.0) (out_Set e.0) refl) (plain.default_Set e.0))
inner (s.Record es) =
    let fields = map forget es in
    subst HasDefault (sym (rolls-Record fields))
    (given (sort.Record fields) _ _ (default_Record fields) (record_value es) (none_level (sort.Record fields) (out_Record fields) refl) (plain.default_Record fields))
inner (s.Option e) =
    subst HasDefault (sym (rolls-Option e.0))
    (λ w. ap (λ (z : Tree). val z w) (default_Option e.0) ∙ sym (ap (λ (b : Bool). default_by b (default_of (sort.Option e.0))) (ap (is_option_level Sort) (out_Option e.0))))

pub default_is : (k : Sort) (w : World) → val (default_term k) w ≡ default_val k
default_is = ind-Sort HasDefault (λ x y e. subst AtLevel e (inner y))

-- ---- what an absent option holds

absent_tree : (a : Tree) (k : Sort) → absent a ≡ Some k → a ≡ leaf (leafs.None k)
absent_tree (leaf (leafs.None s)) k h = let e : s ≡ k = cc in ap (λ (z : Sort). leaf (leafs.None z)) e
absent_tree (leaf (leafs.Literal l)) k h = cc
absent_tree (leaf (leafs.Principal s)) k h = cc
absent_tree (leaf (leafs.Resource s)) k h = cc
absent_tree (leaf (leafs.Context s)) k h = cc
absent_tree (one o a) k h = cc
absent_tree (two o a b) k h = cc
absent_tree (choice c a b) k h = cc
absent_tree (many o ts) k h = cc

none_held : (k : Sort) (w : World) → default_val k ≡ val (one unary.Held (leaf (leafs.None k))) w
unfolding val tree_sort
none_held k w = ap default_val (sym (ap held_in (out_Option k)))

pub held_is : (a : Tree) (w : World) → val (held_term a) w ≡ val (one unary.Held a) w
unfolding held_term
held_is a w = by (absent a) refl
  where
    by : (o : Option Sort) → absent a ≡ o → val (held_by o a) w ≡ val (one unary.Held a) w
    by (Some k) e = default_is k w ∙ none_held k w ∙ ap (λ (z : Tree). val (one unary.Held z) w) (sym (absent_tree a k e))
    by None e = refl
