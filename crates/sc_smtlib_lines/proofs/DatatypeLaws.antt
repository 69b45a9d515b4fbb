-- The datatypes that each sort tells of.
use Rattle.std.proofs.lemmas.Cmp.{tied_itself}
use Rattle.std.proofs.Common.{◌≡◌, ◌<◌, ◌||◌, ◌⊎◌, inl, inr, ⊎_elim, ◌+◌, ℕ, zero, suc, length, drop, get_or, arith, List, [], ◌∷◌, ◌++◌, map, flat_map, refl, sym, ap, ◌∙◌, subst}
use Rattle.std.proofs.lemmas.Map.Lookups.{exact_unsigned}
use Rattle.std.specs.List.{AllByRecursion}
use Rattle.std.specs.List.Sorted.{IsStrictlySortedBy}
use Rattle.std.specs.declared.cmp.Ordering.TheVariants.{Less, Equal}
use Rattle.std.specs.Ordering.{nat_cmp, ordering_then}
use Rattle.std.specs.BTreeMap.{is_at}
use Rattle.sc_lists.specs.Ordered.{is_in}
use Rattle.sc_lists.specs.Members.{Has}
use Rattle.sc_lists.proofs.MemberLaws.{Has-map, map-Has}
use Rattle.sc_lists.proofs.OrderedLaws.{none_ascends}
use Rattle.sc_lists.proofs.OrderingLaws.{ordering_then_equal}
use Rattle.sc_names.specs.declared.uid.Uid.{Uid}
use Rattle.sc_sorts.specs.declared.sort.Sort.{Sort, Sort-F, roll-Sort, map-Sort}
use Rattle.sc_sorts.specs.declared.sort.Sort.TheVariants as sort
use Rattle.sc_sorts.specs.declared.sort.Sort.TheVariants.{rolls-Bool, rolls-Long, rolls-String, rolls-Decimal, rolls-Ip, rolls-Entity, rolls-Set, rolls-Record, rolls-Option}
use Rattle.sc_sorts.specs.declared.sort.Sort.TheOpen as s
use Rattle.sc_sorts.specs.Order.{sort_cmp}
use Rattle.sc_smtlib_terms.specs.Seen.{Seen, told_by}
use Rattle.sc_smtlib_terms.proofs.SeenLaws.{seen, told_roll}
use Rattle.sc_smtlib_lines.specs.declared.datatypes.Layered.{Layered}
use Rattle.sc_smtlib_lines.specs.contracts.datatypes.LayeredOrd.TheImpl.Laws.{total-law}
use Rattle.sc_smtlib_lines.specs.Depths.{depth, depth_cmp}
use Rattle.sc_smtlib_lines.specs.Subterms.{AreJust, datatypes_step, datatypes_in}
use Rattle.sc_smtlib_lines.specs.Gaining.{AreLayered, Gains, Leads, layered_cmp, sorts_in}
use Rattle.sc_smtlib_lines.proofs.GainingLaws.{gains_by, gains_none, gains_put, gains_then, leads_begin}

roll : (y : Sort-F Sort) (x : Sort) → roll-Sort y ≡ x
    → datatypes_in x ≡ datatypes_step x (map-Sort Sort (Seen (List Sort)) (seen (List Sort) datatypes_step) y)
unfolding datatypes_in
roll y x e =
    ap datatypes_in (sym e) ∙ told_roll (List Sort) datatypes_step y
    ∙ ap (λ z. datatypes_step z (map-Sort Sort (Seen (List Sort)) (seen (List Sort) datatypes_step) y)) e

pub in_Set : (member : Sort) → datatypes_in (sort.Set member) ≡ datatypes_in member
unfolding datatypes_in told_by
in_Set member = roll (s.Set member) _ (rolls-Set member)

abbrev of_field : List ℕ × Sort → List Sort
of_field f = datatypes_in f.1

of_fields : (fields : List (List ℕ × Sort))
    → flat_map (λ (f : List ℕ × Seen (List Sort)). f.1.1) (map (λ (f : List ℕ × Sort). (f.0, seen (List Sort) datatypes_step f.1)) fields)
    ≡ flat_map of_field fields
unfolding datatypes_in told_by
of_fields [] = refl
of_fields (f ∷ fields) = ap (λ ks. datatypes_in f.1 ++ ks) (of_fields fields)

in_Record : (fields : List (List ℕ × Sort)) → datatypes_in (sort.Record fields) ≡ flat_map of_field fields ++ sort.Record fields ∷ []
in_Record fields = roll (s.Record fields) _ (rolls-Record fields) ∙ ap (λ ks. ks ++ sort.Record fields ∷ []) (of_fields fields)

in_Option : (held : Sort) → datatypes_in (sort.Option held) ≡ datatypes_in held ++ sort.Option held ∷ []
unfolding datatypes_in told_by
in_Option held = roll (s.Option held) _ (rolls-Option held)

-- ---- what a set gains with a sort

none : (xs : List Sort) (k : Sort) → datatypes_in k ≡ [] → Gains xs xs (datatypes_in k)
none xs k e = gains_by xs xs _ [] e (gains_none xs)

pub none_in_Bool : (xs : List Sort) → Gains xs xs (datatypes_in sort.Bool)
none_in_Bool xs = none xs _ (roll s.Bool _ rolls-Bool)

pub none_in_Long : (xs : List Sort) → Gains xs xs (datatypes_in sort.Long)
none_in_Long xs = none xs _ (roll s.Long _ rolls-Long)

pub none_in_String : (xs : List Sort) → Gains xs xs (datatypes_in sort.String)
none_in_String xs = none xs _ (roll s.String _ rolls-String)

pub none_in_Decimal : (xs : List Sort) → Gains xs xs (datatypes_in sort.Decimal)
none_in_Decimal xs = none xs _ (roll s.Decimal _ rolls-Decimal)

pub gains_Ip : (old new : List Sort) → Gains old new (sort.Ip ∷ []) → Gains old new (datatypes_in sort.Ip)
gains_Ip old new h = gains_by old new _ _ (roll s.Ip _ rolls-Ip) h

pub gains_Entity : (old new : List Sort) (name : List ℕ) (choices : List Uid) → Gains old new (sort.Entity name choices ∷ [])
    → Gains old new (datatypes_in (sort.Entity name choices))
gains_Entity old new name choices h = gains_by old new _ _ (roll (s.Entity name choices) _ (rolls-Entity name choices)) h

pub gains_Set : (old new : List Sort) (member : Sort) → Gains old new (datatypes_in member) → Gains old new (datatypes_in (sort.Set member))
gains_Set old new member h = gains_by old new _ _ (in_Set member) h

pub gains_Record : (old mid new : List Sort) (fields : List (List ℕ × Sort)) → Gains old mid (flat_map of_field fields) → Gains mid new (sort.Record fields ∷ [])
    → Gains old new (datatypes_in (sort.Record fields))
gains_Record old mid new fields g h = gains_by old new _ _ (in_Record fields) (gains_then old mid new _ _ g h)

pub gains_Option : (old mid new : List Sort) (held : Sort) → Gains old mid (datatypes_in held) → Gains mid new (sort.Option held ∷ [])
    → Gains old new (datatypes_in (sort.Option held))
gains_Option old mid new held g h = gains_by old new _ _ (in_Option held) (gains_then old mid new _ _ g h)

-- ---- the set by depths

exact : ((a b : Sort) → sort_cmp a b ≡ Equal → a ≡ b) → (a b : Layered) → layered_cmp a b ≡ Equal → a ≡ b
unfolding sort_cmp
exact sorts a b h =
    let p = ordering_then_equal (nat_cmp a.depth b.depth) _ h in
    let d : a.depth ≡ b.depth = exact_unsigned a.depth b.depth p.0 in
    let k : a.sort ≡ b.sort = sorts a.sort b.sort p.1 in
    λ i. record { depth = d i; sort = k i }

-- a sort with its depth is put
pub layers_more : ((a b : Sort) → sort_cmp a b ≡ Equal → a ≡ b) → (old new : List Layered) (l : Layered) → AreLayered old → l.depth ≡ depth l.sort
    → IsStrictlySortedBy layered_cmp new → ((y : Layered) → is_in layered_cmp y new ≡ (is_in layered_cmp y old || is_at (layered_cmp y) l)) → AreLayered new
layers_more sorts old new l was own ascending h = record { ascending = ascending; depths = depths }
  where
    gains : Gains old new (l ∷ [])
    gains = gains_put layered_cmp (exact sorts) (tied_itself total-law) old new l h

    one : (m : Layered) → Has (l ∷ []) m → m.depth ≡ depth m.sort
    one m (inl e) = subst (λ (z : Layered). z.depth ≡ depth z.sort) e own
    one m (inr k) = absurd k

    depths : (m : Layered) → Has new m → m.depth ≡ depth m.sort
    depths m k = ⊎_elim (λ n. was.depths m n) (λ n. one m n) ((gains.are m).0 k)

last_sort : (l q : Layered) (k x : Sort) → l.sort ≡ k → q.sort ≡ x → Has (l ∷ []) q → Has (k ∷ []) x
last_sort l q k x e same (inl same_layer) = inl (sym e ∙ ap (λ (z : Layered). z.sort) same_layer ∙ same)
last_sort l q k x e same (inr n) = absurd n

pub gains_sorts : ((a b : Sort) → sort_cmp a b ≡ Equal → a ≡ b) → (old new : List Layered) (l : Layered) (k : Sort) → l.sort ≡ k
    → ((y : Layered) → is_in layered_cmp y new ≡ (is_in layered_cmp y old || is_at (layered_cmp y) l)) → Gains (sorts_in old) (sorts_in new) (k ∷ [])
gains_sorts sorts old new l k e h = record { are = λ x. (to x, from x) }
  where
    g : Gains old new (l ∷ [])
    g = gains_put layered_cmp (exact sorts) (tied_itself total-law) old new l h

    to : (x : Sort) → Has (sorts_in new) x → Has (sorts_in old) x ⊎ Has (k ∷ []) x
    to x m =
        let p = map-Has (λ (l : Layered). l.sort) new x m in
        ⊎_elim (λ n. inl (subst (Has (sorts_in old)) p.2 (Has-map (λ (l : Layered). l.sort) old p.0 n))) (λ n. inr (last_sort l p.0 k x e p.2 n)) ((g.are p.0).0 p.1)

    from : (x : Sort) → Has (sorts_in old) x ⊎ Has (k ∷ []) x → Has (sorts_in new) x
    from x (inl m) = let p = map-Has (λ (l : Layered). l.sort) old x m in subst (Has (sorts_in new)) p.2 (Has-map (λ (l : Layered). l.sort) new p.0 ((g.are p.0).1 (inl p.1)))
    from x (inr (inl same)) = subst (Has (sorts_in new)) (e ∙ same) (Has-map (λ (l : Layered). l.sort) new l ((g.are l).1 (inr (inl refl))))
    from x (inr (inr m)) = absurd m

-- in the end the sorts are in their order
below : (l : Layered) (set : List Layered) → l.depth ≡ depth l.sort → ((m : Layered) → Has set m → m.depth ≡ depth m.sort)
    → AllByRecursion (λ m. layered_cmp l m ≡ Less) set → AllByRecursion (λ k. depth_cmp l.sort k ≡ Less) (sorts_in set)
unfolding sort_cmp
below l [] own depths h = tt
below l (m ∷ set) own depths h =
    (sym (λ i. ordering_then (nat_cmp (own i) (depths m (inl refl) i)) (sort_cmp l.sort m.sort)) ∙ h.0, below l set own (λ m k. depths m (inr k)) h.1)

sorted : (set : List Layered) → ((l : Layered) → Has set l → l.depth ≡ depth l.sort) → IsStrictlySortedBy layered_cmp set → IsStrictlySortedBy depth_cmp (sorts_in set)
unfolding IsStrictlySortedBy
sorted [] depths h = tt
sorted (l ∷ set) depths h = (below l set (depths l (inl refl)) (λ m k. depths m (inr k)) h.0, sorted set (λ m k. depths m (inr k)) h.1)

pub just_sorts : (set : List Layered) (all : List Sort) → AreLayered set → Gains [] (sorts_in set) all → AreJust depth_cmp (Has all) (sorts_in set)
just_sorts set all is gains = record {
  ascending = sorted set is.depths is.ascending;
  just = λ x. (λ h. ⊎_elim (λ k. absurd k) (λ k. k) ((gains.are x).0 h), λ h. (gains.are x).1 (inr h));
}

-- ---- the beginning

pub none_layered : (set : List Layered) → set ≡ [] → AreLayered set
none_layered set e = subst AreLayered (sym e) (record { ascending = none_ascends layered_cmp [] refl; depths = λ l h. absurd h })

pub leads_none : (set : List Layered) (all : List Sort) → set ≡ [] → Leads [] (sorts_in set) all all
leads_none set all e = subst (λ z. Leads [] (sorts_in z) all all) (sym e) (leads_begin [] all)

-- ---- the fields of a record one after the other

drop_next : {X : Type 0} (xs : List X) (i : ℕ) (x : X) → i < length xs → get_or xs i x ≡ x → drop i xs ≡ x ∷ drop (suc i) xs
drop_next [] i x h e = absurd (omega (arith, h))
drop_next (y ∷ xs) zero x h e = λ j. e j ∷ xs
drop_next (y ∷ xs) (suc i) x h e = drop_next xs i x (omega (arith, h)) e

pub drop_step : {X : Type 0} (xs : List X) (i : ℕ) (x : X) → i < length xs → get_or xs i x ≡ x → drop i xs ≡ x ∷ drop (i + 1) xs
drop_step xs i x h e = let further : suc i ≡ i + 1 = omega arith in drop_next xs i x h e ∙ ap (λ k. x ∷ drop k xs) further
