-- Sets and records that are written: what they are compiled to agrees with what they come to.
use Rattle.std.proofs.Common.{◌≡◌, inl, inr, ℕ, List, [], ◌∷◌, ◌++◌, map, fold, Bool, true, false, cond, ◌&&◌, Result, Ok, Err, All, Contains, Ordering, Less, Equal, Greater, refl, ap, sym, subst, ◌∙◌}
use Rattle.std.specs.BTreeMap.{insert_entry}
use Rattle.std.specs.List.{list_all, flat_map}
use Rattle.std.specs.Ordering.{match_ordering}
use Rattle.std.proofs.lemmas.List.Elements.{All-nil, All-cons}
use Rattle.sc_lists.proofs.ListLaws.{contains_first, contains_rest, contains_split, contains_nothing, all_element, all_of_elements}
use Rattle.sc_names.specs.Uids.{text_cmp}
use Rattle.sc_values.specs.declared.value.Value.{Value}
use Rattle.sc_values.specs.declared.value.Value.TheVariants as value
use Rattle.sc_values.specs.Order.{value_cmp}
use Rattle.sc_values.specs.Records.{Fields}
use Rattle.sc_values.proofs.OrderLaws.{value_cmp_level}
use Rattle.sc_world.specs.declared.world.World.{World}
use Rattle.sc_eval.specs.declared.error.EvalError.{EvalError}
use Rattle.sc_eval.specs.Outcomes.{Outcome, ◌>>=◌}
use Rattle.sc_eval.specs.Collections.{set_value, with_field, fields_of, record_value}
use Rattle.sc_eval.specs.Eval.{Meaning, all_values, all_fields}
use Rattle.sc_eval.specs.CollectionLaws.{set_is}
use Rattle.sc_sorts.specs.declared.node.ManyOp.TheVariants as manys
use Rattle.sc_terms.specs.Trees.{Tree, Labelled, parts_of}
use Rattle.sc_terms.specs.Folds.{truth_term, and_term}
use Rattle.sc_terms.specs.Joined.{all_of}
use Rattle.sc_terms.specs.Values.{Val, it, yes, val, vals, value_in, truth, set_from, put_by, put_value, field_of, and_value}
use Rattle.sc_terms.proofs.FoldValues.{truth_yes, truth_is, and_is, many_is}
use Rattle.sc_terms.proofs.JoinedKeeps.{joined_keeps}
use Rattle.sc_terms.proofs.JoinedLaws.{all_true}
use Rattle.sc_terms.proofs.RecordValues as records
use Rattle.sc_term_laws.proofs.FitSets.{set_ascends, set_each}
use Rattle.sc_constructs.specs.Code.{Code, CodeField, oks, vals as values_of, first_sort, set_code, field_codes, with_part, in_order, record_code}
use Rattle.sc_symeval.specs.Agreement.{Agrees}
use Rattle.sc_symeval_laws.proofs.AgreeLaws.{and_yes}

-- ---- the set of a list of values

put_keeps : (x : Value) (xs : List Value) (z : Value) → Contains xs z → Contains (put_value x xs) z
unfolding put_value
put_keeps x [] z has = absurd (contains_nothing z has)
put_keeps x (y ∷ ys) z has = by (value_cmp x y) (put_keeps x ys z)
  where
    by : (o : Ordering) → (Contains ys z → Contains (put_value x ys) z) → Contains (put_by o x y ys (put_value x ys)) z
    by Less later = contains_rest x (y ∷ ys) z has
    by Equal later = has
    by Greater later = elim (contains_split y ys z has) [
      | inl here ↦ subst (Contains (y ∷ put_value x ys)) here (contains_first y (put_value x ys))
      | inr behind ↦ contains_rest y (put_value x ys) z (later behind)
    ]

put_has : (x : Value) (xs : List Value) → Contains (put_value x xs) x
unfolding put_value
put_has x [] = contains_first x []
put_has x (y ∷ ys) = by (value_cmp x y) refl (put_has x ys)
  where
    by : (o : Ordering) → value_cmp x y ≡ o → Contains (put_value x ys) x → Contains (put_by o x y ys (put_value x ys)) x
    by Less e later = contains_first x (y ∷ ys)
    by Equal e later = subst (λ (z : Value). Contains (y ∷ ys) z) (sym ((value_cmp_level x y).0 e)) (contains_first y ys)
    by Greater e later = contains_rest y (put_value x ys) x later

from_has : (xs : List Value) (z : Value) → Contains xs z → Contains (set_from xs) z
unfolding set_from
from_has [] z has = absurd (contains_nothing z has)
from_has (x ∷ xs) z has = elim (contains_split x xs z has) [
  | inl here ↦ subst (Contains (put_value x (set_from xs))) here (put_has x (set_from xs))
  | inr later ↦ put_keeps x (set_from xs) z (from_has xs z later)
]

from_only : (xs : List Value) (z : Value) → Contains (set_from xs) z → Contains xs z
from_only xs z has = all_element (Contains xs) (set_from xs) z (set_each (Contains xs) xs (all_of_elements (Contains xs) xs (λ x k. k))) has

-- it is the set that evaluation makes
set_from_is : (xs : List Value) → value.Set (set_from xs) ≡ set_value xs
set_from_is xs = set_is xs (set_from xs) (record { ascending = set_ascends xs; just = λ x. (from_only xs x, from_has xs x) })

module _ (w : World) where
  -- ---- all of a list of truth values

  abbrev IsYes : Tree → Type 0
  IsYes t = (b : Bool) × (val t w ≡ yes b)

  abbrev holds : Tree → Bool
  holds t = truth (val t w)

  all_yes : (ts : List Tree) → All IsYes ts → val (all_of ts) w ≡ yes (list_all holds ts)
  all_yes ts h =
      let whole = joined_keeps IsYes and_term (truth_term true) (true, truth_is true w) both _ ts h in
      whole.1 ∙ ap yes (sym (truth_yes whole.0) ∙ ap truth (sym whole.1) ∙ all_true w ts)
    where
      chosen : (p q : Bool) (b : Tree) → val b w ≡ yes q → (r : Bool) × (cond p (val b w) (yes false) ≡ yes r)
      chosen true q b k = (q, k)
      chosen false q b k = (false, refl)

      both : (a b : Tree) → IsYes a → IsYes b → IsYes (and_term a b)
      both a b g k =
          let r = chosen g.0 k.0 b k.1 in
          (r.0, and_is a b w ∙ ap (λ (x : Val). and_value x (val b w)) g.1 ∙ and_yes g.0 (val b w) ∙ r.1)

  ok_of : (c : Code) (o : Outcome) → Agrees w c o → IsYes c.ok
  ok_of c (Ok x) h = (true, h.0)
  ok_of c (Err e) h = (false, h)

  -- ---- members

  -- each agrees with what it comes to
  abbrev pub AgreeAll : List Code → List Meaning → Type 0
  AgreeAll [] [] = Unit {0}
  AgreeAll [] (m ∷ ms) = ⊥
  AgreeAll (c ∷ cs) [] = ⊥
  AgreeAll (c ∷ cs) (m ∷ ms) = Agrees w c (m w) × AgreeAll cs ms

  abbrev AreVals : List Code → List Value → Type 0
  AreVals [] [] = Unit {0}
  AreVals [] (x ∷ xs) = ⊥
  AreVals (c ∷ cs) [] = ⊥
  AreVals (c ∷ cs) (x ∷ xs) = (val c.val w ≡ it x) × AreVals cs xs

  abbrev ValuesTold : List Code → Result (List Value) EvalError → Type 0
  ValuesTold cs (Ok xs) = (list_all holds (oks cs) ≡ true) × AreVals cs xs
  ValuesTold cs (Err e) = list_all holds (oks cs) ≡ false

  held : (c : Code) (b : Bool) → val c.ok w ≡ yes b → holds c.ok ≡ b
  held c b h = ap truth h ∙ truth_yes b

  member_told : (c : Code) (cs : List Code) (o : Outcome) (r : Result (List Value) EvalError) → Agrees w c o → ValuesTold cs r → ValuesTold (c ∷ cs) (o >>= λ y. r >>= λ ys. Ok (y ∷ ys))
  member_told c cs (Ok x) (Ok xs) h k = (ap (λ (b : Bool). b && list_all holds (oks cs)) (held c true h.0) ∙ k.0, (h.1, k.1))
  member_told c cs (Ok x) (Err e) h k = ap (λ (b : Bool). b && list_all holds (oks cs)) (held c true h.0) ∙ k
  member_told c cs (Err e) r h k = ap (λ (b : Bool). b && list_all holds (oks cs)) (held c false h)

  values_told : (cs : List Code) (ms : List Meaning) → AgreeAll cs ms → ValuesTold cs (all_values ms w)
  values_told [] [] h = (refl, tt)
  values_told [] (m ∷ ms) h = absurd h
  values_told (c ∷ cs) [] h = absurd h
  values_told (c ∷ cs) (m ∷ ms) h = member_told c cs (m w) (all_values ms w) h.0 (values_told cs ms h.1)

  all_oks : (cs : List Code) (ms : List Meaning) → AgreeAll cs ms → All IsYes (oks cs)
  all_oks [] ms h = All-nil IsYes
  all_oks (c ∷ cs) [] h = absurd h
  all_oks (c ∷ cs) (m ∷ ms) h = All-cons IsYes c.ok (oks cs) (ok_of c (m w) h.0) (all_oks cs ms h.1)

  values_are : (cs : List Code) (xs : List Value) → AreVals cs xs → map (λ (t : Tree). value_in (val t w)) (values_of cs) ≡ xs
  values_are [] [] h = refl
  values_are [] (x ∷ xs) h = absurd h
  values_are (c ∷ cs) [] h = absurd h
  values_are (c ∷ cs) (x ∷ xs) h = let first = ap value_in h.0 in let rest = values_are cs xs h.1 in λ i. first i ∷ rest i

  pub set_agrees : (cs : List Code) (ms : List Meaning) → AgreeAll cs ms → Agrees w (set_code cs) (all_values ms w >>= λ ys. Ok (set_value ys))
  set_agrees cs ms h = by (all_values ms w) (values_told cs ms h)
    where
      by : (r : Result (List Value) EvalError) → ValuesTold cs r → Agrees w (set_code cs) (r >>= λ ys. Ok (set_value ys))
      by (Ok xs) k = (
        all_yes (oks cs) (all_oks cs ms h) ∙ ap yes k.0,
        records.set_value (first_sort (values_of cs)) (values_of cs) w ∙ ap (λ (ys : List Value). it (value.Set (set_from ys))) (values_are cs xs k.1) ∙ ap it (set_from_is xs),
      )
      by (Err e) k = all_yes (oks cs) (all_oks cs ms h) ∙ ap yes k

  -- ---- fields

  abbrev MeaningField : Type 0
  MeaningField = List ℕ × Meaning

  abbrev pub AgreeFields : List CodeField → List MeaningField → Type 0
  AgreeFields [] [] = Unit {0}
  AgreeFields [] (m ∷ ms) = ⊥
  AgreeFields (c ∷ cs) [] = ⊥
  AgreeFields (c ∷ cs) (m ∷ ms) = (c.0 ≡ m.0) × Agrees w c.1 (m.1 w) × AgreeFields cs ms

  -- the fields' values, under their names
  abbrev AreFieldVals : List CodeField → Fields → Type 0
  AreFieldVals [] [] = Unit {0}
  AreFieldVals [] (g ∷ gs) = ⊥
  AreFieldVals (c ∷ cs) [] = ⊥
  AreFieldVals (c ∷ cs) (g ∷ gs) = (c.0 ≡ g.0) × (val c.1.val w ≡ it g.1) × AreFieldVals cs gs

  abbrev FieldsTold : List CodeField → Result Fields EvalError → Type 0
  FieldsTold cs (Ok gs) = (list_all holds (oks (field_codes cs)) ≡ true) × AreFieldVals cs gs
  FieldsTold cs (Err e) = list_all holds (oks (field_codes cs)) ≡ false

  field_told : (c : CodeField) (cs : List CodeField) (name : List ℕ) (o : Outcome) (r : Result Fields EvalError) → c.0 ≡ name → Agrees w c.1 o → FieldsTold cs r
      → FieldsTold (c ∷ cs) (o >>= λ y. r >>= λ gs. Ok ((name, y) ∷ gs))
  field_told c cs name (Ok x) (Ok xs) n h k = (ap (λ (b : Bool). b && list_all holds (oks (field_codes cs))) (held c.1 true h.0) ∙ k.0, (n, h.1, k.1))
  field_told c cs name (Ok x) (Err e) n h k = ap (λ (b : Bool). b && list_all holds (oks (field_codes cs))) (held c.1 true h.0) ∙ k
  field_told c cs name (Err e) r n h k = ap (λ (b : Bool). b && list_all holds (oks (field_codes cs))) (held c.1 false h)

  fields_told : (cs : List CodeField) (ms : List MeaningField) → AgreeFields cs ms → FieldsTold cs (all_fields ms w)
  fields_told [] [] h = (refl, tt)
  fields_told [] (m ∷ ms) h = absurd h
  fields_told (c ∷ cs) [] h = absurd h
  fields_told (c ∷ cs) (m ∷ ms) h = field_told c cs m.0 (m.1 w) (all_fields ms w) h.0 h.1 (fields_told cs ms h.2)

  field_oks : (cs : List CodeField) (ms : List MeaningField) → AgreeFields cs ms → All IsYes (oks (field_codes cs))
  field_oks [] ms h = All-nil IsYes
  field_oks (c ∷ cs) [] h = absurd h
  field_oks (c ∷ cs) (m ∷ ms) h = All-cons IsYes c.1.ok (oks (field_codes cs)) (ok_of c.1 (m.1 w) h.1) (field_oks cs ms h.2)

  -- terms in the order of names, and values in it
  abbrev AreParts : List Labelled → Fields → Type 0
  AreParts [] [] = Unit {0}
  AreParts [] (g ∷ gs) = ⊥
  AreParts (p ∷ ps) [] = ⊥
  AreParts (p ∷ ps) (g ∷ gs) = (p.0 ≡ g.0) × (val p.1 w ≡ it g.1) × AreParts ps gs

  put_at : (o : Ordering) (p : Labelled) (ps : List Labelled) (g : List ℕ × Value) (gs : Fields) (name : List ℕ) (t : Tree) (x : Value) → p.0 ≡ g.0 → val p.1 w ≡ it g.1 → AreParts ps gs → val t w ≡ it x
      → AreParts (insert_entry text_cmp ps name t) (insert_entry text_cmp gs name x)
      → AreParts (match_ordering o ((name, t) ∷ p ∷ ps) ((p.0, t) ∷ ps) (p ∷ insert_entry text_cmp ps name t)) (match_ordering o ((name, x) ∷ g ∷ gs) ((g.0, x) ∷ gs) (g ∷ insert_entry text_cmp gs name x))
  put_at Less p ps g gs name t x same here rest new later = (refl, new, (same, here, rest))
  put_at Equal p ps g gs name t x same here rest new later = (same, new, rest)
  put_at Greater p ps g gs name t x same here rest new later = (same, here, later)

  put_part : (ps : List Labelled) (gs : Fields) (name : List ℕ) (t : Tree) (x : Value) → AreParts ps gs → val t w ≡ it x → AreParts (insert_entry text_cmp ps name t) (insert_entry text_cmp gs name x)
  put_part [] [] name t x h new = (refl, new, tt)
  put_part [] (g ∷ gs) name t x h new = absurd h
  put_part (p ∷ ps) [] name t x h new = absurd h
  put_part (p ∷ ps) (g ∷ gs) name t x h new =
      subst (λ (n : List ℕ). AreParts (insert_entry text_cmp (p ∷ ps) name t) (match_ordering (text_cmp name n) ((name, x) ∷ g ∷ gs) ((g.0, x) ∷ gs) (g ∷ insert_entry text_cmp gs name x))) h.0
      (put_at (text_cmp name p.0) p ps g gs name t x h.0 h.1 h.2 new (put_part ps gs name t x h.2 new))

  all_put : (cs : List CodeField) (gs : Fields) (ps : List Labelled) (fs : Fields) → AreFieldVals cs gs → AreParts ps fs → AreParts (fold with_part ps cs) (fold with_field fs gs)
  all_put [] [] ps fs h k = k
  all_put [] (g ∷ gs) ps fs h k = absurd h
  all_put (c ∷ cs) [] ps fs h k = absurd h
  all_put (c ∷ cs) (g ∷ gs) ps fs h k =
      all_put cs gs (with_part ps c) (with_field fs g) h.2 (subst (λ (n : List ℕ). AreParts (with_part ps c) (insert_entry text_cmp fs n g.1)) h.0 (put_part ps fs c.0 c.1.val g.1 k h.1))

  parts_are : (ps : List Labelled) (gs : Fields) → AreParts ps gs → flat_map field_of (vals (parts_of ps) w) ≡ gs
  unfolding val
  parts_are [] [] h = refl
  parts_are [] (g ∷ gs) h = absurd h
  parts_are (p ∷ ps) [] h = absurd h
  parts_are (p ∷ ps) (g ∷ gs) h =
      let rest = parts_are ps gs h.2 in
      ap (λ (x : Val). field_of (p.0, x) ++ flat_map field_of (vals (parts_of ps) w)) h.1
      ∙ λ i. (h.0 i, g.1) ∷ rest i

  pub record_agrees : (cs : List CodeField) (ms : List MeaningField) → AgreeFields cs ms → Agrees w (record_code cs) (all_fields ms w >>= λ gs. Ok (record_value gs))
  record_agrees cs ms h = by (all_fields ms w) (fields_told cs ms h)
    where
      by : (r : Result Fields EvalError) → FieldsTold cs r → Agrees w (record_code cs) (r >>= λ gs. Ok (record_value gs))
      by (Ok gs) k = (
        all_yes (oks (field_codes cs)) (field_oks cs ms h) ∙ ap yes k.0,
        many_is manys.Record (parts_of (in_order cs)) w ∙ ap (λ (fs : Fields). it (value.Record fs)) (parts_are (in_order cs) (fields_of gs) (all_put cs gs [] [] k.1 tt)),
      )
      by (Err e) k = all_yes (oks (field_codes cs)) (field_oks cs ms h) ∙ ap yes k
