-- The values of records, of their fields and of sets.
use Rattle.std.proofs.Common.{◌≡◌, ℕ, Bool, true, false, cond, List, [], ◌∷◌, ◌++◌, map, Option, Some, None, unwrap_or, Result, Ok, Err, IfOk, refl, sym, ap, ◌∙◌, subst}
use Rattle.std.specs.List.{flat_map}
use Rattle.std.specs.Map.{lookup}
use Rattle.std.specs.Str.{bytes_eq}
use Rattle.sc_lists.proofs.TextLaws.{bytes_eq_true}
use Rattle.sc_values.specs.declared.value.Value.{Value}
use Rattle.sc_values.specs.declared.value.Value.TheVariants as value
use Rattle.sc_values.specs.Records.{Fields, field}
use Rattle.sc_values.proofs.OutLaws.{out_Record}
use Rattle.sc_world.specs.declared.world.World.{World}
use Rattle.sc_sorts.specs.declared.sort.Sort.{Sort, Sort-F}
use Rattle.sc_sorts.specs.declared.sort.Sort.TheVariants as sort
use Rattle.sc_sorts.specs.Defaults.{is_option}
use Rattle.sc_sorts.specs.Inside.{fields_in, field_sort}
use Rattle.sc_sorts.proofs.OutLaws as sorts
use Rattle.sc_sorts.specs.declared.node.ManyOp.TheVariants as manys
use Rattle.sc_sorts.specs.declared.node.Node.{Node}
use Rattle.sc_sorts.specs.declared.node.UnaryOp.TheVariants as unary
use Rattle.sc_terms.specs.Trees.{Tree, leaf, one, two, choice, many, Trees, no_part, part, listed, parts_of}
use Rattle.sc_terms.specs.Tables.{StandsFor}
use Rattle.sc_terms.specs.TreeSorts.{tree_sort, sorts_of}
use Rattle.sc_terms.specs.Folds.{without_label, set_term, component, among_parts, field_by, field_term}
use Rattle.sc_terms.specs.Values.{Val, it, maybe, val, vals, value_in, set_from, record_in, fields_seen, field_of, field_seen, field_value, is_maybe, HaveKinds, HasKinds, HasValueWhere}

-- ---- sets

members_are : (ts : List Tree) (w : World) → map (λ (x : List ℕ × Val). value_in x.1) (vals (parts_of (map without_label ts)) w) ≡ map (λ (t : Tree). value_in (val t w)) ts
unfolding val
members_are [] w = refl
members_are (t ∷ ts) w = ap (λ (xs : List Value). value_in (val t w) ∷ xs) (members_are ts w)

pub set_value : (k : Sort) (ts : List Tree) (w : World) → val (set_term k ts) w ≡ it (value.Set (set_from (map (λ (t : Tree). value_in (val t w)) ts)))
unfolding val
set_value k ts w = ap (λ (xs : List Value). it (value.Set (set_from xs))) (members_are ts w)

-- ---- what a record has at the name of a part

-- a value, or what an option holds
abbrev found_in : Val → Option Value
found_in (it x) = Some x
found_in (maybe o) = o

-- past a field of another name
pub passes : (name l : List ℕ) (x : Val) (fs : Fields) → bytes_eq name l ≡ false → field name (field_of (l, x) ++ fs) ≡ field name fs
passes name l (it x) fs e = rw e refl
passes name l (maybe (Some x)) fs e = rw e refl
passes name l (maybe None) fs e = refl

-- at a field of the name
stops : (name l : List ℕ) (x : Val) (fs : Fields) → bytes_eq name l ≡ true → field name fs ≡ None → field name (field_of (l, x) ++ fs) ≡ found_in x
stops name l (it x) fs e h = rw e refl
stops name l (maybe (Some x)) fs e h = rw e refl
stops name l (maybe None) fs e h = h

-- a name that no part has
lacks_by : (b : Bool) (name l : List ℕ) (x : Val) (fs : Fields) (t : Tree) (later : Option Tree) → bytes_eq name l ≡ b → cond b (Some t) later ≡ None
    → (later ≡ None → field name fs ≡ None) → field name (field_of (l, x) ++ fs) ≡ None
lacks_by true name l x fs t later e g next = cc
lacks_by false name l x fs t later e g next = passes name l x fs e ∙ next g

lacks : (name : List ℕ) (ts : Trees) (w : World) → among_parts name ts ≡ None → field name (flat_map field_of (vals ts w)) ≡ None
unfolding val
lacks name no_part w h = refl
lacks name (part l t ts) w h =
    lacks_by (bytes_eq name l) name l (val t w) (flat_map field_of (vals ts w)) t (lookup (bytes_eq name) (listed ts)) refl h (λ g. lacks name ts w g)

-- a name that a part has, and no part after it
found_by : (b : Bool) (name l : List ℕ) (t u : Tree) (ts : Trees) (w : World) (fs : Fields) → bytes_eq name l ≡ b → cond b (Some t) (among_parts name ts) ≡ Some u
    → among_parts l ts ≡ None → (among_parts name ts ≡ None → field name fs ≡ None) → (among_parts name ts ≡ Some u → field name fs ≡ found_in (val u w))
    → field name (field_of (l, val t w) ++ fs) ≡ found_in (val u w)
found_by true name l t u ts w fs e g apart none next =
    let same : t ≡ u = cc in
    let name_is : name ≡ l = bytes_eq_true name l e in
    let last : among_parts name ts ≡ None = subst (λ (n : List ℕ). among_parts n ts ≡ None) (sym name_is) apart in
    stops name l (val t w) fs e (none last) ∙ ap (λ (z : Tree). found_in (val z w)) same
found_by false name l t u ts w fs e g apart none next = passes name l (val t w) fs e ∙ next g

found_at : (name : List ℕ) (ts : Trees) (u : Tree) (w : World) → HaveKinds ts w → among_parts name ts ≡ Some u → field name (flat_map field_of (vals ts w)) ≡ found_in (val u w)
unfolding val
found_at name no_part u w k h = cc
found_at name (part l t ts) u w k h =
    found_by (bytes_eq name l) name l t u ts w (flat_map field_of (vals ts w)) refl h k.0 (λ g. lacks name ts w g) (λ g. found_at name ts u w k.2 g)

-- what holds of the first, or of what is found later
either : (P : Tree → Type 0) (b : Bool) (t u : Tree) (later : Option Tree) → cond b (Some t) later ≡ Some u → P t → (later ≡ Some u → P u) → P u
either P true t u later g p next = let same : t ≡ u = cc in subst P same p
either P false t u later g p next = next g

kind_at : (name : List ℕ) (ts : Trees) (u : Tree) (w : World) → HaveKinds ts w → among_parts name ts ≡ Some u → is_maybe (val u w) ≡ is_option (tree_sort u)
kind_at name no_part u w k h = cc
kind_at name (part l t ts) u w k h =
    either (λ (z : Tree). is_maybe (val z w) ≡ is_option (tree_sort z)) (bytes_eq name l) t u (among_parts name ts) h k.1 (λ g. kind_at name ts u w k.2 g)

-- the sort at a name
sort_by : (b : Bool) (t u : Tree) (later : Option Tree) (sorts : Option Sort) → cond b (Some t) later ≡ Some u → (later ≡ Some u → sorts ≡ Some (tree_sort u))
    → cond b (Some (tree_sort t)) sorts ≡ Some (tree_sort u)
sort_by true t u later sorts g next = let same : t ≡ u = cc in ap (λ (z : Tree). Some (tree_sort z)) same
sort_by false t u later sorts g next = next g

sort_at : (name : List ℕ) (ts : Trees) (u : Tree) → among_parts name ts ≡ Some u → lookup (bytes_eq name) (sorts_of ts) ≡ Some (tree_sort u)
unfolding tree_sort
sort_at name no_part u h = cc
sort_at name (part l t ts) u h =
    sort_by (bytes_eq name l) t u (among_parts name ts) (lookup (bytes_eq name) (sorts_of ts)) h (λ g. sort_at name ts u g)

field_sort_is : (name : List ℕ) (ts : Trees) (u : Tree) → among_parts name ts ≡ Some u → field_sort name (tree_sort (many manys.Record ts)) ≡ tree_sort u
unfolding tree_sort
field_sort_is name ts u h =
    ap (λ (z : Sort-F Sort). unwrap_or (lookup (bytes_eq name) (fields_in z)) sort.Bool) (sorts.out_Record (sorts_of ts))
    ∙ ap (λ (o : Option Sort). unwrap_or o sort.Bool) (sort_at name ts u h)

-- ---- the value of a field

of_kind : (k : Sort) (x : Val) → is_maybe x ≡ is_option k → x ≡ field_seen (is_option k) k (found_in x)
of_kind k (it x) h = rw (← h) refl
of_kind k (maybe o) h = rw (← h) refl

record_of : (ts : Trees) (w : World) → record_in (val (many manys.Record ts) w) ≡ flat_map field_of (vals ts w)
unfolding val
record_of ts w = ap fields_seen (out_Record (flat_map field_of (vals ts w)))

component_is : (name : List ℕ) (r : Tree) (u : Tree) (w : World) → HasKinds r w → component name r ≡ Some u → val u w ≡ field_value name (field_sort name (tree_sort r)) (val r w)
component_is name (many manys.Record ts) u w k h =
    of_kind (tree_sort u) (val u w) (kind_at name ts u w k h)
    ∙ ap (λ (o : Option Value). field_seen (is_option (tree_sort u)) (tree_sort u) o) (sym (ap (field name) (record_of ts w) ∙ found_at name ts u w k h))
    ∙ ap (λ (z : Sort). field_value name z (val (many manys.Record ts) w)) (sym (field_sort_is name ts u h))
component_is name (many (manys.Set s) ts) u w k h = cc
component_is name (leaf l) u w k h = cc
component_is name (one o a) u w k h = cc
component_is name (two o a b) u w k h = cc
component_is name (choice c a b) u w k h = cc

plain_field : (name : List ℕ) (r : Tree) (w : World) → val (one (unary.Field name) r) w ≡ field_value name (field_sort name (tree_sort r)) (val r w)
unfolding val
plain_field name r w = refl

pub field_is : (name : List ℕ) (r : Tree) (w : World) → HasKinds r w → val (field_term name r) w ≡ field_value name (field_sort name (tree_sort r)) (val r w)
unfolding field_term
field_is name r w k = by (component name r) refl
  where
    by : (o : Option Tree) → component name r ≡ o → val (field_by o name r) w ≡ field_value name (field_sort name (tree_sort r)) (val r w)
    by (Some u) e = component_is name r u w k e
    by None e = plain_field name r w

-- the value of a number in the worlds in which something holds
pub valued_where : {E : Type 0} (xs : List Node) (r : Result ℕ E) (t : Tree) (P : World → Type 0) (f : World → Val) → ((w : World) → P w → val t w ≡ f w) → IfOk r (λ n. StandsFor xs n t)
    → IfOk r (λ n. HasValueWhere xs n P f)
valued_where xs (Ok n) t P f same h = record { at = λ w p. ap (λ (x : Tree). val x w) h.is ∙ same w p }
valued_where xs (Err e) t P f same h = tt
