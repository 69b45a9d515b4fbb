-- A value of a type fits the type's sort.
use Rattle.std.proofs.Common.{cond, ◌≡◌, ℕ, Bool, true, false, ◌&&◌, List, [], ◌∷◌, map, Option, Some, None, refl, sym, ap, ◌∙◌, subst}
use Rattle.std.specs.List.{list_all, list_any}
use Rattle.std.specs.Str.{bytes_eq}
use Rattle.sc_laws.proofs.BoolLaws.{and_first, and_second}
use Rattle.sc_names.specs.declared.uid.Uid.{Uid}
use Rattle.sc_schema.specs.declared.ty.EntityKind.{EntityKind}
use Rattle.sc_schema.specs.declared.ty.Presence.{Presence}
use Rattle.sc_schema.specs.declared.ty.Presence.TheVariants.{Required, Optional}
use Rattle.sc_schema.specs.declared.ty.Ty.{Ty, Ty-F, roll-Ty, map-Ty, ind-Ty, fold-roll-Ty}
use Rattle.sc_schema.specs.declared.ty.Ty.TheOpen as t
use Rattle.sc_sorts.specs.declared.sort.Sort.{Sort, Sort-F, out-Sort, roll-Sort, map-Sort, fold-Sort, fold-roll-Sort, fold_out-Sort}
use Rattle.sc_sorts.specs.declared.sort.Sort.TheVariants as sort
use Rattle.sc_sorts.specs.declared.sort.Sort.TheVariants.{rolls-Bool, rolls-Long, rolls-String, rolls-Decimal, rolls-Ip, rolls-Entity, rolls-Set, rolls-Record, rolls-Option}
use Rattle.sc_sorts.specs.declared.sort.Sort.TheOpen as s
use Rattle.sc_sorts.specs.Entities.{uid_of, uids_of}
use Rattle.sc_sorts.specs.OfTypes.{sort_of, sort_step, with_presence}
use Rattle.sc_values.specs.declared.value.Value.{Value, Value-F, out-Value}
use Rattle.sc_values.specs.declared.value.Value.TheOpen as v
use Rattle.sc_values.specs.Records.{Fields, field}
use Rattle.sc_world.specs.Conforms.{Test, is_bool, is_entity_of, is_set_of, is_record_of, passes, conforms, conforms_step}
use Rattle.sc_term_laws.specs.Fitting.{Seen, kind_listed, seen_step, fits_step, fits}
use Rattle.std.specs.Prelude.{find}
use Rattle.std.specs.declared.cmp.Ordering.{Ordering}
use Rattle.std.specs.declared.cmp.Ordering.TheVariants.{Less, Equal, Greater}
use Rattle.sc_values.specs.Order.{value_cmp}
use Rattle.sc_sorts.specs.Defaults.{is_option, is_option_level}
use Rattle.std.specs.Map.{lookup}
use Rattle.std.specs.Cmp.Lexicographic.{bytes_decides}
use Rattle.sc_sorts.specs.Inside.{SortFields}
use Rattle.sc_terms.specs.Values.{fields_seen, put_by, put_value, set_from}
use Rattle.sc_term_laws.specs.Fitting as fit
use Rattle.std.specs.Cmp.Derive.{both_true}
use Rattle.sc_world.proofs.ConformsLaws.{truth_is_bool}

pub seen : Sort → Seen
seen = fold-Sort Seen seen_step

pub seen_fits : (k : Sort) (x : Value) → (seen k).1 x ≡ fits k x
unfolding seen fits
seen_fits k x = refl

pub fits_roll : (y : Sort-F Sort) → fits (roll-Sort y) ≡ fits_step (map-Sort Sort Seen seen y)
unfolding seen fits
fits_roll y = ap (λ (z : Seen). z.1) (fold-roll-Sort Seen seen_step y)

pub seen_out : (k : Sort) → seen k ≡ seen_step (map-Sort Sort Seen seen (out-Sort k))
unfolding seen
seen_out k = fold_out-Sort Seen seen_step k

pub fits_out : (k : Sort) → fits k ≡ fits_step (map-Sort Sort Seen seen (out-Sort k))
unfolding seen fits
fits_out k = ap (λ (z : Seen). z.1) (seen_out k)

pub fits_seen : (k : Sort) → fits k ≡ (seen k).1
unfolding seen fits
fits_seen k = refl

pub seen_Option : (k : Sort) → seen (sort.Option k) ≡ (true, λ x. fits k x)
unfolding seen fits
seen_Option k = ap seen (sym (rolls-Option k)) ∙ fold-roll-Sort Seen seen_step (s.Option k)

-- ---- implications of tests

both_so : (a b c d : Bool) → (a ≡ true → c ≡ true) → (b ≡ true → d ≡ true) → (a && b) ≡ true → (c && d) ≡ true
both_so true true c d f g h = rw (f refl, g refl) refl
both_so true false c d f g h = cc
both_so false b c d f g h = cc

all_so : (p q : Test) → ((x : Value) → p x ≡ true → q x ≡ true) → (xs : List Value) → list_all p xs ≡ true → list_all q xs ≡ true
all_so p q f [] h = refl
all_so p q f (x ∷ xs) h = both_so (p x) (list_all p xs) (q x) (list_all q xs) (f x) (all_so p q f xs) h

pub set_so : (p q : Test) → ((x : Value) → p x ≡ true → q x ≡ true) → (x : Value-F Value) → is_set_of p x ≡ true → is_set_of q x ≡ true
set_so p q f (v.Set xs) h = all_so p q f xs h
set_so p q f _ h = absurd cc

-- ---- a type of entities, by those that its sort lists

ids_of_uids : (name : List ℕ) (ids : List (List ℕ)) → map (λ (u : Uid). u.id) (map (uid_of name) ids) ≡ ids
ids_of_uids name [] = refl
ids_of_uids name (id ∷ ids) = ap (λ (more : List (List ℕ)). id ∷ more) (ids_of_uids name ids)

pub kind_of_uids : (kind : EntityKind) → kind_listed kind.name (uids_of kind) ≡ kind
kind_of_uids kind = λ i. record { name = kind.name; choices = ids_of_uids kind.name kind.choices i }

-- ---- a type and its sort

abbrev IsFit : Ty → Type 0
IsFit type = (x : Value) → conforms type x ≡ true → fits (sort_of type) x ≡ true

abbrev Known : Type 0
Known = (type : Ty) × IsFit type

abbrev Shape : Type 0
Shape = List (List ℕ × Presence × Known)

abbrev tests : Shape → List (List ℕ × Presence × Test)
tests bs = map (λ (a : List ℕ × Presence × Known). (a.0, a.1, conforms a.2.0)) bs

abbrev sights : Shape → List (List ℕ × Seen)
sights bs = map (λ (a : List ℕ × Presence × Known). (a.0, seen (with_presence a.1 (sort_of a.2.0)))) bs

passes_so : (p : Presence) (k : Known) (o : Option Value) → passes p (conforms k.0) o ≡ true → fit.passes (seen (with_presence p (sort_of k.0))) o ≡ true
passes_so Required k None h = absurd cc
passes_so Required k (Some x) h = seen_fits (sort_of k.0) x ∙ k.1 x h
passes_so Optional k None h = rw (seen_Option (sort_of k.0)) refl
passes_so Optional k (Some x) h = ap (λ (z : Seen). z.1 x) (seen_Option (sort_of k.0)) ∙ k.1 x h

each_so : (bs : Shape) (fs : Fields) → list_all (λ (a : List ℕ × Presence × Test). passes a.1 a.2 (field a.0 fs)) (tests bs) ≡ true → list_all (λ (a : List ℕ × Seen). fit.passes a.1 (field a.0 fs)) (sights bs) ≡ true
each_so [] fs h = refl
each_so (a ∷ bs) fs h = both_so _ _ _ _ (passes_so a.1 a.2 (field a.0 fs)) (each_so bs fs) h

same_names : (bs : Shape) (name : List ℕ) → list_any (λ (a : List ℕ × Presence × Test). bytes_eq name a.0) (tests bs) ≡ list_any (λ (a : List ℕ × Seen). bytes_eq name a.0) (sights bs)
same_names [] name = refl
same_names (a ∷ bs) name = rw (same_names bs name) refl

known_so : (bs : Shape) (fs : Fields)
    → list_all (λ (f : List ℕ × Value). list_any (λ (a : List ℕ × Presence × Test). bytes_eq f.0 a.0) (tests bs)) fs ≡ true
    → list_all (λ (f : List ℕ × Value). list_any (λ (a : List ℕ × Seen). bytes_eq f.0 a.0) (sights bs)) fs ≡ true
known_so bs [] h = refl
known_so bs (f ∷ fs) h = both_so _ _ _ _ (λ e. sym (same_names bs f.0) ∙ e) (known_so bs fs) h

record_so : (bs : Shape) (x : Value-F Value) → is_record_of (tests bs) x ≡ true → fit.is_record_of (sights bs) x ≡ true
record_so bs (v.Record fs) h = both_so _ _ _ _ (each_so bs fs) (known_so bs fs) h
record_so bs _ h = absurd cc

-- ---- by the type's kind

pub conforms_roll : (y : Ty-F Ty) → conforms (roll-Ty y) ≡ conforms_step (map-Ty Ty Test conforms y)
unfolding conforms
conforms_roll y = fold-roll-Ty Test conforms_step y

pub sort_roll : (y : Ty-F Ty) → sort_of (roll-Ty y) ≡ sort_step (map-Ty Ty Sort sort_of y)
unfolding sort_of
sort_roll y = fold-roll-Ty Sort sort_step y

at_level : (y : Ty-F Ty) (k : Sort) (q : Test) → sort_of (roll-Ty y) ≡ k → fits k ≡ q → ((x : Value) → conforms_step (map-Ty Ty Test conforms y) x ≡ true → q x ≡ true) → IsFit (roll-Ty y)
at_level y k q e f g x h = ap (λ (z : Sort). fits z x) e ∙ ap (λ (z : Test). z x) f ∙ g x (ap (λ (z : Test). z x) (sym (conforms_roll y)) ∙ h)

abbrev bare_shape : Shape → List (List ℕ × Presence × Ty)
bare_shape bs = map (λ (a : List ℕ × Presence × Known). (a.0, a.1, a.2.0)) bs

abbrev sorts_in : List (List ℕ × Presence × Ty) → List (List ℕ × Sort)
sorts_in bs = map (λ (f : List ℕ × Presence × Sort). (f.0, with_presence f.1 f.2)) (map (λ (a : List ℕ × Presence × Ty). (a.0, a.1, sort_of a.2)) bs)

tests_are : (bs : Shape) → map (λ (a : List ℕ × Presence × Ty). (a.0, a.1, conforms a.2)) (bare_shape bs) ≡ tests bs
tests_are [] = refl
tests_are (a ∷ bs) = ap (λ (ys : List (List ℕ × Presence × Test)). (a.0, a.1, conforms a.2.0) ∷ ys) (tests_are bs)

sights_are : (bs : Shape) → map (λ (f : List ℕ × Sort). (f.0, seen f.1)) (sorts_in (bare_shape bs)) ≡ sights bs
sights_are [] = refl
sights_are (a ∷ bs) = ap (λ (ys : List (List ℕ × Seen)). (a.0, seen (with_presence a.1 (sort_of a.2.0))) ∷ ys) (sights_are bs)

inner : (y : Ty-F Known) → IsFit (roll-Ty (map-Ty Known Ty (λ e. e.0) y))
inner t.True = at_level t.True sort.Bool (λ x. is_bool (out-Value x)) (sort_roll t.True) (ap fits (sym rolls-Bool) ∙ fits_roll s.Bool) (λ x. truth_is_bool true (out-Value x))
inner t.False = at_level t.False sort.Bool (λ x. is_bool (out-Value x)) (sort_roll t.False) (ap fits (sym rolls-Bool) ∙ fits_roll s.Bool) (λ x. truth_is_bool false (out-Value x))
inner t.Bool = at_level t.Bool sort.Bool (λ x. is_bool (out-Value x)) (sort_roll t.Bool) (ap fits (sym rolls-Bool) ∙ fits_roll s.Bool) (λ x h. h)
inner t.Long = at_level t.Long sort.Long (fits_step s.Long) (sort_roll t.Long) (ap fits (sym rolls-Long) ∙ fits_roll s.Long) (λ x h. h)
inner t.String = at_level t.String sort.String (fits_step s.String) (sort_roll t.String) (ap fits (sym rolls-String) ∙ fits_roll s.String) (λ x h. h)
inner t.Decimal = at_level t.Decimal sort.Decimal (fits_step s.Decimal) (sort_roll t.Decimal) (ap fits (sym rolls-Decimal) ∙ fits_roll s.Decimal) (λ x h. h)
inner t.Ip = at_level t.Ip sort.Ip (fits_step s.Ip) (sort_roll t.Ip) (ap fits (sym rolls-Ip) ∙ fits_roll s.Ip) (λ x h. h)
inner (t.Entity kind) =
    let us = uids_of kind in
    at_level (t.Entity kind) (sort.Entity kind.name us) (fits_step (s.Entity kind.name us)) (sort_roll (t.Entity kind)) (ap fits (sym (rolls-Entity kind.name us)) ∙ fits_roll (s.Entity kind.name us))
    (λ x h. ap (λ (k : EntityKind). is_entity_of k (out-Value x)) (kind_of_uids kind) ∙ h)
inner (t.Set a) =
    let k = sort_of a.0 in
    at_level (t.Set a.0) (sort.Set k) (fits_step (s.Set (seen k))) (sort_roll (t.Set a.0)) (ap fits (sym (rolls-Set k)) ∙ fits_roll (s.Set k))
    (λ x h. set_so (conforms a.0) (seen k).1 (λ z e. seen_fits k z ∙ a.1 z e) (out-Value x) h)
inner (t.Record bs) =
    let bare = bare_shape bs in
    let fields = sorts_in bare in
    at_level (t.Record bare) (sort.Record fields) (fits_step (s.Record (sights bs))) (sort_roll (t.Record bare))
    (ap fits (sym (rolls-Record fields)) ∙ fits_roll (s.Record fields) ∙ ap (λ (ys : List (List ℕ × Seen)). fits_step (s.Record ys)) (sights_are bs))
    (λ x h. record_so bs (out-Value x) (ap (λ (ys : List (List ℕ × Presence × Test)). is_record_of ys (out-Value x)) (sym (tests_are bs)) ∙ h))

-- a value that conforms to a type fits the type's sort
pub type_fits : (type : Ty) (x : Value) → conforms type x ≡ true → fits (sort_of type) x ≡ true
type_fits = ind-Ty IsFit (λ x y e. subst (λ (z : Ty-F Ty). IsFit (roll-Ty z)) e (inner y))

-- ---- a field of what fits

abbrev pub sights_of : SortFields → List (List ℕ × Seen)
sights_of fs = map (λ (f : List ℕ × Sort). (f.0, seen f.1)) fs

passes_by : (b : Bool) (f : List ℕ × Sort) (later : Option Sort) (name : List ℕ) (k : Sort) (r : Fields) → bytes_eq name f.0 ≡ b → cond b (Some f.1) later ≡ Some k
    → fit.passes (seen f.1) (field f.0 r) ≡ true → (later ≡ Some k → fit.passes (seen k) (field name r) ≡ true) → fit.passes (seen k) (field name r) ≡ true
passes_by true f later name k r q e h next =
    let same : name ≡ f.0 = (bytes_decides name f.0).0 q in
    let found : f.1 ≡ k = cc in
    subst (λ (z : Sort). fit.passes (seen z) (field name r) ≡ true) found (subst (λ (n : List ℕ). fit.passes (seen f.1) (field n r) ≡ true) (sym same) h)
passes_by false f later name k r q e h next = next e

-- what a record has at a name passes the name's sort
passes_at : (fs : SortFields) (name : List ℕ) (k : Sort) (r : Fields) → lookup (bytes_eq name) fs ≡ Some k
    → list_all (λ (a : List ℕ × Seen). fit.passes a.1 (field a.0 r)) (sights_of fs) ≡ true → fit.passes (seen k) (field name r) ≡ true
passes_at [] name k r e h = cc
passes_at (f ∷ fs) name k r e h =
    passes_by (bytes_eq name f.0) f (lookup (bytes_eq name) fs) name k r refl e (and_first _ _ h) (λ g. passes_at fs name k r g (and_second _ _ h))

passes_in : (fs : SortFields) (name : List ℕ) (k : Sort) (x : Value-F Value) → lookup (bytes_eq name) fs ≡ Some k → fit.is_record_of (sights_of fs) x ≡ true
    → fit.passes (seen k) (field name (fields_seen x)) ≡ true
passes_in fs name k (v.Record r) e h = passes_at fs name k r e (and_first _ _ h)
passes_in fs name k _ e h = absurd cc

-- of a value that fits a record sort, what it has at a field fits the field's sort, and it lacks none that isn't of an option sort
pub field_fits : (fs : SortFields) (name : List ℕ) (k : Sort) (x : Value) → lookup (bytes_eq name) fs ≡ Some k → fits (sort.Record fs) x ≡ true
    → fit.passes (seen k) (field name (fields_seen (out-Value x))) ≡ true
field_fits fs name k x e h =
    passes_in fs name k (out-Value x) e (sym (ap (λ (z : Sort). fits z x) (sym (rolls-Record fs)) ∙ ap (λ (z : Value → Bool). z x) (fits_roll (s.Record fs))) ∙ h)

pub field_is_of : (fs : SortFields) (name : List ℕ) (k : Sort) (x y : Value) → lookup (bytes_eq name) fs ≡ Some k → fits (sort.Record fs) x ≡ true
    → field name (fields_seen (out-Value x)) ≡ Some y → fits k y ≡ true
field_is_of fs name k x y e h g = sym (seen_fits k y) ∙ ap (λ (o : Option Value). fit.passes (seen k) o) (sym g) ∙ field_fits fs name k x e h

level_map : (x : Sort-F Sort) → is_option_level Seen (map-Sort Sort Seen seen x) ≡ is_option_level Sort x
level_map s.Bool = refl
level_map s.Long = refl
level_map s.String = refl
level_map s.Decimal = refl
level_map s.Ip = refl
level_map (s.Entity name choices) = refl
level_map (s.Set member) = refl
level_map (s.Record fields) = refl
level_map (s.Option held) = refl

pub seen_option : (k : Sort) → (seen k).0 ≡ is_option k
unfolding seen
seen_option k = ap (λ (z : Seen). z.0) (seen_out k) ∙ level_map (out-Sort k)

pub field_may_lack : (fs : SortFields) (name : List ℕ) (k : Sort) (x : Value) → lookup (bytes_eq name) fs ≡ Some k → fits (sort.Record fs) x ≡ true
    → field name (fields_seen (out-Value x)) ≡ None → is_option k ≡ true
field_may_lack fs name k x e h g = sym (seen_option k) ∙ ap (λ (o : Option Value). fit.passes (seen k) o) (sym g) ∙ field_fits fs name k x e h

-- ---- sets

put_all : (p : Test) (x : Value) (ys : List Value) → p x ≡ true → list_all p ys ≡ true → list_all p (put_value x ys) ≡ true
unfolding put_value
put_all p x [] e h = both_true e refl
put_all p x (y ∷ ys) e h = by (value_cmp x y) (put_all p x ys e (and_second _ _ h))
  where
    later : list_all p (put_value x ys) ≡ true → list_all p (y ∷ put_value x ys) ≡ true
    later g = both_true (and_first _ _ h) g

    by : (o : Ordering) → list_all p (put_value x ys) ≡ true → list_all p (put_by o x y ys (put_value x ys)) ≡ true
    by Less g = both_true e h
    by Equal g = h
    by Greater g = later g

-- what holds of each member holds of each of the set
pub set_all : (p : Test) (xs : List Value) → list_all p xs ≡ true → list_all p (set_from xs) ≡ true
unfolding set_from
set_all p [] h = refl
set_all p (x ∷ xs) h = put_all p x (set_from xs) (and_first _ _ h) (set_all p xs (and_second _ _ h))

pick_by : (b : Bool) (p : Test) (x y : Value) (later : Option Value) → p x ≡ true → (later ≡ Some y → p y ≡ true) → cond b (Some x) later ≡ Some y → p y ≡ true
pick_by true p x y later h next e = let f : x ≡ y = cc in subst (λ (z : Value). p z ≡ true) f h
pick_by false p x y later h next e = next e

-- and of a pick
pub pick_is : (p q : Test) (xs : List Value) (y : Value) → list_all p xs ≡ true → find q xs ≡ Some y → p y ≡ true
pick_is p q [] y h e = cc
pick_is p q (x ∷ xs) y h e = pick_by (q x) p x y (find q xs) (and_first _ _ h) (pick_is p q xs y (and_second _ _ h)) e
