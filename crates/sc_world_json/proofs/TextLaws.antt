-- What is written so far, beside the whole.
use Rattle.std.proofs.Common.{◌≡◌, ◌+◌, ◌<◌, ℕ, suc, List, [], ◌∷◌, ◌++◌, length, take, drop, get_or, Less, Greater, refl, ap, sym, ◌∙◌, subst, drop-cons}
use Rattle.std.proofs.lemmas.List.{take_more, take-append-drop}
use Rattle.std.proofs.lemmas.Cmp.{nat_list_cmp_total}
use Rattle.std.specs.List.{AllByRecursion}
use Rattle.std.specs.List.Sorted.{IsStrictlySortedBy}
use Rattle.std.specs.Map.{keys_of}
use Rattle.std.specs.Ordering.{ordering_reverse}
use Rattle.serde_json.specs.Data.{Data, object, put, member}
use Rattle.sc_names.specs.Uids.{text_cmp}
use Rattle.sc_values.specs.declared.value.Value.{Value, fold-roll-Value}
use Rattle.sc_values.specs.declared.value.Value.TheOpen as v
use Rattle.sc_values.specs.declared.value.Value.TheVariants.{Record, rolls-Record}
use Rattle.sc_world_json.specs.Text.{value_step, value_data, fields_data}

abbrev pub Field : Type 0
Field = List ℕ × Value

pub value_data-Record : (fs : List Field) → value_data (Record fs) ≡ object (fields_data fs)
unfolding value_data
value_data-Record fs = ap value_data (sym (rolls-Record fs)) ∙ fold-roll-Value Data value_step (v.Record fs)

below_later : (name : List ℕ) (done : List Field) (f : Field) (more : List Field) → AllByRecursion (λ y. text_cmp name y ≡ Less) (keys_of (done ++ f ∷ more)) → text_cmp name f.0 ≡ Less
below_later name [] f more h = h.0
below_later name (x ∷ done) f more h = below_later name done f more h.1

-- a name above those before it goes last
put_last : (done : List Field) (f : Field) (more : List Field) → IsStrictlySortedBy text_cmp (keys_of (done ++ f ∷ more)) → put f.0 (value_data f.1) (fields_data done) ≡ fields_data (done ++ f ∷ [])
unfolding IsStrictlySortedBy
put_last [] f more h = refl
put_last (x ∷ done) f more h =
    let above : text_cmp f.0 x.0 ≡ Greater = nat_list_cmp_total.antisymm f.0 x.0 ∙ ap ordering_reverse (below_later x.0 done f more h.0) in
    rw above (ap (member x.0 (value_data x.1)) (put_last done f more h.1))

pub put_next : (fs : List Field) (i : ℕ) (f : Field) → i < length fs → f ≡ get_or fs i f → IsStrictlySortedBy text_cmp (keys_of fs)
    → put f.0 (value_data f.1) (fields_data (take i fs)) ≡ fields_data (take (i + 1) fs)
put_next fs i f h here ascending =
    let split : fs ≡ take i fs ++ get_or fs i f ∷ drop (suc i) fs = sym (take-append-drop i fs) ∙ ap (λ rest. take i fs ++ rest) (drop-cons fs i f h) in
    let last = put_last (take i fs) (get_or fs i f) (drop (suc i) fs) (subst (λ xs. IsStrictlySortedBy text_cmp (keys_of xs)) split ascending) in
    ap (λ (g : Field). put g.0 (value_data g.1) (fields_data (take i fs))) here ∙ last ∙ ap fields_data (sym (take_more fs i f h))
