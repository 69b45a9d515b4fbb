-- Attributes: what `has` and accesses are compiled to agrees with what they come to.
use Rattle.std.proofs.Common.{◌≡◌, ℕ, List, [], ◌∷◌, Bool, true, false, if◌then◌else◌, Option, Some, None, unwrap_or, is_some, IsTrue, Result, Ok, Err, refl, ap, sym, subst, ◌∙◌}
use Rattle.sc_names.specs.declared.uid.Uid.{Uid}
use Rattle.sc_schema.specs.declared.declarations.Env.{Env}
use Rattle.sc_schema.specs.declared.ty.Presence.{Presence}
use Rattle.sc_schema.specs.declared.ty.Presence.TheVariants.{Required, Optional}
use Rattle.sc_schema.specs.declared.ty.Ty.{Ty, Ty-F, out-Ty}
use Rattle.sc_schema.specs.declared.ty.Ty.TheOpen as t
use Rattle.sc_schema.specs.Declarations.{Declarations}
use Rattle.sc_schema.specs.Lawful.{IsLawful}
use Rattle.sc_values.specs.declared.value.Value.{Value, Value-F, out-Value}
use Rattle.sc_values.specs.declared.value.Value.TheOpen as v
use Rattle.sc_values.specs.Records.{Fields, field}
use Rattle.sc_values.proofs.OutLaws.{out_Entity, out_Record}
use Rattle.sc_world.specs.declared.entity.EntityData.{EntityData}
use Rattle.sc_world.specs.declared.world.World.{World}
use Rattle.sc_world.specs.Conforms.{Shape, is_record_of}
use Rattle.sc_world.specs.Stores.{stored}
use Rattle.sc_world.specs.WellFormed.{IsWellFormed}
use Rattle.sc_eval.specs.declared.error.EvalError.{EvalError}
use Rattle.sc_eval.specs.Outcomes.{Outcome, ◌>>=◌, of_bool}
use Rattle.sc_eval.specs.Entities.{or_missing, attr_of, access_in, access, has_attr, has_in, has, has_path}
use Rattle.sc_typed.specs.declared.typed_expr.HasStep.{HasStep}
use Rattle.sc_typed.specs.Types.{Field, same_presence, entity_name_in, attributes, attributes_in, attribute}
use Rattle.sc_typing_rules.specs.Paths.{step}
use Rattle.sc_soundness_laws.specs.Sound.{IsOf}
use Rattle.sc_soundness_laws.proofs.ValueLaws.{fits, conforms-out, entity_of}
use Rattle.sc_soundness_laws.proofs.ObjectLaws.{data_of, none_undeclared, has_declared, value_declared}
use Rattle.sc_sorts.specs.declared.sort.Sort.{Sort}
use Rattle.sc_sorts.specs.Defaults.{is_option, default_of}
use Rattle.sc_sorts.specs.Inside.{field_sort, held_sort}
use Rattle.sc_sorts.specs.OfTypes.{with_presence}
use Rattle.sc_sorts.specs.declared.node.UnaryOp.TheVariants as unary
use Rattle.sc_terms.specs.Trees.{Tree, one}
use Rattle.sc_terms.specs.TreeSorts.{tree_sort}
use Rattle.sc_terms.specs.Folds.{truth_term, not_term, and_term, or_term, present_term, held_term}
use Rattle.sc_terms.specs.Values.{Val, it, maybe, yes, val, uid_seen, fields_seen, record_in, option_in, entity_in, attributes_value, field_seen, field_value, held_value}
use Rattle.sc_terms.proofs.FoldValues.{truth_is, one_is, present_is}
use Rattle.sc_terms.proofs.RecordValues as records
use Rattle.sc_term_laws.proofs.JudgingLaws.{field_of_record}
use Rattle.sc_constructs.specs.Code.{Code, and_code}
use Rattle.sc_constructs.specs.Objects.{presence_of, attributes_sort, object_in, field_of, has_term, has_code, read_code, access_code, along_code, path_code}
use Rattle.sc_symeval.specs.Agreement.{Meets, Agrees}
use Rattle.sc_symeval_laws.specs.TypeSorts.{sort_in}
use Rattle.sc_symeval_laws.proofs.AgreeLaws.{and_ok, or_ok, not_ok}
use Rattle.sc_symeval_laws.proofs.KeptLaws.{object_is, field_is, presence_told, IsAlong, at_end, never, declared}
use Rattle.sc_symeval_laws.proofs.SortedLaws.{IsSorted, option_told, kinds_of, held_stays, held_sorted}
use Rattle.sc_symeval_laws.proofs.SortedKept.{AnyValue, AnyUid, sorted_kept}
use Rattle.sc_symeval_laws.proofs.TypeSortLaws.{no_option}

module _ (s : Declarations) (env : Env) (literals : List Uid) (w : World) (lawful : IsLawful s) (well : IsWellFormed s env literals w) where
  -- ---- what a value has under a name

  abbrev Found : Ty → List ℕ → Tree → Option Value
  Found type name a = field name (record_in (val (object_in s (out-Ty type) a) w))

  record_value : (shape : Shape) (z : Value-F Value) → IsTrue (is_record_of shape z) → (attrs : Fields) × (z ≡ v.Record attrs)
  record_value shape (v.Record attrs) h = (attrs, refl)
  record_value shape _ h = absurd cc

  -- what is read of it and what it has are what its term has
  abbrev IsSeen : List ℕ → Value → Option Value → Type 0
  IsSeen name x found = (access name w x ≡ or_missing found) × (has name w x ≡ Ok (is_some found))

  seen_at : (y : Ty-F Ty) (type : Ty) (fields : List Field) (name : List ℕ) (a : Tree) (x : Value) → out-Ty type ≡ y → attributes_in s y ≡ Some fields → IsTrue (fits y x) → IsOf w type x → val a w ≡ it x
      → IsSeen name x (field name (record_in (val (object_in s y a) w)))
  seen_at (t.Record gs) type fields name a x at e h k g =
      let p = record_value _ (out-Value x) h in
      let own : record_in (val a w) ≡ p.0 = ap record_in g ∙ ap fields_seen p.1 in
      (ap (access_in name w) p.1 ∙ ap (λ (fs : Fields). or_missing (field name fs)) (sym own), ap (has_in name w) p.1 ∙ ap (λ (fs : Fields). Ok (is_some (field name fs))) (sym own))
  seen_at (t.Entity kind) type fields name a x at e h k g =
      let u = entity_of w kind.name type x (ap entity_name_in at) k in
      let d = data_of u.0 w.store u.1.stored in
      let out : out-Value x ≡ v.Entity u.0 = ap out-Value u.1.entity ∙ out_Entity u.0 in
      let there : entity_in (val a w) w ≡ Some d.0 = ap (λ (z : Val). entity_in z w) (g ∙ ap it u.1.entity) ∙ ap (λ z. stored (uid_seen z) w.store) (out_Entity u.0) ∙ d.1 in
      let own : record_in (val (one (unary.Attributes (attributes_sort s kind.name)) a) w) ≡ d.0.attrs =
      ap record_in (one_is (unary.Attributes (attributes_sort s kind.name)) a w)
      ∙ ap (λ (o : Option EntityData). record_in (it (attributes_value (attributes_sort s kind.name) o))) there
      ∙ ap fields_seen (out_Record d.0.attrs)
      in (
        ap (access_in name w) out ∙ ap (attr_of name) d.1 ∙ ap (λ (fs : Fields). or_missing (field name fs)) (sym own),
        ap (has_in name w) out ∙ ap (λ (o : Option EntityData). Ok (has_attr name o)) d.1 ∙ ap (λ (fs : Fields). Ok (is_some (field name fs))) (sym own),
      )
  seen_at _ type fields name a x at e h k g = absurd cc

  seen : (type : Ty) (fields : List Field) (name : List ℕ) (a : Tree) (x : Value) → attributes s type ≡ Some fields → IsOf w type x → val a w ≡ it x → IsSeen name x (Found type name a)
  seen type fields name a x e k g = seen_at (out-Ty type) type fields name a x refl e (sym (conforms-out type x) ∙ k.conforming) k g

  -- ---- a declared attribute

  module _ (type : Ty) (fields : List Field) (name : List ℕ) (f : Field) (a : Tree) (e : attributes s type ≡ Some fields) (d : attribute name fields ≡ Some f) (sorted : IsSorted w (sort_in s type) a) where
    abbrev own : Sort
    own = with_presence f.1 (sort_in s f.2)

    term_sorted : IsSorted w own (field_of s type name a)
    term_sorted = field_is s env (IsSorted w) AnyValue AnyUid (sorted_kept s env w) lawful type name f a fields e d sorted

    field_val : val (field_of s type name a) w ≡ field_seen (is_option own) own (Found type name a)
    field_val =
        let q = object_is s env (IsSorted w) AnyValue AnyUid (sorted_kept s env w) lawful type name f a fields e d sorted in
        records.field_is name (object_in s (out-Ty type) a) w (kinds_of w (object_in s (out-Ty type) a) q.object.parts)
        ∙ ap (λ (k : Sort). field_value name k (val (object_in s (out-Ty type) a) w)) (ap (field_sort name) q.object.sorted ∙ field_of_record q.sorts name own q.found)

    module _ (x : Value) (k : IsOf w type x) (g : val a w ≡ it x) where
      -- whether it is there, by whether it is required
      has_by : (p : Presence) → f.1 ≡ p → Meets (yes true) (val (has_term (Some p) (field_of s type name a)) w) (has name w x >>= of_bool)
      has_by Required is =
          subst (λ (r : Result Bool EvalError). Meets (yes true) (val (truth_term true) w) (r >>= of_bool)) (sym (has_declared s env literals w type fields x name f well e k d (ap (λ (p : Presence). same_presence p Required) is)))
          (refl, truth_is true w)
      has_by Optional is =
          let v = field_val ∙ ap (λ (p : Presence). field_seen (is_option (with_presence p (sort_in s f.2))) (with_presence p (sort_in s f.2)) (Found type name a)) is
          ∙ ap (λ (b : Bool). field_seen b (with_presence Optional (sort_in s f.2)) (Found type name a)) (option_told (sort_in s f.2)) in
          subst (λ (r : Result Bool EvalError). Meets (yes true) (val (present_term (field_of s type name a)) w) (r >>= of_bool)) (sym (seen type fields name a x e k g).1)
          (refl, present_is (field_of s type name a) w ∙ one_is unary.Present (field_of s type name a) w ∙ ap (λ (z : Val). yes (is_some (option_in z))) v)

      has_met : Meets (yes true) (val (has_term (presence_of s type name) (field_of s type name a)) w) (has name w x >>= of_bool)
      has_met =
          subst (λ (o : Option Presence). Meets (yes true) (val (has_term o (field_of s type name a)) w) (has name w x >>= of_bool))
          (sym (presence_told s env (IsSorted w) AnyValue AnyUid (sorted_kept s env w) lawful type name fields (Some f) e d)) (has_by f.1 refl)

      there : (o : Option Value) → has name w x ≡ Ok (is_some o) → has name w x ≡ Ok true → (y : Value) × (o ≡ Some y)
      there (Some y) i j = (y, refl)
      there None i j = absurd (let clash : ◌≡◌ {A = Result Bool EvalError} (Ok false) (Ok true) = sym i ∙ j in cc)

      optional_read : (ok : Tree) (o : Option Value) → Found type name a ≡ o → f.1 ≡ Optional → val ok w ≡ yes true → Agrees w (read_code (Some Optional) (record { ok = ok; val = a }) (field_of s type name a)) (or_missing o)
      optional_read ok o at is so =
          let t = field_of s type name a in
          let v : val t w ≡ maybe o = field_val ∙ ap (λ (p : Presence). field_seen (is_option (with_presence p (sort_in s f.2))) (with_presence p (sort_in s f.2)) (Found type name a)) is
          ∙ ap (λ (b : Bool). field_seen b (with_presence Optional (sort_in s f.2)) (Found type name a)) (option_told (sort_in s f.2)) ∙ ap maybe at in
          let present : val (present_term t) w ≡ yes (is_some o) = present_is t w ∙ one_is unary.Present t w ∙ ap (λ (z : Val). yes (is_some (option_in z))) v in
          let held : val (held_term t) w ≡ held_value (held_sort (tree_sort t)) o = ap (λ (z : Tree). val z w) (held_stays w t term_sorted.parts) ∙ one_is unary.Held t w ∙ ap (λ (z : Val). held_value (held_sort (tree_sort t)) (option_in z)) v in
          by o (and_ok w ok (present_term t) true so ∙ present) held
        where
          by : (r : Option Value) → val (and_term ok (present_term (field_of s type name a))) w ≡ yes (is_some r) → val (held_term (field_of s type name a)) w ≡ held_value (held_sort (tree_sort (field_of s type name a))) r
              → Meets (val (and_term ok (present_term (field_of s type name a))) w) (val (held_term (field_of s type name a)) w) (or_missing r)
          by (Some y) i j = (i, j)
          by None i j = i

      required_read : (ok : Tree) → f.1 ≡ Required → val ok w ≡ yes true → Agrees w (read_code (Some Required) (record { ok = ok; val = a }) (field_of s type name a)) (or_missing (Found type name a))
      required_read ok is so =
          let has_it = has_declared s env literals w type fields x name f well e k d (ap (λ (p : Presence). same_presence p Required) is) in
          let y = there (Found type name a) (seen type fields name a x e k g).1 has_it in
          let v : val (field_of s type name a) w ≡ it y.0 = field_val ∙ ap (λ (p : Presence). field_seen (is_option (with_presence p (sort_in s f.2))) (with_presence p (sort_in s f.2)) (Found type name a)) is
          ∙ ap (λ (b : Bool). field_seen b (sort_in s f.2) (Found type name a)) (no_option s f.2) ∙ ap (λ (o : Option Value). it (unwrap_or o (default_of (sort_in s f.2)))) y.1 in
          subst (λ (o : Option Value). Meets (val ok w) (val (field_of s type name a) w) (or_missing o)) (sym y.1) (so, v)

      read_by : (ok : Tree) (p : Presence) → f.1 ≡ p → val ok w ≡ yes true → Agrees w (read_code (Some p) (record { ok = ok; val = a }) (field_of s type name a)) (or_missing (Found type name a))
      read_by ok Required is so = required_read ok is so
      read_by ok Optional is so = optional_read ok (Found type name a) refl is so

  -- ---- codes

  -- where an operand errs, so does what is read of it
  access_errs : (o : Option Presence) (a : Code) (t : Tree) → val a.ok w ≡ yes false → val (read_code o a t).ok w ≡ yes false
  access_errs None a t h = h
  access_errs (Some Required) a t h = h
  access_errs (Some Optional) a t h = and_ok w a.ok (present_term t) false h

  module _ (type : Ty) (fields : List Field) (name : List ℕ) (f : Field) (a : Code) (e : attributes s type ≡ Some fields) (d : attribute name fields ≡ Some f) (sorted : IsSorted w (sort_in s type) a.val) where
    pub access_agrees : (o : Outcome) → Agrees w a o → ((x : Value) → o ≡ Ok x → IsOf w type x) → Agrees w (access_code s type name a) (o >>= access name w)
    access_agrees (Ok x) h k =
        subst (λ (r : Outcome). Agrees w (access_code s type name a) r) (sym (seen type fields name a.val x e (k x refl) h.1).0)
        (subst (λ (o : Option Presence). Agrees w (read_code o a (field_of s type name a.val)) (or_missing (Found type name a.val)))
        (sym (presence_told s env (IsSorted w) AnyValue AnyUid (sorted_kept s env w) lawful type name fields (Some f) e d))
        (read_by type fields name f a.val e d sorted x (k x refl) h.1 a.ok f.1 refl h.0))
    access_agrees (Err r) h k = access_errs (presence_of s type name) a (field_of s type name a.val) h

    -- what is read is of the attribute's sort
    access_sorted : IsSorted w (sort_in s f.2) (access_code s type name a).val
    access_sorted =
        subst (λ (o : Option Presence). IsSorted w (sort_in s f.2) (read_code o a (field_of s type name a.val)).val)
        (sym (presence_told s env (IsSorted w) AnyValue AnyUid (sorted_kept s env w) lawful type name fields (Some f) e d)) (by f.1 (term_sorted type fields name f a.val e d sorted))
      where
        by : (p : Presence) → IsSorted w (with_presence p (sort_in s f.2)) (field_of s type name a.val) → IsSorted w (sort_in s f.2) (read_code (Some p) a (field_of s type name a.val)).val
        by Required h = h
        by Optional h = held_sorted w (sort_in s f.2) (field_of s type name a.val) (no_option s f.2) h

  -- ---- names one after the other

  -- where a front is false, it stays so
  false_stays : (steps : List HasStep) (front a : Code) → val front.ok w ≡ yes true → val front.val w ≡ yes false → Agrees w (along_code s front a steps) (of_bool false)
  false_stays [] front a h g = (h, g)
  false_stays (st ∷ steps) front a h g =
      let c = has_code s st.object st.name a in
      false_stays steps (and_code front c) (access_code s st.object st.name a)
      (and_ok w front.ok (or_term (not_term front.val) c.ok) true h ∙ or_ok w (not_term front.val) c.ok true (not_ok w front.val false g)) (and_ok w front.val c.val false g)

  -- where a front errs, so does the whole
  errs_stay : (steps : List HasStep) (front a : Code) → val front.ok w ≡ yes false → val (along_code s front a steps).ok w ≡ yes false
  errs_stay [] front a h = h
  errs_stay (st ∷ steps) front a h = errs_stay steps (and_code front (has_code s st.object st.name a)) (access_code s st.object st.name a) (and_ok w front.ok _ false h)

  -- a front that is true, and one more test that comes to a truth value
  joined : (front c : Code) (b : Bool) → val front.ok w ≡ yes true → val front.val w ≡ yes true → val c.ok w ≡ yes true → val c.val w ≡ yes b → (val (and_code front c).ok w ≡ yes true) × (val (and_code front c).val w ≡ yes b)
  joined front c b h g i j =
      (and_ok w front.ok (or_term (not_term front.val) c.ok) true h ∙ or_ok w (not_term front.val) c.ok false (not_ok w front.val true g) ∙ i, and_ok w front.val c.val true g ∙ j)

  -- whether a name is there, of an object that has a value
  has_told : (type : Ty) (fields : List Field) (name : List ℕ) (f : Field) (a : Code) (x : Value) (b : Bool) → attributes s type ≡ Some fields → attribute name fields ≡ Some f → IsSorted w (sort_in s type) a.val → Agrees w a (Ok x) → IsOf w type x
      → has name w x ≡ Ok b → (val (has_code s type name a).ok w ≡ yes true) × (val (has_code s type name a).val w ≡ yes b)
  has_told type fields name f a x b e d sorted h k is =
      let m = subst (λ (r : Result Bool EvalError). Meets (yes true) (val (has_term (presence_of s type name) (field_of s type name a.val)) w) (r >>= of_bool)) is (has_met type fields name f a.val e d sorted x k h.1) in
      (h.0, m.1)

  none_told : (type : Ty) (fields : List Field) (name : List ℕ) (a : Code) → attributes s type ≡ Some fields → attribute name fields ≡ None → val a.ok w ≡ yes true
      → (val (has_code s type name a).ok w ≡ yes true) × (val (has_code s type name a).val w ≡ yes false)
  none_told type fields name a e d h =
      (h, ap (λ (o : Option Presence). val (has_term o (field_of s type name a.val)) w) (presence_told s env (IsSorted w) AnyValue AnyUid (sorted_kept s env w) lawful type name fields None e d) ∙ truth_is false w)

  first_there : (name : List ℕ) (names : List (List ℕ)) (x y : Value) → has name w x ≡ Ok true → access name w x ≡ Ok y → has_path (name ∷ names) w x ≡ has_path names w y
  first_there name names x y there reads =
      ap (λ (r : Result Bool EvalError). r >>= λ p. if p then (access name w x >>= has_path names w) else Ok false) there ∙ ap (λ (o : Outcome). o >>= has_path names w) reads

  first_absent : (name : List ℕ) (names : List (List ℕ)) (x : Value) → has name w x ≡ Ok false → has_path (name ∷ names) w x ≡ Ok false
  first_absent name names x absent = ap (λ (r : Result Bool EvalError). r >>= λ p. if p then (access name w x >>= has_path names w) else Ok false) absent

  module _ (Q : Outcome → Type 0) (type : Ty) (fields : List Field) (name : List ℕ) (names : List (List ℕ)) (f : Field) (x : Value) (e : attributes s type ≡ Some fields) (d : attribute name fields ≡ Some f) (k : IsOf w type x) where
    -- what follows a declared name: the others are asked of what it reads, or the whole is false
    after_name : (b : Bool) → has name w x ≡ Ok b → (b ≡ true → (y : Value) → access name w x ≡ Ok y → IsOf w f.2 y → Q (has_path names w y >>= of_bool)) → (b ≡ false → Q (of_bool false)) → Q (has_path (name ∷ names) w x >>= of_bool)
    after_name true is g h =
        let y = value_declared s env literals w type fields x name f well e k d is in
        subst (λ (r : Result Bool EvalError). Q (r >>= of_bool)) (sym (first_there name names x y.0 is y.1)) (g refl y.0 y.1 y.2)
    after_name false is g h = subst (λ (r : Result Bool EvalError). Q (r >>= of_bool)) (sym (first_absent name names x is)) (h refl)

  reads_of : (type : Ty) (fields : List Field) (name : List ℕ) (f : Field) (a : Code) (x y : Value) → attributes s type ≡ Some fields → attribute name fields ≡ Some f → IsSorted w (sort_in s type) a.val → Agrees w a (Ok x) → IsOf w type x
      → access name w x ≡ Ok y → Agrees w (access_code s type name a) (Ok y)
  reads_of type fields name f a x y e d sorted h k is =
      subst (Agrees w (access_code s type name a)) is (access_agrees type fields name f a e d sorted (Ok x) h (λ z i. subst (IsOf w type) (same x z i) k))
    where
      same : (x z : Value) → ◌≡◌ {A = Outcome} (Ok x) (Ok z) → x ≡ z
      same x z i = cc

  along_agrees : {type : Ty} {names : List (List ℕ)} {steps : List HasStep} → IsAlong s type names steps → (front a : Code) (x : Value) → val front.ok w ≡ yes true → val front.val w ≡ yes true → Agrees w a (Ok x) → IsOf w type x
      → IsSorted w (sort_in s type) a.val → Agrees w (along_code s front a steps) (has_path names w x >>= of_bool)
  along_agrees (at_end type) front a x h g i k sorted = (h, g)
  along_agrees (never type name names fields found e d) front a x h g i k sorted =
      let n = none_told type fields name a e d i.0 in
      subst (λ (r : Result Bool EvalError). Agrees w (and_code front (has_code s type name a)) (r >>= of_bool)) (sym (first_absent name names x (none_undeclared s env literals w type fields x name well e k d)))
      (joined front (has_code s type name a) false h g n.0 n.1)
  along_agrees (declared type name names fields f found steps e d rest) front a x h g i k sorted =
      let asks = (seen type fields name a.val x e k i.1).1 in
      let told = has_told type fields name f a x _ e d sorted i k asks in
      let both = joined front (has_code s type name a) _ h g told.0 told.1 in
      after_name (Agrees w (along_code s front a (step name type found ∷ steps))) type fields name names f x e d k _ asks
      (λ yes_there y reads typed. along_agrees rest (and_code front (has_code s type name a)) (access_code s type name a) y both.0 (both.1 ∙ ap yes yes_there) (reads_of type fields name f a x y e d sorted i k reads) typed
      (access_sorted type fields name f a e d sorted))
      (λ absent. false_stays steps (and_code front (has_code s type name a)) (access_code s type name a) both.0 (both.1 ∙ ap yes absent))

  -- `a has b.c`
  path_of_value : {type : Ty} {names : List (List ℕ)} {steps : List HasStep} → IsAlong s type names steps → (a : Code) (x : Value) → Agrees w a (Ok x) → IsOf w type x → IsSorted w (sort_in s type) a.val
      → Agrees w (path_code s a steps) (has_path names w x >>= of_bool)
  path_of_value (at_end type) a x i k sorted = (i.0, truth_is true w)
  path_of_value (never type name names fields found e d) a x i k sorted =
      subst (λ (r : Result Bool EvalError). Agrees w (has_code s type name a) (r >>= of_bool)) (sym (first_absent name names x (none_undeclared s env literals w type fields x name well e k d))) (none_told type fields name a e d i.0)
  path_of_value (declared type name names fields f found steps e d rest) a x i k sorted =
      let asks = (seen type fields name a.val x e k i.1).1 in
      let told = has_told type fields name f a x _ e d sorted i k asks in
      after_name (Agrees w (path_code s a (step name type found ∷ steps))) type fields name names f x e d k _ asks
      (λ yes_there y reads typed. along_agrees rest (has_code s type name a) (access_code s type name a) y told.0 (told.1 ∙ ap yes yes_there) (reads_of type fields name f a x y e d sorted i k reads) typed
      (access_sorted type fields name f a e d sorted))
      (λ absent. false_stays steps (has_code s type name a) (access_code s type name a) told.0 (told.1 ∙ ap yes absent))

  path_errs : (steps : List HasStep) (a : Code) → val a.ok w ≡ yes false → val (path_code s a steps).ok w ≡ yes false
  path_errs [] a h = h
  path_errs (st ∷ steps) a h = errs_stay steps (has_code s st.object st.name a) (access_code s st.object st.name a) h

  pub path_agrees : {type : Ty} {names : List (List ℕ)} {steps : List HasStep} → IsAlong s type names steps → (a : Code) (o : Outcome) → Agrees w a o → ((x : Value) → o ≡ Ok x → IsOf w type x) → IsSorted w (sort_in s type) a.val
      → Agrees w (path_code s a steps) (o >>= has_path names w >>= of_bool)
  path_agrees d a (Ok x) h k sorted = path_of_value d a x h (k x refl) sorted
  path_agrees {steps = steps} d a (Err r) h k sorted = path_errs steps a h
