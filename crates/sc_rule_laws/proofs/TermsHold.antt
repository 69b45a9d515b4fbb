-- The rules whose truth rests on the sorts of terms, or on what is stored, are true of terms in each well-formed world of a lawful schema.
use Rattle.std.proofs.Common.{inl, ◌≡◌, ◌&&◌, ◌||◌, ◌==◌, ℕ, Bool, true, false, not, cond, inr, List, [], ◌∷◌, length, Option, Some, None, Contains, refl, sym, ap, ◌∙◌, subst}
use Rattle.std.specs.List.{All, list_all, list_any}
use Rattle.std.specs.Map.{lookup}
use Rattle.std.specs.Str.{bytes_eq}
use Rattle.std.proofs.lemmas.List.Elements.{All-contains}
use Rattle.std.proofs.lemmas.Map.Views.{Contains-from_lookup}
use Rattle.sc_lists.proofs.MemberLaws.{Has-from_Contains, Contains-from_Has}
use Rattle.sc_lists.specs.Members.{Has}
use Rattle.sc_laws.proofs.BoolLaws.{and_first, and_second, never}
use Rattle.sc_lists.proofs.ListLaws.{all_element}
use Rattle.sc_laws.proofs.OptionLaws.{same_some, some_of, option_map_some}
use Rattle.sc_lists.proofs.TextLaws.{bytes_eq_true}
use Rattle.sc_names.specs.declared.uid.Uid.{Uid}
use Rattle.sc_schema.specs.declared.declarations.Action.{Action}
use Rattle.sc_schema.specs.declared.declarations.Env.{Env}
use Rattle.sc_schema.specs.Declarations.{Declarations, action, action_ancestors, is_action_type, tags_of}
use Rattle.sc_schema.specs.Lawful.{IsLawful}
use Rattle.sc_schema.proofs.LookupLaws.{action_found, action_declared}
use Rattle.sc_values.specs.declared.value.Value.{Value, Value-F}
use Rattle.sc_values.specs.declared.value.Value.TheVariants as value
use Rattle.sc_values.specs.Records.{Fields, field}
use Rattle.sc_values.proofs.OutLaws as out
use Rattle.sc_world.specs.declared.world.World.{World}
use Rattle.sc_world.specs.Choices.{is_choice}
use Rattle.sc_world.specs.Stores.{stored}
use Rattle.sc_world.specs.WellFormed.{Entry, IsAction, IsStored, IsWellFormed}
use Rattle.sc_world.proofs.FillLaws.{of_stored}
use Rattle.sc_sorts.specs.declared.sort.Sort.{Sort, Sort-F, out-Sort}
use Rattle.sc_sorts.specs.declared.sort.Sort.TheVariants as sort
use Rattle.sc_sorts.specs.declared.sort.Sort.TheVariants.{rolls-Record, rolls-Entity}
use Rattle.sc_sorts.specs.declared.sort.Sort.TheOpen as s
use Rattle.sc_sorts.specs.contracts.sort.SortPartialEq.TheImpl.{ghosts as sorts}
use Rattle.sc_sorts.specs.Defaults.{is_option}
use Rattle.sc_sorts.specs.Entities.{choices_of}
use Rattle.sc_sorts.specs.Inside.{SortField, SortFields, field_sort, member_sort}
use Rattle.sc_sorts.proofs.EveryLaws.{in_Entity}
use Rattle.sc_sorts.specs.OrderLaws.{sort_eq_decides}
use Rattle.sc_sorts.specs.declared.node.Leaf.TheVariants as leafs
use Rattle.sc_sorts.specs.declared.node.Literal.TheVariants as literal
use Rattle.sc_sorts.specs.declared.node.UnaryOp.TheVariants as unary
use Rattle.sc_sorts.specs.declared.node.BinaryOp.TheVariants as binary
use Rattle.sc_sorts.specs.declared.node.ManyOp.TheVariants as manys
use Rattle.sc_terms.specs.Trees.{Tree, leaf, one, two, many, Trees}
use Rattle.sc_terms.specs.TreeSorts.{tree_sort}
use Rattle.sc_terms.specs.Folds.{field_term}
use Rattle.sc_terms.specs.Values.{Val, it, val, value_in, option_in, fields_seen, field_seen, field_value, HasKinds}
use Rattle.sc_terms.proofs.RecordValues.{field_is}
use Rattle.sc_term_laws.specs.Judging.{IsTermOf, IsTerm, HaveSort}
use Rattle.sc_term_laws.specs.Judging as judged
use Rattle.sc_term_laws.specs.Fitting.{Seen, is_record_of, Fits}
use Rattle.sc_term_laws.specs.LawfulSorts.{IsSortLevel, IsSortOf}
use Rattle.sc_term_laws.specs.Tests as test
use Rattle.sc_term_laws.proofs.BinaryJudged.{binary_kept}
use Rattle.sc_term_laws.proofs.ChoicesLaws.{ids_in, choice_there}
use Rattle.sc_term_laws.proofs.DefaultTypeLaws.{no_option}
use Rattle.sc_term_laws.proofs.FitLaws.{sights_of, field_may_lack}
use Rattle.sc_term_laws.proofs.FitVals.{fits_at}
use Rattle.sc_term_laws.proofs.JudgingLaws.{field_of_record}
use Rattle.sc_term_laws.proofs.SortsLawful.{action_type}
use Rattle.sc_term_laws.proofs.TermsFitLaws.{sort_lawful, value_fits, kinds_are}
use Rattle.sc_term_laws.proofs.TestLaws.{at_level, string_sort, member_sort_of, type_is}
use Rattle.sc_rule_laws.specs.Signed.{Holds}
use Rattle.sc_rule_laws.specs.Terms as term
use Rattle.sc_rule_laws.specs.Terms.{one_sort, fields_level, fields_of, members, choices_level, choices_in}
use Rattle.sc_rule_laws.specs.Equal.{eq3, eq4, eq7}
use Rattle.sc_rule_laws.specs.Sets.{se2, se8}
use Rattle.sc_rule_laws.specs.Entities.{en4, en5, en6, en7, chosen_of, is_acting, en8, eq9}
use Rattle.sc_rule_laws.specs.Strings.{Pattern, Signs, AreFew, st2, st3}
use Rattle.sc_rule_laws.proofs.MemberLaws.{all_has}
use Rattle.sc_rule_laws.proofs.FieldLaws.{one_record}
use Rattle.sc_rule_laws.proofs.SortValues.{IsASet, IsARecord, maybe_is, option_value, set_value, string_value, entity_value, record_value}
use Rattle.sc_rule_laws.proofs.EqualSound.{FieldsTell, IsAnOption, one_sort_is, eq3_holds, eq4_holds, eq7_holds}
use Rattle.sc_rule_laws.proofs.SetSound.{ArePlain, se2_holds, se8_holds}
use Rattle.sc_rule_laws.proofs.EntitySound.{IsAText, StoresAction, en4_holds, en5_holds, en6_at, en7_holds, chosen_at}
use Rattle.sc_rule_laws.proofs.StringSound.{AreStrings, st2_holds, st3_holds}

-- ---- fields

fields_at : (x : Sort-F Sort) (fs : SortFields) → fields_level x ≡ Some fs → x ≡ s.Record fs
fields_at (s.Record gs) fs e = ap s.Record (same_some e)
fields_at _ fs e = absurd cc

-- a field that isn't of an option sort is there, so what is seen of it tells what it is
one_seen : (b : Bool) (k : Sort) (o p : Option Value) → (b ≡ false → o ≡ None → ⊥) → (b ≡ false → p ≡ None → ⊥) → field_seen b k o ≡ field_seen b k p → o ≡ p
one_seen true k o p f g e = ap option_in e
one_seen false k (Some x) (Some y) f g e = ap (λ (z : Val). Some (value_in z)) e
one_seen false k (Some x) None f g e = absurd (g refl refl)
one_seen false k None p f g e = absurd (f refl refl)

-- a name that a sort hasn't
unknown_by : (b c : Bool) (k : Sort) (o : Option Sort) → cond b (Some k) o ≡ None → (o ≡ None → c ≡ false) → (b || c) ≡ false
unknown_by true c k o e h = absurd cc
unknown_by false c k o e h = h e

unknown : (name : List ℕ) (fs : SortFields) → lookup (bytes_eq name) fs ≡ None → list_any (λ (a : List ℕ × Seen). bytes_eq name a.0) (sights_of fs) ≡ false
unknown name [] e = refl
unknown name (f ∷ fs) e = unknown_by (bytes_eq name f.0) (list_any (λ (a : List ℕ × Seen). bytes_eq name a.0) (sights_of fs)) f.1 (lookup (bytes_eq name) fs) e (unknown name fs)

module _ (d : Declarations) (env : Env) (written : List Uid) (w : World) (lawful : IsLawful d) (well : IsWellFormed d env written w) where
  abbrev Is : Tree → Type 0
  Is t = IsTerm d env written t

  fit : (t : Tree) → Is t → Fits d w.store (tree_sort t) (val t w)
  fit t h = value_fits d env written w lawful well (tree_sort t) t h

  fit_at : (k : Sort) (t : Tree) → tree_sort t ≡ k → Is t → Fits d w.store k (val t w)
  fit_at k t e h = subst (λ (z : Sort). Fits d w.store z (val t w)) e (fit t h)

  kinds : (t : Tree) → Is t → HasKinds t w
  kinds t h = kinds_are d env written w lawful well (tree_sort t) t h

  -- ---- equations of records

  pub eq3_true : (r q : Tree) (i : ℕ) → Is r → Is q → Holds w (eq3 r q i)
  eq3_true r q i g h = eq3_holds w r q i (kinds r g) (kinds q h)

  record_sort : (t : Tree) (fs : SortFields) → fields_of t ≡ Some fs → tree_sort t ≡ sort.Record fs
  record_sort t fs e = at_level (tree_sort t) (s.Record fs) (fields_at (out-Sort (tree_sort t)) fs e) ∙ rolls-Record fs

  abbrev RecordOf : SortFields → Tree → Type 0
  RecordOf fs t = IsARecord d w.store fs (val t w)

  -- what a record has at a name of its sort
  component_is : (fs : SortFields) (name : List ℕ) (k : Sort) (t : Tree) → tree_sort t ≡ sort.Record fs → Is t → lookup (bytes_eq name) fs ≡ Some k → (x : RecordOf fs t)
      → val (field_term name t) w ≡ field_seen (is_option k) k (field name x.fields_are)
  component_is fs name k t e h l x =
      field_is name t w (kinds t h)
      ∙ ap (λ (z : Sort). field_value name z (val t w)) (ap (field_sort name) e ∙ field_of_record fs name k l)
      ∙ ap (λ (z : Val). field_value name k z) x.is
      ∙ ap (λ (z : Value-F Value). field_seen (is_option k) k (field name (fields_seen z))) (out.out_Record x.fields_are)

  lacks : (fs : SortFields) (name : List ℕ) (k : Sort) (t : Tree) → lookup (bytes_eq name) fs ≡ Some k → (x : RecordOf fs t) → is_option k ≡ false → field name x.fields_are ≡ None → ⊥
  lacks fs name k t l x plain none =
      never _ (sym (field_may_lack fs name k (value.Record x.fields_are) l x.of_sort (ap (λ (z : Value-F Value). field name (fields_seen z)) (out.out_Record x.fields_are) ∙ none)) ∙ plain)

  known : (fs : SortFields) (t : Tree) (x : RecordOf fs t) → list_all (λ (f : List ℕ × Value). list_any (λ (a : List ℕ × Seen). bytes_eq f.0 a.0) (sights_of fs)) x.fields_are ≡ true
  known fs t x =
      and_second _ _
      (ap (is_record_of (sights_of fs)) (sym (out.out_Record x.fields_are))
      ∙ ap (λ (z : Value → Bool). z (value.Record x.fields_are)) (sym (fits_at (sort.Record fs) (s.Record fs) (rolls-Record fs))) ∙ x.of_sort)

  no_other : (fs : SortFields) (name : List ℕ) (t : Tree) (x : RecordOf fs t) → lookup (bytes_eq name) fs ≡ None → field name x.fields_are ≡ None
  no_other fs name t x e = by (field name x.fields_are) refl
    where
      by : (o : Option Value) → field name x.fields_are ≡ o → o ≡ None
      by None f = refl
      by (Some z) f =
          never _
          (sym
          (all_has (λ (g : List ℕ × Value). list_any (λ (a : List ℕ × Seen). bytes_eq g.0 a.0) (sights_of fs)) x.fields_are (name, z) (known fs t x)
          (Has-from_Contains x.fields_are (name, z) (Contains-from_lookup (λ a b g. bytes_eq_true a b g) name z x.fields_are f)))
          ∙ unknown name fs e)

  agree : (fs : SortFields) (r q : Tree) → tree_sort r ≡ sort.Record fs → tree_sort q ≡ sort.Record fs → Is r → Is q → (x : RecordOf fs r) (y : RecordOf fs q)
      → ((f : SortField) → Has fs f → val (field_term f.0 r) w ≡ val (field_term f.0 q) w) → (name : List ℕ) (o : Option Sort) → lookup (bytes_eq name) fs ≡ o → field name x.fields_are ≡ field name y.fields_are
  agree fs r q a b g h x y each name (Some k) l =
      one_seen (is_option k) k (field name x.fields_are) (field name y.fields_are) (lacks fs name k r l x) (lacks fs name k q l y)
      (sym (component_is fs name k r a g l x)
      ∙ each (name, k) (Has-from_Contains fs (name, k) (Contains-from_lookup (λ m n e. bytes_eq_true m n e) name k fs l))
      ∙ component_is fs name k q b h l y)
  agree fs r q a b g h x y each name None l = no_other fs name r x l ∙ sym (no_other fs name q y l)

  fields_tell : (r q : Tree) → Is r → Is q → (fs : SortFields) → fields_of r ≡ Some fs → one_sort r q ≡ true → FieldsTell w r q fs
  fields_tell r q g h fs e same each =
      let a : tree_sort r ≡ sort.Record fs = record_sort r fs e in
      let b : tree_sort q ≡ sort.Record fs = sym (one_sort_is r q same) ∙ a in
      let x = record_value d w.store fs (val r w) (fit_at (sort.Record fs) r a g) in
      let y = record_value d w.store fs (val q w) (fit_at (sort.Record fs) q b h) in
      x.is
      ∙ ap (λ (z : Fields). it (value.Record z))
      (one_record x.fields_are y.fields_are x.ascending y.ascending (λ name. agree fs r q a b g h x y each name (lookup (bytes_eq name) fs) refl))
      ∙ sym y.is

  pub eq4_true : (r q : Tree) → Is r → Is q → Holds w (eq4 r q)
  eq4_true r q g h = eq4_holds w r q (fields_tell r q g h)

  -- ---- options

  an_option : (t : Tree) → Is t → term.is_option t ≡ true → IsAnOption w t
  an_option t h e = option_value d w.store (tree_sort t) (val t w) (fit t h) e

  pub eq7_true : (o q : Tree) (i : ℕ) → Is o → Is q → Holds w (eq7 o q i)
  eq7_true o q i g h = eq7_holds w o q i (an_option o g) (λ same e. an_option q h (ap is_option (sym (one_sort_is o q same)) ∙ e))

  -- ---- sets

  set_parts : (j k : Sort) (ts : Trees) → IsTermOf d env written j (many (manys.Set k) ts) → (is_option k ≡ false) × HaveSort d env written k ts
  set_parts _ _ _ (judged.of_set k ts held h) = (held.0, h)

  members_have : (k : Sort) (ts : Trees) → HaveSort d env written k ts → (t : Tree) → Has (members ts) t → IsTermOf d env written k t
  members_have _ _ (judged.no_member k) t h = absurd h
  members_have _ _ (judged.with_member k u ts g more) t (inl is) = subst (IsTermOf d env written k) is g
  members_have _ _ (judged.with_member k u ts g more) t (inr later) = members_have k ts more t later

  plain_members : (x q : Tree) → Is x → Is q → (k : Sort) (ts : Trees) → q ≡ many (manys.Set k) ts → sorts.eq (tree_sort x) k ≡ true → ArePlain w x ts
  plain_members x q g h k ts is same =
      let set = set_parts (tree_sort (many (manys.Set k) ts)) k ts (subst Is is h) in
      record {
        own = maybe_is d w.store (tree_sort x) (val x w) (fit x g) ∙ ap is_option ((sort_eq_decides (tree_sort x) k).0 same) ∙ set.0;
        each = λ t there. maybe_is d w.store k (val t w) (value_fits d env written w lawful well k t (members_have k ts set.1 t there)) ∙ set.0;
      }

  pub se2_true : (x q : Tree) → Is x → Is q → Holds w (se2 x q)
  se2_true x q g h = se2_holds w x q (plain_members x q g h)

  a_set : (t : Tree) → Is t → term.is_set t ≡ true → IsASet (val t w)
  a_set t h e = set_value d w.store (member_sort (tree_sort t)) (val t w) (fit_at (sort.Set (member_sort (tree_sort t))) t (member_sort_of (tree_sort t) e) h)

  pub se8_true : (q t : Tree) (i : ℕ) → Is q → Is t → Holds w (se8 q t i)
  se8_true q t i g h = se8_holds w q t i (a_set q g) (a_set t h)

  -- ---- what is stored

  pub en4_true : (e : Tree) → Holds w (en4 e)
  en4_true e = en4_holds w e well.acyclic

  pub en5_true : (e f x u : Tree) → Holds w (en5 e f x u)
  en5_true e f x u = en5_holds w e f x u well.transitive

  a_text : (t : Tree) → Is t → test.is_string (tree_sort t) ≡ true → IsAText w t
  a_text t h e = let string = string_value d w.store (val t w) (fit_at sort.String t (string_sort (tree_sort t) e) h) in (string.bytes, string.is)

  -- a tag is of a type's sort, which is none of options
  tag_true : (k : Sort) (e key : Tree) → Is (two (binary.Tag k) e key) → Holds w (en6 (two (binary.Tag k) e key))
  tag_true k e key h =
      let kept = binary_kept d env written (tree_sort (two (binary.Tag k) e key)) (binary.Tag k) e key h in
      let rest = and_second (test.is_entity_sort d (tree_sort e)) (test.is_string (tree_sort key) && test.is_sort_of (tags_of d (test.name_of (tree_sort e))) k) kept.2 in
      let type = type_is (tags_of d (test.name_of (tree_sort e))) k (and_second (test.is_string (tree_sort key)) (test.is_sort_of (tags_of d (test.name_of (tree_sort e))) k) rest) in
      en6_at w k e key (ap is_option type.2 ∙ no_option type.0)
      (a_text key kept.1 (and_first (test.is_string (tree_sort key)) (test.is_sort_of (tags_of d (test.name_of (tree_sort e))) k) rest))

  pub en6_true : (a : Tree) → Is a → Holds w (en6 a)
  en6_true (two (binary.Tag k) e key) h = tag_true k e key h
  en6_true _ h = tt

  -- ---- actions

  stored_action : (u : Uid) → IsStored w.store u → is_action_type d u.type_name ≡ true → (a : Action) × Contains d.actions a × (u ≡ a.uid) × StoresAction w u a.ancestors
  stored_action u there typed =
      let kept = some_of (stored u w.store) there in
      let is = of_stored (IsAction d) u kept.0 w.store well.actions kept.1 typed in (
        is.0,
        is.1,
        ap (λ (x : Entry). x.0) is.2,
        record { kept = kept.0; is_kept = kept.1; ancestors_are = ap (λ (x : Entry). x.1.ancestors) is.2 },
      )

  stores : (u : Uid) (us : List Uid) → action_ancestors d u ≡ Some us → StoresAction w u us
  stores u us e =
      let found = option_map_some (λ (a : Action). a.ancestors) (action d u) us e in
      let declared = action_declared d u found.0 found.1 in
      let there : IsStored w.store u = subst (IsStored w.store) (sym declared.1) (all_element (λ (a : Action). IsStored w.store a.uid) d.actions found.0 well.declared_actions declared.0) in
      let typed : is_action_type d u.type_name ≡ true = ap (λ (v : Uid). is_action_type d v.type_name) declared.1 ∙ action_type d lawful found.0 declared.0 in
      let is = stored_action u there typed in
      let one : is.0 ≡ found.0 = same_some (sym (action_found d is.0 lawful is.1) ∙ ap (action d) (sym is.2) ∙ found.1) in
      subst (StoresAction w u) (ap (λ (a : Action). a.ancestors) one ∙ found.2) is.3

  pub en7_true : (q x : Tree) → Holds w (en7 d q x)
  en7_true (one (unary.Ancestors k) (leaf (leafs.Literal (literal.Entity u choices)))) x = en7_holds w d k u choices x (stores u)
  en7_true _ x = tt

  -- ---- entities that their types list

  some_listed : (us : List Uid) → not (length us == 0) ≡ true → us ≡ [] → ⊥
  some_listed [] t e = absurd cc
  some_listed (u ∷ us) t e = absurd cc

  chosen_among : (x : Tree) → Is x → (y : Sort-F Sort) → out-Sort (tree_sort x) ≡ y → not (length (choices_level y) == 0) ≡ true → (u : Uid) × (val x w ≡ it (value.Entity u)) × Has (choices_level y) u
  chosen_among x h (s.Entity name us) e t =
      let k : tree_sort x ≡ sort.Entity name us = at_level (tree_sort x) (s.Entity name us) e ∙ rolls-Entity name us in
      let entity = entity_value d w.store name us (val x w) (fit_at (sort.Entity name us) x k h) in
      let level = (in_Entity (IsSortLevel d) name us).0 (subst (IsSortOf d) k (sort_lawful d env written w lawful well (tree_sort x) x h)) in
      let listed : us ≡ choices_of d name = level.1 in
      let there : Contains (choices_of d name) entity.uid =
      choice_there d name entity.uid entity.named (ap (λ (vs : List Uid). is_choice (ids_in vs) entity.uid.id) (sym listed) ∙ entity.chosen) (λ none. some_listed us t (listed ∙ none)) in
      (entity.uid, entity.is, Has-from_Contains us entity.uid (subst (λ (vs : List Uid). Contains vs entity.uid) (sym listed) there))
  chosen_among x h _ e t = absurd cc

  chosen_true : (x : Tree) (asked : Bool) → Is x → Holds w (chosen_of d x asked (choices_in x))
  chosen_true x asked h = chosen_at w d x asked (choices_in x) (chosen_among x h (out-Sort (tree_sort x)) refl)

  pub en8_true : (x : Tree) → Is x → Holds w (en8 d x)
  en8_true x h = chosen_true x (is_acting d x) h

  pub eq9_true : (x : Tree) → Is x → Holds w (eq9 d x)
  eq9_true x h = chosen_true x (not (is_acting d x)) h

  -- ---- strings

  are_strings : (ts : List Tree) → All Is ts → list_all term.is_string ts ≡ true → AreStrings w ts
  are_strings ts all e t there =
      string_value d w.store (val t w)
      (fit_at sort.String t (string_sort (tree_sort t) (all_has term.is_string ts t e there)) (All-contains Is ts t all (Contains-from_Has ts t there)))

  pub st2_true : (qs : List Pattern) (v : Signs) (ts : List Tree) → All Is ts → AreFew qs v (length ts) → Holds w (st2 qs v ts)
  st2_true qs v ts all few = st2_holds w qs v ts (are_strings ts all) few

  pub st3_true : (qs : List Pattern) (v : Signs) (ts : List Tree) → All Is ts → AreFew qs v (length ts) → Holds w (st3 qs v ts)
  st3_true qs v ts all few = st3_holds w qs v ts (are_strings ts all) few
