-- The names of classes under a consistent assignment are those of a model.
use Rattle.std.proofs.Common.{◌≡◌, ◌↔◌, Bool, true, false, List, [], Option, Some, None, refl, ap, sym, ◌∙◌}
use Rattle.std.specs.Str.{chars}
use Rattle.sc_pattern.specs.Language.{is_match}
use Rattle.sc_rule_laws.specs.Strings.{Pattern}
use Rattle.sc_laws.proofs.OptionLaws.{same_some}
use Rattle.sc_lists.specs.Members.{Has}
use Rattle.sc_names.specs.declared.uid.Uid.{Uid}
use Rattle.sc_schema.specs.declared.declarations.Env.{Env}
use Rattle.sc_schema.specs.Declarations.{Declarations}
use Rattle.sc_values.proofs.OutLaws as out
use Rattle.sc_sorts.specs.declared.sort.Sort.{Sort, Sort-F, out-Sort}
use Rattle.sc_sorts.specs.declared.sort.Sort.TheVariants as sort
use Rattle.sc_sorts.specs.declared.sort.Sort.TheOpen as s
use Rattle.sc_sorts.specs.contracts.sort.SortPartialEq.TheImpl.{ghosts as sorts}
use Rattle.sc_sorts.specs.Inside.{name_in}
use Rattle.sc_sorts.specs.OrderLaws.{sort_eq_decides}
use Rattle.sc_sorts.proofs.OutLaws.{out_String, out_Entity}
use Rattle.sc_sorts.specs.declared.node.Leaf.TheVariants as leafs
use Rattle.sc_sorts.specs.declared.node.UnaryOp.TheVariants.{Like}
use Rattle.sc_sorts.specs.declared.node.Literal.TheVariants as literals
use Rattle.sc_terms.specs.Trees.{Tree, leaf, one, two, choice, many}
use Rattle.sc_terms.specs.TreeSorts.{tree_sort}
use Rattle.sc_terms.specs.Folds.{constant, literal_of, literal_term, equal_term, like_term}
use Rattle.sc_terms.specs.Values.{text_in, text_seen, uid_in, uid_seen}
use Rattle.sc_term_laws.specs.Tests.{bool_level, is_bool, name_of}
use Rattle.sc_rule_laws.specs.Terms.{is_named, is_named_level}
use Rattle.sc_rule_laws.proofs.MemberLaws.{filter_within, filter_passes, filter_kept}
use Rattle.sc_closure_rules.specs.Closure.{Closed}
use Rattle.sc_model_laws.specs.Assignments.{Assignment, lit}
use Rattle.sc_model_laws.specs.Consistent.{IsConsistent}
use Rattle.sc_model_laws.specs.Models.{IsModel}
use Rattle.sc_model_laws.specs.Names.{Name, Named, Texts, literal_text, literal_id, of_sort, are_equal, or_fresh, class_name, literal_entries, names_of, text_of, id_of, model_of}
use Rattle.sc_model_laws.specs.Texts.{IsString, ArePatterns, AreTextsOf}
use Rattle.sc_model_laws.proofs.ClaimLaws.{no_truth, sort_of_literal}
use Rattle.sc_model_laws.proofs.ClassLaws.{IsClassed, one_class, of_one_name, literal_name}
use Rattle.sc_model_laws.proofs.ClosedLaws.{entities_equation}
use Rattle.sc_model_laws.proofs.EqualityLaws.{AreEquated, strings_equated, equal_itself, equal_back, literals_one, equal_through}
use Rattle.sc_model_laws.proofs.NameLaws.{AreNames, name_found, name_some, likes_agree, all_named, named_kept, named_each, literals_named, literal_entered}

-- ---- literals

pub text_is : (x : Tree) (n : Name) → literal_text x ≡ Some n → x ≡ literal_term (literals.String n)
text_is (leaf (leafs.Literal (literals.String t))) n e = ap (λ (z : Name). literal_term (literals.String z)) (same_some e)
text_is (leaf (leafs.Literal (literals.Bool b))) n e = absurd cc
text_is (leaf (leafs.Literal (literals.Long z))) n e = absurd cc
text_is (leaf (leafs.Literal (literals.Decimal z))) n e = absurd cc
text_is (leaf (leafs.Literal (literals.Ip z))) n e = absurd cc
text_is (leaf (leafs.Literal (literals.Entity u us))) n e = absurd cc
text_is (leaf (leafs.None k)) n e = absurd cc
text_is (leaf (leafs.Principal k)) n e = absurd cc
text_is (leaf (leafs.Resource k)) n e = absurd cc
text_is (leaf (leafs.Context k)) n e = absurd cc
text_is (one o a) n e = absurd cc
text_is (two o a b) n e = absurd cc
text_is (choice c a b) n e = absurd cc
text_is (many o ts) n e = absurd cc

pub id_is : (x : Tree) (n : Name) → literal_id x ≡ Some n → (u : Uid) × (us : List Uid) × (x ≡ literal_term (literals.Entity u us)) × (u.id ≡ n)
id_is (leaf (leafs.Literal (literals.Entity u us))) n e = (u, us, refl, same_some e)
id_is (leaf (leafs.Literal (literals.Bool b))) n e = absurd cc
id_is (leaf (leafs.Literal (literals.Long z))) n e = absurd cc
id_is (leaf (leafs.Literal (literals.String z))) n e = absurd cc
id_is (leaf (leafs.Literal (literals.Decimal z))) n e = absurd cc
id_is (leaf (leafs.Literal (literals.Ip z))) n e = absurd cc
id_is (leaf (leafs.None k)) n e = absurd cc
id_is (leaf (leafs.Principal k)) n e = absurd cc
id_is (leaf (leafs.Resource k)) n e = absurd cc
id_is (leaf (leafs.Context k)) n e = absurd cc
id_is (one o a) n e = absurd cc
id_is (two o a b) n e = absurd cc
id_is (choice c a b) n e = absurd cc
id_is (many o ts) n e = absurd cc

-- the type and the choices of a literal's sort
entity_sort_is : (u : Uid) (us : List Uid) (name : Name) (vs : List Uid) → tree_sort (literal_term (literals.Entity u us)) ≡ sort.Entity name vs → (u.type_name ≡ name) × (us ≡ vs)
unfolding tree_sort
entity_sort_is u us name vs e =
    let one : s.Entity u.type_name us ≡ s.Entity name vs = sym (out_Entity u.type_name us) ∙ ap out-Sort e ∙ out_Entity name vs in
    (ap name_in one, ap choices_in one) where
      choices_in : Sort-F Sort → List Uid
      choices_in (s.Entity n ws) = ws
      choices_in _ = us

module _ (d : Declarations) (env : Env) (goal : Tree) (closed : List Tree) (m : Assignment) (is : IsConsistent d env goal m) (listed : (x : Tree) → Has closed x ↔ Closed d env goal x) where
  of_sort_is : (k : Sort) (x : Tree) → Has (of_sort k closed) x → Closed d env goal x × (tree_sort x ≡ k)
  unfolding of_sort
  of_sort_is k x h =
      let test : Tree → Bool = λ z. sorts.eq (tree_sort z) k in
      ((listed x).0 (filter_within test closed x h), (sort_eq_decides (tree_sort x) k).0 (filter_passes test closed x h))

  is_of_sort : (k : Sort) (x : Tree) → Closed d env goal x → tree_sort x ≡ k → Has (of_sort k closed) x
  unfolding of_sort
  is_of_sort k x c e = filter_kept (λ (z : Tree). sorts.eq (tree_sort z) k) closed x ((listed x).1 c) ((sort_eq_decides (tree_sort x) k).1 e)

  -- ---- classes

  module _ (k : Sort) (plain : is_bool k ≡ false) (named : is_named_level (out-Sort k) ≡ true) (literal : Tree → Option Name)
      (one_term : (x y : Tree) (n : Name) → tree_sort x ≡ k → tree_sort y ≡ k → literal x ≡ Some n → literal y ≡ Some n → x ≡ y)
      (one_said : (x y : Tree) (n o : Name) → tree_sort x ≡ k → tree_sort y ≡ k → literal x ≡ Some n → literal y ≡ Some o → lit m (equal_term x y) ≡ true → n ≡ o)
      (pair : (x y : Tree) → tree_sort x ≡ k → tree_sort y ≡ k → Closed d env goal x → Closed d env goal y → Closed d env goal (equal_term x y)) where
    named_at : (x : Tree) → tree_sort x ≡ k → is_named x ≡ true
    named_at x e = ap (λ (j : Sort). is_named_level (out-Sort j)) e ∙ named

    closed_pair : (x y : Tree) → Has (of_sort k closed) x → Has (of_sort k closed) y → Closed d env goal (equal_term x y)
    closed_pair x y h i = let a = of_sort_is k x h in let b = of_sort_is k y i in pair x y a.1 b.1 a.0 b.0

    no_bool : (x : Tree) → Has (of_sort k closed) x → constant x ≡ None
    no_bool x h = no_truth k x (of_sort_is k x h).1 plain

    through_class : (x y z : Tree) → Has (of_sort k closed) x → Has (of_sort k closed) y → Has (of_sort k closed) z → lit m (equal_term x y) ≡ true → lit m (equal_term y z) ≡ true → lit m (equal_term x z) ≡ true
    through_class x y z h i j t u =
        let a = of_sort_is k x h in
        let b = of_sort_is k y i in
        let c = of_sort_is k z j in
        equal_through d env goal m is x y z a.0 b.0 c.0 (named_at x a.1) (named_at y b.1) (named_at z c.1) (closed_pair x y h i) (closed_pair y z i j) (closed_pair x z h j) t u

    classed : IsClassed (are_equal m) literal (of_sort k closed)
    classed = record {
      itself = λ x h. equal_itself m x (no_bool x h);
      turned = λ x y h i t. equal_back m x y (no_bool x h) (no_bool y i) t;
      through = through_class;
      one_literal = λ x y n h i e f. one_term x y n (of_sort_is k x h).1 (of_sort_is k y i).1 e f;
      one_name = λ x y n o h i e f t. one_said x y n o (of_sort_is k x h).1 (of_sort_is k y i).1 e f t;
    }

    pub named_apart : (x y : Tree) → Closed d env goal x → Closed d env goal y → tree_sort x ≡ k → tree_sort y ≡ k
        → (class_name (are_equal m) literal (of_sort k closed) x ≡ class_name (are_equal m) literal (of_sort k closed) y) ↔ (lit m (equal_term x y) ≡ true)
    named_apart x y c e h i = (
      λ t. of_one_name (are_equal m) literal (of_sort k closed) classed x y (is_of_sort k x c h) (is_of_sort k y e i) t,
      λ t. one_class (are_equal m) literal (of_sort k closed) classed x y (is_of_sort k x c h) (is_of_sort k y e i) t,
    )

    pub literal_said : (x : Tree) (n : Name) → Closed d env goal x → tree_sort x ≡ k → literal x ≡ Some n → class_name (are_equal m) literal (of_sort k closed) x ≡ n
    literal_said x n c h e = literal_name (are_equal m) literal (of_sort k closed) classed x n (is_of_sort k x c h) e

  -- ---- strings

  string_plain : is_bool sort.String ≡ false
  string_plain = ap bool_level out_String

  said_text : (x y : Tree) (n o : Name) → tree_sort x ≡ sort.String → tree_sort y ≡ sort.String → literal_text x ≡ Some n → literal_text y ≡ Some o → lit m (equal_term x y) ≡ true → n ≡ o
  said_text x y n o h i e f t =
      let one = literals_one m x y (literals.String n) (literals.String o) (no_truth sort.String x h string_plain) (no_truth sort.String y i string_plain)
      (ap literal_of (text_is x n e)) (ap literal_of (text_is y o f)) t in
      sym (ap text_seen (out.out_String n)) ∙ ap text_in one ∙ ap text_seen (out.out_String o)

  -- ---- entities

  module _ (name : Name) (us : List Uid) where
    entity_plain : is_bool (sort.Entity name us) ≡ false
    entity_plain = ap bool_level (out_Entity name us)

    entity_named : is_named_level (out-Sort (sort.Entity name us)) ≡ true
    entity_named = ap is_named_level (out_Entity name us)

    one_uid : (x y : Tree) (n : Name) → tree_sort x ≡ sort.Entity name us → tree_sort y ≡ sort.Entity name us → literal_id x ≡ Some n → literal_id y ≡ Some n → x ≡ y
    one_uid x y n h i e f =
        let a = id_is x n e in
        let b = id_is y n f in
        let p = entity_sort_is a.0 a.1 name us (ap tree_sort (sym a.2) ∙ h) in
        let q = entity_sort_is b.0 b.1 name us (ap tree_sort (sym b.2) ∙ i) in
        let types : a.0.type_name ≡ b.0.type_name = p.0 ∙ sym q.0 in
        let ids : a.0.id ≡ b.0.id = a.3 ∙ sym b.3 in
        let choices : a.1 ≡ b.1 = p.1 ∙ sym q.1 in
        a.2 ∙ (λ j. literal_term (literals.Entity (record { type_name = types j; id = ids j }) (choices j))) ∙ sym b.2

    said_uid : (x y : Tree) (n o : Name) → tree_sort x ≡ sort.Entity name us → tree_sort y ≡ sort.Entity name us → literal_id x ≡ Some n → literal_id y ≡ Some o → lit m (equal_term x y) ≡ true → n ≡ o
    said_uid x y n o h i e f t =
        let a = id_is x n e in
        let b = id_is y o f in
        let one_value = literals_one m x y (literals.Entity a.0 a.1) (literals.Entity b.0 b.1) (no_truth (sort.Entity name us) x h entity_plain) (no_truth (sort.Entity name us) y i entity_plain)
        (ap literal_of a.2) (ap literal_of b.2) t in
        let uids : a.0 ≡ b.0 = sym (ap uid_seen (out.out_Entity a.0)) ∙ ap uid_in one_value ∙ ap uid_seen (out.out_Entity b.0) in
        sym a.3 ∙ ap (λ (u : Uid). u.id) uids ∙ b.3

    entity_pair : (x y : Tree) → tree_sort x ≡ sort.Entity name us → tree_sort y ≡ sort.Entity name us → Closed d env goal x → Closed d env goal y → Closed d env goal (equal_term x y)
    entity_pair x y h i c e = entities_equation d env goal name us x y h i c e

    entities_apart : (x y : Tree) → Closed d env goal x → Closed d env goal y → tree_sort x ≡ sort.Entity name us → tree_sort y ≡ sort.Entity name us
        → (class_name (are_equal m) literal_id (of_sort (sort.Entity name us) closed) x ≡ class_name (are_equal m) literal_id (of_sort (sort.Entity name us) closed) y) ↔ (lit m (equal_term x y) ≡ true)
    entities_apart x y c e h i = named_apart (sort.Entity name us) entity_plain entity_named literal_id one_uid said_uid entity_pair x y c e h i

    entity_said : (x : Tree) (n : Name) → Closed d env goal x → tree_sort x ≡ sort.Entity name us → literal_id x ≡ Some n → class_name (are_equal m) literal_id (of_sort (sort.Entity name us) closed) x ≡ n
    entity_said x n c h e = literal_said (sort.Entity name us) entity_plain entity_named literal_id one_uid said_uid entity_pair x n c h e

  -- ---- the names of strings

  module _ (qs : List Pattern) (patterns : ArePatterns d env goal qs) (texts : Texts) (texts_are : AreTextsOf d env goal m qs texts) where
    equal : AreEquated d env goal m
    equal = strings_equated d env goal m is

    abbrev strings : List Tree
    strings = of_sort sort.String closed

    abbrev names : Named
    names = names_of m qs texts closed

    are_strings : (x : Tree) → Has (of_sort sort.String closed) x → IsString d env goal x
    are_strings x h = of_sort_is sort.String x h

    said : (x y : Tree) (n o : Name) → IsString d env goal x → IsString d env goal y → literal_text x ≡ Some n → literal_text y ≡ Some o → lit m (equal_term x y) ≡ true → n ≡ o
    said x y n o s t e f g = said_text x y n o s.1 t.1 e f g

    names_are : AreNames d env goal m is qs patterns (strings_equated d env goal m is) texts texts_are (names_of m qs texts closed)
    names_are =
        all_named d env goal m is qs patterns (strings_equated d env goal m is) texts texts_are (literal_entries (of_sort sort.String closed)) (of_sort sort.String closed)
        (literals_named d env goal m is qs patterns (strings_equated d env goal m is) texts texts_are text_is said (of_sort sort.String closed) are_strings) are_strings

    -- a string has the name of one that equals it
    record IsNamed (x : Tree) : Type 0 where
      entry : Tree × Name
      there : Has (names_of m qs texts closed) entry
      same : lit m (equal_term x entry.0) ≡ true
      is_name : text_of m qs texts closed x ≡ entry.1

    string_named : (x : Tree) → IsString d env goal x → IsNamed x
    string_named x s =
        let own = named_each d env goal m is qs patterns equal texts texts_are (literal_entries (of_sort sort.String closed)) (of_sort sort.String closed) x (is_of_sort sort.String x s.0 s.1) in
        let some = name_some (are_equal m) (names_of m qs texts closed) x (x, own.0) own.1 (equal.itself x s) in
        let found = name_found (are_equal m) (names_of m qs texts closed) x some.0 some.1 in
        record { entry = found.0; there = found.1; same = found.2; is_name = ap (λ (o : Option Name). or_fresh o []) some.1 ∙ sym found.3 }

    texts_named : (x y : Tree) → IsString d env goal x → IsString d env goal y → (text_of m qs texts closed x ≡ text_of m qs texts closed y) ↔ (lit m (equal_term x y) ≡ true)
    texts_named x y s t =
        let a = string_named x s in
        let b = string_named y t in
        let p = names_are.strings a.entry a.there in
        let q = names_are.strings b.entry b.there in (
          λ e.
              let one : lit m (equal_term a.entry.0 b.entry.0) ≡ true = names_are.alone a.entry b.entry a.there b.there (sym a.is_name ∙ e ∙ b.is_name) in
              equal.through x a.entry.0 y s p t a.same (equal.through a.entry.0 b.entry.0 y p q t one (equal.turned y b.entry.0 t q b.same)),
          λ e.
              let one : lit m (equal_term a.entry.0 b.entry.0) ≡ true = equal.through a.entry.0 x b.entry.0 p s q (equal.turned x a.entry.0 s p a.same) (equal.through x y b.entry.0 s t q e b.same) in
              a.is_name ∙ names_are.one a.entry b.entry a.there b.there one ∙ sym b.is_name,
        )

    text_said : (t : Name) → Closed d env goal (literal_term (literals.String t)) → text_of m qs texts closed (literal_term (literals.String t)) ≡ t
    text_said t c =
        let x : Tree = literal_term (literals.String t) in
        let s : IsString d env goal (literal_term (literals.String t)) = (c, sort_of_literal (literals.String t)) in
        let a = string_named (literal_term (literals.String t)) s in
        let own = named_kept d env goal m is qs patterns equal texts texts_are (literal_entries (of_sort sort.String closed)) (of_sort sort.String closed) (literal_term (literals.String t), t)
        (literal_entered d env goal m is qs patterns equal texts texts_are text_is said (of_sort sort.String closed) are_strings (literal_term (literals.String t)) t
        (is_of_sort sort.String (literal_term (literals.String t)) c s.1) refl) in
        a.is_name ∙ sym (names_are.one (literal_term (literals.String t), t) a.entry own a.there a.same)

    text_likes : (p : Pattern) (x y : Tree) → IsString d env goal x → Closed d env goal (one (Like p) y) → is_match p (chars (text_of m qs texts closed x)) ≡ lit m (like_term x p)
    text_likes p x y s h =
        let a = string_named x s in
        let there = patterns.asked p y h in
        let string = names_are.strings a.entry a.there in
        ap (λ (t : Name). is_match p (chars t)) a.is_name ∙ names_are.likes a.entry a.there p there
        ∙ likes_agree d env goal m is qs patterns a.entry.0 x p string s there (equal.turned x a.entry.0 s string a.same) a.same

  -- ---- the model

  id_at : (x : Tree) (k : Sort) → tree_sort x ≡ k → id_of m closed x ≡ class_name (are_equal m) literal_id (of_sort k closed) x
  id_at x k e = ap (λ (j : Sort). class_name (are_equal m) literal_id (of_sort j closed) x) e

  type_at : (x : Tree) (name : Name) (us : List Uid) → tree_sort x ≡ sort.Entity name us → name_of (tree_sort x) ≡ name
  type_at x name us e = ap name_in (ap out-Sort e ∙ out_Entity name us)

  module _ (qs : List Pattern) (patterns : ArePatterns d env goal qs) (texts : Texts) (texts_are : AreTextsOf d env goal m qs texts) where
    uids_named : (name : Name) (us : List Uid) (x y : Tree) → Closed d env goal x → Closed d env goal y → tree_sort x ≡ sort.Entity name us → tree_sort y ≡ sort.Entity name us
        → ((model_of qs texts closed m).uid x ≡ (model_of qs texts closed m).uid y) ↔ (lit m (equal_term x y) ≡ true)
    uids_named name us x y c e h i =
        let apart = entities_apart name us x y c e h i in (
          λ t. apart.0 (sym (id_at x (sort.Entity name us) h) ∙ ap (λ (u : Uid). u.id) t ∙ id_at y (sort.Entity name us) i),
          λ t.
              let types : name_of (tree_sort x) ≡ name_of (tree_sort y) = type_at x name us h ∙ sym (type_at y name us i) in
              let ids : id_of m closed x ≡ id_of m closed y = id_at x (sort.Entity name us) h ∙ apart.1 t ∙ sym (id_at y (sort.Entity name us) i) in
              λ j. record { type_name = types j; id = ids j },
        )

    uid_said : (u : Uid) (us : List Uid) → Closed d env goal (literal_term (literals.Entity u us)) → (model_of qs texts closed m).uid (literal_term (literals.Entity u us)) ≡ u
    uid_said u us c =
        let h : tree_sort (literal_term (literals.Entity u us)) ≡ sort.Entity u.type_name us = sort_of_literal (literals.Entity u us) in
        let types : name_of (tree_sort (literal_term (literals.Entity u us))) ≡ u.type_name = type_at (literal_term (literals.Entity u us)) u.type_name us h in
        let ids : id_of m closed (literal_term (literals.Entity u us)) ≡ u.id =
        id_at (literal_term (literals.Entity u us)) (sort.Entity u.type_name us) h ∙ entity_said u.type_name us (literal_term (literals.Entity u us)) u.id c h refl in
        λ j. record { type_name = types j; id = ids j }

    pub is_model : IsModel d env goal (model_of qs texts closed m)
    is_model = record {
      consistent = is;
      listed = listed;
      texts = λ x y c e. texts_named qs patterns texts texts_are x y c e;
      literal_text = λ t c. text_said qs patterns texts texts_are t c;
      likes = λ p x y c e h. text_likes qs patterns texts texts_are p x y (c, e) h;
      uids = λ name us x y c e. uids_named name us x y c.0 e.0 c.1 e.1;
      typed = λ name us x e. type_at x name us e;
      literal_uid = uid_said;
    }
