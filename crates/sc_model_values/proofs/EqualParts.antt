-- The rules of equations, choices, records and options speak of truth values.
use Rattle.std.proofs.Common.{◌≡◌, ◌&&◌, ℕ, zero, suc, true, List, Contains, slice_get, Option, Some, None, refl, sym, ◌∙◌}
use Rattle.std.specs.List.{AllByRecursion}
use Rattle.sc_laws.proofs.BoolLaws.{and_first, and_second}
use Rattle.sc_lists.proofs.ListLaws.{contains_place}
use Rattle.sc_lists.proofs.MemberLaws.{Has-from_Contains}
use Rattle.sc_lists.specs.Members.{Has}
use Rattle.sc_names.specs.declared.uid.Uid.{Uid}
use Rattle.sc_schema.specs.declared.declarations.Env.{Env}
use Rattle.sc_schema.specs.Declarations.{Declarations, environments}
use Rattle.sc_schema.specs.Lawful.{IsLawful}
use Rattle.sc_world.specs.Named.{IsDeclared}
use Rattle.sc_sorts.specs.declared.sort.Sort.{Sort, Sort-F, out-Sort}
use Rattle.sc_sorts.specs.declared.sort.Sort.TheVariants as sort
use Rattle.sc_sorts.specs.declared.sort.Sort.TheVariants.{rolls-Record}
use Rattle.sc_sorts.specs.declared.sort.Sort.TheOpen as s
use Rattle.sc_sorts.specs.Inside.{SortField, SortFields, held_sort}
use Rattle.sc_terms.specs.Trees.{Tree, choice}
use Rattle.sc_terms.specs.TreeSorts.{tree_sort}
use Rattle.sc_terms.specs.Folds.{equal_term, field_term, present_term, held_term, default_term}
use Rattle.sc_term_laws.specs.Judging.{IsTermOf, IsTerm}
use Rattle.sc_term_laws.specs.Judging as judged
use Rattle.sc_term_laws.proofs.DefaultMade.{default_made, held_made}
use Rattle.sc_term_laws.proofs.MadeLaws.{field_made, present_made}
use Rattle.sc_term_laws.proofs.TestLaws.{at_level, option_sort, same_sorts}
use Rattle.sc_term_laws.proofs.UnaryJudged.{of_sort}
use Rattle.sc_footprint.specs.Atoms.{is_bool}
use Rattle.sc_footprint.proofs.SortLaws.{found, names_ascend, held_lawful}
use Rattle.sc_rule_laws.specs.Signed.{Said, unless}
use Rattle.sc_rule_laws.specs.Terms.{one_sort, is_named, is_option, fields_level}
use Rattle.sc_rule_laws.proofs.NamedLaws.{named_plain}
use Rattle.sc_rule_laws.specs.Equal.{field_equal, eq1, eq2, eq3_of, field_at, eq3, eq4_of, eq4, are_options, eq5, eq6, eq7, eq8}
use Rattle.sc_model_values.proofs.PartSorts.{plain_equal, bool_of, same_equal, IsOfTruths, given_truths, mapped_truths}

module _ (d : Declarations) (env : Env) (written : List Uid) where
  abbrev Of : Sort → Tree → Type 0
  Of = IsTermOf d env written

  abbrev Is : Tree → Type 0
  Is = IsTerm d env written

  abbrev Truths : Said → Type 0
  Truths = IsOfTruths Is

  pub eq1_truths : (a b c : Tree) → Truths (eq1 a b c)
  eq1_truths a b c = given_truths Is (is_named a && (is_named b && is_named c)) _ (λ t.
      let rest = and_second (is_named a) _ t in
      let first = named_plain a (and_first _ _ t) in
      let second = named_plain b (and_first _ _ rest) in
      let third = named_plain c (and_second (is_named b) _ rest) in
      (plain_equal a b first second, (plain_equal b c second third, (plain_equal a c first third, tt))))

  chosen : (k : Sort) (c a b : Tree) → Of k (choice c a b) → Of sort.Bool c × Of k a × Of k b
  chosen _ _ _ _ (judged.of_choice k c a b f g h e) = (f, g, h)

  pub eq2_truths : (x : Tree) (i : ℕ) → Is x → Truths (eq2 x i)
  eq2_truths (choice c a b) zero h = λ all.
      let inside = chosen (tree_sort (choice c a b)) c a b h in
      (bool_of d env written c inside.0, (same_equal d env written (tree_sort (choice c a b)) (choice c a b) a h inside.1, tt))
  eq2_truths (choice c a b) (suc zero) h = λ all.
      let inside = chosen (tree_sort (choice c a b)) c a b h in
      (bool_of d env written c inside.0, (same_equal d env written (tree_sort (choice c a b)) (choice c a b) b h inside.2, tt))
  eq2_truths (choice c a b) (suc (suc i)) h = tt
  eq2_truths _ i h = tt

  module _ (lawful : IsLawful d) (among : Contains (environments d) env) (declared : AllByRecursion (IsDeclared d) written) where
    -- ---- records

    record AreRecords (fs : SortFields) (r q : Tree) : Type 0 where
      first : Of (sort.Record fs) r
      second : Of (sort.Record fs) q

    records : (fs : SortFields) (r q : Tree) → out-Sort (tree_sort r) ≡ s.Record fs → Is r → Is q → one_sort r q ≡ true → AreRecords fs r q
    records fs r q e g h t =
        let k : tree_sort r ≡ sort.Record fs = at_level (tree_sort r) (s.Record fs) e ∙ rolls-Record fs in
        let l : tree_sort q ≡ sort.Record fs = sym (same_sorts (tree_sort r) (tree_sort q) t) ∙ k in
        record { first = of_sort d env written (tree_sort r) (sort.Record fs) r k g; second = of_sort d env written (tree_sort q) (sort.Record fs) q l h }

    whole_equal : (fs : SortFields) (r q : Tree) → AreRecords fs r q → is_bool (equal_term r q) ≡ true
    whole_equal fs r q are = same_equal d env written (sort.Record fs) r q are.first are.second

    field_of : (fs : SortFields) (f : SortField) (r : Tree) → Of (sort.Record fs) r → Has fs f → Of f.1 (field_term f.0 r)
    field_of fs f r h there = field_made d env written fs f.0 f.1 r h (found fs f (names_ascend d env written lawful among declared fs r h) there)

    fields_equal : (fs : SortFields) (r q : Tree) → AreRecords fs r q → (f : SortField) → Has fs f → is_bool (field_equal r q f) ≡ true
    fields_equal fs r q are f there =
        same_equal d env written f.1 (field_term f.0 r) (field_term f.0 q) (field_of fs f r are.first there) (field_of fs f q are.second there)

    pub eq3_truths : (r q : Tree) (i : ℕ) → Is r → Is q → Truths (eq3 r q i)
    eq3_truths r q i g h = by (out-Sort (tree_sort r)) refl
      where
        at : (fs : SortFields) → out-Sort (tree_sort r) ≡ s.Record fs → (o : Option SortField) → slice_get fs i ≡ o → Truths (eq3_of r q o)
        at fs e None f = tt
        at fs e (Some field) f = given_truths Is (one_sort r q) _ (λ t.
            let are = records fs r q e g h t in
            (whole_equal fs r q are, (fields_equal fs r q are field (Has-from_Contains fs field (contains_place fs i field f)), tt)))

        by : (k : Sort-F Sort) → out-Sort (tree_sort r) ≡ k → Truths (eq3_of r q (field_at (fields_level k) i))
        by (s.Record fs) e = at fs e (slice_get fs i) refl
        by _ e = tt

    pub eq4_truths : (r q : Tree) → Is r → Is q → Truths (eq4 r q)
    eq4_truths r q g h = by (out-Sort (tree_sort r)) refl
      where
        by : (k : Sort-F Sort) → out-Sort (tree_sort r) ≡ k → Truths (eq4_of r q (fields_level k))
        by (s.Record fs) e = given_truths Is (one_sort r q) _ (λ t.
            let are = records fs r q e g h t in
            (whole_equal fs r q are, mapped_truths (λ f. unless (field_equal r q f)) fs (fields_equal fs r q are)))
        by _ e = tt

    -- ---- options

    record AreOptions (o q : Tree) : Type 0 where
      first : Of (sort.Option (held_sort (tree_sort o))) o
      second : Of (sort.Option (held_sort (tree_sort o))) q

    options : (o q : Tree) → Is o → Is q → are_options o q ≡ true → AreOptions o q
    options o q g h t =
        let k : tree_sort o ≡ sort.Option (held_sort (tree_sort o)) = option_sort (tree_sort o)
        (and_second (one_sort o q) _ t) in
        let l = sym (same_sorts (tree_sort o) (tree_sort q) (and_first _ _ t)) ∙ k in
        record { first = of_sort d env written (tree_sort o) _ o k g; second = of_sort d env written (tree_sort q) _ q l h }

    options_equal : (o q : Tree) → AreOptions o q → is_bool (equal_term o q) ≡ true
    options_equal o q are = same_equal d env written (sort.Option (held_sort (tree_sort o))) o q are.first are.second

    present_bool : (k : Sort) (o : Tree) → Of (sort.Option k) o → is_bool (present_term o) ≡ true
    present_bool k o h = bool_of d env written (present_term o) (present_made d env written k o h)

    held_equal : (o q : Tree) → AreOptions o q → is_bool (equal_term (held_term o) (held_term q)) ≡ true
    held_equal o q are =
        let k = held_sort (tree_sort o) in
        same_equal d env written k (held_term o) (held_term q) (held_made d env written k o are.first) (held_made d env written k q are.second)

    pub eq5_truths : (o q : Tree) → Is o → Is q → Truths (eq5 o q)
    eq5_truths o q g h = given_truths Is (are_options o q) _ (λ t.
        let are = options o q g h t in
        (options_equal o q are, (present_bool _ o are.first, (present_bool _ q are.second, tt))))

    pub eq6_truths : (o q : Tree) → Is o → Is q → Truths (eq6 o q)
    eq6_truths o q g h = given_truths Is (are_options o q) _ (λ t. let are = options o q g h t in (options_equal o q are, (held_equal o q are, tt)))

    pub eq7_truths : (o q : Tree) (i : ℕ) → Is o → Is q → Truths (eq7 o q i)
    eq7_truths o q zero g h = given_truths Is (are_options o q) _ (λ t.
        let are = options o q g h t in
        (options_equal o q are, (present_bool _ o are.first, (present_bool _ q are.second, tt))))
    eq7_truths o q (suc zero) g h = given_truths Is (are_options o q) _ (λ t.
        let are = options o q g h t in
        (options_equal o q are, (present_bool _ o are.first, (present_bool _ q are.second, (held_equal o q are, tt)))))
    eq7_truths o q (suc (suc i)) g h = tt

    pub eq8_truths : (o : Tree) → Is o → Truths (eq8 o)
    eq8_truths o h = given_truths Is (is_option o) _ (λ t.
        let k = held_sort (tree_sort o) in
        let is = of_sort d env written (tree_sort o) (sort.Option k) o (option_sort (tree_sort o) t) h in (
          present_bool k o is,
          (
            same_equal d env written k (held_term o) (default_term k) (held_made d env written k o is)
                (default_made d env written k (held_lawful d env written lawful among declared k o is)),
            tt,
          ),
        ))
