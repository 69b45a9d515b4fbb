-- Names that are given to a problem's strings one after the other are those that a model may have.
use Rattle.std.proofs.Common.{◌≡◌, ◌↔◌, ◌≤◌, inl, inr, ℕ, List, [], map, length, sym, ap, ◌∙◌, subst}
use Rattle.std.proofs.lemmas.List.{length-map}
use Rattle.sc_lists.proofs.MemberLaws.{Has-from_Contains, Contains-from_Has}
use Rattle.sc_lists.specs.Members.{Has}
use Rattle.sc_clauses.specs.Assignments.{Assignment}
use Rattle.sc_sorts.specs.declared.sort.Sort.TheVariants as sort
use Rattle.sc_sorts.specs.contracts.sort.SortPartialEq.TheImpl.{ghosts as sorts}
use Rattle.sc_sorts.specs.OrderLaws.{sort_eq_decides}
use Rattle.sc_terms.specs.Tables.{tree}
use Rattle.sc_terms.specs.Trees.{Tree}
use Rattle.sc_terms.specs.TreeSorts.{tree_sort}
use Rattle.sc_rule_laws.specs.Strings.{Pattern}
use Rattle.sc_rule_laws.proofs.MemberLaws.{filter_kept, filter_passes, filter_within}
use Rattle.sc_footprint.specs.Closure.{Closed}
use Rattle.sc_footprint.specs.Problems.{Posed, IsPosed, goal_term, closed_terms}
use Rattle.sc_model_values.specs.Models.{truth_in}
use Rattle.sc_model_laws.specs.Consistent.{IsConsistent}
use Rattle.sc_model_laws.specs.Laws.{ClassesBound}
use Rattle.sc_model_laws.specs.Names.{of_sort, named, literal_entries, signs_of}
use Rattle.sc_model_laws.specs.Texts.{ArePatterns, IsString, AreOthers, AreTextsOf}
use Rattle.sc_model_names.specs.Classes.{classes}
use Rattle.sc_model_names.specs.Naming.{AreStringNames}
use Rattle.sc_model_names.specs.Numbers.{Entry, named_terms}
use Rattle.sc_model_names.specs.Patterns.{put_patterns}
use Rattle.sc_model_names.specs.Tables.{Table, texts_in, AreEntered}
use Rattle.sc_model_names.proofs.ClassLaws.{equals_class, class_within, string_itself}
use Rattle.sc_model_names.proofs.PatternLaws.{patterns_are}
use Rattle.sc_model_names.proofs.TableLaws.{entered_all}

module _ (p : Posed) (posed : IsPosed p) (m : Assignment) where
  pub listed : (x : Tree) → Has (closed_terms p) x ↔ Closed p.schema p.env (goal_term p) x
  listed x = (
    λ h. (posed.are_closed.just x).0 (Contains-from_Has (closed_terms p) x h),
    λ c. Has-from_Contains (closed_terms p) x ((posed.are_closed.just x).1 c),
  )

  string_of : (x : Tree) → Has (of_sort sort.String (closed_terms p)) x → IsString p.schema p.env (goal_term p) x
  unfolding of_sort
  string_of x h = (
    (listed x).0 (filter_within (λ z. sorts.eq (tree_sort z) sort.String) (closed_terms p) x h),
    (sort_eq_decides (tree_sort x) sort.String).0 (filter_passes (λ z. sorts.eq (tree_sort z) sort.String) (closed_terms p) x h),
  )

  of_string : (x : Tree) → IsString p.schema p.env (goal_term p) x → Has (of_sort sort.String (closed_terms p)) x
  unfolding of_sort
  of_string x s =
      filter_kept (λ (z : Tree). sorts.eq (tree_sort z) sort.String) (closed_terms p) x ((listed x).1 s.0)
      ((sort_eq_decides (tree_sort x) sort.String).1 s.1)

  module _ (is : IsConsistent p.schema p.env (goal_term p) (truth_in p m)) (bounded : ClassesBound) where
    abbrev strings : List Tree
    strings = of_sort sort.String (closed_terms p)

    -- no more strings of some signs differ than there are classes
    enough : (qs : List Pattern) (signs : _) (ts : List Tree) → AreOthers p.schema p.env (goal_term p) (truth_in p m) qs signs ts
        → length ts ≤ length (classes (truth_in p m) [] (of_sort sort.String (closed_terms p)))
    enough qs signs ts others =
        bounded p.schema p.env (goal_term p) (truth_in p m) qs signs (classes (truth_in p m) [] (of_sort sort.String (closed_terms p))) ts is
        (λ x s e.
        let found = equals_class (truth_in p m) [] (of_sort sort.String (closed_terms p)) x (of_string x s) (string_itself (truth_in p m) x s.1) in (
          found.0,
          found.1,
          string_of found.0 (elim (class_within (truth_in p m) [] (of_sort sort.String (closed_terms p)) found.0 found.1) [
            | inl none ↦ absurd none
            | inr k ↦ k
          ]),
          found.2,
        )) others

    texts_found : (qs : List Pattern) (wanted : ℕ) (table : Table) → wanted ≡ length (classes (truth_in p m) [] (of_sort sort.String (closed_terms p)))
        → AreEntered (truth_in p m) qs wanted (of_sort sort.String (closed_terms p)) [] table
        → AreTextsOf p.schema p.env (goal_term p) (truth_in p m) qs (texts_in table)
    texts_found qs wanted table count are x s = record {
      wanted = wanted;
      found = entered_all (truth_in p m) qs wanted (of_sort sort.String (closed_terms p)) table are x (of_string x s);
      enough = λ ts others. subst (λ (n : ℕ). length ts ≤ n) (sym count) (enough qs (signs_of (truth_in p m) qs x) ts others);
    }

    pub strings_named : (closed numbers found : List ℕ) (qs : List Pattern) (wanted : ℕ) (table : Table) (es : List Entry) → closed ≡ p.closed
        → qs ≡ put_patterns [] (map (tree p.nodes) closed) → map (tree p.nodes) numbers ≡ of_sort sort.String (map (tree p.nodes) closed)
        → map (tree p.nodes) found ≡ classes (truth_in p m) [] (map (tree p.nodes) numbers) → wanted ≡ length found
        → AreEntered (truth_in p m) qs wanted (map (tree p.nodes) numbers) [] table
        → named_terms p.nodes es ≡ named (truth_in p m) qs (texts_in table) (literal_entries (map (tree p.nodes) numbers)) (map (tree p.nodes) numbers)
        → AreStringNames p m es
    strings_named closed numbers found qs wanted table es closed_is qs_is numbers_are found_are count are value =
        let strings_are : map (tree p.nodes) numbers ≡ of_sort sort.String (closed_terms p) =
        numbers_are ∙ ap (λ (ns : List ℕ). of_sort sort.String (map (tree p.nodes) ns)) closed_is in
        let patterns : qs ≡ put_patterns [] (closed_terms p) = qs_is ∙ ap (λ (ns : List ℕ). put_patterns [] (map (tree p.nodes) ns)) closed_is in
        let size : wanted ≡ length (classes (truth_in p m) [] (of_sort sort.String (closed_terms p))) =
        count ∙ sym (length-map found (tree p.nodes)) ∙ ap length (found_are ∙ ap (classes (truth_in p m) []) strings_are) in
        record {
          patterns = qs;
          texts = texts_in table;
          asked = subst (ArePatterns p.schema p.env (goal_term p)) (sym patterns) (patterns_are p.schema p.env (goal_term p) (closed_terms p) listed);
          found = texts_found qs wanted table size (subst (λ (xs : List Tree). AreEntered (truth_in p m) qs wanted xs [] table) strings_are are);
          names = value ∙ ap (λ (xs : List Tree). named (truth_in p m) qs (texts_in table) (literal_entries xs) xs) strings_are;
        }
