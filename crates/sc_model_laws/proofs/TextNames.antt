-- The names of strings are texts.
use Rattle.std.proofs.Common.{◌≡◌, ◌↔◌, inl, inr, Bool, true, false, cond, List, [], ◌∷◌, ◌++◌, Option, Some, None, refl, subst}
use Rattle.std.specs.List.{list_any}
use Rattle.std.specs.Str.{IsUtf8, bytes_eq}
use Rattle.std.proofs.lemmas.Str.{IsUtf8-nil}
use Rattle.sc_lists.proofs.MemberLaws.{Has-push}
use Rattle.sc_lists.specs.Members.{Has}
use Rattle.sc_names.specs.declared.uid.Uid.{Uid}
use Rattle.sc_schema.specs.declared.declarations.Env.{Env}
use Rattle.sc_schema.specs.Declarations.{Declarations}
use Rattle.sc_sorts.specs.declared.sort.Sort.TheVariants as sort
use Rattle.sc_sorts.specs.contracts.sort.SortPartialEq.TheImpl.{ghosts as sorts}
use Rattle.sc_sorts.specs.declared.node.Literal.TheVariants as literal
use Rattle.sc_terms.specs.Trees.{Tree}
use Rattle.sc_terms.specs.TreeSorts.{tree_sort}
use Rattle.sc_terms.specs.Folds.{literal_term}
use Rattle.sc_rule_laws.specs.Strings.{Pattern}
use Rattle.sc_rule_laws.proofs.MemberLaws.{filter_within}
use Rattle.sc_closure_rules.specs.Closure.{Closed}
use Rattle.sc_model_laws.specs.Assignments.{Assignment}
use Rattle.sc_model_laws.specs.Names.{Name, Named, Texts, or_fresh, of_sort, are_equal, signs_of, name_in, unused, literal_entries, next_name, named, names_of, text_of}
use Rattle.sc_model_laws.proofs.ClaimLaws.{AreTerms, literal_kept}
use Rattle.sc_model_laws.proofs.ModelLaws.{text_is}
use Rattle.sc_model_laws.proofs.NameLaws.{name_found, literal_entry}

abbrev AreUtf8 : Named → Type 0
AreUtf8 es = (e : Tree × Name) → Has es e → IsUtf8 e.1

unused_by : (t n : Name) (b : Bool) → IsUtf8 t → IsUtf8 n → IsUtf8 (cond b n t)
unused_by t n true h k = k
unused_by t n false h k = h

unused_text : (es : Named) (ts : List Name) → ((t : Name) → Has ts t → IsUtf8 t) → IsUtf8 (unused es ts)
unfolding unused
unused_text es [] h = IsUtf8-nil
unused_text es (t ∷ ts) h = unused_by t (unused es ts) (list_any (λ (e : Tree × Name). bytes_eq e.1 t) es) (h t (inl refl)) (unused_text es ts (λ u k. h u (inr k)))

module _ (m : Assignment) (qs : List Pattern) (texts : Texts) (texts_are : (signs : List Bool) (t : Name) → Has (texts signs) t → IsUtf8 t) where
  -- the name of a string, or another text
  found_text : (es : Named) → AreUtf8 es → (x : Tree) (t : Name) → IsUtf8 t → IsUtf8 (or_fresh (name_in (are_equal m) es x) t)
  found_text es h x t k = by (name_in (are_equal m) es x) refl where
    by : (o : Option Name) → name_in (are_equal m) es x ≡ o → IsUtf8 (or_fresh o t)
    by None e = k
    by (Some n) e = let found = name_found (are_equal m) es x n e in subst IsUtf8 found.3 (h found.0 found.1)

  all_texts : (es : Named) (xs : List Tree) → AreUtf8 es → AreUtf8 (named m qs texts es xs)
  unfolding named
  all_texts es [] h = h
  all_texts es (x ∷ xs) h = all_texts (es ++ (x, next_name m qs texts es x) ∷ []) xs (λ e k. elim (Has-push es (x, next_name m qs texts es x) e k) [
    | inl l ↦ h e l
    | inr l ↦ subst (λ (g : Tree × Name). IsUtf8 g.1) l (found_text es h x (unused es (texts (signs_of m qs x))) (unused_text es (texts (signs_of m qs x)) (texts_are (signs_of m qs x))))
  ])

  module _ (d : Declarations) (env : Env) (literals : List Uid) (goal : Tree) (terms : AreTerms d env literals goal) (closed : List Tree) (listed : (x : Tree) → Has closed x ↔ Closed d env goal x) where
    literal_texts : AreUtf8 (literal_entries (of_sort sort.String closed))
    unfolding of_sort
    literal_texts e h =
        let entry = literal_entry (of_sort sort.String closed) e h in
        let there = filter_within (λ (z : Tree). sorts.eq (tree_sort z) sort.String) closed e.0 entry.0 in
        let one : e.0 ≡ literal_term (literal.String e.1) = text_is e.0 e.1 entry.1 in
        let own : Closed d env goal (literal_term (literal.String e.1)) = subst (Closed d env goal) one ((listed e.0).0 there) in
        literal_kept d env literals (tree_sort (literal_term (literal.String e.1))) (literal.String e.1) (terms.made (literal_term (literal.String e.1)) own)

    pub name_text : (x : Tree) → IsUtf8 (text_of m qs texts closed x)
    name_text x = found_text (names_of m qs texts closed) (all_texts (literal_entries (of_sort sort.String closed)) (of_sort sort.String closed) literal_texts) x [] IsUtf8-nil
