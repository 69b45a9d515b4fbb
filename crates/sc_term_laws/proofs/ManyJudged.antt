-- An operator on any number of terms makes a term just where its test passes.
use Rattle.std.proofs.Common.{◌≡◌, ◌↔◌, ◌==◌, ℕ, List, [], ◌∷◌, length, Bool, true, false, refl, sym, ap, subst}
use Rattle.std.specs.List.{AllByRecursion, list_all}
use Rattle.std.specs.Map.{keys_of}
use Rattle.sc_laws.proofs.BoolLaws.{and_first, and_second}
use Rattle.sc_names.specs.declared.uid.Uid.{Uid}
use Rattle.sc_schema.specs.declared.declarations.Env.{Env}
use Rattle.sc_schema.specs.Declarations.{Declarations}
use Rattle.sc_sorts.specs.declared.sort.Sort.{Sort}
use Rattle.sc_sorts.specs.Inside.{SortFields}
use Rattle.sc_sorts.specs.declared.node.ManyOp.{ManyOp}
use Rattle.sc_sorts.specs.declared.node.ManyOp.TheVariants as manys
use Rattle.sc_sorts.specs.declared.node.Node.{Node}
use Rattle.sc_terms.specs.Folds.{truth_term}
use Rattle.sc_terms.specs.Trees.{Tree, many, Trees, no_part, part}
use Rattle.sc_terms.specs.Tables.{Places, tree, node_parts, at_numbers, AreBelow}
use Rattle.sc_terms.specs.TreeSorts.{tree_sort, sorts_of}
use Rattle.sc_term_laws.specs.Judging.{IsTermOf, HaveSort, HaveFields}
use Rattle.sc_term_laws.specs.Judging as judged
use Rattle.sc_term_laws.specs.Judged.{is_good, all_good, AreJudged, IsMany}
use Rattle.sc_term_laws.specs.LawfulSorts.{AreNames, IsHeldSort}
use Rattle.sc_term_laws.specs.Tests.{member_test}
use Rattle.sc_term_laws.proofs.JudgingLaws.{sort_is}
use Rattle.sc_term_laws.proofs.TestLaws.{same_sorts, same_told}
use Rattle.std.specs.Cmp.Derive.{both_true}
use Rattle.sc_term_laws.proofs.ToldLaws.{empty_is}
use Rattle.sc_term_laws.proofs.UnaryJudged.{at_its_sort, of_sort}

abbrev first_label : Trees → List ℕ
first_label no_part = []
first_label (part l t ts) = l

abbrev first_part : Trees → Tree
first_part no_part = truth_term false
first_part (part l t ts) = t

abbrev other_parts : Trees → Trees
other_parts no_part = no_part
other_parts (part l t ts) = ts

module _ (d : Declarations) (env : Env) (written : List Uid) (xs : List Node) where
  abbrev Is : Sort → Tree → Type 0
  Is k t = IsTermOf d env written k t

  abbrev IsTerm : Tree → Type 0
  IsTerm t = Is (tree_sort t) t

  -- each part is a term of its sort
  abbrev AreTerms : Places → Type 0
  AreTerms = AllByRecursion (λ (p : List ℕ × ℕ). IsTerm (tree xs p.1))

  good_terms : (good : List Bool) → AreJudged d env written xs good → (ps : Places) → AreBelow (length good) ps → all_good good ps ≡ true → AreTerms ps
  good_terms good told [] below h = tt
  good_terms good told (p ∷ ps) below h = ((told p.1 below.0).0 (and_first _ _ h), good_terms good told ps below.1 (and_second (is_good good p.1) _ h))

  terms_good : (good : List Bool) → AreJudged d env written xs good → (ps : Places) → AreBelow (length good) ps → AreTerms ps → all_good good ps ≡ true
  terms_good good told [] below h = refl
  terms_good good told (p ∷ ps) below h = both_true ((told p.1 below.0).1 h.0) (terms_good good told ps below.1 h.1)

  -- ---- records

  keys_are : (ps : Places) → keys_of (sorts_of (node_parts xs ps)) ≡ keys_of ps
  unfolding tree_sort
  keys_are [] = refl
  keys_are (p ∷ ps) = ap (λ (names : List (List ℕ)). p.0 ∷ names) (keys_are ps)

  fields_made : (ps : Places) → AreTerms ps → HaveFields d env written (sorts_of (node_parts xs ps)) (node_parts xs ps)
  unfolding tree_sort
  fields_made [] h = judged.no_field
  fields_made (p ∷ ps) h = judged.with_field p.0 (tree_sort (tree xs p.1)) (sorts_of (node_parts xs ps)) (tree xs p.1) (node_parts xs ps) h.0 (fields_made ps h.1)

  record_made : (ps : Places) → AreTerms ps → AreNames (keys_of ps) → IsTerm (many manys.Record (node_parts xs ps))
  unfolding tree_sort
  record_made ps h names =
      judged.of_record (sorts_of (node_parts xs ps)) (node_parts xs ps) (subst AreNames (sym (keys_are ps)) names) (fields_made ps h)

  fields_kept : (fs : SortFields) (ps : Places) → HaveFields d env written fs (node_parts xs ps) → AreTerms ps × (keys_of fs ≡ keys_of ps)
  fields_kept _ [] judged.no_field = (tt, refl)
  fields_kept _ (p ∷ ps) (judged.with_field name k fs t ts h more) =
      let rest = fields_kept fs ps more in
      ((at_its_sort d env written k (tree xs p.1) h, rest.0), ap (λ (names : List (List ℕ)). p.0 ∷ names) rest.1)

  record_kept : (k : Sort) (ps : Places) → Is k (many manys.Record (node_parts xs ps)) → AreTerms ps × AreNames (keys_of ps)
  record_kept _ ps (judged.of_record fs _ names h) = let p = fields_kept fs ps h in (p.0, subst AreNames p.1 names)

  -- ---- sets

  members_made : (k : Sort) (ps : Places) → AreTerms ps → list_all (member_test k) (at_numbers xs ps) ≡ true → HaveSort d env written k (node_parts xs ps)
  members_made k [] h t = judged.no_member k
  members_made k (p ∷ ps) h t =
      let here = and_first (member_test k (p.0, tree xs p.1)) _ t in
      let bare : p.0 ≡ [] = empty_is p.0 (and_first _ _ here) in
      let same : tree_sort (tree xs p.1) ≡ k = same_sorts _ k (and_second (length p.0 == 0) _ here) in
      subst (λ (label : List ℕ). HaveSort d env written k (part label (tree xs p.1) (node_parts xs ps))) (sym bare)
      (judged.with_member k (tree xs p.1) (node_parts xs ps) (of_sort d env written _ k (tree xs p.1) same h.0) (members_made k ps h.1 (and_second (member_test k (p.0, tree xs p.1)) _ t)))

  set_made : (k : Sort) (ps : Places) → AreTerms ps → IsHeldSort d k → list_all (member_test k) (at_numbers xs ps) ≡ true → IsTerm (many (manys.Set k) (node_parts xs ps))
  unfolding tree_sort
  set_made k ps h held t = judged.of_set k (node_parts xs ps) held (members_made k ps h t)

  members_by : (k : Sort) (ps : Places) (ts : Trees) → ts ≡ node_parts xs ps → HaveSort d env written k ts → AreTerms ps × (list_all (member_test k) (at_numbers xs ps) ≡ true)
  members_by _ [] _ e (judged.no_member k) = (tt, refl)
  members_by _ (p ∷ ps) _ e (judged.no_member k) = absurd cc
  members_by _ [] _ e (judged.with_member k t ts h more) = absurd cc
  members_by _ (p ∷ ps) _ e (judged.with_member k t ts h more) =
      let bare : p.0 ≡ [] = sym (ap first_label e) in
      let same : t ≡ tree xs p.1 = ap first_part e in
      let here : Is k (tree xs p.1) = subst (Is k) same h in
      let rest = members_by k ps ts (ap other_parts e) more in
      let sorts : tree_sort (tree xs p.1) ≡ k = sort_is d env written k (tree xs p.1) here in
      ((at_its_sort d env written k (tree xs p.1) here, rest.0), both_true (both_true (ap (λ (l : List ℕ). length l == 0) bare) (same_told _ k sorts)) rest.1)

  set_kept : (j k : Sort) (ps : Places) → Is j (many (manys.Set k) (node_parts xs ps)) → AreTerms ps × IsHeldSort d k × (list_all (member_test k) (at_numbers xs ps) ≡ true)
  set_kept _ _ ps (judged.of_set k _ held h) = let p = members_by k ps (node_parts xs ps) refl h in (p.0, held, p.1)

  -- ---- both

  pub many_by : (good : List Bool) → AreJudged d env written xs good → (o : ManyOp) (ps : Places) → AreBelow (length good) ps
      → IsMany d xs good o ps ↔ IsTerm (many o (node_parts xs ps))
  many_by good told manys.Record ps below = (
    λ h. record_made ps (good_terms good told ps below h.0) h.1,
    λ h. let p = record_kept _ ps h in (terms_good good told ps below p.0, p.1),
  )
  many_by good told (manys.Set k) ps below = (
    λ h. set_made k ps (good_terms good told ps below h.0) h.1.0 h.1.1,
    λ h. let p = set_kept _ k ps h in (terms_good good told ps below p.0, (p.1, p.2)),
  )
