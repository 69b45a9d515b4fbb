-- Plain terms, and that those which are terms of truth values are goals.
use Rattle.std.proofs.Common.{◌≡◌, ℕ, true, false, List, [], Option, Some, None, Contains, refl, sym, ap, ◌∙◌, subst, arith}
use Rattle.std.specs.List.{AllByRecursion}
use Rattle.sc_lists.proofs.ListLaws.{contains_nothing}
use Rattle.sc_names.specs.declared.uid.Uid.{Uid}
use Rattle.sc_pattern.specs.declared.part.Part.{Part}
use Rattle.sc_schema.specs.declared.declarations.Env.{Env}
use Rattle.sc_schema.specs.Declarations.{Declarations, environments}
use Rattle.sc_world.specs.Named.{IsDeclared}
use Rattle.sc_sorts.specs.declared.sort.Sort.{Sort, Sort-F, out-Sort}
use Rattle.sc_sorts.specs.declared.sort.Sort.TheOpen as s
use Rattle.sc_sorts.specs.declared.sort.Sort.TheVariants as sort
use Rattle.sc_sorts.specs.declared.node.BinaryOp.{BinaryOp}
use Rattle.sc_sorts.specs.declared.node.Leaf.TheVariants.{Context, Principal}
use Rattle.sc_sorts.specs.declared.node.Literal.{Literal}
use Rattle.sc_sorts.specs.declared.node.Node.{Node}
use Rattle.sc_sorts.specs.declared.node.UnaryOp.TheVariants.{Ancestors}
use Rattle.sc_terms.specs.Trees.{Tree, leaf, one, two}
use Rattle.sc_terms.specs.TreeSorts.{tree_sort}
use Rattle.sc_terms.specs.Tables.{tree, Keeps, StandsFor}
use Rattle.sc_terms.specs.Folds.{field_term, literal_of, like_by, like_term}
use Rattle.sc_term_laws.specs.Judging.{IsTermOf}
use Rattle.sc_term_laws.specs.Tests.{bool_level}
use Rattle.sc_term_laws.proofs.TestLaws.{bool_sort}
use Rattle.sc_closure_rules.specs.Goals.{is_pick, has_pick, uids_of, IsGoal}
use Rattle.sc_closure.specs.Atoms.{is_bool, is_bool_in}
use Rattle.sc_test_goals.specs.Plain.{IsPlain}

plain_of : (xs : List Node) (n : ℕ) (t : Tree) → StandsFor xs n t → has_pick t ≡ false → uids_of t ≡ [] → IsPlain xs n
plain_of xs n t s h k = record { within = s.within; picks_none = ap has_pick s.is ∙ h; writes_none = ap uids_of s.is ∙ k }

field_picks : (name : List ℕ) (s : Sort) → has_pick (field_term name (leaf (Context s))) ≡ false
unfolding field_term has_pick
field_picks name s = refl

field_writes : (name : List ℕ) (s : Sort) → uids_of (field_term name (leaf (Context s))) ≡ []
unfolding field_term uids_of
field_writes name s = refl

pub attribute_plain : (xs ys : List Node) (c n : ℕ) (name : List ℕ) (s : Sort) → StandsFor xs c (leaf (Context s)) → StandsFor ys n (field_term name (tree xs c)) → IsPlain ys n
attribute_plain xs ys c n name s at field =
    plain_of ys n (field_term name (leaf (Context s))) (subst (λ (t : Tree). StandsFor ys n (field_term name t)) at.is field) (field_picks name s) (field_writes name s)

leaf_picks : (s : Sort) → has_pick (leaf (Principal s)) ≡ false
unfolding has_pick
leaf_picks s = refl

leaf_writes : (s : Sort) → uids_of (leaf (Principal s)) ≡ []
unfolding uids_of
leaf_writes s = refl

pub principal_plain : (xs : List Node) (n : ℕ) (s : Sort) → StandsFor xs n (leaf (Principal s)) → IsPlain xs n
principal_plain xs n s at = plain_of xs n (leaf (Principal s)) at (leaf_picks s) (leaf_writes s)

one_picks : (s : Sort) (a : Tree) → has_pick a ≡ false → has_pick (one (Ancestors s) a) ≡ false
unfolding has_pick
one_picks s a h = h

one_writes : (s : Sort) (a : Tree) → uids_of a ≡ [] → uids_of (one (Ancestors s) a) ≡ []
unfolding uids_of
one_writes s a h = h

pub ancestors_plain : (xs ys : List Node) (a n : ℕ) (s : Sort) → IsPlain xs a → StandsFor ys n (one (Ancestors s) (tree xs a)) → IsPlain ys n
ancestors_plain xs ys a n s h at = plain_of ys n (one (Ancestors s) (tree xs a)) at (one_picks s (tree xs a) h.picks_none) (one_writes s (tree xs a) h.writes_none)

like_picks : (t : Tree) (p : List Part) → has_pick t ≡ false → has_pick (like_term t p) ≡ false
unfolding like_term has_pick
like_picks t p h = by (literal_of t)
  where
    by : (o : Option Literal) → has_pick (like_by o t p) ≡ false
    by None = h
    by (Some l) = refl

like_writes : (t : Tree) (p : List Part) → uids_of t ≡ [] → uids_of (like_term t p) ≡ []
unfolding like_term uids_of
like_writes t p h = by (literal_of t)
  where
    by : (o : Option Literal) → uids_of (like_by o t p) ≡ []
    by None = h
    by (Some l) = refl

pub like_plain : (xs ys : List Node) (a n : ℕ) (p : List Part) → IsPlain xs a → StandsFor ys n (like_term (tree xs a) p) → IsPlain ys n
like_plain xs ys a n p h s = plain_of ys n (like_term (tree xs a) p) s (like_picks (tree xs a) p h.picks_none) (like_writes (tree xs a) p h.writes_none)

two_picks : (o : BinaryOp) (a b : Tree) → is_pick o ≡ false → has_pick a ≡ false → has_pick b ≡ false → has_pick (two o a b) ≡ false
unfolding has_pick
two_picks o a b f g h = rw (f, g, h) refl

two_writes : (o : BinaryOp) (a b : Tree) → uids_of a ≡ [] → uids_of b ≡ [] → uids_of (two o a b) ≡ []
unfolding uids_of
two_writes o a b g h = rw (g, h) refl

-- what is plain stays so while the table grows
pub plain_later : (xs ys : List Node) (n : ℕ) → Keeps xs ys → IsPlain xs n → IsPlain ys n
plain_later xs ys n e h = plain_of ys n (tree xs n) (record { within = omega (arith, h.within, e.longer); is = e.same n h.within }) h.picks_none h.writes_none

module _ (xs ys : List Node) (a b n : ℕ) (h : IsPlain xs a) (k : IsPlain xs b) where
  pub two_plain : (o : BinaryOp) → is_pick o ≡ false → StandsFor ys n (two o (tree xs a) (tree xs b)) → IsPlain ys n
  two_plain o e s =
      plain_of ys n (two o (tree xs a) (tree xs b)) s (two_picks o (tree xs a) (tree xs b) e h.picks_none k.picks_none) (two_writes o (tree xs a) (tree xs b) h.writes_none k.writes_none)

truth_level : (x : Sort-F Sort) → is_bool_in x ≡ true → bool_level x ≡ true
truth_level s.Bool h = refl
truth_level _ h = absurd cc

pub boolean_term : (d : Declarations) (env : Env) (ls : List Uid) (t : Tree) → is_bool t ≡ true → IsTermOf d env ls (tree_sort t) t → IsTermOf d env ls sort.Bool t
boolean_term d env ls t truth term = subst (λ (k : Sort). IsTermOf d env ls k t) (bool_sort (tree_sort t) (truth_level (out-Sort (tree_sort t)) truth)) term

pub plain_goal : (d : Declarations) (env : Env) (ls : List Uid) (xs : List Node) (n : ℕ) → Contains (environments d) env → ls ≡ [] → IsPlain xs n → is_bool (tree xs n) ≡ true → IsTermOf d env ls (tree_sort (tree xs n)) (tree xs n)
    → IsGoal d env ls (tree xs n)
plain_goal d env ls xs n among none h truth term = record {
  environment = among;
  term = boolean_term d env ls (tree xs n) truth term;
  plain = h.picks_none;
  written = λ u k. absurd (contains_nothing u (subst (λ (us : List Uid). Contains us u) h.writes_none k));
  declared = subst (AllByRecursion (IsDeclared d)) (sym none) tt;
}
