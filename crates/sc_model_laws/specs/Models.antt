-- Which names of strings and entities an assignment allows.
use Rattle.std.specs.Prelude.{◌≡◌, ◌↔◌, ℕ, true, List}
use Rattle.std.specs.Str.{chars}
use Rattle.sc_lists.specs.Members.{Has}
use Rattle.sc_names.specs.declared.uid.Uid.{Uid}
use Rattle.sc_pattern.specs.Language.{is_match}
use Rattle.sc_schema.specs.declared.declarations.Env.{Env}
use Rattle.sc_schema.specs.Declarations.{Declarations}
use Rattle.sc_sorts.specs.declared.sort.Sort.TheVariants as sort
use Rattle.sc_sorts.specs.declared.node.Literal.TheVariants as literal
use Rattle.sc_sorts.specs.declared.node.UnaryOp.TheVariants.{Like}
use Rattle.sc_terms.specs.Trees.{Tree, one}
use Rattle.sc_terms.specs.TreeSorts.{tree_sort}
use Rattle.sc_terms.specs.Folds.{literal_term, equal_term, like_term}
use Rattle.sc_rule_laws.specs.Strings.{Pattern}
use Rattle.sc_closure_rules.specs.Closure.{Closed}
use Rattle.sc_model_laws.specs.Assignments.{lit}
use Rattle.sc_model_laws.specs.Consistent.{IsConsistent}
use Rattle.sc_model_laws.specs.Vals.{Model}

-- two closed terms of a sort have one name just where their equation is true
abbrev pub AreNamed : {X : Type 0} → (Tree → Type 0) → Model → (Tree → X) → Type 0
AreNamed Is m name = (x y : Tree) → Is x → Is y → name x ≡ name y ↔ lit m.truths (equal_term x y) ≡ true

-- The assignment is consistent, the list has just the closed terms, and names tell classes of equal terms apart: a
-- literal's is what it says, a string's matches just the patterns that it is to match, and an entity's has the
-- entity's type.
pub record IsModel (d : Declarations) (env : Env) (goal : Tree) (m : Model) : Type 0 where
  pub consistent : IsConsistent d env goal m.truths
  pub listed : (x : Tree) → Has m.closed x ↔ Closed d env goal x
  pub texts : AreNamed (λ x. Closed d env goal x × (tree_sort x ≡ sort.String)) m m.text
  pub literal_text : (t : List ℕ) → Closed d env goal (literal_term (literal.String t))
      → m.text (literal_term (literal.String t)) ≡ t
  pub likes : (p : Pattern) (x y : Tree) → Closed d env goal x → tree_sort x ≡ sort.String
      → Closed d env goal (one (Like p) y) → is_match p (chars (m.text x)) ≡ lit m.truths (like_term x p)
  pub uids : (name : List ℕ) (us : List Uid)
      → AreNamed (λ x. Closed d env goal x × (tree_sort x ≡ sort.Entity name us)) m m.uid
  pub typed : (name : List ℕ) (us : List Uid) (x : Tree) → tree_sort x ≡ sort.Entity name us
      → (m.uid x).type_name ≡ name
  pub literal_uid : (u : Uid) (us : List Uid) → Closed d env goal (literal_term (literal.Entity u us))
      → m.uid (literal_term (literal.Entity u us)) ≡ u
