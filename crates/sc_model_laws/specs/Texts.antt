-- The patterns of a goal, strings that an assignment tells apart, and texts that may name them.
use Rattle.std.specs.Prelude.{◌≡◌, ◌≤◌, ⊤, ℕ, Bool, false, List, [], ◌∷◌, map, length}
use Rattle.std.specs.List.{AllByRecursion}
use Rattle.std.specs.Str.{chars}
use Rattle.sc_lists.specs.Members.{Has}
use Rattle.sc_schema.specs.declared.declarations.Env.{Env}
use Rattle.sc_schema.specs.Declarations.{Declarations}
use Rattle.sc_sorts.specs.declared.sort.Sort.TheVariants as sort
use Rattle.sc_sorts.specs.declared.node.UnaryOp.TheVariants.{Like}
use Rattle.sc_languages.specs.Strings.{AreStrings}
use Rattle.sc_terms.specs.Trees.{Tree, one}
use Rattle.sc_terms.specs.TreeSorts.{tree_sort}
use Rattle.sc_terms.specs.Folds.{equal_term}
use Rattle.sc_rule_laws.specs.Strings.{Pattern}
use Rattle.sc_closure_rules.specs.Closure.{Closed}
use Rattle.sc_model_laws.specs.Assignments.{Assignment, lit}
use Rattle.sc_model_laws.specs.Names.{Name, Texts, signs_of}

-- the patterns that some closed term asks of, in any order
pub record ArePatterns (d : Declarations) (env : Env) (goal : Tree) (qs : List Pattern) : Type 0 where
  pub asked : (p : Pattern) (x : Tree) → Closed d env goal (one (Like p) x) → Has qs p
  pub only : (p : Pattern) → Has qs p → (x : Tree) × Closed d env goal (one (Like p) x)

-- no two of the terms are equal
abbrev pub AreApart : Assignment → List Tree → Type 0
AreApart m [] = ⊤
AreApart m (t ∷ ts) = AllByRecursion (λ u. lit m (equal_term t u) ≡ false) ts × AreApart m ts

abbrev pub IsString : Declarations → Env → Tree → Tree → Type 0
IsString d env goal x = Closed d env goal x × (tree_sort x ≡ sort.String)

-- closed strings with these signs that differ
pub record AreOthers (d : Declarations) (env : Env) (goal : Tree) (m : Assignment) (qs : List Pattern)
    (signs : List Bool)
    (ts : List Tree) : Type 0 where
  pub strings : AllByRecursion (IsString d env goal) ts
  pub signed : AllByRecursion (λ t. signs_of m qs t ≡ signs) ts
  pub apart : AreApart m ts

-- texts with these signs, which were looked for in the number of such strings that differ, or in a greater one
pub record AreTextsFor (d : Declarations) (env : Env) (goal : Tree) (m : Assignment) (qs : List Pattern)
    (signs : List Bool) (texts : List Name) : Type 0 where
  pub wanted : ℕ
  pub found : AreStrings qs signs wanted (map chars texts)
  pub enough : (ts : List Tree) → AreOthers d env goal m qs signs ts → length ts ≤ wanted

-- of the signs of each closed string such texts
abbrev pub AreTextsOf : Declarations → Env → Tree → Assignment → List Pattern → Texts → Type 0
AreTextsOf d env goal m qs texts = (x : Tree) → IsString d env goal x
    → AreTextsFor d env goal m qs (signs_of m qs x) (texts (signs_of m qs x))
