-- Closed terms have the values that a consistent assignment gives them.
use Rattle.std.specs.Prelude.{◌≡◌, ◌≤◌, ◌↔◌, Bool, true, false, List, length}
use Rattle.std.specs.Str.{IsUtf8}
use Rattle.sc_lists.specs.Members.{Has}
use Rattle.sc_names.specs.declared.uid.Uid.{Uid}
use Rattle.sc_schema.specs.declared.declarations.Env.{Env}
use Rattle.sc_schema.specs.Declarations.{Declarations}
use Rattle.sc_schema.specs.Lawful.{IsLawful}
use Rattle.sc_world.specs.declared.world.World.{World}
use Rattle.sc_world.specs.WellFormed.{IsWellFormed}
use Rattle.sc_sorts.specs.declared.sort.Sort.TheVariants as sort
use Rattle.sc_terms.specs.Trees.{Tree}
use Rattle.sc_terms.specs.TreeSorts.{tree_sort}
use Rattle.sc_terms.specs.Folds.{equal_term}
use Rattle.sc_terms.specs.Values.{val, yes}
use Rattle.sc_closure_rules.specs.Closure.{Closed}
use Rattle.sc_closure_rules.specs.Goals.{has_pick, IsGoal}
use Rattle.sc_rule_laws.specs.Signed.{is_true}
use Rattle.sc_rule_laws.specs.Strings.{Pattern}
use Rattle.sc_model_laws.specs.Assignments.{Assignment, lit}
use Rattle.sc_model_laws.specs.Consistent.{IsConsistent}
use Rattle.sc_model_laws.specs.Vals.{Model, val_of}
use Rattle.sc_model_laws.specs.Models.{IsModel}
use Rattle.sc_model_laws.specs.Names.{Name, Texts, signs_of, text_of, model_of}
use Rattle.sc_model_laws.specs.Texts.{IsString, AreOthers, ArePatterns, AreTextsOf}
use Rattle.sc_model_laws.specs.Rows.{HoldsModel, is_covered}

-- two closed terms of a sort, whose equation is closed, have one value just where their equation is true
abbrev pub EquationsAgree : Type 0
EquationsAgree = (d : Declarations) (env : Env) (literals : List Uid) (goal : Tree) (m : Model) (x y : Tree)
    → IsLawful d → IsGoal d env literals goal → IsModel d env goal m → Closed d env goal x → Closed d env goal y
    → tree_sort x ≡ tree_sort y → Closed d env goal (equal_term x y)
    → lit m.truths (equal_term x y) ≡ true ↔ val_of m (tree_sort x) x ≡ val_of m (tree_sort y) y

-- where variables and what is stored have their values, each closed term that is covered has its value
abbrev pub TermsAreRight : Type 0
TermsAreRight = (d : Declarations) (env : Env) (literals : List Uid) (goal : Tree) (m : Model) (w : World) (x : Tree)
    → IsLawful d → IsGoal d env literals goal → IsModel d env goal m → HoldsModel d env goal m w → Closed d env goal x
    → is_covered x ≡ true → val x w ≡ val_of m (tree_sort x) x

-- as is each term in which no member is picked
abbrev pub PlainIsCovered : Type 0
PlainIsCovered = (x : Tree) → has_pick x ≡ false → is_covered x ≡ true

-- so each such truth value has its truth
abbrev pub TruthsAreRight : Type 0
TruthsAreRight = (d : Declarations) (env : Env) (literals : List Uid) (goal : Tree) (m : Model) (w : World) (x : Tree)
    → IsLawful d → IsGoal d env literals goal → IsModel d env goal m → HoldsModel d env goal m w → Closed d env goal x
    → tree_sort x ≡ sort.Bool → is_covered x ≡ true → val x w ≡ yes (lit m.truths x)

-- ---- models

-- Where each closed string with some signs equals one of a few, no more of them differ. So a search for that many texts
-- looks for enough of them.
abbrev pub ClassesBound : Type 0
ClassesBound = (d : Declarations) (env : Env) (goal : Tree) (m : Assignment) (qs : List Pattern) (signs : List Bool)
    (xs ts : List Tree) → IsConsistent d env goal m
    → ((x : Tree) → IsString d env goal x → signs_of m qs x ≡ signs
    → (y : Tree) × Has xs y × IsString d env goal y × (lit m (equal_term x y) ≡ true))
    → AreOthers d env goal m qs signs ts → length ts ≤ length xs

-- A consistent assignment has a model: strings and entities are named by classes of equal terms, strings by texts that
-- have their signs, of which there are as many as there are such strings that differ.
abbrev pub HasModel : Type 0
HasModel = (d : Declarations) (env : Env) (goal : Tree) (closed : List Tree) (m : Assignment) (qs : List Pattern)
    (texts : Texts) → IsConsistent d env goal m → ((x : Tree) → Has closed x ↔ Closed d env goal x)
    → ArePatterns d env goal qs
    → AreTextsOf d env goal m qs texts → IsModel d env goal (model_of qs texts closed m)

-- the names of its strings are texts
abbrev pub NamesAreTexts : Type 0
NamesAreTexts = (d : Declarations) (env : Env) (literals : List Uid) (goal : Tree) (closed : List Tree) (m : Assignment)
    (qs : List Pattern) (texts : Texts) → IsLawful d → IsGoal d env literals goal
    → ((x : Tree) → Has closed x ↔ Closed d env goal x)
    → ((signs : List Bool) (t : Name) → Has (texts signs) t → IsUtf8 t)
    → (x : Tree) → IsUtf8 (text_of m qs texts closed x)

-- ---- and back

-- the truths of a world
abbrev pub truths_in : World → Assignment
truths_in w t = is_true t w

-- of a well-formed world they falsify nothing
abbrev pub TruthsAreConsistent : Type 0
TruthsAreConsistent = (d : Declarations) (env : Env) (literals : List Uid) (goal : Tree) (w : World)
    → IsLawful d → IsGoal d env literals goal → IsWellFormed d env literals w → IsConsistent d env goal (truths_in w)

-- and each closed term has its truth under them
abbrev pub TruthsAreTold : Type 0
TruthsAreTold = (d : Declarations) (env : Env) (literals : List Uid) (goal : Tree) (w : World) (x : Tree)
    → IsLawful d → IsGoal d env literals goal → IsWellFormed d env literals w → Closed d env goal x
    → lit (truths_in w) x ≡ is_true x w
