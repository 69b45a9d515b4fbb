-- Strings that differ are no more than the strings of which each equals one.
use Rattle.std.proofs.Common.{◌≡◌, ◌≤◌, inl, inr, suc, arith, Bool, true, false, List, [], ◌∷◌, length, refl, sym, ap, ◌∙◌, subst}
use Rattle.std.specs.List.{AllByRecursion}
use Rattle.sc_lists.specs.Members.{Has}
use Rattle.sc_schema.specs.declared.declarations.Env.{Env}
use Rattle.sc_schema.specs.Declarations.{Declarations}
use Rattle.sc_languages.specs.Strings.{AreDistinct}
use Rattle.sc_terms.specs.Trees.{Tree}
use Rattle.sc_terms.specs.Folds.{equal_term}
use Rattle.sc_rule_laws.specs.Strings.{Pattern}
use Rattle.sc_model_laws.specs.Assignments.{Assignment, lit}
use Rattle.sc_model_laws.specs.Names.{signs_of}
use Rattle.sc_model_laws.specs.Texts.{AreApart, IsString, AreOthers}
use Rattle.sc_model_laws.proofs.CountLaws.{distinct_within}
use Rattle.sc_model_laws.proofs.EqualityLaws.{AreEquated}

module _ (d : Declarations) (env : Env) (goal : Tree) (m : Assignment) (equal : AreEquated d env goal m) (qs : List Pattern) (signs : List Bool) (xs : List Tree) where
  -- each string with these signs equals one of them
  abbrev Stands : Type 0
  Stands = (x : Tree) → IsString d env goal x → signs_of m qs x ≡ signs → (y : Tree) × Has xs y × IsString d env goal y × (lit m (equal_term x y) ≡ true)

  abbrev AreStrings : List Tree → Type 0
  AreStrings ts = AllByRecursion (IsString d env goal) ts

  abbrev AreSigned : List Tree → Type 0
  AreSigned ts = AllByRecursion (λ t. signs_of m qs t ≡ signs) ts

  module _ (stands : Stands) where
    abbrev leaders : (ts : List Tree) → AreStrings ts → AreSigned ts → List Tree
    leaders [] s g = []
    leaders (t ∷ ts) s g = (stands t s.0 g.0).0 ∷ leaders ts s.1 g.1

    length-leaders : (ts : List Tree) (s : AreStrings ts) (g : AreSigned ts) → length (leaders ts s g) ≡ length ts
    length-leaders [] s g = refl
    length-leaders (t ∷ ts) s g = ap suc (length-leaders ts s.1 g.1)

    leaders_among : (ts : List Tree) (s : AreStrings ts) (g : AreSigned ts) (z : Tree) → Has (leaders ts s g) z → Has xs z
    leaders_among [] s g z h = absurd h
    leaders_among (t ∷ ts) s g z (inl is) = subst (Has xs) is (stands t s.0 g.0).1
    leaders_among (t ∷ ts) s g z (inr later) = leaders_among ts s.1 g.1 z later

    -- two strings of one leader are equal
    other_leader : (t y : Tree) → IsString d env goal t → IsString d env goal y → lit m (equal_term t y) ≡ true → (ts : List Tree) (s : AreStrings ts) (g : AreSigned ts)
        → AllByRecursion (λ u. lit m (equal_term t u) ≡ false) ts → Has (leaders ts s g) y → ⊥
    other_leader t y st sy e [] s g a h = absurd h
    other_leader t y st sy e (u ∷ ts) s g a (inl is) =
        let own : lit m (equal_term u y) ≡ true = subst (λ (z : Tree). lit m (equal_term u z) ≡ true) is (stands u s.0 g.0).3 in
        let one : lit m (equal_term t u) ≡ true = equal.through t y u st sy s.0 e (equal.turned u y s.0 sy own) in
        let both : true ≡ false = sym one ∙ a.0 in
        absurd cc
    other_leader t y st sy e (u ∷ ts) s g a (inr later) = other_leader t y st sy e ts s.1 g.1 a.1 later

    leaders_distinct : (ts : List Tree) (s : AreStrings ts) (g : AreSigned ts) → AreApart m ts → AreDistinct (leaders ts s g)
    leaders_distinct [] s g a = tt
    leaders_distinct (t ∷ ts) s g a =
        let own = stands t s.0 g.0 in
        (λ h. other_leader t own.0 s.0 own.2 own.3 ts s.1 g.1 a.0 h, leaders_distinct ts s.1 g.1 a.1)

    pub classes_bound : (ts : List Tree) → AreOthers d env goal m qs signs ts → length ts ≤ length xs
    classes_bound ts others =
        let within : length (leaders ts others.strings others.signed) ≤ length xs =
        distinct_within (leaders ts others.strings others.signed) xs (leaders_distinct ts others.strings others.signed others.apart) (leaders_among ts others.strings others.signed) in
        let size = length-leaders ts others.strings others.signed in
        omega (arith, within, size)
