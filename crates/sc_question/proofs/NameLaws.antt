-- A name tells its question.
use Rattle.std.proofs.Common.{◌≡◌, ◌∙◌, ℕ, List, if◌then◌else◌, sym, ap, refl}
use Rattle.std.specs.Prelude.{codes}
use Rattle.std.specs.Str.{bytes_eq}
use Rattle.sc_question.specs.Questions.{name_of}
use Rattle.sc_question.specs.declared.question.Question.{Question}
use Rattle.sc_question.specs.declared.question.Question.TheVariants.{NeverErrors, AlwaysAllows, AlwaysDenies, Implies, Equivalent, Disjoint}

-- the question of a name, whatever the text
abbrev named : List ℕ → Question
named word = if bytes_eq word (codes "never-errors") then NeverErrors
    else (if bytes_eq word (codes "always-allows") then AlwaysAllows
    else (if bytes_eq word (codes "always-denies") then AlwaysDenies
    else (if bytes_eq word (codes "implies") then Implies
    else (if bytes_eq word (codes "equivalent") then Equivalent else Disjoint))))

named-name : (q : Question) → named (name_of q) ≡ q
named-name NeverErrors = refl
named-name AlwaysAllows = refl
named-name AlwaysDenies = refl
named-name Implies = refl
named-name Equivalent = refl
named-name Disjoint = refl

pub one_name : (q r : Question) → name_of q ≡ name_of r → q ≡ r
one_name q r e = sym (named-name q) ∙ ap named e ∙ named-name r
