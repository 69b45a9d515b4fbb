-- What is told of the first numbers of a table.
use Rattle.std.specs.Prelude.{◌≡◌, ◌&&◌, ◌<◌, ◌↔◌, ◌⊎◌, ⊤, ℕ, List, [], Bool, false, length, get_or, IsTrue, Contains, FitsSigned}
use Rattle.std.specs.Int.{w64}
use Rattle.std.specs.List.{list_all}
use Rattle.std.specs.Map.{keys_of}
use Rattle.std.specs.Str.{IsUtf8}
use Rattle.sc_ip.specs.Addresses.{IsIp}
use Rattle.sc_names.specs.declared.uid.Uid.{Uid}
use Rattle.sc_schema.specs.declared.declarations.Env.{Env}
use Rattle.sc_schema.specs.Declarations.{Declarations}
use Rattle.sc_schema.specs.Lawful.{IsEntityType}
use Rattle.sc_sorts.specs.Entities.{choices_of, IsListed}
use Rattle.sc_sorts.specs.declared.node.Literal.{Literal}
use Rattle.sc_sorts.specs.declared.node.Literal.TheVariants as literal
use Rattle.sc_sorts.specs.declared.node.UnaryOp.{UnaryOp}
use Rattle.sc_sorts.specs.declared.node.BinaryOp.{BinaryOp}
use Rattle.sc_sorts.specs.declared.node.ManyOp.{ManyOp}
use Rattle.sc_sorts.specs.declared.node.ManyOp.TheVariants as manys
use Rattle.sc_sorts.specs.declared.node.Node.{Node}
use Rattle.sc_terms.specs.Tables.{Places, tree, at_numbers}
use Rattle.sc_terms.specs.TreeSorts.{tree_sort}
use Rattle.sc_term_laws.specs.Judging.{IsTerm}
use Rattle.sc_term_laws.specs.LawfulSorts.{AreNames, IsHeldSort}
use Rattle.sc_term_laws.specs.Tests.{unary_test, binary_test, choice_test, member_test}

abbrev pub is_good : List Bool → ℕ → Bool
is_good good n = get_or good n false

abbrev pub are_good : List Bool → ℕ → ℕ → Bool
are_good good a b = is_good good a && is_good good b

abbrev pub all_good : List Bool → Places → Bool
all_good good ps = list_all (λ (p : List ℕ × ℕ). is_good good p.1) ps

-- an operator on terms that are told to be good, with its test
abbrev pub is_one : Declarations → List Node → List Bool → UnaryOp → ℕ → Bool
is_one d xs good o a = is_good good a && unary_test d o (tree_sort (tree xs a)) (tree xs a)

abbrev pub is_two : Declarations → List Node → List Bool → BinaryOp → ℕ → ℕ → Bool
is_two d xs good o a b =
    are_good good a b && binary_test d o (tree_sort (tree xs a)) (tree_sort (tree xs b)) (tree xs a) (tree xs b)

abbrev pub is_choice : List Node → List Bool → ℕ → ℕ → ℕ → Bool
is_choice xs good c a b =
    is_good good c
    && (are_good good a b
    && choice_test (tree_sort (tree xs c)) (tree_sort (tree xs a)) (tree_sort (tree xs b)) (tree xs c) (tree xs a)
    (tree xs b))

-- ---- literals

-- policies write an entity, or its type lists it: a declared action, or a choice of an enumerated type
abbrev pub IsWritten : Declarations → List Uid → Uid → Type 0
IsWritten d written u = Contains written u ⊎ IsListed d u

-- the default of a declared type that lists no entities
abbrev pub IsNameless : Declarations → Uid → Type 0
IsNameless d u = (u.id ≡ []) × IsEntityType d u.type_name × (choices_of d u.type_name ≡ [])

-- with the choices of its type
abbrev pub IsEntityLiteral : Declarations → List Uid → Uid → List Uid → Type 0
IsEntityLiteral d written u choices = (choices ≡ choices_of d u.type_name) × (IsWritten d written u ⊎ IsNameless d u)

abbrev pub IsLiteralOf : Declarations → List Uid → Literal → Type 0
IsLiteralOf d written (literal.Bool b) = ⊤
IsLiteralOf d written (literal.Long n) = FitsSigned w64 n
IsLiteralOf d written (literal.String text) = IsUtf8 text
IsLiteralOf d written (literal.Decimal n) = FitsSigned w64 n
IsLiteralOf d written (literal.Ip ip) = IsIp ip
IsLiteralOf d written (literal.Entity u choices) = IsEntityLiteral d written u choices

-- ---- numbers

-- each is told to be a term just where it is one of its sort
abbrev pub AreJudged : Declarations → Env → List Uid → List Node → List Bool → Type 0
AreJudged d env written xs good = (n : ℕ) → n < length good
    → IsTrue (is_good good n) ↔ IsTerm d env written (tree xs n)

-- a record whose labels are names that ascend, or a set whose members are of its sort
abbrev pub IsManyBy : Declarations → List Node → ManyOp → Places → Type 0
IsManyBy d xs manys.Record ps = AreNames (keys_of ps)
IsManyBy d xs (manys.Set member) ps = IsHeldSort d member × IsTrue (list_all (member_test member) (at_numbers xs ps))

-- and each part is a term
abbrev pub IsMany : Declarations → List Node → List Bool → ManyOp → Places → Type 0
IsMany d xs good op ps = IsTrue (all_good good ps) × IsManyBy d xs op ps
