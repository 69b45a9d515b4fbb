-- Generated policies write declared names alone, and each is typed in each environment.
use Rattle.std.proofs.Common.{◌≡◌, ℕ, ◌+◌, List, [], ◌∷◌, None, refl}
use Rattle.sc_ast.specs.declared.place.Place.{Place}
use Rattle.sc_lexer.specs.Pieces.{string_of}
use Rattle.sc_schema.specs.Declarations.{environments}
use Rattle.sc_typing.specs.Checking.{first_in, fault_from as type_fault_from, type_fault}
use Rattle.sc_typing.specs.Names.{fault_from as name_fault_from, name_fault}
use Rattle.sc_generated_laws.specs.Items.{lexemes_of}
use Rattle.sc_generated_laws.specs.Lines.{group_text, policy_of}
use Rattle.sc_generated_laws.specs.Texts.{addend, bound, group_number, items, place_in, policies_in}
use Rattle.sc_generated_typing_laws.specs.Schema.{declared, viewing, environment}
use Rattle.sc_generated_typing_laws.proofs.TypingLaws.{policy_declared}
use Rattle.sc_generated_typing_laws.proofs.DerivationLaws.{policy_typed}

one_environment : environments declared ≡ environment ∷ []
unfolding declared viewing
one_environment = refl

names_from : (whole i : ℕ) (xs : List ℕ) → name_fault_from declared i (policies_in whole xs) ≡ None
unfolding policies_in
names_from whole i [] = refl
names_from whole i (x ∷ xs) =
    rw (policy_declared (place_in (lexemes_of whole (items (x ∷ xs)))) (addend x) (bound x) (string_of (group_text (group_number x)))) (names_from whole (i + 1) xs)

pub names_declared : (whole : ℕ) (xs : List ℕ) → name_fault declared (policies_in whole xs) ≡ None
names_declared whole xs = names_from whole 0 xs

in_environment : (i : ℕ) (at : ℕ → Place) (c d id : List ℕ) → first_in declared i (policy_of at c d id) (environment ∷ []) ≡ None
unfolding first_in
in_environment i at c d id = rw (policy_typed at c d id) refl

types_from : (whole i : ℕ) (xs : List ℕ) → type_fault_from declared i (policies_in whole xs) ≡ None
unfolding policies_in type_fault_from
types_from whole i [] = refl
types_from whole i (x ∷ xs) =
    let at = place_in (lexemes_of whole (items (x ∷ xs))) in
    let id = string_of (group_text (group_number x)) in
    rw (one_environment, in_environment i at (addend x) (bound x) id) (types_from whole (i + 1) xs)

pub all_typed : (whole : ℕ) (xs : List ℕ) → type_fault declared (policies_in whole xs) ≡ None
all_typed whole xs = types_from whole 0 xs
