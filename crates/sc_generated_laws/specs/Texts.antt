-- The policies that a generated text spells.
use Rattle.std.specs.Prelude.{ℕ, ◌/◌, ◌%◌, List, [], ◌∷◌, get_or}
use Rattle.std.specs.Fmt.{decimal}
use Rattle.std.specs.List.{flat_map}
use Rattle.sc_ast.specs.declared.place.Place.{Place}
use Rattle.sc_ast.specs.declared.policy.Policy.{Policy}
use Rattle.sc_lexer.specs.Pieces.{string_of}
use Rattle.sc_lexemes.specs.declared.lexeme.Lexeme.{Lexeme}
use Rattle.sc_lexemes.specs.declared.lexeme.Shape.TheVariants.{Word}
use Rattle.sc_generated_laws.specs.Items.{Item, lexemes_of}
use Rattle.sc_generated_laws.specs.Lines.{group_text, items_of, policy_of}

-- the numbers that a policy writes, and that of its group
abbrev pub addend : ℕ → List ℕ
addend x = decimal (x % 1000)

abbrev pub bound : ℕ → List ℕ
bound x = decimal (x / 1000 % 1000)

abbrev pub group_number : ℕ → List ℕ
group_number x = decimal (x / 1000000 % 7)

-- the tokens of its line, and of lines
abbrev pub line_items : ℕ → List Item
line_items x = items_of (addend x) (bound x) (group_number x)

unfoldable pub items : List ℕ → List Item
items xs = flat_map line_items xs

-- where the token of a number stands
abbrev pub place_in : List Lexeme → ℕ → Place
place_in ls k = (get_or ls k (record { place = record { offset = 0 }; shape = Word [] })).place

-- the policies of these numbers at the end of a text of this length
unfoldable pub policies_in : ℕ → List ℕ → List Policy
policies_in whole [] = []
policies_in whole (x ∷ xs) =
    policy_of (place_in (lexemes_of whole (items (x ∷ xs)))) (addend x) (bound x)
    (string_of (group_text (group_number x)))
    ∷ policies_in whole xs
