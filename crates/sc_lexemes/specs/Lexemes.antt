-- What stands at a place among the tokens.
use Rattle.std.specs.Prelude.{◌≡◌, ℕ, ◌+◌, ◌||◌, List, slice_get, codes, Bool, true, false}
use Rattle.std.specs.Str.{bytes_eq}
use Rattle.std.specs.declared.option.Option.TheVariants.{Some}
use Rattle.sc_ast.specs.declared.place.Place.{Place}
use Rattle.sc_ast.specs.declared.operator.UnaryOperator.{UnaryOperator}
use Rattle.sc_ast.specs.declared.operator.UnaryOperator.TheVariants as unary
use Rattle.sc_ast.specs.declared.policy.Effect.{Effect}
use Rattle.sc_ast.specs.declared.policy.Effect.TheVariants.{Permit, Forbid}
use Rattle.sc_ast.specs.declared.policy.ConditionKind.{ConditionKind}
use Rattle.sc_ast.specs.declared.policy.ConditionKind.TheVariants.{When, Unless}
use Rattle.sc_lexer.specs.declared.token.Kind.{Kind}
use Rattle.sc_lexer.specs.declared.token.Kind.TheVariants as kind
use Rattle.sc_pattern.specs.declared.part.Part.{Part}
use Rattle.sc_names.specs.Names.{is_ident}
use Rattle.sc_lexemes.specs.declared.lexeme.Lexeme.{Lexeme}
use Rattle.sc_lexemes.specs.declared.lexeme.Shape.{Shape}
use Rattle.sc_lexemes.specs.declared.lexeme.Shape.TheVariants.{Word, Number, String, Sign}
use Rattle.sc_lexemes.specs.declared.operator.Level.{Level}
use Rattle.sc_lexemes.specs.declared.operator.Level.TheVariants as level
use Rattle.sc_lexemes.specs.declared.operator.Operator.{Operator}
use Rattle.sc_lexemes.specs.Tables.{operator_of, level_of, prefix_of, least_digits}
use Rattle.sc_lexemes.specs.declared.operator.Close.{Close}
use Rattle.sc_lexemes.specs.declared.operator.Close.TheVariants.{Then, Else, Parenthesis, Bracket, Brace}

-- the token at a place says this, and begins there in the file
abbrev pub Is : List Lexeme → ℕ → Place → Shape → Type 0
Is ts i p c = slice_get ts i ≡ Some (record { place = p; shape = c })

-- it says something else, or there is no token
abbrev pub Lacks : List Lexeme → ℕ → Shape → Type 0
Lacks ts i c = (p : Place) → Is ts i p c → ⊥

-- an identifier stands at the place
abbrev pub IsIdent : List Lexeme → ℕ → Place → List ℕ → Type 0
IsIdent ts i p w = Is ts i p (Word w) × (is_ident w ≡ true)

abbrev pub LacksIdent : List Lexeme → ℕ → Type 0
LacksIdent ts i = (p : Place) (w : List ℕ) → Is ts i p (Word w) → is_ident w ≡ true → ⊥

-- what the token is that ends an expression
abbrev pub closing : Close → Shape
closing Then = Word (codes "then")
closing Else = Word (codes "else")
closing Parenthesis = Sign kind.CloseParenthesis
closing Bracket = Sign kind.CloseBracket
closing Brace = Sign kind.CloseBrace

-- a string stands at the place, and none does
abbrev pub LacksString : List Lexeme → ℕ → Type 0
LacksString ts i = (p : Place) (t : List ℕ) (parts : List Part) → Is ts i p (String t parts) → ⊥

-- an operator of the level
pub record IsOperator (ts : List Lexeme) (i : ℕ) (p : Place) (l : Level) (r : Operator) : Type 0 where
  pub shape : Shape
  pub is : Is ts i p shape
  pub operator : operator_of shape ≡ Some r
  pub level : level_of r ≡ l

abbrev pub LacksOperator : List Lexeme → ℕ → Level → Type 0
LacksOperator ts i l = (p : Place) (r : Operator) → IsOperator ts i p l r → ⊥

-- a prefix
pub record IsPrefix (ts : List Lexeme) (i : ℕ) (p : Place) (r : UnaryOperator) : Type 0 where
  pub shape : Shape
  pub is : Is ts i p shape
  pub operator : prefix_of shape ≡ Some r

abbrev pub LacksThisPrefix : List Lexeme → ℕ → UnaryOperator → Type 0
LacksThisPrefix ts i r = (p : Place) → IsPrefix ts i p r → ⊥

abbrev pub LacksPrefix : List Lexeme → ℕ → Type 0
LacksPrefix ts i = (p : Place) (r : UnaryOperator) → IsPrefix ts i p r → ⊥

-- a minus and the digits that are a number of 64 bits with it alone
pub record IsLeast (ts : List Lexeme) (i : ℕ) (p : Place) : Type 0 where
  pub minus : Is ts i p (Sign kind.Minus)
  pub place : Place
  pub digits : Is ts (i + 1) place (Number least_digits)

-- the prefix isn't the minus of that number
abbrev pub LacksLeast : List Lexeme → ℕ → UnaryOperator → Type 0
LacksLeast ts i r = r ≡ unary.Negate → Lacks ts (i + 1) (Number least_digits)

-- neither a comparison nor `has`, `like` or `is`
pub record LacksTail (ts : List Lexeme) (i : ℕ) : Type 0 where
  pub comparison : LacksOperator ts i level.Relation
  pub has : Lacks ts i (Word (codes "has"))
  pub like : Lacks ts i (Word (codes "like"))
  pub is : Lacks ts i (Word (codes "is"))

-- neither a dot nor an opening bracket
pub record LacksAccess (ts : List Lexeme) (i : ℕ) : Type 0 where
  pub dot : Lacks ts i (Sign kind.Dot)
  pub bracket : Lacks ts i (Sign kind.OpenBracket)

-- whether a primary expression begins with a token
unfoldable pub starts : Shape → Bool
starts (Word w) = is_ident w || bytes_eq w (codes "true") || bytes_eq w (codes "false")
starts (Number digits) = true
starts (String t parts) = true
starts (Sign k) = starts_sign k
  where
    starts_sign : Kind → Bool
    starts_sign kind.OpenParenthesis = true
    starts_sign kind.OpenBracket = true
    starts_sign kind.OpenBrace = true
    starts_sign _ = false

pub record IsStart (ts : List Lexeme) (i : ℕ) : Type 0 where
  pub place : Place
  pub shape : Shape
  pub is : Is ts i place shape
  pub starts : starts shape ≡ true

abbrev pub LacksStart : List Lexeme → ℕ → Type 0
LacksStart ts i = IsStart ts i → ⊥

abbrev pub LacksWord : List Lexeme → ℕ → Type 0
LacksWord ts i = (p : Place) (w : List ℕ) → Is ts i p (Word w) → ⊥

-- the word of an effect
abbrev pub effect_word : Effect → List ℕ
effect_word Permit = codes "permit"
effect_word Forbid = codes "forbid"

pub record IsEffect (ts : List Lexeme) (i : ℕ) (p : Place) (e : Effect) : Type 0 where
  pub is : Is ts i p (Word (effect_word e))

abbrev pub LacksEffect : List Lexeme → ℕ → Type 0
LacksEffect ts i = (p : Place) (e : Effect) → IsEffect ts i p e → ⊥

-- the word of a clause
abbrev pub clause_word : ConditionKind → List ℕ
clause_word When = codes "when"
clause_word Unless = codes "unless"

pub record IsClause (ts : List Lexeme) (i : ℕ) (p : Place) (k : ConditionKind) : Type 0 where
  pub is : Is ts i p (Word (clause_word k))

abbrev pub LacksClause : List Lexeme → ℕ → Type 0
LacksClause ts i = (p : Place) (k : ConditionKind) → IsClause ts i p k → ⊥

-- a policy begins with `@`, or with the word of an effect
pub data IsPolicyStart (ts : List Lexeme) (i : ℕ) : Type 0 where
  annotation_starts : (p : Place) → Is ts i p (Sign kind.At) → IsPolicyStart ts i
  effect_starts : (p : Place) (e : Effect) → IsEffect ts i p e → IsPolicyStart ts i
