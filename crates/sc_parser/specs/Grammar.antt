-- The grammar of expressions, over a fixed list of tokens: that the tokens from one place up to another spell an
-- expression. One case for each form of a production; a chain may end anywhere.
use Rattle.std.specs.Prelude.{◌≡◌, ℕ, ◌+◌, ◌-◌, ◌<◌, List, [], ◌∷◌, ◌++◌, codes, true, false, not, pos}
use Rattle.std.specs.declared.option.Option.TheVariants.{Some, None}
use Rattle.std.specs.Str.Parse.{digits_value}
use Rattle.sc_pattern.specs.declared.part.Part.{Part}
use Rattle.sc_ast.specs.declared.place.Place.{Place}
use Rattle.sc_ast.specs.declared.expr.Expr.{Expr}
use Rattle.sc_ast.specs.declared.expr.Expr.TheVariants as expr
use Rattle.sc_ast.specs.declared.expr.TypeName.{TypeName}
use Rattle.sc_ast.specs.declared.expr.Variable.{Variable}
use Rattle.sc_ast.specs.declared.literal.Literal.TheVariants as literal
use Rattle.sc_ast.specs.declared.literal.EntityLiteral.{EntityLiteral}
use Rattle.sc_ast.specs.declared.operator.UnaryOperator.{UnaryOperator}
use Rattle.sc_ast.specs.declared.operator.UnaryOperator.TheVariants as unary
use Rattle.sc_lexer.specs.declared.token.Kind.TheVariants as kind
use Rattle.sc_lexemes.specs.declared.cursor.Cursor.{Cursor}
use Rattle.sc_lexemes.specs.declared.lexeme.Lexeme.{Lexeme}
use Rattle.sc_lexemes.specs.declared.lexeme.Shape.TheVariants.{Word, Number, String, Sign}
use Rattle.sc_lexemes.specs.declared.operator.Close.{Close}
use Rattle.sc_lexemes.specs.declared.operator.Close.TheVariants as close
use Rattle.sc_lexemes.specs.declared.operator.Level.{Level}
use Rattle.sc_lexemes.specs.declared.operator.Level.TheVariants as level
use Rattle.sc_lexemes.specs.declared.operator.Operator.{Operator}
use Rattle.sc_lexemes.specs.declared.stop.Stop.TheVariants as stop
use Rattle.sc_lexemes.specs.Depth.{next, past, inside, back}
use Rattle.sc_lexemes.specs.Lexemes.{Is, Lacks, IsIdent, closing, IsOperator, IsPrefix, IsLeast, LacksLeast}
use Rattle.sc_parser.specs.Limits.{Limits, Holds, Fits}
use Rattle.sc_lexemes.specs.Tables.{joined, called, applied, has_key, is_long, least_long, variable_of}

-- an identifier
pub data Ident : Limits → List Lexeme → Cursor → Place → List ℕ → Cursor → Type 0 where
  ident : {K : Limits} {ts : List Lexeme} {s : Cursor} {p : Place} {w : List ℕ} → IsIdent ts s.at p w → Fits K s
      → Ident K ts s p w (next s)

-- a string: the text that it means, and the pattern
pub data Str : Limits → List Lexeme → Cursor → List ℕ → List Part → Cursor → Type 0 where
  string : {K : Limits} {ts : List Lexeme} {s : Cursor} {p : Place} {t : List ℕ} {parts : List Part}
      → Is ts s.at p (String t parts) → Fits K s → Str K ts s t parts (next s)

-- further names after `has`, each behind a dot; those so far, then all
pub data MoreNames : Limits → List Lexeme → Cursor → List (List ℕ) → List (List ℕ) → Cursor → Type 0 where
  names_end : {K : Limits} {ts : List Lexeme} {s : Cursor} {ns : List (List ℕ)} → MoreNames K ts s ns ns s
  names_more : {K : Limits} {ts : List Lexeme} {s t u : Cursor} {p q : Place} {w : List ℕ} {ns ms : List (List ℕ)}
      → Is ts s.at p (Sign kind.Dot) → Ident K ts (past s) q w t → MoreNames K ts t (ns ++ w ∷ []) ms u
      → MoreNames K ts s ns ms u

-- a string, or identifiers with dots between them
pub data Names : Limits → List Lexeme → Cursor → List (List ℕ) → Cursor → Type 0 where
  names_string : {K : Limits} {ts : List Lexeme} {s t : Cursor} {w : List ℕ} {parts : List Part}
      → Str K ts s w parts t → Names K ts s (w ∷ []) t
  names_idents : {K : Limits} {ts : List Lexeme} {s t u : Cursor} {p : Place} {w : List ℕ} {ns : List (List ℕ)}
      → Ident K ts s p w t → MoreNames K ts t (w ∷ []) ns u → Names K ts s ns u

-- the rest of a path; its text so far, then the whole
pub data MorePath : Limits → List Lexeme → Cursor → List ℕ → List ℕ → Cursor → Type 0 where
  path_end : {K : Limits} {ts : List Lexeme} {s : Cursor} {n : List ℕ} → MorePath K ts s n n s
  path_more : {K : Limits} {ts : List Lexeme} {s t u : Cursor} {p q : Place} {n w m : List ℕ}
      → Is ts s.at p (Sign kind.DoubleColon) → Ident K ts (next s) q w t
      → MorePath K ts t (n ++ (codes "::" ++ w)) m u → MorePath K ts s n m u

-- identifiers with `::` between them
pub data Path : Limits → List Lexeme → Cursor → TypeName → Cursor → Type 0 where
  path : {K : Limits} {ts : List Lexeme} {s t u : Cursor} {p : Place} {w n : List ℕ} → Ident K ts s p w t
      → MorePath K ts t w n u → Path K ts s (record { place = p; name = n }) u

-- a path, `::` and a string
pub data Entity : Limits → List Lexeme → Cursor → EntityLiteral → Cursor → Type 0 where
  entity : {K : Limits} {ts : List Lexeme} {s t u : Cursor} {p q r : Place} {w n i : List ℕ} {parts : List Part}
      → Ident K ts s p w t → MorePath K ts t w n u → Is ts u.at q (Sign kind.DoubleColon)
      → Is ts (u.at + 1) r (String i parts)
      → Entity K ts s (record { place = p; uid = record { type_name = n; id = i } }) (next (next u))

-- a key of a record, which none of the fields before has
pub data Key : Limits → List Lexeme → Cursor → List (List ℕ × Expr) → List ℕ → Cursor → Type 0 where
  key_ident : {K : Limits} {ts : List Lexeme} {s t : Cursor} {p : Place} {w : List ℕ} {fs : List (List ℕ × Expr)}
      → Ident K ts s p w t → Holds K stop.DuplicateKey s.at (not (has_key w fs)) → Key K ts s fs w t
  key_string : {K : Limits} {ts : List Lexeme} {s t : Cursor} {w : List ℕ} {parts : List Part}
      {fs : List (List ℕ × Expr)} → Str K ts s w parts t → Holds K stop.DuplicateKey s.at (not (has_key w fs))
      → Key K ts s fs w t

mutual
  -- an expression
  pub data Expression : Limits → List Lexeme → Cursor → Expr → Cursor → Type 0 where
    chain_or : {K : Limits} {ts : List Lexeme} {s t : Cursor} {x : Expr} → Chain K ts level.Or s x t
        → Expression K ts s x t
    if_then_else : {K : Limits} {ts : List Lexeme} {s t u v : Cursor} {p : Place} {c a b : Expr}
        → Is ts s.at p (Word (codes "if")) → Fits K s → Enclosed K ts close.Then (next s) c t
        → Enclosed K ts close.Else t a u → Inner K ts u b v → Expression K ts s (expr.If p c a b) v

  -- an expression inside of something
  pub data Inner : Limits → List Lexeme → Cursor → Expr → Cursor → Type 0 where
    inner : {K : Limits} {ts : List Lexeme} {s t : Cursor} {x : Expr} → Expression K ts (inside s) x t
        → Inner K ts s x (back s t)

  -- an expression inside of something, and the token that ends it
  pub data Enclosed : Limits → List Lexeme → Close → Cursor → Expr → Cursor → Type 0 where
    enclosed : {K : Limits} {ts : List Lexeme} {c : Close} {s t : Cursor} {p : Place} {x : Expr} → Inner K ts s x t
        → Is ts t.at p (closing c) → Enclosed K ts c s x (next t)

  -- operands of a level with its operators between them
  pub data Chain : Limits → List Lexeme → Level → Cursor → Expr → Cursor → Type 0 where
    chain : {K : Limits} {ts : List Lexeme} {l : Level} {s t u : Cursor} {a x : Expr} → Operand K ts l s a t
        → MoreOperands K ts l t a x u → Chain K ts l s x u

  -- further operands; what they are so far joined to, then the whole
  pub data MoreOperands : Limits → List Lexeme → Level → Cursor → Expr → Expr → Cursor → Type 0 where
    operands_end : {K : Limits} {ts : List Lexeme} {l : Level} {s : Cursor} {a : Expr} → MoreOperands K ts l s a a s
    operands_more : {K : Limits} {ts : List Lexeme} {l : Level} {s t u : Cursor} {a b x : Expr} {p : Place}
        {r : Operator} → IsOperator ts s.at p l r → Operand K ts l (past s) b t
        → MoreOperands K ts l t (joined r p a b) x u → MoreOperands K ts l s a x u

  -- an operand: of `||` a chain of `&&`, of `&&` a relation, of `+` and `-` a chain of `*`, of `*` something with
  -- prefixes
  pub data Operand : Limits → List Lexeme → Level → Cursor → Expr → Cursor → Type 0 where
    operand_or : {K : Limits} {ts : List Lexeme} {s t : Cursor} {x : Expr} → Chain K ts level.And s x t
        → Operand K ts level.Or s x t
    operand_and : {K : Limits} {ts : List Lexeme} {s t : Cursor} {x : Expr} → Relation K ts s x t
        → Operand K ts level.And s x t
    operand_add : {K : Limits} {ts : List Lexeme} {s t : Cursor} {x : Expr} → Chain K ts level.Multiply s x t
        → Operand K ts level.Add s x t
    operand_multiply : {K : Limits} {ts : List Lexeme} {s t : Cursor} {x : Expr} → Unary K ts s x t
        → Operand K ts level.Multiply s x t

  -- a sum, or one comparison, `in`, `has`, `like` or `is` of it
  pub data Relation : Limits → List Lexeme → Cursor → Expr → Cursor → Type 0 where
    sum : {K : Limits} {ts : List Lexeme} {s t : Cursor} {x : Expr} → Chain K ts level.Add s x t → Relation K ts s x t
    comparison : {K : Limits} {ts : List Lexeme} {s t u : Cursor} {a b : Expr} {p : Place} {r : Operator}
        → Chain K ts level.Add s a t → IsOperator ts t.at p level.Relation r → Chain K ts level.Add (past t) b u
        → Relation K ts s (joined r p a b) u
    has : {K : Limits} {ts : List Lexeme} {s t u : Cursor} {a : Expr} {p : Place} {ns : List (List ℕ)}
        → Chain K ts level.Add s a t → Is ts t.at p (Word (codes "has")) → Names K ts (past t) ns u
        → Relation K ts s (expr.Has p a ns) u
    like : {K : Limits} {ts : List Lexeme} {s t u : Cursor} {a : Expr} {p : Place} {w : List ℕ} {parts : List Part}
        → Chain K ts level.Add s a t → Is ts t.at p (Word (codes "like")) → Str K ts (past t) w parts u
        → Relation K ts s (expr.Like p a parts) u
    is_type : {K : Limits} {ts : List Lexeme} {s t u : Cursor} {a : Expr} {p : Place} {y : TypeName}
        → Chain K ts level.Add s a t → Is ts t.at p (Word (codes "is")) → Path K ts (past t) y u
        → Relation K ts s (expr.Is p a y) u
    is_in : {K : Limits} {ts : List Lexeme} {s t u v : Cursor} {a b : Expr} {p q : Place} {y : TypeName}
        → Chain K ts level.Add s a t → Is ts t.at p (Word (codes "is")) → Path K ts (past t) y u
        → Is ts u.at q (Word (codes "in")) → Chain K ts level.Add (past u) b v → Relation K ts s (expr.IsIn p a y q b) v

  -- up to four prefixes of one kind, and what they stand before
  pub data Unary : Limits → List Lexeme → Cursor → Expr → Cursor → Type 0 where
    no_prefix : {K : Limits} {ts : List Lexeme} {s t : Cursor} {x : Expr} → Member K ts s x t → Unary K ts s x t
    prefixes : {K : Limits} {ts : List Lexeme} {s t : Cursor} {p : Place} {r : UnaryOperator} {x : Expr}
        → IsPrefix ts s.at p r → Prefixes K ts r 4 s x t → Unary K ts s x t

  -- at most so many prefixes of this kind, and what they stand before. The digits 9223372036854775808 directly behind
  -- a minus are one number with it
  pub data Prefixes : Limits → List Lexeme → UnaryOperator → ℕ → Cursor → Expr → Cursor → Type 0 where
    prefixes_end : {K : Limits} {ts : List Lexeme} {r : UnaryOperator} {m : ℕ} {s t : Cursor} {x : Expr}
        → Member K ts s x t → Prefixes K ts r m s x t
    least : {K : Limits} {ts : List Lexeme} {m : ℕ} {s t : Cursor} {p : Place} {x : Expr} → 0 < m → IsLeast ts s.at p
        → Fits K s → Fits K (past s) → Accesses K ts (next (past s)) (expr.Literal p (literal.Long least_long)) x t
        → Prefixes K ts unary.Negate m s x t
    prefix : {K : Limits} {ts : List Lexeme} {r : UnaryOperator} {m : ℕ} {s t : Cursor} {p : Place} {x : Expr} → 0 < m
        → IsPrefix ts s.at p r → Fits K s → LacksLeast ts s.at r → Prefixes K ts r (m - 1) (past s) x t
        → Prefixes K ts r m s (expr.Unary p r x) t

  -- a primary expression, and accesses and method calls behind it
  pub data Member : Limits → List Lexeme → Cursor → Expr → Cursor → Type 0 where
    member : {K : Limits} {ts : List Lexeme} {s t u : Cursor} {a x : Expr} → Primary K ts s a t
        → Accesses K ts t a x u → Member K ts s x u

  -- accesses and method calls; what stands before them, then the whole
  pub data Accesses : Limits → List Lexeme → Cursor → Expr → Expr → Cursor → Type 0 where
    no_access : {K : Limits} {ts : List Lexeme} {s : Cursor} {a : Expr} → Accesses K ts s a a s
    index : {K : Limits} {ts : List Lexeme} {s t u : Cursor} {a x : Expr} {p q : Place} {w : List ℕ}
        {parts : List Part} → Is ts s.at p (Sign kind.OpenBracket) → Str K ts (past s) w parts t
        → Is ts t.at q (Sign kind.CloseBracket) → Accesses K ts (next t) (expr.Access p a w) x u → Accesses K ts s a x u
    access : {K : Limits} {ts : List Lexeme} {s t u : Cursor} {a x : Expr} {p q : Place} {w : List ℕ}
        → Is ts s.at p (Sign kind.Dot) → Ident K ts (past s) q w t → Accesses K ts t (expr.Access p a w) x u
        → Accesses K ts s a x u
    method : {K : Limits} {ts : List Lexeme} {s t u v : Cursor} {a x y : Expr} {p q r : Place} {w : List ℕ}
        {xs : List Expr} → Is ts s.at p (Sign kind.Dot) → Ident K ts (past s) q w t
        → Is ts t.at r (Sign kind.OpenParenthesis) → Items K ts close.Parenthesis (next t) [] xs u
        → called p a w xs ≡ Some y → Accesses K ts (next u) y x v → Accesses K ts s a x v
    no_method : {K : Limits} {ts : List Lexeme} {s t u v : Cursor} {a x : Expr} {p q r : Place} {w : List ℕ}
        {xs : List Expr} → Is ts s.at p (Sign kind.Dot) → Ident K ts (past s) q w t
        → Is ts t.at r (Sign kind.OpenParenthesis) → Items K ts close.Parenthesis (next t) [] xs u
        → called p a w xs ≡ None → Holds K stop.BadCall u.at false → Accesses K ts (next u) a x v
        → Accesses K ts s a x v

  -- what has no operator. The word of a variable is one unless `::` follows
  pub data Primary : Limits → List Lexeme → Cursor → Expr → Cursor → Type 0 where
    truth : {K : Limits} {ts : List Lexeme} {s : Cursor} {p : Place} → Is ts s.at p (Word (codes "true")) → Fits K s
        → Primary K ts s (expr.Literal p (literal.Bool true)) (next s)
    falsehood : {K : Limits} {ts : List Lexeme} {s : Cursor} {p : Place} → Is ts s.at p (Word (codes "false"))
        → Fits K s → Primary K ts s (expr.Literal p (literal.Bool false)) (next s)
    number : {K : Limits} {ts : List Lexeme} {s : Cursor} {p : Place} {ds : List ℕ} → Is ts s.at p (Number ds)
        → Fits K s → Holds K stop.IntRange s.at (is_long (digits_value 10 ds))
        → Primary K ts s (expr.Literal p (literal.Long (pos (digits_value 10 ds)))) (next s)
    text : {K : Limits} {ts : List Lexeme} {s : Cursor} {p : Place} {w : List ℕ} {parts : List Part}
        → Is ts s.at p (String w parts) → Fits K s → Primary K ts s (expr.Literal p (literal.String w)) (next s)
    variable : {K : Limits} {ts : List Lexeme} {s : Cursor} {p : Place} {w : List ℕ} {x : Variable}
        → Is ts s.at p (Word w) → variable_of w ≡ Some x → Fits K s → Lacks ts (s.at + 1) (Sign kind.DoubleColon)
        → Primary K ts s (expr.Variable p x) (next s)
    uid : {K : Limits} {ts : List Lexeme} {s t : Cursor} {y : EntityLiteral} → Entity K ts s y t
        → Primary K ts s (expr.Literal y.place (literal.Entity y.uid)) t
    function : {K : Limits} {ts : List Lexeme} {s t : Cursor} {p q : Place} {w : List ℕ} {xs : List Expr} {x : Expr}
        → IsIdent ts s.at p w → variable_of w ≡ None → Fits K s → Is ts (s.at + 1) q (Sign kind.OpenParenthesis)
        → Items K ts close.Parenthesis (next (next s)) [] xs t → applied p w xs ≡ Some x → Primary K ts s x (next t)
    no_function : {K : Limits} {ts : List Lexeme} {s t : Cursor} {p q : Place} {w : List ℕ} {xs : List Expr}
        → IsIdent ts s.at p w → variable_of w ≡ None → Fits K s → Is ts (s.at + 1) q (Sign kind.OpenParenthesis)
        → Items K ts close.Parenthesis (next (next s)) [] xs t → applied p w xs ≡ None
        → Holds K stop.BadCall t.at false → Primary K ts s (expr.Set p xs) (next t)
    parenthesis : {K : Limits} {ts : List Lexeme} {s t : Cursor} {p : Place} {x : Expr}
        → Is ts s.at p (Sign kind.OpenParenthesis) → Fits K s → Enclosed K ts close.Parenthesis (next s) x t
        → Primary K ts s x t
    set : {K : Limits} {ts : List Lexeme} {s t : Cursor} {p : Place} {xs : List Expr}
        → Is ts s.at p (Sign kind.OpenBracket) → Fits K s → Items K ts close.Bracket (next s) [] xs t
        → Primary K ts s (expr.Set p xs) (next t)
    fields : {K : Limits} {ts : List Lexeme} {s t : Cursor} {p : Place} {fs : List (List ℕ × Expr)}
        → Is ts s.at p (Sign kind.OpenBrace) → Fits K s → Fields K ts (next s) [] fs t
        → Primary K ts s (expr.Record p fs) (next t)

  -- expressions with commas between them, perhaps one behind the last, up to the token that ends the list; those so
  -- far, then all
  pub data Items : Limits → List Lexeme → Close → Cursor → List Expr → List Expr → Cursor → Type 0 where
    items_end : {K : Limits} {ts : List Lexeme} {c : Close} {s : Cursor} {p : Place} {xs : List Expr}
        → Is ts s.at p (closing c) → Items K ts c s xs xs s
    last_item : {K : Limits} {ts : List Lexeme} {c : Close} {s t : Cursor} {p : Place} {xs : List Expr} {x : Expr}
        → Inner K ts s x t → Is ts t.at p (closing c) → Items K ts c s xs (xs ++ x ∷ []) t
    more_items : {K : Limits} {ts : List Lexeme} {c : Close} {s t u : Cursor} {p : Place} {xs ys : List Expr}
        {x : Expr} → Inner K ts s x t → Is ts t.at p (Sign kind.Comma) → Items K ts c (next t) (xs ++ x ∷ []) ys u
        → Items K ts c s xs ys u

  -- keys and expressions with a colon between them, and commas between these; those so far, then all
  pub data Fields : Limits → List Lexeme → Cursor → List (List ℕ × Expr) → List (List ℕ × Expr) → Cursor → Type 0 where
    fields_end : {K : Limits} {ts : List Lexeme} {s : Cursor} {p : Place} {fs : List (List ℕ × Expr)}
        → Is ts s.at p (Sign kind.CloseBrace) → Fields K ts s fs fs s
    last_field : {K : Limits} {ts : List Lexeme} {s t u : Cursor} {p q : Place} {fs : List (List ℕ × Expr)}
        {w : List ℕ} {x : Expr} → Key K ts s fs w t → Is ts t.at p (Sign kind.Colon) → Inner K ts (next t) x u
        → Is ts u.at q (Sign kind.CloseBrace) → Fields K ts s fs (fs ++ (w, x) ∷ []) u
    more_fields : {K : Limits} {ts : List Lexeme} {s t u v : Cursor} {p q : Place} {fs gs : List (List ℕ × Expr)}
        {w : List ℕ} {x : Expr} → Key K ts s fs w t → Is ts t.at p (Sign kind.Colon) → Inner K ts (next t) x u
        → Is ts u.at q (Sign kind.Comma) → Fields K ts (next u) (fs ++ (w, x) ∷ []) gs v → Fields K ts s fs gs v
