-- What comes of reading an expression, token by token: one case for each way in which it ends. Chains go on as long as
-- their operator comes. No public promise speaks of this.
use Rattle.std.specs.Prelude.{◌≡◌, ℕ, ◌+◌, ◌-◌, ◌<◌, List, [], ◌∷◌, ◌++◌, codes, true, false, pos}
use Rattle.std.specs.declared.option.Option.TheVariants.{Some, None}
use Rattle.std.specs.Str.Parse.{digits_value}
use Rattle.sc_pattern.specs.declared.part.Part.{Part}
use Rattle.sc_ast.specs.declared.place.Place.{Place}
use Rattle.sc_ast.specs.declared.expr.Expr.{Expr}
use Rattle.sc_ast.specs.declared.expr.Expr.TheVariants as expr
use Rattle.sc_ast.specs.declared.expr.TypeName.{TypeName}
use Rattle.sc_ast.specs.declared.expr.Variable.{Variable}
use Rattle.sc_ast.specs.declared.literal.Literal.TheVariants as literal
use Rattle.sc_ast.specs.declared.literal.EntityLiteral.{EntityLiteral}
use Rattle.sc_ast.specs.declared.operator.UnaryOperator.{UnaryOperator}
use Rattle.sc_ast.specs.declared.operator.UnaryOperator.TheVariants as unary
use Rattle.sc_lexer.specs.declared.token.Kind.TheVariants as kind
use Rattle.sc_lexemes.specs.declared.cursor.Cursor.{Cursor}
use Rattle.sc_lexemes.specs.declared.lexeme.Lexeme.{Lexeme}
use Rattle.sc_lexemes.specs.declared.lexeme.Shape.TheVariants.{Word, Number, String, Sign}
use Rattle.sc_lexemes.specs.declared.operator.Close.{Close}
use Rattle.sc_lexemes.specs.declared.operator.Close.TheVariants as close
use Rattle.sc_lexemes.specs.declared.operator.Level.{Level}
use Rattle.sc_lexemes.specs.declared.operator.Level.TheVariants as level
use Rattle.sc_lexemes.specs.declared.operator.Operator.{Operator}
use Rattle.sc_lexemes.specs.declared.stop.Stop.{Stop}
use Rattle.sc_lexemes.specs.declared.stop.Stop.TheVariants as stop
use Rattle.sc_lexemes.specs.Depth.{fits, next, past, inside, back}
use Rattle.sc_lexemes.specs.Lexemes.{Is, Lacks, IsIdent, closing, IsOperator, LacksOperator, IsPrefix, LacksPrefix, LacksTail, LacksAccess, IsStart, LacksStart, LacksThisPrefix, IsLeast, LacksLeast}
use Rattle.sc_lexemes.specs.Outcomes.{Outcome, read, halt}
use Rattle.sc_lexemes.specs.Tables.{joined, called, applied, is_long, least_long, variable_of}
use Rattle.sc_lexemes.specs.ReadsWords.{ReadsIdent, ReadsString, ReadsNames, ReadsPath, ReadsMoreEntity, ReadsKey}

mutual
  -- an expression
  pub data ReadsExpr : List Lexeme → Cursor → Outcome Expr → Type 0 where
    chain_or : {ts : List Lexeme} {s : Cursor} {o : Outcome Expr} → Lacks ts s.at (Word (codes "if"))
        → ReadsChain ts level.Or s o → ReadsExpr ts s o
    if_deep : {ts : List Lexeme} {s : Cursor} {p : Place} → Is ts s.at p (Word (codes "if")) → fits s ≡ false
        → ReadsExpr ts s (halt stop.TooDeep s.at)
    condition_halts : {ts : List Lexeme} {s : Cursor} {p : Place} {f : Stop} {n : ℕ}
        → Is ts s.at p (Word (codes "if")) → fits s ≡ true → ReadsEnclosed ts close.Then (next s) (halt f n)
        → ReadsExpr ts s (halt f n)
    then_halts : {ts : List Lexeme} {s t : Cursor} {p : Place} {c : Expr} {f : Stop} {n : ℕ}
        → Is ts s.at p (Word (codes "if")) → fits s ≡ true → ReadsEnclosed ts close.Then (next s) (read c t)
        → ReadsEnclosed ts close.Else t (halt f n) → ReadsExpr ts s (halt f n)
    else_halts : {ts : List Lexeme} {s t u : Cursor} {p : Place} {c a : Expr} {f : Stop} {n : ℕ}
        → Is ts s.at p (Word (codes "if")) → fits s ≡ true → ReadsEnclosed ts close.Then (next s) (read c t)
        → ReadsEnclosed ts close.Else t (read a u) → ReadsInner ts u (halt f n) → ReadsExpr ts s (halt f n)
    if_then_else : {ts : List Lexeme} {s t u v : Cursor} {p : Place} {c a b : Expr} → Is ts s.at p (Word (codes "if"))
        → fits s ≡ true → ReadsEnclosed ts close.Then (next s) (read c t) → ReadsEnclosed ts close.Else t (read a u)
        → ReadsInner ts u (read b v) → ReadsExpr ts s (read (expr.If p c a b) v)

  -- an expression inside of something
  pub data ReadsInner : List Lexeme → Cursor → Outcome Expr → Type 0 where
    inner : {ts : List Lexeme} {s t : Cursor} {x : Expr} → ReadsExpr ts (inside s) (read x t)
        → ReadsInner ts s (read x (back s t))
    inner_halts : {ts : List Lexeme} {s : Cursor} {f : Stop} {n : ℕ} → ReadsExpr ts (inside s) (halt f n)
        → ReadsInner ts s (halt f n)

  -- an expression inside of something, and the token that ends it
  pub data ReadsEnclosed : List Lexeme → Close → Cursor → Outcome Expr → Type 0 where
    enclosed : {ts : List Lexeme} {c : Close} {s t : Cursor} {p : Place} {x : Expr} → ReadsInner ts s (read x t)
        → Is ts t.at p (closing c) → ReadsEnclosed ts c s (read x (next t))
    unclosed : {ts : List Lexeme} {c : Close} {s t : Cursor} {x : Expr} → ReadsInner ts s (read x t)
        → Lacks ts t.at (closing c) → ReadsEnclosed ts c s (halt stop.Unexpected t.at)
    enclosed_halts : {ts : List Lexeme} {c : Close} {s : Cursor} {f : Stop} {n : ℕ} → ReadsInner ts s (halt f n)
        → ReadsEnclosed ts c s (halt f n)

  -- operands of a level with its operators between them
  pub data ReadsChain : List Lexeme → Level → Cursor → Outcome Expr → Type 0 where
    chain : {ts : List Lexeme} {l : Level} {s t : Cursor} {a : Expr} {o : Outcome Expr}
        → ReadsOperand ts l s (read a t) → ReadsMore ts l t a o → ReadsChain ts l s o
    chain_halts : {ts : List Lexeme} {l : Level} {s : Cursor} {f : Stop} {n : ℕ} → ReadsOperand ts l s (halt f n)
        → ReadsChain ts l s (halt f n)

  -- the rest of a chain behind what it is so far
  pub data ReadsMore : List Lexeme → Level → Cursor → Expr → Outcome Expr → Type 0 where
    more_ends : {ts : List Lexeme} {l : Level} {s : Cursor} {a : Expr} → LacksOperator ts s.at l
        → ReadsMore ts l s a (read a s)
    more_halts : {ts : List Lexeme} {l : Level} {s : Cursor} {a : Expr} {p : Place} {r : Operator} {f : Stop} {n : ℕ}
        → IsOperator ts s.at p l r → ReadsOperand ts l (past s) (halt f n) → ReadsMore ts l s a (halt f n)
    more : {ts : List Lexeme} {l : Level} {s t : Cursor} {a b : Expr} {p : Place} {r : Operator} {o : Outcome Expr}
        → IsOperator ts s.at p l r → ReadsOperand ts l (past s) (read b t) → ReadsMore ts l t (joined r p a b) o
        → ReadsMore ts l s a o

  -- an operand of a chain: a chain of the next level, a relation or a prefix
  pub data ReadsOperand : List Lexeme → Level → Cursor → Outcome Expr → Type 0 where
    operand_or : {ts : List Lexeme} {s : Cursor} {o : Outcome Expr} → ReadsChain ts level.And s o
        → ReadsOperand ts level.Or s o
    operand_and : {ts : List Lexeme} {s : Cursor} {o : Outcome Expr} → ReadsRelation ts s o
        → ReadsOperand ts level.And s o
    operand_add : {ts : List Lexeme} {s : Cursor} {o : Outcome Expr} → ReadsChain ts level.Multiply s o
        → ReadsOperand ts level.Add s o
    operand_multiply : {ts : List Lexeme} {s : Cursor} {o : Outcome Expr} → ReadsUnary ts s o
        → ReadsOperand ts level.Multiply s o

  -- one comparison, `has`, `like` or `is` at most
  pub data ReadsRelation : List Lexeme → Cursor → Outcome Expr → Type 0 where
    relation : {ts : List Lexeme} {s t : Cursor} {a : Expr} {o : Outcome Expr} → ReadsChain ts level.Add s (read a t)
        → ReadsTail ts t a o → ReadsRelation ts s o
    relation_halts : {ts : List Lexeme} {s : Cursor} {f : Stop} {n : ℕ} → ReadsChain ts level.Add s (halt f n)
        → ReadsRelation ts s (halt f n)

  -- the rest of a relation behind its left side
  pub data ReadsTail : List Lexeme → Cursor → Expr → Outcome Expr → Type 0 where
    no_tail : {ts : List Lexeme} {s : Cursor} {a : Expr} → LacksTail ts s.at → ReadsTail ts s a (read a s)
    compare : {ts : List Lexeme} {s t : Cursor} {a b : Expr} {p : Place} {r : Operator}
        → IsOperator ts s.at p level.Relation r → ReadsChain ts level.Add (past s) (read b t)
        → ReadsTail ts s a (read (joined r p a b) t)
    compare_halts : {ts : List Lexeme} {s : Cursor} {a : Expr} {p : Place} {r : Operator} {f : Stop} {n : ℕ}
        → IsOperator ts s.at p level.Relation r → ReadsChain ts level.Add (past s) (halt f n)
        → ReadsTail ts s a (halt f n)
    has : {ts : List Lexeme} {s t : Cursor} {a : Expr} {p : Place} {ns : List (List ℕ)}
        → Is ts s.at p (Word (codes "has")) → ReadsNames ts (past s) (read ns t)
        → ReadsTail ts s a (read (expr.Has p a ns) t)
    has_halts : {ts : List Lexeme} {s : Cursor} {a : Expr} {p : Place} {f : Stop} {n : ℕ}
        → Is ts s.at p (Word (codes "has")) → ReadsNames ts (past s) (halt f n) → ReadsTail ts s a (halt f n)
    like : {ts : List Lexeme} {s t : Cursor} {a : Expr} {p : Place} {w : List ℕ} {parts : List Part}
        → Is ts s.at p (Word (codes "like")) → ReadsString ts (past s) (read (w, parts) t)
        → ReadsTail ts s a (read (expr.Like p a parts) t)
    like_halts : {ts : List Lexeme} {s : Cursor} {a : Expr} {p : Place} {f : Stop} {n : ℕ}
        → Is ts s.at p (Word (codes "like")) → ReadsString ts (past s) (halt f n) → ReadsTail ts s a (halt f n)
    is_halts : {ts : List Lexeme} {s : Cursor} {a : Expr} {p : Place} {f : Stop} {n : ℕ}
        → Is ts s.at p (Word (codes "is")) → ReadsPath ts (past s) (halt f n) → ReadsTail ts s a (halt f n)
    is_type : {ts : List Lexeme} {s t : Cursor} {a : Expr} {p : Place} {y : TypeName}
        → Is ts s.at p (Word (codes "is")) → ReadsPath ts (past s) (read y t) → Lacks ts t.at (Word (codes "in"))
        → ReadsTail ts s a (read (expr.Is p a y) t)
    is_in_halts : {ts : List Lexeme} {s t : Cursor} {a : Expr} {p q : Place} {y : TypeName} {f : Stop} {n : ℕ}
        → Is ts s.at p (Word (codes "is")) → ReadsPath ts (past s) (read y t) → Is ts t.at q (Word (codes "in"))
        → ReadsChain ts level.Add (past t) (halt f n) → ReadsTail ts s a (halt f n)
    is_in : {ts : List Lexeme} {s t u : Cursor} {a b : Expr} {p q : Place} {y : TypeName}
        → Is ts s.at p (Word (codes "is")) → ReadsPath ts (past s) (read y t) → Is ts t.at q (Word (codes "in"))
        → ReadsChain ts level.Add (past t) (read b u) → ReadsTail ts s a (read (expr.IsIn p a y q b) u)

  -- up to four prefixes of one kind, and what they stand before
  pub data ReadsUnary : List Lexeme → Cursor → Outcome Expr → Type 0 where
    no_prefix : {ts : List Lexeme} {s : Cursor} {o : Outcome Expr} → LacksPrefix ts s.at → ReadsMember ts s o
        → ReadsUnary ts s o
    prefixes : {ts : List Lexeme} {s : Cursor} {p : Place} {r : UnaryOperator} {o : Outcome Expr}
        → IsPrefix ts s.at p r → ReadsPrefixes ts r 4 s o → ReadsUnary ts s o

  -- at most so many prefixes of this kind, and what they stand before
  pub data ReadsPrefixes : List Lexeme → UnaryOperator → ℕ → Cursor → Outcome Expr → Type 0 where
    prefixes_spent : {ts : List Lexeme} {r : UnaryOperator} {m : ℕ} {s : Cursor} {o : Outcome Expr} → m ≡ 0
        → ReadsMember ts s o → ReadsPrefixes ts r m s o
    prefixes_end : {ts : List Lexeme} {r : UnaryOperator} {m : ℕ} {s : Cursor} {o : Outcome Expr} → 0 < m
        → LacksThisPrefix ts s.at r → ReadsMember ts s o → ReadsPrefixes ts r m s o
    prefix_deep : {ts : List Lexeme} {r : UnaryOperator} {m : ℕ} {s : Cursor} {p : Place} → 0 < m
        → IsPrefix ts s.at p r → fits s ≡ false → ReadsPrefixes ts r m s (halt stop.TooDeep s.at)
    least_deep : {ts : List Lexeme} {m : ℕ} {s : Cursor} {p : Place} → 0 < m → IsLeast ts s.at p → fits s ≡ true
        → fits (past s) ≡ false → ReadsPrefixes ts unary.Negate m s (halt stop.TooDeep (s.at + 1))
    least : {ts : List Lexeme} {m : ℕ} {s : Cursor} {p : Place} {o : Outcome Expr} → 0 < m → IsLeast ts s.at p
        → fits s ≡ true → fits (past s) ≡ true
        → ReadsAccesses ts (next (past s)) (expr.Literal p (literal.Long least_long)) o
        → ReadsPrefixes ts unary.Negate m s o
    prefix_halts : {ts : List Lexeme} {r : UnaryOperator} {m : ℕ} {s : Cursor} {p : Place} {f : Stop} {n : ℕ} → 0 < m
        → IsPrefix ts s.at p r → fits s ≡ true → LacksLeast ts s.at r → ReadsPrefixes ts r (m - 1) (past s) (halt f n)
        → ReadsPrefixes ts r m s (halt f n)
    prefix : {ts : List Lexeme} {r : UnaryOperator} {m : ℕ} {s t : Cursor} {p : Place} {x : Expr} → 0 < m
        → IsPrefix ts s.at p r → fits s ≡ true → LacksLeast ts s.at r → ReadsPrefixes ts r (m - 1) (past s) (read x t)
        → ReadsPrefixes ts r m s (read (expr.Unary p r x) t)

  -- a primary expression with accesses and method calls
  pub data ReadsMember : List Lexeme → Cursor → Outcome Expr → Type 0 where
    member : {ts : List Lexeme} {s t : Cursor} {a : Expr} {o : Outcome Expr} → ReadsPrimary ts s (read a t)
        → ReadsAccesses ts t a o → ReadsMember ts s o
    member_halts : {ts : List Lexeme} {s : Cursor} {f : Stop} {n : ℕ} → ReadsPrimary ts s (halt f n)
        → ReadsMember ts s (halt f n)

  -- accesses and method calls behind what stands before them
  pub data ReadsAccesses : List Lexeme → Cursor → Expr → Outcome Expr → Type 0 where
    no_access : {ts : List Lexeme} {s : Cursor} {a : Expr} → LacksAccess ts s.at → ReadsAccesses ts s a (read a s)
    index_halts : {ts : List Lexeme} {s : Cursor} {a : Expr} {p : Place} {f : Stop} {n : ℕ}
        → Is ts s.at p (Sign kind.OpenBracket) → ReadsString ts (past s) (halt f n) → ReadsAccesses ts s a (halt f n)
    index_unclosed : {ts : List Lexeme} {s t : Cursor} {a : Expr} {p : Place} {w : List ℕ} {parts : List Part}
        → Is ts s.at p (Sign kind.OpenBracket) → ReadsString ts (past s) (read (w, parts) t)
        → Lacks ts t.at (Sign kind.CloseBracket) → ReadsAccesses ts s a (halt stop.Unexpected t.at)
    index : {ts : List Lexeme} {s t : Cursor} {a : Expr} {p q : Place} {w : List ℕ} {parts : List Part}
        {o : Outcome Expr} → Is ts s.at p (Sign kind.OpenBracket) → ReadsString ts (past s) (read (w, parts) t)
        → Is ts t.at q (Sign kind.CloseBracket) → ReadsAccesses ts (next t) (expr.Access p a w) o
        → ReadsAccesses ts s a o
    dot_halts : {ts : List Lexeme} {s : Cursor} {a : Expr} {p : Place} {f : Stop} {n : ℕ}
        → Is ts s.at p (Sign kind.Dot) → ReadsIdent ts (past s) (halt f n) → ReadsAccesses ts s a (halt f n)
    access : {ts : List Lexeme} {s t : Cursor} {a : Expr} {p q : Place} {w : List ℕ} {o : Outcome Expr}
        → Is ts s.at p (Sign kind.Dot) → ReadsIdent ts (past s) (read (q, w) t)
        → Lacks ts t.at (Sign kind.OpenParenthesis) → ReadsAccesses ts t (expr.Access p a w) o → ReadsAccesses ts s a o
    arguments_halt : {ts : List Lexeme} {s t : Cursor} {a : Expr} {p q r : Place} {w : List ℕ} {f : Stop} {n : ℕ}
        → Is ts s.at p (Sign kind.Dot) → ReadsIdent ts (past s) (read (q, w) t)
        → Is ts t.at r (Sign kind.OpenParenthesis) → ReadsItems ts close.Parenthesis (next t) [] (halt f n)
        → ReadsAccesses ts s a (halt f n)
    no_method : {ts : List Lexeme} {s t u : Cursor} {a : Expr} {p q r : Place} {w : List ℕ} {xs : List Expr}
        → Is ts s.at p (Sign kind.Dot) → ReadsIdent ts (past s) (read (q, w) t)
        → Is ts t.at r (Sign kind.OpenParenthesis) → ReadsItems ts close.Parenthesis (next t) [] (read xs u)
        → called p a w xs ≡ None → ReadsAccesses ts s a (halt stop.BadCall u.at)
    method : {ts : List Lexeme} {s t u : Cursor} {a x : Expr} {p q r : Place} {w : List ℕ} {xs : List Expr}
        {o : Outcome Expr} → Is ts s.at p (Sign kind.Dot) → ReadsIdent ts (past s) (read (q, w) t)
        → Is ts t.at r (Sign kind.OpenParenthesis) → ReadsItems ts close.Parenthesis (next t) [] (read xs u)
        → called p a w xs ≡ Some x → ReadsAccesses ts (next u) x o → ReadsAccesses ts s a o

  -- what has no operator
  pub data ReadsPrimary : List Lexeme → Cursor → Outcome Expr → Type 0 where
    no_primary : {ts : List Lexeme} {s : Cursor} → LacksStart ts s.at → ReadsPrimary ts s (halt stop.Unexpected s.at)
    primary_deep : {ts : List Lexeme} {s : Cursor} → IsStart ts s.at → fits s ≡ false
        → ReadsPrimary ts s (halt stop.TooDeep s.at)
    truth : {ts : List Lexeme} {s : Cursor} {p : Place} → Is ts s.at p (Word (codes "true")) → fits s ≡ true
        → ReadsPrimary ts s (read (expr.Literal p (literal.Bool true)) (next s))
    falsehood : {ts : List Lexeme} {s : Cursor} {p : Place} → Is ts s.at p (Word (codes "false")) → fits s ≡ true
        → ReadsPrimary ts s (read (expr.Literal p (literal.Bool false)) (next s))
    number : {ts : List Lexeme} {s : Cursor} {p : Place} {ds : List ℕ} → Is ts s.at p (Number ds) → fits s ≡ true
        → is_long (digits_value 10 ds) ≡ true
        → ReadsPrimary ts s (read (expr.Literal p (literal.Long (pos (digits_value 10 ds)))) (next s))
    number_large : {ts : List Lexeme} {s : Cursor} {p : Place} {ds : List ℕ} → Is ts s.at p (Number ds)
        → fits s ≡ true → is_long (digits_value 10 ds) ≡ false → ReadsPrimary ts s (halt stop.IntRange s.at)
    text : {ts : List Lexeme} {s : Cursor} {p : Place} {w : List ℕ} {parts : List Part}
        → Is ts s.at p (String w parts) → fits s ≡ true
        → ReadsPrimary ts s (read (expr.Literal p (literal.String w)) (next s))
    variable : {ts : List Lexeme} {s : Cursor} {p : Place} {w : List ℕ} {x : Variable} → Is ts s.at p (Word w)
        → variable_of w ≡ Some x → fits s ≡ true → Lacks ts (s.at + 1) (Sign kind.DoubleColon)
        → ReadsPrimary ts s (read (expr.Variable p x) (next s))
    entity_primary : {ts : List Lexeme} {s t : Cursor} {p q : Place} {w : List ℕ} {y : EntityLiteral}
        → IsIdent ts s.at p w → fits s ≡ true → Is ts (s.at + 1) q (Sign kind.DoubleColon)
        → ReadsMoreEntity ts (next s) p w (read y t)
        → ReadsPrimary ts s (read (expr.Literal y.place (literal.Entity y.uid)) t)
    entity_primary_halts : {ts : List Lexeme} {s : Cursor} {p q : Place} {w : List ℕ} {f : Stop} {n : ℕ}
        → IsIdent ts s.at p w → fits s ≡ true → Is ts (s.at + 1) q (Sign kind.DoubleColon)
        → ReadsMoreEntity ts (next s) p w (halt f n) → ReadsPrimary ts s (halt f n)
    lone_ident : {ts : List Lexeme} {s : Cursor} {p : Place} {w : List ℕ} → IsIdent ts s.at p w → variable_of w ≡ None
        → fits s ≡ true → Lacks ts (s.at + 1) (Sign kind.DoubleColon)
        → Lacks ts (s.at + 1) (Sign kind.OpenParenthesis) → ReadsPrimary ts s (halt stop.Unexpected (s.at + 1))
    function_halts : {ts : List Lexeme} {s : Cursor} {p q : Place} {w : List ℕ} {f : Stop} {n : ℕ}
        → IsIdent ts s.at p w → variable_of w ≡ None → fits s ≡ true → Is ts (s.at + 1) q (Sign kind.OpenParenthesis)
        → ReadsItems ts close.Parenthesis (next (next s)) [] (halt f n) → ReadsPrimary ts s (halt f n)
    no_function : {ts : List Lexeme} {s t : Cursor} {p q : Place} {w : List ℕ} {xs : List Expr} → IsIdent ts s.at p w
        → variable_of w ≡ None → fits s ≡ true → Is ts (s.at + 1) q (Sign kind.OpenParenthesis)
        → ReadsItems ts close.Parenthesis (next (next s)) [] (read xs t) → applied p w xs ≡ None
        → ReadsPrimary ts s (halt stop.BadCall t.at)
    function : {ts : List Lexeme} {s t : Cursor} {p q : Place} {w : List ℕ} {xs : List Expr} {x : Expr}
        → IsIdent ts s.at p w → variable_of w ≡ None → fits s ≡ true → Is ts (s.at + 1) q (Sign kind.OpenParenthesis)
        → ReadsItems ts close.Parenthesis (next (next s)) [] (read xs t) → applied p w xs ≡ Some x
        → ReadsPrimary ts s (read x (next t))
    parenthesis : {ts : List Lexeme} {s : Cursor} {p : Place} {o : Outcome Expr}
        → Is ts s.at p (Sign kind.OpenParenthesis) → fits s ≡ true → ReadsEnclosed ts close.Parenthesis (next s) o
        → ReadsPrimary ts s o
    set_halts : {ts : List Lexeme} {s : Cursor} {p : Place} {f : Stop} {n : ℕ} → Is ts s.at p (Sign kind.OpenBracket)
        → fits s ≡ true → ReadsItems ts close.Bracket (next s) [] (halt f n) → ReadsPrimary ts s (halt f n)
    set : {ts : List Lexeme} {s t : Cursor} {p : Place} {xs : List Expr} → Is ts s.at p (Sign kind.OpenBracket)
        → fits s ≡ true → ReadsItems ts close.Bracket (next s) [] (read xs t)
        → ReadsPrimary ts s (read (expr.Set p xs) (next t))
    record_halts : {ts : List Lexeme} {s : Cursor} {p : Place} {f : Stop} {n : ℕ} → Is ts s.at p (Sign kind.OpenBrace)
        → fits s ≡ true → ReadsFields ts (next s) [] (halt f n) → ReadsPrimary ts s (halt f n)
    fields : {ts : List Lexeme} {s t : Cursor} {p : Place} {fs : List (List ℕ × Expr)}
        → Is ts s.at p (Sign kind.OpenBrace) → fits s ≡ true → ReadsFields ts (next s) [] (read fs t)
        → ReadsPrimary ts s (read (expr.Record p fs) (next t))

  -- the items of a list behind those so far, up to the token that ends it; a comma may stand before that token
  pub data ReadsItems : List Lexeme → Close → Cursor → List Expr → Outcome (List Expr) → Type 0 where
    items_end : {ts : List Lexeme} {c : Close} {s : Cursor} {p : Place} {xs : List Expr} → Is ts s.at p (closing c)
        → ReadsItems ts c s xs (read xs s)
    item_halts : {ts : List Lexeme} {c : Close} {s : Cursor} {xs : List Expr} {f : Stop} {n : ℕ}
        → Lacks ts s.at (closing c) → ReadsInner ts s (halt f n) → ReadsItems ts c s xs (halt f n)
    last_item : {ts : List Lexeme} {c : Close} {s t : Cursor} {p : Place} {xs : List Expr} {x : Expr}
        → Lacks ts s.at (closing c) → ReadsInner ts s (read x t) → Is ts t.at p (closing c)
        → ReadsItems ts c s xs (read (xs ++ x ∷ []) t)
    no_comma : {ts : List Lexeme} {c : Close} {s t : Cursor} {xs : List Expr} {x : Expr} → Lacks ts s.at (closing c)
        → ReadsInner ts s (read x t) → Lacks ts t.at (closing c) → Lacks ts t.at (Sign kind.Comma)
        → ReadsItems ts c s xs (halt stop.Unexpected t.at)
    more_items : {ts : List Lexeme} {c : Close} {s t : Cursor} {p : Place} {xs : List Expr} {x : Expr}
        {o : Outcome (List Expr)} → Lacks ts s.at (closing c) → ReadsInner ts s (read x t)
        → Is ts t.at p (Sign kind.Comma) → ReadsItems ts c (next t) (xs ++ x ∷ []) o → ReadsItems ts c s xs o

  -- the fields of a record behind those so far, up to the brace that ends it; a comma may stand before it
  pub data ReadsFields : List Lexeme → Cursor → List (List ℕ × Expr) → Outcome (List (List ℕ × Expr)) → Type 0 where
    fields_end : {ts : List Lexeme} {s : Cursor} {p : Place} {fs : List (List ℕ × Expr)}
        → Is ts s.at p (Sign kind.CloseBrace) → ReadsFields ts s fs (read fs s)
    key_halts : {ts : List Lexeme} {s : Cursor} {fs : List (List ℕ × Expr)} {f : Stop} {n : ℕ}
        → Lacks ts s.at (Sign kind.CloseBrace) → ReadsKey ts s fs (halt f n) → ReadsFields ts s fs (halt f n)
    no_colon : {ts : List Lexeme} {s t : Cursor} {fs : List (List ℕ × Expr)} {w : List ℕ}
        → Lacks ts s.at (Sign kind.CloseBrace) → ReadsKey ts s fs (read w t) → Lacks ts t.at (Sign kind.Colon)
        → ReadsFields ts s fs (halt stop.Unexpected t.at)
    field_halts : {ts : List Lexeme} {s t : Cursor} {p : Place} {fs : List (List ℕ × Expr)} {w : List ℕ} {f : Stop}
        {n : ℕ} → Lacks ts s.at (Sign kind.CloseBrace) → ReadsKey ts s fs (read w t) → Is ts t.at p (Sign kind.Colon)
        → ReadsInner ts (next t) (halt f n) → ReadsFields ts s fs (halt f n)
    last_field : {ts : List Lexeme} {s t u : Cursor} {p q : Place} {fs : List (List ℕ × Expr)} {w : List ℕ} {x : Expr}
        → Lacks ts s.at (Sign kind.CloseBrace) → ReadsKey ts s fs (read w t) → Is ts t.at p (Sign kind.Colon)
        → ReadsInner ts (next t) (read x u) → Is ts u.at q (Sign kind.CloseBrace)
        → ReadsFields ts s fs (read (fs ++ (w, x) ∷ []) u)
    no_field_comma : {ts : List Lexeme} {s t u : Cursor} {p : Place} {fs : List (List ℕ × Expr)} {w : List ℕ}
        {x : Expr} → Lacks ts s.at (Sign kind.CloseBrace) → ReadsKey ts s fs (read w t)
        → Is ts t.at p (Sign kind.Colon) → ReadsInner ts (next t) (read x u) → Lacks ts u.at (Sign kind.CloseBrace)
        → Lacks ts u.at (Sign kind.Comma) → ReadsFields ts s fs (halt stop.Unexpected u.at)
    more_fields : {ts : List Lexeme} {s t u : Cursor} {p q : Place} {fs : List (List ℕ × Expr)} {w : List ℕ}
        {x : Expr} {o : Outcome (List (List ℕ × Expr))} → Lacks ts s.at (Sign kind.CloseBrace)
        → ReadsKey ts s fs (read w t) → Is ts t.at p (Sign kind.Colon) → ReadsInner ts (next t) (read x u)
        → Is ts u.at q (Sign kind.Comma) → ReadsFields ts (next u) (fs ++ (w, x) ∷ []) o → ReadsFields ts s fs o
