-- The productions as programs: each looks at tokens in the order of the text, and goes on where its operator comes.
use Rattle.std.specs.Prelude.{◌-◌, ℕ, List, [], ◌∷◌, ◌++◌, length, codes, true, false, not, pos, nat_lt}
use Rattle.std.specs.Str.Parse.{digits_value}
use Rattle.sc_ast.specs.declared.place.Place.{Place}
use Rattle.sc_ast.specs.declared.expr.Expr.{Expr}
use Rattle.sc_ast.specs.declared.expr.Expr.TheVariants as expr
use Rattle.sc_ast.specs.declared.literal.EntityLiteral.{EntityLiteral}
use Rattle.sc_ast.specs.declared.literal.Literal.TheVariants as literal
use Rattle.sc_ast.specs.declared.scope.Constraint.TheVariants as constraint
use Rattle.sc_ast.specs.declared.scope.ActionConstraint.TheVariants as action
use Rattle.sc_lexer.specs.declared.token.Kind.TheVariants as kind
use Rattle.sc_lexemes.specs.declared.lexeme.Shape.TheVariants.{Word, Sign}
use Rattle.sc_lexemes.specs.declared.operator.Close.TheVariants as close
use Rattle.sc_lexemes.specs.declared.operator.Level.{Level}
use Rattle.sc_lexemes.specs.declared.operator.Level.TheVariants as level
use Rattle.sc_lexemes.specs.declared.stop.Stop.TheVariants as stop
use Rattle.sc_lexemes.specs.Depth.{fits}
use Rattle.sc_lexemes.specs.Lexemes.{closing}
use Rattle.sc_lexemes.specs.Tables.{joined, called, applied, has_key, is_long, least_long}
use Rattle.sc_parser.proofs.Sorts.{Sort}
use Rattle.sc_parser.proofs.Sorts as sort
use Rattle.sc_parser.proofs.Nonterminals.{Nonterminal}
use Rattle.sc_parser.proofs.Nonterminals as n
use Rattle.sc_parser.proofs.Tests as test
use Rattle.sc_parser.proofs.Programs.{Program, done, fail, look, go, guard, call, to_next, to_past, here, within, as_clause, as_policy}

-- the token may lie so deep
abbrev pub if_fits : {c : Sort} → Program c → Program c
if_fits p = guard stop.TooDeep fits p

-- the key isn't there yet
abbrev pub if_new : {c : Sort} → List ℕ → List (List ℕ × Expr) → Program c → Program c
if_new w fs p = guard stop.DuplicateKey (λ s. not (has_key w fs)) p

-- an argument's name, or a call; of a call that there isn't something is made up
abbrev pub argued : Place → List ℕ → List Expr → Program sort.tree
argued p w xs = look (test.call (applied p w xs)) (λ y. go to_next (done y)) (guard stop.BadCall (λ s. false) (go to_next (done (expr.Set p xs))))

-- behind the identifier that a primary expression begins with
abbrev pub after_ident : Place → List ℕ → Program sort.tree
after_ident p w =
    look (test.shaped (Sign kind.DoubleColon)) (λ q. call here (n.more_entity p w) (λ y. done (expr.Literal y.place (literal.Entity y.uid))))
    (look (test.variable w) (λ x. done (expr.Variable p x))
    (look (test.shaped (Sign kind.OpenParenthesis)) (λ q. go to_next (call here (n.items close.Parenthesis []) (λ xs. argued p w xs)))
    fail))

-- a primary expression by its first token
abbrev pub by_ident : Program sort.tree
by_ident = look test.ident (λ x. go to_next (after_ident x.0 x.1)) fail

abbrev pub by_brace : Program sort.tree
by_brace = look (test.shaped (Sign kind.OpenBrace)) (λ p. go to_next (call here (n.fields []) (λ fs. go to_next (done (expr.Record p fs))))) by_ident

abbrev pub by_bracket : Program sort.tree
by_bracket = look (test.shaped (Sign kind.OpenBracket)) (λ p. go to_next (call here (n.items close.Bracket []) (λ xs. go to_next (done (expr.Set p xs))))) by_brace

abbrev pub by_parenthesis : Program sort.tree
by_parenthesis = look (test.shaped (Sign kind.OpenParenthesis)) (λ p. go to_next (call here (n.enclosed close.Parenthesis) done)) by_bracket

abbrev pub by_string : Program sort.tree
by_string = look test.string (λ x. go to_next (done (expr.Literal x.0 (literal.String x.1)))) by_parenthesis

abbrev pub by_number : Program sort.tree
by_number = look test.number (λ x. guard stop.IntRange (λ s. is_long (digits_value 10 x.1)) (go to_next (done (expr.Literal x.0 (literal.Long (pos (digits_value 10 x.1))))))) by_string

abbrev pub by_false : Program sort.tree
by_false = look (test.shaped (Word (codes "false"))) (λ p. go to_next (done (expr.Literal p (literal.Bool false)))) by_number

abbrev pub by_true : Program sort.tree
by_true = look (test.shaped (Word (codes "true"))) (λ p. go to_next (done (expr.Literal p (literal.Bool true)))) by_false

-- behind the name after a dot
abbrev pub after_name : Expr → Place → List ℕ → Program sort.tree
after_name a p w =
    look (test.shaped (Sign kind.OpenParenthesis)) (λ q. go to_next (call here (n.items close.Parenthesis []) (λ xs.
    look (test.call (called p a w xs)) (λ y. go to_next (call here (n.accesses y) done)) (guard stop.BadCall (λ s. false) (go to_next (call here (n.accesses a) done))))))
    (call here (n.accesses (expr.Access p a w)) done)

abbrev pub operand_program : Level → Program sort.tree
operand_program level.Or = call here (n.chain level.And) done
operand_program level.And = call here n.relation done
operand_program level.Relation = fail
operand_program level.Add = call here (n.chain level.Multiply) done
operand_program level.Multiply = call here n.unary done

-- stands for what a slot would
pub some_uid : EntityLiteral
some_uid = record { place = record { offset = 0 }; uid = record { type_name = []; id = [] } }

abbrev pub production : {c : Sort} → Nonterminal c → Program c
production n.ident = look test.ident (λ x. if_fits (go to_next (done x))) fail
production n.string = look test.string (λ x. if_fits (go to_next (done (x.1, x.2)))) fail
production (n.more_names ns) = look (test.shaped (Sign kind.Dot)) (λ p. go to_past (call here n.ident (λ x. call here (n.more_names (ns ++ x.1 ∷ [])) done))) (done ns)
production n.names = look test.string (λ x. if_fits (go to_next (done (x.1 ∷ [])))) (call here n.ident (λ x. call here (n.more_names (x.1 ∷ [])) done))
production (n.more_path w) = look (test.shaped (Sign kind.DoubleColon)) (λ p. go to_next (call here n.ident (λ x. call here (n.more_path (w ++ (codes "::" ++ x.1))) done))) (done w)
production n.path = call here n.ident (λ x. call here (n.more_path x.1) (λ w. done (record { place = x.0; name = w })))
production (n.more_entity p w) =
    look (test.shaped (Sign kind.DoubleColon)) (λ q. go to_next
    (look test.string (λ x. go to_next (done (record { place = p; uid = record { type_name = w; id = x.1 } })))
    (call here n.ident (λ x. call here (n.more_entity p (w ++ (codes "::" ++ x.1))) done))))
    fail
production n.entity = call here n.ident (λ x. call here (n.more_entity x.0 x.1) done)
production (n.key fs) = look test.ident (λ x. if_fits (if_new x.1 fs (go to_next (done x.1)))) (look test.string (λ x. if_fits (if_new x.1 fs (go to_next (done x.1)))) fail)
production n.expression =
    look (test.shaped (Word (codes "if"))) (λ p. if_fits (go to_next (call here (n.enclosed close.Then) (λ c. call here (n.enclosed close.Else) (λ a. call here n.inner (λ b. done (expr.If p c a b)))))))
    (call here (n.chain level.Or) done)
production n.inner = call within n.expression done
production (n.enclosed c) = call here n.inner (λ x. look (test.shaped (closing c)) (λ p. go to_next (done x)) fail)
production (n.chain l) = call here (n.operand l) (λ a. call here (n.more l a) done)
production (n.more l a) = look (test.operator l) (λ x. go to_past (call here (n.operand l) (λ b. call here (n.more l (joined x.1 x.0 a b)) done))) (done a)
production (n.operand l) = operand_program l
production n.relation = call here (n.chain level.Add) (λ a. call here (n.tail a) done)
production (n.tail a) =
    look (test.operator level.Relation) (λ x. go to_past (call here (n.chain level.Add) (λ b. done (joined x.1 x.0 a b))))
    (look (test.shaped (Word (codes "has"))) (λ p. go to_past (call here n.names (λ ns. done (expr.Has p a ns))))
    (look (test.shaped (Word (codes "like"))) (λ p. go to_past (call here n.string (λ x. done (expr.Like p a x.1))))
    (look (test.shaped (Word (codes "is"))) (λ p. go to_past (call here n.path (λ y.
    look (test.shaped (Word (codes "in"))) (λ q. go to_past (call here (n.chain level.Add) (λ b. done (expr.IsIn p a y q b))))
    (done (expr.Is p a y)))))
    (done a))))
production n.unary = look test.prefix (λ x. call here (n.prefixes x.1 4) done) (call here n.member done)
production (n.prefixes r m) =
    look (test.is_zero m) (λ x. call here n.member done)
    (look (test.this_prefix r) (λ p. if_fits (go to_past
    (look (test.least r) (λ x. if_fits (go to_next (call here (n.accesses (expr.Literal p (literal.Long least_long))) done)))
    (call here (n.prefixes r (m - 1)) (λ x. done (expr.Unary p r x))))))
    (call here n.member done))
production n.member = call here n.primary (λ a. call here (n.accesses a) done)
production (n.accesses a) =
    look (test.shaped (Sign kind.Dot)) (λ p. go to_past (call here n.ident (λ x. after_name a p x.1)))
    (look (test.shaped (Sign kind.OpenBracket)) (λ p. go to_past (call here n.string (λ x.
    look (test.shaped (Sign kind.CloseBracket)) (λ q. go to_next (call here (n.accesses (expr.Access p a x.0)) done)) fail)))
    (done a))
production n.primary = look test.start (λ x. if_fits by_true) fail
production (n.items c xs) =
    look (test.shaped (closing c)) (λ p. done xs) (call here n.inner (λ x.
    look (test.shaped (closing c)) (λ p. done (xs ++ x ∷ []))
    (look (test.shaped (Sign kind.Comma)) (λ p. go to_next (call here (n.items c (xs ++ x ∷ [])) done)) fail)))
production (n.fields fs) =
    look (test.shaped (Sign kind.CloseBrace)) (λ p. done fs) (call here (n.key fs) (λ w.
    look (test.shaped (Sign kind.Colon)) (λ p. go to_next (call here n.inner (λ x.
    look (test.shaped (Sign kind.CloseBrace)) (λ q. done (fs ++ (w, x) ∷ []))
    (look (test.shaped (Sign kind.Comma)) (λ q. go to_next (call here (n.fields (fs ++ (w, x) ∷ [])) done)) fail))))
    fail))
production n.head =
    look (test.shaped (Sign kind.At)) (λ p. go to_next (look test.word (λ w. go to_next
    (look (test.shaped (Sign kind.OpenParenthesis)) (λ q. go to_next (look test.string (λ t. go to_next (look (test.shaped (Sign kind.CloseParenthesis)) (λ r. go to_next (call here n.head done)) fail)) fail))
    (call here n.head done)))
    fail))
    (look test.effect (λ x. go to_next (done x)) fail)
production n.slot = look (test.shaped (Sign kind.Question)) (λ p. guard stop.Template (λ s. false) (go to_next (done some_uid))) (call here n.entity done)
production n.asked =
    look (test.shaped (Sign kind.Equal)) (λ p. go to_next (call here n.slot (λ e. done (constraint.Equal p e))))
    (look (test.shaped (Word (codes "in"))) (λ p. go to_next (call here n.slot (λ e. done (constraint.In p e))))
    (look (test.shaped (Word (codes "is"))) (λ p. go to_next (call here n.path (λ y.
    look (test.shaped (Word (codes "in"))) (λ q. go to_next (call here n.slot (λ e. done (constraint.IsIn p y q e))))
    (done (constraint.Is p y)))))
    (done constraint.Any)))
production (n.entities es) =
    look (test.shaped (Sign kind.CloseBracket)) (λ p. done es) (call here n.entity (λ e.
    look (test.shaped (Sign kind.CloseBracket)) (λ p. done (es ++ e ∷ []))
    (look (test.shaped (Sign kind.Comma)) (λ p. go to_next (call here (n.entities (es ++ e ∷ [])) done)) fail)))
production n.asked_of_action =
    look (test.shaped (Sign kind.Equal)) (λ p. go to_next (call here n.entity (λ e. done (action.Equal p e))))
    (look (test.shaped (Word (codes "in"))) (λ p. go to_next
    (look (test.shaped (Sign kind.OpenBracket)) (λ q. go to_next (call here (n.entities []) (λ es. go to_next (done (action.InAny p q es)))))
    (call here n.entity (λ e. done (action.In p e)))))
    (done action.Any))
production (n.scope_part w) = look (test.shaped (Word w)) (λ p. go to_next (call here n.asked (λ c. done (record { place = p; constraint = c })))) fail
production n.principal_part = call here (n.scope_part (codes "principal")) (λ x. look (test.shaped (Sign kind.Comma)) (λ p. go to_next (done x)) fail)
production n.action_part = look (test.shaped (Word (codes "action"))) (λ p. go to_next (call here n.asked_of_action (λ c. look (test.shaped (Sign kind.Comma)) (λ q. go to_next (done (record { place = p; constraint = c }))) fail))) fail
production n.resource_part = call here (n.scope_part (codes "resource")) (λ x.
    look (test.shaped (Sign kind.CloseParenthesis)) (λ p. go to_next (done x))
    (look (test.shaped (Sign kind.Comma)) (λ p. go to_next (look (test.shaped (Sign kind.CloseParenthesis)) (λ q. go to_next (done x)) fail)) fail))
production n.whole_scope = look (test.shaped (Sign kind.OpenParenthesis)) (λ p. go to_next (call here n.principal_part (λ x. call here n.action_part (λ y. call here n.resource_part (λ z. done (record { principal = x; action = y; resource = z })))))) fail
production (n.clauses cs) =
    look test.clause (λ x. go to_next (look (test.shaped (Sign kind.OpenBrace)) (λ q. go to_next (call as_clause (n.enclosed close.Brace) (λ b. call here (n.clauses (cs ++ record { place = x.0; kind = x.1; body = b } ∷ [])) done))) fail))
    (done cs)
production n.policy = call here n.head (λ h. call here n.whole_scope (λ x. call here (n.clauses []) (λ cs.
    look (test.shaped (Sign kind.Semicolon)) (λ p. go to_next (done (record { place = h.0; effect = h.1; principal = x.principal; action = x.action; resource = x.resource; conditions = cs }))) fail)))
production (n.policies ps) =
    look test.end (λ x. done ps) (look test.policy_start (λ x. guard stop.TooManyPolicies (λ s. nat_lt (length ps) 10000) (call as_policy n.policy (λ y. call here (n.policies (ps ++ y ∷ [])) done))) fail)
