-- The tokens of a line spell its policy.
use Rattle.std.proofs.Common.{◌≡◌, ℕ, ◌+◌, List, [], ◌∷◌, codes, slice_get, drop, pos, true, refl, Some}
use Rattle.std.specs.Str.Parse.{digits_value}
use Rattle.sc_pattern.specs.declared.part.Part.{Part}
use Rattle.sc_ast.specs.declared.expr.Expr.{Expr}
use Rattle.sc_ast.specs.declared.expr.Expr.TheVariants as expr
use Rattle.sc_ast.specs.declared.expr.Variable.TheVariants as variable
use Rattle.sc_ast.specs.declared.literal.Literal.TheVariants as literal
use Rattle.sc_ast.specs.declared.operator.BinaryOperator.TheVariants as binary
use Rattle.sc_ast.specs.declared.place.Place.{Place}
use Rattle.sc_ast.specs.declared.scope.ActionConstraint.TheVariants as action
use Rattle.sc_ast.specs.declared.scope.Constraint.TheVariants as constraint
use Rattle.sc_ast.specs.declared.policy.ConditionKind.TheVariants.{When}
use Rattle.sc_ast.specs.declared.policy.Effect.TheVariants.{Permit}
use Rattle.sc_lexer.specs.declared.token.Kind.TheVariants as kind
use Rattle.sc_lexemes.specs.declared.cursor.Cursor.{Cursor}
use Rattle.sc_lexemes.specs.declared.lexeme.Lexeme.{Lexeme}
use Rattle.sc_lexemes.specs.declared.lexeme.Shape.{Shape}
use Rattle.sc_lexemes.specs.declared.lexeme.Shape.TheVariants as shape
use Rattle.sc_lexemes.specs.declared.operator.Level.{Level}
use Rattle.sc_lexemes.specs.declared.operator.Level.TheVariants as level
use Rattle.sc_lexemes.specs.declared.operator.Operator.TheVariants as op
use Rattle.sc_lexemes.specs.Depth.{fits, outside}
use Rattle.sc_lexemes.specs.Lexemes.{Is, IsOperator}
use Rattle.sc_lexemes.specs.Tables.{is_long, operator_of, variable_of}
use Rattle.sc_parser.specs.Grammar.{Member, Operand, Chain, Relation, Expression}
use Rattle.sc_parser.specs.Grammar as grammar
use Rattle.sc_parser.specs.GrammarFiles.{OnePolicy}
use Rattle.sc_parser.specs.GrammarFiles as g
use Rattle.sc_parser.specs.Limits.{Limits, all_limits}
use Rattle.sc_parser.proofs.TestLaws.{other}
use Rattle.sc_generated_laws.specs.Lines.{body_of, policy_of}

-- ---- tokens that stand at a place

-- these tokens stand from place i on
pub data Stands (ts : List Lexeme) : ℕ → List Lexeme → Type 0 where
  none : {i : ℕ} → Stands ts i []
  more : {i : ℕ} {l : Lexeme} {ls : List Lexeme} → slice_get ts i ≡ Some l → Stands ts (i + 1) ls → Stands ts i (l ∷ ls)

first : {ts : List Lexeme} {i : ℕ} {l : Lexeme} {ls : List Lexeme} → Stands ts i (l ∷ ls) → slice_get ts i ≡ Some l
first (more h k) = h

others : {ts : List Lexeme} {i : ℕ} {l : Lexeme} {ls : List Lexeme} → Stands ts i (l ∷ ls) → Stands ts (i + 1) ls
others (more h k) = k

abbrev told : Place → Shape → Lexeme
told p s = record { place = p; shape = s }

-- the tokens of a line
abbrev pub line : (ℕ → Place) → List ℕ → List ℕ → List ℕ → List Part → List Lexeme → List Lexeme
line at c d id parts behind =
    told (at 0) (shape.Word (codes "permit"))
    ∷ told (at 1) (shape.Sign kind.OpenParenthesis)
    ∷ told (at 2) (shape.Word (codes "principal"))
    ∷ told (at 3) (shape.Sign kind.Comma)
    ∷ told (at 4) (shape.Word (codes "action"))
    ∷ told (at 5) (shape.Sign kind.Comma)
    ∷ told (at 6) (shape.Word (codes "resource"))
    ∷ told (at 7) (shape.Sign kind.CloseParenthesis)
    ∷ told (at 8) (shape.Word (codes "when"))
    ∷ told (at 9) (shape.Sign kind.OpenBrace)
    ∷ told (at 10) (shape.Word (codes "context"))
    ∷ told (at 11) (shape.Sign kind.Dot)
    ∷ told (at 12) (shape.Word (codes "n"))
    ∷ told (at 13) (shape.Sign kind.Plus)
    ∷ told (at 14) (shape.Number c)
    ∷ told (at 15) (shape.Sign kind.Greater)
    ∷ told (at 16) (shape.Number d)
    ∷ told (at 17) (shape.Sign kind.And)
    ∷ told (at 18) (shape.Word (codes "principal"))
    ∷ told (at 19) (shape.Word (codes "in"))
    ∷ told (at 20) (shape.Word (codes "Group"))
    ∷ told (at 21) (shape.Sign kind.DoubleColon)
    ∷ told (at 22) (shape.String id parts)
    ∷ told (at 23) (shape.Sign kind.CloseBrace)
    ∷ told (at 24) (shape.Sign kind.Semicolon) ∷ behind

-- ---- expressions of one operand

operand : {K : Limits} {ts : List Lexeme} {s t : Cursor} {x : Expr} → Member K ts s x t → Operand K ts level.Add s x t
operand m = grammar.operand_add (grammar.chain (grammar.operand_multiply (grammar.no_prefix m)) grammar.operands_end)

alone : {K : Limits} {ts : List Lexeme} {l : Level} {s t : Cursor} {x : Expr} → Operand K ts l s x t → Chain K ts l s x t
alone o = grammar.chain o grammar.operands_end

abbrev pub within : ℕ → ℕ → Cursor
within i depth = record { at = i; enclosing = 1; depth = depth }

plus : {ts : List Lexeme} {i : ℕ} {p : Place} → Is ts i p (shape.Sign kind.Plus) → IsOperator ts i p level.Add op.Add
unfolding operator_of
plus h = record { shape = shape.Sign kind.Plus; is = h; operator = refl; level = refl }

greater : {ts : List Lexeme} {i : ℕ} {p : Place} → Is ts i p (shape.Sign kind.Greater) → IsOperator ts i p level.Relation op.Greater
unfolding operator_of
greater h = record { shape = shape.Sign kind.Greater; is = h; operator = refl; level = refl }

both : {ts : List Lexeme} {i : ℕ} {p : Place} → Is ts i p (shape.Sign kind.And) → IsOperator ts i p level.And op.And
unfolding operator_of
both h = record { shape = shape.Sign kind.And; is = h; operator = refl; level = refl }

among : {ts : List Lexeme} {i : ℕ} {p : Place} → Is ts i p (shape.Word (codes "in")) → IsOperator ts i p level.Relation op.In
unfolding operator_of
among h = record { shape = shape.Word (codes "in"); is = h; operator = refl; level = refl }

context_is : variable_of (codes "context") ≡ Some variable.Context
unfolding variable_of
context_is = refl

principal_is : variable_of (codes "principal") ≡ Some variable.Principal
unfolding variable_of
principal_is = refl

number : {ts : List Lexeme} {i depth : ℕ} {p : Place} {ds : List ℕ} → Is ts i p (shape.Number ds) → is_long (digits_value 10 ds) ≡ true → fits (within i depth) ≡ true → Member all_limits ts (within i depth) (expr.Literal p (literal.Long (pos (digits_value 10 ds)))) (within (i + 1) depth)
number h long fit = grammar.member (grammar.number h (λ k. fit) (λ k. long)) grammar.no_access

-- context.n + C
sum_of : {ts : List Lexeme} {i : ℕ} (at : ℕ → Place) (c d id : List ℕ) (parts : List Part) (rest : List Lexeme) → is_long (digits_value 10 c) ≡ true
    → Stands ts i (drop 10 (line at c d id parts rest))
    → Chain all_limits ts level.Add (within i 1) (expr.Binary (at 13) binary.Add (expr.Access (at 11) (expr.Variable (at 10) variable.Context) (codes "n")) (expr.Literal (at 14) (literal.Long (pos (digits_value 10 c))))) (within (i + 1 + 1 + 1 + 1 + 1) 3)
sum_of {ts} {i} at c d id parts rest long h10 =
    let h11 = others h10 in let h12 = others h11 in let h13 = others h12 in let h14 = others h13 in
    grammar.chain
    (operand (grammar.member (grammar.variable {p = at 10} (first h10) context_is (λ k. refl) (other ts (i + 1) {p = at 11} (first h11) (λ e. cc))) (grammar.access {p = at 11} {q = at 12} (first h11) (grammar.ident {p = at 12} (first h12, refl) (λ k. refl)) grammar.no_access)))
    (grammar.operands_more {p = at 13} (plus (first h13)) (operand (number (first h14) long refl)) grammar.operands_end)

-- principal in Group::"gG"
membership : {ts : List Lexeme} {i : ℕ} (at : ℕ → Place) (c d id : List ℕ) (parts : List Part) (rest : List Lexeme)
    → Stands ts i (drop 18 (line at c d id parts rest))
    → Relation all_limits ts (within i 5) (expr.Binary (at 19) binary.In (expr.Variable (at 18) variable.Principal) (expr.Literal (at 20) (literal.Entity (record { type_name = codes "Group"; id = id })))) (within (i + 1 + 1 + 1 + 1 + 1) 6)
membership {ts} {i} at c d id parts rest h18 =
    let h19 = others h18 in let h20 = others h19 in let h21 = others h20 in let h22 = others h21 in
    grammar.comparison
    (alone (operand (grammar.member (grammar.variable {p = at 18} (first h18) principal_is (λ k. refl) (other ts (i + 1) {p = at 19} (first h19) (λ e. cc))) grammar.no_access)))
    (among {p = at 19} (first h19))
    (alone (operand (grammar.member (grammar.uid (grammar.entity {p = at 20} {q = at 21} {r = at 22} (grammar.ident {p = at 20} (first h20, refl) (λ k. refl)) grammar.path_end (first h21) (first h22))) grammar.no_access)))

-- context.n + C > D && principal in Group::"gG"
condition_of : {ts : List Lexeme} {i : ℕ} (at : ℕ → Place) (c d id : List ℕ) (parts : List Part) (rest : List Lexeme) → is_long (digits_value 10 c) ≡ true → is_long (digits_value 10 d) ≡ true
    → Stands ts i (drop 10 (line at c d id parts rest))
    → Expression all_limits ts (within i 1) (body_of at c d id) (within (i + 1 + 1 + 1 + 1 + 1 + 1 + 1 + 1 + 1 + 1 + 1 + 1 + 1) 6)
condition_of {ts} {i} at c d id parts rest first_long second_long h10 =
    let h11 = others h10 in let h12 = others h11 in let h13 = others h12 in let h14 = others h13 in
    let h15 = others h14 in let h16 = others h15 in let h17 = others h16 in let h18 = others h17 in
    grammar.chain_or (alone (grammar.operand_or (grammar.chain
    (grammar.operand_and (grammar.comparison (sum_of at c d id parts rest first_long h10) (greater {p = at 15} (first h15)) (alone (operand (number (first h16) second_long refl)))))
    (grammar.operands_more {p = at 17} (both (first h17)) (grammar.operand_and (membership at c d id parts rest h18)) grammar.operands_end))))

-- behind a line whose first token is at place i
abbrev pub ending : ℕ → Cursor
ending i = record { at = i + 1 + 1 + 1 + 1 + 1 + 1 + 1 + 1 + 1 + 1 + 1 + 1 + 1 + 1 + 1 + 1 + 1 + 1 + 1 + 1 + 1 + 1 + 1 + 1 + 1; enclosing = 0; depth = 1 }

-- one line
pub line_spelled : {ts : List Lexeme} {i : ℕ} (at : ℕ → Place) (c d id : List ℕ) (parts : List Part) (rest : List Lexeme) → is_long (digits_value 10 c) ≡ true → is_long (digits_value 10 d) ≡ true
    → Stands ts i (line at c d id parts rest)
    → OnePolicy all_limits ts (outside i) (policy_of at c d id) (ending i)
line_spelled {ts} {i} at c d id parts rest first_long second_long h0 =
    let h1 = others h0 in let h2 = others h1 in let h3 = others h2 in let h4 = others h3 in let h5 = others h4 in
    let h6 = others h5 in let h7 = others h6 in let h8 = others h7 in let h9 = others h8 in let h10 = others h9 in
    let h23 = others (others (others (others (others (others (others (others (others (others (others (others (others h10)))))))))))) in
    let h24 = others h23 in
    g.policy {p = at 0} {q = at 24} {e = Permit} {x = record { principal = record { place = at 2; constraint = constraint.Any }; action = record { place = at 4; constraint = action.Any }; resource = record { place = at 6; constraint = constraint.Any } }}
    (g.effect (record { is = first h0 }))
    (g.whole_scope {p = at 1} {q = at 3} {r = at 5} (first h1) (g.part {p = at 2} (first h2) g.any) (first h3) (g.action_part {p = at 4} (first h4) g.any_action) (first h5) (g.part {p = at 6} (first h6) g.any) (g.scope_end {p = at 7} (first h7)))
    (g.clauses_more {p = at 8} {q = at 9} {k = When} (record { is = first h8 }) (first h9) (grammar.enclosed {p = at 23} (grammar.inner (condition_of at c d id parts rest first_long second_long h10)) (first h23)) g.clauses_end)
    (first h24)

-- what stands behind it
pub behind_line : {ts : List Lexeme} {i : ℕ} (at : ℕ → Place) (c d id : List ℕ) (parts : List Part) (rest : List Lexeme) → Stands ts i (line at c d id parts rest) → Stands ts (ending i).at rest
behind_line at c d id parts rest h0 =
    let h1 = others h0 in let h2 = others h1 in let h3 = others h2 in let h4 = others h3 in let h5 = others h4 in
    let h6 = others h5 in let h7 = others h6 in let h8 = others h7 in let h9 = others h8 in let h10 = others h9 in
    let h11 = others h10 in let h12 = others h11 in let h13 = others h12 in let h14 = others h13 in let h15 = others h14 in
    let h16 = others h15 in let h17 = others h16 in let h18 = others h17 in let h19 = others h18 in let h20 = others h19 in
    let h21 = others h20 in let h22 = others h21 in let h23 = others h22 in let h24 = others h23 in
    others h24
