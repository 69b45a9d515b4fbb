-- Small files, token by token: what they spell, or where they have their first fault.
use Rattle.std.proofs.Common.{◌≡◌, ℕ, List, [], ◌∷◌, codes, None, zero, suc, true, false, refl, ap, arith}
use Rattle.sc_ast.specs.declared.place.Place.{Place}
use Rattle.sc_ast.specs.declared.expr.Expr.{Expr}
use Rattle.sc_ast.specs.declared.expr.Expr.TheVariants as expr
use Rattle.sc_ast.specs.declared.literal.Literal.TheVariants as literal
use Rattle.sc_ast.specs.declared.policy.Condition.{Condition}
use Rattle.sc_ast.specs.declared.policy.ConditionKind.TheVariants.{When}
use Rattle.sc_ast.specs.declared.policy.Effect.TheVariants.{Permit}
use Rattle.sc_ast.specs.declared.policy.Policy.{Policy}
use Rattle.sc_ast.specs.declared.scope.ActionConstraint.TheVariants as action
use Rattle.sc_ast.specs.declared.scope.Constraint.TheVariants as constraint
use Rattle.sc_lexer.specs.declared.token.Kind.{Kind}
use Rattle.sc_lexer.specs.declared.token.Kind.TheVariants as kind
use Rattle.std.specs.Str.{is_utf8, chars}
use lib.Utf8.{encode}
use Rattle.sc_lexer.specs.Escapes.{escape_of}
use Rattle.sc_lexer.specs.Pieces.{pieces_after, pieces_of, string_of}
use Rattle.sc_pattern.specs.declared.part.Part.TheVariants.{Char, Star}
use Rattle.sc_lexemes.specs.declared.cursor.Cursor.{Cursor}
use Rattle.sc_lexemes.specs.declared.lexeme.Lexeme.{Lexeme}
use Rattle.sc_lexemes.specs.declared.lexeme.Shape.{Shape}
use Rattle.sc_lexemes.specs.declared.lexeme.Shape.TheVariants as shape
use Rattle.sc_parser.specs.declared.scopes.Scopes.{Scopes}
use Rattle.sc_lexemes.specs.declared.stop.Stop.{Stop}
use Rattle.sc_lexemes.specs.declared.stop.Stop.TheVariants as stop
use Rattle.sc_lexemes.specs.Depth.{fits, past, inside, back, deeper, outside}
use Rattle.sc_parser.specs.Faults.{Passes, IsUnexpected, IsUnexpectedEnd}
use Rattle.sc_parser.specs.Grammar.{Expression, Unary}
use Rattle.sc_parser.specs.Grammar as grammar
use Rattle.sc_parser.specs.GrammarFiles.{File, WholeScope, Clauses}
use Rattle.sc_parser.specs.GrammarFiles as g
use Rattle.sc_lexemes.specs.Lexemes.{Is, Lacks, LacksPrefix, IsPolicyStart, annotation_starts, effect_starts}
use Rattle.sc_parser.specs.Limits.{Limits, all_limits}
use Rattle.sc_lexemes.specs.Outcomes.{read, halt}
use Rattle.sc_parser.specs.Reads.{ReadsInner, ReadsPrimary}
use Rattle.sc_parser.specs.Reads as reads
use Rattle.sc_parser.specs.ReadsFiles.{ReadsScopes, ReadsPolicies}
use Rattle.sc_parser.specs.ReadsFiles as r
use Rattle.sc_lexemes.specs.Shapes.{shape_of, lexeme_of}
use Rattle.sc_lexemes.specs.Tables.{least_long, prefix_of, variable_of}
use Rattle.sc_parser.proofs.FaultLaws.{unexpected, ended, passes}
use Rattle.sc_parser.proofs.TestLaws.{one_shape, other, other_word, minus_prefix}

-- ---- tokens

-- a string and the pattern that it is after `like`
string_and_pattern : shape_of kind.Str (codes "\"a*\\*\"") ≡ shape.String (codes "a**") (Char 97 ∷ Star ∷ Char 42 ∷ [])
unfolding pieces_of string_of pieces_after escape_of is_utf8 chars encode
string_and_pattern = refl

-- a token stands at its first byte
word_at : lexeme_of (codes "// a\npermit") (record { kind = kind.Word; span = record { start = 5; end = 11 } }) ≡ record { place = record { offset = 5 }; shape = shape.Word (codes "permit") }
word_at = refl

-- ---- depth

abbrev times : ℕ → (Cursor → Cursor) → Cursor → Cursor
times zero f s = s
times (suc n) f s = times n f (f s)

-- around a token 100 expressions may be open, and no more
open_expressions : (fits (times 100 inside (outside 0)) ≡ true) × (fits (times 101 inside (outside 0)) ≡ false)
open_expressions = (refl, refl)

-- a token may stand behind 1,000 operators, and no more; each expression around it and each earlier clause counts as one
operators_before : (fits (times 1000 past (outside 0)) ≡ true) × (fits (times 1001 past (outside 0)) ≡ false)
operators_before = (refl, refl)

operators_inside : (fits (times 900 past (times 100 inside (outside 0))) ≡ true) × (fits (times 901 past (times 100 inside (outside 0))) ≡ false)
operators_inside = (refl, refl)

operators_behind : (fits (times 990 past (times 10 deeper (outside 0))) ≡ true) × (fits (times 991 past (times 10 deeper (outside 0))) ≡ false)
operators_behind = (refl, refl)

-- behind an expression the place is inside of as many as before it
behind_expression : (s t : Cursor) → back s t ≡ record { at = t.at; enclosing = s.enclosing; depth = s.depth }
behind_expression s t = refl

-- ---- policies

abbrev at : ℕ → Place
at n = record { offset = n }

abbrev word : ℕ → List ℕ → Lexeme
word n w = record { place = at n; shape = shape.Word w }

abbrev sign : ℕ → Kind → Lexeme
sign n k = record { place = at n; shape = shape.Sign k }

abbrev digits : ℕ → List ℕ → Lexeme
digits n ds = record { place = at n; shape = shape.Number ds }

-- permit(principal,action,resource)
abbrev headed : List Lexeme → List Lexeme
headed rest = word 0 (codes "permit") ∷ sign 6 kind.OpenParenthesis ∷ word 7 (codes "principal") ∷ sign 16 kind.Comma ∷ word 17 (codes "action") ∷ sign 23 kind.Comma ∷ word 24 (codes "resource") ∷ sign 32 kind.CloseParenthesis ∷ rest

abbrev anything : Scopes
anything = record {
  principal = record { place = at 7; constraint = constraint.Any };
  action = record { place = at 17; constraint = action.Any };
  resource = record { place = at 24; constraint = constraint.Any };
}

abbrev permits : List Condition → Policy
permits cs = record { place = at 0; effect = Permit; principal = anything.principal; action = anything.action; resource = anything.resource; conditions = cs }

whole : {K : Limits} (rest : List Lexeme) → WholeScope K (headed rest) (outside 1) anything (outside 8)
whole rest = g.whole_scope {t = outside 3} {u = outside 5} {v = outside 7} {p = at 6} {q = at 16} {r = at 23} refl (g.part {p = at 7} refl g.any) refl (g.action_part {p = at 17} refl g.any_action) refl (g.part {p = at 24} refl g.any) (g.scope_end {p = at 32} refl)

-- no tokens are no policies
nothing_spelled : File all_limits [] []
nothing_spelled = g.policies_end

-- permit(principal,action,resource);
one_spelled : File all_limits (headed (sign 33 kind.Semicolon ∷ [])) (permits [] ∷ [])
one_spelled = g.policies_more {t = outside 9} {x = permits []} (λ k. refl) (g.policy {t = outside 1} {u = outside 8} {v = outside 8} {p = at 0} {q = at 33} {e = Permit} {x = anything} (g.effect (record { is = refl })) (whole _) g.clauses_end refl) g.policies_end

-- ---- faults

-- permit(
abbrev opened : List Lexeme
opened = word 0 (codes "permit") ∷ sign 6 kind.OpenParenthesis ∷ []

opened_halts : ReadsPolicies opened 0 [] (halt stop.Unexpected 2)
opened_halts = r.policy_halts (effect_starts (at 0) Permit (record { is = refl })) refl (r.scopes_halt {t = outside 1} {p = at 0} {e = Permit} (r.effect (record { is = refl })) (r.scopes_principal_halts {p = at 6} refl (r.principal_halts (r.no_scope (λ p e. cc)))))

end_unexpected : IsUnexpectedEnd opened
end_unexpected = ended opened_halts refl

-- a closing parenthesis alone
abbrev closed : List Lexeme
closed = sign 0 kind.CloseParenthesis ∷ []

no_start : IsPolicyStart closed 0 → ⊥
no_start (annotation_starts p h) = other closed 0 {p = at 0} refl (λ e. cc) p h
no_start (effect_starts p f h) = other closed 0 {p = at 0} refl (λ e. cc) p h.is

token_unexpected : IsUnexpected closed 0
token_unexpected = unexpected (r.no_policy {l = sign 0 kind.CloseParenthesis} refl no_start) (omega arith)

-- permit(principal==?
abbrev slotted : List Lexeme
slotted = word 0 (codes "permit") ∷ sign 6 kind.OpenParenthesis ∷ word 7 (codes "principal") ∷ sign 16 kind.Equal ∷ sign 18 kind.Question ∷ []

slotted_halts : ReadsPolicies slotted 0 [] (halt stop.Template 4)
slotted_halts = r.policy_halts (effect_starts (at 0) Permit (record { is = refl })) refl (r.scopes_halt {t = outside 1} {p = at 0} {e = Permit} (r.effect (record { is = refl })) (r.scopes_principal_halts {p = at 6} refl (r.principal_halts (r.constraint_halts {p = at 7} refl (r.equal_halts {p = at 16} refl (r.slot {p = at 18} refl))))))

template_passed : Passes slotted stop.Template 4
template_passed = passes slotted_halts refl

-- ---- conditions

-- permit(principal,action,resource) when { -9223372036854775808 };
abbrev least : List Lexeme
least = headed (word 34 (codes "when") ∷ sign 39 kind.OpenBrace ∷ sign 41 kind.Minus ∷ digits 42 (codes "9223372036854775808") ∷ sign 62 kind.CloseBrace ∷ sign 63 kind.Semicolon ∷ [])

abbrev least_number : Condition
least_number = record { place = at 34; kind = When; body = expr.Literal (at 41) (literal.Long least_long) }

least_unary : Unary all_limits least (record { at = 10; enclosing = 1; depth = 1 }) (expr.Literal (at 41) (literal.Long least_long)) (record { at = 12; enclosing = 1; depth = 2 })
least_unary = grammar.prefixes {p = at 41} (minus_prefix refl) (grammar.least (omega arith) (record { minus = refl; place = at 42; digits = refl }) (λ k. refl) (λ k. refl) grammar.no_access)

unary_expression : {K : Limits} {ts : List Lexeme} {s t : Cursor} {x : Expr} → Unary K ts s x t → Expression K ts s x t
unary_expression p = grammar.chain_or (grammar.chain (grammar.operand_or (grammar.chain (grammar.operand_and (grammar.sum (grammar.chain (grammar.operand_add (grammar.chain (grammar.operand_multiply p) grammar.operands_end)) grammar.operands_end))) grammar.operands_end)) grammar.operands_end)

least_clause : Clauses all_limits least (outside 8) [] (least_number ∷ []) (deeper (outside 13))
least_clause = g.clauses_more {t = outside 13} {p = at 34} {q = at 39} {k = When} (record { is = refl }) refl (grammar.enclosed {t = outside 12} {p = at 62} (grammar.inner {t = record { at = 12; enclosing = 1; depth = 2 }} (unary_expression least_unary)) refl) g.clauses_end

least_spelled : File all_limits least (permits (least_number ∷ []) ∷ [])
least_spelled = g.policies_more {t = record { at = 14; enclosing = 0; depth = 1 }} {x = permits (least_number ∷ [])} (λ k. refl) (g.policy {t = outside 1} {u = outside 8} {v = deeper (outside 13)} {p = at 0} {q = at 63} {e = Permit} {x = anything} (g.effect (record { is = refl })) (whole _) least_clause refl) g.policies_end

scopes_read : (rest : List Lexeme) → ReadsScopes (headed rest) (outside 1) (read anything (outside 8))
scopes_read rest = r.scopes {t = outside 4} {u = outside 6} {p = at 6} refl
    (r.principal {t = outside 3} {p = at 16} (r.scope {p = at 7} refl (r.any (other (headed rest) 3 {p = at 16} refl (λ e. cc)) (other (headed rest) 3 {p = at 16} refl (λ e. cc)) (other (headed rest) 3 {p = at 16} refl (λ e. cc)))) refl)
    (r.action_scope {t = outside 5} {p = at 17} {q = at 23} refl (r.any_action (other (headed rest) 5 {p = at 23} refl (λ e. cc)) (other (headed rest) 5 {p = at 23} refl (λ e. cc))) refl)
    (r.resource {t = outside 7} {p = at 32} (r.scope {p = at 24} refl (r.any (other (headed rest) 7 {p = at 32} refl (λ e. cc)) (other (headed rest) 7 {p = at 32} refl (λ e. cc)) (other (headed rest) 7 {p = at 32} refl (λ e. cc)))) refl)

-- where the first expression of a clause halts, the file does
clause_halts_file : (rest : List Lexeme) {f : Stop} {n : ℕ} (p q : Place) → Is (headed rest) 8 p (shape.Word (codes "when")) → Is (headed rest) 9 q (shape.Sign kind.OpenBrace) → ReadsInner (headed rest) (outside 10) (halt f n) → ReadsPolicies (headed rest) 0 [] (halt f n)
clause_halts_file rest p q h k a = r.policy_halts (effect_starts (at 0) Permit (record { is = refl })) refl (r.clauses_halt {t = outside 1} {u = outside 8} {p = at 0} {e = Permit} {x = anything} (r.effect (record { is = refl })) (scopes_read rest) (r.clause_halts {p = p} {q = q} {k = When} (record { is = h }) k (reads.enclosed_halts a)))

primary_halts : {ts : List Lexeme} {s : Cursor} {f : Stop} {n : ℕ} → Lacks ts s.at (shape.Word (codes "if")) → LacksPrefix ts s.at → ReadsPrimary ts (inside s) (halt f n) → ReadsInner ts s (halt f n)
primary_halts l m p = reads.inner_halts (reads.chain_or l (reads.chain_halts (reads.operand_or (reads.chain_halts (reads.operand_and (reads.relation_halts (reads.chain_halts (reads.operand_add (reads.chain_halts (reads.operand_multiply (reads.no_prefix m (reads.member_halts p))))))))))))

no_prefix_at : (ts : List Lexeme) (i : ℕ) {p : Place} {c : Shape} → Is ts i p c → prefix_of c ≡ None → LacksPrefix ts i
no_prefix_at ts i h n p o g = let e = ap prefix_of (one_shape ts i h g.is) in let f = g.operator in cc

-- permit(principal,action,resource) when { 9223372036854775808
abbrev large : List Lexeme
large = word 34 (codes "when") ∷ sign 39 kind.OpenBrace ∷ digits 41 (codes "9223372036854775808") ∷ []

digits_no_prefix : (ds : List ℕ) → prefix_of (shape.Number ds) ≡ None
unfolding prefix_of
digits_no_prefix ds = refl

large_passed : Passes (headed large) stop.IntRange 10
large_passed = passes (clause_halts_file large (at 34) (at 39) refl refl (primary_halts (other (headed large) 10 {p = at 41} refl (λ e. cc)) (no_prefix_at (headed large) 10 {p = at 41} refl (digits_no_prefix (codes "9223372036854775808"))) (reads.number_large {p = at 41} refl refl refl))) refl

-- permit(principal,action,resource) when { any()
abbrev unknown : List Lexeme
unknown = word 34 (codes "when") ∷ sign 39 kind.OpenBrace ∷ word 41 (codes "any") ∷ sign 44 kind.OpenParenthesis ∷ sign 45 kind.CloseParenthesis ∷ []

word_no_prefix : (w : List ℕ) → prefix_of (shape.Word w) ≡ None
unfolding prefix_of
word_no_prefix w = refl

no_variable : variable_of (codes "any") ≡ None
unfolding variable_of
no_variable = refl

-- the parenthesis that closes the call passes the limit
unknown_passed : Passes (headed unknown) stop.BadCall 12
unknown_passed = passes (clause_halts_file unknown (at 34) (at 39) refl refl (primary_halts (other (headed unknown) 10 {p = at 41} refl (other_word _ _ refl refl)) (no_prefix_at (headed unknown) 10 {p = at 41} refl (word_no_prefix (codes "any"))) (reads.no_function {t = record { at = 12; enclosing = 1; depth = 1 }} {p = at 41} {q = at 44} {w = codes "any"} (refl, refl) no_variable refl refl (reads.items_end {p = at 45} refl) refl))) refl
