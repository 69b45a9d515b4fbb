-- What spells an expression is read so, where a token follows that binds too loosely to go on.
use Rattle.std.proofs.Common.{◌+◌, ℕ, zero, suc, List, refl, arith}
use Rattle.sc_ast.specs.declared.place.Place.{Place}
use Rattle.sc_ast.specs.declared.expr.Expr.{Expr}
use Rattle.sc_ast.specs.declared.operator.UnaryOperator.{UnaryOperator}
use Rattle.sc_lexer.specs.declared.token.Kind.TheVariants as kind
use Rattle.sc_lexemes.specs.declared.cursor.Cursor.{Cursor}
use Rattle.sc_lexemes.specs.declared.lexeme.Lexeme.{Lexeme}
use Rattle.sc_lexemes.specs.declared.lexeme.Shape.TheVariants as shape
use Rattle.sc_lexemes.specs.declared.operator.Close.{Close}
use Rattle.sc_lexemes.specs.declared.operator.Level.{Level}
use Rattle.sc_parser.specs.Grammar.{Expression, Inner, Enclosed, Chain, MoreOperands, Operand, Relation, Unary, Prefixes, Member, Accesses, Primary, Items, Fields}
use Rattle.sc_parser.specs.Grammar as g
use Rattle.sc_lexemes.specs.Lexemes.{Is, Lacks, LacksThisPrefix, closing}
use Rattle.sc_parser.specs.Limits.{Limits}
use Rattle.sc_lexemes.specs.Outcomes.{Outcome, read}
use Rattle.sc_parser.proofs.Sorts as sort
use Rattle.sc_parser.proofs.Nonterminals as n
use Rattle.sc_parser.proofs.Programs.{done, call, here}
use Rattle.sc_parser.proofs.Productions.{production}
use Rattle.sc_parser.proofs.Runs.{Runs, does, finds, lacks, goes, keeps, calls}
use Rattle.sc_parser.proofs.Strength.{rank_of, Weak}
use Rattle.sc_parser.proofs.StrengthLaws.{weaker, weak_closing, weak_comma, weak_close_brace, weak_has, weak_like, weak_is, weak_operator, lacks_operator, lacks_has, lacks_like, lacks_is, lacks_in, lacks_dot, lacks_bracket, lacks_parenthesis, lacks_colons}
use Rattle.sc_parser.proofs.TestLaws.{other, other_word, no_operator, operator_has, operator_like, operator_is, minus_prefix, variable_ident, comma_closes_none, nothing}
use Rattle.sc_parser.proofs.RunLaws.{tail}
use Rattle.sc_parser.proofs.PrimaryLaws.{at_true, at_false, at_number, at_string, at_parenthesis, at_bracket, at_brace, at_ident}
use Rattle.sc_parser.proofs.FirstLaws.{first_member, member_no_prefix, chain_no_if, inner_no_closing, key_no_brace}
use Rattle.sc_parser.proofs.GrammarWordLaws.{to_ident, to_string, to_names, to_path, to_more_entity, first_colons, to_key}

-- what ends a list stands behind it
items_closed : {K : Limits} {ts : List Lexeme} {c : Close} {s t : Cursor} {xs ys : List Expr} → Items K ts c s xs ys t → (p : Place) × Is ts t.at p (closing c)
items_closed (g.items_end {p = p} h) = (p, h)
items_closed (g.last_item {p = p} a h) = (p, h)
items_closed (g.more_items a h b) = items_closed b

fields_closed : {K : Limits} {ts : List Lexeme} {s t : Cursor} {fs gs : List (List ℕ × Expr)} → Fields K ts s fs gs t → (p : Place) × Is ts t.at p (shape.Sign kind.CloseBrace)
fields_closed (g.fields_end {p = p} h) = (p, h)
fields_closed (g.last_field {q = q} a h b k) = (q, k)
fields_closed (g.more_fields a h b k c) = fields_closed c

-- behind an operand comes an operator of its chain, or what comes behind the chain
after_operand : {K : Limits} {ts : List Lexeme} {l : Level} {s t : Cursor} {a x : Expr} → MoreOperands K ts l s a x t → Weak ts t.at (rank_of l) → Weak ts s.at (rank_of l + 1)
after_operand g.operands_end w = weaker (omega arith) w
after_operand {ts = ts} {s = s} (g.operands_more h a b) w = weak_operator ts s.at h

-- behind a name after a dot comes no parenthesis, where no call is read
no_call : {K : Limits} {ts : List Lexeme} {s t : Cursor} {a x : Expr} → Accesses K ts s a x t → Weak ts t.at 6 → Lacks ts s.at (shape.Sign kind.OpenParenthesis)
no_call {ts = ts} {s = s} g.no_access w = lacks_parenthesis ts s.at w
no_call {ts = ts} {s = s} (g.index h a k b) w = other ts s.at h (λ e. cc)
no_call {ts = ts} {s = s} (g.access h a b) w = other ts s.at h (λ e. cc)
no_call {ts = ts} {s = s} (g.method h a k b e c) w = other ts s.at h (λ e. cc)
no_call {ts = ts} {s = s} (g.no_method h a k b e l c) w = other ts s.at h (λ e. cc)

-- no further prefix
prefixes_over : {K : Limits} {ts : List Lexeme} {r : UnaryOperator} {s : Cursor} {o : Outcome Expr} (m : ℕ) → LacksThisPrefix ts s.at r → Runs K ts sort.tree (call here n.member done) s o → Runs K ts sort.tree (production (n.prefixes r m)) s o
prefixes_over zero l a = finds tt refl a
prefixes_over (suc m) l a = lacks (λ x z. omega (arith, z)) (lacks l a)

mutual
  pub to_expression : {K : Limits} {ts : List Lexeme} {s t : Cursor} {x : Expr} → Expression K ts s x t → Weak ts t.at 1 → Runs K ts sort.tree (production n.expression) s (read x t)
  to_expression (g.chain_or a) w = lacks (chain_no_if a) (tail (to_chain a w))
  to_expression (g.if_then_else {p = p} h f a b c) w = finds p h (keeps f (goes h (calls (to_enclosed a) (calls (to_enclosed b) (calls (to_inner c w) does)))))

  pub to_inner : {K : Limits} {ts : List Lexeme} {s t : Cursor} {x : Expr} → Inner K ts s x t → Weak ts t.at 1 → Runs K ts sort.tree (production n.inner) s (read x t)
  to_inner (g.inner a) w = calls (to_expression a w) does

  pub to_enclosed : {K : Limits} {ts : List Lexeme} {c : Close} {s t : Cursor} {x : Expr} → Enclosed K ts c s x t → Runs K ts sort.tree (production (n.enclosed c)) s (read x t)
  to_enclosed {ts = ts} {c = c} (g.enclosed {t = t} {p = p} a h) = calls (to_inner a (weak_closing ts t.at c h)) (finds p h (goes h does))

  to_chain : {K : Limits} {ts : List Lexeme} {l : Level} {s t : Cursor} {x : Expr} → Chain K ts l s x t → Weak ts t.at (rank_of l) → Runs K ts sort.tree (production (n.chain l)) s (read x t)
  to_chain (g.chain a b) w = calls (to_operand a (after_operand b w)) (tail (to_more b w))

  to_more : {K : Limits} {ts : List Lexeme} {l : Level} {s t : Cursor} {a x : Expr} → MoreOperands K ts l s a x t → Weak ts t.at (rank_of l) → Runs K ts sort.tree (production (n.more l a)) s (read x t)
  to_more {ts = ts} {l = l} {s = s} g.operands_end w = lacks (lacks_operator ts s.at l w) does
  to_more (g.operands_more {p = p} {r = r} h a b) w = finds (p, r) h (goes h.is (calls (to_operand a (after_operand b w)) (tail (to_more b w))))

  to_operand : {K : Limits} {ts : List Lexeme} {l : Level} {s t : Cursor} {x : Expr} → Operand K ts l s x t → Weak ts t.at (rank_of l + 1) → Runs K ts sort.tree (production (n.operand l)) s (read x t)
  to_operand (g.operand_or a) w = tail (to_chain a w)
  to_operand (g.operand_and a) w = tail (to_relation a w)
  to_operand (g.operand_add a) w = tail (to_chain a w)
  to_operand (g.operand_multiply a) w = tail (to_unary a w)

  to_relation : {K : Limits} {ts : List Lexeme} {s t : Cursor} {x : Expr} → Relation K ts s x t → Weak ts t.at 3 → Runs K ts sort.tree (production n.relation) s (read x t)
  to_relation {ts = ts} {t = t} (g.sum a) w = calls (to_chain a (weaker (omega arith) w)) (tail (lacks (lacks_operator ts t.at _ w) (lacks (lacks_has ts t.at w) (lacks (lacks_like ts t.at w) (lacks (lacks_is ts t.at w) does)))))
  to_relation {ts = ts} (g.comparison {t = t} {p = p} {r = r} a h b) w = calls (to_chain a (weak_operator ts t.at h)) (tail (finds (p, r) h (goes h.is (calls (to_chain b (weaker (omega arith) w)) does))))
  to_relation {ts = ts} {t = u} (g.has {t = t} {p = p} a h b) w = calls (to_chain a (weak_has ts t.at h)) (tail (lacks (no_operator ts t.at h operator_has _) (finds p h (goes h (calls (to_names b (lacks_dot ts u.at (weaker (omega arith) w))) does)))))
  to_relation {ts = ts} {t = u} (g.like {t = t} {p = p} a h b) w = calls (to_chain a (weak_like ts t.at h)) (tail (lacks (no_operator ts t.at h operator_like _) (lacks (other ts t.at h (other_word _ _ refl refl)) (finds p h (goes h (calls (to_string b) does))))))
  to_relation {ts = ts} {t = u} (g.is_type {t = t} {p = p} a h b) w = calls (to_chain a (weak_is ts t.at h)) (tail (lacks (no_operator ts t.at h operator_is _) (lacks (other ts t.at h (other_word _ _ refl refl)) (lacks (other ts t.at h (other_word _ _ refl refl)) (finds p h (goes h (calls (to_path b (lacks_colons ts u.at (weaker (omega arith) w))) (lacks (lacks_in ts u.at w) does))))))))
  to_relation {ts = ts} (g.is_in {t = t} {u = u} {p = p} {q = q} a h b k c) w = calls (to_chain a (weak_is ts t.at h)) (tail (lacks (no_operator ts t.at h operator_is _) (lacks (other ts t.at h (other_word _ _ refl refl)) (lacks (other ts t.at h (other_word _ _ refl refl)) (finds p h (goes h (calls (to_path b (other ts u.at k (λ e. cc))) (finds q k (goes k (calls (to_chain c (weaker (omega arith) w)) does))))))))))

  to_unary : {K : Limits} {ts : List Lexeme} {s t : Cursor} {x : Expr} → Unary K ts s x t → Weak ts t.at 6 → Runs K ts sort.tree (production n.unary) s (read x t)
  to_unary (g.no_prefix a) w = lacks (λ x h. member_no_prefix (first_member a) h) (tail (to_member a w))
  to_unary (g.prefixes {p = p} {r = r} h a) w = finds (p, r) h (tail (to_prefixes a w))

  to_prefixes : {K : Limits} {ts : List Lexeme} {r : UnaryOperator} {m : ℕ} {s t : Cursor} {x : Expr} → Prefixes K ts r m s x t → Weak ts t.at 6 → Runs K ts sort.tree (production (n.prefixes r m)) s (read x t)
  to_prefixes {m = m} (g.prefixes_end a) w = prefixes_over m (λ p h. member_no_prefix (first_member a) h) (tail (to_member a w))
  to_prefixes (g.least {p = p} l h f k a) w = lacks (λ x z. omega (arith, l, z)) (finds p (minus_prefix h.minus) (keeps f (goes h.minus (finds tt (refl, (h.place, h.digits)) (keeps k (goes h.digits (tail (to_accesses a w))))))))
  to_prefixes (g.prefix {p = p} l h f n a) w = lacks (λ x z. omega (arith, l, z)) (finds p h (keeps f (goes h.is (lacks (λ x e. n e.0 e.1.0 e.1.1) (calls (to_prefixes a w) does)))))

  to_member : {K : Limits} {ts : List Lexeme} {s t : Cursor} {x : Expr} → Member K ts s x t → Weak ts t.at 6 → Runs K ts sort.tree (production n.member) s (read x t)
  to_member (g.member a b) w = calls (to_primary a) (tail (to_accesses b w))

  to_accesses : {K : Limits} {ts : List Lexeme} {s t : Cursor} {a x : Expr} → Accesses K ts s a x t → Weak ts t.at 6 → Runs K ts sort.tree (production (n.accesses a)) s (read x t)
  to_accesses {ts = ts} {s = s} g.no_access w = lacks (lacks_dot ts s.at w) (lacks (lacks_bracket ts s.at w) does)
  to_accesses {ts = ts} {s = s} (g.index {p = p} {q = q} h a k b) w = lacks (other ts s.at h (λ e. cc)) (finds p h (goes h (calls (to_string a) (finds q k (goes k (tail (to_accesses b w)))))))
  to_accesses (g.access {p = p} h a b) w = finds p h (goes h (calls (to_ident a) (lacks (no_call b w) (tail (to_accesses b w)))))
  to_accesses (g.method {y = y} {p = p} {r = r} h a k b e c) w = finds p h (goes h (calls (to_ident a) (finds r k (goes k (calls (to_items b) (finds y e (goes (items_closed b).1 (tail (to_accesses c w)))))))))
  to_accesses (g.no_method {p = p} {r = r} h a k b e l c) w = finds p h (goes h (calls (to_ident a) (finds r k (goes k (calls (to_items b) (lacks (nothing e) (keeps l (goes (items_closed b).1 (tail (to_accesses c w))))))))))

  to_primary : {K : Limits} {ts : List Lexeme} {s t : Cursor} {x : Expr} → Primary K ts s x t → Runs K ts sort.tree (production n.primary) s (read x t)
  to_primary (g.truth h f) = at_true h f (goes h does)
  to_primary (g.falsehood h f) = at_false h f (goes h does)
  to_primary (g.number h f k) = at_number h f (keeps k (goes h does))
  to_primary (g.text h f) = at_string h f (goes h does)
  to_primary (g.variable {w = w} {x = x} h e f l) = at_ident (h, variable_ident w x e) f (lacks l (finds x e does))
  to_primary (g.uid (g.entity (g.ident h f) b k l)) = at_ident h f (finds (first_colons b k).0 (first_colons b k).1 (calls (to_more_entity b k l) does))
  to_primary {ts = ts} {s = s} (g.function {q = q} {x = x} h e f k a d) = at_ident h f (lacks (other ts (s.at + 1) k (λ e. cc)) (lacks (nothing e) (finds q k (goes k (calls (to_items a) (finds x d (goes (items_closed a).1 does)))))))
  to_primary {ts = ts} {s = s} (g.no_function {q = q} h e f k a d l) = at_ident h f (lacks (other ts (s.at + 1) k (λ e. cc)) (lacks (nothing e) (finds q k (goes k (calls (to_items a) (lacks (nothing d) (keeps l (goes (items_closed a).1 does))))))))
  to_primary (g.parenthesis h f a) = at_parenthesis h f (goes h (tail (to_enclosed a)))
  to_primary (g.set h f a) = at_bracket h f (goes h (calls (to_items a) (goes (items_closed a).1 does)))
  to_primary (g.fields h f a) = at_brace h f (goes h (calls (to_fields a) (goes (fields_closed a).1 does)))

  to_items : {K : Limits} {ts : List Lexeme} {c : Close} {s t : Cursor} {xs ys : List Expr} → Items K ts c s xs ys t → Runs K ts sort.trees (production (n.items c xs)) s (read ys t)
  to_items (g.items_end {p = p} h) = finds p h does
  to_items {ts = ts} {c = c} {t = t} (g.last_item {p = p} a h) = lacks (inner_no_closing c a) (calls (to_inner a (weak_closing ts t.at c h)) (finds p h does))
  to_items {ts = ts} {c = c} (g.more_items {t = t} {p = p} a h b) = lacks (inner_no_closing c a) (calls (to_inner a (weak_comma ts t.at h)) (lacks (other ts t.at h (comma_closes_none c)) (finds p h (goes h (tail (to_items b))))))

  to_fields : {K : Limits} {ts : List Lexeme} {s t : Cursor} {fs gs : List (List ℕ × Expr)} → Fields K ts s fs gs t → Runs K ts sort.fields (production (n.fields fs)) s (read gs t)
  to_fields (g.fields_end {p = p} h) = finds p h does
  to_fields {ts = ts} {t = u} (g.last_field {p = p} {q = q} a h b k) = lacks (key_no_brace a) (calls (to_key a) (finds p h (goes h (calls (to_inner b (weak_close_brace ts u.at k)) (finds q k does)))))
  to_fields {ts = ts} (g.more_fields {u = u} {p = p} {q = q} a h b k c) = lacks (key_no_brace a) (calls (to_key a) (finds p h (goes h (calls (to_inner b (weak_comma ts u.at k)) (lacks (other ts u.at k (λ e. cc)) (finds q k (goes k (tail (to_fields c)))))))))
