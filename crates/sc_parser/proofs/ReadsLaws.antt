-- Reading expressions runs their programs.
use Rattle.std.proofs.Common.{◌+◌, ℕ, List, refl, arith}
use Rattle.sc_ast.specs.declared.place.Place.{Place}
use Rattle.sc_ast.specs.declared.expr.Expr.{Expr}
use Rattle.sc_ast.specs.declared.operator.UnaryOperator.{UnaryOperator}
use Rattle.sc_lexer.specs.declared.token.Kind.TheVariants as kind
use Rattle.sc_lexemes.specs.declared.cursor.Cursor.{Cursor}
use Rattle.sc_lexemes.specs.declared.lexeme.Lexeme.{Lexeme}
use Rattle.sc_lexemes.specs.declared.lexeme.Shape.TheVariants as shape
use Rattle.sc_lexemes.specs.declared.operator.Close.{Close}
use Rattle.sc_lexemes.specs.declared.operator.Level.{Level}
use Rattle.sc_lexemes.specs.Lexemes.{Is, closing}
use Rattle.sc_parser.specs.Limits.{all_limits}
use Rattle.sc_lexemes.specs.Outcomes.{Outcome, read}
use Rattle.sc_parser.specs.Reads.{ReadsExpr, ReadsInner, ReadsEnclosed, ReadsChain, ReadsMore, ReadsOperand, ReadsRelation, ReadsTail, ReadsUnary, ReadsPrefixes, ReadsMember, ReadsAccesses, ReadsPrimary, ReadsItems, ReadsFields}
use Rattle.sc_parser.specs.Reads as r
use Rattle.sc_parser.proofs.Sorts as sort
use Rattle.sc_parser.proofs.Nonterminals as n
use Rattle.sc_parser.proofs.Productions.{production}
use Rattle.sc_parser.proofs.Runs.{Runs, does, fails, finds, lacks, goes, keeps, breaks, calls, halts}
use Rattle.sc_parser.proofs.TestLaws.{other, other_word, no_operator, operator_has, operator_like, operator_is, minus_prefix, variable_ident, comma_closes_none, nothing}
use Rattle.sc_parser.proofs.RunLaws.{tail}
use Rattle.sc_parser.proofs.ReadsWordLaws.{into_ident, into_string, into_names, into_path, into_more_entity, into_key}
use Rattle.sc_parser.proofs.PrimaryLaws.{at_true, at_false, at_number, at_string, at_parenthesis, at_bracket, at_brace, at_ident}

-- what ends a list stands behind it
items_closed : {ts : List Lexeme} {c : Close} {s t : Cursor} {xs ys : List Expr} → ReadsItems ts c s xs (read ys t) → (p : Place) × Is ts t.at p (closing c)
items_closed (r.items_end {p = p} h) = (p, h)
items_closed (r.last_item {p = p} n a h) = (p, h)
items_closed (r.more_items n a h b) = items_closed b

fields_closed : {ts : List Lexeme} {s t : Cursor} {fs gs : List (List ℕ × Expr)} → ReadsFields ts s fs (read gs t) → (p : Place) × Is ts t.at p (shape.Sign kind.CloseBrace)
fields_closed (r.fields_end {p = p} h) = (p, h)
fields_closed (r.last_field {q = q} n a h b g) = (q, g)
fields_closed (r.more_fields n a h b g c) = fields_closed c

mutual
  pub into_expression : {ts : List Lexeme} {s : Cursor} {o : Outcome Expr} → ReadsExpr ts s o → Runs all_limits ts sort.tree (production n.expression) s o
  into_expression (r.chain_or n a) = lacks n (tail (into_chain a))
  into_expression (r.if_deep {p = p} h f) = finds p h (breaks refl h refl f)
  into_expression (r.condition_halts {p = p} h f a) = finds p h (keeps (λ k. f) (goes h (halts (into_enclosed a))))
  into_expression (r.then_halts {p = p} h f a b) = finds p h (keeps (λ k. f) (goes h (calls (into_enclosed a) (halts (into_enclosed b)))))
  into_expression (r.else_halts {p = p} h f a b c) = finds p h (keeps (λ k. f) (goes h (calls (into_enclosed a) (calls (into_enclosed b) (halts (into_inner c))))))
  into_expression (r.if_then_else {p = p} h f a b c) = finds p h (keeps (λ k. f) (goes h (calls (into_enclosed a) (calls (into_enclosed b) (calls (into_inner c) does)))))

  pub into_inner : {ts : List Lexeme} {s : Cursor} {o : Outcome Expr} → ReadsInner ts s o → Runs all_limits ts sort.tree (production n.inner) s o
  into_inner (r.inner a) = calls (into_expression a) does
  into_inner (r.inner_halts a) = halts (into_expression a)

  pub into_enclosed : {ts : List Lexeme} {c : Close} {s : Cursor} {o : Outcome Expr} → ReadsEnclosed ts c s o → Runs all_limits ts sort.tree (production (n.enclosed c)) s o
  into_enclosed (r.enclosed {p = p} a h) = calls (into_inner a) (finds p h (goes h does))
  into_enclosed (r.unclosed a n) = calls (into_inner a) (lacks n fails)
  into_enclosed (r.enclosed_halts a) = halts (into_inner a)

  pub into_chain : {ts : List Lexeme} {l : Level} {s : Cursor} {o : Outcome Expr} → ReadsChain ts l s o → Runs all_limits ts sort.tree (production (n.chain l)) s o
  into_chain (r.chain a b) = calls (into_operand a) (tail (into_more b))
  into_chain (r.chain_halts a) = halts (into_operand a)

  pub into_more : {ts : List Lexeme} {l : Level} {s : Cursor} {a : Expr} {o : Outcome Expr} → ReadsMore ts l s a o → Runs all_limits ts sort.tree (production (n.more l a)) s o
  into_more (r.more_ends n) = lacks (λ x h. n x.0 x.1 h) does
  into_more (r.more_halts {p = p} {r = o} h a) = finds (p, o) h (goes h.is (halts (into_operand a)))
  into_more (r.more {p = p} {r = o} h a b) = finds (p, o) h (goes h.is (calls (into_operand a) (tail (into_more b))))

  pub into_operand : {ts : List Lexeme} {l : Level} {s : Cursor} {o : Outcome Expr} → ReadsOperand ts l s o → Runs all_limits ts sort.tree (production (n.operand l)) s o
  into_operand (r.operand_or a) = tail (into_chain a)
  into_operand (r.operand_and a) = tail (into_relation a)
  into_operand (r.operand_add a) = tail (into_chain a)
  into_operand (r.operand_multiply a) = tail (into_unary a)

  pub into_relation : {ts : List Lexeme} {s : Cursor} {o : Outcome Expr} → ReadsRelation ts s o → Runs all_limits ts sort.tree (production n.relation) s o
  into_relation (r.relation a b) = calls (into_chain a) (tail (into_tail b))
  into_relation (r.relation_halts a) = halts (into_chain a)

  pub into_tail : {ts : List Lexeme} {s : Cursor} {a : Expr} {o : Outcome Expr} → ReadsTail ts s a o → Runs all_limits ts sort.tree (production (n.tail a)) s o
  into_tail (r.no_tail n) = lacks (λ x h. n.comparison x.0 x.1 h) (lacks n.has (lacks n.like (lacks n.is does)))
  into_tail (r.compare {p = p} {r = o} h a) = finds (p, o) h (goes h.is (calls (into_chain a) does))
  into_tail (r.compare_halts {p = p} {r = o} h a) = finds (p, o) h (goes h.is (halts (into_chain a)))
  into_tail {ts = ts} {s = s} (r.has {p = p} h a) = lacks (no_operator ts s.at h operator_has _) (finds p h (goes h (calls (into_names a) does)))
  into_tail {ts = ts} {s = s} (r.has_halts {p = p} h a) = lacks (no_operator ts s.at h operator_has _) (finds p h (goes h (halts (into_names a))))
  into_tail {ts = ts} {s = s} (r.like {p = p} h a) = lacks (no_operator ts s.at h operator_like _) (lacks (other ts s.at h (other_word _ _ refl refl)) (finds p h (goes h (calls (into_string a) does))))
  into_tail {ts = ts} {s = s} (r.like_halts {p = p} h a) = lacks (no_operator ts s.at h operator_like _) (lacks (other ts s.at h (other_word _ _ refl refl)) (finds p h (goes h (halts (into_string a)))))
  into_tail {ts = ts} {s = s} (r.is_halts {p = p} h a) = lacks (no_operator ts s.at h operator_is _) (lacks (other ts s.at h (other_word _ _ refl refl)) (lacks (other ts s.at h (other_word _ _ refl refl)) (finds p h (goes h (halts (into_path a))))))
  into_tail {ts = ts} {s = s} (r.is_type {p = p} h a n) = lacks (no_operator ts s.at h operator_is _) (lacks (other ts s.at h (other_word _ _ refl refl)) (lacks (other ts s.at h (other_word _ _ refl refl)) (finds p h (goes h (calls (into_path a) (lacks n does))))))
  into_tail {ts = ts} {s = s} (r.is_in_halts {p = p} {q = q} h a g b) = lacks (no_operator ts s.at h operator_is _) (lacks (other ts s.at h (other_word _ _ refl refl)) (lacks (other ts s.at h (other_word _ _ refl refl)) (finds p h (goes h (calls (into_path a) (finds q g (goes g (halts (into_chain b)))))))))
  into_tail {ts = ts} {s = s} (r.is_in {p = p} {q = q} h a g b) = lacks (no_operator ts s.at h operator_is _) (lacks (other ts s.at h (other_word _ _ refl refl)) (lacks (other ts s.at h (other_word _ _ refl refl)) (finds p h (goes h (calls (into_path a) (finds q g (goes g (calls (into_chain b) does))))))))

  pub into_unary : {ts : List Lexeme} {s : Cursor} {o : Outcome Expr} → ReadsUnary ts s o → Runs all_limits ts sort.tree (production n.unary) s o
  into_unary (r.no_prefix n a) = lacks (λ x h. n x.0 x.1 h) (tail (into_member a))
  into_unary (r.prefixes {p = p} {r = o} h a) = finds (p, o) h (tail (into_prefixes a))

  pub into_prefixes : {ts : List Lexeme} {o : UnaryOperator} {m : ℕ} {s : Cursor} {x : Outcome Expr} → ReadsPrefixes ts o m s x → Runs all_limits ts sort.tree (production (n.prefixes o m)) s x
  into_prefixes (r.prefixes_spent z a) = finds tt z (tail (into_member a))
  into_prefixes (r.prefixes_end l n a) = lacks (λ x z. omega (arith, l, z)) (lacks n (tail (into_member a)))
  into_prefixes (r.prefix_deep {p = p} l h f) = lacks (λ x z. omega (arith, l, z)) (finds p h (breaks refl h.is refl f))
  into_prefixes (r.least_deep {p = p} l h f g) = lacks (λ x z. omega (arith, l, z)) (finds p (minus_prefix h.minus) (keeps (λ k. f) (goes h.minus (finds tt (refl, (h.place, h.digits)) (breaks refl h.digits refl g)))))
  into_prefixes (r.least {p = p} l h f g a) = lacks (λ x z. omega (arith, l, z)) (finds p (minus_prefix h.minus) (keeps (λ k. f) (goes h.minus (finds tt (refl, (h.place, h.digits)) (keeps (λ k. g) (goes h.digits (tail (into_accesses a))))))))
  into_prefixes (r.prefix_halts {p = p} l h f n a) = lacks (λ x z. omega (arith, l, z)) (finds p h (keeps (λ k. f) (goes h.is (lacks (λ x e. n e.0 e.1.0 e.1.1) (halts (into_prefixes a))))))
  into_prefixes (r.prefix {p = p} l h f n a) = lacks (λ x z. omega (arith, l, z)) (finds p h (keeps (λ k. f) (goes h.is (lacks (λ x e. n e.0 e.1.0 e.1.1) (calls (into_prefixes a) does)))))

  pub into_member : {ts : List Lexeme} {s : Cursor} {o : Outcome Expr} → ReadsMember ts s o → Runs all_limits ts sort.tree (production n.member) s o
  into_member (r.member a b) = calls (into_primary a) (tail (into_accesses b))
  into_member (r.member_halts a) = halts (into_primary a)

  pub into_accesses : {ts : List Lexeme} {s : Cursor} {a : Expr} {o : Outcome Expr} → ReadsAccesses ts s a o → Runs all_limits ts sort.tree (production (n.accesses a)) s o
  into_accesses (r.no_access n) = lacks n.dot (lacks n.bracket does)
  into_accesses {ts = ts} {s = s} (r.index_halts {p = p} h a) = lacks (other ts s.at h (λ e. cc)) (finds p h (goes h (halts (into_string a))))
  into_accesses {ts = ts} {s = s} (r.index_unclosed {p = p} h a n) = lacks (other ts s.at h (λ e. cc)) (finds p h (goes h (calls (into_string a) (lacks n fails))))
  into_accesses {ts = ts} {s = s} (r.index {p = p} {q = q} h a g b) = lacks (other ts s.at h (λ e. cc)) (finds p h (goes h (calls (into_string a) (finds q g (goes g (tail (into_accesses b)))))))
  into_accesses (r.dot_halts {p = p} h a) = finds p h (goes h (halts (into_ident a)))
  into_accesses (r.access {p = p} h a n b) = finds p h (goes h (calls (into_ident a) (lacks n (tail (into_accesses b)))))
  into_accesses (r.arguments_halt {p = p} {r = q} h a g b) = finds p h (goes h (calls (into_ident a) (finds q g (goes g (halts (into_items b))))))
  into_accesses (r.no_method {p = p} {r = q} h a g b e) = finds p h (goes h (calls (into_ident a) (finds q g (goes g (calls (into_items b) (lacks (nothing e) (breaks refl (items_closed b).1 refl refl)))))))
  into_accesses (r.method {x = x} {p = p} {r = q} h a g b e c) = finds p h (goes h (calls (into_ident a) (finds q g (goes g (calls (into_items b) (finds x e (goes (items_closed b).1 (tail (into_accesses c)))))))))

  pub into_primary : {ts : List Lexeme} {s : Cursor} {o : Outcome Expr} → ReadsPrimary ts s o → Runs all_limits ts sort.tree (production n.primary) s o
  into_primary (r.no_primary n) = lacks (λ x h. n h) fails
  into_primary (r.primary_deep h f) = finds tt h (breaks refl h.is refl f)
  into_primary (r.truth h f) = at_true h (λ k. f) (goes h does)
  into_primary (r.falsehood h f) = at_false h (λ k. f) (goes h does)
  into_primary (r.number h f e) = at_number h (λ k. f) (keeps (λ k. e) (goes h does))
  into_primary (r.number_large h f e) = at_number h (λ k. f) (breaks refl h refl e)
  into_primary (r.text h f) = at_string h (λ k. f) (goes h does)
  into_primary (r.variable {w = w} {x = x} h e f n) = at_ident (h, variable_ident w x e) (λ k. f) (lacks n (finds x e does))
  into_primary (r.entity_primary {q = q} h f g a) = at_ident h (λ k. f) (finds q g (calls (into_more_entity a) does))
  into_primary (r.entity_primary_halts {q = q} h f g a) = at_ident h (λ k. f) (finds q g (halts (into_more_entity a)))
  into_primary (r.lone_ident h e f n m) = at_ident h (λ k. f) (lacks n (lacks (nothing e) (lacks m fails)))
  into_primary {ts = ts} {s = s} (r.function_halts {q = q} h e f g a) = at_ident h (λ k. f) (lacks (other ts (s.at + 1) g (λ e. cc)) (lacks (nothing e) (finds q g (goes g (halts (into_items a))))))
  into_primary {ts = ts} {s = s} (r.no_function {q = q} h e f g a d) = at_ident h (λ k. f) (lacks (other ts (s.at + 1) g (λ e. cc)) (lacks (nothing e) (finds q g (goes g (calls (into_items a) (lacks (nothing d) (breaks refl (items_closed a).1 refl refl)))))))
  into_primary {ts = ts} {s = s} (r.function {q = q} {x = x} h e f g a d) = at_ident h (λ k. f) (lacks (other ts (s.at + 1) g (λ e. cc)) (lacks (nothing e) (finds q g (goes g (calls (into_items a) (finds x d (goes (items_closed a).1 does)))))))
  into_primary (r.parenthesis h f a) = at_parenthesis h (λ k. f) (goes h (tail (into_enclosed a)))
  into_primary (r.set_halts h f a) = at_bracket h (λ k. f) (goes h (halts (into_items a)))
  into_primary (r.set h f a) = at_bracket h (λ k. f) (goes h (calls (into_items a) (goes (items_closed a).1 does)))
  into_primary (r.record_halts h f a) = at_brace h (λ k. f) (goes h (halts (into_fields a)))
  into_primary (r.fields h f a) = at_brace h (λ k. f) (goes h (calls (into_fields a) (goes (fields_closed a).1 does)))

  pub into_items : {ts : List Lexeme} {c : Close} {s : Cursor} {xs : List Expr} {o : Outcome (List Expr)} → ReadsItems ts c s xs o → Runs all_limits ts sort.trees (production (n.items c xs)) s o
  into_items (r.items_end {p = p} h) = finds p h does
  into_items (r.item_halts n a) = lacks n (halts (into_inner a))
  into_items (r.last_item {p = p} n a h) = lacks n (calls (into_inner a) (finds p h does))
  into_items (r.no_comma n a m l) = lacks n (calls (into_inner a) (lacks m (lacks l fails)))
  into_items {ts = ts} {c = c} (r.more_items {t = t} {p = p} n a h b) = lacks n (calls (into_inner a) (lacks (other ts t.at h (comma_closes_none c)) (finds p h (goes h (tail (into_items b))))))

  pub into_fields : {ts : List Lexeme} {s : Cursor} {fs : List (List ℕ × Expr)} {o : Outcome (List (List ℕ × Expr))} → ReadsFields ts s fs o → Runs all_limits ts sort.fields (production (n.fields fs)) s o
  into_fields (r.fields_end {p = p} h) = finds p h does
  into_fields (r.key_halts n a) = lacks n (halts (into_key a))
  into_fields (r.no_colon n a m) = lacks n (calls (into_key a) (lacks m fails))
  into_fields (r.field_halts {p = p} n a h b) = lacks n (calls (into_key a) (finds p h (goes h (halts (into_inner b)))))
  into_fields (r.last_field {p = p} {q = q} n a h b g) = lacks n (calls (into_key a) (finds p h (goes h (calls (into_inner b) (finds q g does)))))
  into_fields (r.no_field_comma {p = p} n a h b m l) = lacks n (calls (into_key a) (finds p h (goes h (calls (into_inner b) (lacks m (lacks l fails))))))
  into_fields {ts = ts} (r.more_fields {u = u} {p = p} {q = q} n a h b g c) = lacks n (calls (into_key a) (finds p h (goes h (calls (into_inner b) (lacks (other ts u.at g (λ e. cc)) (finds q g (goes g (tail (into_fields c)))))))))
