-- An expression at which reading stops can be completed.
use Rattle.std.proofs.Common.{◌≡◌, ℕ, ◌+◌, ◌-◌, ◌≤◌, ◌<◌, ◌++◌, List, [], ◌∷◌, refl, arith, length, le_refl, true}
use Rattle.sc_ast.specs.declared.place.Place.{Place}
use Rattle.sc_ast.specs.declared.expr.Expr.{Expr}
use Rattle.sc_ast.specs.declared.expr.Expr.TheVariants as expr
use Rattle.sc_ast.specs.declared.literal.Literal.TheVariants as literal
use Rattle.sc_ast.specs.declared.operator.UnaryOperator.{UnaryOperator}
use Rattle.sc_lexer.specs.declared.token.Kind.TheVariants as kind
use Rattle.sc_lexemes.specs.declared.cursor.Cursor.{Cursor}
use Rattle.sc_lexemes.specs.declared.lexeme.Lexeme.{Lexeme}
use Rattle.sc_lexemes.specs.declared.operator.Close.{Close}
use Rattle.sc_lexemes.specs.declared.operator.Close.TheVariants as close
use Rattle.sc_lexemes.specs.declared.operator.Level.{Level}
use Rattle.sc_lexemes.specs.declared.operator.Level.TheVariants as level
use Rattle.sc_lexemes.specs.declared.stop.Stop.{Stop}
use Rattle.sc_lexemes.specs.declared.stop.Stop.TheVariants as stop
use Rattle.sc_lexemes.specs.Depth.{fits, next, past, inside, back}
use Rattle.sc_parser.specs.Faults.{Shares}
use Rattle.sc_parser.specs.Grammar.{Ident, ident, Expression, Inner, Enclosed, Chain, MoreOperands, Operand, Relation, Prefixes, Member, Accesses, Items, Fields, Unary, chain_or, if_then_else, inner, enclosed, chain, operands_end, operands_more, operand_or, operand_and, operand_add, operand_multiply, sum, comparison, has, like, is_type, is_in, no_prefix, prefixes_end, least, prefix, member, no_access, index, access, method, no_method, number, uid, no_function, parenthesis, set, fields, last_item, last_field}
use Rattle.sc_parser.specs.Grammar as plain
use Rattle.sc_parser.specs.Limits.{Limits, all_limits}
use Rattle.sc_lexemes.specs.Lexemes.{IsIdent}
use Rattle.sc_lexemes.specs.Outcomes.{halt}
use Rattle.sc_parser.specs.Reads.{ReadsExpr, ReadsInner, ReadsEnclosed, ReadsChain, ReadsMore, ReadsOperand, ReadsRelation, ReadsTail, ReadsUnary, ReadsPrefixes, ReadsMember, ReadsAccesses, ReadsPrimary, ReadsItems, ReadsFields}
use Rattle.sc_parser.specs.Reads as r
use Rattle.sc_lexemes.specs.Tables.{joined, called, applied, least_long}
use Rattle.sc_parser.proofs.PlainForwardLaws.{fwd_ident, fwd_string, fwd_enclosed, fwd_operand, fwd_primary, fwd_items, fwd_inner, fwd_path}
use Rattle.sc_parser.proofs.PlainReadsLaws.{from_ident, from_string, from_enclosed, from_operand, from_primary, from_items, from_inner, from_path}
use Rattle.sc_parser.proofs.PlainTokensLaws.{fewer, moved, inner_same, moved_operator, moved_prefix, moved_least}
use Rattle.sc_parser.proofs.ViableFillerLaws.{yes, yes_expr, close_token, true_primary, true_inner, true_enclosed, unary_of, method_call, function_call, SomePrimary, deep_primary}
use Rattle.sc_parser.proofs.ViableKeptLaws.{kept_ident, kept_string, kept_path, kept_key, kept_inner, kept_enclosed, kept_chain, kept_operand, kept_primary, kept_items}
use Rattle.sc_parser.proofs.ViableNamesLaws.{quotes, SomeIdent, SomeString, SomeNames, SomePath, SomeEntityRest, SomeKey, more_ident, more_string, more_names, more_path, more_more_entity, more_key, whole_entity, short_rest}
use Rattle.sc_parser.proofs.ViableStopsLaws.{stop_ident, stop_string, stop_names, stop_path, stop_more_entity, stop_enclosed, stop_inner, stop_more, stop_operand, stop_chain, stop_tail, stop_prefixes, stop_accesses, stop_items, stop_fields}
use Rattle.sc_parser.proofs.ViableTokensLaws.{cut, Frees, far, loose, Done, head_of, rest_of, leaf, onward, carry, sign, closing_differs, planted_same, no_number, Stays, stays}

abbrev pub SomeExpr : Limits → Cursor → List Lexeme → Cursor → Type 0
SomeExpr K s us t = (x : Expr) × Expression K us s x t

abbrev pub SomeInner : Limits → Cursor → List Lexeme → Cursor → Type 0
SomeInner K s us t = (x : Expr) × Inner K us s x t

abbrev pub SomeEnclosed : Limits → Close → Cursor → List Lexeme → Cursor → Type 0
SomeEnclosed K c s us t = (x : Expr) × Enclosed K us c s x t

abbrev SomeChain : Limits → Level → Cursor → List Lexeme → Cursor → Type 0
SomeChain K l s us t = (x : Expr) × Chain K us l s x t

abbrev SomeMore : Limits → Level → Cursor → Expr → List Lexeme → Cursor → Type 0
SomeMore K l s a us t = (x : Expr) × MoreOperands K us l s a x t

abbrev SomeOperand : Limits → Level → Cursor → List Lexeme → Cursor → Type 0
SomeOperand K l s us t = (x : Expr) × Operand K us l s x t

abbrev SomeRelation : Limits → Cursor → List Lexeme → Cursor → Type 0
SomeRelation K s us t = (x : Expr) × Relation K us s x t

-- a relation, with any left side up to there
abbrev SomeTail : Limits → Cursor → Expr → List Lexeme → Cursor → Type 0
SomeTail K s a us t = (x : Expr) × ((q : Cursor) → Chain K us level.Add q a s → Relation K us q x t)

abbrev SomeUnary : Limits → Cursor → List Lexeme → Cursor → Type 0
SomeUnary K s us t = (x : Expr) × Unary K us s x t

abbrev SomePrefixes : Limits → UnaryOperator → ℕ → List Lexeme → Cursor → List Lexeme → Cursor → Type 0
SomePrefixes K q m ts s us t = (x : Expr) × Prefixes K us q m s x t × Stays ts us s.at

abbrev SomeMember : Limits → List Lexeme → Cursor → List Lexeme → Cursor → Type 0
SomeMember K ts s us t = (x : Expr) × Member K us s x t × Stays ts us s.at

abbrev SomeAccesses : Limits → Cursor → Expr → List Lexeme → Cursor → Type 0
SomeAccesses K s a us t = (x : Expr) × Accesses K us s a x t

abbrev SomeItems : Limits → Close → Cursor → List Expr → List Lexeme → Cursor → Type 0
SomeItems K c s xs us t = (ys : List Expr) × Items K us c s xs ys t

abbrev SomeFields : Limits → Cursor → List (List ℕ × Expr) → List Lexeme → Cursor → Type 0
SomeFields K s fs us t = (gs : List (List ℕ × Expr)) × Fields K us s fs gs t

kept_word : {K : Limits} {ts us : List Lexeme} {s : Cursor} {c : ℕ} {p : Place} {v : List ℕ} → Shares ts us c → s.at < c → IsIdent ts s.at p v → fits s ≡ true → Ident K us s p v (next s)
kept_word b l h f = ident (moved b l h.0, h.1) (λ k. f)

mutual
  pub more_expr : {K : Limits} {ts : List Lexeme} {s : Cursor} {f : Stop} {n : ℕ} → Frees K f n → (rest : List Lexeme) → cut f n ≤ length ts → ReadsExpr ts s (halt f n) → Done (SomeExpr K s) ts (cut f n) rest
  more_expr {K = K} {s = s} g rest w (r.chain_or h p) = carry (SomeChain K level.Or s) (SomeExpr K s) (more_chain g rest w p) (λ us t b x. (x.0, chain_or x.1))
  more_expr {K = K} {s = s} g rest w (r.if_deep {p = o} h f) = leaf (SomeExpr K s) (next s) (next (next (next (next (next (next s)))))) (yes ∷ close_token close.Then ∷ yes ∷ close_token close.Else ∷ yes ∷ rest) w (omega arith) (λ us d. rest_of (rest_of (rest_of (rest_of (rest_of d))))) (λ us b d. (expr.If o yes_expr yes_expr yes_expr, if_then_else (moved b (omega arith) h) (loose (g.here stop.TooDeep refl)) (true_enclosed close.Then (next s) g.later (omega arith) d) (true_enclosed close.Else (next (next (next s))) g.later (omega arith) (rest_of (rest_of d))) (true_inner (next (next (next (next (next s))))) g.later (omega arith) (rest_of (rest_of (rest_of (rest_of d)))))))
  more_expr {K = K} {s = s} g rest w (r.condition_halts {p = o} h f p) =
      let i = far g in
      let j = stop_enclosed p in
      onward (SomeEnclosed K close.Then (next s)) (SomeExpr K s) (λ t. next (next (next t))) (more_enclosed g (yes ∷ close_token close.Else ∷ yes ∷ rest) w p) (λ t. omega arith) (λ us t d. rest_of (rest_of (rest_of d))) (λ us t b a d x. (expr.If o x.0 yes_expr yes_expr, if_then_else (moved b (omega (arith, i, j)) h) (λ k. f) x.1 (true_enclosed close.Else t g.later a d) (true_inner (next (next t)) g.later (omega (arith, a)) (rest_of (rest_of d)))))
  more_expr {K = K} {s = s} g rest w (r.then_halts {t = t} {p = o} {c = y} h f p q) =
      let i = far g in
      let j = stop_enclosed q in
      let k = fwd_enclosed (from_enclosed all_limits p) in
      onward (SomeEnclosed K close.Else t) (SomeExpr K s) (λ u. next u) (more_enclosed g (yes ∷ rest) w q) (λ u. omega arith) (λ us u d. rest_of d) (λ us u b a d x. (expr.If o y x.0 yes_expr, if_then_else (moved b (omega (arith, i, j, k)) h) (λ e. f) (kept_enclosed (fewer b (omega (arith, i, j))) p) x.1 (true_inner u g.later a d)))
  more_expr {K = K} {s = s} g rest w (r.else_halts {u = u} {p = o} {c = y} {a = z} h f p q v) =
      let i = far g in
      let j = stop_inner v in
      let k = fwd_enclosed (from_enclosed all_limits p) in
      let m = fwd_enclosed (from_enclosed all_limits q) in
      carry (SomeInner K u) (SomeExpr K s) (more_inner g rest w v) (λ us t b x. (expr.If o y z x.0, if_then_else (moved b (omega (arith, i, j, k, m)) h) (λ e. f) (kept_enclosed (fewer b (omega (arith, i, j, m))) p) (kept_enclosed (fewer b (omega (arith, i, j))) q) x.1))

  pub more_inner : {K : Limits} {ts : List Lexeme} {s : Cursor} {f : Stop} {n : ℕ} → Frees K f n → (rest : List Lexeme) → cut f n ≤ length ts → ReadsInner ts s (halt f n) → Done (SomeInner K s) ts (cut f n) rest
  more_inner {K = K} {s = s} g rest w (r.inner_halts p) = onward (SomeExpr K (inside s)) (SomeInner K s) (λ t. back s t) (more_expr g rest w p) (λ t. le_refl t.at) (λ us t d. d) (λ us t b a d x. (x.0, inner x.1))

  pub more_enclosed : {K : Limits} {ts : List Lexeme} {c : Close} {s : Cursor} {f : Stop} {n : ℕ} → Frees K f n → (rest : List Lexeme) → cut f n ≤ length ts → ReadsEnclosed ts c s (halt f n) → Done (SomeEnclosed K c s) ts (cut f n) rest
  more_enclosed {K = K} {c = c} {s = s} g rest w (r.unclosed {t = t} {x = y} p h) = leaf (SomeEnclosed K c s) t (next t) (close_token c ∷ rest) w (omega arith) (λ us d. rest_of d) (λ us b d. (y, enclosed (kept_inner (planted_same b (head_of d) (closing_differs c)) p) (head_of d)))
  more_enclosed {K = K} {c = c} {s = s} g rest w (r.enclosed_halts p) = onward (SomeInner K s) (SomeEnclosed K c s) (λ t. next t) (more_inner g (close_token c ∷ rest) w p) (λ t. omega arith) (λ us t d. rest_of d) (λ us t b a d x. (x.0, enclosed x.1 (head_of d)))

  more_chain : {K : Limits} {ts : List Lexeme} {l : Level} {s : Cursor} {f : Stop} {n : ℕ} → Frees K f n → (rest : List Lexeme) → cut f n ≤ length ts → ReadsChain ts l s (halt f n) → Done (SomeChain K l s) ts (cut f n) rest
  more_chain {K = K} {l = l} {s = s} g rest w (r.chain {t = t} {a = y} p q) =
      let i = far g in
      let j = stop_more q in
      carry (SomeMore K l t y) (SomeChain K l s) (more_more g rest w q) (λ us u b x. (x.0, chain (kept_operand (inner_same b (omega (arith, i, j))) p) x.1))
  more_chain {K = K} {l = l} {s = s} g rest w (r.chain_halts p) = carry (SomeOperand K l s) (SomeChain K l s) (more_operand g rest w p) (λ us t b x. (x.0, chain x.1 operands_end))

  more_more : {K : Limits} {ts : List Lexeme} {l : Level} {s : Cursor} {a : Expr} {f : Stop} {n : ℕ} → Frees K f n → (rest : List Lexeme) → cut f n ≤ length ts → ReadsMore ts l s a (halt f n) → Done (SomeMore K l s a) ts (cut f n) rest
  more_more {K = K} {l = l} {s = s} {a = y} g rest w (r.more_halts {p = o} {r = z} h p) =
      let i = far g in
      let j = stop_operand p in
      carry (SomeOperand K l (past s)) (SomeMore K l s y) (more_operand g rest w p) (λ us t b x. (joined z o y x.0, operands_more (moved_operator b (omega (arith, i, j)) h) x.1 operands_end))
  more_more {K = K} {l = l} {s = s} {a = y} g rest w (r.more {t = t} {b = v} {p = o} {r = z} h p q) =
      let i = far g in
      let j = stop_more q in
      let k = fwd_operand (from_operand all_limits p) in
      carry (SomeMore K l t (joined z o y v)) (SomeMore K l s y) (more_more g rest w q) (λ us u b x. (x.0, operands_more (moved_operator b (omega (arith, i, j, k)) h) (kept_operand (inner_same b (omega (arith, i, j))) p) x.1))

  more_operand : {K : Limits} {ts : List Lexeme} {l : Level} {s : Cursor} {f : Stop} {n : ℕ} → Frees K f n → (rest : List Lexeme) → cut f n ≤ length ts → ReadsOperand ts l s (halt f n) → Done (SomeOperand K l s) ts (cut f n) rest
  more_operand {K = K} {s = s} g rest w (r.operand_or p) = carry (SomeChain K level.And s) (SomeOperand K level.Or s) (more_chain g rest w p) (λ us t b x. (x.0, operand_or x.1))
  more_operand {K = K} {s = s} g rest w (r.operand_and p) = carry (SomeRelation K s) (SomeOperand K level.And s) (more_relation g rest w p) (λ us t b x. (x.0, operand_and x.1))
  more_operand {K = K} {s = s} g rest w (r.operand_add p) = carry (SomeChain K level.Multiply s) (SomeOperand K level.Add s) (more_chain g rest w p) (λ us t b x. (x.0, operand_add x.1))
  more_operand {K = K} {s = s} g rest w (r.operand_multiply p) = carry (SomeUnary K s) (SomeOperand K level.Multiply s) (more_unary g rest w p) (λ us t b x. (x.0, operand_multiply x.1))

  more_relation : {K : Limits} {ts : List Lexeme} {s : Cursor} {f : Stop} {n : ℕ} → Frees K f n → (rest : List Lexeme) → cut f n ≤ length ts → ReadsRelation ts s (halt f n) → Done (SomeRelation K s) ts (cut f n) rest
  more_relation {K = K} {s = s} g rest w (r.relation {t = t} {a = y} p q) =
      let i = far g in
      let j = stop_tail q in
      carry (SomeTail K t y) (SomeRelation K s) (more_tail g rest w q) (λ us u b x. (x.0, x.1 s (kept_chain (inner_same b (omega (arith, i, j))) p)))
  more_relation {K = K} {s = s} g rest w (r.relation_halts p) = carry (SomeChain K level.Add s) (SomeRelation K s) (more_chain g rest w p) (λ us t b x. (x.0, sum x.1))

  more_tail : {K : Limits} {ts : List Lexeme} {s : Cursor} {a : Expr} {f : Stop} {n : ℕ} → Frees K f n → (rest : List Lexeme) → cut f n ≤ length ts → ReadsTail ts s a (halt f n) → Done (SomeTail K s a) ts (cut f n) rest
  more_tail {K = K} {s = s} {a = y} g rest w (r.compare_halts {p = o} {r = z} h p) =
      let i = far g in
      let j = stop_chain p in
      carry (SomeChain K level.Add (past s)) (SomeTail K s y) (more_chain g rest w p) (λ us t b x. (joined z o y x.0, λ q c. comparison c (moved_operator b (omega (arith, i, j)) h) x.1))
  more_tail {K = K} {s = s} {a = y} g rest w (r.has_halts {p = o} h p) =
      let i = far g in
      let j = stop_names p in
      carry (SomeNames K (past s)) (SomeTail K s y) (more_names g rest w p) (λ us t b x. (expr.Has o y x.0, λ q c. has c (moved b (omega (arith, i, j)) h) x.1))
  more_tail {K = K} {s = s} {a = y} g rest w (r.like_halts {p = o} h p) =
      let i = far g in
      let j = stop_string p in
      carry (SomeString K (past s)) (SomeTail K s y) (more_string g rest w p) (λ us t b x. (expr.Like o y x.1, λ q c. like c (moved b (omega (arith, i, j)) h) x.2))
  more_tail {K = K} {s = s} {a = y} g rest w (r.is_halts {p = o} h p) =
      let i = far g in
      let j = stop_path p in
      carry (SomePath K (past s)) (SomeTail K s y) (more_path g rest w p) (λ us t b x. (expr.Is o y x.0, λ q c. is_type c (moved b (omega (arith, i, j)) h) x.1))
  more_tail {K = K} {s = s} {a = y} g rest w (r.is_in_halts {t = t} {p = o} {q = e} {y = z} h p l u) =
      let i = far g in
      let j = stop_chain u in
      let k = fwd_path (from_path all_limits p) in
      carry (SomeChain K level.Add (past t)) (SomeTail K s y) (more_chain g rest w u) (λ us v b x. (expr.IsIn o y z e x.0, λ q c. is_in c (moved b (omega (arith, i, j, k)) h) (kept_path (fewer b (omega (arith, i, j))) p) (moved b (omega (arith, i, j)) l) x.1))

  more_unary : {K : Limits} {ts : List Lexeme} {s : Cursor} {f : Stop} {n : ℕ} → Frees K f n → (rest : List Lexeme) → cut f n ≤ length ts → ReadsUnary ts s (halt f n) → Done (SomeUnary K s) ts (cut f n) rest
  more_unary {K = K} {ts = ts} {s = s} g rest w (r.no_prefix h p) = carry (SomeMember K ts s) (SomeUnary K s) (more_member g rest w p) (λ us t b x. (x.0, no_prefix x.1))
  more_unary {K = K} {ts = ts} {s = s} g rest w (r.prefixes {r = z} h p) = carry (SomePrefixes K z 4 ts s) (SomeUnary K s) (more_prefixes g rest w p) (λ us t b x. (x.0, unary_of x.1 (λ y. y)))

  more_prefixes : {K : Limits} {ts : List Lexeme} {q : UnaryOperator} {m : ℕ} {s : Cursor} {f : Stop} {n : ℕ} → Frees K f n → (rest : List Lexeme) → cut f n ≤ length ts → ReadsPrefixes ts q m s (halt f n) → Done (SomePrefixes K q m ts s) ts (cut f n) rest
  more_prefixes {K = K} {ts = ts} {q = q} {m = m} {s = s} g rest w (r.prefixes_spent z p) = carry (SomeMember K ts s) (SomePrefixes K q m ts s) (more_member g rest w p) (λ us t b x. (x.0, prefixes_end x.1, x.2))
  more_prefixes {K = K} {ts = ts} {q = q} {m = m} {s = s} g rest w (r.prefixes_end z h p) = carry (SomeMember K ts s) (SomePrefixes K q m ts s) (more_member g rest w p) (λ us t b x. (x.0, prefixes_end x.1, x.2))
  more_prefixes {K = K} {ts = ts} {q = q} {m = m} {s = s} g rest w (r.prefix_deep {p = o} z h f) = leaf (SomePrefixes K q m ts s) (past s) (next (past s)) (yes ∷ rest) w (omega arith) (λ us d. rest_of d) (λ us b d. (expr.Unary o q yes_expr, prefix z (moved_prefix b (omega arith) h) (loose (g.here stop.TooDeep refl)) (λ e i l. no_number d l) (prefixes_end (member (true_primary (past s) g.later (omega arith) d) no_access)), stays b (omega arith)))
  more_prefixes {K = K} {ts = ts} {q = q} {m = m} {s = s} g rest w (r.least_deep {p = o} z h f l) = leaf (SomePrefixes K q m ts s) (next (past s)) (next (past s)) rest w (le_refl (s.at + 1 + 1)) (λ us d. d) (λ us b d. (expr.Literal o (literal.Long least_long), least z (moved_least b (omega arith) h) (λ k. f) (loose (g.here stop.TooDeep refl)) no_access, stays b (omega arith)))
  more_prefixes {K = K} {ts = ts} {q = q} {m = m} {s = s} g rest w (r.least {p = o} z h f l p) =
      let i = far g in
      let j = stop_accesses p in
      carry (SomeAccesses K (next (past s)) (expr.Literal o (literal.Long least_long))) (SomePrefixes K q m ts s) (more_accesses g rest w p) (λ us t b x. (x.0, least z (moved_least b (omega (arith, i, j)) h) (λ k. f) (λ k. l) x.1, stays b (omega (arith, i, j))))
  more_prefixes {K = K} {ts = ts} {q = q} {m = m} {s = s} g rest w (r.prefix_halts {p = o} z h f e p) =
      let i = far g in
      let j = stop_prefixes p in
      carry (SomePrefixes K q (m - 1) ts (past s)) (SomePrefixes K q m ts s) (more_prefixes g rest w p) (λ us t b x. (expr.Unary o q x.0, prefix z (moved_prefix b (omega (arith, i, j)) h) (λ k. f) (λ k v l. e k v (x.2 v l)) x.1, stays b (omega (arith, i, j))))

  more_member : {K : Limits} {ts : List Lexeme} {s : Cursor} {f : Stop} {n : ℕ} → Frees K f n → (rest : List Lexeme) → cut f n ≤ length ts → ReadsMember ts s (halt f n) → Done (SomeMember K ts s) ts (cut f n) rest
  more_member {K = K} {ts = ts} {s = s} g rest w (r.member {t = t} {a = y} p q) =
      let i = far g in
      let j = stop_accesses q in
      let k = fwd_primary (from_primary all_limits p) in
      carry (SomeAccesses K t y) (SomeMember K ts s) (more_accesses g rest w q) (λ us u b x. (x.0, member (kept_primary (inner_same b (omega (arith, i, j))) p) x.1, stays b (omega (arith, i, j, k))))
  more_member {K = K} {ts = ts} {s = s} g rest w (r.member_halts p) = carry (SomePrimary K ts s) (SomeMember K ts s) (more_primary g rest w p) (λ us t b x. (x.0, member x.1 no_access, x.2))

  more_accesses : {K : Limits} {ts : List Lexeme} {s : Cursor} {a : Expr} {f : Stop} {n : ℕ} → Frees K f n → (rest : List Lexeme) → cut f n ≤ length ts → ReadsAccesses ts s a (halt f n) → Done (SomeAccesses K s a) ts (cut f n) rest
  more_accesses {K = K} {s = s} {a = y} g rest w (r.index_halts {p = o} h p) =
      let i = far g in
      let j = stop_string p in
      onward (SomeString K (past s)) (SomeAccesses K s y) (λ t. next t) (more_string g (sign kind.CloseBracket ∷ rest) w p) (λ t. omega arith) (λ us t d. rest_of d) (λ us t b a d x. (expr.Access o y x.0, index (moved b (omega (arith, i, j)) h) x.2 (head_of d) no_access))
  more_accesses {K = K} {s = s} {a = y} g rest w (r.index_unclosed {t = t} {p = o} {w = v} h p l) =
      let k = fwd_string (from_string all_limits p) in
      leaf (SomeAccesses K s y) t (next t) (sign kind.CloseBracket ∷ rest) w (omega arith) (λ us d. rest_of d) (λ us b d. (expr.Access o y v, index (moved b (omega (arith, k)) h) (kept_string b p) (head_of d) no_access))
  more_accesses {K = K} {s = s} {a = y} g rest w (r.index {t = t} {p = o} {w = v} h p l q) =
      let i = far g in
      let j = stop_accesses q in
      let k = fwd_string (from_string all_limits p) in
      carry (SomeAccesses K (next t) (expr.Access o y v)) (SomeAccesses K s y) (more_accesses g rest w q) (λ us u b x. (x.0, index (moved b (omega (arith, i, j, k)) h) (kept_string (fewer b (omega (arith, i, j))) p) (moved b (omega (arith, i, j)) l) x.1))
  more_accesses {K = K} {s = s} {a = y} g rest w (r.dot_halts {p = o} h p) =
      let i = far g in
      let j = stop_ident p in
      carry (SomeIdent K (past s)) (SomeAccesses K s y) (more_ident g rest w p) (λ us t b x. (expr.Access o y x.1, access (moved b (omega (arith, i, j)) h) x.2 no_access))
  more_accesses {K = K} {s = s} {a = y} g rest w (r.access {t = t} {p = o} {w = v} h p l q) =
      let i = far g in
      let j = stop_accesses q in
      let k = fwd_ident (from_ident all_limits p) in
      carry (SomeAccesses K t (expr.Access o y v)) (SomeAccesses K s y) (more_accesses g rest w q) (λ us u b x. (x.0, access (moved b (omega (arith, i, j, k)) h) (kept_ident (fewer b (omega (arith, i, j))) p) x.1))
  more_accesses {K = K} {s = s} {a = y} g rest w (r.arguments_halt {t = t} {p = o} {w = v} h p l q) =
      let i = far g in
      let j = stop_items q in
      let k = fwd_ident (from_ident all_limits p) in
      onward (SomeItems K close.Parenthesis (next t) []) (SomeAccesses K s y) (λ u. next u) (more_items g rest w q) (λ u. omega arith) (λ us u d. rest_of d) (λ us u b a d x. method_call (moved b (omega (arith, i, j, k)) h) (kept_ident (fewer b (omega (arith, i, j))) p) (moved b (omega (arith, i, j)) l) x.1 (g.later stop.BadCall u.at a) (called o y v x.0) refl)
  more_accesses {K = K} {s = s} {a = y} g rest w (r.no_method {t = t} {u = u} {p = o} {w = v} h p l q e) =
      let j = fwd_items (from_items all_limits q) in
      let k = fwd_ident (from_ident all_limits p) in
      leaf (SomeAccesses K s y) (next u) (next u) rest w (le_refl (u.at + 1)) (λ us d. d) (λ us b d. (y, no_method (moved b (omega (arith, j, k)) h) (kept_ident (fewer b (omega (arith, j))) p) (moved b (omega (arith, j)) l) (kept_items b q) e (loose (g.here stop.BadCall refl)) no_access))
  more_accesses {K = K} {s = s} {a = y} g rest w (r.method {t = t} {u = u} {x = z} {p = o} {w = v} h p l q e c) =
      let i = far g in
      let j = fwd_items (from_items all_limits q) in
      let k = fwd_ident (from_ident all_limits p) in
      let m = stop_accesses c in
      carry (SomeAccesses K (next u) z) (SomeAccesses K s y) (more_accesses g rest w c) (λ us o b x. (x.0, method (moved b (omega (arith, i, j, k, m)) h) (kept_ident (fewer b (omega (arith, i, j, m))) p) (moved b (omega (arith, i, j, m)) l) (kept_items (fewer b (omega (arith, i, m))) q) e x.1))

  more_primary : {K : Limits} {ts : List Lexeme} {s : Cursor} {f : Stop} {n : ℕ} → Frees K f n → (rest : List Lexeme) → cut f n ≤ length ts → ReadsPrimary ts s (halt f n) → Done (SomePrimary K ts s) ts (cut f n) rest
  more_primary {K = K} {ts = ts} {s = s} g rest w (r.no_primary h) = leaf (SomePrimary K ts s) s (next s) (yes ∷ rest) w (omega arith) (λ us d. rest_of d) (λ us b d. (yes_expr, true_primary s g.later (le_refl s.at) d, λ o l. absurd (no_number d l)))
  more_primary g rest w (r.primary_deep h f) = deep_primary g rest w h.shape h.is h.starts
  more_primary {K = K} {ts = ts} {s = s} g rest w (r.number_large h f l) = leaf (SomePrimary K ts s) (next s) (next s) rest w (le_refl (s.at + 1)) (λ us d. d) (λ us b d. (_, number (moved b (omega arith) h) (λ k. f) (loose (g.here stop.IntRange refl)), stays b (omega arith)))
  more_primary {K = K} {ts = ts} {s = s} g rest w (r.entity_primary_halts {p = o} {w = v} h f l p) =
      let i = far g in
      let j = stop_more_entity p in
      carry (SomeEntityRest K (next s) o v) (SomePrimary K ts s) (more_more_entity g rest w p) (λ us t b x. (expr.Literal x.0.place (literal.Entity x.0.uid), uid (whole_entity (kept_word b (omega (arith, i, j)) h f) x.1), stays b (omega (arith, i, j))))
  more_primary {K = K} {ts = ts} {s = s} g rest w (r.lone_ident {p = o} {w = v} h e f l m) = leaf (SomePrimary K ts s) (next s) (next (next (next s))) (sign kind.DoubleColon ∷ quotes ∷ rest) w (omega arith) (λ us d. rest_of (rest_of d)) (λ us b d. (_, uid (whole_entity (kept_word b (omega arith) h f) (short_rest o v d)), stays b (omega arith)))
  more_primary {K = K} {ts = ts} {s = s} g rest w (r.function_halts {p = o} {w = v} h e f l p) =
      let i = far g in
      let j = stop_items p in
      onward (SomeItems K close.Parenthesis (next (next s)) []) (SomePrimary K ts s) (λ t. next t) (more_items g rest w p) (λ t. omega arith) (λ us t d. rest_of d) (λ us t b a d x. let y = function_call (moved b (omega (arith, i, j)) h.0, h.1) e (λ k. f) (moved b (omega (arith, i, j)) l) x.1 (g.later stop.BadCall t.at a) (applied o v x.0) refl in (y.0, y.1, stays b (omega (arith, i, j))))
  more_primary {K = K} {ts = ts} {s = s} g rest w (r.no_function {t = t} {p = o} {xs = xs} h e f l p m) =
      let j = fwd_items (from_items all_limits p) in
      leaf (SomePrimary K ts s) (next t) (next t) rest w (le_refl (t.at + 1)) (λ us d. d) (λ us b d. (expr.Set o xs, no_function (moved b (omega (arith, j)) h.0, h.1) e (λ k. f) (moved b (omega (arith, j)) l) (kept_items b p) m (loose (g.here stop.BadCall refl)), stays b (omega (arith, j))))
  more_primary {K = K} {ts = ts} {s = s} g rest w (r.parenthesis h f p) =
      let i = far g in
      let j = stop_enclosed p in
      carry (SomeEnclosed K close.Parenthesis (next s)) (SomePrimary K ts s) (more_enclosed g rest w p) (λ us t b x. (x.0, parenthesis (moved b (omega (arith, i, j)) h) (λ k. f) x.1, stays b (omega (arith, i, j))))
  more_primary {K = K} {ts = ts} {s = s} g rest w (r.set_halts {p = o} h f p) =
      let i = far g in
      let j = stop_items p in
      onward (SomeItems K close.Bracket (next s) []) (SomePrimary K ts s) (λ t. next t) (more_items g rest w p) (λ t. omega arith) (λ us t d. rest_of d) (λ us t b a d x. (expr.Set o x.0, set (moved b (omega (arith, i, j)) h) (λ k. f) x.1, stays b (omega (arith, i, j))))
  more_primary {K = K} {ts = ts} {s = s} g rest w (r.record_halts {p = o} h f p) =
      let i = far g in
      let j = stop_fields p in
      onward (SomeFields K (next s) []) (SomePrimary K ts s) (λ t. next t) (more_fields g rest w p) (λ t. omega arith) (λ us t d. rest_of d) (λ us t b a d x. (expr.Record o x.0, fields (moved b (omega (arith, i, j)) h) (λ k. f) x.1, stays b (omega (arith, i, j))))

  more_items : {K : Limits} {ts : List Lexeme} {c : Close} {s : Cursor} {xs : List Expr} {f : Stop} {n : ℕ} → Frees K f n → (rest : List Lexeme) → cut f n ≤ length ts → ReadsItems ts c s xs (halt f n) → Done (SomeItems K c s xs) ts (cut f n) (close_token c ∷ rest)
  more_items {K = K} {c = c} {s = s} {xs = xs} g rest w (r.item_halts h p) = onward (SomeInner K s) (SomeItems K c s xs) (λ t. t) (more_inner g (close_token c ∷ rest) w p) (λ t. le_refl t.at) (λ us t d. d) (λ us t b a d x. (xs ++ x.0 ∷ [], last_item x.1 (head_of d)))
  more_items {K = K} {c = c} {s = s} {xs = xs} g rest w (r.no_comma {t = t} {x = y} h p l m) = leaf (SomeItems K c s xs) t t (close_token c ∷ rest) w (le_refl t.at) (λ us d. d) (λ us b d. (xs ++ y ∷ [], last_item (kept_inner (planted_same b (head_of d) (closing_differs c)) p) (head_of d)))
  more_items {K = K} {c = c} {s = s} {xs = xs} g rest w (r.more_items {t = t} {x = y} h p l q) =
      let i = far g in
      let j = stop_items q in
      carry (SomeItems K c (next t) (xs ++ y ∷ [])) (SomeItems K c s xs) (more_items g rest w q) (λ us u b x. (x.0, plain.more_items (kept_inner (inner_same b (omega (arith, i, j))) p) (moved b (omega (arith, i, j)) l) x.1))

  more_fields : {K : Limits} {ts : List Lexeme} {s : Cursor} {fs : List (List ℕ × Expr)} {f : Stop} {n : ℕ} → Frees K f n → (rest : List Lexeme) → cut f n ≤ length ts → ReadsFields ts s fs (halt f n) → Done (SomeFields K s fs) ts (cut f n) (sign kind.CloseBrace ∷ rest)
  more_fields {K = K} {s = s} {fs = fs} g rest w (r.key_halts h p) = onward (SomeKey K s fs) (SomeFields K s fs) (λ t. next (next t)) (more_key g (sign kind.Colon ∷ yes ∷ sign kind.CloseBrace ∷ rest) w p) (λ t. omega arith) (λ us t d. rest_of (rest_of d)) (λ us t b a d x. (fs ++ (x.0, yes_expr) ∷ [], last_field x.1 (head_of d) (true_inner (next t) g.later (omega (arith, a)) (rest_of d)) (head_of (rest_of (rest_of d)))))
  more_fields {K = K} {s = s} {fs = fs} g rest w (r.no_colon {t = t} {w = v} h p l) = leaf (SomeFields K s fs) t (next (next t)) (sign kind.Colon ∷ yes ∷ sign kind.CloseBrace ∷ rest) w (omega arith) (λ us d. rest_of (rest_of d)) (λ us b d. (fs ++ (v, yes_expr) ∷ [], last_field (kept_key b p) (head_of d) (true_inner (next t) g.later (omega arith) (rest_of d)) (head_of (rest_of (rest_of d)))))
  more_fields {K = K} {s = s} {fs = fs} g rest w (r.field_halts {t = t} {w = v} h p l q) =
      let i = far g in
      let j = stop_inner q in
      onward (SomeInner K (next t)) (SomeFields K s fs) (λ u. u) (more_inner g (sign kind.CloseBrace ∷ rest) w q) (λ u. le_refl u.at) (λ us u d. d) (λ us u b a d x. (fs ++ (v, x.0) ∷ [], last_field (kept_key (fewer b (omega (arith, i, j))) p) (moved b (omega (arith, i, j)) l) x.1 (head_of d)))
  more_fields {K = K} {s = s} {fs = fs} g rest w (r.no_field_comma {t = t} {u = u} {w = v} {x = y} h p l q m o) =
      let j = fwd_inner (from_inner all_limits q) in
      leaf (SomeFields K s fs) u u (sign kind.CloseBrace ∷ rest) w (le_refl u.at) (λ us d. d) (λ us b d. (fs ++ (v, y) ∷ [], last_field (kept_key (fewer b (omega (arith, j))) p) (moved b (omega (arith, j)) l) (kept_inner (planted_same b (head_of d) (λ e. cc)) q) (head_of d)))
  more_fields {K = K} {s = s} {fs = fs} g rest w (r.more_fields {t = t} {u = u} {w = v} {x = y} h p l q m o) =
      let i = far g in
      let j = fwd_inner (from_inner all_limits q) in
      let k = stop_fields o in
      carry (SomeFields K (next u) (fs ++ (v, y) ∷ [])) (SomeFields K s fs) (more_fields g rest w o) (λ us z b x. (x.0, plain.more_fields (kept_key (fewer b (omega (arith, i, j, k))) p) (moved b (omega (arith, i, j, k)) l) (kept_inner (inner_same b (omega (arith, i, k))) q) (moved b (omega (arith, i, k)) m) x.1))
