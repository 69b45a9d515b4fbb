-- Reading stops where it began, or later.
use Rattle.std.proofs.Common.{ℕ, ◌≤◌, ◌<◌, List, arith}
use Rattle.sc_ast.specs.declared.place.Place.{Place}
use Rattle.sc_ast.specs.declared.expr.Expr.{Expr}
use Rattle.sc_ast.specs.declared.operator.UnaryOperator.{UnaryOperator}
use Rattle.sc_lexemes.specs.declared.cursor.Cursor.{Cursor}
use Rattle.sc_lexemes.specs.declared.lexeme.Lexeme.{Lexeme}
use Rattle.sc_lexemes.specs.declared.operator.Close.{Close}
use Rattle.sc_lexemes.specs.declared.operator.Level.{Level}
use Rattle.sc_lexemes.specs.declared.stop.Stop.{Stop}
use Rattle.sc_parser.specs.Limits.{all_limits}
use Rattle.sc_lexemes.specs.Outcomes.{halt}
use Rattle.sc_lexemes.specs.ReadsWords.{ReadsIdent, ReadsString, ReadsMoreNames, ReadsNames, ReadsMorePath, ReadsPath, ReadsMoreEntity, ReadsEntity, ReadsKey}
use Rattle.sc_parser.specs.Reads.{ReadsExpr, ReadsInner, ReadsEnclosed, ReadsChain, ReadsMore, ReadsOperand, ReadsRelation, ReadsTail, ReadsUnary, ReadsPrefixes, ReadsMember, ReadsAccesses, ReadsPrimary, ReadsItems, ReadsFields}
use Rattle.sc_parser.specs.Reads as r
use Rattle.sc_lexemes.specs.ReadsWords as words
use Rattle.sc_parser.proofs.PlainReadsLaws.{from_ident, from_string, from_path, from_key, from_inner, from_enclosed, from_chain, from_operand, from_primary, from_items}
use Rattle.sc_parser.proofs.PlainForwardLaws.{fwd_ident, fwd_string, fwd_path, fwd_key, fwd_inner, fwd_enclosed, fwd_chain, fwd_operand, fwd_primary, fwd_items}

pub stop_ident : {ts : List Lexeme} {s : Cursor} {f : Stop} {n : ℕ} → ReadsIdent ts s (halt f n) → s.at ≤ n
stop_ident (words.ident_deep h l) = omega arith
stop_ident (words.no_ident h) = omega arith

pub stop_string : {ts : List Lexeme} {s : Cursor} {f : Stop} {n : ℕ} → ReadsString ts s (halt f n) → s.at ≤ n
stop_string (words.string_deep h l) = omega arith
stop_string (words.no_string h) = omega arith

pub stop_more_names : {ts : List Lexeme} {s : Cursor} {ns : List (List ℕ)} {f : Stop} {n : ℕ} → ReadsMoreNames ts s ns (halt f n) → s.at < n
stop_more_names (words.names_halt h p) = omega (arith, stop_ident p)
stop_more_names (words.names_more h p q) = omega (arith, fwd_ident (from_ident all_limits p), stop_more_names q)

pub stop_names : {ts : List Lexeme} {s : Cursor} {f : Stop} {n : ℕ} → ReadsNames ts s (halt f n) → s.at ≤ n
stop_names (words.names_string_deep h l) = omega arith
stop_names (words.names_ident_halt h p) = omega (arith, stop_ident p)
stop_names (words.names_ident p q) = omega (arith, fwd_ident (from_ident all_limits p), stop_more_names q)

pub stop_more_path : {ts : List Lexeme} {s : Cursor} {w : List ℕ} {f : Stop} {n : ℕ} → ReadsMorePath ts s w (halt f n) → s.at < n
stop_more_path (words.path_halt h p) = omega (arith, stop_ident p)
stop_more_path (words.path_more h p q) = omega (arith, fwd_ident (from_ident all_limits p), stop_more_path q)

pub stop_path : {ts : List Lexeme} {s : Cursor} {f : Stop} {n : ℕ} → ReadsPath ts s (halt f n) → s.at ≤ n
stop_path (words.path_ident_halt p) = omega (arith, stop_ident p)
stop_path (words.path_rest_halt p q) = omega (arith, fwd_ident (from_ident all_limits p), stop_more_path q)

pub stop_more_entity : {ts : List Lexeme} {s : Cursor} {p : Place} {w : List ℕ} {f : Stop} {n : ℕ} → ReadsMoreEntity ts s p w (halt f n) → s.at ≤ n
stop_more_entity (words.no_colons h) = omega arith
stop_more_entity (words.entity_halt h l p) = omega (arith, stop_ident p)
stop_more_entity (words.entity_more h p q) = omega (arith, fwd_ident (from_ident all_limits p), stop_more_entity q)

pub stop_entity : {ts : List Lexeme} {s : Cursor} {f : Stop} {n : ℕ} → ReadsEntity ts s (halt f n) → s.at ≤ n
stop_entity (words.entity_ident_halt p) = omega (arith, stop_ident p)
stop_entity (words.entity p q) = omega (arith, fwd_ident (from_ident all_limits p), stop_more_entity q)

pub stop_key : {ts : List Lexeme} {s : Cursor} {fs : List (List ℕ × Expr)} {f : Stop} {n : ℕ} → ReadsKey ts s fs (halt f n) → s.at ≤ n
stop_key (words.key_ident_deep h f) = omega arith
stop_key (words.key_ident_twice p h) = omega (arith, fwd_ident (from_ident all_limits p))
stop_key (words.key_string_deep h f) = omega arith
stop_key (words.key_string_twice p h) = omega (arith, fwd_string (from_string all_limits p))
stop_key (words.no_key h l) = omega arith

mutual
  pub stop_expr : {ts : List Lexeme} {s : Cursor} {f : Stop} {n : ℕ} → ReadsExpr ts s (halt f n) → s.at ≤ n
  stop_expr (r.chain_or h p) = omega (arith, stop_chain p)
  stop_expr (r.if_deep h l) = omega arith
  stop_expr (r.condition_halts h l p) = omega (arith, stop_enclosed p)
  stop_expr (r.then_halts h l p q) = omega (arith, fwd_enclosed (from_enclosed all_limits p), stop_enclosed q)
  stop_expr (r.else_halts h l p q u) = omega (arith, fwd_enclosed (from_enclosed all_limits p), fwd_enclosed (from_enclosed all_limits q), stop_inner u)

  pub stop_inner : {ts : List Lexeme} {s : Cursor} {f : Stop} {n : ℕ} → ReadsInner ts s (halt f n) → s.at ≤ n
  stop_inner (r.inner_halts p) = omega (arith, stop_expr p)

  pub stop_enclosed : {ts : List Lexeme} {c : Close} {s : Cursor} {f : Stop} {n : ℕ} → ReadsEnclosed ts c s (halt f n) → s.at ≤ n
  stop_enclosed (r.unclosed p h) = omega (arith, fwd_inner (from_inner all_limits p))
  stop_enclosed (r.enclosed_halts p) = omega (arith, stop_inner p)

  pub stop_chain : {ts : List Lexeme} {l : Level} {s : Cursor} {f : Stop} {n : ℕ} → ReadsChain ts l s (halt f n) → s.at ≤ n
  stop_chain (r.chain p q) = omega (arith, fwd_operand (from_operand all_limits p), stop_more q)
  stop_chain (r.chain_halts p) = omega (arith, stop_operand p)

  pub stop_more : {ts : List Lexeme} {l : Level} {s : Cursor} {a : Expr} {f : Stop} {n : ℕ} → ReadsMore ts l s a (halt f n) → s.at < n
  stop_more (r.more_halts h p) = omega (arith, stop_operand p)
  stop_more (r.more h p q) = omega (arith, fwd_operand (from_operand all_limits p), stop_more q)

  pub stop_operand : {ts : List Lexeme} {l : Level} {s : Cursor} {f : Stop} {n : ℕ} → ReadsOperand ts l s (halt f n) → s.at ≤ n
  stop_operand (r.operand_or p) = omega (arith, stop_chain p)
  stop_operand (r.operand_and p) = omega (arith, stop_relation p)
  stop_operand (r.operand_add p) = omega (arith, stop_chain p)
  stop_operand (r.operand_multiply p) = omega (arith, stop_unary p)

  pub stop_relation : {ts : List Lexeme} {s : Cursor} {f : Stop} {n : ℕ} → ReadsRelation ts s (halt f n) → s.at ≤ n
  stop_relation (r.relation p q) = omega (arith, fwd_chain (from_chain all_limits p), stop_tail q)
  stop_relation (r.relation_halts p) = omega (arith, stop_chain p)

  pub stop_tail : {ts : List Lexeme} {s : Cursor} {a : Expr} {f : Stop} {n : ℕ} → ReadsTail ts s a (halt f n) → s.at < n
  stop_tail (r.compare_halts h p) = omega (arith, stop_chain p)
  stop_tail (r.has_halts h p) = omega (arith, stop_names p)
  stop_tail (r.like_halts h p) = omega (arith, stop_string p)
  stop_tail (r.is_halts h p) = omega (arith, stop_path p)
  stop_tail (r.is_in_halts h p l q) = omega (arith, fwd_path (from_path all_limits p), stop_chain q)

  pub stop_unary : {ts : List Lexeme} {s : Cursor} {f : Stop} {n : ℕ} → ReadsUnary ts s (halt f n) → s.at ≤ n
  stop_unary (r.no_prefix h p) = omega (arith, stop_member p)
  stop_unary (r.prefixes h p) = omega (arith, stop_prefixes p)

  pub stop_prefixes : {ts : List Lexeme} {q : UnaryOperator} {m : ℕ} {s : Cursor} {f : Stop} {n : ℕ} → ReadsPrefixes ts q m s (halt f n) → s.at ≤ n
  stop_prefixes (r.prefixes_spent h p) = omega (arith, stop_member p)
  stop_prefixes (r.prefixes_end h l p) = omega (arith, stop_member p)
  stop_prefixes (r.prefix_deep h l n) = omega arith
  stop_prefixes (r.least_deep h l n o) = omega arith
  stop_prefixes (r.least h l n o p) = omega (arith, stop_accesses p)
  stop_prefixes (r.prefix_halts h l n o p) = omega (arith, stop_prefixes p)

  pub stop_member : {ts : List Lexeme} {s : Cursor} {f : Stop} {n : ℕ} → ReadsMember ts s (halt f n) → s.at ≤ n
  stop_member (r.member p q) = omega (arith, fwd_primary (from_primary all_limits p), stop_accesses q)
  stop_member (r.member_halts p) = omega (arith, stop_primary p)

  pub stop_accesses : {ts : List Lexeme} {s : Cursor} {a : Expr} {f : Stop} {n : ℕ} → ReadsAccesses ts s a (halt f n) → s.at < n
  stop_accesses (r.index_halts h p) = omega (arith, stop_string p)
  stop_accesses (r.index_unclosed h p l) = omega (arith, fwd_string (from_string all_limits p))
  stop_accesses (r.index h p l q) = omega (arith, fwd_string (from_string all_limits p), stop_accesses q)
  stop_accesses (r.dot_halts h p) = omega (arith, stop_ident p)
  stop_accesses (r.access h p l q) = omega (arith, fwd_ident (from_ident all_limits p), stop_accesses q)
  stop_accesses (r.arguments_halt h p l q) = omega (arith, fwd_ident (from_ident all_limits p), stop_items q)
  stop_accesses (r.no_method h p l q n) = omega (arith, fwd_ident (from_ident all_limits p), fwd_items (from_items all_limits q))
  stop_accesses (r.method h p l q n u) = omega (arith, fwd_ident (from_ident all_limits p), fwd_items (from_items all_limits q), stop_accesses u)

  pub stop_primary : {ts : List Lexeme} {s : Cursor} {f : Stop} {n : ℕ} → ReadsPrimary ts s (halt f n) → s.at ≤ n
  stop_primary (r.no_primary h) = omega arith
  stop_primary (r.primary_deep h l) = omega arith
  stop_primary (r.number_large h l n) = omega arith
  stop_primary (r.entity_primary_halts h l n p) = omega (arith, stop_more_entity p)
  stop_primary (r.lone_ident h l n o e) = omega arith
  stop_primary (r.function_halts h l n o p) = omega (arith, stop_items p)
  stop_primary (r.no_function h l n o p e) = omega (arith, fwd_items (from_items all_limits p))
  stop_primary (r.parenthesis h l p) = omega (arith, stop_enclosed p)
  stop_primary (r.set_halts h l p) = omega (arith, stop_items p)
  stop_primary (r.record_halts h l p) = omega (arith, stop_fields p)

  pub stop_items : {ts : List Lexeme} {c : Close} {s : Cursor} {xs : List Expr} {f : Stop} {n : ℕ} → ReadsItems ts c s xs (halt f n) → s.at ≤ n
  stop_items (r.item_halts h p) = omega (arith, stop_inner p)
  stop_items (r.no_comma h p l n) = omega (arith, fwd_inner (from_inner all_limits p))
  stop_items (r.more_items h p l q) = omega (arith, fwd_inner (from_inner all_limits p), stop_items q)

  pub stop_fields : {ts : List Lexeme} {s : Cursor} {fs : List (List ℕ × Expr)} {f : Stop} {n : ℕ} → ReadsFields ts s fs (halt f n) → s.at ≤ n
  stop_fields (r.key_halts h p) = omega (arith, stop_key p)
  stop_fields (r.no_colon h p l) = omega (arith, fwd_key (from_key all_limits p))
  stop_fields (r.field_halts h p l q) = omega (arith, fwd_key (from_key all_limits p), stop_inner q)
  stop_fields (r.no_field_comma h p l q n o) = omega (arith, fwd_key (from_key all_limits p), fwd_inner (from_inner all_limits q))
  stop_fields (r.more_fields h p l q n u) = omega (arith, fwd_key (from_key all_limits p), fwd_inner (from_inner all_limits q), stop_fields u)
