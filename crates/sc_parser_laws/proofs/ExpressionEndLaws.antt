-- Reading an expression comes to an end.
use Rattle.std.proofs.Common.{◌≡◌, inl, inr, ℕ, zero, suc, ◌+◌, ◌-◌, ◌<◌, ◌≤◌, List, [], ◌∷◌, ◌++◌, length, codes, Bool, true, false, arith, refl, sym, subst, pos}
use Rattle.std.specs.declared.option.Option.{Option}
use Rattle.std.specs.declared.option.Option.TheVariants.{Some, None}
use Rattle.std.specs.Str.Parse.{digits_value}
use Rattle.std.specs.Str.{bytes_eq}
use Rattle.std.proofs.lemmas.Bool.{cases_Bool}
use Rattle.std.proofs.lemmas.Slice.Eq.{bytes_eq-Decides}
use Rattle.sc_ast.specs.declared.place.Place.{Place}
use Rattle.sc_ast.specs.declared.expr.Expr.{Expr}
use Rattle.sc_ast.specs.declared.expr.Expr.TheVariants as expr
use Rattle.sc_ast.specs.declared.expr.Variable.{Variable}
use Rattle.sc_ast.specs.declared.literal.Literal.TheVariants as literal
use Rattle.sc_ast.specs.declared.operator.UnaryOperator.{UnaryOperator}
use Rattle.sc_ast.specs.declared.operator.UnaryOperator.TheVariants as unary
use Rattle.sc_names.specs.Names.{is_ident}
use Rattle.sc_lexer.specs.declared.token.Kind.{Kind}
use Rattle.sc_lexer.specs.declared.token.Kind.TheVariants as kind
use Rattle.sc_lexemes.specs.declared.cursor.Cursor.{Cursor}
use Rattle.sc_lexemes.specs.declared.lexeme.Lexeme.{Lexeme}
use Rattle.sc_lexemes.specs.declared.lexeme.Shape.{Shape}
use Rattle.sc_lexemes.specs.declared.lexeme.Shape.TheVariants.{Word, Number, String, Sign}
use Rattle.sc_lexemes.specs.declared.operator.Close.{Close}
use Rattle.sc_lexemes.specs.declared.operator.Close.TheVariants as close
use Rattle.sc_lexemes.specs.declared.operator.Level.{Level}
use Rattle.sc_lexemes.specs.declared.operator.Level.TheVariants as level
use Rattle.sc_lexemes.specs.declared.stop.Stop.TheVariants as stop
use Rattle.sc_lexemes.specs.Depth.{fits, next, past, inside, back}
use Rattle.sc_lexemes.specs.Lexemes.{Is, IsIdent, closing, starts, IsPrefix, IsLeast, LacksLeast}
use Rattle.sc_lexemes.specs.Outcomes.{read, halt}
use Rattle.sc_lexemes.specs.Tables.{joined, called, applied, is_long, least_digits, least_long, prefix_of, prefix_of_sign, variable_of}
use Rattle.sc_parser.specs.Reads.{ReadsExpr, ReadsInner, ReadsEnclosed, ReadsChain, ReadsMore, ReadsOperand, ReadsRelation, ReadsTail, ReadsUnary, ReadsPrefixes, ReadsMember, ReadsAccesses, ReadsPrimary, ReadsItems, ReadsFields}
use Rattle.sc_parser.specs.Reads as r
use Rattle.sc_parser_laws.proofs.ChoiceLaws.{unary_or}
use Rattle.sc_parser_laws.proofs.TokenTestLaws.{inside_of, sign_at, word_at, number_at, closing_at, operator_at, prefix_at, this_prefix_at, start_at}
use Rattle.sc_parser_laws.proofs.NameEndLaws.{Ended, got, stopped, passed_on, ident_ends, string_ends, names_ends, path_ends, more_entity_ends, key_ends}

-- ---- what stands behind a list

items_closed : {ts : List Lexeme} {c : Close} {s t : Cursor} {xs ys : List Expr} → ReadsItems ts c s xs (read ys t) → (p : Place) × Is ts t.at p (closing c)
items_closed (r.items_end {p = p} h) = (p, h)
items_closed (r.last_item {p = p} n a h) = (p, h)
items_closed (r.more_items n a h b) = items_closed b

fields_closed : {ts : List Lexeme} {s t : Cursor} {fs gs : List (List ℕ × Expr)} → ReadsFields ts s fs (read gs t) → (p : Place) × Is ts t.at p (Sign kind.CloseBrace)
fields_closed (r.fields_end {p = p} h) = (p, h)
fields_closed (r.last_field {q = q} n a h b k) = (q, k)
fields_closed (r.more_fields n a h b k c) = fields_closed c

-- ---- the minus of the least number

minus_sign : (k : Kind) → prefix_of_sign k ≡ Some unary.Negate → k ≡ kind.Minus
minus_sign kind.Minus e = refl
minus_sign _ e = cc

minus_shape : (c : Shape) → prefix_of c ≡ Some unary.Negate → c ≡ Sign kind.Minus
unfolding prefix_of
minus_shape (Word w) e = cc
minus_shape (Number ds) e = cc
minus_shape (String t parts) e = cc
minus_shape (Sign k) e = let m = minus_sign k e in cc

is_minus : (ts : List Lexeme) (i : ℕ) (p : Place) → IsPrefix ts i p unary.Negate → Is ts i p (Sign kind.Minus)
is_minus ts i p x = subst (Is ts i p) (minus_shape x.shape x.operator) x.is

-- the minus of the least number, or none
data Minus (ts : List Lexeme) (s : Cursor) (q : UnaryOperator) : Type 0 where
  of_least : (p : Place) → unary.Negate ≡ q → IsLeast ts s.at p → Minus ts s q
  of_another : LacksLeast ts s.at q → Minus ts s q

-- ---- a primary expression that is a word

-- what an identifier that begins a primary expression is: a variable, or another word
data Named (w : List ℕ) : Type 0 where
  is_variable : (x : Variable) → variable_of w ≡ Some x → Named w
  is_other : variable_of w ≡ None → Named w

named_by : (w : List ℕ) (o : Option Variable) → variable_of w ≡ o → Named w
named_by w (Some x) e = is_variable x e
named_by w None e = is_other e

named : (w : List ℕ) → Named w
named w = named_by w (variable_of w) refl

-- what a call is, or none
data Calls (o : Option Expr) : Type 0 where
  call : (x : Expr) → o ≡ Some x → Calls o
  no_call : o ≡ None → Calls o

call_of : (o : Option Expr) → Calls o
call_of (Some x) = call x refl
call_of None = no_call refl

-- ---- expressions with at most n + 1 tokens ahead, where those with fewer come to an end

module _ (ts : List Lexeme) (n : ℕ) (fewer : (s : Cursor) → length ts < n + s.at → s.at ≤ length ts → Ended Expr ts (s.at + 1) (ReadsExpr ts s)) where
  -- at most n tokens stand ahead
  abbrev Few : Cursor → Type 0
  Few s = length ts ≤ n + s.at

  -- and one fewer
  abbrev Fewer : Cursor → Type 0
  Fewer s = length ts < n + s.at

  inner_ends : (s : Cursor) → Fewer s → s.at ≤ length ts → Ended Expr ts (s.at + 1) (ReadsInner ts s)
  inner_ends s few within = elim (fewer (inside s) few within) [
    | got x t a le ahead ↦ got x (back s t) (r.inner a) le ahead
    | stopped f m a ↦ stopped f m (r.inner_halts a)
  ]

  enclosed_ends : (c : Close) (s : Cursor) → Fewer s → s.at ≤ length ts → Ended Expr ts (s.at + 2) (ReadsEnclosed ts c s)
  enclosed_ends c s few within = elim (inner_ends s few within) [
    | got x t a le ahead ↦ elim (closing_at ts t.at c) [
      | inl p ↦ got x (next t) (r.enclosed a p.1) (omega (arith, le)) (inside_of ts t.at p.1)
      | inr none ↦ stopped stop.Unexpected t.at (r.unclosed a none)
    ]
    | stopped f m a ↦ stopped f m (r.enclosed_halts a)
  ]

  -- ---- lists and records

  items_by : (k : ℕ) (c : Close) (s : Cursor) (xs : List Expr) → length ts < k + s.at → Fewer s → s.at ≤ length ts → Ended (List Expr) ts s.at (ReadsItems ts c s xs)
  items_by zero c s xs ahead few within = absurd (omega (arith, ahead, within))
  items_by (suc k) c s xs ahead few within = elim (closing_at ts s.at c) [
    | inl p ↦ got xs s (r.items_end p.1) (omega arith) within
    | inr none ↦ elim (inner_ends s few within) [
      | got x t a le inner ↦ elim (closing_at ts t.at c) [
        | inl p ↦ got (xs ++ x ∷ []) t (r.last_item none a p.1) (omega (arith, le)) inner
        | inr not_closed ↦ elim (sign_at ts t.at kind.Comma) [
          | inl q ↦ passed_on (omega (arith, le)) (λ o b. r.more_items none a q.1 b) (items_by k c (next t) (xs ++ x ∷ []) (omega (arith, ahead, le)) (omega (arith, few, le)) (inside_of ts t.at q.1))
          | inr no_comma ↦ stopped stop.Unexpected t.at (r.no_comma none a not_closed no_comma)
        ]
      ]
      | stopped f m a ↦ stopped f m (r.item_halts none a)
    ]
  ]

  items_ends : (c : Close) (s : Cursor) → Fewer s → s.at ≤ length ts → Ended (List Expr) ts s.at (ReadsItems ts c s [])
  items_ends c s few within = items_by (suc (length ts)) c s [] (omega arith) few within

  fields_by : (k : ℕ) (s : Cursor) (fs : List (List ℕ × Expr)) → length ts < k + s.at → Fewer s → s.at ≤ length ts → Ended (List (List ℕ × Expr)) ts s.at (ReadsFields ts s fs)
  fields_by zero s fs ahead few within = absurd (omega (arith, ahead, within))
  fields_by (suc k) s fs ahead few within = elim (sign_at ts s.at kind.CloseBrace) [
    | inl p ↦ got fs s (r.fields_end p.1) (omega arith) within
    | inr none ↦ elim (key_ends ts s fs) [
      | got w t a le inner ↦ elim (sign_at ts t.at kind.Colon) [
        | inl p ↦ elim (inner_ends (next t) (omega (arith, few, le)) (inside_of ts t.at p.1)) [
          | got x u b more later ↦ elim (sign_at ts u.at kind.CloseBrace) [
            | inl q ↦ got (fs ++ (w, x) ∷ []) u (r.last_field none a p.1 b q.1) (omega (arith, le, more)) later
            | inr not_closed ↦ elim (sign_at ts u.at kind.Comma) [
              | inl q ↦ passed_on (omega (arith, le, more)) (λ o d. r.more_fields none a p.1 b q.1 d) (fields_by k (next u) (fs ++ (w, x) ∷ []) (omega (arith, ahead, le, more)) (omega (arith, few, le, more)) (inside_of ts u.at q.1))
              | inr no_comma ↦ stopped stop.Unexpected u.at (r.no_field_comma none a p.1 b not_closed no_comma)
            ]
          ]
          | stopped f m b ↦ stopped f m (r.field_halts none a p.1 b)
        ]
        | inr no_colon ↦ stopped stop.Unexpected t.at (r.no_colon none a no_colon)
      ]
      | stopped f m a ↦ stopped f m (r.key_halts none a)
    ]
  ]

  fields_end : (s : Cursor) → Fewer s → s.at ≤ length ts → Ended (List (List ℕ × Expr)) ts s.at (ReadsFields ts s [])
  fields_end s few within = fields_by (suc (length ts)) s [] (omega arith) few within

  -- ---- primary expressions

  function_ends : (s : Cursor) (p q : Place) (w : List ℕ) → Few s → IsIdent ts s.at p w → variable_of w ≡ None → fits s ≡ true → Is ts (s.at + 1) q (Sign kind.OpenParenthesis) → Ended Expr ts (s.at + 1) (ReadsPrimary ts s)
  function_ends s p q w few is other fit paren = elim (items_ends close.Parenthesis (next (next s)) (omega (arith, few)) (inside_of ts (s.at + 1) paren)) [
    | got xs t a le ahead ↦ elim (call_of (applied p w xs)) [
      | call x e ↦ got x (next t) (r.function is other fit paren a e) (omega (arith, le)) (let h = items_closed a in inside_of ts t.at h.1)
      | no_call e ↦ stopped stop.BadCall t.at (r.no_function is other fit paren a e)
    ]
    | stopped f m a ↦ stopped f m (r.function_halts is other fit paren a)
  ]

  ident_begins : (s : Cursor) (p : Place) (w : List ℕ) → Few s → IsIdent ts s.at p w → fits s ≡ true → Ended Expr ts (s.at + 1) (ReadsPrimary ts s)
  ident_begins s p w few is fit = elim (sign_at ts (s.at + 1) kind.DoubleColon) [
    | inl q ↦ elim (more_entity_ends ts (next s) p w (inside_of ts s.at is.0)) [
      | got y t a le ahead ↦ got (expr.Literal y.place (literal.Entity y.uid)) t (r.entity_primary is fit q.1 a) (omega (arith, le)) ahead
      | stopped f m a ↦ stopped f m (r.entity_primary_halts is fit q.1 a)
    ]
    | inr no_colons ↦ elim (named w) [
      | is_variable x e ↦ got (expr.Variable p x) (next s) (r.variable is.0 e fit no_colons) (omega arith) (inside_of ts s.at is.0)
      | is_other e ↦ elim (sign_at ts (s.at + 1) kind.OpenParenthesis) [
        | inl q ↦ function_ends s p q.0 w few is e fit q.1
        | inr no_parenthesis ↦ stopped stop.Unexpected (s.at + 1) (r.lone_ident is e fit no_colons no_parenthesis)
      ]
    ]
  ]

  word_begins : (s : Cursor) (p : Place) (w : List ℕ) → Few s → Is ts s.at p (Word w) → starts (Word w) ≡ true → fits s ≡ true → Ended Expr ts (s.at + 1) (ReadsPrimary ts s)
  unfolding starts
  word_begins s p w few h first fit = elim (cases_Bool (bytes_eq w (codes "true"))) [
    | inl e ↦ got (expr.Literal p (literal.Bool true)) (next s) (r.truth (subst (λ v. Is ts s.at p (Word v)) ((bytes_eq-Decides w (codes "true")).0 e) h) fit) (omega arith) (inside_of ts s.at h)
    | inr not_true ↦ elim (cases_Bool (bytes_eq w (codes "false"))) [
      | inl e ↦ got (expr.Literal p (literal.Bool false)) (next s) (r.falsehood (subst (λ v. Is ts s.at p (Word v)) ((bytes_eq-Decides w (codes "false")).0 e) h) fit) (omega arith) (inside_of ts s.at h)
      | inr not_false ↦ elim (cases_Bool (is_ident w)) [
        | inl is ↦ ident_begins s p w few (h, is) fit
        | inr other ↦ absurd (let clash : false ≡ true = rw (other, not_true, not_false) at first in cc)
      ]
    ]
  ]

  sign_begins : (s : Cursor) (p : Place) (k : Kind) → Few s → Is ts s.at p (Sign k) → starts (Sign k) ≡ true → fits s ≡ true → Ended Expr ts (s.at + 1) (ReadsPrimary ts s)
  unfolding starts
  sign_begins s p kind.OpenParenthesis few h first fit =
      passed_on (omega arith) (λ o a. r.parenthesis h fit a) (enclosed_ends close.Parenthesis (next s) (omega (arith, few)) (inside_of ts s.at h))
  sign_begins s p kind.OpenBracket few h first fit = elim (items_ends close.Bracket (next s) (omega (arith, few)) (inside_of ts s.at h)) [
    | got xs t a le ahead ↦ got (expr.Set p xs) (next t) (r.set h fit a) (omega (arith, le)) (let k = items_closed a in inside_of ts t.at k.1)
    | stopped f m a ↦ stopped f m (r.set_halts h fit a)
  ]
  sign_begins s p kind.OpenBrace few h first fit = elim (fields_end (next s) (omega (arith, few)) (inside_of ts s.at h)) [
    | got fs t a le ahead ↦ got (expr.Record p fs) (next t) (r.fields h fit a) (omega (arith, le)) (let k = fields_closed a in inside_of ts t.at k.1)
    | stopped f m a ↦ stopped f m (r.record_halts h fit a)
  ]
  sign_begins s p _ few h first fit = absurd cc

  shape_begins : (s : Cursor) (p : Place) (c : Shape) → Few s → Is ts s.at p c → starts c ≡ true → fits s ≡ true → Ended Expr ts (s.at + 1) (ReadsPrimary ts s)
  shape_begins s p (Word w) few h first fit = word_begins s p w few h first fit
  shape_begins s p (Number ds) few h first fit = elim (cases_Bool (is_long (digits_value 10 ds))) [
    | inl small ↦ got (expr.Literal p (literal.Long (pos (digits_value 10 ds)))) (next s) (r.number h fit small) (omega arith) (inside_of ts s.at h)
    | inr large ↦ stopped stop.IntRange s.at (r.number_large h fit large)
  ]
  shape_begins s p (String w parts) few h first fit = got (expr.Literal p (literal.String w)) (next s) (r.text h fit) (omega arith) (inside_of ts s.at h)
  shape_begins s p (Sign k) few h first fit = sign_begins s p k few h first fit

  primary_ends : (s : Cursor) → Few s → Ended Expr ts (s.at + 1) (ReadsPrimary ts s)
  primary_ends s few = elim (start_at ts s.at) [
    | inl begins ↦ elim (cases_Bool (fits s)) [
      | inl fit ↦ shape_begins s begins.place begins.shape few begins.is begins.starts fit
      | inr deep ↦ stopped stop.TooDeep s.at (r.primary_deep begins deep)
    ]
    | inr none ↦ stopped stop.Unexpected s.at (r.no_primary none)
  ]

  -- ---- accesses and calls

  accesses_by : (k : ℕ) (s : Cursor) (a : Expr) → length ts < k + s.at → Few s → s.at ≤ length ts → Ended Expr ts s.at (ReadsAccesses ts s a)
  accesses_by zero s a ahead few within = absurd (omega (arith, ahead, within))
  accesses_by (suc k) s a ahead few within = elim (sign_at ts s.at kind.Dot) [
    | inl p ↦ elim (ident_ends ts (past s)) [
      | got x t b le inner ↦ elim (sign_at ts t.at kind.OpenParenthesis) [
        | inl q ↦ elim (items_ends close.Parenthesis (next t) (omega (arith, few, le)) (inside_of ts t.at q.1)) [
          | got xs u c more later ↦ elim (call_of (called p.0 a x.1 xs)) [
            | call y e ↦
                passed_on (omega (arith, le, more)) (λ o d. r.method {q = x.0} {w = x.1} p.1 b q.1 c e d)
                (accesses_by k (next u) y (omega (arith, ahead, le, more)) (omega (arith, few, le, more)) (let h = items_closed c in inside_of ts u.at h.1))
            | no_call e ↦ stopped stop.BadCall u.at (r.no_method {q = x.0} {w = x.1} p.1 b q.1 c e)
          ]
          | stopped f m c ↦ stopped f m (r.arguments_halt {q = x.0} {w = x.1} p.1 b q.1 c)
        ]
        | inr none ↦
            passed_on (omega (arith, le)) (λ o c. r.access {q = x.0} {w = x.1} p.1 b none c)
            (accesses_by k t (expr.Access p.0 a x.1) (omega (arith, ahead, le)) (omega (arith, few, le)) inner)
      ]
      | stopped f m b ↦ stopped f m (r.dot_halts p.1 b)
    ]
    | inr no_dot ↦ elim (sign_at ts s.at kind.OpenBracket) [
      | inl p ↦ elim (string_ends ts (past s)) [
        | got x t b le inner ↦ elim (sign_at ts t.at kind.CloseBracket) [
          | inl q ↦
              passed_on (omega (arith, le)) (λ o c. r.index {w = x.0} {parts = x.1} p.1 b q.1 c)
              (accesses_by k (next t) (expr.Access p.0 a x.0) (omega (arith, ahead, le)) (omega (arith, few, le)) (inside_of ts t.at q.1))
          | inr none ↦ stopped stop.Unexpected t.at (r.index_unclosed {w = x.0} {parts = x.1} p.1 b none)
        ]
        | stopped f m b ↦ stopped f m (r.index_halts p.1 b)
      ]
      | inr no_bracket ↦ got a s (r.no_access (record { dot = no_dot; bracket = no_bracket })) (omega arith) within
    ]
  ]

  member_ends : (s : Cursor) → Few s → Ended Expr ts (s.at + 1) (ReadsMember ts s)
  member_ends s few = elim (primary_ends s few) [
    | got a t b le inner ↦ passed_on le (λ o c. r.member b c) (accesses_by (suc (length ts)) t a (omega arith) (omega (arith, few, le)) inner)
    | stopped f m b ↦ stopped f m (r.member_halts b)
  ]

  -- ---- prefixes

  least_ends : (s : Cursor) (m : ℕ) (p : Place) → Few s → 0 < m → IsLeast ts s.at p → fits s ≡ true → Ended Expr ts (s.at + 1) (ReadsPrefixes ts unary.Negate m s)
  least_ends s m p few some least fit = elim (cases_Bool (fits (past s))) [
    | inl fits_too ↦
        passed_on (omega arith) (λ o a. r.least some least fit fits_too a)
        (accesses_by (suc (length ts)) (next (past s)) (expr.Literal p (literal.Long least_long)) (omega arith) (omega (arith, few)) (inside_of ts (s.at + 1) least.digits))
    | inr deep ↦ stopped stop.TooDeep (s.at + 1) (r.least_deep some least fit deep)
  ]

  minus_of : (s : Cursor) (p : Place) (q : UnaryOperator) → IsPrefix ts s.at p q → Minus ts s q
  minus_of s p q h = elim (unary_or q unary.Negate) [
    | inl same ↦ elim (number_at ts (s.at + 1) least_digits) [
      | inl d ↦ of_least p (sym same) (record { minus = is_minus ts s.at p (subst (IsPrefix ts s.at p) same h); place = d.0; digits = d.1 })
      | inr none ↦ of_another (λ e. none)
    ]
    | inr differ ↦ of_another (λ e. absurd (differ e))
  ]

  prefixes_by : (m : ℕ) (q : UnaryOperator) (s : Cursor) → Few s → Ended Expr ts (s.at + 1) (ReadsPrefixes ts q m s)
  prefixes_by zero q s few = passed_on (omega arith) (λ o a. r.prefixes_spent refl a) (member_ends s few)
  prefixes_by (suc m) q s few = elim (this_prefix_at ts s.at q) [
    | inl p ↦ elim (cases_Bool (fits s)) [
      | inl fit ↦ elim (minus_of s p.0 q p.1) [
        | of_least at same least ↦ subst (λ z. Ended Expr ts (s.at + 1) (ReadsPrefixes ts z (suc m) s)) same (least_ends s (suc m) at few (omega arith) least fit)
        | of_another lacks ↦ elim (prefixes_by m q (past s) (omega (arith, few))) [
          | got x t a le inner ↦
              got (expr.Unary p.0 q x) t
              (r.prefix (omega arith) p.1 fit lacks (let e : suc m - 1 ≡ m = omega arith in subst (λ z. ReadsPrefixes ts q z (past s) (read x t)) (sym e) a))
              (omega (arith, le)) inner
          | stopped f j a ↦ stopped f j (r.prefix_halts (omega arith) p.1 fit lacks (let e : suc m - 1 ≡ m = omega arith in subst (λ z. ReadsPrefixes ts q z (past s) (halt f j)) (sym e) a))
        ]
      ]
      | inr deep ↦ stopped stop.TooDeep s.at (r.prefix_deep (omega arith) p.1 deep)
    ]
    | inr none ↦ passed_on (omega arith) (λ o a. r.prefixes_end (omega arith) none a) (member_ends s few)
  ]

  unary_ends : (s : Cursor) → Few s → Ended Expr ts (s.at + 1) (ReadsUnary ts s)
  unary_ends s few = elim (prefix_at ts s.at) [
    | inl x ↦ passed_on (omega arith) (λ o a. r.prefixes x.2 a) (prefixes_by 4 x.1 s few)
    | inr none ↦ passed_on (omega arith) (λ o a. r.no_prefix none a) (member_ends s few)
  ]

  -- ---- chains

  more_by : (l : Level) → ((s : Cursor) → Few s → Ended Expr ts (s.at + 1) (ReadsOperand ts l s)) → (k : ℕ) (s : Cursor) (a : Expr) → length ts < k + s.at → Few s → s.at ≤ length ts → Ended Expr ts s.at (ReadsMore ts l s a)
  more_by l operand zero s a ahead few within = absurd (omega (arith, ahead, within))
  more_by l operand (suc k) s a ahead few within = elim (operator_at ts s.at l) [
    | inl x ↦ elim (operand (past s) (omega (arith, few))) [
      | got b t c le inner ↦
          passed_on (omega (arith, le)) (λ o d. r.more x.2 c d)
          (more_by l operand k t (joined x.1 x.0 a b) (omega (arith, ahead, le)) (omega (arith, few, le)) inner)
      | stopped f m c ↦ stopped f m (r.more_halts x.2 c)
    ]
    | inr none ↦ got a s (r.more_ends none) (omega arith) within
  ]

  chain_ends : (l : Level) → ((s : Cursor) → Few s → Ended Expr ts (s.at + 1) (ReadsOperand ts l s)) → (s : Cursor) → Few s → Ended Expr ts (s.at + 1) (ReadsChain ts l s)
  chain_ends l operand s few = elim (operand s few) [
    | got a t b le inner ↦ passed_on le (λ o c. r.chain b c) (more_by l operand (suc (length ts)) t a (omega arith) (omega (arith, few, le)) inner)
    | stopped f m b ↦ stopped f m (r.chain_halts b)
  ]

  product_ends : (s : Cursor) → Few s → Ended Expr ts (s.at + 1) (ReadsChain ts level.Multiply s)
  product_ends = chain_ends level.Multiply (λ s few. passed_on (omega arith) (λ o a. r.operand_multiply a) (unary_ends s few))

  sum_ends : (s : Cursor) → Few s → Ended Expr ts (s.at + 1) (ReadsChain ts level.Add s)
  sum_ends = chain_ends level.Add (λ s few. passed_on (omega arith) (λ o a. r.operand_add a) (product_ends s few))

  tail_ends : (s : Cursor) (a : Expr) → Few s → s.at ≤ length ts → Ended Expr ts s.at (ReadsTail ts s a)
  tail_ends s a few within = elim (operator_at ts s.at level.Relation) [
    | inl x ↦ elim (sum_ends (past s) (omega (arith, few))) [
      | got b t c le inner ↦ got (joined x.1 x.0 a b) t (r.compare x.2 c) (omega (arith, le)) inner
      | stopped f m c ↦ stopped f m (r.compare_halts x.2 c)
    ]
    | inr no_comparison ↦ elim (word_at ts s.at (codes "has")) [
      | inl p ↦ elim (names_ends ts (past s)) [
        | got ns t b le inner ↦ got (expr.Has p.0 a ns) t (r.has p.1 b) (omega (arith, le)) inner
        | stopped f m b ↦ stopped f m (r.has_halts p.1 b)
      ]
      | inr no_has ↦ elim (word_at ts s.at (codes "like")) [
        | inl p ↦ elim (string_ends ts (past s)) [
          | got x t b le inner ↦ got (expr.Like p.0 a x.1) t (r.like {w = x.0} {parts = x.1} p.1 b) (omega (arith, le)) inner
          | stopped f m b ↦ stopped f m (r.like_halts p.1 b)
        ]
        | inr no_like ↦ elim (word_at ts s.at (codes "is")) [
          | inl p ↦ elim (path_ends ts (past s)) [
            | got y t b le inner ↦ elim (word_at ts t.at (codes "in")) [
              | inl q ↦ elim (sum_ends (past t) (omega (arith, few, le))) [
                | got c u d more later ↦ got (expr.IsIn p.0 a y q.0 c) u (r.is_in p.1 b q.1 d) (omega (arith, le, more)) later
                | stopped f m d ↦ stopped f m (r.is_in_halts p.1 b q.1 d)
              ]
              | inr no_in ↦ got (expr.Is p.0 a y) t (r.is_type p.1 b no_in) (omega (arith, le)) inner
            ]
            | stopped f m b ↦ stopped f m (r.is_halts p.1 b)
          ]
          | inr no_is ↦ got a s (r.no_tail (record { comparison = no_comparison; has = no_has; like = no_like; is = no_is })) (omega arith) within
        ]
      ]
    ]
  ]

  relation_ends : (s : Cursor) → Few s → Ended Expr ts (s.at + 1) (ReadsRelation ts s)
  relation_ends s few = elim (sum_ends s few) [
    | got a t b le inner ↦ passed_on le (λ o c. r.relation b c) (tail_ends t a (omega (arith, few, le)) inner)
    | stopped f m b ↦ stopped f m (r.relation_halts b)
  ]

  both_ends : (s : Cursor) → Few s → Ended Expr ts (s.at + 1) (ReadsChain ts level.And s)
  both_ends = chain_ends level.And (λ s few. passed_on (omega arith) (λ o a. r.operand_and a) (relation_ends s few))

  either_ends : (s : Cursor) → Few s → Ended Expr ts (s.at + 1) (ReadsChain ts level.Or s)
  either_ends = chain_ends level.Or (λ s few. passed_on (omega arith) (λ o a. r.operand_or a) (both_ends s few))

  -- ---- one expression

  choice_ends : (s : Cursor) (p : Place) → Few s → Is ts s.at p (Word (codes "if")) → fits s ≡ true → Ended Expr ts (s.at + 1) (ReadsExpr ts s)
  choice_ends s p few h fit = elim (enclosed_ends close.Then (next s) (omega (arith, few)) (inside_of ts s.at h)) [
    | got c t a le first ↦ elim (enclosed_ends close.Else t (omega (arith, few, le)) first) [
      | got x u b more second ↦ elim (inner_ends u (omega (arith, few, le, more)) second) [
        | got y v d last third ↦ got (expr.If p c x y) v (r.if_then_else h fit a b d) (omega (arith, le, more, last)) third
        | stopped f m d ↦ stopped f m (r.else_halts h fit a b d)
      ]
      | stopped f m b ↦ stopped f m (r.then_halts h fit a b)
    ]
    | stopped f m a ↦ stopped f m (r.condition_halts h fit a)
  ]

  one_ends : (s : Cursor) → Few s → Ended Expr ts (s.at + 1) (ReadsExpr ts s)
  one_ends s few = elim (word_at ts s.at (codes "if")) [
    | inl p ↦ elim (cases_Bool (fits s)) [
      | inl fit ↦ choice_ends s p.0 few p.1 fit
      | inr deep ↦ stopped stop.TooDeep s.at (r.if_deep p.1 deep)
    ]
    | inr none ↦ passed_on (omega arith) (λ o a. r.chain_or none a) (either_ends s few)
  ]

-- ---- all expressions

expression_ends : (ts : List Lexeme) (n : ℕ) (s : Cursor) → length ts < n + s.at → s.at ≤ length ts → Ended Expr ts (s.at + 1) (ReadsExpr ts s)
expression_ends ts zero s ahead within = absurd (omega (arith, ahead, within))
expression_ends ts (suc n) s ahead within = one_ends ts n (λ t few inner. expression_ends ts n t few inner) s (omega (arith, ahead))

pub braced_ends : (ts : List Lexeme) (s : Cursor) → s.at ≤ length ts → Ended Expr ts (s.at + 2) (ReadsEnclosed ts close.Brace s)
braced_ends ts s within = enclosed_ends ts (suc (length ts)) (λ t few inner. expression_ends ts (suc (length ts)) t few inner) close.Brace s (omega arith) within
