-- Reading names, strings and uids comes to an end.
use Rattle.std.proofs.Common.{inl, inr, ℕ, zero, suc, ◌+◌, ◌<◌, ◌≤◌, List, [], ◌∷◌, ◌++◌, length, codes, arith}
use Rattle.std.proofs.lemmas.Bool.{cases_Bool}
use Rattle.sc_pattern.specs.declared.part.Part.{Part}
use Rattle.sc_ast.specs.declared.place.Place.{Place}
use Rattle.sc_ast.specs.declared.expr.Expr.{Expr}
use Rattle.sc_ast.specs.declared.expr.TypeName.{TypeName}
use Rattle.sc_ast.specs.declared.literal.EntityLiteral.{EntityLiteral}
use Rattle.sc_lexer.specs.declared.token.Kind.TheVariants as kind
use Rattle.sc_lexemes.specs.declared.cursor.Cursor.{Cursor}
use Rattle.sc_lexemes.specs.declared.lexeme.Lexeme.{Lexeme}
use Rattle.sc_lexemes.specs.declared.stop.Stop.{Stop}
use Rattle.sc_lexemes.specs.declared.stop.Stop.TheVariants as stop
use Rattle.sc_lexemes.specs.Depth.{fits, next, past}
use Rattle.sc_lexemes.specs.Outcomes.{Outcome, read, halt}
use Rattle.sc_lexemes.specs.ReadsWords.{ReadsIdent, ReadsString, ReadsMoreNames, ReadsNames, ReadsMorePath, ReadsPath, ReadsMoreEntity, ReadsEntity, ReadsKey, ident, ident_deep, no_ident, string, string_deep, no_string, names_end, names_halt, names_more, names_string, names_string_deep, names_ident_halt, names_ident, path_end, path_halt, path_more, path_ident_halt, path_rest_halt, path, no_colons, entity_id, entity_halt, entity_more, entity_ident_halt, entity, key_ident, key_ident_deep, key_ident_twice, key_string, key_string_deep, key_string_twice, no_key}
use Rattle.sc_lexemes.specs.Tables.{has_key}
use Rattle.sc_parser_laws.proofs.TokenTestLaws.{inside_of, sign_at, string_at, ident_at}

-- reading comes to an end: something is read, up to a place within the tokens from a first one on, or reading halts
pub data Ended (A : Type 0) (ts : List Lexeme) (first : ℕ) (R : Outcome A → Type 0) : Type 0 where
  got : (x : A) (t : Cursor) → R (read x t) → first ≤ t.at → t.at ≤ length ts → Ended A ts first R
  stopped : (f : Stop) (n : ℕ) → R (halt f n) → Ended A ts first R

-- what ends so ends another reading with the same outcome
pub passed_on : {A : Type 0} {ts : List Lexeme} {m n : ℕ} {R S : Outcome A → Type 0} → m ≤ n → ((o : Outcome A) → R o → S o) → Ended A ts n R → Ended A ts m S
passed_on h f (got x t r le within) = got x t (f (read x t) r) (omega (arith, h, le)) within
passed_on h f (stopped g n r) = stopped g n (f (halt g n) r)

module _ (ts : List Lexeme) where
  pub ident_ends : (s : Cursor) → Ended (Place × List ℕ) ts (s.at + 1) (ReadsIdent ts s)
  ident_ends s = elim (ident_at ts s.at) [
    | inl x ↦ elim (cases_Bool (fits s)) [
      | inl fit ↦ got (x.0, x.1) (next s) (ident x.2 fit) (omega arith) (inside_of ts s.at x.2.0)
      | inr deep ↦ stopped stop.TooDeep s.at (ident_deep x.2 deep)
    ]
    | inr none ↦ stopped stop.Unexpected s.at (no_ident none)
  ]

  pub string_ends : (s : Cursor) → Ended (List ℕ × List Part) ts (s.at + 1) (ReadsString ts s)
  string_ends s = elim (string_at ts s.at) [
    | inl x ↦ elim (cases_Bool (fits s)) [
      | inl fit ↦ got (x.1, x.2) (next s) (string x.3 fit) (omega arith) (inside_of ts s.at x.3)
      | inr deep ↦ stopped stop.TooDeep s.at (string_deep x.3 deep)
    ]
    | inr none ↦ stopped stop.Unexpected s.at (no_string none)
  ]

  -- ---- the names after `has`

  more_names_end : (k : ℕ) (s : Cursor) (ns : List (List ℕ)) → length ts < k + s.at → s.at ≤ length ts → Ended (List (List ℕ)) ts s.at (ReadsMoreNames ts s ns)
  more_names_end zero s ns few within = absurd (omega (arith, few, within))
  more_names_end (suc k) s ns few within = elim (sign_at ts s.at kind.Dot) [
    | inl p ↦ elim (ident_ends (past s)) [
      | got x t r le inside ↦ passed_on (omega (arith, le)) (λ o a. names_more {q = x.0} {w = x.1} p.1 r a) (more_names_end k t (ns ++ x.1 ∷ []) (omega (arith, few, le)) inside)
      | stopped f n r ↦ stopped f n (names_halt p.1 r)
    ]
    | inr none ↦ got ns s (names_end none) (omega arith) within
  ]

  pub names_ends : (s : Cursor) → Ended (List (List ℕ)) ts (s.at + 1) (ReadsNames ts s)
  names_ends s = elim (string_at ts s.at) [
    | inl x ↦ elim (cases_Bool (fits s)) [
      | inl fit ↦ got (x.1 ∷ []) (next s) (names_string x.3 fit) (omega arith) (inside_of ts s.at x.3)
      | inr deep ↦ stopped stop.TooDeep s.at (names_string_deep x.3 deep)
    ]
    | inr none ↦ elim (ident_ends s) [
      | got x t r le inside ↦ passed_on le (λ o a. names_ident {p = x.0} {w = x.1} r a) (more_names_end (suc (length ts)) t (x.1 ∷ []) (omega arith) inside)
      | stopped f n r ↦ stopped f n (names_ident_halt none r)
    ]
  ]

  -- ---- paths

  more_path_ends : (k : ℕ) (s : Cursor) (w : List ℕ) → length ts < k + s.at → s.at ≤ length ts → Ended (List ℕ) ts s.at (ReadsMorePath ts s w)
  more_path_ends zero s w few within = absurd (omega (arith, few, within))
  more_path_ends (suc k) s w few within = elim (sign_at ts s.at kind.DoubleColon) [
    | inl p ↦ elim (ident_ends (next s)) [
      | got x t r le inside ↦ passed_on (omega (arith, le)) (λ o a. path_more {w = x.1} {q = x.0} p.1 r a) (more_path_ends k t (w ++ (codes "::" ++ x.1)) (omega (arith, few, le)) inside)
      | stopped f n r ↦ stopped f n (path_halt p.1 r)
    ]
    | inr none ↦ got w s (path_end none) (omega arith) within
  ]

  pub path_ends : (s : Cursor) → Ended TypeName ts (s.at + 1) (ReadsPath ts s)
  path_ends s = elim (ident_ends s) [
    | got x t r le inside ↦ elim (more_path_ends (suc (length ts)) t x.1 (omega arith) inside) [
      | got w u a more within ↦ got (record { place = x.0; name = w }) u (path {p = x.0} {w = x.1} r a) (omega (arith, le, more)) within
      | stopped f n a ↦ stopped f n (path_rest_halt {p = x.0} {w = x.1} r a)
    ]
    | stopped f n r ↦ stopped f n (path_ident_halt r)
  ]

  -- ---- uids

  more_entity_by : (k : ℕ) (s : Cursor) (p : Place) (w : List ℕ) → length ts < k + s.at → s.at ≤ length ts → Ended EntityLiteral ts (s.at + 1) (ReadsMoreEntity ts s p w)
  more_entity_by zero s p w few within = absurd (omega (arith, few, within))
  more_entity_by (suc k) s p w few within = elim (sign_at ts s.at kind.DoubleColon) [
    | inl q ↦ elim (string_at ts (s.at + 1)) [
      | inl x ↦ got (record { place = p; uid = record { type_name = w; id = x.1 } }) (next (next s)) (entity_id q.1 x.3) (omega arith) (inside_of ts (s.at + 1) x.3)
      | inr none ↦ elim (ident_ends (next s)) [
        | got x t r le inside ↦ passed_on (omega (arith, le)) (λ o a. entity_more {r = x.0} {w = x.1} q.1 r a) (more_entity_by k t p (w ++ (codes "::" ++ x.1)) (omega (arith, few, le)) inside)
        | stopped f n r ↦ stopped f n (entity_halt q.1 none r)
      ]
    ]
    | inr none ↦ stopped stop.Unexpected s.at (no_colons none)
  ]

  pub more_entity_ends : (s : Cursor) (p : Place) (w : List ℕ) → s.at ≤ length ts → Ended EntityLiteral ts (s.at + 1) (ReadsMoreEntity ts s p w)
  more_entity_ends s p w within = more_entity_by (suc (length ts)) s p w (omega arith) within

  pub entity_ends : (s : Cursor) → Ended EntityLiteral ts (s.at + 1) (ReadsEntity ts s)
  entity_ends s = elim (ident_ends s) [
    | got x t r le inside ↦ passed_on (omega (arith, le)) (λ o a. entity {p = x.0} {w = x.1} r a) (more_entity_ends t x.0 x.1 inside)
    | stopped f n r ↦ stopped f n (entity_ident_halt r)
  ]

  -- ---- keys of records

  pub key_ends : (s : Cursor) (fs : List (List ℕ × Expr)) → Ended (List ℕ) ts (s.at + 1) (ReadsKey ts s fs)
  key_ends s fs = elim (ident_at ts s.at) [
    | inl x ↦ elim (cases_Bool (fits s)) [
      | inl fit ↦ elim (cases_Bool (has_key x.1 fs)) [
        | inl twice ↦ stopped stop.DuplicateKey s.at (key_ident_twice (ident x.2 fit) twice)
        | inr new ↦ got x.1 (next s) (key_ident (ident x.2 fit) new) (omega arith) (inside_of ts s.at x.2.0)
      ]
      | inr deep ↦ stopped stop.TooDeep s.at (key_ident_deep x.2 deep)
    ]
    | inr no_name ↦ elim (string_at ts s.at) [
      | inl x ↦ elim (cases_Bool (fits s)) [
        | inl fit ↦ elim (cases_Bool (has_key x.1 fs)) [
          | inl twice ↦ stopped stop.DuplicateKey s.at (key_string_twice (string x.3 fit) twice)
          | inr new ↦ got x.1 (next s) (key_string (string x.3 fit) new) (omega arith) (inside_of ts s.at x.3)
        ]
        | inr deep ↦ stopped stop.TooDeep s.at (key_string_deep x.3 deep)
      ]
      | inr no_text ↦ stopped stop.Unexpected s.at (no_key no_name no_text)
    ]
  ]
