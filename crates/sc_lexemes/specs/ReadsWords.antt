-- What comes of reading names, strings and uids, token by token: one case for each way in which it ends. No promise
-- about files speaks of this.
use Rattle.std.specs.Prelude.{◌≡◌, ℕ, ◌+◌, List, [], ◌∷◌, ◌++◌, codes, true, false}
use Rattle.sc_pattern.specs.declared.part.Part.{Part}
use Rattle.sc_ast.specs.declared.place.Place.{Place}
use Rattle.sc_ast.specs.declared.expr.Expr.{Expr}
use Rattle.sc_ast.specs.declared.expr.TypeName.{TypeName}
use Rattle.sc_ast.specs.declared.literal.EntityLiteral.{EntityLiteral}
use Rattle.sc_lexer.specs.declared.token.Kind.TheVariants as kind
use Rattle.sc_lexemes.specs.declared.cursor.Cursor.{Cursor}
use Rattle.sc_lexemes.specs.declared.lexeme.Lexeme.{Lexeme}
use Rattle.sc_lexemes.specs.declared.lexeme.Shape.TheVariants.{String, Sign}
use Rattle.sc_lexemes.specs.declared.stop.Stop.{Stop}
use Rattle.sc_lexemes.specs.declared.stop.Stop.TheVariants as stop
use Rattle.sc_lexemes.specs.Depth.{fits, next, past}
use Rattle.sc_lexemes.specs.Lexemes.{Is, Lacks, IsIdent, LacksIdent, LacksString}
use Rattle.sc_lexemes.specs.Outcomes.{Outcome, read, halt}
use Rattle.sc_lexemes.specs.Tables.{has_key}

-- an identifier
pub data ReadsIdent : List Lexeme → Cursor → Outcome (Place × List ℕ) → Type 0 where
  ident : {ts : List Lexeme} {s : Cursor} {p : Place} {w : List ℕ} → IsIdent ts s.at p w → fits s ≡ true
      → ReadsIdent ts s (read (p, w) (next s))
  ident_deep : {ts : List Lexeme} {s : Cursor} {p : Place} {w : List ℕ} → IsIdent ts s.at p w → fits s ≡ false
      → ReadsIdent ts s (halt stop.TooDeep s.at)
  no_ident : {ts : List Lexeme} {s : Cursor} → LacksIdent ts s.at → ReadsIdent ts s (halt stop.Unexpected s.at)

-- a string
pub data ReadsString : List Lexeme → Cursor → Outcome (List ℕ × List Part) → Type 0 where
  string : {ts : List Lexeme} {s : Cursor} {p : Place} {t : List ℕ} {parts : List Part}
      → Is ts s.at p (String t parts) → fits s ≡ true → ReadsString ts s (read (t, parts) (next s))
  string_deep : {ts : List Lexeme} {s : Cursor} {p : Place} {t : List ℕ} {parts : List Part}
      → Is ts s.at p (String t parts) → fits s ≡ false → ReadsString ts s (halt stop.TooDeep s.at)
  no_string : {ts : List Lexeme} {s : Cursor} → LacksString ts s.at → ReadsString ts s (halt stop.Unexpected s.at)

-- the names after `has`, behind those so far
pub data ReadsMoreNames : List Lexeme → Cursor → List (List ℕ) → Outcome (List (List ℕ)) → Type 0 where
  names_end : {ts : List Lexeme} {s : Cursor} {ns : List (List ℕ)} → Lacks ts s.at (Sign kind.Dot)
      → ReadsMoreNames ts s ns (read ns s)
  names_halt : {ts : List Lexeme} {s : Cursor} {ns : List (List ℕ)} {p : Place} {f : Stop} {n : ℕ}
      → Is ts s.at p (Sign kind.Dot) → ReadsIdent ts (past s) (halt f n) → ReadsMoreNames ts s ns (halt f n)
  names_more : {ts : List Lexeme} {s t : Cursor} {ns : List (List ℕ)} {p q : Place} {w : List ℕ}
      {o : Outcome (List (List ℕ))} → Is ts s.at p (Sign kind.Dot) → ReadsIdent ts (past s) (read (q, w) t)
      → ReadsMoreNames ts t (ns ++ w ∷ []) o → ReadsMoreNames ts s ns o

-- a string, or identifiers with dots between them
pub data ReadsNames : List Lexeme → Cursor → Outcome (List (List ℕ)) → Type 0 where
  names_string : {ts : List Lexeme} {s : Cursor} {p : Place} {t : List ℕ} {parts : List Part}
      → Is ts s.at p (String t parts) → fits s ≡ true → ReadsNames ts s (read (t ∷ []) (next s))
  names_string_deep : {ts : List Lexeme} {s : Cursor} {p : Place} {t : List ℕ} {parts : List Part}
      → Is ts s.at p (String t parts) → fits s ≡ false → ReadsNames ts s (halt stop.TooDeep s.at)
  names_ident_halt : {ts : List Lexeme} {s : Cursor} {f : Stop} {n : ℕ} → LacksString ts s.at
      → ReadsIdent ts s (halt f n) → ReadsNames ts s (halt f n)
  names_ident : {ts : List Lexeme} {s t : Cursor} {p : Place} {w : List ℕ} {o : Outcome (List (List ℕ))}
      → ReadsIdent ts s (read (p, w) t) → ReadsMoreNames ts t (w ∷ []) o → ReadsNames ts s o

-- the rest of a path behind its text so far
pub data ReadsMorePath : List Lexeme → Cursor → List ℕ → Outcome (List ℕ) → Type 0 where
  path_end : {ts : List Lexeme} {s : Cursor} {n : List ℕ} → Lacks ts s.at (Sign kind.DoubleColon)
      → ReadsMorePath ts s n (read n s)
  path_halt : {ts : List Lexeme} {s : Cursor} {n : List ℕ} {p : Place} {f : Stop} {m : ℕ}
      → Is ts s.at p (Sign kind.DoubleColon) → ReadsIdent ts (next s) (halt f m) → ReadsMorePath ts s n (halt f m)
  path_more : {ts : List Lexeme} {s t : Cursor} {n w : List ℕ} {p q : Place} {o : Outcome (List ℕ)}
      → Is ts s.at p (Sign kind.DoubleColon) → ReadsIdent ts (next s) (read (q, w) t)
      → ReadsMorePath ts t (n ++ (codes "::" ++ w)) o → ReadsMorePath ts s n o

-- the name of a type, with the place of its first token
pub data ReadsPath : List Lexeme → Cursor → Outcome TypeName → Type 0 where
  path_ident_halt : {ts : List Lexeme} {s : Cursor} {f : Stop} {m : ℕ} → ReadsIdent ts s (halt f m)
      → ReadsPath ts s (halt f m)
  path_rest_halt : {ts : List Lexeme} {s t : Cursor} {p : Place} {w : List ℕ} {f : Stop} {m : ℕ}
      → ReadsIdent ts s (read (p, w) t) → ReadsMorePath ts t w (halt f m) → ReadsPath ts s (halt f m)
  path : {ts : List Lexeme} {s t u : Cursor} {p : Place} {w n : List ℕ} → ReadsIdent ts s (read (p, w) t)
      → ReadsMorePath ts t w (read n u) → ReadsPath ts s (read (record { place = p; name = n }) u)

-- the rest of an entity's uid, behind its type's text so far
pub data ReadsMoreEntity : List Lexeme → Cursor → Place → List ℕ → Outcome EntityLiteral → Type 0 where
  no_colons : {ts : List Lexeme} {s : Cursor} {p : Place} {n : List ℕ} → Lacks ts s.at (Sign kind.DoubleColon)
      → ReadsMoreEntity ts s p n (halt stop.Unexpected s.at)
  entity_id : {ts : List Lexeme} {s : Cursor} {p q r : Place} {n t : List ℕ} {parts : List Part}
      → Is ts s.at q (Sign kind.DoubleColon) → Is ts (s.at + 1) r (String t parts)
      → ReadsMoreEntity ts s p n (read (record { place = p; uid = record { type_name = n; id = t } }) (next (next s)))
  entity_halt : {ts : List Lexeme} {s : Cursor} {p q : Place} {n : List ℕ} {f : Stop} {m : ℕ}
      → Is ts s.at q (Sign kind.DoubleColon) → LacksString ts (s.at + 1) → ReadsIdent ts (next s) (halt f m)
      → ReadsMoreEntity ts s p n (halt f m)
  entity_more : {ts : List Lexeme} {s t : Cursor} {p q r : Place} {n w : List ℕ} {o : Outcome EntityLiteral}
      → Is ts s.at q (Sign kind.DoubleColon) → ReadsIdent ts (next s) (read (r, w) t)
      → ReadsMoreEntity ts t p (n ++ (codes "::" ++ w)) o → ReadsMoreEntity ts s p n o

-- an entity's uid
pub data ReadsEntity : List Lexeme → Cursor → Outcome EntityLiteral → Type 0 where
  entity_ident_halt : {ts : List Lexeme} {s : Cursor} {f : Stop} {m : ℕ} → ReadsIdent ts s (halt f m)
      → ReadsEntity ts s (halt f m)
  entity : {ts : List Lexeme} {s t : Cursor} {p : Place} {w : List ℕ} {o : Outcome EntityLiteral}
      → ReadsIdent ts s (read (p, w) t) → ReadsMoreEntity ts t p w o → ReadsEntity ts s o

-- a key of a record that has these fields so far
pub data ReadsKey : List Lexeme → Cursor → List (List ℕ × Expr) → Outcome (List ℕ) → Type 0 where
  key_ident : {ts : List Lexeme} {s t : Cursor} {p : Place} {w : List ℕ} {fs : List (List ℕ × Expr)}
      → ReadsIdent ts s (read (p, w) t) → has_key w fs ≡ false → ReadsKey ts s fs (read w t)
  key_ident_deep : {ts : List Lexeme} {s : Cursor} {p : Place} {w : List ℕ} {fs : List (List ℕ × Expr)}
      → IsIdent ts s.at p w → fits s ≡ false → ReadsKey ts s fs (halt stop.TooDeep s.at)
  key_ident_twice : {ts : List Lexeme} {s t : Cursor} {p : Place} {w : List ℕ} {fs : List (List ℕ × Expr)}
      → ReadsIdent ts s (read (p, w) t) → has_key w fs ≡ true → ReadsKey ts s fs (halt stop.DuplicateKey s.at)
  key_string : {ts : List Lexeme} {s t : Cursor} {w : List ℕ} {parts : List Part} {fs : List (List ℕ × Expr)}
      → ReadsString ts s (read (w, parts) t) → has_key w fs ≡ false → ReadsKey ts s fs (read w t)
  key_string_deep : {ts : List Lexeme} {s : Cursor} {p : Place} {t : List ℕ} {parts : List Part}
      {fs : List (List ℕ × Expr)} → Is ts s.at p (String t parts) → fits s ≡ false
      → ReadsKey ts s fs (halt stop.TooDeep s.at)
  key_string_twice : {ts : List Lexeme} {s t : Cursor} {w : List ℕ} {parts : List Part} {fs : List (List ℕ × Expr)}
      → ReadsString ts s (read (w, parts) t) → has_key w fs ≡ true → ReadsKey ts s fs (halt stop.DuplicateKey s.at)
  no_key : {ts : List Lexeme} {s : Cursor} {fs : List (List ℕ × Expr)} → LacksIdent ts s.at → LacksString ts s.at
      → ReadsKey ts s fs (halt stop.Unexpected s.at)
