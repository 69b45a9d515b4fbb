-- Names, strings, paths, uids and keys at which reading stops can be completed.
use Rattle.std.proofs.Common.{ℕ, ◌+◌, ◌≤◌, ◌++◌, List, [], ◌∷◌, refl, arith, length, le_refl, codes}
use Rattle.sc_ast.specs.declared.place.Place.{Place}
use Rattle.sc_ast.specs.declared.expr.Expr.{Expr}
use Rattle.sc_ast.specs.declared.expr.TypeName.{TypeName}
use Rattle.sc_ast.specs.declared.literal.EntityLiteral.{EntityLiteral}
use Rattle.sc_lexer.specs.declared.token.Kind.TheVariants as kind
use Rattle.sc_pattern.specs.declared.part.Part.{Part}
use Rattle.sc_lexemes.specs.declared.cursor.Cursor.{Cursor}
use Rattle.sc_lexemes.specs.declared.lexeme.Lexeme.{Lexeme}
use Rattle.sc_lexemes.specs.declared.lexeme.Shape.TheVariants.{Word, String, Sign}
use Rattle.sc_lexemes.specs.declared.stop.Stop.{Stop}
use Rattle.sc_lexemes.specs.declared.stop.Stop.TheVariants as stop
use Rattle.sc_lexemes.specs.Depth.{next, past}
use Rattle.sc_parser.specs.Grammar.{Ident, Str, MoreNames, Names, MorePath, Path, Entity, Key, ident, string, names_end, names_more, names_string, names_idents, path_end, path_more, path, entity, key_ident, key_string}
use Rattle.sc_lexemes.specs.Lexemes.{Is}
use Rattle.sc_parser.specs.Limits.{Limits, all_limits}
use Rattle.sc_lexemes.specs.Outcomes.{halt}
use Rattle.sc_lexemes.specs.ReadsWords.{ReadsIdent, ReadsString, ReadsMoreNames, ReadsNames, ReadsMorePath, ReadsPath, ReadsMoreEntity, ReadsEntity, ReadsKey}
use Rattle.sc_lexemes.specs.ReadsWords as r
use Rattle.sc_parser.proofs.PlainForwardLaws.{fwd_ident}
use Rattle.sc_parser.proofs.PlainReadsLaws.{from_ident}
use Rattle.sc_parser.proofs.PlainTokensLaws.{fewer, moved}
use Rattle.sc_parser.proofs.ViableKeptLaws.{kept_ident}
use Rattle.sc_parser.proofs.ViableStopsLaws.{stop_ident, stop_more_names, stop_more_path, stop_more_entity}
use Rattle.sc_parser.proofs.ViableTokensLaws.{cut, Frees, far, loose, Done, Ahead, head_of, rest_of, leaf, onward, carry, nowhere, token, sign}

abbrev pub quotes : Lexeme
quotes = token (String [] [])

abbrev pub SomeIdent : Limits → Cursor → List Lexeme → Cursor → Type 0
SomeIdent K s us t = (p : Place) × (w : List ℕ) × Ident K us s p w t

pub more_ident : {K : Limits} {ts : List Lexeme} {s : Cursor} {f : Stop} {n : ℕ} → Frees K f n → (rest : List Lexeme) → cut f n ≤ length ts → ReadsIdent ts s (halt f n) → Done (SomeIdent K s) ts (cut f n) rest
more_ident {K = K} {s = s} g rest w (r.ident_deep {p = p} {w = i} h f) = leaf (SomeIdent K s) (next s) (next s) rest w (le_refl (s.at + 1)) (λ us d. d) (λ us b d. (p, i, ident (moved b (omega arith) h.0, h.1) (loose (g.here stop.TooDeep refl))))
more_ident {K = K} {s = s} g rest w (r.no_ident h) = leaf (SomeIdent K s) s (next s) (token (Word (codes "a")) ∷ rest) w (omega arith) (λ us d. rest_of d) (λ us b d. (nowhere, codes "a", ident (head_of d, refl) (loose (g.later stop.TooDeep s.at (le_refl s.at)))))

abbrev pub SomeString : Limits → Cursor → List Lexeme → Cursor → Type 0
SomeString K s us t = (w : List ℕ) × (parts : List Part) × Str K us s w parts t

pub more_string : {K : Limits} {ts : List Lexeme} {s : Cursor} {f : Stop} {n : ℕ} → Frees K f n → (rest : List Lexeme) → cut f n ≤ length ts → ReadsString ts s (halt f n) → Done (SomeString K s) ts (cut f n) rest
more_string {K = K} {s = s} g rest w (r.string_deep {t = i} {parts = parts} h f) = leaf (SomeString K s) (next s) (next s) rest w (le_refl (s.at + 1)) (λ us d. d) (λ us b d. (i, parts, string (moved b (omega arith) h) (loose (g.here stop.TooDeep refl))))
more_string {K = K} {s = s} g rest w (r.no_string h) = leaf (SomeString K s) s (next s) (quotes ∷ rest) w (omega arith) (λ us d. rest_of d) (λ us b d. ([], [], string (head_of d) (loose (g.later stop.TooDeep s.at (le_refl s.at)))))

abbrev SomeMoreNames : Limits → Cursor → List (List ℕ) → List Lexeme → Cursor → Type 0
SomeMoreNames K s ns us t = (ms : List (List ℕ)) × MoreNames K us s ns ms t

more_more_names : {K : Limits} {ts : List Lexeme} {s : Cursor} {ns : List (List ℕ)} {f : Stop} {n : ℕ} → Frees K f n → (rest : List Lexeme) → cut f n ≤ length ts → ReadsMoreNames ts s ns (halt f n) → Done (SomeMoreNames K s ns) ts (cut f n) rest
more_more_names {K = K} {s = s} {ns = ns} g rest w (r.names_halt h p) =
    let i = far g in
    let j = stop_ident p in
    carry (SomeIdent K (past s)) (SomeMoreNames K s ns) (more_ident g rest w p) (λ us t b x. (ns ++ x.1 ∷ [], names_more (moved b (omega (arith, i, j)) h) x.2 names_end))
more_more_names {K = K} {s = s} {ns = ns} g rest w (r.names_more {t = t} {w = v} h p q) =
    let i = far g in
    let j = stop_more_names q in
    let k = fwd_ident (from_ident all_limits p) in
    carry (SomeMoreNames K t (ns ++ v ∷ [])) (SomeMoreNames K s ns) (more_more_names g rest w q) (λ us u b x. (x.0, names_more (moved b (omega (arith, i, j, k)) h) (kept_ident (fewer b (omega (arith, i, j))) p) x.1))

abbrev pub SomeNames : Limits → Cursor → List Lexeme → Cursor → Type 0
SomeNames K s us t = (ns : List (List ℕ)) × Names K us s ns t

pub more_names : {K : Limits} {ts : List Lexeme} {s : Cursor} {f : Stop} {n : ℕ} → Frees K f n → (rest : List Lexeme) → cut f n ≤ length ts → ReadsNames ts s (halt f n) → Done (SomeNames K s) ts (cut f n) rest
more_names {K = K} {s = s} g rest w (r.names_string_deep {t = i} h f) = leaf (SomeNames K s) (next s) (next s) rest w (le_refl (s.at + 1)) (λ us d. d) (λ us b d. (i ∷ [], names_string (string (moved b (omega arith) h) (loose (g.here stop.TooDeep refl)))))
more_names {K = K} {s = s} g rest w (r.names_ident_halt h p) = carry (SomeIdent K s) (SomeNames K s) (more_ident g rest w p) (λ us t b x. (x.1 ∷ [], names_idents x.2 names_end))
more_names {K = K} {s = s} g rest w (r.names_ident {t = t} {w = v} p q) =
    let i = far g in
    let j = stop_more_names q in
    carry (SomeMoreNames K t (v ∷ [])) (SomeNames K s) (more_more_names g rest w q) (λ us u b x. (x.0, names_idents (kept_ident (fewer b (omega (arith, i, j))) p) x.1))

abbrev SomeMorePath : Limits → Cursor → List ℕ → List Lexeme → Cursor → Type 0
SomeMorePath K s v us t = (m : List ℕ) × MorePath K us s v m t

more_more_path : {K : Limits} {ts : List Lexeme} {s : Cursor} {v : List ℕ} {f : Stop} {n : ℕ} → Frees K f n → (rest : List Lexeme) → cut f n ≤ length ts → ReadsMorePath ts s v (halt f n) → Done (SomeMorePath K s v) ts (cut f n) rest
more_more_path {K = K} {s = s} {v = v} g rest w (r.path_halt h p) =
    let i = far g in
    let j = stop_ident p in
    carry (SomeIdent K (next s)) (SomeMorePath K s v) (more_ident g rest w p) (λ us t b x. (v ++ (codes "::" ++ x.1), path_more (moved b (omega (arith, i, j)) h) x.2 path_end))
more_more_path {K = K} {s = s} {v = v} g rest w (r.path_more {t = t} {w = o} h p q) =
    let i = far g in
    let j = stop_more_path q in
    let k = fwd_ident (from_ident all_limits p) in
    carry (SomeMorePath K t (v ++ (codes "::" ++ o))) (SomeMorePath K s v) (more_more_path g rest w q) (λ us u b x. (x.0, path_more (moved b (omega (arith, i, j, k)) h) (kept_ident (fewer b (omega (arith, i, j))) p) x.1))

abbrev pub SomePath : Limits → Cursor → List Lexeme → Cursor → Type 0
SomePath K s us t = (y : TypeName) × Path K us s y t

pub more_path : {K : Limits} {ts : List Lexeme} {s : Cursor} {f : Stop} {n : ℕ} → Frees K f n → (rest : List Lexeme) → cut f n ≤ length ts → ReadsPath ts s (halt f n) → Done (SomePath K s) ts (cut f n) rest
more_path {K = K} {s = s} g rest w (r.path_ident_halt p) = carry (SomeIdent K s) (SomePath K s) (more_ident g rest w p) (λ us t b x. (record { place = x.0; name = x.1 }, path x.2 path_end))
more_path {K = K} {s = s} g rest w (r.path_rest_halt {t = t} {p = o} {w = v} p q) =
    let i = far g in
    let j = stop_more_path q in
    carry (SomeMorePath K t v) (SomePath K s) (more_more_path g rest w q) (λ us u b x. (record { place = o; name = x.0 }, path (kept_ident (fewer b (omega (arith, i, j))) p) x.1))

-- what stands behind the text so far of an entity's type
pub data EntityRest : Limits → List Lexeme → Cursor → Place → List ℕ → EntityLiteral → Cursor → Type 0 where
  entity_rest : {K : Limits} {us : List Lexeme} {s u : Cursor} {p q l : Place} {v m i : List ℕ} {parts : List Part} → MorePath K us s v m u → Is us u.at q (Sign kind.DoubleColon) → Is us (u.at + 1) l (String i parts) → EntityRest K us s p v (record { place = p; uid = record { type_name = m; id = i } }) (next (next u))

longer_rest : {K : Limits} {us : List Lexeme} {s t u : Cursor} {p q l : Place} {v o : List ℕ} {y : EntityLiteral} → Is us s.at q (Sign kind.DoubleColon) → Ident K us (next s) l o t → EntityRest K us t p (v ++ (codes "::" ++ o)) y u → EntityRest K us s p v y u
longer_rest h i (entity_rest m k l) = entity_rest (path_more h i m) k l

pub whole_entity : {K : Limits} {us : List Lexeme} {s t u : Cursor} {p : Place} {v : List ℕ} {y : EntityLiteral} → Ident K us s p v t → EntityRest K us t p v y u → Entity K us s y u
whole_entity i (entity_rest m k l) = entity i m k l

-- `::` and a string
pub short_rest : {K : Limits} {us rest : List Lexeme} {s : Cursor} (p : Place) (v : List ℕ) → Ahead us s.at (sign kind.DoubleColon ∷ quotes ∷ rest) → EntityRest K us s p v (record { place = p; uid = record { type_name = v; id = [] } }) (next (next s))
short_rest p v d = entity_rest path_end (head_of d) (head_of (rest_of d))

abbrev pub SomeEntityRest : Limits → Cursor → Place → List ℕ → List Lexeme → Cursor → Type 0
SomeEntityRest K s p v us t = (y : EntityLiteral) × EntityRest K us s p v y t

pub more_more_entity : {K : Limits} {ts : List Lexeme} {s : Cursor} {p : Place} {v : List ℕ} {f : Stop} {n : ℕ} → Frees K f n → (rest : List Lexeme) → cut f n ≤ length ts → ReadsMoreEntity ts s p v (halt f n) → Done (SomeEntityRest K s p v) ts (cut f n) rest
more_more_entity {K = K} {s = s} {p = p} {v = v} g rest w (r.no_colons h) = leaf (SomeEntityRest K s p v) s (next (next s)) (sign kind.DoubleColon ∷ quotes ∷ rest) w (omega arith) (λ us d. rest_of (rest_of d)) (λ us b d. (record { place = p; uid = record { type_name = v; id = [] } }, short_rest p v d))
more_more_entity {K = K} {s = s} {p = p} {v = v} g rest w (r.entity_halt h l q) =
    let i = far g in
    let j = stop_ident q in
    onward (SomeIdent K (next s)) (SomeEntityRest K s p v) (λ t. next (next t)) (more_ident g (sign kind.DoubleColon ∷ quotes ∷ rest) w q) (λ t. omega arith) (λ us t d. rest_of (rest_of d)) (λ us t b a d x. (record { place = p; uid = record { type_name = v ++ (codes "::" ++ x.1); id = [] } }, longer_rest (moved b (omega (arith, i, j)) h) x.2 (short_rest p (v ++ (codes "::" ++ x.1)) d)))
more_more_entity {K = K} {s = s} {p = p} {v = v} g rest w (r.entity_more {t = t} {w = o} h q u) =
    let i = far g in
    let j = stop_more_entity u in
    let k = fwd_ident (from_ident all_limits q) in
    carry (SomeEntityRest K t p (v ++ (codes "::" ++ o))) (SomeEntityRest K s p v) (more_more_entity g rest w u) (λ us z b x. (x.0, longer_rest (moved b (omega (arith, i, j, k)) h) (kept_ident (fewer b (omega (arith, i, j))) q) x.1))

abbrev pub SomeEntity : Limits → Cursor → List Lexeme → Cursor → Type 0
SomeEntity K s us t = (y : EntityLiteral) × Entity K us s y t

pub more_entity : {K : Limits} {ts : List Lexeme} {s : Cursor} {f : Stop} {n : ℕ} → Frees K f n → (rest : List Lexeme) → cut f n ≤ length ts → ReadsEntity ts s (halt f n) → Done (SomeEntity K s) ts (cut f n) rest
more_entity {K = K} {s = s} g rest w (r.entity_ident_halt p) = onward (SomeIdent K s) (SomeEntity K s) (λ t. next (next t)) (more_ident g (sign kind.DoubleColon ∷ quotes ∷ rest) w p) (λ t. omega arith) (λ us t d. rest_of (rest_of d)) (λ us t b a d x. (record { place = x.0; uid = record { type_name = x.1; id = [] } }, whole_entity x.2 (short_rest x.0 x.1 d)))
more_entity {K = K} {s = s} g rest w (r.entity {t = t} {p = o} {w = v} p q) =
    let i = far g in
    let j = stop_more_entity q in
    carry (SomeEntityRest K t o v) (SomeEntity K s) (more_more_entity g rest w q) (λ us u b x. (x.0, whole_entity (kept_ident (fewer b (omega (arith, i, j))) p) x.1))

abbrev pub SomeKey : Limits → Cursor → List (List ℕ × Expr) → List Lexeme → Cursor → Type 0
SomeKey K s fs us t = (v : List ℕ) × Key K us s fs v t

pub more_key : {K : Limits} {ts : List Lexeme} {s : Cursor} {fs : List (List ℕ × Expr)} {f : Stop} {n : ℕ} → Frees K f n → (rest : List Lexeme) → cut f n ≤ length ts → ReadsKey ts s fs (halt f n) → Done (SomeKey K s fs) ts (cut f n) rest
more_key {K = K} {s = s} {fs = fs} g rest w (r.key_ident_deep {p = p} {w = v} h f) = leaf (SomeKey K s fs) (next s) (next s) rest w (le_refl (s.at + 1)) (λ us d. d) (λ us b d. (v, key_ident (ident (moved b (omega arith) h.0, h.1) (loose (g.here stop.TooDeep refl))) (loose (g.here stop.DuplicateKey refl))))
more_key {K = K} {s = s} {fs = fs} g rest w (r.key_ident_twice {w = v} (r.ident h f) e) = leaf (SomeKey K s fs) (next s) (next s) rest w (le_refl (s.at + 1)) (λ us d. d) (λ us b d. (v, key_ident (ident (moved b (omega arith) h.0, h.1) (λ k. f)) (loose (g.here stop.DuplicateKey refl))))
more_key {K = K} {s = s} {fs = fs} g rest w (r.key_string_deep {t = v} h f) = leaf (SomeKey K s fs) (next s) (next s) rest w (le_refl (s.at + 1)) (λ us d. d) (λ us b d. (v, key_string (string (moved b (omega arith) h) (loose (g.here stop.TooDeep refl))) (loose (g.here stop.DuplicateKey refl))))
more_key {K = K} {s = s} {fs = fs} g rest w (r.key_string_twice {w = v} (r.string h f) e) = leaf (SomeKey K s fs) (next s) (next s) rest w (le_refl (s.at + 1)) (λ us d. d) (λ us b d. (v, key_string (string (moved b (omega arith) h) (λ k. f)) (loose (g.here stop.DuplicateKey refl))))
more_key {K = K} {s = s} {fs = fs} g rest w (r.no_key h l) = leaf (SomeKey K s fs) s (next s) (quotes ∷ rest) w (omega arith) (λ us d. rest_of d) (λ us b d. ([], key_string (string (head_of d) (loose (g.later stop.TooDeep s.at (le_refl s.at)))) (loose (g.later stop.DuplicateKey s.at (le_refl s.at)))))
