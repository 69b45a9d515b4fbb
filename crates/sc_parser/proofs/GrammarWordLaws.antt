-- What spells a name, a path or a uid is read so.
use Rattle.std.proofs.Common.{◌+◌, ℕ, List}
use Rattle.sc_pattern.specs.declared.part.Part.{Part}
use Rattle.sc_ast.specs.declared.place.Place.{Place}
use Rattle.sc_ast.specs.declared.expr.Expr.{Expr}
use Rattle.sc_ast.specs.declared.expr.TypeName.{TypeName}
use Rattle.sc_ast.specs.declared.literal.EntityLiteral.{EntityLiteral}
use Rattle.sc_lexer.specs.declared.token.Kind.TheVariants as kind
use Rattle.sc_lexemes.specs.declared.cursor.Cursor.{Cursor}
use Rattle.sc_lexemes.specs.declared.lexeme.Lexeme.{Lexeme}
use Rattle.sc_lexemes.specs.declared.lexeme.Shape.TheVariants as shape
use Rattle.sc_lexemes.specs.Depth.{next}
use Rattle.sc_parser.specs.Grammar.{Ident, Str, MoreNames, Names, MorePath, Path, Entity, Key}
use Rattle.sc_parser.specs.Grammar as g
use Rattle.sc_lexemes.specs.Lexemes.{Is, Lacks}
use Rattle.sc_parser.specs.Limits.{Limits}
use Rattle.sc_lexemes.specs.Outcomes.{read}
use Rattle.sc_parser.proofs.Sorts as sort
use Rattle.sc_parser.proofs.Nonterminals as n
use Rattle.sc_parser.proofs.Productions.{production}
use Rattle.sc_parser.proofs.Tests as test
use Rattle.sc_parser.proofs.Tests.{Meets}
use Rattle.sc_parser.proofs.Runs.{Runs, does, finds, lacks, goes, keeps, calls}
use Rattle.sc_parser.proofs.TestLaws.{other_ident, ident_other}
use Rattle.sc_parser.proofs.RunLaws.{tail}

pub to_ident : {K : Limits} {ts : List Lexeme} {s t : Cursor} {p : Place} {w : List ℕ} → Ident K ts s p w t → Runs K ts sort.name (production n.ident) s (read (p, w) t)
to_ident (g.ident {p = p} {w = w} h f) = finds (p, w) h (keeps f (goes h.0 does))

pub to_string : {K : Limits} {ts : List Lexeme} {s t : Cursor} {w : List ℕ} {parts : List Part} → Str K ts s w parts t → Runs K ts sort.string (production n.string) s (read (w, parts) t)
to_string (g.string {p = p} {t = w} {parts = parts} h f) = finds (p, w, parts) h (keeps f (goes h does))

-- an identifier is no string
no_string : {K : Limits} {ts : List Lexeme} {s t : Cursor} {p : Place} {w : List ℕ} → Ident K ts s p w t → (y : Place × List ℕ × List Part) → Meets ts s.at test.string y → ⊥
no_string {ts = ts} {s = s} (g.ident h f) y k = ident_other ts s.at h (λ v e i. cc) y.0 k

pub to_more_names : {K : Limits} {ts : List Lexeme} {s t : Cursor} {ns ms : List (List ℕ)} → MoreNames K ts s ns ms t → Lacks ts t.at (shape.Sign kind.Dot) → Runs K ts sort.names (production (n.more_names ns)) s (read ms t)
to_more_names g.names_end l = lacks l does
to_more_names (g.names_more {p = p} h a b) l = finds p h (goes h (calls (to_ident a) (tail (to_more_names b l))))

pub to_names : {K : Limits} {ts : List Lexeme} {s t : Cursor} {ns : List (List ℕ)} → Names K ts s ns t → Lacks ts t.at (shape.Sign kind.Dot) → Runs K ts sort.names (production n.names) s (read ns t)
to_names (g.names_string (g.string {p = p} {t = w} {parts = parts} h f)) l = finds (p, w, parts) h (keeps f (goes h does))
to_names (g.names_idents a b) l = lacks (no_string a) (calls (to_ident a) (tail (to_more_names b l)))

pub to_more_path : {K : Limits} {ts : List Lexeme} {s t : Cursor} {w v : List ℕ} → MorePath K ts s w v t → Lacks ts t.at (shape.Sign kind.DoubleColon) → Runs K ts sort.bytes (production (n.more_path w)) s (read v t)
to_more_path g.path_end l = lacks l does
to_more_path (g.path_more {p = p} h a b) l = finds p h (goes h (calls (to_ident a) (tail (to_more_path b l))))

pub to_path : {K : Limits} {ts : List Lexeme} {s t : Cursor} {y : TypeName} → Path K ts s y t → Lacks ts t.at (shape.Sign kind.DoubleColon) → Runs K ts sort.type_name (production n.path) s (read y t)
to_path (g.path a b) l = calls (to_ident a) (calls (to_more_path b l) does)

-- a path, `::` and a string
pub to_more_entity : {K : Limits} {ts : List Lexeme} {s t : Cursor} {o q r : Place} {w v i : List ℕ} {parts : List Part} → MorePath K ts s w v t → Is ts t.at q (shape.Sign kind.DoubleColon) → Is ts (t.at + 1) r (shape.String i parts)
    → Runs K ts sort.uid (production (n.more_entity o w)) s (read (record { place = o; uid = record { type_name = v; id = i } }) (next (next t)))
to_more_entity {q = q} {r = r} {i = i} {parts = parts} g.path_end h k = finds q h (goes h (finds (r, i, parts) k (goes k does)))
to_more_entity (g.path_more {p = p} j a b) h k = finds p j (goes j (lacks (no_string a) (calls (to_ident a) (tail (to_more_entity b h k)))))

-- either way `::` comes first
pub first_colons : {K : Limits} {ts : List Lexeme} {s t : Cursor} {q : Place} {w v : List ℕ} → MorePath K ts s w v t → Is ts t.at q (shape.Sign kind.DoubleColon) → (p : Place) × Is ts s.at p (shape.Sign kind.DoubleColon)
first_colons {q = q} g.path_end h = (q, h)
first_colons (g.path_more {p = p} j a b) h = (p, j)

pub to_entity : {K : Limits} {ts : List Lexeme} {s t : Cursor} {y : EntityLiteral} → Entity K ts s y t → Runs K ts sort.uid (production n.entity) s (read y t)
to_entity (g.entity a b h k) = calls (to_ident a) (tail (to_more_entity b h k))

pub to_key : {K : Limits} {ts : List Lexeme} {s t : Cursor} {fs : List (List ℕ × Expr)} {w : List ℕ} → Key K ts s fs w t → Runs K ts sort.bytes (production (n.key fs)) s (read w t)
to_key (g.key_ident (g.ident {p = p} {w = w} h f) k) = finds (p, w) h (keeps f (keeps k (goes h.0 does)))
to_key {ts = ts} {s = s} (g.key_string (g.string {p = p} {t = w} {parts = parts} h f) k) = lacks (other_ident ts s.at h (λ v e i. cc)) (finds (p, w, parts) h (keeps f (keeps k (goes h does))))
