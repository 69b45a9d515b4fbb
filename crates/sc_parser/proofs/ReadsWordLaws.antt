-- Reading names, paths and uids runs their programs.
use Rattle.std.proofs.Common.{ℕ, List, refl, ap, not}
use Rattle.sc_pattern.specs.declared.part.Part.{Part}
use Rattle.sc_ast.specs.declared.place.Place.{Place}
use Rattle.sc_ast.specs.declared.expr.Expr.{Expr}
use Rattle.sc_ast.specs.declared.expr.TypeName.{TypeName}
use Rattle.sc_ast.specs.declared.literal.EntityLiteral.{EntityLiteral}
use Rattle.sc_lexemes.specs.declared.cursor.Cursor.{Cursor}
use Rattle.sc_lexemes.specs.declared.lexeme.Lexeme.{Lexeme}
use Rattle.sc_parser.specs.Limits.{all_limits}
use Rattle.sc_lexemes.specs.Outcomes.{Outcome, read}
use Rattle.sc_lexemes.specs.ReadsWords.{ReadsIdent, ReadsString, ReadsMoreNames, ReadsNames, ReadsMorePath, ReadsPath, ReadsMoreEntity, ReadsEntity, ReadsKey}
use Rattle.sc_lexemes.specs.ReadsWords as r
use Rattle.sc_parser.proofs.Sorts as sort
use Rattle.sc_parser.proofs.Nonterminals as n
use Rattle.sc_parser.proofs.Productions.{production}
use Rattle.sc_parser.proofs.Tests as test
use Rattle.sc_parser.proofs.Tests.{Meets}
use Rattle.sc_parser.proofs.Runs.{Runs, does, fails, finds, lacks, goes, keeps, breaks, calls, halts}
use Rattle.sc_parser.proofs.TestLaws.{other_ident, ident_other}
use Rattle.sc_parser.proofs.RunLaws.{tail}

pub into_ident : {ts : List Lexeme} {s : Cursor} {o : Outcome (Place × List ℕ)} → ReadsIdent ts s o → Runs all_limits ts sort.name (production n.ident) s o
into_ident (r.ident {p = p} {w = w} h f) = finds (p, w) h (keeps (λ k. f) (goes h.0 does))
into_ident (r.ident_deep {p = p} {w = w} h f) = finds (p, w) h (breaks refl h.0 refl f)
into_ident (r.no_ident n) = lacks (λ x h. n x.0 x.1 h.0 h.1) fails

pub into_string : {ts : List Lexeme} {s : Cursor} {o : Outcome (List ℕ × List Part)} → ReadsString ts s o → Runs all_limits ts sort.string (production n.string) s o
into_string (r.string {p = p} {t = w} {parts = parts} h f) = finds (p, w, parts) h (keeps (λ k. f) (goes h does))
into_string (r.string_deep {p = p} {t = w} {parts = parts} h f) = finds (p, w, parts) h (breaks refl h refl f)
into_string (r.no_string n) = lacks (λ x h. n x.0 x.1 x.2 h) fails

-- where an identifier is read stands no string
pub ident_lacks_string : {ts : List Lexeme} {s t : Cursor} {x : Place × List ℕ} → ReadsIdent ts s (read x t) → (y : Place × List ℕ × List Part) → Meets ts s.at test.string y → ⊥
ident_lacks_string {ts = ts} {s = s} (r.ident h f) y g = ident_other ts s.at h (λ v e i. cc) y.0 g

pub into_more_names : {ts : List Lexeme} {s : Cursor} {ns : List (List ℕ)} {o : Outcome (List (List ℕ))} → ReadsMoreNames ts s ns o → Runs all_limits ts sort.names (production (n.more_names ns)) s o
into_more_names (r.names_end n) = lacks n does
into_more_names (r.names_halt {p = p} h a) = finds p h (goes h (halts (into_ident a)))
into_more_names (r.names_more {p = p} h a b) = finds p h (goes h (calls (into_ident a) (tail (into_more_names b))))

pub into_names : {ts : List Lexeme} {s : Cursor} {o : Outcome (List (List ℕ))} → ReadsNames ts s o → Runs all_limits ts sort.names (production n.names) s o
into_names (r.names_string {p = p} {t = w} {parts = parts} h f) = finds (p, w, parts) h (keeps (λ k. f) (goes h does))
into_names (r.names_string_deep {p = p} {t = w} {parts = parts} h f) = finds (p, w, parts) h (breaks refl h refl f)
into_names (r.names_ident_halt n a) = lacks (λ x h. n x.0 x.1 x.2 h) (halts (into_ident a))
into_names (r.names_ident a b) = lacks (ident_lacks_string a) (calls (into_ident a) (tail (into_more_names b)))

pub into_more_path : {ts : List Lexeme} {s : Cursor} {w : List ℕ} {o : Outcome (List ℕ)} → ReadsMorePath ts s w o → Runs all_limits ts sort.bytes (production (n.more_path w)) s o
into_more_path (r.path_end n) = lacks n does
into_more_path (r.path_halt {p = p} h a) = finds p h (goes h (halts (into_ident a)))
into_more_path (r.path_more {p = p} h a b) = finds p h (goes h (calls (into_ident a) (tail (into_more_path b))))

pub into_path : {ts : List Lexeme} {s : Cursor} {o : Outcome TypeName} → ReadsPath ts s o → Runs all_limits ts sort.type_name (production n.path) s o
into_path (r.path_ident_halt a) = halts (into_ident a)
into_path (r.path_rest_halt a b) = calls (into_ident a) (halts (into_more_path b))
into_path (r.path a b) = calls (into_ident a) (calls (into_more_path b) does)

pub into_more_entity : {ts : List Lexeme} {s : Cursor} {p : Place} {w : List ℕ} {o : Outcome EntityLiteral} → ReadsMoreEntity ts s p w o → Runs all_limits ts sort.uid (production (n.more_entity p w)) s o
into_more_entity (r.no_colons n) = lacks n fails
into_more_entity (r.entity_id {q = q} {r = r} {t = w} {parts = parts} h g) = finds q h (goes h (finds (r, w, parts) g (goes g does)))
into_more_entity (r.entity_halt {q = q} h n a) = finds q h (goes h (lacks (λ x g. n x.0 x.1 x.2 g) (halts (into_ident a))))
into_more_entity (r.entity_more {q = q} h a b) = finds q h (goes h (lacks (ident_lacks_string a) (calls (into_ident a) (tail (into_more_entity b)))))

pub into_entity : {ts : List Lexeme} {s : Cursor} {o : Outcome EntityLiteral} → ReadsEntity ts s o → Runs all_limits ts sort.uid (production n.entity) s o
into_entity (r.entity_ident_halt a) = halts (into_ident a)
into_entity (r.entity a b) = calls (into_ident a) (tail (into_more_entity b))

pub into_key : {ts : List Lexeme} {s : Cursor} {fs : List (List ℕ × Expr)} {o : Outcome (List ℕ)} → ReadsKey ts s fs o → Runs all_limits ts sort.bytes (production (n.key fs)) s o
into_key (r.key_ident (r.ident {p = p} {w = w} h f) e) = finds (p, w) h (keeps (λ k. f) (keeps (λ k. ap not e) (goes h.0 does)))
into_key (r.key_ident_deep {p = p} {w = w} h f) = finds (p, w) h (breaks refl h.0 refl f)
into_key (r.key_ident_twice (r.ident {p = p} {w = w} h f) e) = finds (p, w) h (keeps (λ k. f) (breaks refl h.0 refl (ap not e)))
into_key {ts = ts} {s = s} (r.key_string (r.string {p = p} {t = w} {parts = parts} h f) e) = lacks (other_ident ts s.at h (λ v e i. cc)) (finds (p, w, parts) h (keeps (λ k. f) (keeps (λ k. ap not e) (goes h does))))
into_key {ts = ts} {s = s} (r.key_string_deep {p = p} {t = w} {parts = parts} h f) = lacks (other_ident ts s.at h (λ v e i. cc)) (finds (p, w, parts) h (breaks refl h refl f))
into_key {ts = ts} {s = s} (r.key_string_twice (r.string {p = p} {t = w} {parts = parts} h f) e) = lacks (other_ident ts s.at h (λ v e i. cc)) (finds (p, w, parts) h (keeps (λ k. f) (breaks refl h refl (ap not e))))
into_key (r.no_key n m) = lacks (λ x h. n x.0 x.1 h.0 h.1) (lacks (λ x h. m x.0 x.1 x.2 h) fails)
