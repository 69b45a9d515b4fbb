-- The keys of a record as a set of names.
use Rattle.std.proofs.Common.{◌≡◌, ℕ, List, [], ◌∷◌, ◌++◌, ◌||◌, Bool, true, false, cond, not, refl, sym, ◌∙◌}
use Rattle.std.proofs.lemmas.List.Folds.{list_any-append}
use Rattle.std.proofs.lemmas.Map.Text.{is_eq-slice_cmp}
use Rattle.std.specs.BTreeSet.{BTreeSet, IsEmpty, Updates}
use Rattle.std.specs.Cmp.Lexicographic.{slice_cmp}
use Rattle.std.specs.Ordering.{nat_cmp}
use Rattle.std.specs.Str.{bytes_eq}
use Rattle.sc_laws.proofs.BoolLaws.{not_true}
use Rattle.sc_lists.proofs.TextLaws.{bytes_eq_swap}
use Rattle.sc_ast.specs.declared.expr.Expr.{Expr}
use Rattle.sc_ast.specs.declared.place.Place.{Place}
use Rattle.sc_pattern.specs.declared.part.Part.{Part}
use Rattle.sc_lexemes.specs.declared.cursor.Cursor.{Cursor}
use Rattle.sc_lexemes.specs.declared.lexeme.Lexeme.{Lexeme}
use Rattle.sc_lexemes.specs.declared.lexeme.Shape.TheVariants.{String}
use Rattle.sc_lexemes.specs.declared.stop.Stop.TheVariants.{DuplicateKey}
use Rattle.sc_lexemes.specs.Depth.{fits, next}
use Rattle.sc_lexemes.specs.Keys.{AreKeys}
use Rattle.sc_lexemes.specs.Lexemes.{Is, IsIdent}
use Rattle.sc_lexemes.specs.Outcomes.{read, halt}
use Rattle.sc_lexemes.specs.ReadsWords.{ReadsKey, ident, string, key_ident, key_ident_twice, key_string, key_string_twice}
use Rattle.sc_lexemes.specs.Tables.{has_key}

either : (a b : Bool) → (a || (b || false)) ≡ cond b true a
either true true = refl
either true false = refl
either false true = refl
either false false = refl

-- one more field at the end
has_key_more : (n w : List ℕ) (x : Expr) (fs : List (List ℕ × Expr)) → has_key n (fs ++ (w, x) ∷ []) ≡ cond (bytes_eq n w) true (has_key n fs)
has_key_more n w x fs = list_any-append (λ (f : List ℕ × Expr). bytes_eq n f.0) fs ((w, x) ∷ []) ∙ either (has_key n fs) (bytes_eq n w)

is_there : (b : Bool) → false ≡ not b → b ≡ true
is_there true e = refl
is_there false e = cc

pub empty : (names : BTreeSet (List ℕ)) → IsEmpty names → AreKeys names []
empty names e = record { same = λ n. rw e refl }

pub more_keys : (old new : BTreeSet (List ℕ)) (w : List ℕ) (x : Expr) (fs : List (List ℕ × Expr)) → Updates (slice_cmp nat_cmp) old new w true → AreKeys old fs → AreKeys new (fs ++ (w, x) ∷ [])
more_keys old new w x fs u k = record {
  same = λ n. u.0 n ∙ rw (is_eq-slice_cmp w n, k.same n, bytes_eq_swap w n) (sym (has_key_more n w x fs));
}

-- the keys that are read, where the test and the cursor behind are given by equations
pub ident_read : {ts : List Lexeme} {s t : Cursor} {p : Place} {w : List ℕ} {fs : List (List ℕ × Expr)} → IsIdent ts s.at p w → fits s ≡ true → true ≡ not (has_key w fs) → t ≡ next s → ReadsKey ts s fs (read w t)
ident_read i f n is = rw is (key_ident (ident i f) (not_true _ n))

pub ident_twice : {ts : List Lexeme} {s : Cursor} {p : Place} {w : List ℕ} {fs : List (List ℕ × Expr)} → IsIdent ts s.at p w → fits s ≡ true → false ≡ not (has_key w fs) → ReadsKey ts s fs (halt DuplicateKey s.at)
ident_twice i f n = key_ident_twice (ident i f) (is_there _ n)

pub string_read : {ts : List Lexeme} {s t : Cursor} {p : Place} {w : List ℕ} {parts : List Part} {fs : List (List ℕ × Expr)} → Is ts s.at p (String w parts) → fits s ≡ true → true ≡ not (has_key w fs) → t ≡ next s → ReadsKey ts s fs (read w t)
string_read i f n is = rw is (key_string (string i f) (not_true _ n))

pub string_twice : {ts : List Lexeme} {s : Cursor} {p : Place} {w : List ℕ} {parts : List Part} {fs : List (List ℕ × Expr)} → Is ts s.at p (String w parts) → fits s ≡ true → false ≡ not (has_key w fs) → ReadsKey ts s fs (halt DuplicateKey s.at)
string_twice i f n = key_string_twice (string i f) (is_there _ n)
