-- What a test tells, and that it asks of one token alone.
use Rattle.std.proofs.Common.{◌≡◌, ℕ, ◌||◌, List, codes, slice_get, Bool, true, false, if◌then◌else◌, refl, sym, ap, ◌∙◌}
use Rattle.std.specs.Str.{bytes_eq}
use Rattle.std.specs.declared.option.Option.{Option}
use Rattle.std.specs.declared.option.Option.TheVariants.{Some, None}
use Rattle.std.proofs.lemmas.Slice.Eq.{bytes_eq-Decides}
use Rattle.sc_pattern.specs.declared.part.Part.{Part}
use Rattle.sc_ast.specs.declared.place.Place.{Place}
use Rattle.sc_ast.specs.declared.expr.Variable.{Variable}
use Rattle.sc_ast.specs.declared.operator.UnaryOperator.{UnaryOperator}
use Rattle.sc_ast.specs.declared.operator.UnaryOperator.TheVariants as unary
use Rattle.sc_ast.specs.declared.policy.Effect.{Effect}
use Rattle.sc_ast.specs.declared.policy.Effect.TheVariants.{Permit, Forbid}
use Rattle.sc_ast.specs.declared.policy.ConditionKind.{ConditionKind}
use Rattle.sc_ast.specs.declared.policy.ConditionKind.TheVariants.{When, Unless}
use Rattle.sc_lexer.specs.declared.token.Kind.TheVariants as kind
use Rattle.sc_names.specs.Names.{is_ident}
use Rattle.sc_lexemes.specs.declared.lexeme.Lexeme.{Lexeme}
use Rattle.sc_lexemes.specs.declared.lexeme.Shape.{Shape}
use Rattle.sc_lexemes.specs.declared.lexeme.Shape.TheVariants as shape
use Rattle.sc_lexemes.specs.declared.operator.Close.{Close}
use Rattle.sc_lexemes.specs.declared.operator.Close.TheVariants as close
use Rattle.sc_lexemes.specs.declared.operator.Level.{Level}
use Rattle.sc_lexemes.specs.declared.operator.Operator.{Operator}
use Rattle.sc_lexemes.specs.Lexemes.{Is, Lacks, IsIdent, IsPrefix, IsStart, closing, starts, effect_word, clause_word, IsPolicyStart, annotation_starts, effect_starts}
use Rattle.sc_lexemes.specs.Tables.{operator_of, prefix_of, variable_of}
use Rattle.sc_parser.proofs.Tests.{Test, Found, Meets, shaped, word, number, string, ident, operator, prefix, this_prefix, least, start, effect, clause, policy_start, end, is_zero, variable}
use Rattle.sc_parser.proofs.Tests as test

pair_eq : {A B : Type 0} {x y : A × B} → x.0 ≡ y.0 → x.1 ≡ y.1 → x ≡ y
pair_eq p q = λ i. (p i, q i)

triple_eq : {A B C : Type 0} {x y : A × B × C} → x.0 ≡ y.0 → x.1 ≡ y.1 → x.2 ≡ y.2 → x ≡ y
triple_eq p q r = λ i. (p i, q i, r i)

lexeme_of_some : {l m : Lexeme} → Some l ≡ Some m → l ≡ m
lexeme_of_some e = cc

-- a token stands at one place and says one thing
pub one_place : (ts : List Lexeme) (i : ℕ) {p q : Place} {c d : Shape} → Is ts i p c → Is ts i q d → p ≡ q
one_place ts i h g = ap (λ (l : Lexeme). l.place) (lexeme_of_some (sym h ∙ g))

pub one_shape : (ts : List Lexeme) (i : ℕ) {p q : Place} {c d : Shape} → Is ts i p c → Is ts i q d → c ≡ d
one_shape ts i h g = ap (λ (l : Lexeme). l.shape) (lexeme_of_some (sym h ∙ g))

word_text : {v w : List ℕ} → shape.Word v ≡ shape.Word w → v ≡ w
word_text e = cc

-- words that differ
pub other_word : (v w : List ℕ) → bytes_eq v v ≡ true → bytes_eq v w ≡ false → shape.Word v ≡ shape.Word w → ⊥
other_word v w h g e = let f = ap (λ z. bytes_eq v z) (word_text e) in absurd cc

one_effect : (e f : Effect) → shape.Word (effect_word e) ≡ shape.Word (effect_word f) → e ≡ f
one_effect Permit Permit h = refl
one_effect Permit Forbid h = absurd (other_word _ _ refl refl h)
one_effect Forbid Permit h = absurd (other_word _ _ refl refl h)
one_effect Forbid Forbid h = refl

one_clause : (e f : ConditionKind) → shape.Word (clause_word e) ≡ shape.Word (clause_word f) → e ≡ f
one_clause When When h = refl
one_clause When Unless h = absurd (other_word _ _ refl refl h)
one_clause Unless When h = absurd (other_word _ _ refl refl h)
one_clause Unless Unless h = refl

one_operator : {c d : Shape} {r o : Operator} → c ≡ d → operator_of c ≡ Some r → operator_of d ≡ Some o → r ≡ o
one_operator e h g = cc

one_prefix : {c d : Shape} {r o : UnaryOperator} → c ≡ d → prefix_of c ≡ Some r → prefix_of d ≡ Some o → r ≡ o
one_prefix e h g = cc

digits : {v w : List ℕ} → shape.Number v ≡ shape.Number w → v ≡ w
digits e = cc

string_text : {v w : List ℕ} {a b : List Part} → shape.String v a ≡ shape.String w b → v ≡ w
string_text e = cc

string_parts : {v w : List ℕ} {a b : List Part} → shape.String v a ≡ shape.String w b → a ≡ b
string_parts e = cc

-- a test tells one thing
pub same_found : (ts : List Lexeme) (i : ℕ) (q : Test) (x y : Found q) → Meets ts i q x → Meets ts i q y → x ≡ y
same_found ts i (shaped c) x y h g = one_place ts i h g
same_found ts i word x y h g = pair_eq (one_place ts i h g) (word_text (one_shape ts i h g))
same_found ts i number x y h g = pair_eq (one_place ts i h g) (digits (one_shape ts i h g))
same_found ts i string x y h g = triple_eq (one_place ts i h g) (string_text (one_shape ts i h g)) (string_parts (one_shape ts i h g))
same_found ts i ident x y h g = pair_eq (one_place ts i h.0 g.0) (word_text (one_shape ts i h.0 g.0))
same_found ts i (operator l) x y h g = pair_eq (one_place ts i h.is g.is) (one_operator (one_shape ts i h.is g.is) h.operator g.operator)
same_found ts i prefix x y h g = pair_eq (one_place ts i h.is g.is) (one_prefix (one_shape ts i h.is g.is) h.operator g.operator)
same_found ts i (this_prefix r) x y h g = one_place ts i h.is g.is
same_found ts i (least r) x y h g = refl
same_found ts i start x y h g = refl
same_found ts i effect x y h g = pair_eq (one_place ts i h.is g.is) (one_effect x.1 y.1 (one_shape ts i h.is g.is))
same_found ts i clause x y h g = pair_eq (one_place ts i h.is g.is) (one_clause x.1 y.1 (one_shape ts i h.is g.is))
same_found ts i policy_start x y h g = refl
same_found ts i end x y h g = refl
same_found ts i (is_zero n) x y h g = refl
same_found ts i (test.call o) x y h g = cc
same_found ts i (variable w) x y h g = cc

policy_start_moves : {ts us : List Lexeme} {i : ℕ} → slice_get ts i ≡ slice_get us i → IsPolicyStart ts i → IsPolicyStart us i
policy_start_moves e (annotation_starts p h) = annotation_starts p (sym e ∙ h)
policy_start_moves e (effect_starts p f h) = effect_starts p f (record { is = sym e ∙ h.is })

-- a test asks of one token
pub meets_moves : (ts us : List Lexeme) (i : ℕ) (q : Test) (x : Found q) → slice_get ts i ≡ slice_get us i → Meets ts i q x → Meets us i q x
meets_moves ts us i (shaped c) x e h = sym e ∙ h
meets_moves ts us i word x e h = sym e ∙ h
meets_moves ts us i number x e h = sym e ∙ h
meets_moves ts us i string x e h = sym e ∙ h
meets_moves ts us i ident x e h = (sym e ∙ h.0, h.1)
meets_moves ts us i (operator l) x e h = record { shape = h.shape; is = sym e ∙ h.is; operator = h.operator; level = h.level }
meets_moves ts us i prefix x e h = record { shape = h.shape; is = sym e ∙ h.is; operator = h.operator }
meets_moves ts us i (this_prefix r) x e h = record { shape = h.shape; is = sym e ∙ h.is; operator = h.operator }
meets_moves ts us i (least r) x e h = (h.0, (h.1.0, sym e ∙ h.1.1))
meets_moves ts us i start x e h = record { place = h.place; shape = h.shape; is = sym e ∙ h.is; starts = h.starts }
meets_moves ts us i effect x e h = record { is = sym e ∙ h.is }
meets_moves ts us i clause x e h = record { is = sym e ∙ h.is }
meets_moves ts us i policy_start x e h = policy_start_moves e h
meets_moves ts us i end x e h = sym e ∙ h
meets_moves ts us i (is_zero n) x e h = h
meets_moves ts us i (test.call o) x e h = h
meets_moves ts us i (variable w) x e h = h

-- ---- what a token isn't

pub other : (ts : List Lexeme) (i : ℕ) {p : Place} {c d : Shape} → Is ts i p c → (c ≡ d → ⊥) → Lacks ts i d
other ts i h n q g = n (one_shape ts i h g)

-- where this stands, no identifier does
pub other_ident : (ts : List Lexeme) (i : ℕ) {p : Place} {c : Shape} → Is ts i p c → ((w : List ℕ) → c ≡ shape.Word w → is_ident w ≡ true → ⊥) → (x : Place × List ℕ) → Meets ts i ident x → ⊥
other_ident ts i h n x g = n x.1 (one_shape ts i h g.0) g.1

-- where an identifier stands, this doesn't
pub ident_other : (ts : List Lexeme) (i : ℕ) {p : Place} {w : List ℕ} {d : Shape} → IsIdent ts i p w → ((v : List ℕ) → d ≡ shape.Word v → is_ident v ≡ true → ⊥) → Lacks ts i d
ident_other ts i {w = w} h n q g = n w (sym (one_shape ts i h.0 g)) h.1

pub no_operator : (ts : List Lexeme) (i : ℕ) {p : Place} {c : Shape} → Is ts i p c → operator_of c ≡ None → (l : Level) (x : Place × Operator) → Meets ts i (operator l) x → ⊥
no_operator ts i h n l x g = let e = one_shape ts i h g.is in let f = g.operator in let f' = ap operator_of e in absurd cc

-- a word that can't be the name of something
pub reserved : (v : List ℕ) → is_ident v ≡ false → (w : List ℕ) → shape.Word v ≡ shape.Word w → is_ident w ≡ true → ⊥
reserved v n w e h = let f = ap is_ident (word_text e) in absurd cc

pub operator_has : operator_of (shape.Word (codes "has")) ≡ None
unfolding operator_of
operator_has = refl

pub operator_like : operator_of (shape.Word (codes "like")) ≡ None
unfolding operator_of
operator_like = refl

pub operator_is : operator_of (shape.Word (codes "is")) ≡ None
unfolding operator_of
operator_is = refl

pub minus_prefix : {ts : List Lexeme} {i : ℕ} {p : Place} → Is ts i p (shape.Sign kind.Minus) → IsPrefix ts i p unary.Negate
unfolding prefix_of
minus_prefix h = record { shape = shape.Sign kind.Minus; is = h; operator = refl }

-- the word of a variable is an identifier
picked : (b : Bool) (w v : List ℕ) (y x : Variable) (rest : Option Variable) → bytes_eq w v ≡ b → is_ident v ≡ true → (rest ≡ Some x → is_ident w ≡ true) → (if b then Some y else rest) ≡ Some x → is_ident w ≡ true
picked true w v y x rest e i n h = ap is_ident ((bytes_eq-Decides w v).0 e) ∙ i
picked false w v y x rest e i n h = n h

pub variable_ident : (w : List ℕ) (x : Variable) → variable_of w ≡ Some x → is_ident w ≡ true
unfolding variable_of
variable_ident w x h =
    picked (bytes_eq w (codes "principal")) w (codes "principal") _ x _ refl refl
    (picked (bytes_eq w (codes "action")) w (codes "action") _ x _ refl refl
    (picked (bytes_eq w (codes "resource")) w (codes "resource") _ x _ refl refl
    (picked (bytes_eq w (codes "context")) w (codes "context") _ x _ refl refl (λ e. absurd cc)))) h

pub comma_closes_none : (c : Close) → shape.Sign kind.Comma ≡ closing c → ⊥
comma_closes_none close.Then e = cc
comma_closes_none close.Else e = cc
comma_closes_none close.Parenthesis e = cc
comma_closes_none close.Bracket e = cc
comma_closes_none close.Brace e = cc

-- where nothing is, nothing is found
pub nothing : {A : Type 0} {o : Option A} → o ≡ None → (x : A) → o ≡ Some x → ⊥
nothing e x h = absurd cc

-- ---- what begins a primary expression

starts_ident : (w : List ℕ) → is_ident w ≡ true → starts (shape.Word w) ≡ true
unfolding starts
starts_ident w h = ap (λ b. b || bytes_eq w (codes "true") || bytes_eq w (codes "false")) h

pub start_ident : {ts : List Lexeme} {i : ℕ} {p : Place} {w : List ℕ} → IsIdent ts i p w → IsStart ts i
start_ident {p = p} {w = w} h = record { place = p; shape = shape.Word w; is = h.0; starts = starts_ident w h.1 }

pub start_token : {ts : List Lexeme} {i : ℕ} {p : Place} {c : Shape} → Is ts i p c → starts c ≡ true → IsStart ts i
start_token {p = p} {c = c} h e = record { place = p; shape = c; is = h; starts = e }

pub starts_true : starts (shape.Word (codes "true")) ≡ true
unfolding starts
starts_true = refl

pub starts_false : starts (shape.Word (codes "false")) ≡ true
unfolding starts
starts_false = refl

pub starts_number : (ds : List ℕ) → starts (shape.Number ds) ≡ true
unfolding starts
starts_number ds = refl

pub starts_string : (w : List ℕ) (parts : List Part) → starts (shape.String w parts) ≡ true
unfolding starts
starts_string w parts = refl

pub starts_parenthesis : starts (shape.Sign kind.OpenParenthesis) ≡ true
unfolding starts
starts_parenthesis = refl

pub starts_bracket : starts (shape.Sign kind.OpenBracket) ≡ true
unfolding starts
starts_bracket = refl

pub starts_brace : starts (shape.Sign kind.OpenBrace) ≡ true
unfolding starts
starts_brace = refl
