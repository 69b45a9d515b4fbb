-- The tokens up to where reading stops, with others behind them, and the limits that are kept there.
use Rattle.std.proofs.Common.{zero, suc, ◌≡◌, ℕ, ◌+◌, ◌≤◌, ◌<◌, ◌++◌, List, [], ◌∷◌, Some, Option, refl, sym, ap, ◌∙◌, arith, true, false, nat_lt, slice_get, take, drop, length, le_refl, Bool, None}
use Rattle.sc_ast.specs.declared.place.Place.{Place}
use Rattle.sc_lexer.specs.declared.token.Kind.{Kind}
use Rattle.sc_lexer.specs.declared.token.Kind.TheVariants as kind
use Rattle.sc_lexemes.specs.declared.cursor.Cursor.{Cursor}
use Rattle.sc_lexemes.specs.declared.lexeme.Lexeme.{Lexeme}
use Rattle.sc_lexemes.specs.declared.lexeme.Shape.{Shape}
use Rattle.sc_lexemes.specs.declared.lexeme.Shape.TheVariants.{Word, Number, Sign}
use Rattle.sc_lexemes.specs.declared.operator.Close.{Close}
use Rattle.sc_lexemes.specs.declared.operator.Close.TheVariants as close
use Rattle.sc_lexemes.specs.declared.stop.Stop.{Stop}
use Rattle.sc_lexemes.specs.declared.stop.Stop.TheVariants as stop
use Rattle.sc_parser.specs.Faults.{Shares}
use Rattle.sc_lexemes.specs.Lexemes.{Is, closing}
use Rattle.sc_parser.specs.Limits.{Limits, rank}
use Rattle.sc_lexemes.specs.Tables.{least_digits}
use Rattle.sc_parser.proofs.PlainTokensLaws.{Same, Weaker}

-- how many tokens stand fast where reading stops: those before the place, and the one that passes a limit
abbrev pub cut : Stop → ℕ → ℕ
cut stop.Unexpected n = n
cut stop.TooManyPolicies n = n + 1
cut stop.Template n = n + 1
cut stop.TooDeep n = n + 1
cut stop.IntRange n = n + 1
cut stop.DuplicateKey n = n + 1
cut stop.BadCall n = n + 1
cut stop.NoMemory n = n + 1

pub cut_from : (f : Stop) (n : ℕ) → n ≤ cut f n
cut_from stop.Unexpected n = le_refl n
cut_from stop.TooManyPolicies n = omega arith
cut_from stop.Template n = omega arith
cut_from stop.TooDeep n = omega arith
cut_from stop.IntRange n = omega arith
cut_from stop.DuplicateKey n = omega arith
cut_from stop.BadCall n = omega arith
cut_from stop.NoMemory n = omega arith

-- behind the tokens that stand fast no limit is kept, and at the place none from this one on
pub record Frees (K : Limits) (f : Stop) (n : ℕ) : Type 0 where
  pub here : (g : Stop) → nat_lt (rank g) (rank f) ≡ false → K g n ≡ false
  pub later : (g : Stop) (m : ℕ) → cut f n ≤ m → K g m ≡ false

pub far : {K : Limits} {f : Stop} {n : ℕ} → Frees K f n → n ≤ cut f n
far {f = f} {n = n} g = cut_from f n

-- no limit is kept from a place on
abbrev pub Free : Limits → ℕ → Type 0
Free K c = (g : Stop) (m : ℕ) → c ≤ m → K g m ≡ false

-- what isn't kept asks nothing
pub loose : {k b : Bool} → k ≡ false → k ≡ true → b ≡ true
loose e f = absurd cc

pub stay : (K : Limits) → Weaker K K
stay K g m e = e

-- these tokens stand from a place on
pub record Ahead (us : List Lexeme) (m : ℕ) (l : List Lexeme) : Type 0 where
  pub ahead : drop m us ≡ l

-- what was to be completed is, by some tokens before the rest
pub record Done (P : List Lexeme → Cursor → Type 0) (ts : List Lexeme) (c : ℕ) (rest : List Lexeme) : Type 0 where
  pub us : List Lexeme
  pub till : Cursor
  pub shares : Shares ts us c
  pub reach : c ≤ till.at
  pub tail : Ahead us till.at rest
  pub spelled : P us till

planted_below : (c : ℕ) (ts l : List Lexeme) (k : ℕ) → c ≤ length ts → k < c → slice_get ts k ≡ slice_get (take c ts ++ l) k
planted_below zero ts l k h lt = absurd (omega (arith, lt))
planted_below (suc c) [] l k h lt = absurd (omega (arith, h))
planted_below (suc c) (x ∷ ts) l zero h lt = refl
planted_below (suc c) (x ∷ ts) l (suc k) h lt = planted_below c ts l k (omega (arith, h)) (omega (arith, lt))

planted_tail : (c : ℕ) (ts l : List Lexeme) → c ≤ length ts → drop c (take c ts ++ l) ≡ l
planted_tail zero ts l h = refl
planted_tail (suc c) [] l h = absurd (omega (arith, h))
planted_tail (suc c) (x ∷ ts) l h = planted_tail c ts l (omega (arith, h))

at_drop : (us : List Lexeme) (m : ℕ) → slice_get us m ≡ slice_get (drop m us) 0
at_drop [] zero = refl
at_drop [] (suc m) = refl
at_drop (x ∷ us) zero = refl
at_drop (x ∷ us) (suc m) = at_drop us m

drop_next : (us : List Lexeme) (m : ℕ) → drop (suc m) us ≡ drop 1 (drop m us)
drop_next [] zero = refl
drop_next [] (suc m) = refl
drop_next (x ∷ us) zero = refl
drop_next (x ∷ us) (suc m) = drop_next us m

-- the first of them, and those behind it
pub head_of : {us l : List Lexeme} {m : ℕ} {x : Lexeme} → Ahead us m (x ∷ l) → slice_get us m ≡ Some x
head_of {us = us} {m = m} d = at_drop us m ∙ ap (λ z. slice_get z 0) d.ahead

pub rest_of : {us l : List Lexeme} {m : ℕ} {x : Lexeme} → Ahead us m (x ∷ l) → Ahead us (m + 1) l
rest_of {us = us} {m = m} d = let e : m + 1 ≡ suc m = omega arith in record { ahead = ap (λ n. drop n us) e ∙ drop_next us m ∙ ap (λ z. drop 1 z) d.ahead }

-- at an equal place
pub from_there : {us l : List Lexeme} {m n : ℕ} → m ≡ n → Ahead us m l → Ahead us n l
from_there {us = us} e d = record { ahead = ap (λ k. drop k us) (sym e) ∙ d.ahead }

-- tokens behind those that stand fast
pub leaf : (P : List Lexeme → Cursor → Type 0) {ts : List Lexeme} (t till : Cursor) (l : List Lexeme) {rest : List Lexeme} → t.at ≤ length ts → t.at ≤ till.at → ((us : List Lexeme) → Ahead us t.at l → Ahead us till.at rest) → ((us : List Lexeme) → Shares ts us t.at → Ahead us t.at l → P us till) → Done P ts t.at rest
leaf P {ts = ts} t till l h le ends f =
    let us = take t.at ts ++ l in
    let d : Ahead us t.at l = record { ahead = planted_tail t.at ts l h } in
    let b : Shares ts us t.at = record { same = λ k lt. planted_below t.at ts l k h lt } in
    record { us = us; till = till; shares = b; reach = le; tail = ends us d; spelled = f us b d }

-- what is completed is a part of something, whose last tokens were put behind it
pub onward : (P Q : List Lexeme → Cursor → Type 0) (step : Cursor → Cursor) {ts l rest : List Lexeme} {c : ℕ} → Done P ts c l → ((t : Cursor) → t.at ≤ (step t).at) → ((us : List Lexeme) (t : Cursor) → Ahead us t.at l → Ahead us (step t).at rest) → ((us : List Lexeme) (t : Cursor) → Shares ts us c → c ≤ t.at → Ahead us t.at l → P us t → Q us (step t)) → Done Q ts c rest
onward P Q step d le ends f = record {
  us = d.us;
  till = step d.till;
  shares = d.shares;
  reach = let m = d.reach in let n = le d.till in omega (arith, m, n);
  tail = ends d.us d.till d.tail;
  spelled = f d.us d.till d.shares d.reach d.tail d.spelled;
}

-- nothing is put behind it
pub carry : (P Q : List Lexeme → Cursor → Type 0) {ts rest : List Lexeme} {c : ℕ} → Done P ts c rest → ((us : List Lexeme) (t : Cursor) → Shares ts us c → P us t → Q us t) → Done Q ts c rest
carry P Q d f = record { us = d.us; till = d.till; shares = d.shares; reach = d.reach; tail = d.tail; spelled = f d.us d.till d.shares d.spelled }

-- a token that stands nowhere in a file
abbrev pub nowhere : Place
nowhere = record { offset = 0 }

abbrev pub token : Shape → Lexeme
token c = record { place = nowhere; shape = c }

abbrev pub sign : Kind → Lexeme
sign k = token (Sign k)

pub closing_differs : (c : Close) → closing c ≡ Sign kind.DoubleColon → ⊥
closing_differs close.Then e = cc
closing_differs close.Else e = cc
closing_differs close.Parenthesis e = cc
closing_differs close.Bracket e = cc
closing_differs close.Brace e = cc

-- what a token says
abbrev says : Option Lexeme → Shape
says None = Sign kind.Comma
says (Some l) = l.shape

-- the token that was put there isn't `::`
pub planted_same : {ts us : List Lexeme} {n : ℕ} {c : Shape} → Shares ts us n → slice_get us n ≡ Some (token c) → (c ≡ Sign kind.DoubleColon → ⊥) → Same ts us n
planted_same {c = c} b h n = record { shares = b; colons = λ _ p k. n (ap says (sym h ∙ k)) }

-- the word that was put there is no number
pub no_number : {us rest : List Lexeme} {m : ℕ} {p : Place} {v ds : List ℕ} → Ahead us m (token (Word v) ∷ rest) → Is us m p (Number ds) → ⊥
no_number {v = v} {ds = ds} d l = let e : Word v ≡ Number ds = ap says (sym (head_of d) ∙ l) in cc

-- where the least number stands in the one list, it stands in the other
abbrev pub Stays : List Lexeme → List Lexeme → ℕ → Type 0
Stays ts us i = (p : Place) → Is us i p (Number least_digits) → Is ts i p (Number least_digits)

pub stays : {ts us : List Lexeme} {i n : ℕ} → Shares ts us n → i < n → Stays ts us i
stays {i = i} b l p h = b.same i l ∙ h
