-- What the tokens determine of a run.
use Rattle.std.proofs.Common.{◌≡◌, ℕ, ◌+◌, ◌≤◌, ◌<◌, List, length, slice_get, true, refl, sym, ap, ◌∙◌, arith, subst, le_refl}
use Rattle.std.specs.declared.option.Option.TheVariants.{Some}
use Rattle.std.proofs.lemmas.Option.{slice_get_within}
use Rattle.sc_lexemes.specs.declared.cursor.Cursor.{Cursor}
use Rattle.sc_lexemes.specs.declared.lexeme.Lexeme.{Lexeme}
use Rattle.sc_lexemes.specs.declared.stop.Stop.{Stop}
use Rattle.sc_lexemes.specs.declared.stop.Stop.TheVariants as stop
use Rattle.sc_parser.specs.Faults.{is_limit}
use Rattle.sc_parser.specs.Limits.{Limits, all_limits}
use Rattle.sc_lexemes.specs.Outcomes.{Outcome, read, halt}
use Rattle.sc_parser.proofs.Sorts.{Sort, Of}
use Rattle.sc_parser.proofs.Nonterminals.{Nonterminal}
use Rattle.sc_parser.proofs.Programs.{Step, to_next, to_past, step, Way, here, within, as_clause, as_policy, enter, leave, Program, done, call}
use Rattle.sc_parser.proofs.Productions.{production}
use Rattle.sc_parser.proofs.Runs.{Runs, does, fails, finds, lacks, goes, keeps, breaks, calls, halts}
use Rattle.sc_parser.proofs.TestLaws.{same_found, meets_moves}

-- where it ended
abbrev pub place : {A : Type 0} → Outcome A → ℕ
place (read x t) = t.at
place (halt f n) = n

read_value : {A : Type 0} {x y : A} {s t : Cursor} → read x s ≡ read y t → x ≡ y
read_value e = cc

read_cursor : {A : Type 0} {x y : A} {s t : Cursor} → read x s ≡ read y t → s ≡ t
read_cursor e = cc

halt_parts : {A : Type 0} {f g : Stop} {n m : ℕ} → ◌≡◌ {A = Outcome A} (halt f n) (halt g m) → (f ≡ g) × (n ≡ m)
halt_parts e = (cc, cc)

pub only : {K : Limits} {ts : List Lexeme} {c : Sort} {p : Program c} {s : Cursor} {o o' : Outcome (Of c)} → Runs K ts c p s o → Runs K ts c p s o' → o ≡ o'
only does does = refl
only fails fails = refl
only {K = K} {ts = ts} {c = c} {s = s} {o' = o'} (finds {q = q} {k = k} x h a) (finds y g b) = only a (subst (λ z. Runs K ts c (k z) s o') (same_found ts s.at q y x g h) b)
only (finds x h a) (lacks n b) = absurd (n x h)
only (lacks n a) (finds x h b) = absurd (n x h)
only (lacks n a) (lacks m b) = only a b
only (goes h a) (goes g b) = only a b
only (keeps h a) (keeps g b) = only a b
only (keeps h a) (breaks l t i e) = let g = h i in absurd cc
only (breaks l t i e) (keeps h a) = let g = h i in absurd cc
only (breaks l t i e) (breaks l' t' i' e') = refl
only {K = K} {ts = ts} {c = c} {s = s} {o' = o'} (calls {d = d} {w = w} {m = m} {k = k} {t = t} {x = x} a a') (calls {t = u} {x = y} b b') =
    let e = only a b in
    only a' (subst (λ z. Runs K ts c (k z) (leave w s t) o') (sym (read_value e)) (subst (λ z. Runs K ts c (k y) (leave w s z) o') (sym (read_cursor e)) b'))
only (calls a a') (halts b) = let e = only a b in absurd cc
only (halts a) (calls b b') = let e = only a b in absurd cc
only (halts a) (halts b) = let e = only a b in let parts = halt_parts e in let f = parts.0 in let n = parts.1 in cc

enter_at : (w : Way) (s : Cursor) → (enter w s).at ≡ s.at
enter_at here s = refl
enter_at within s = refl
enter_at as_clause s = refl
enter_at as_policy s = refl

leave_at : (w : Way) (s t : Cursor) → (leave w s t).at ≡ t.at
leave_at here s t = refl
leave_at within s t = refl
leave_at as_clause s t = refl
leave_at as_policy s t = refl

step_at : (g : Step) (s : Cursor) → (step g s).at ≡ s.at + 1
step_at to_next s = refl
step_at to_past s = refl

-- reading goes forward
pub forward : {K : Limits} {ts : List Lexeme} {c : Sort} {p : Program c} {s : Cursor} {o : Outcome (Of c)} → Runs K ts c p s o → s.at ≤ place o
forward {s = s} does = le_refl s.at
forward {s = s} fails = le_refl s.at
forward (finds x h a) = forward a
forward (lacks n a) = forward a
forward {s = s} (goes {g = g} h a) = let e = step_at g s in let f = forward a in omega (arith, e, f)
forward (keeps h a) = forward a
forward {s = s} (breaks l t i e) = le_refl s.at
forward {s = s} (calls {w = w} {t = t} a b) = let d = enter_at w s in let e = leave_at w s t in let f = forward a in let g = forward b in omega (arith, d, e, f, g)
forward {s = s} (halts {w = w} a) = let d = enter_at w s in let f = forward a in omega (arith, d, f)

-- the same tokens up to a place, and at it
pub record Agree (ts us : List Lexeme) (n : ℕ) : Type 0 where
  pub same : (k : ℕ) → k ≤ n → slice_get ts k ≡ slice_get us k

pub nearer : {ts us : List Lexeme} {m n : ℕ} → Agree ts us n → m ≤ n → Agree ts us m
nearer g h = record { same = λ k le. g.same k (omega (arith, h, le)) }

-- what comes of reading depends on the tokens up to where it ended
pub moved : {K : Limits} {ts us : List Lexeme} {c : Sort} {p : Program c} {s : Cursor} {o : Outcome (Of c)} → Agree ts us (place o) → Runs K ts c p s o → Runs K us c p s o
moved g does = does
moved g fails = fails
moved {ts = ts} {us = us} {s = s} g (finds {q = q} x h a) = finds x (meets_moves ts us s.at q x (g.same s.at (forward a)) h) (moved g a)
moved {ts = ts} {us = us} {s = s} g (lacks {q = q} n a) = lacks (λ x h. n x (meets_moves us ts s.at q x (sym (g.same s.at (forward a))) h)) (moved g a)
moved {s = s} g (goes {g = w} h a) = goes (sym (g.same s.at (let e = step_at w s in let f = forward a in omega (arith, e, f))) ∙ h) (moved g a)
moved g (keeps h a) = keeps h (moved g a)
moved {s = s} g (breaks l t i e) = breaks l (sym (g.same s.at (le_refl s.at)) ∙ t) i e
moved {s = s} g (calls {w = w} {t = t} a b) = calls (moved (nearer g (let e = leave_at w s t in let f = forward b in omega (arith, e, f))) a) (moved g b)
moved g (halts a) = halts (moved g a)

-- a fault that doesn't come of a limit which isn't kept
abbrev pub Stays : {A : Type 0} → Limits → Outcome A → Type 0
Stays K (read x t) = Unit {0}
Stays K (halt f n) = is_limit f ≡ true → K f n ≡ true

-- what is read keeping all limits is read keeping fewer
pub fewer : {K : Limits} {ts : List Lexeme} {c : Sort} {p : Program c} {s : Cursor} {o : Outcome (Of c)} → Stays K o → Runs all_limits ts c p s o → Runs K ts c p s o
fewer k does = does
fewer k fails = fails
fewer k (finds x h a) = finds x h (fewer k a)
fewer k (lacks n a) = lacks n (fewer k a)
fewer k (goes h a) = goes h (fewer k a)
fewer k (keeps h a) = keeps (λ i. h refl) (fewer k a)
fewer k (breaks l t i e) = breaks l t (k l) e
fewer k (calls a b) = calls (fewer tt a) (fewer k b)
fewer k (halts a) = halts (fewer k a)

-- where reading may halt
abbrev pub MayHalt : {A : Type 0} → List Lexeme → Outcome A → Type 0
MayHalt ts (read x t) = t.at ≤ length ts
MayHalt ts (halt f n) = (n ≤ length ts) × (is_limit f ≡ true → n < length ts) × (f ≡ stop.NoMemory → ⊥)

token_within : (ts : List Lexeme) (i : ℕ) (l : Lexeme) → slice_get ts i ≡ Some l → i < length ts
token_within ts i l h = slice_get_within ts i l h

limit_told : {f : Stop} → is_limit f ≡ true → f ≡ stop.NoMemory → ⊥
limit_told h e = let g = ap is_limit e in absurd cc

pub ends_within : {K : Limits} {ts : List Lexeme} {c : Sort} {p : Program c} {s : Cursor} {o : Outcome (Of c)} → s.at ≤ length ts → Runs K ts c p s o → MayHalt ts o
ends_within i does = i
ends_within i fails = (i, λ e. absurd cc, λ e. absurd cc)
ends_within i (finds x h a) = ends_within i a
ends_within i (lacks n a) = ends_within i a
ends_within {ts = ts} {s = s} i (goes {g = g} {l = l} h a) = ends_within (let e = step_at g s in let f = token_within ts s.at l h in omega (arith, e, f)) a
ends_within i (keeps h a) = ends_within i a
ends_within {ts = ts} {s = s} i (breaks {l = l} f t k e) = (i, λ _. token_within ts s.at l t, λ h. limit_told f h)
ends_within {s = s} i (calls {w = w} {t = t} a b) = ends_within (let e = leave_at w s t in let d = enter_at w s in let j = ends_within (omega (arith, d, i)) a in omega (arith, e, j)) b
ends_within {s = s} i (halts {w = w} a) = ends_within (let d = enter_at w s in omega (arith, d, i)) a

-- a nonterminal that another one reads last
pub tail : {K : Limits} {ts : List Lexeme} {c : Sort} {m : Nonterminal c} {s : Cursor} {o : Outcome (Of c)} → Runs K ts c (production m) s o → Runs K ts c (call here m done) s o
tail {o = read x t} a = calls a does
tail {o = halt f n} a = halts a
