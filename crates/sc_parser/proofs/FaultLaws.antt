-- Reading a file tells its policies or its first fault, and it has no other.
use Rattle.std.proofs.Common.{◌≡◌, ℕ, ◌+◌, ◌<◌, ◌≤◌, ◌==◌, if◌then◌else◌, List, [], length, true, refl, sym, ap, ◌∙◌, subst, arith, inl, inr, eq-or-lt_of_le}
use Rattle.std.proofs.lemmas.Bool.{cases_lt}
use Rattle.std.proofs.lemmas.Bool.Decides.{nat_tests}
use Rattle.sc_ast.specs.declared.policy.Policy.{Policy}
use Rattle.sc_lexemes.specs.declared.lexeme.Lexeme.{Lexeme}
use Rattle.sc_lexemes.specs.declared.stop.Stop.{Stop}
use Rattle.sc_lexemes.specs.declared.stop.Stop.TheVariants as stop
use Rattle.sc_lexemes.specs.Depth.{outside}
use Rattle.sc_parser.specs.Faults.{Begins, is_limit, Passes, PassesNone, IsUnexpected, IsUnexpectedEnd}
use Rattle.sc_parser.specs.GrammarFiles.{File}
use Rattle.sc_parser.specs.Limits.{Limits, all_limits, no_limits, rank, before, up_to}
use Rattle.sc_lexemes.specs.Outcomes.{Outcome, read, halt}
use Rattle.sc_parser.specs.ReadsFiles.{ReadsPolicies}
use Rattle.sc_parser.proofs.FileLaws.{complete, one_file, not_unexpected, not_ended, not_up_to, within}
use Rattle.sc_parser.proofs.PlainTokensLaws.{Weaker, fewer}
use Rattle.sc_parser.proofs.ViableFileLaws.{earlier, found, viable, viable_earlier, passed, file_weaker, begins_weaker}

-- ---- the order of limits

-- the limits up to one that is passed stand before a later token
up_to_earlier : (f : Stop) (m n : ℕ) → m < n → Weaker (earlier n) (up_to f m)
up_to_earlier f m n l g k e = grind (arith, nat_tests)

-- and before a later limit
up_to_sooner : (f g : Stop) (m n : ℕ) → m < n → Weaker (before g n) (up_to f m)
up_to_sooner f g m n l h k e = grind (arith, nat_tests)

up_to_lower : (f g : Stop) (n : ℕ) → rank f < rank g → Weaker (before g n) (up_to f n)
up_to_lower f g n l h k e = grind (arith, nat_tests)

-- the limit of a rank
abbrev of_rank : ℕ → Stop
of_rank r =
    if r == 1 then stop.TooManyPolicies
    else (if r == 2 then stop.Template
    else (if r == 3 then stop.TooDeep
    else (if r == 4 then stop.IntRange
    else (if r == 5 then stop.DuplicateKey
    else (if r == 6 then stop.BadCall
    else (if r == 7 then stop.Unexpected
    else stop.NoMemory))))))

ranked : (f : Stop) → of_rank (rank f) ≡ f
ranked stop.Unexpected = refl
ranked stop.TooManyPolicies = refl
ranked stop.Template = refl
ranked stop.TooDeep = refl
ranked stop.IntRange = refl
ranked stop.DuplicateKey = refl
ranked stop.BadCall = refl
ranked stop.NoMemory = refl

same_rank : (f g : Stop) → rank f ≡ rank g → f ≡ g
same_rank f g e = sym (ranked f) ∙ ap of_rank e ∙ ranked g

-- ---- files that begin with fewer of the tokens, or keep no limits

shorter : {K : Limits} {ts : List Lexeme} {m n : ℕ} → Begins K ts n → m ≤ n → Begins K ts m
shorter b h = (b.0, b.1, fewer b.2 h, b.3)

freely : {K : Limits} {ts : List Lexeme} {n : ℕ} → Begins K ts n → Begins no_limits ts n
freely {K = K} b = begins_weaker {K = K} (λ g m e. absurd cc) b

-- a file begins with its own tokens
begins_file : {K : Limits} {ts : List Lexeme} {ps : List Policy} (n : ℕ) → File K ts ps → Begins K ts n
begins_file {ts = ts} {ps = ps} n p = (ts, ps, record { same = λ k l. refl }, p)

-- ---- what halts reading is the file's first fault

passes_none : {ts : List Lexeme} {n : ℕ} → ReadsPolicies ts 0 [] (halt stop.Unexpected n) → n ≤ length ts → PassesNone ts n
passes_none {ts = ts} {n = n} p w f m h q = elim (eq-or-lt_of_le h) [
  | inl e ↦ not_unexpected p (subst (λ k. Begins (before f m) ts (k + 1)) e q.begins)
  | inr l ↦ q.kept (shorter (begins_weaker (up_to_earlier f m n l) (viable_earlier p w)) (omega (arith, l)))
]

-- the token at which reading halts is unexpected
pub unexpected : {ts : List Lexeme} {n : ℕ} → ReadsPolicies ts 0 [] (halt stop.Unexpected n) → n < length ts → IsUnexpected ts n
unexpected p l = record { within = l; begins = viable p (omega (arith, l)); stops = not_unexpected p; limits = passes_none p (omega (arith, l)) }

-- the end is, where it halts there
pub ended : {ts : List Lexeme} {n : ℕ} → ReadsPolicies ts 0 [] (halt stop.Unexpected n) → n ≡ length ts → IsUnexpectedEnd ts
ended {ts = ts} p e =
    let q = subst (λ k. ReadsPolicies ts 0 [] (halt stop.Unexpected k)) e p in
    record { begins = viable q (omega arith); stops = λ ps. not_ended q; limits = passes_none q (omega arith) }

-- the limit that halts it is passed there
pub passes : {ts : List Lexeme} {f : Stop} {n : ℕ} → ReadsPolicies ts 0 [] (halt f n) → is_limit f ≡ true → Passes ts f n
passes p l = let w = (within p).1 l in record { limit = l; within = w; begins = passed p l w; kept = not_up_to p l }

-- ---- no two of these hold

-- what the tokens are: policies, or a fault by its kind and token
pub data Ends (ts : List Lexeme) : Outcome (List Policy) → Type 0 where
  all_read : {ps : List Policy} → File all_limits ts ps → Ends ts (read ps (outside (length ts)))
  at_token : {n : ℕ} → IsUnexpected ts n → Ends ts (halt stop.Unexpected n)
  at_end : IsUnexpectedEnd ts → Ends ts (halt stop.Unexpected (length ts))
  at_limit : {f : Stop} {n : ℕ} → Passes ts f n → Ends ts (halt f n)

file_token : {ts : List Lexeme} {ps : List Policy} {n : ℕ} → File all_limits ts ps → IsUnexpected ts n → ⊥
file_token {n = n} p u = u.stops (freely {K = all_limits} (begins_file (n + 1) p))

file_end : {ts : List Lexeme} {ps : List Policy} → File all_limits ts ps → IsUnexpectedEnd ts → ⊥
file_end {ps = ps} p u = u.stops ps (file_weaker {K = all_limits} (λ g m e. absurd cc) p)

file_limit : {ts : List Lexeme} {ps : List Policy} {f : Stop} {n : ℕ} → File all_limits ts ps → Passes ts f n → ⊥
file_limit {n = n} p q = q.kept (begins_weaker {K = all_limits} (λ g m e. refl) (begins_file (n + 1) p))

later_token : {ts : List Lexeme} {m n : ℕ} → IsUnexpected ts m → IsUnexpected ts n → m < n → ⊥
later_token u v l = u.stops (shorter v.begins (omega (arith, l)))

token_end : {ts : List Lexeme} {n : ℕ} → IsUnexpected ts n → IsUnexpectedEnd ts → ⊥
token_end u v = u.stops (shorter v.begins (let w = u.within in omega (arith, w)))

token_limit : {ts : List Lexeme} {f : Stop} {m n : ℕ} → IsUnexpected ts n → Passes ts f m → ⊥
token_limit {f = f} {m = m} {n = n} u q = elim (cases_lt n m) [
  | inl l ↦ u.stops (shorter (freely {K = before f m} q.begins) (omega (arith, l)))
  | inr h ↦ u.limits f m (omega (arith, h)) q
]

end_limit : {ts : List Lexeme} {f : Stop} {m : ℕ} → IsUnexpectedEnd ts → Passes ts f m → ⊥
end_limit {f = f} {m = m} u q = u.limits f m (let w = q.within in omega (arith, w)) q

later_limit : {ts : List Lexeme} {f g : Stop} {m n : ℕ} → Passes ts f m → Passes ts g n → m < n → ⊥
later_limit {f = f} {g = g} {m = m} {n = n} p q l = p.kept (shorter (begins_weaker (up_to_sooner f g m n l) q.begins) (omega (arith, l)))

higher_limit : {ts : List Lexeme} {f g : Stop} {n : ℕ} → Passes ts f n → Passes ts g n → rank f < rank g → ⊥
higher_limit {f = f} {g = g} {n = n} p q l = p.kept (begins_weaker (up_to_lower f g n l) q.begins)

one_of : {m n : ℕ} → (m < n → ⊥) → (n < m → ⊥) → m ≡ n
one_of {m = m} {n = n} h g = elim (cases_lt m n) [
  | inl l ↦ absurd (h l)
  | inr k ↦ elim (cases_lt n m) [ inl l ↦ absurd (g l) | inr j ↦ omega (arith, j, k) ]
]

one_rank : {ts : List Lexeme} {f g : Stop} {n : ℕ} → Passes ts f n → Passes ts g n → f ≡ g
one_rank {f = f} {g = g} p q = same_rank f g (one_of (higher_limit p q) (higher_limit q p))

same_halt : {f g : Stop} {m n : ℕ} → f ≡ g → m ≡ n → ◌≡◌ {A = Outcome (List Policy)} (halt f m) (halt g n)
same_halt e h = cc

one_limit : {ts : List Lexeme} {f g : Stop} {m n : ℕ} → Passes ts f m → Passes ts g n → ◌≡◌ {A = Outcome (List Policy)} (halt f m) (halt g n)
one_limit {ts = ts} {g = g} p q =
    let e = one_of (later_limit p q) (later_limit q p) in
    same_halt (one_rank p (subst (λ k. Passes ts g k) (sym e) q)) e

pub one_end : {ts : List Lexeme} {o o' : Outcome (List Policy)} → Ends ts o → Ends ts o' → o ≡ o'
one_end (all_read p) (all_read q) = one_file p q
one_end (all_read p) (at_token v) = absurd (file_token p v)
one_end (all_read p) (at_end v) = absurd (file_end p v)
one_end (all_read p) (at_limit q) = absurd (file_limit p q)
one_end (at_token u) (all_read p) = absurd (file_token p u)
one_end (at_token u) (at_token v) = same_halt refl (one_of (later_token u v) (later_token v u))
one_end (at_token u) (at_end v) = absurd (token_end u v)
one_end (at_token u) (at_limit q) = absurd (token_limit u q)
one_end (at_end u) (all_read p) = absurd (file_end p u)
one_end (at_end u) (at_token v) = absurd (token_end v u)
one_end (at_end u) (at_end v) = refl
one_end (at_end u) (at_limit q) = absurd (end_limit u q)
one_end (at_limit p) (all_read q) = absurd (file_limit q p)
one_end (at_limit p) (at_token v) = absurd (token_limit v p)
one_end (at_limit p) (at_end v) = absurd (end_limit v p)
one_end (at_limit p) (at_limit q) = one_limit p q

-- ---- what comes of reading is what the tokens are

halts_unexpected : {ts : List Lexeme} {n : ℕ} → ReadsPolicies ts 0 [] (halt stop.Unexpected n) → Ends ts (halt stop.Unexpected n)
halts_unexpected {ts = ts} p = elim (eq-or-lt_of_le ((within p).0)) [
  | inl e ↦ subst (λ k. Ends ts (halt stop.Unexpected k)) (sym e) (at_end (ended p e))
  | inr l ↦ at_token (unexpected p l)
]

halts : {ts : List Lexeme} {f : Stop} {n : ℕ} → ReadsPolicies ts 0 [] (halt f n) → Ends ts (halt f n)
halts {f = stop.Unexpected} p = halts_unexpected p
halts {f = stop.TooManyPolicies} p = at_limit (passes p refl)
halts {f = stop.Template} p = at_limit (passes p refl)
halts {f = stop.TooDeep} p = at_limit (passes p refl)
halts {f = stop.IntRange} p = at_limit (passes p refl)
halts {f = stop.DuplicateKey} p = at_limit (passes p refl)
halts {f = stop.BadCall} p = at_limit (passes p refl)
halts {f = stop.NoMemory} p = absurd ((within p).2 refl)

pub ends : {ts : List Lexeme} {o : Outcome (List Policy)} → ReadsPolicies ts 0 [] o → Ends ts o
ends {ts = ts} {o = read ps t} p = let q = (found p).1 in subst (Ends ts) (sym (complete p q)) (all_read q)
ends {o = halt f n} p = halts p
