-- What reading a file says of the files that keep to the grammar.
use Rattle.std.proofs.Common.{zero, suc, ◌≡◌, ℕ, ◌+◌, ◌≤◌, ◌<◌, ◌||◌, ◌&&◌, ◌==◌, List, [], ◌∷◌, None, Bool, true, false, refl, arith, length, drop, le_refl, nat_lt, slice_get, subst}
use Rattle.std.proofs.lemmas.Bool.{le-ltb}
use Rattle.std.proofs.lemmas.Bool.Decides.{Decides-eqb}
use Rattle.std.proofs.lemmas.Option.{slice_get_within}
use Rattle.sc_ast.specs.declared.policy.Policy.{Policy}
use Rattle.sc_lexemes.specs.declared.cursor.Cursor.{Cursor}
use Rattle.sc_lexemes.specs.declared.lexeme.Lexeme.{Lexeme}
use Rattle.sc_lexemes.specs.declared.stop.Stop.{Stop}
use Rattle.sc_lexemes.specs.declared.stop.Stop.TheVariants as stop
use Rattle.sc_parser.specs.Faults.{Begins, is_limit}
use Rattle.sc_parser.specs.GrammarFiles.{Policies, File, policy, policies_end, policies_more}
use Rattle.sc_parser.specs.Limits.{Limits, all_limits, no_limits, rank, before}
use Rattle.sc_lexemes.specs.Outcomes.{read, halt}
use Rattle.sc_parser.specs.ReadsFiles.{ReadsPolicies}
use Rattle.sc_parser.specs.ReadsFiles as r
use Rattle.sc_parser.proofs.PlainReadsFileLaws.{from_policies}
use Rattle.sc_parser.proofs.PlainMovedFileLaws.{move_policies}
use Rattle.sc_parser.proofs.PlainTokensLaws.{Weaker}
use Rattle.sc_parser.proofs.ViablePoliciesLaws.{SomePolicies, more_policies}
use Rattle.sc_parser.proofs.ViableTokensLaws.{cut, Frees, Done}

-- the limits at tokens before this one
abbrev pub earlier : ℕ → Limits
earlier n g m = nat_lt m n

-- where a token is unexpected, the limits at earlier tokens leave it and those behind free
pub frees_earlier : (n : ℕ) → Frees (earlier n) stop.Unexpected n
frees_earlier n = record { here = λ g e. le-ltb n n (le_refl n); later = λ g m h. le-ltb m n h }

neither : (a b c : Bool) → a ≡ false → c ≡ false → a || (b && c) ≡ false
neither false true c p q = q
neither false false c p q = refl
neither true b c p q = absurd cc

neither_first : (a b c : Bool) → a ≡ false → b ≡ false → a || (b && c) ≡ false
neither_first false false c p q = refl
neither_first false true c p q = absurd cc
neither_first true b c p q = absurd cc

not_at : (m n : ℕ) → n + 1 ≤ m → (b : Bool) → (m == n) ≡ b → (m == n) ≡ false
not_at m n h false e = e
not_at m n h true e = let k = (Decides-eqb m n).0 e in absurd (omega (arith, h, k))

before_here : (f g : Stop) (n : ℕ) → nat_lt (rank g) (rank f) ≡ false → before f n g n ≡ false
before_here f g n e = neither (nat_lt n n) (n == n) (nat_lt (rank g) (rank f)) (le-ltb n n (le_refl n)) e

before_later : (f g : Stop) (n m : ℕ) → n + 1 ≤ m → before f n g m ≡ false
before_later f g n m h = neither_first (nat_lt m n) (m == n) (nat_lt (rank g) (rank f)) (le-ltb m n (omega (arith, h))) (not_at m n h (m == n) refl)

limit_cut : (f : Stop) (n : ℕ) → is_limit f ≡ true → cut f n ≡ n + 1
limit_cut stop.Unexpected n e = absurd cc
limit_cut stop.TooManyPolicies n e = refl
limit_cut stop.Template n e = refl
limit_cut stop.TooDeep n e = refl
limit_cut stop.IntRange n e = refl
limit_cut stop.DuplicateKey n e = refl
limit_cut stop.BadCall n e = refl
limit_cut stop.NoMemory n e = absurd cc

-- where reading stops at a limit, the limits before it leave the tokens behind free
pub frees_before : (f : Stop) (n : ℕ) → is_limit f ≡ true → Frees (before f n) f n
frees_before f n e = let q = limit_cut f n e in record { here = λ g k. before_here f g n k; later = λ g m h. before_later f g n m (omega (arith, q, h)) }

-- policies end within the tokens
reach_policies : {K : Limits} {ts : List Lexeme} {i j : ℕ} {ps qs : List Policy} → i ≤ length ts → Policies K ts i ps qs j → j ≤ length ts
reach_policies l policies_end = l
reach_policies {ts = ts} l (policies_more h (policy {v = v} p q u k) o) = reach_policies (let e = slice_get_within ts v.at _ k in omega (arith, e)) o

pub no_token : (ts : List Lexeme) (i : ℕ) → slice_get ts i ≡ None → length ts ≤ i
no_token [] i h = omega arith
no_token (x ∷ ts) zero h = absurd cc
no_token (x ∷ ts) (suc i) h = let k = no_token ts i h in omega (arith, k)

none_ahead : (us : List Lexeme) (m : ℕ) → drop m us ≡ [] → length us ≤ m
none_ahead [] m h = omega arith
none_ahead (x ∷ us) zero h = absurd cc
none_ahead (x ∷ us) (suc m) h = let k = none_ahead us m h in omega (arith, k)

-- no token stands where reading ended
ends : {ts : List Lexeme} {i : ℕ} {t : Cursor} {ps qs : List Policy} → ReadsPolicies ts i ps (read qs t) → slice_get ts t.at ≡ None
ends (r.file_ends e) = e
ends (r.more_policies h l p q) = ends q

-- what was read is all that the tokens spell, within the limits
pub found : {ts : List Lexeme} {t : Cursor} {ps : List Policy} → ReadsPolicies ts 0 [] (read ps t) → (t.at ≡ length ts) × File all_limits ts ps
found {ts = ts} {t = t} {ps = ps} p =
    let l = no_token ts t.at (ends p) in
    let q = from_policies all_limits p in
    let k = reach_policies (omega arith) q in
    let e : t.at ≡ length ts = omega (arith, l, k) in
    (e, subst (λ n. Policies all_limits ts 0 [] ps n) e q)

-- what was completed with nothing behind it is a file
whole : {K : Limits} {ts : List Lexeme} {c : ℕ} → Done (SomePolicies K 0 []) ts c [] → Begins K ts c
whole {K = K} d =
    let q = d.spelled in
    let l = none_ahead d.us d.till.at d.tail.ahead in
    let k = reach_policies (omega arith) q.1 in
    let e : d.till.at ≡ length d.us = omega (arith, l, k) in
    (d.us, q.0, d.shares, subst (λ n. Policies K d.us 0 [] q.0 n) e q.1)

-- where a token or the end is unexpected, some file begins with the tokens before it and passes no limit at them
pub viable_earlier : {ts : List Lexeme} {n : ℕ} → ReadsPolicies ts 0 [] (halt stop.Unexpected n) → n ≤ length ts → Begins (earlier n) ts n
viable_earlier {n = n} p w = whole (more_policies (frees_earlier n) [] w p)

-- where fewer limits are kept, no fewer policies are spelled, and no fewer files begin so
pub file_weaker : {K L : Limits} {ts : List Lexeme} {ps : List Policy} → Weaker K L → File K ts ps → File L ts ps
file_weaker w p = move_policies w (record { same = λ k l. refl }) p

pub begins_weaker : {K L : Limits} {ts : List Lexeme} {n : ℕ} → Weaker K L → Begins K ts n → Begins L ts n
begins_weaker w b = (b.0, b.1, b.2, file_weaker w b.3)

pub viable : {ts : List Lexeme} {n : ℕ} → ReadsPolicies ts 0 [] (halt stop.Unexpected n) → n ≤ length ts → Begins no_limits ts n
viable {n = n} p w = begins_weaker {K = earlier n} (λ g m e. absurd cc) (viable_earlier p w)

-- where a limit is passed, some file begins with the tokens up to that one and passes none before it
pub passed : {ts : List Lexeme} {f : Stop} {n : ℕ} → ReadsPolicies ts 0 [] (halt f n) → is_limit f ≡ true → n < length ts → Begins (before f n) ts (n + 1)
passed {ts = ts} {f = f} {n = n} p l w =
    let e = limit_cut f n l in
    subst (λ c. Begins (before f n) ts c) e (whole (more_policies (frees_before f n l) [] (omega (arith, e, w)) p))
