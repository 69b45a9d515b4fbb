-- What reading a file tells of the files that there are.
use Rattle.std.proofs.Common.{◌≡◌, ◌+◌, ◌<◌, ◌≤◌, ◌==◌, ℕ, nat_lt, List, [], length, slice_get, None, true, refl, arith, le_refl}
use Rattle.std.proofs.lemmas.Bool.{lt-ltb, or_right, and_from}
use Rattle.std.proofs.lemmas.Bool.Decides.{Decides-eqb}
use Rattle.std.proofs.lemmas.Option.{slice_get_past}
use Rattle.sc_ast.specs.declared.policy.Policy.{Policy}
use Rattle.sc_lexemes.specs.declared.lexeme.Lexeme.{Lexeme}
use Rattle.sc_lexemes.specs.declared.stop.Stop.{Stop}
use Rattle.sc_lexemes.specs.declared.stop.Stop.TheVariants as stop
use Rattle.sc_lexemes.specs.Depth.{outside}
use Rattle.sc_parser.specs.Faults.{Shares, Begins, is_limit}
use Rattle.sc_parser.specs.GrammarFiles.{File}
use Rattle.sc_parser.specs.Limits.{Limits, all_limits, rank, up_to}
use Rattle.sc_lexemes.specs.Outcomes.{Outcome, read, halt}
use Rattle.sc_parser.specs.ReadsFiles.{ReadsPolicies}
use Rattle.sc_parser.proofs.RunLaws.{Agree, only, moved, fewer, ends_within, place}
use Rattle.sc_parser.proofs.ReadsFileLaws.{into_policies}
use Rattle.sc_parser.proofs.GrammarFileLaws.{to_policies}

-- it depends on the tokens up to where reading ended
pub same_policies : {ts us : List Lexeme} {i : ℕ} {ps : List Policy} {o o' : Outcome (List Policy)} → Agree ts us (place o) → ReadsPolicies ts i ps o → ReadsPolicies us i ps o' → o ≡ o'
same_policies g a b = only (moved g (into_policies a)) (into_policies b)

pub past_end : (ts : List Lexeme) → slice_get ts (length ts) ≡ None
past_end ts = slice_get_past ts (length ts) (le_refl (length ts))

read_no_halt : {f : Stop} {n j : ℕ} {ps : List Policy} → halt f n ≡ read ps (outside j) → ⊥
read_no_halt e = cc

-- the policies that the tokens spell are read
pub complete : {ts : List Lexeme} {ps : List Policy} {o : Outcome (List Policy)} → ReadsPolicies ts 0 [] o → File all_limits ts ps → o ≡ read ps (outside (length ts))
complete {ts = ts} a p =
    let b = to_policies p (past_end ts) [] refl in
    let e = only (into_policies a) b.runs in
    let f = b.same (λ k. refl) (λ g i. refl) in
    cc

-- they spell one list of policies
pub one_file : {ts : List Lexeme} {ps qs : List Policy} → File all_limits ts ps → File all_limits ts qs → ◌≡◌ {A = Outcome (List Policy)} (read ps (outside (length ts))) (read qs (outside (length ts)))
one_file {ts = ts} p q =
    let b = to_policies p (past_end ts) [] refl in
    let c = to_policies q (past_end ts) [] refl in
    let e = only b.runs c.runs in
    let f = b.same (λ k. refl) (λ g i. refl) in
    let h = c.same (λ k. refl) (λ g i. refl) in
    cc

-- where reading halts though these limits are kept, no file that keeps them begins so
halted : {K : Limits} {ts us : List Lexeme} {ps : List Policy} {f : Stop} {n : ℕ} → ReadsPolicies ts 0 [] (halt f n) → (is_limit f ≡ true → K f n ≡ true) → Agree ts us n → File K us ps → ⊥
halted {us = us} a k g p =
    let b = to_policies p (past_end us) [] refl in
    read_no_halt (only (moved g (fewer k (into_policies a))) b.runs)

agrees : {ts us : List Lexeme} {n : ℕ} → Shares ts us (n + 1) → Agree ts us n
agrees s = record { same = λ k le. s.same k (omega (arith, le)) }

-- no file begins with the token that is unexpected, whatever limits it keeps
pub not_unexpected : {K : Limits} {ts : List Lexeme} {n : ℕ} → ReadsPolicies ts 0 [] (halt stop.Unexpected n) → Begins K ts (n + 1) → ⊥
not_unexpected a b = halted a (λ e. absurd cc) (agrees b.2) b.3

-- no file ends where the end is unexpected
pub not_ended : {K : Limits} {ts : List Lexeme} {ps : List Policy} → ReadsPolicies ts 0 [] (halt stop.Unexpected (length ts)) → File K ts ps → ⊥
not_ended a p = halted a (λ e. absurd cc) (record { same = λ k le. refl }) p

-- no file that keeps the limit begins with the token that passes it
pub not_kept : {K : Limits} {ts : List Lexeme} {f : Stop} {n : ℕ} → ReadsPolicies ts 0 [] (halt f n) → is_limit f ≡ true → K f n ≡ true → Begins K ts (n + 1) → ⊥
not_kept a l k b = halted a (λ e. k) (agrees b.2) b.3

up_to_itself : (f : Stop) (n : ℕ) → up_to f n f n ≡ true
up_to_itself f n = or_right (nat_lt n n) _ (and_from (n == n) _ ((Decides-eqb n n).1 refl) (lt-ltb (rank f) (rank f + 1) (omega arith)))

pub not_up_to : {ts : List Lexeme} {f : Stop} {n : ℕ} → ReadsPolicies ts 0 [] (halt f n) → is_limit f ≡ true → Begins (up_to f n) ts (n + 1) → ⊥
not_up_to {f = f} {n = n} a l b = not_kept a l (up_to_itself f n) b

-- reading halts at a token, or where the tokens end
pub within : {ts : List Lexeme} {f : Stop} {n : ℕ} → ReadsPolicies ts 0 [] (halt f n) → (n ≤ length ts) × (is_limit f ≡ true → n < length ts) × (f ≡ stop.NoMemory → ⊥)
within a = ends_within (omega arith) (into_policies a)
