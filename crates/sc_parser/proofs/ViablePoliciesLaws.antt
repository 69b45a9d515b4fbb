-- A policy, and policies, at which reading stops can be completed.
use Rattle.std.proofs.Common.{◌≡◌, ℕ, ◌+◌, ◌≤◌, ◌++◌, List, [], ◌∷◌, refl, arith, length, le_refl, codes, false}
use Rattle.sc_ast.specs.declared.place.Place.{Place}
use Rattle.sc_ast.specs.declared.policy.Condition.{Condition}
use Rattle.sc_ast.specs.declared.policy.Effect.{Effect}
use Rattle.sc_ast.specs.declared.policy.Effect.TheVariants.{Permit}
use Rattle.sc_ast.specs.declared.policy.Policy.{Policy}
use Rattle.sc_lexer.specs.declared.token.Kind.TheVariants as kind
use Rattle.sc_lexemes.specs.declared.cursor.Cursor.{Cursor}
use Rattle.sc_lexemes.specs.declared.lexeme.Lexeme.{Lexeme}
use Rattle.sc_lexemes.specs.declared.operator.Close.TheVariants as close
use Rattle.sc_lexemes.specs.declared.stop.Stop.{Stop}
use Rattle.sc_lexemes.specs.declared.stop.Stop.TheVariants as stop
use Rattle.sc_lexemes.specs.Depth.{next, deeper, outside}
use Rattle.sc_parser.specs.GrammarFiles.{Head, Clauses, OnePolicy, Policies, effect, bare_annotation, clauses_end, clauses_more, policy, policies_end, policies_more}
use Rattle.sc_lexemes.specs.Lexemes.{IsPolicyStart, annotation_starts, effect_starts}
use Rattle.sc_parser.specs.Limits.{Limits, all_limits}
use Rattle.sc_lexemes.specs.Outcomes.{halt}
use Rattle.sc_parser.specs.ReadsFiles.{ReadsClauses, ReadsPolicy, ReadsPolicies}
use Rattle.sc_parser.specs.ReadsFiles as r
use Rattle.sc_parser.proofs.PlainForwardLaws.{fwd_enclosed}
use Rattle.sc_parser.proofs.PlainForwardFileLaws.{fwd_whole_scope, fwd_clauses}
use Rattle.sc_parser.proofs.PlainReadsLaws.{from_enclosed}
use Rattle.sc_parser.proofs.PlainReadsFileLaws.{from_scopes, from_clauses}
use Rattle.sc_parser.proofs.PlainTokensLaws.{fewer, moved, moved_clause, moved_effect}
use Rattle.sc_parser.proofs.ViableExprLaws.{SomeEnclosed, more_enclosed}
use Rattle.sc_parser.proofs.ViableFillerLaws.{yes, true_enclosed}
use Rattle.sc_parser.proofs.ViableKeptLaws.{kept_enclosed}
use Rattle.sc_parser.proofs.ViableKeptFileLaws.{kept_head, kept_scopes, kept_clauses, kept_policy}
use Rattle.sc_parser.proofs.ViableScopesLaws.{word, SomeHead, more_head, SomeScopes, more_scopes, scope_tokens, bare_scopes}
use Rattle.sc_parser.proofs.ViableStopsLaws.{stop_enclosed}
use Rattle.sc_parser.proofs.ViableStopsFileLaws.{stop_scopes, stop_clauses, stop_policies}
use Rattle.sc_parser.proofs.ViableTokensLaws.{cut, Frees, far, loose, Done, Ahead, head_of, rest_of, leaf, onward, carry, sign}

abbrev SomeClauses : Limits → Cursor → List Condition → List Lexeme → Cursor → Type 0
SomeClauses K s cs us t = (ds : List Condition) × Clauses K us s cs ds t

more_clauses : {K : Limits} {ts : List Lexeme} {s : Cursor} {cs : List Condition} {f : Stop} {n : ℕ} → Frees K f n → (rest : List Lexeme) → cut f n ≤ length ts → ReadsClauses ts s cs (halt f n) → Done (SomeClauses K s cs) ts (cut f n) rest
more_clauses {K = K} {s = s} {cs = cs} g rest w (r.no_brace h l) = leaf (SomeClauses K s cs) (next s) (deeper (next (next (next (next s))))) (sign kind.OpenBrace ∷ yes ∷ sign kind.CloseBrace ∷ rest) w (omega arith) (λ us d. rest_of (rest_of (rest_of d))) (λ us b d. (_, clauses_more (moved_clause b (omega arith) h) (head_of d) (true_enclosed close.Brace (next (next s)) g.later (omega arith) (rest_of d)) clauses_end))
more_clauses {K = K} {s = s} {cs = cs} g rest w (r.clause_halts h l p) =
    let i = far g in
    let j = stop_enclosed p in
    onward (SomeEnclosed K close.Brace (next (next s))) (SomeClauses K s cs) (λ t. deeper t) (more_enclosed g rest w p) (λ t. le_refl t.at) (λ us t d. d) (λ us t b a d x. (_, clauses_more (moved_clause b (omega (arith, i, j)) h) (moved b (omega (arith, i, j)) l) x.1 clauses_end))
more_clauses {K = K} {s = s} {cs = cs} g rest w (r.clause {t = t} {p = o} {k = k} {x = y} h l p q) =
    let i = far g in
    let j = stop_clauses q in
    let m = fwd_enclosed (from_enclosed all_limits p) in
    carry (SomeClauses K (deeper t) (cs ++ record { place = o; kind = k; body = y } ∷ [])) (SomeClauses K s cs) (more_clauses g rest w q) (λ us u b x. (x.0, clauses_more (moved_clause b (omega (arith, i, j, m)) h) (moved b (omega (arith, i, j, m)) l) (kept_enclosed (fewer b (omega (arith, i, j))) p) x.1))

abbrev pub SomePolicy : Limits → Cursor → List Lexeme → Cursor → Type 0
SomePolicy K s us t = (x : Policy) × OnePolicy K us s x t

-- the tokens of a policy behind its head
abbrev policy_tokens : List Lexeme → List Lexeme
policy_tokens rest = scope_tokens (sign kind.Semicolon ∷ rest)

abbrev behind_head : Cursor → Cursor
behind_head t = next (next (next (next (next (next (next (next t)))))))

bare_policy : {K : Limits} {us rest : List Lexeme} {s : Cursor} {p : Place} {e : Effect} (t : Cursor) → Head K us s p e t → Ahead us t.at (policy_tokens rest) → SomePolicy K s us (behind_head t)
bare_policy t h d = (_, policy h (bare_scopes t d).1 clauses_end (head_of (rest_of (rest_of (rest_of (rest_of (rest_of (rest_of (rest_of d)))))))))

behind_policy : {us rest : List Lexeme} (t : Cursor) → Ahead us t.at (policy_tokens rest) → Ahead us (behind_head t).at rest
behind_policy t d = rest_of (rest_of (rest_of (rest_of (rest_of (rest_of (rest_of (rest_of d)))))))

more_policy : {K : Limits} {ts : List Lexeme} {s : Cursor} {f : Stop} {n : ℕ} → Frees K f n → (rest : List Lexeme) → cut f n ≤ length ts → ReadsPolicy ts s (halt f n) → Done (SomePolicy K s) ts (cut f n) rest
more_policy {K = K} {s = s} g rest w (r.head_halts p) = onward (SomeHead K s) (SomePolicy K s) behind_head (more_head g (policy_tokens rest) w p) (λ t. omega arith) (λ us t d. behind_policy t d) (λ us t b a d x. bare_policy t x.2 d)
more_policy {K = K} {s = s} g rest w (r.scopes_halt {t = t} p q) =
    let i = far g in
    let j = stop_scopes q in
    onward (SomeScopes K t) (SomePolicy K s) (λ u. next u) (more_scopes g (sign kind.Semicolon ∷ rest) w q) (λ u. omega arith) (λ us u d. rest_of d) (λ us u b a d x. (_, policy (kept_head (fewer b (omega (arith, i, j))) p) x.1 clauses_end (head_of d)))
more_policy {K = K} {s = s} g rest w (r.clauses_halt {u = u} p q v) =
    let i = far g in
    let j = stop_clauses v in
    let k = fwd_whole_scope (from_scopes all_limits q) in
    onward (SomeClauses K u []) (SomePolicy K s) (λ t. next t) (more_clauses g (sign kind.Semicolon ∷ rest) w v) (λ t. omega arith) (λ us t d. rest_of d) (λ us t b a d x. (_, policy (kept_head (fewer b (omega (arith, i, j, k))) p) (kept_scopes (fewer b (omega (arith, i, j))) q) x.1 (head_of d)))
more_policy {K = K} {s = s} g rest w (r.no_semicolon {v = v} p q u h) =
    let j = fwd_clauses (from_clauses all_limits u) in
    let k = fwd_whole_scope (from_scopes all_limits q) in
    leaf (SomePolicy K s) v (next v) (sign kind.Semicolon ∷ rest) w (omega arith) (λ us d. rest_of d) (λ us b d. (_, policy (kept_head (fewer b (omega (arith, j, k))) p) (kept_scopes (fewer b (omega (arith, j))) q) (kept_clauses b u) (head_of d)))

abbrev pub SomePolicies : Limits → ℕ → List Policy → List Lexeme → Cursor → Type 0
SomePolicies K i ps us t = (qs : List Policy) × Policies K us i ps qs t.at

-- one policy more
one_more : {K : Limits} {us : List Lexeme} {i : ℕ} {ps : List Policy} {t : Cursor} → K stop.TooManyPolicies i ≡ false → SomePolicy K (outside i) us t → SomePolicies K i ps us t
one_more k x = (_, policies_more (loose k) x.1 policies_end)

-- a policy too many begins
more_start : {K : Limits} {ts : List Lexeme} {i : ℕ} {ps : List Policy} → Frees K stop.TooManyPolicies i → (rest : List Lexeme) → i + 1 ≤ length ts → IsPolicyStart ts i → Done (SomePolicies K i ps) ts (i + 1) rest
more_start {K = K} {i = i} {ps = ps} g rest w (annotation_starts p h) =
    let t = next (next (next (outside i))) in
    leaf (SomePolicies K i ps) (next (outside i)) (behind_head t) (word (codes "a") ∷ word (codes "permit") ∷ policy_tokens rest) w (omega arith) (λ us d. behind_policy t (rest_of (rest_of d))) (λ us b d. one_more (g.here stop.TooManyPolicies refl) (bare_policy {p = record { offset = 0 }} {e = Permit} t (bare_annotation (moved b (omega arith) h) (head_of d) (effect (record { is = head_of (rest_of d) }))) (rest_of (rest_of d))))
more_start {K = K} {i = i} {ps = ps} g rest w (effect_starts p e h) =
    let t = next (outside i) in
    leaf (SomePolicies K i ps) t (behind_head t) (policy_tokens rest) w (omega arith) (λ us d. behind_policy t d) (λ us b d. one_more (g.here stop.TooManyPolicies refl) (bare_policy t (effect (moved_effect b (omega arith) h)) d))

pub more_policies : {K : Limits} {ts : List Lexeme} {i : ℕ} {ps : List Policy} {f : Stop} {n : ℕ} → Frees K f n → (rest : List Lexeme) → cut f n ≤ length ts → ReadsPolicies ts i ps (halt f n) → Done (SomePolicies K i ps) ts (cut f n) rest
more_policies g rest w (r.too_many h l) = more_start g rest w h
more_policies {K = K} {i = i} {ps = ps} g rest w (r.no_policy h l) = leaf (SomePolicies K i ps) (outside i) (outside i) rest w (le_refl i) (λ us d. d) (λ us b d. (ps, policies_end))
more_policies {K = K} {i = i} {ps = ps} g rest w (r.policy_halts h l p) = carry (SomePolicy K (outside i)) (SomePolicies K i ps) (more_policy g rest w p) (λ us t b x. (_, policies_more (λ k. l) x.1 policies_end))
more_policies {K = K} {i = i} {ps = ps} g rest w (r.more_policies {t = t} {x = y} h l p q) =
    let m = far g in
    let j = stop_policies q in
    carry (SomePolicies K t.at (ps ++ y ∷ [])) (SomePolicies K i ps) (more_policies g rest w q) (λ us u b x. (x.0, policies_more (λ k. l) (kept_policy (fewer b (omega (arith, m, j))) p) x.1))
