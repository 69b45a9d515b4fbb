-- What is said of a log is so.
use Rattle.std.proofs.Common.{◌≡◌, ℕ, List, Option, Some, None, IfSome, Err, refl, sym, subst, ap, ◌∙◌, unwrap_or, take}
use Rattle.sc_checker.specs.Streams.{HasVerdict, IsAcceptedText, of_log}
use Rattle.sc_checker.specs.declared.checking.Reason.{Reason}
use Rattle.sc_checker.specs.declared.checking.Verdict.{Verdict}
use Rattle.sc_checker.specs.declared.checking.Verdict.TheVariants.{Refuted, Rejected}
use Rattle.sc_footprint.specs.Problems.{IsPosed, Posed}
use Rattle.sc_footprint.specs.Problems as problem
use Rattle.sc_solver.specs.Theories.{HasRule, rule_clause}
use Rattle.sc_outside.specs.Writes.{Written, Writes, appended}
use Rattle.sc_outside.specs.declared.faults.SinkFault.TheVariants.{Failed}
use Rattle.sc_schema.specs.declared.declarations.Env.{Env}
use Rattle.sc_reports.proofs.AnalysisLaws.{asked-same}
use Rattle.sc_reports.specs.Analyses.{asked_of, asked_within, IsQueryOf}
use Rattle.sc_reports.specs.Claims.{Answer, Checked, Claims, HasTextVerdict, IsChecked, IsShort, IsShown, answer_code, answer_front, answer_text, answer_whole, says_of}
use Rattle.sc_reports.specs.LogReading.{HasRead, Held}
use Rattle.sc_reports.specs.Reports.{AlwaysHas, Asked, HasRoom, IsProblem}
use Rattle.sc_inputs.specs.declared.inputs.Asking.{Asking}
use Rattle.sc_goal.specs.Queries.{Asked as Query}

-- an option has one value
pub one-of : {X : Type 0} (o : Option X) (x y : X) → o ≡ Some x → o ≡ Some y → x ≡ y
one-of o x y e f = ap (λ (z : Option _). unwrap_or z x) (sym e ∙ f)

-- what a verdict says is so
pub verdict-claims : (q : Asked) (env : Env) (p : Posed) (content : Option (List ℕ)) (v : Verdict) → IsProblem q env p → HasRoom q env → (v ≡ Refuted → AlwaysHas q env) → IfSome content (λ text. IsChecked p text v) → Claims content q env (says_of v)
verdict-claims q env p None Refuted is room sound told = (sound refl, room, tt)
verdict-claims q env p (Some text) Refuted is room sound told = (sound refl, room, record { posed = p; is_problem = is; accepted_text = told.accepted refl })
verdict-claims q env p None (Rejected step why) is room sound told = (room, tt)
verdict-claims q env p (Some text) (Rejected step why) is room sound told = (room, record { posed = p; is_problem = is; verdict = told.verdict })

-- a text that is accepted isn't rejected

abbrev Moving : Type 0
Moving = (p q : Posed) (text : List ℕ) → IsPosed p → IsPosed q → p.schema ≡ q.schema → p.env ≡ q.env → problem.goal_term p ≡ problem.goal_term q
    → IsAcceptedText (HasRule p) (rule_clause p) p text → IsAcceptedText (HasRule q) (rule_clause q) q text

pub not-both : {text : List ℕ} → Moving → ((p : Posed) (u v : Verdict) → HasVerdict (HasRule p) (rule_clause p) p text u → HasVerdict (HasRule p) (rule_clause p) p text v → u ≡ v) → (q : Asked) (env : Env) (step : ℕ) (why : Reason)
    → IsShown q env text → HasTextVerdict q env text (Rejected step why) → ⊥
not-both {text = text} moves once q env step why shown rejected =
    let a = shown.is_problem in
    let b = rejected.is_problem in
    let goal : problem.goal_term shown.posed ≡ problem.goal_term rejected.posed = one-of _ (problem.goal_term shown.posed) (problem.goal_term rejected.posed) a.goal_is.is b.goal_is.is in
    let there = moves shown.posed rejected.posed text a.posed b.posed (a.schema_is ∙ sym b.schema_is) (a.env_is ∙ sym b.env_is) goal shown.accepted_text in
    let same = once rejected.posed Refuted (Rejected step why) (of_log there.steps there.writable there.text there.accepted) rejected.verdict in
    absurd cc

-- a log that was read isn't too long
pub read-short : (content : Option (List ℕ)) (before now : Held) → IfSome content (HasRead before now) → IsShort content
read-short None before now h = tt
read-short (Some text) before now h = h.short

-- ---- the environment that is named

pub claims-named : (content : Option (List ℕ)) (i : Asking) (q : Query) (at : Option Env) (env other : Env) (a : Answer) → IsQueryOf i q → at ≡ Some env → at ≡ Some other → Claims content (asked_of i.schema q 0) env a → Claims content (asked_within i 0) other a
claims-named content i q at env other a is e f h =
    subst (λ x. Claims content (asked_within i 0) x a) (one-of at env other e f) (subst (λ x. Claims content x env a) (asked-same i 0 q is) h)

-- ---- what is put out

pub said : (content : Option (List ℕ)) (q : Asked) (at : Option Env) (env other : Env) (a : Answer) (text : List ℕ) (old new : Written) (rose : Type 0) (code : ℕ) → at ≡ Some env → at ≡ Some other → IsShort content → Claims content q other a
    → text ≡ answer_text env a → new ≡ appended old text → code ≡ answer_code a → Checked content q other old new rose code
said content q at env other a text old new rose code e f short claims is put done =
    answer_whole a short claims done (put ∙ ap (appended old) (is ∙ ap (λ x. answer_text x a) (one-of at env other e f)))

pub said-cut : (content : Option (List ℕ)) (q : Asked) (at : Option Env) (env other : Env) (a : Answer) (text : List ℕ) (old new : Written) (rose : Type 0) → at ≡ Some env → at ≡ Some other → IsShort content → Claims content q other a
    → text ≡ answer_text env a → rose → Writes old new text (Err Failed) → Checked content q other old new rose 21
said-cut content q at env other a text old new rose e f short claims is risen w =
    answer_front a w.0 short claims risen refl (w.2 ∙ ap (λ t. appended old (take w.0 t)) (is ∙ ap (λ x. answer_text x a) (one-of at env other e f)))
