-- What a run writes of the log of an environment.
use Rattle.std.proofs.Common.{◌≡◌, ◌≢◌, ◌∙◌, ℕ, List, [], ◌∷◌, ◌++◌, Option, Some, Result, Ok, Err, length, get_or, ◌<◌, take, refl, sym, ap, subst}
use Rattle.std.proofs.lemmas.List.{get_or-map, length-map}
use Rattle.sc_outside.specs.Writes.{Written, all_appended, appended}
use Rattle.sc_outside.specs.declared.faults.SinkFault.{SinkFault}
use Rattle.sc_outside.specs.declared.faults.SinkFault.TheVariants.{Failed, NoMemory}
use Rattle.sc_schema.specs.declared.declarations.Env.{Env}
use Rattle.sc_checker.specs.Texts.{step_line}
use Rattle.sc_clauses.specs.declared.step.Step.{Step}
use Rattle.sc_goal.specs.Queries.{Asked as Query}
use Rattle.sc_inputs.specs.declared.inputs.Asking.{Asking}
use Rattle.sc_reports.proofs.AnalysisLaws.{asked-same}
use Rattle.sc_reports.proofs.ClaimLaws.{one-of}
use Rattle.sc_reports.proofs.LineLaws.{lines-cut, lines-stop}
use Rattle.sc_reports.proofs.ReportLaws.{PutsAnswer, counted-within, counts-more, logs-nil}
use Rattle.sc_reports.specs.Analyses.{IsAnswer, IsFound, IsQueryOf, asked_of, asked_within}
use Rattle.sc_reports.specs.Lines.{PutsLines}
use Rattle.sc_reports.specs.Logs.{Logged, Shows, log_first, log_front, log_lines, log_status, log_whole, other_front, other_whole, step_lines, unlogged}
use Rattle.sc_reports.specs.Progress.{Counts, IsFresh, Puts, status_after}
use Rattle.sc_reports.specs.Reports.{Asked, Line, has_counterexample, holds, line_text, log_of, status_by}
use Rattle.sc_reports.specs.View.{verdict_view}
use Rattle.sc_reports.specs.declared.analysing.EnvAnswer.{EnvAnswer}
use Rattle.sc_reports.specs.declared.analysing.EnvAnswer.TheVariants.{Holds, Violated, Spent, OverLimit}
use Rattle.sc_reports.specs.declared.tally.Tally.{Tally}

-- the line of the step at a place
pub step-line-at : (steps : List Step) (i : ℕ) (d s : Step) → i < length steps → s ≡ get_or steps i d → get_or (step_lines steps) i (step_line d ++ 10 ∷ []) ≡ step_line s ++ 10 ∷ []
step-line-at steps i d s h e = get_or-map (λ (x : Step). step_line x ++ 10 ∷ []) steps i d (step_line d ++ 10 ∷ []) h ∙ ap (λ (x : Step). step_line x ++ 10 ∷ []) (sym e)

pub step-lines-within : (steps : List Step) (i : ℕ) → i < length steps → i < length (step_lines steps)
step-lines-within steps i h = subst (λ (n : ℕ). i < n) (sym (length-map steps (λ (x : Step). step_line x ++ 10 ∷ []))) h

-- the line of a step isn't put out, or a front of it is
pub step-stop : (lines : List (List ℕ)) (i : ℕ) (d line : List ℕ) (old mid new : Written) (step rose : Type 0) → (step → rose) → i < length lines → mid ≡ all_appended old (take i lines) → get_or lines i d ≡ line
    → (e : SinkFault) → Puts mid new line step (Err e) → PutsLines lines old new rose (Err e)
step-stop lines i d line old mid new step rose since h p is Failed w = (since w.0, lines-cut lines i d old mid new w.1.0 h p (w.1.1 ∙ ap (λ (l : List ℕ). appended mid (take w.1.0 l)) (sym is)))
step-stop lines i d line old mid new step rose since h p is NoMemory w = lines-stop lines i old mid new p w

-- the lines of a log are put out
pub log-put : (q : Asked) (env : Env) (log : List Step) (old new : Written) (rose : Type 0) (r : Result Unit SinkFault) (code : ℕ) (spent : List (List Step)) → Shows q env log → PutsLines (log_lines log) old new rose r
    → code ≡ log_status r → spent ≡ [] → Logged q env old new rose code spent
log-put q env log old new rose (Ok x) code spent shows h c s = log_whole log shows c h s
log-put q env log old new rose (Err Failed) code spent shows h c s = log_front log h.1.whole h.1.next h.1.rest h.1.kept shows h.1.in_order h.0 c h.1.text s
log-put q env log old new rose (Err NoMemory) code spent shows h c s = log_first log h.whole h.rest shows h.in_order c h.text s

-- ---- the line of an environment for which the property isn't shown

abbrev line_of : Asked → Env → EnvAnswer → Line
line_of q env a = record { env = env; verdict = verdict_view q.budget a }

fresh-counts : (t : Tally) → IsFresh t → Counts [] t
fresh-counts t fresh = record { counterexample = fresh.counterexample; undecided = fresh.undecided; spent = fresh.spent }

pub other-put : (q : Asked) (env : Env) (a : EnvAnswer) (b : ℕ) (t u : Tally) (old new : Written) (text : List ℕ) (rose : Type 0) (r : Result Unit SinkFault) (code : ℕ) → IsFresh t → text ≡ line_text (line_of q env a)
    → IsAnswer q env a → verdict_view q.budget a ≢ holds → PutsAnswer b a t u old new text rose r → code ≡ status_after u r → Logged q env old new rose code u.spent.items
other-put q env a b t u old new text rose (Ok x) code fresh is answer other h c =
    let l = line_of q env a in
    let counts : Counts (l ∷ []) u = counts-more [] l t u (fresh-counts t fresh) (counted-within b q.budget a t u h.1) in
    other_whole l (record { line_true = answer; env_is = refl; not_shown = other })
    (c ∙ ap (λ f. status_by f u.undecided) counts.counterexample ∙ ap (status_by (has_counterexample (l ∷ []))) counts.undecided)
    (h.0 ∙ ap (appended old) is) (counts.spent ∙ logs-nil (log_of l.verdict))
other-put q env a b t u old new text rose (Err Failed) code fresh is answer other h c =
    other_front (line_of q env a) h.2.0 (record { line_true = answer; env_is = refl; not_shown = other }) h.0 c
    (h.2.1 ∙ ap (λ s. appended old (take h.2.0 s)) is) (h.1 ∙ fresh.spent)
other-put q env a b t u old new text rose (Err NoMemory) code fresh is answer other h c = unlogged c h.0 (h.1 ∙ fresh.spent)

-- what isn't that a log shows the property says something else
pub not-holds : (budget : ℕ) (a : EnvAnswer) → ((log : List Step) → a ≡ Holds log → ⊥) → verdict_view budget a ≢ holds
not-holds budget (Holds log) h = λ e. h log refl
not-holds budget (Violated w) h = λ e. absurd cc
not-holds budget (Spent log) h = λ e. absurd cc
not-holds budget OverLimit h = λ e. absurd cc

-- ---- the environment that is named

pub found-of-query : (i : Asking) (budget : ℕ) (q : Query) (env : Env) (a : EnvAnswer) → IsQueryOf i q → IsFound (asked_of i.schema q budget) env a → IsFound (asked_within i budget) env a
found-of-query i budget q env a is found = subst (λ x. IsFound x env a) (asked-same i budget q is) found

pub logged-named : (q : Asked) (at : Option Env) (env other : Env) (old new : Written) (rose : Type 0) (code : ℕ) (spent : List (List Step)) → at ≡ Some env → at ≡ Some other → Logged q env old new rose code spent → Logged q other old new rose code spent
logged-named q at env other old new rose code spent e f h = subst (λ x. Logged q x old new rose code spent) (one-of at env other e f) h
