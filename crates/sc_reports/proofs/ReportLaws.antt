-- A report grows by whole lines.
use Rattle.std.proofs.Common.{◌≡◌, ◌+◌, ◌<◌, ◌||◌, ℕ, List, [], ◌∷◌, ◌++◌, map, Bool, Result, Ok, Err, length, get_or, take, drop, refl, sym, ap, ◌∙◌, subst, arith, append_assoc, ⊎_elim}
use Rattle.std.specs.List.{AllByRecursion, list_any}
use Rattle.std.proofs.lemmas.List.{map-append, take_more, take_all, take-append-drop}
use Rattle.sc_laws.proofs.BoolLaws.{or_false, or_grouped}
use Rattle.sc_outside.proofs.WriteLaws.{appended-after}
use Rattle.sc_outside.specs.Writes.{Written, all_appended, appended}
use Rattle.sc_outside.specs.declared.faults.SinkFault.{SinkFault}
use Rattle.sc_outside.specs.declared.faults.SinkFault.TheVariants.{Failed, NoMemory}
use Rattle.sc_schema.specs.declared.declarations.Env.{Env}
use Rattle.sc_schema.specs.Declarations.{environments}
use Rattle.sc_clauses.specs.declared.step.Step.{Step}
use Rattle.sc_reports.specs.Analyses.{IsAnswer}
use Rattle.sc_reports.specs.View.{verdict_view}
use Rattle.sc_reports.specs.declared.analysing.EnvAnswer.{EnvAnswer}
use Rattle.sc_reports.specs.declared.analysing.EnvAnswer.TheVariants.{Holds, Violated, Spent, OverLimit}
use Rattle.sc_reports.specs.declared.tally.Tally.{Tally}
use Rattle.sc_reports.specs.Progress.{IsFront, IsFresh, Counts, Counted, CountedAs, Progress, PutsCounted, ReportsEnv, ReportsAll, ReportsNone, Reported, whole, cut, cut_none, stopped, status_after}
use Rattle.sc_reports.specs.Reports.{Asked, Line, IsLine, line_text, line_texts, report_texts, is_counterexample, is_open, has_counterexample, status_by, log_of, logs_of}

-- ---- lines

line_texts-push : (lines : List Line) (l : Line) → line_texts (lines ++ l ∷ []) ≡ line_texts lines ++ line_text l ∷ []
line_texts-push lines l = map-append line_text lines (l ∷ [])

-- a line after others
line-after : (lines : List Line) (l : Line) (old mid new : Written) → mid ≡ all_appended old (line_texts lines) → new ≡ appended mid (line_text l) → new ≡ all_appended old (line_texts (lines ++ l ∷ []))
line-after lines l old mid new e f =
    f ∙ ap (λ o. appended o (line_text l)) e ∙ appended-after old (line_texts lines) (line_text l) ∙ ap (all_appended old) (sym (line_texts-push lines l))

abbrev envs_of : List Line → List Env
envs_of lines = map (λ (l : Line). l.env) lines

envs-push : (lines : List Line) (l : Line) → envs_of (lines ++ l ∷ []) ≡ envs_of lines ++ l.env ∷ []
envs-push [] l = refl
envs-push (x ∷ lines) l = ap (λ es. x.env ∷ es) (envs-push lines l)

true-push : (q : Asked) (lines : List Line) (l : Line) → AllByRecursion (IsLine q) lines → IsLine q l → AllByRecursion (IsLine q) (lines ++ l ∷ [])
true-push q [] l h t = (t, tt)
true-push q (x ∷ lines) l h t = (h.0, true-push q lines l h.1 t)

any-push : (P : Line → Bool) (lines : List Line) (l : Line) → list_any P (lines ++ l ∷ []) ≡ list_any P lines || P l
any-push P [] l = or_false (P l)
any-push P (x ∷ lines) l = ap (λ b. P x || b) (any-push P lines l) ∙ or_grouped (P x) (list_any P lines) (P l)

pub logs-nil : (xs : List (List Step)) → xs ++ [] ≡ xs
logs-nil [] = refl
logs-nil (x ∷ xs) = ap (λ ys. x ∷ ys) (logs-nil xs)

logs-push : (lines : List Line) (l : Line) → logs_of (lines ++ l ∷ []) ≡ logs_of lines ++ log_of l.verdict
logs-push [] l = logs-nil (log_of l.verdict)
logs-push (x ∷ lines) l = ap (λ xs. log_of x.verdict ++ xs) (logs-push lines l) ∙ sym (append_assoc (log_of x.verdict) (logs_of lines) (log_of l.verdict))

pub counts-more : (lines : List Line) (l : Line) (t u : Tally) → Counts lines t → Counted l t u → Counts (lines ++ l ∷ []) u
counts-more lines l t u c m = record {
  counterexample = m.counterexample ∙ ap (λ b. b || is_counterexample l.verdict) c.counterexample ∙ sym (any-push (λ (x : Line). is_counterexample x.verdict) lines l);
  undecided = m.undecided ∙ ap (λ b. b || is_open l.verdict) c.undecided ∙ sym (any-push (λ (x : Line). is_open x.verdict) lines l);
  spent = m.spent ∙ ap (λ xs. xs ++ log_of l.verdict) c.spent ∙ sym (logs-push lines l);
}

-- ---- the line of an answer

abbrev pub AsCounted : ℕ → EnvAnswer → Tally → Tally → Type 0
AsCounted budget a t u = CountedAs t u (is_counterexample (verdict_view budget a)) (is_open (verdict_view budget a)) (log_of (verdict_view budget a))

-- the budget isn't counted, and a log is
pub counted-within : (b c : ℕ) (a : EnvAnswer) (t u : Tally) → AsCounted b a t u → AsCounted c a t u
counted-within b c (Holds log) t u h = h
counted-within b c (Violated w) t u h = h
counted-within b c (Spent log) t u h = h
counted-within b c OverLimit t u h = h

abbrev pub PutsAnswer : ℕ → EnvAnswer → Tally → Tally → Written → Written → List ℕ → Type 0 → Result Unit SinkFault → Type 0
PutsAnswer budget a t u old new text rose r = PutsCounted t u (is_counterexample (verdict_view budget a)) (is_open (verdict_view budget a)) (log_of (verdict_view budget a)) old new text rose r

pub env-reported : (q : Asked) (env : Env) (a : EnvAnswer) (b : ℕ) (t u : Tally) (old new : Written) (text : List ℕ) (rose : Type 0) (r : Result Unit SinkFault)
    → text ≡ line_text (record { env = env; verdict = verdict_view q.budget a }) → IsAnswer q env a → PutsAnswer b a t u old new text rose r → ReportsEnv q env t u old new rose r
env-reported q env a b t u old new text rose (Ok x) e h p =
    (record { env = env; verdict = verdict_view q.budget a }, h, refl, counted-within b q.budget a t u p.1, p.0 ∙ ap (appended old) e)
env-reported q env a b t u old new text rose (Err Failed) e h p =
    (p.0, p.1, (record { env = env; verdict = verdict_view q.budget a }, h, refl, (p.2.0, p.2.1 ∙ ap (λ s. appended old (take p.2.0 s)) e)))
env-reported q env a b t u old new text rose (Err NoMemory) e h p = p

-- ---- one more environment

envs-more : (envs : List Env) (i : ℕ) (d : Env) (lines : List Line) (l : Line) → i < length envs → envs_of lines ≡ take i envs → l.env ≡ get_or envs i d → envs_of (lines ++ l ∷ []) ≡ take (i + 1) envs
envs-more envs i d lines l h e f = envs-push lines l ∙ ap (λ es. es ++ l.env ∷ []) e ∙ ap (λ x. take i envs ++ x ∷ []) f ∙ sym (take_more envs i d h)

pub progress-more : (q : Asked) (envs : List Env) (i : ℕ) (d : Env) (old mid new : Written) (t u : Tally) (rose : Type 0) → i < length envs → Progress q envs i old mid t
    → ReportsEnv q (get_or envs i d) t u mid new rose (Ok tt) → Progress q envs (i + 1) old new u
progress-more q envs i d old mid new t u rose h p r =
    let l = r.0 in
    record {
      lines = p.lines ++ l ∷ [];
      in_order = envs-more envs i d p.lines l h p.in_order r.2;
      lines_true = true-push q p.lines l p.lines_true r.1;
      text = line-after p.lines l old mid new p.text r.4;
      counts = counts-more p.lines l t u p.counts r.3;
    }

pub progress-stops : (q : Asked) (envs : List Env) (i : ℕ) (d : Env) (old mid new : Written) (t u : Tally) (step rose : Type 0) → (step → rose) → i < length envs → Progress q envs i old mid t
    → (e : SinkFault) → ReportsEnv q (get_or envs i d) t u mid new step (Err e) → ReportsAll q envs u old new rose (Err e)
progress-stops q envs i d old mid new t u step rose up h p Failed r =
    let l = r.2.0 in (
      up r.0,
      record {
        lines = p.lines;
        next = l;
        kept = r.2.3.0;
        front = record {
          rest = drop (i + 1) envs;
          in_order = ap (λ es. es ++ drop (i + 1) envs) (envs-more envs i d p.lines l h p.in_order r.2.2) ∙ take-append-drop (i + 1) envs;
          lines_true = true-push q p.lines l p.lines_true r.2.1;
        };
        text = r.2.3.1 ∙ ap (λ o. appended o (take r.2.3.0 (line_text l))) p.text;
        spent = r.1 ∙ p.counts.spent;
      },
    )
progress-stops q envs i d old mid new t u step rose up h p NoMemory r = record {
  lines = p.lines;
  front = record {
    rest = drop i envs;
    in_order = ap (λ es. es ++ drop i envs) p.in_order ∙ take-append-drop i envs;
    lines_true = p.lines_true;
  };
  text = r.0 ∙ p.text;
  spent = r.1 ∙ p.counts.spent;
}

-- ---- the whole report

text-of : (lines : List Line) (envs : List Env) → envs_of lines ≡ envs → (envs ≡ [] → ⊥) → line_texts lines ≡ report_texts lines
text-of [] envs e n = absurd (n (sym e))
text-of (l ∷ lines) envs e n = refl

pub reported-whole : (q : Asked) (envs : List Env) (old new : Written) (rose : Type 0) (t : Tally) (code : ℕ) (spent : List (List Step)) → envs ≡ environments q.schema → (envs ≡ [] → ⊥) → ReportsAll q envs t old new rose (Ok tt)
    → code ≡ status_by t.counterexample t.undecided → spent ≡ t.spent.items → Reported q old new rose code spent
reported-whole q envs old new rose t code spent is n p c logs =
    let all : envs_of p.lines ≡ envs = p.in_order ∙ take_all (length envs) envs (omega arith) in
    whole p.lines (record { in_order = all ∙ is; lines_true = p.lines_true }) (c ∙ ap (λ (b : Bool). status_by b t.undecided) p.counts.counterexample ∙ ap (status_by (has_counterexample p.lines)) p.counts.undecided)
    (p.text ∙ ap (all_appended old) (text-of p.lines envs all n)) (logs ∙ p.counts.spent)

pub reported-cut : (q : Asked) (envs : List Env) (old new : Written) (rose : Type 0) (t : Tally) (code : ℕ) (spent : List (List Step)) → envs ≡ environments q.schema → ReportsAll q envs t old new rose (Err Failed) → code ≡ 21
    → spent ≡ t.spent.items → Reported q old new rose code spent
reported-cut q envs old new rose t code spent is r c logs =
    cut r.1.lines r.1.next r.1.kept (subst (λ es. IsFront q es (r.1.lines ++ r.1.next ∷ [])) is r.1.front) r.0 c r.1.text (logs ∙ r.1.spent)

pub reported-stopped : (q : Asked) (envs : List Env) (old new : Written) (rose : Type 0) (t : Tally) (code : ℕ) (spent : List (List Step)) → envs ≡ environments q.schema → ReportsAll q envs t old new rose (Err NoMemory) → code ≡ 30
    → spent ≡ t.spent.items → Reported q old new rose code spent
reported-stopped q envs old new rose t code spent is r c logs = stopped r.lines (subst (λ es. IsFront q es r.lines) is r.front) c r.text (logs ∙ r.spent)

-- where no query is made, nothing is written
pub reported-nothing : (q : Asked) (old : Written) (rose : Type 0) (code : ℕ) (spent : List (List Step)) → code ≡ 30 → spent ≡ [] → Reported q old old rose code spent
reported-nothing q old rose code spent c logs = stopped [] (record { rest = environments q.schema; in_order = refl; lines_true = tt }) c refl logs

-- the first environment comes after no line
pub progress-none : (q : Asked) (envs : List Env) (old : Written) (t : Tally) → IsFresh t → Progress q envs 0 old old t
progress-none q envs old t fresh = record {
  lines = [];
  in_order = refl;
  lines_true = tt;
  text = refl;
  counts = record { counterexample = fresh.counterexample; undecided = fresh.undecided; spent = fresh.spent };
}

-- ---- no environments

no-front : (q : Asked) → environments q.schema ≡ [] → IsFront q (environments q.schema) []
no-front q e = record { rest = []; in_order = sym e; lines_true = tt }

pub reported-none : (q : Asked) (old new : Written) (rose : Type 0) (n code : ℕ) (spent : List (List Step)) → environments q.schema ≡ [] → ReportsNone old new rose n → code ≡ n → spent ≡ [] → Reported q old new rose code spent
reported-none q old new rose n code spent e r is logs = ⊎_elim (λ w. whole [] (record { in_order = sym e; lines_true = tt }) (is ∙ w.0) w.1 logs)
    (λ s. ⊎_elim (λ f. cut_none f.2.0 e f.0 (is ∙ f.1) f.2.1 logs) (λ m. stopped [] (no-front q e) (is ∙ m.0) m.1 logs) s) r

-- ---- some environments

pub reported-some : (q : Asked) (envs : List Env) (old new : Written) (rose : Type 0) (t : Tally) (r : Result Unit SinkFault) (code : ℕ) (spent : List (List Step)) → envs ≡ environments q.schema → (envs ≡ [] → ⊥) → ReportsAll q envs t old new rose r
    → code ≡ status_after t r → spent ≡ t.spent.items → Reported q old new rose code spent
reported-some q envs old new rose t (Ok x) code spent is some h c logs = reported-whole q envs old new rose t code spent is some h c logs
reported-some q envs old new rose t (Err Failed) code spent is some h c logs = reported-cut q envs old new rose t code spent is h c logs
reported-some q envs old new rose t (Err NoMemory) code spent is some h c logs = reported-stopped q envs old new rose t code spent is h c logs
