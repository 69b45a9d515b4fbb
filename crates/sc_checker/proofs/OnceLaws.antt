-- Bytes have one verdict: what has a verdict can be read.
use Rattle.std.proofs.Common.{◌≡◌, ◌+◌, ℕ, List, [], ◌∷◌, ◌++◌, length, Bool, true, false, cond, Option, None, Result, Ok, Err, IsTrue, inl, inr, refl, sym, ap, ◌∙◌, subst}
use Rattle.std.specs.Str.{bytes_eq}
use Rattle.std.proofs.lemmas.Bool.{and_parts}
use Rattle.std.proofs.lemmas.List.{append-nil}
use Rattle.std.proofs.lemmas.Slice.Eq.{bytes_eq-Decides}
use Rattle.sc_clauses.specs.Clauses.{Clause}
use Rattle.sc_clauses.specs.declared.step.Instance.{Instance}
use Rattle.sc_clauses.specs.declared.step.Step.{Step}
use Rattle.sc_footprint.specs.Definitions.{defining}
use Rattle.sc_footprint.specs.Problems.{Posed, atoms}
use Rattle.sc_checker.specs.declared.checking.Reason.{Reason}
use Rattle.sc_checker.specs.declared.checking.Reason.TheVariants.{Malformed}
use Rattle.sc_checker.specs.declared.checking.Verdict.{Verdict}
use Rattle.sc_checker.specs.declared.checking.Verdict.TheVariants.{Refuted, Rejected}
use Rattle.sc_logs.specs.LineSteps.{step_of}
use Rattle.sc_logs.specs.Readings.{AreWritable, IsText, BeginsWith, StopsAt}
use Rattle.sc_logs.specs.Texts.{has_no_newline, steps_text, first_line}
use Rattle.sc_logs.specs.Writable.{is_writable}
use Rattle.sc_logs.proofs.LineStepLaws.{step_reads}
use Rattle.sc_logs.proofs.ReadingLaws.{line_first}
use Rattle.sc_checker.specs.Progress.{Progress, start, failed, taken, is_taken, AfterSteps}
use Rattle.sc_checker.specs.Streams.{Checking, unread, first_words, after_first, AfterReading, is_first, is_later, After, HasVerdict, of_log, of_no_log, of_fault, of_no_line}
use Rattle.sc_checker.specs.Verdicts.{IsAdded, Adds, no_step, first_step, FailsAt, adds_none, not_empty, IsVerdictOn}
use Rattle.sc_checker.proofs.ProgressLaws.{fault_past}
use Rattle.sc_checker.proofs.StreamLaws.{held, between, fault_stays_read, nothing_read, line_read, step_line_built, part_read, Cut, no_end, ends, cut_of}
use Rattle.sc_checker.proofs.StreamVerdicts.{no_step_at, told}
use Rattle.sc_checker.proofs.VerdictLaws.{HasAdded, nothing_added, one_added, fault_told}

module _ (has : Instance → Type 0) (clause_of : Instance → Clause) where
  -- ---- steps that have a verdict leave something

  -- where steps add clauses
  record Adding (g : Progress) (steps : List Step) (cs : List Clause) : Type 0 where
    left : Progress
    after : AfterSteps has clause_of g steps left
    added : HasAdded g left steps cs

  step_leaves : (n : ℕ) (clauses : List Clause) (g : Progress) (s : Step) (r : Result Clause Reason) → g.listed ≡ n → g.clauses ≡ clauses → g.fault ≡ None → IsAdded has clause_of n clauses s r
      → (ss : List Step) (h : Progress) → AfterSteps has clause_of (taken r g) ss h → AfterSteps has clause_of g (s ∷ ss) h
  unfolding AfterSteps
  step_leaves n clauses g s r listed are none adds ss h later =
      let there : IsAdded has clause_of g.listed g.clauses s r
      = subst (λ (m : ℕ). IsAdded has clause_of m g.clauses s r) (sym listed) (subst (λ (ds : List Clause). IsAdded has clause_of n ds s r) (sym are) adds) in
      (taken r g, is_taken none (record { outcome = r; is_so = there; leaves = refl }), later)

  adds_left : (n : ℕ) (clauses : List Clause) (steps : List Step) (cs : List Clause) → Adds has clause_of n clauses steps cs → (g : Progress) → g.listed ≡ n → g.clauses ≡ clauses → g.fault ≡ None → Adding g steps cs
  unfolding AfterSteps
  adds_left n _ _ _ (no_step clauses) g listed are none = record { left = g; after = refl; added = nothing_added g g none refl }
  adds_left n _ _ _ (first_step clauses s ss c cs adds rest) g listed are none =
      let later = adds_left n (clauses ++ c ∷ []) ss cs rest (taken (Ok c) g) listed (ap (λ (ds : List Clause). ds ++ c ∷ []) are) none in
      record { left = later.left; after = step_leaves n clauses g s (Ok c) listed are none adds ss later.left later.after; added = one_added g later.left s ss c cs later.added }

  steps_joined : (g h end : Progress) (ss ts : List Step) → AfterSteps has clause_of g ss h → AfterSteps has clause_of h ts end → AfterSteps has clause_of g (ss ++ ts) end
  unfolding AfterSteps
  steps_joined g h end [] ts a b = subst (λ (x : Progress). AfterSteps has clause_of x ts end) a b
  steps_joined g h end (s ∷ ss) ts a b = (a.0, a.1, steps_joined a.0 h end ss ts a.2 b)

  fails_left : (p : Posed) (steps : List Step) (k : ℕ) (reason : Reason) → FailsAt has clause_of p steps k reason → (h : Progress) × AfterSteps has clause_of (start p) steps h
  fails_left p steps k reason f =
      let a = adds_left (length (atoms p)) (defining p) f.before f.clauses f.before_add (start p) refl refl refl in
      let here = taken (Err reason) a.left in
      let rest = step_leaves (length (atoms p)) (defining p ++ f.clauses) a.left f.step (Err reason) a.added.listed a.added.clauses a.added.no_fault f.fails f.later here (fault_past has clause_of here f.later (a.left.steps + 1, reason) refl) in
      (here, subst (λ (ss : List Step). AfterSteps has clause_of (start p) ss here) (sym f.are_all) (steps_joined (start p) a.left here f.before (f.step ∷ f.later) a.after rest))

  verdict_left : (p : Posed) (steps : List Step) (v : Verdict) → IsVerdictOn has clause_of p steps v → (h : Progress) × AfterSteps has clause_of (start p) steps h
  verdict_left p steps Refuted x = let a = adds_left (length (atoms p)) (defining p) steps (x.before ++ [] ∷ []) x.steps_add (start p) refl refl refl in (a.left, a.after)
  verdict_left p steps (Rejected k reason) (adds_none f) = fails_left p steps k reason f
  verdict_left p steps (Rejected k reason) (not_empty cs adds none number why) = let a = adds_left (length (atoms p)) (defining p) steps cs adds (start p) refl refl refl in (a.left, a.after)

  -- ---- bytes that have a verdict leave something

  lines_built : (g h : Progress) (ss : List Step) (rest : List ℕ) (end : Checking) → AreWritable ss → AfterSteps has clause_of g ss h → After has clause_of (between h) rest end → After has clause_of (between g) (steps_text ss ++ rest) end
  unfolding AfterSteps
  lines_built g h [] rest end w a b = subst (λ (x : Progress). After has clause_of (between x) rest end) a b
  lines_built g h (s ∷ ss) rest end w a b =
      let parts = and_parts (is_writable s) _ w in
      subst (λ (bs : List ℕ). After has clause_of (between g) bs end) (sym (line_first s ss rest))
      (step_line_built has clause_of g a.0 s (steps_text ss ++ rest) end parts.0 a.1 (lines_built a.0 h ss rest end parts.1 a.2 b))

  first_built : (p : Posed) (line rest : List ℕ) (end : Checking) → has_no_newline line ≡ true → After has clause_of (after_first line (start p)) rest end → After has clause_of (unread p) (line ++ 10 ∷ rest) end
  first_built p line rest end free a = line_read has clause_of false (start p) line rest (after_first line (start p)) end refl free (is_first refl refl) a

  log_built : (p : Posed) (bytes rest : List ℕ) (end : Checking) → bytes ≡ first_line ++ rest → After has clause_of (between (start p)) rest end → After has clause_of (unread p) bytes end
  log_built p bytes rest end is a = subst (λ (bs : List ℕ). After has clause_of (unread p) bs end) (sym is) (first_built p first_words rest end refl a)

  steps_text_read : (p : Posed) (bytes : List ℕ) (steps : List Step) (h : Progress) → AreWritable steps → IsText bytes steps → AfterSteps has clause_of (start p) steps h → (end : Checking) × After has clause_of (unread p) bytes end
  steps_text_read p bytes steps h w (inl is) a =
      let all = lines_built (start p) h steps [] (between h) w a (nothing_read has clause_of (between h) [] refl) in
      (between h, log_built p bytes (steps_text steps) (between h) is (subst (λ (bs : List ℕ). After has clause_of (between (start p)) bs (between h)) (append-nil (steps_text steps)) all))
  steps_text_read p bytes steps h w (inr is) a = (unread p, nothing_read has clause_of (unread p) bytes is.0)

  -- a first line that isn't that of a log
  no_log_read : (p : Posed) (bytes : List ℕ) → ((rest : List ℕ) → ¬ (bytes ≡ first_line ++ rest)) → Cut bytes → (end : Checking) × After has clause_of (unread p) bytes end
  no_log_read p bytes none (no_end free) = (_, part_read has clause_of (unread p) bytes refl free)
  no_log_read p bytes none (ends line rest is free) = by (bytes_eq line first_words) refl
    where
      by : (t : Bool) → bytes_eq line first_words ≡ t → (end : Checking) × After has clause_of (unread p) bytes end
      by true e = absurd (none rest (is ∙ ap (λ (l : List ℕ). l ++ 10 ∷ rest) ((bytes_eq-Decides line first_words).0 e)))
      by false e =
          let fault : Checking = held false [] (failed 0 Malformed (start p)) in
          let first : after_first line (start p) ≡ fault = ap (λ (t : Bool). cond t (between (start p)) fault) e in (
            fault,
            subst (λ (bs : List ℕ). After has clause_of (unread p) bs fault) (sym is)
                (first_built p line rest fault free (subst (λ (c : Checking). After has clause_of c rest fault) (sym first) (fault_stays_read has clause_of fault rest (0, Malformed) refl))),
          )

  -- a line that is none of a step
  stop_read : (g : Progress) (bytes : List ℕ) → g.fault ≡ None → ((s : Step) → IsTrue (is_writable s) → ¬ BeginsWith bytes s) → Cut bytes → (end : Checking) × After has clause_of (between g) bytes end
  stop_read g bytes e none (no_end free) = (_, part_read has clause_of (between g) bytes e free)
  stop_read g bytes e none (ends line rest is free) =
      let fault : Progress = failed (g.steps + 1) Malformed g in
      let no_step : step_of line ≡ None = no_step_at line rest bytes (step_of line) is none (step_reads line) in
      let reading : AfterReading has clause_of g (step_of line) fault = subst (λ (o : Option Step). AfterReading has clause_of g o fault) (sym no_step) refl in (
        between fault,
        subst (λ (bs : List ℕ). After has clause_of (between g) bs (between fault)) (sym is)
            (line_read has clause_of true g line rest (between fault) (between fault) e free (is_later refl fault reading refl) (fault_stays_read has clause_of (between fault) rest (g.steps + 1, Malformed) refl)),
      )

  stopped_read : (p : Posed) (bytes rest : List ℕ) (number : ℕ) (h : Progress) → bytes ≡ first_line ++ rest → (stop : StopsAt rest number) → AfterSteps has clause_of (start p) stop.before h
      → ((end : Checking) × After has clause_of (between h) stop.rest end) → (end : Checking) × After has clause_of (unread p) bytes end
  stopped_read p bytes rest number h is stop a b =
      let lines = lines_built (start p) h stop.before stop.rest b.0 stop.writable a b.1 in
      (b.0, log_built p bytes rest b.0 is (subst (λ (bs : List ℕ). After has clause_of (between (start p)) bs b.0) (sym stop.text) lines))

  verdict_read : (p : Posed) (bytes : List ℕ) (v : Verdict) → HasVerdict has clause_of p bytes v → (end : Checking) × After has clause_of (unread p) bytes end
  verdict_read p bytes v (of_log steps w text is) = let h = verdict_left p steps v is in steps_text_read p bytes steps h.0 w text h.1
  verdict_read p bytes v (of_no_log more none is) = no_log_read p bytes none (cut_of bytes)
  verdict_read p bytes v (of_fault rest number k reason first stop fails is) =
      let h = fails_left p stop.before k reason fails in
      stopped_read p bytes rest number h.0 first stop h.1 (between h.0, fault_stays_read has clause_of (between h.0) stop.rest (k, reason) (fault_told has clause_of p stop.before k reason h.0 fails h.1))
  verdict_read p bytes v (of_no_line rest number clauses first stop adds is) =
      let a = adds_left (length (atoms p)) (defining p) stop.before clauses adds (start p) refl refl refl in
      stopped_read p bytes rest number a.left first stop a.after (stop_read a.left stop.rest a.added.no_fault stop.no_step (cut_of stop.rest))

  -- bytes have one verdict
  pub verdict_once : (p : Posed) (bytes : List ℕ) (u v : Verdict) → HasVerdict has clause_of p bytes u → HasVerdict has clause_of p bytes v → u ≡ v
  verdict_once p bytes u v x y =
      let read = verdict_read p bytes u x in
      sym (told has clause_of p bytes read.0 u read.1 x) ∙ told has clause_of p bytes read.0 v read.1 y
