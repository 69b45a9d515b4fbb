-- The verdict on bytes that come in pieces.
use Rattle.std.proofs.Common.{◌≡◌, ◌≢◌, ◌↔◌, ◌+◌, ◌≤◌, ℕ, zero, suc, List, [], ◌∷◌, ◌++◌, length, Bool, true, false, cond, Option, Some, None, IsTrue, inl, inr, refl, sym, ap, ◌∙◌, subst, arith}
use Rattle.std.specs.Str.{bytes_eq}
use Rattle.std.proofs.lemmas.Bool.{and_from, both_ways}
use Rattle.std.proofs.lemmas.List.{append-nil, length-append}
use Rattle.std.proofs.lemmas.Slice.Eq.{bytes_eq-Decides}
use Rattle.sc_clauses.specs.Clauses.{Clause}
use Rattle.sc_clauses.specs.declared.step.Instance.{Instance}
use Rattle.sc_clauses.specs.declared.step.Step.{Step}
use Rattle.sc_footprint.specs.Definitions.{defining}
use Rattle.sc_footprint.specs.Problems.{Posed, atoms}
use Rattle.sc_checker.specs.declared.checking.Reason.{Reason}
use Rattle.sc_checker.specs.declared.checking.Reason.TheVariants.{Malformed}
use Rattle.sc_checker.specs.declared.checking.Verdict.{Verdict}
use Rattle.sc_checker.specs.declared.checking.Verdict.TheVariants.{Refuted, Rejected}
use Rattle.sc_logs.specs.LineSteps.{step_of}
use Rattle.sc_checker.specs.Progress.{Progress, start, failed, AfterSteps, unless_at_fault, verdict_at, verdict_of}
use Rattle.sc_logs.specs.Readings.{Reads, AreWritable, IsText, BeginsWith, StopsAt}
use Rattle.sc_checker.specs.Streams.{Checking, unread, first_words, AfterReading, After, line_number, ended, HasVerdict, of_log, of_no_log, of_fault, of_no_line, IsAcceptedText}
use Rattle.sc_logs.specs.Texts.{has_no_newline, step_line, steps_text, first_line}
use Rattle.sc_checker.specs.Verdicts.{IsVerdictOn}
use Rattle.sc_logs.specs.Writable.{is_writable}
use Rattle.sc_logs.proofs.LineStepLaws.{step_reads}
use Rattle.sc_logs.proofs.ReadingLaws.{line_first, line_only, next_none, newline_cut}
use Rattle.sc_checker.proofs.StreamLaws.{held, between, nothing_is, after_fault, part_is, after_whole, later_line, steps_read, first_line_read, log_begun, Cut, no_end, ends, cut_of, has_newline}
use Rattle.sc_checker.proofs.VerdictLaws.{adds_leave, Went, went_all, went_until, went, fault_told, told_verdict, verdict_is}

-- ---- where bytes end

between_at : (g : Progress) (o : Option (ℕ × Reason)) → unless_at_fault o (verdict_of g) (verdict_of g) ≡ verdict_of g
between_at g None = refl
between_at g (Some f) = refl

ended_between : (g : Progress) → ended (between g) ≡ verdict_of g
ended_between g = between_at g g.fault

unended : (begun : Bool) (g : Progress) (line : List ℕ) → line ≢ [] → g.fault ≡ None → ended (held begun line g) ≡ Rejected (line_number begun g) Malformed
unended begun g [] h e = absurd (h refl)
unended begun g (b ∷ bs) h e = ap (λ (o : Option (ℕ × Reason)). unless_at_fault o (verdict_of g) (Rejected (line_number begun g) Malformed)) e

pub no_step_at : (line rest bytes : List ℕ) (o : Option Step) → bytes ≡ line ++ 10 ∷ rest → ((s : Step) → IsTrue (is_writable s) → ¬ BeginsWith bytes s) → Reads is_writable step_line line o → o ≡ None
no_step_at line rest bytes None is none read = refl
no_step_at line rest bytes (Some s) is none read = absurd (none s read.0 (rest, is ∙ ap (λ (l : List ℕ). l ++ 10 ∷ rest) (sym read.1)))

-- ---- lines

-- lines of steps, or lines that stop somewhere
data Lines (bytes : List ℕ) : Type 0 where
  all_steps : (steps : List Step) → AreWritable steps → bytes ≡ steps_text steps → Lines bytes
  stops : (number : ℕ) → StopsAt bytes number → Lines bytes

stop_first : (bytes : List ℕ) → bytes ≢ [] → ((s : Step) → IsTrue (is_writable s) → ¬ BeginsWith bytes s) → Lines bytes
stop_first bytes more none = stops 1 (record { before = []; rest = bytes; writable = refl; text = refl; more = more; no_step = none; number_is = refl })

lines_more : (bytes line rest : List ℕ) (s : Step) → bytes ≡ line ++ 10 ∷ rest → is_writable s ≡ true → step_line s ≡ line → Lines rest → Lines bytes
lines_more bytes line rest s is w text (all_steps ss fit all) =
    all_steps (s ∷ ss) (and_from (is_writable s) _ w fit)
    (is ∙ (ap (λ (l : List ℕ). l ++ 10 ∷ rest) (sym text) ∙ (ap (λ (bs : List ℕ). step_line s ++ 10 ∷ bs) all ∙ sym (line_only s ss))))
lines_more bytes line rest s is w text (stops number at) =
    stops (number + 1) (record {
      before = s ∷ at.before;
      rest = at.rest;
      writable = and_from (is_writable s) _ w at.writable;
      text = is ∙ (ap (λ (l : List ℕ). l ++ 10 ∷ rest) (sym text) ∙ (ap (λ (bs : List ℕ). step_line s ++ 10 ∷ bs) at.text ∙ sym (line_first s at.before at.rest)));
      more = at.more;
      no_step = at.no_step;
      number_is = let count = at.number_is in omega (arith, count);
    })

lines_read : (bytes line rest : List ℕ) (o : Option Step) → bytes ≡ line ++ 10 ∷ rest → has_no_newline line ≡ true → bytes ≢ [] → Reads is_writable step_line line o → Lines rest → Lines bytes
lines_read bytes line rest (Some s) is free more read later = lines_more bytes line rest s is read.0 read.1 later
lines_read bytes line rest None is free more none later = stop_first bytes more (next_none bytes line rest is free none)

not_nil : (line rest : List ℕ) (b : ℕ) (bytes : List ℕ) → bytes ≡ line ++ b ∷ rest → bytes ≢ []
not_nil [] rest b bytes is e = absurd cc
not_nil (c ∷ line) rest b bytes is e = absurd cc

shorter : (line rest bytes : List ℕ) (b : ℕ) → bytes ≡ line ++ b ∷ rest → length rest + 1 ≤ length bytes
shorter line rest bytes b is = let long = length-append line (b ∷ rest) in let same = ap length is in omega (arith, long, same)

lines_at : (most b : ℕ) (bs : List ℕ) → length (b ∷ bs) ≤ suc most → ((rest : List ℕ) → length rest ≤ most → Lines rest) → Cut (b ∷ bs) → Lines (b ∷ bs)
lines_at most b bs h later (no_end free) = stop_first (b ∷ bs) (λ e. absurd cc) (λ s w begins. has_newline (step_line s) begins.0 (sym (ap has_no_newline begins.1) ∙ free))
lines_at most b bs h later (ends line rest is free) =
    let less = shorter line rest (b ∷ bs) 10 is in
    lines_read (b ∷ bs) line rest (step_of line) is free (λ e. absurd cc) (step_reads line) (later rest (omega (arith, less)))

-- the lines of bytes of at most so many
lines_by : (most : ℕ) (bytes : List ℕ) → length bytes ≤ most → Lines bytes
lines_by most [] h = all_steps [] refl refl
lines_by zero (b ∷ bs) h = absurd (omega arith)
lines_by (suc most) (b ∷ bs) h = lines_at most b bs h (λ rest less. lines_by most rest less) (cut_of (b ∷ bs))

lines_of : (bytes : List ℕ) → Lines bytes
lines_of bytes = lines_by (length bytes) bytes (omega arith)

-- ---- what is held tells the verdict

other_line : (line rest : List ℕ) (bytes : List ℕ) → bytes ≡ line ++ 10 ∷ rest → has_no_newline line ≡ true → bytes_eq line first_words ≡ false → (later : List ℕ) → ¬ (bytes ≡ first_line ++ later)
other_line line rest bytes is free other later same =
    both_ways (bytes_eq line first_words) other ((bytes_eq-Decides line first_words).1 (newline_cut line first_words rest later free refl (sym is ∙ same)).0)

module _ (has : Instance → Type 0) (clause_of : Instance → Clause) where
  -- a line that is none of a log
  stopped_by : (g : Progress) (bytes : List ℕ) (end : Checking) → g.fault ≡ None → bytes ≢ [] → ((s : Step) → IsTrue (is_writable s) → ¬ BeginsWith bytes s) → Cut bytes → After has clause_of (between g) bytes end
      → ended end ≡ Rejected (g.steps + 1) Malformed
  stopped_by g bytes end e more none (no_end free) a = ap ended (part_is has clause_of (between g) end bytes e free a) ∙ unended true g bytes more e
  stopped_by g bytes end e more none (ends line rest is free) a =
      let read = after_whole has clause_of true g line rest end e free (subst (λ (bs : List ℕ). After has clause_of (between g) bs end) is a) in
      let later = later_line has clause_of g line read.0 read.1 in
      let no_step : step_of line ≡ None = no_step_at line rest bytes (step_of line) is none (step_reads line) in
      let fault : Progress = failed (g.steps + 1) Malformed g in
      let failed_there : later.0 ≡ fault = subst (λ (o : Option Step). AfterReading has clause_of g o later.0) no_step later.1 in
      let here : read.0 ≡ between fault = later.2 ∙ ap between failed_there in
      ap ended (after_fault has clause_of (between fault) end rest (g.steps + 1, Malformed) refl (subst (λ (x : Checking). After has clause_of x rest end) here read.2))

  -- a step that was at fault
  stopped_at : (g : Progress) (bytes : List ℕ) (end : Checking) (f : ℕ × Reason) → g.fault ≡ Some f → After has clause_of (between g) bytes end → ended end ≡ Rejected f.0 f.1
  stopped_at g bytes end f e a =
      ap ended (after_fault has clause_of (between g) end bytes f e a)
      ∙ ap (λ (o : Option (ℕ × Reason)). unless_at_fault o (verdict_at o g.steps g.is_empty) (verdict_at o g.steps g.is_empty)) e

  module _ (p : Posed) where
    on_log : (bytes : List ℕ) (steps : List Step) (end : Checking) → AreWritable steps → IsText bytes steps → After has clause_of (unread p) bytes end
        → (h : Progress) × AfterSteps has clause_of (start p) steps h × (ended end ≡ verdict_of h)
    unfolding AfterSteps
    on_log bytes steps end w (inl is) a =
        let begun = log_begun has clause_of p (steps_text steps) end (subst (λ (bs : List ℕ). After has clause_of (unread p) bs end) is a) in
        let read = steps_read has clause_of (start p) steps [] end w (subst (λ (bs : List ℕ). After has clause_of (between (start p)) bs end) (sym (append-nil (steps_text steps))) begun) in
        (read.0, read.1, ap ended (nothing_is has clause_of (between read.0) end read.2) ∙ ended_between read.0)
    on_log bytes steps end w (inr is) a =
        let here : end ≡ unread p = nothing_is has clause_of (unread p) end (subst (λ (bs : List ℕ). After has clause_of (unread p) bs end) is.0 a) in
        (start p, subst (λ (ss : List Step). AfterSteps has clause_of (start p) ss (start p)) (sym is.1) refl, ap ended here)

    on_no_log : (bytes : List ℕ) (end : Checking) → bytes ≢ [] → ((rest : List ℕ) → ¬ (bytes ≡ first_line ++ rest)) → Cut bytes → After has clause_of (unread p) bytes end → ended end ≡ Rejected 0 Malformed
    on_no_log bytes end more none (no_end free) a = ap ended (part_is has clause_of (unread p) end bytes refl free a) ∙ unended false (start p) bytes more refl
    on_no_log bytes end more none (ends line rest is free) a =
        let read = first_line_read has clause_of (start p) line rest end refl free (subst (λ (bs : List ℕ). After has clause_of (unread p) bs end) is a) in
        by (bytes_eq line first_words) refl read
      where
        by : (t : Bool) → bytes_eq line first_words ≡ t → After has clause_of (cond t (between (start p)) (held false [] (failed 0 Malformed (start p)))) rest end → ended end ≡ Rejected 0 Malformed
        by true e b = absurd (none rest (is ∙ ap (λ (l : List ℕ). l ++ 10 ∷ rest) ((bytes_eq-Decides line first_words).0 e)))
        by false e b = ap ended (after_fault has clause_of (held false [] (failed 0 Malformed (start p))) end rest (0, Malformed) refl b)

    on_lines : (bytes rest : List ℕ) (number : ℕ) (end : Checking) → bytes ≡ first_line ++ rest → (stop : StopsAt rest number) → After has clause_of (unread p) bytes end
        → (h : Progress) × AfterSteps has clause_of (start p) stop.before h × After has clause_of (between h) stop.rest end
    on_lines bytes rest number end is stop a =
        let begun = log_begun has clause_of p rest end (subst (λ (bs : List ℕ). After has clause_of (unread p) bs end) is a) in
        steps_read has clause_of (start p) stop.before stop.rest end stop.writable (subst (λ (bs : List ℕ). After has clause_of (between (start p)) bs end) stop.text begun)

    -- lines of steps that each add a clause, and then none of a step
    stopped_after : (rest : List ℕ) (number : ℕ) (end : Checking) (h : Progress) (stop : StopsAt rest number) → h.fault ≡ None → h.steps ≡ 0 + length stop.before → After has clause_of (between h) stop.rest end
        → ended end ≡ Rejected number Malformed
    stopped_after rest number end h stop none count a =
        let numbered = stop.number_is in
        let same : h.steps + 1 ≡ number = omega (arith, count, numbered) in
        stopped_by h stop.rest end none stop.more stop.no_step (cut_of stop.rest) a ∙ ap (λ (k : ℕ). Rejected k Malformed) same

    -- ---- where bytes have a verdict, it is told

    pub told : (bytes : List ℕ) (end : Checking) (v : Verdict) → After has clause_of (unread p) bytes end → HasVerdict has clause_of p bytes v → ended end ≡ v
    told bytes end v a (of_log steps w text is) = let x = on_log bytes steps end w text a in x.2 ∙ told_verdict has clause_of p steps x.0 v x.1 is
    told bytes end v a (of_no_log more none is) = on_no_log bytes end more none (cut_of bytes) a ∙ sym is
    told bytes end v a (of_fault rest number k reason first stop fails is) =
        let x = on_lines bytes rest number end first stop a in
        stopped_at x.0 stop.rest end (k, reason) (fault_told has clause_of p stop.before k reason x.0 fails x.1) x.2 ∙ sym is
    told bytes end v a (of_no_line rest number clauses first stop adds is) =
        let x = on_lines bytes rest number end first stop a in
        let y = adds_leave has clause_of (length (atoms p)) (defining p) stop.before clauses adds (start p) x.0 refl refl refl x.1 in
        stopped_after rest number end x.0 stop y.no_fault y.count x.2 ∙ sym is

    -- ---- bytes have the verdict that is told

    log_verdict : (bytes : List ℕ) (steps : List Step) (end : Checking) → AreWritable steps → IsText bytes steps → After has clause_of (unread p) bytes end → HasVerdict has clause_of p bytes (ended end)
    log_verdict bytes steps end w text a =
        let x = on_log bytes steps end w text a in
        of_log steps w text (subst (IsVerdictOn has clause_of p steps) (sym x.2) (verdict_is has clause_of p steps x.0 x.1))

    stop_verdict : (bytes rest : List ℕ) (number : ℕ) (end : Checking) (h : Progress) → bytes ≡ first_line ++ rest → (stop : StopsAt rest number) → After has clause_of (between h) stop.rest end
        → Went has clause_of (start p) h stop.before → HasVerdict has clause_of p bytes (ended end)
    stop_verdict bytes rest number end h is stop a (went_all cs adds x) = of_no_line rest number cs is stop adds (stopped_after rest number end h stop x.no_fault x.count a)
    stop_verdict bytes rest number end h is stop a (went_until before later s cs reason whole adds fails fault) =
        of_fault rest number (0 + length before + 1) reason is stop
        (record { before = before; step = s; later = later; clauses = cs; are_all = whole; before_add = adds; fails = fails; number_is = omega arith })
        (stopped_at h stop.rest end (0 + length before + 1, reason) fault a)

    lines_verdict : (bytes rest : List ℕ) (end : Checking) → bytes ≡ first_line ++ rest → Lines rest → After has clause_of (unread p) bytes end → HasVerdict has clause_of p bytes (ended end)
    lines_verdict bytes rest end is (all_steps steps w text) a = log_verdict bytes steps end w (inl (is ∙ ap (λ (bs : List ℕ). first_line ++ bs) text)) a
    lines_verdict bytes rest end is (stops number stop) a =
        let x = on_lines bytes rest number end is stop a in
        stop_verdict bytes rest number end x.0 is stop x.2 (went has clause_of (start p) x.0 stop.before refl x.1)

    first_verdict : (bytes line rest : List ℕ) (end : Checking) (t : Bool) → bytes_eq line first_words ≡ t → bytes ≡ line ++ 10 ∷ rest → has_no_newline line ≡ true → After has clause_of (unread p) bytes end
        → HasVerdict has clause_of p bytes (ended end)
    first_verdict bytes line rest end true e is free a =
        lines_verdict bytes rest end (is ∙ ap (λ (l : List ℕ). l ++ 10 ∷ rest) ((bytes_eq-Decides line first_words).0 e)) (lines_of rest) a
    first_verdict bytes line rest end false e is free a =
        let more = not_nil line rest 10 bytes is in
        let none = other_line line rest bytes is free e in
        of_no_log more none (on_no_log bytes end more none (cut_of bytes) a)

    some_verdict : (bytes : List ℕ) (end : Checking) → After has clause_of (unread p) bytes end → HasVerdict has clause_of p bytes (ended end)
    some_verdict [] end a = log_verdict [] [] end refl (inr (refl, refl)) a
    some_verdict (b ∷ bs) end a = by (cut_of (b ∷ bs))
      where
        by : Cut (b ∷ bs) → HasVerdict has clause_of p (b ∷ bs) (ended end)
        by (no_end free) =
            let none : (rest : List ℕ) → ¬ (b ∷ bs ≡ first_line ++ rest) = λ rest same. has_newline first_words rest (sym (ap has_no_newline same) ∙ free) in
            of_no_log (λ e. absurd cc) none (on_no_log (b ∷ bs) end (λ e. absurd cc) none (no_end free) a)
        by (ends line rest is free) = first_verdict (b ∷ bs) line rest end (bytes_eq line first_words) refl is free a

    -- ---- laws

    pub agrees : (bytes : List ℕ) (end : Checking) (v : Verdict) → After has clause_of (unread p) bytes end → (ended end ≡ v) ↔ HasVerdict has clause_of p bytes v
    agrees bytes end v a = ((λ e. subst (λ (x : Verdict). HasVerdict has clause_of p bytes x) e (some_verdict bytes end a)), (λ h. told bytes end v a h))

    refuted_text : (bytes : List ℕ) → HasVerdict has clause_of p bytes Refuted → IsAcceptedText has clause_of p bytes
    refuted_text bytes (of_log steps w text is) = record { steps = steps; writable = w; text = text; accepted = is }
    refuted_text bytes (of_no_log more none is) = absurd cc
    refuted_text bytes (of_fault rest number k reason first stop fails is) = absurd cc
    refuted_text bytes (of_no_line rest number clauses first stop adds is) = absurd cc

    pub accepted_text : (bytes : List ℕ) (end : Checking) → After has clause_of (unread p) bytes end → (ended end ≡ Refuted) ↔ IsAcceptedText has clause_of p bytes
    accepted_text bytes end a = (
      (λ e. refuted_text bytes ((agrees bytes end Refuted a).0 e)),
      (λ x. (agrees bytes end Refuted a).1 (of_log x.steps x.writable x.text x.accepted)),
    )
