-- What a checker holds after the steps of a log tells the verdict on it.
use Rattle.std.proofs.Common.{◌≡◌, ◌≢◌, ◌+◌, ◌↔◌, ℕ, List, [], ◌∷◌, ◌++◌, length, Bool, true, false, Option, Some, None, Result, Ok, Err, refl, sym, ap, ◌∙◌, subst, arith}
use Rattle.std.proofs.lemmas.Bool.{true≢false}
use Rattle.std.proofs.lemmas.List.{append-nil, append_assoc}
use Rattle.sc_clauses.specs.Clauses.{Clause}
use Rattle.sc_clauses.specs.declared.step.Instance.{Instance}
use Rattle.sc_clauses.specs.declared.step.Step.{Step}
use Rattle.sc_clauses.specs.declared.step.Step.TheVariants.{Instance as Taken, Learned}
use Rattle.sc_checker.specs.declared.checking.Reason.{Reason}
use Rattle.sc_checker.specs.declared.checking.Reason.TheVariants.{NotEmpty}
use Rattle.sc_checker.specs.declared.checking.Verdict.{Verdict}
use Rattle.sc_checker.specs.declared.checking.Verdict.TheVariants.{Refuted, Rejected}
use Rattle.sc_refutations.specs.Refutations.{is_nil}
use Rattle.sc_footprint.specs.Problems.{Posed, atoms}
use Rattle.sc_footprint.specs.Definitions.{defining}
use Rattle.sc_checker.specs.Progress.{Progress, start, taken, AfterSteps, verdict_at, verdict_of}
use Rattle.sc_checker.specs.Verdicts.{IsAdded, Adds, no_step, first_step, FailsAt, adds_none, not_empty, IsVerdictOn}
use Rattle.sc_checker.proofs.ProgressLaws.{added_once, step_taken, steps_split, steps_stay, nil_is}

-- ---- the last clause

-- whether the last clause is empty; where there is none, whether the one before was
abbrev last_is_empty : Bool → List Clause → Bool
last_is_empty was [] = was
last_is_empty was (c ∷ cs) = last_is_empty (is_nil c) cs

ends_empty : (was : Bool) (before : List Clause) → last_is_empty was (before ++ [] ∷ []) ≡ true
ends_empty was [] = refl
ends_empty was (c ∷ before) = ends_empty (is_nil c) before

ends_open : (clauses : List Clause) → last_is_empty false clauses ≡ false → (before : List Clause) → clauses ≢ before ++ [] ∷ []
ends_open clauses e before is = true≢false (sym (ends_empty false before) ∙ (ap (last_is_empty false) (sym is) ∙ e))

-- the clauses before a last one that is empty
before_last : (c : Clause) (cs : List Clause) → last_is_empty (is_nil c) cs ≡ true → (before : List Clause) × (c ∷ cs ≡ before ++ [] ∷ [])
before_last c [] e = ([], ap (λ (d : Clause). d ∷ []) (nil_is c e))
before_last c (d ∷ cs) e = let (before, is) = before_last d cs e in (c ∷ before, ap (λ (ds : List Clause). c ∷ ds) is)

open_by : (clauses : List Clause) (b : Bool) → last_is_empty false clauses ≡ b → ((before : List Clause) → clauses ≢ before ++ [] ∷ []) → b ≡ false
open_by clauses false e none = refl
open_by [] true e none = absurd (true≢false (sym e))
open_by (c ∷ cs) true e none = let (before, is) = before_last c cs e in absurd (none before is)

open_ends : (clauses : List Clause) → ((before : List Clause) → clauses ≢ before ++ [] ∷ []) → last_is_empty false clauses ≡ false
open_ends clauses none = open_by clauses (last_is_empty false clauses) refl none

-- ---- steps that each add a clause

-- what is held after steps that add these clauses
pub record HasAdded (g h : Progress) (steps : List Step) (cs : List Clause) : Type 0 where
  pub no_fault : h.fault ≡ None
  pub count : h.steps ≡ g.steps + length steps
  pub last : h.is_empty ≡ last_is_empty g.is_empty cs
  pub clauses : h.clauses ≡ g.clauses ++ cs
  pub listed : h.listed ≡ g.listed

pub nothing_added : (g h : Progress) → g.fault ≡ None → h ≡ g → HasAdded g h [] []
nothing_added g h none same =
    subst (λ (x : Progress). HasAdded g x [] []) (sym same) (record { no_fault = none; count = omega arith; last = refl; clauses = sym (append-nil g.clauses); listed = refl })

pub one_added : (g h : Progress) (s : Step) (ss : List Step) (c : Clause) (cs : List Clause) → HasAdded (taken (Ok c) g) h ss cs → HasAdded g h (s ∷ ss) (c ∷ cs)
one_added g h s ss c cs a =
    let count = a.count in
    record { no_fault = a.no_fault; count = omega (arith, count); last = a.last; clauses = a.clauses ∙ append_assoc g.clauses (c ∷ []) cs; listed = a.listed }

abbrev fault_at : ℕ → Reason → Option (ℕ × Reason)
fault_at k reason = Some (k, reason)

-- the number of the step at fault
fault_after : (first here size : ℕ) (reason : Reason) → here ≡ first + size → fault_at (here + 1) reason ≡ fault_at (first + size + 1) reason
fault_after first here size reason e = ap (λ (k : ℕ). fault_at (k + 1) reason) e

-- each step adds a clause, or some step is the first that adds none
pub data Went (has : Instance → Type 0) (clause_of : Instance → Clause) (g h : Progress) (steps : List Step) : Type 0 where
  went_all : (cs : List Clause) → Adds has clause_of g.listed g.clauses steps cs → HasAdded g h steps cs → Went has clause_of g h steps
  went_until : (before later : List Step) (s : Step) (cs : List Clause) (reason : Reason) → steps ≡ before ++ s ∷ later → Adds has clause_of g.listed g.clauses before cs
      → IsAdded has clause_of g.listed (g.clauses ++ cs) s (Err reason) → h.fault ≡ Some (g.steps + length before + 1, reason) → Went has clause_of g h steps

module _ (has : Instance → Type 0) (clause_of : Instance → Clause) where
  -- where the clauses are these, the step leaves just this
  taken_as : (n : ℕ) (clauses : List Clause) (g h : Progress) (s : Step) (ss : List Step) (r : Result Clause Reason) → g.listed ≡ n → g.clauses ≡ clauses → g.fault ≡ None → IsAdded has clause_of n clauses s r
      → AfterSteps has clause_of g (s ∷ ss) h → AfterSteps has clause_of (taken r g) ss h
  unfolding AfterSteps
  taken_as n clauses g h s ss r listed are none adds a =
      let t = step_taken has clause_of g a.0 s none a.1 in
      let there : IsAdded has clause_of n clauses s t.outcome
      = subst (λ (ds : List Clause). IsAdded has clause_of n ds s t.outcome) are (subst (λ (m : ℕ). IsAdded has clause_of m g.clauses s t.outcome) listed t.is_so) in
      let same : t.outcome ≡ r = added_once has clause_of n clauses s t.outcome r there adds in
      subst (λ (x : Progress). AfterSteps has clause_of x ss h) (t.leaves ∙ ap (λ (x : Result Clause Reason). taken x g) same) a.2

  pub adds_leave : (n : ℕ) (clauses : List Clause) (steps : List Step) (cs : List Clause) → Adds has clause_of n clauses steps cs → (g h : Progress) → g.listed ≡ n → g.clauses ≡ clauses → g.fault ≡ None
      → AfterSteps has clause_of g steps h → HasAdded g h steps cs
  unfolding AfterSteps
  adds_leave n _ _ _ (no_step clauses) g h listed are none a = nothing_added g h none a
  adds_leave n _ _ _ (first_step clauses s ss c cs adds rest) g h listed are none a =
      one_added g h s ss c cs
      (adds_leave n (clauses ++ c ∷ []) ss cs rest (taken (Ok c) g) h listed (ap (λ (ds : List Clause). ds ++ c ∷ []) are) none (taken_as n clauses g h s ss (Ok c) listed are none adds a))

  pub fails_leave : (n : ℕ) (clauses : List Clause) (before later : List Step) (s : Step) (cs : List Clause) (reason : Reason) (g h : Progress) → Adds has clause_of n clauses before cs → IsAdded has clause_of n (clauses ++ cs) s (Err reason)
      → g.listed ≡ n → g.clauses ≡ clauses → g.fault ≡ None → AfterSteps has clause_of g (before ++ s ∷ later) h → h.fault ≡ Some (g.steps + length before + 1, reason)
  fails_leave n clauses before later s cs reason g h adds fails listed are none a =
      let k = steps_split has clause_of g h before (s ∷ later) a in
      let x = adds_leave n clauses before cs adds g k.0 listed are none k.1 in
      let there = taken_as n (clauses ++ cs) k.0 h s later (Err reason) (x.listed ∙ listed) (x.clauses ∙ ap (λ (ds : List Clause). ds ++ cs) are) x.no_fault fails k.2 in
      let stays = steps_stay has clause_of (taken (Err reason) k.0) h later (k.0.steps + 1, reason) refl there in
      ap (λ (y : Progress). y.fault) stays ∙ fault_after g.steps k.0.steps (length before) reason x.count

  -- ---- how far steps went

  went_on : (g h : Progress) (s : Step) (ss : List Step) (c : Clause) → IsAdded has clause_of g.listed g.clauses s (Ok c) → Went has clause_of (taken (Ok c) g) h ss → Went has clause_of g h (s ∷ ss)
  went_on g h s ss c adds (went_all cs rest x) = went_all (c ∷ cs) (first_step g.clauses s ss c cs adds rest) (one_added g h s ss c cs x)
  went_on g h s ss c adds (went_until before later t cs reason whole rest fails fault) =
      let count : g.steps + 1 + length before + 1 ≡ g.steps + length (s ∷ before) + 1 = omega arith in
      went_until (s ∷ before) later t (c ∷ cs) reason (ap (λ (xs : List Step). s ∷ xs) whole) (first_step g.clauses s before c cs adds rest)
      (subst (λ (ds : List Clause). IsAdded has clause_of g.listed ds t (Err reason)) (append_assoc g.clauses (c ∷ []) cs) fails) (fault ∙ ap (λ (k : ℕ). fault_at k reason) count)

  went_by : (g h : Progress) (s : Step) (ss : List Step) (r : Result Clause Reason) → g.fault ≡ None → IsAdded has clause_of g.listed g.clauses s r → AfterSteps has clause_of (taken r g) ss h
      → ((k : Progress) → k.fault ≡ None → AfterSteps has clause_of k ss h → Went has clause_of k h ss) → Went has clause_of g h (s ∷ ss)
  went_by g h s ss (Ok c) none adds a later = went_on g h s ss c adds (later (taken (Ok c) g) none a)
  went_by g h s ss (Err reason) none adds a later =
      let stays = steps_stay has clause_of (taken (Err reason) g) h ss (g.steps + 1, reason) refl a in
      let count : g.steps ≡ g.steps + 0 = omega arith in
      went_until [] ss s [] reason refl (no_step g.clauses) (subst (λ (ds : List Clause). IsAdded has clause_of g.listed ds s (Err reason)) (sym (append-nil g.clauses)) adds)
      (ap (λ (y : Progress). y.fault) stays ∙ fault_after g.steps g.steps 0 reason count)

  pub went : (g h : Progress) (steps : List Step) → g.fault ≡ None → AfterSteps has clause_of g steps h → Went has clause_of g h steps
  unfolding AfterSteps
  went g h [] none a = went_all [] (no_step g.clauses) (nothing_added g h none a)
  went g h (s ∷ ss) none a =
      let t = step_taken has clause_of g a.0 s none a.1 in
      went_by g h s ss t.outcome none t.is_so (subst (λ (x : Progress). AfterSteps has clause_of x ss h) t.leaves a.2) (λ k e b. went k h ss e b)

  -- ---- the verdict

  all_verdict : (p : Posed) (steps : List Step) (cs : List Clause) (number : ℕ) (b : Bool) → Adds has clause_of (length (atoms p)) (defining p) steps cs → b ≡ last_is_empty false cs → number ≡ 0 + length steps
      → IsVerdictOn has clause_of p steps (verdict_at None number b)
  all_verdict p steps [] number true adds e count = absurd (true≢false e)
  all_verdict p steps (c ∷ cs) number true adds e count =
      let last = before_last c cs (sym e) in
      record { before = last.0; steps_add = subst (λ (ds : List Clause). Adds has clause_of (length (atoms p)) (defining p) steps ds) last.1 adds }
  all_verdict p steps cs number false adds e count = not_empty cs adds (ends_open cs (sym e)) (omega (arith, count)) refl

  by_went : (p : Posed) (steps : List Step) (h : Progress) → Went has clause_of (start p) h steps → IsVerdictOn has clause_of p steps (verdict_of h)
  by_went p steps h (went_all cs adds x) =
      subst (λ (o : Option (ℕ × Reason)). IsVerdictOn has clause_of p steps (verdict_at o h.steps h.is_empty)) (sym x.no_fault) (all_verdict p steps cs h.steps h.is_empty adds x.last x.count)
  by_went p steps h (went_until before later s cs reason whole adds fails fault) =
      subst (λ (o : Option (ℕ × Reason)). IsVerdictOn has clause_of p steps (verdict_at o h.steps h.is_empty)) (sym fault)
      (adds_none (record { before = before; step = s; later = later; clauses = cs; are_all = whole; before_add = adds; fails = fails; number_is = omega arith }))

  pub verdict_is : (p : Posed) (steps : List Step) (h : Progress) → AfterSteps has clause_of (start p) steps h → IsVerdictOn has clause_of p steps (verdict_of h)
  verdict_is p steps h a = by_went p steps h (went (start p) h steps refl a)

  -- a step at fault is told
  pub fault_told : (p : Posed) (steps : List Step) (k : ℕ) (reason : Reason) (h : Progress) → FailsAt has clause_of p steps k reason → AfterSteps has clause_of (start p) steps h → h.fault ≡ Some (k, reason)
  fault_told p steps k reason h f a =
      let number = f.number_is in
      let count : 0 + length f.before + 1 ≡ k = omega (arith, number) in
      fails_leave (length (atoms p)) (defining p) f.before f.later f.step f.clauses reason (start p) h f.before_add f.fails refl refl refl
      (subst (λ (ss : List Step). AfterSteps has clause_of (start p) ss h) f.are_all a)
      ∙ ap (λ (j : ℕ). fault_at j reason) count

  pub told_verdict : (p : Posed) (steps : List Step) (h : Progress) (v : Verdict) → AfterSteps has clause_of (start p) steps h → IsVerdictOn has clause_of p steps v → verdict_of h ≡ v
  told_verdict p steps h Refuted a accepted =
      let x = adds_leave (length (atoms p)) (defining p) steps (accepted.before ++ [] ∷ []) accepted.steps_add (start p) h refl refl refl a in
      let empty : h.is_empty ≡ true = x.last ∙ ends_empty false accepted.before in
      λ i. verdict_at (x.no_fault i) h.steps (empty i)
  told_verdict p steps h (Rejected k reason) a (adds_none f) = ap (λ (o : Option (ℕ × Reason)). verdict_at o h.steps h.is_empty) (fault_told p steps k reason h f a)
  told_verdict p steps h (Rejected k reason) a (not_empty cs adds none number why) =
      let x = adds_leave (length (atoms p)) (defining p) steps cs adds (start p) h refl refl refl a in
      let opened : h.is_empty ≡ false = x.last ∙ open_ends cs none in
      let count = x.count in
      let same : h.steps ≡ k = omega (arith, count, number) in
      (λ i. verdict_at (x.no_fault i) h.steps (opened i)) ∙ (ap (λ (j : ℕ). Rejected j NotEmpty) same ∙ ap (λ (r : Reason). Rejected k r) (sym why))

  -- what the check of a log finds
  pub verdict_found : (p : Posed) (log steps : List Step) (g h : Progress) (v : Verdict) → g ≡ start p → steps ≡ log → AfterSteps has clause_of g steps h → v ≡ verdict_of h → (u : Verdict) → (v ≡ u) ↔ IsVerdictOn has clause_of p log u
  verdict_found p log steps g h v first same a told u =
      let all : AfterSteps has clause_of (start p) log h
      = subst (λ (ss : List Step). AfterSteps has clause_of (start p) ss h) same (subst (λ (x : Progress). AfterSteps has clause_of x steps h) first a) in (
        (λ e. subst (IsVerdictOn has clause_of p log) (sym told ∙ e) (verdict_is p log h all)),
        (λ is. told ∙ told_verdict p log h u all is),
      )

-- ---- rules that have more instances

added_by_more : (has more : Instance → Type 0) (clause_of : Instance → Clause) → ((i : Instance) → has i → more i) → (n : ℕ) (clauses : List Clause) (s : Step) (c : Clause) → IsAdded has clause_of n clauses s (Ok c)
    → IsAdded more clause_of n clauses s (Ok c)
added_by_more has more clause_of wider n clauses (Taken i) c a = (wider i a.0, a.1)
added_by_more has more clause_of wider n clauses (Learned l) c a = a

-- what steps add by rules they add by rules that have more instances
pub adds_by_more : (has more : Instance → Type 0) (clause_of : Instance → Clause) → ((i : Instance) → has i → more i) → (n : ℕ) (clauses : List Clause) (steps : List Step) (cs : List Clause) → Adds has clause_of n clauses steps cs
    → Adds more clause_of n clauses steps cs
adds_by_more has more clause_of wider n _ _ _ (no_step clauses) = no_step clauses
adds_by_more has more clause_of wider n _ _ _ (first_step clauses s ss c cs adds rest) =
    first_step clauses s ss c cs (added_by_more has more clause_of wider n clauses s c adds) (adds_by_more has more clause_of wider n (clauses ++ c ∷ []) ss cs rest)
