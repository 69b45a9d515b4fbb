-- What the end of a reduction tells.
use Rattle.std.proofs.Common.{◌≡◌, ◌⊎◌, inl, inr, ℕ, ◌+◌, zero, suc, Bool, true, false, List, [], ◌∷◌, ◌++◌, Option, Some, None, Result, Ok, Err, Contains, slice_get, refl, sym, ap, subst, ◌∙◌, arith}
use Rattle.std.specs.Prelude.{IsSomeAnd}
use Rattle.std.specs.List.{list_any}
use Rattle.sc_lists.proofs.ListLaws.{contains_nothing, contains_place, contains_split}
use Rattle.sc_clauses.specs.declared.step.Step.{Step}
use Rattle.sc_schema.specs.declared.declarations.Env.{Env}
use Rattle.sc_schema.specs.Declarations.{Declarations, environments}
use Rattle.sc_typing.specs.Checking.{type_fault}
use Rattle.sc_typing.specs.Names.{name_fault}
use Rattle.sc_ast.specs.declared.policy.Policy.{Policy}
use Rattle.sc_goal.specs.Queries.{Asked as Query}
use Rattle.sc_question.specs.declared.question.Question.TheVariants.{Equivalent}
use Rattle.sc_reports.proofs.AnalysisLaws.{first-none}
use Rattle.sc_inputs.specs.Readings.{ReadsAll}
use Rattle.sc_inputs.specs.Refusals.{Content}
use Rattle.sc_inputs.specs.Serving.{Aim}
use Rattle.sc_inputs.specs.declared.inputs.Asking.{Asking}
use Rattle.sc_outside.specs.Writes.{Written, all_appended}
use Rattle.sc_outside.specs.declared.faults.SinkFault.{SinkFault}
use Rattle.sc_outside.specs.declared.faults.SinkFault.TheVariants.{Failed, NoMemory}
use Rattle.sc_reports.specs.Lines.{PutsLines}
use Rattle.sc_reduction.specs.Lines.{is_open, log_of, logs_of, status_by, status_of}
use Rattle.sc_reduction.specs.Reductions.{Asked, IsReduction, MayBeReduced, asked_of, kept, without}
use Rattle.sc_reduction.specs.Trials.{IsUndecided}
use Rattle.sc_reduction.specs.declared.fate.Fate.{Fate}
use Rattle.sc_reduction.specs.declared.fate.Fate.TheVariants.{Dropped, Kept, Unproved, TooLarge}
use Rattle.sc_run.specs.Reduces.{IsReducible, Reduced, code_after, lines_of, to_reduce, reduced_first, reduced_front, reduced_whole, unreduced}

-- ---- statuses

-- the statuses of a reduction
abbrev pub ReducedCode : ℕ → Type 0 → Type 0
ReducedCode code rose = ((code ≡ 0) ⊎ (code ≡ 2)) ⊎ (((code ≡ 21) × rose) ⊎ (code ≡ 30))

by-test : (b : Bool) (code : ℕ) → code ≡ status_by b → (code ≡ 0) ⊎ (code ≡ 2)
by-test true code c = inr c
by-test false code c = inl c

pub reduction-codes : (x : Asked) (old new : Written) (rose : Type 0) (code : ℕ) (spent : List (List Step)) → Reduced x old new rose code spent → ReducedCode code rose
reduction-codes x old new rose code spent (reduced_whole fates is c text logs) = inl (by-test (list_any is_open fates) code c)
reduction-codes x old new rose code spent (reduced_front fates lines next rest n is order risen c text logs) = inr (inl (c, risen))
reduction-codes x old new rose code spent (reduced_first fates lines rest is order c text logs) = inr (inr c)
reduction-codes x old new rose code spent (unreduced c text none) = inr (inr c)

-- ---- logs

-- the policy of a log among those of some fates, the first of which is at this place
record LoggedAt (fates : List Fate) (log : List Step) : Type 0 where
  pub place : ℕ
  pub env : ℕ
  pub at : slice_get fates place ≡ Some (Unproved env log)

logged-next : (f : Fate) (fates : List Fate) (log : List Step) → LoggedAt fates log → LoggedAt (f ∷ fates) log
logged-next f fates log h = record { place = suc h.place; env = h.env; at = h.at }

logged-at : (fates : List Fate) (log : List Step) → Contains (logs_of fates) log → LoggedAt fates log
logged-at [] log among = absurd (contains_nothing log among)
logged-at (Dropped ∷ fates) log among = logged-next Dropped fates log (logged-at fates log among)
logged-at (Kept n w ∷ fates) log among = logged-next (Kept n w) fates log (logged-at fates log among)
logged-at (TooLarge n ∷ fates) log among = logged-next (TooLarge n) fates log (logged-at fates log among)
logged-at (Unproved n other ∷ fates) log among =
    elim (contains_split other (logs_of fates) log among)
    [ inl is ↦ record { place = 0; env = n; at = ap (λ (l : List Step). Some (Unproved n l)) is } | inr later ↦ logged-next (Unproved n other) fates log (logged-at fates log later) ]

-- a log of just as many units as the budget, of the problem whether those that stay decide otherwise without one of them
pub record FateLog (x : Asked) (log : List Step) : Type 0 where
  pub fates : List Fate
  pub is_reduction : IsReduction x fates
  pub place : ℕ
  pub env : Env
  pub listed : Contains (environments x.schema) env
  pub undecided : IsUndecided (without x (kept fates) place) env log

-- the environment of an option
taken : {P : Env → Type 0} (envs : List Env) (n : ℕ) (o : Option Env) → slice_get envs n ≡ o → IsSomeAnd o P → (env : Env) × (slice_get envs n ≡ Some env) × P env
taken envs n None e h = absurd h
taken envs n (Some env) e h = (env, e, h)

log-of : (x : Asked) (fates : List Fate) (log : List Step) → IsReduction x fates → Contains (logs_of fates) log → FateLog x log
log-of x fates log is among =
    let l = logged-at fates log among in
    let fate = is.fates_true l.place (Unproved l.env log) l.at in
    let env = taken {P = λ e. IsUndecided (without x (kept fates) l.place) e log} (environments x.schema) l.env (slice_get (environments x.schema) l.env) refl fate.0 in
    record {
      fates = fates;
      is_reduction = is;
      place = l.place;
      env = env.0;
      listed = contains_place (environments x.schema) l.env env.0 env.1;
      undecided = env.2;
    }

pub fate-logged : (x : Asked) (old new : Written) (rose : Type 0) (code : ℕ) (spent : List (List Step)) → Reduced x old new rose code spent → (log : List Step) → Contains spent log → FateLog x log
fate-logged x old new rose code spent (reduced_whole fates is c text logs) log among = log-of x fates log is (subst (λ (ls : List (List Step)). Contains ls log) logs among)
fate-logged x old new rose code spent (reduced_front fates lines next rest n is order risen c text logs) log among = log-of x fates log is (subst (λ (ls : List (List Step)). Contains ls log) logs among)
fate-logged x old new rose code spent (reduced_first fates lines rest is order c text logs) log among = log-of x fates log is (subst (λ (ls : List (List Step)). Contains ls log) logs among)
fate-logged x old new rose code spent (unreduced c text none) log among = absurd (contains_nothing log (subst (λ (ls : List (List Step)). Contains ls log) none among))

-- ---- how lines are put out

pub reduction-told : (x : Asked) (fates : List Fate) (lines : List (List ℕ)) (old new : Written) (rose : Type 0) (r : Result Unit SinkFault) (code whole : ℕ) (spent : List (List Step))
    → IsReduction x fates → lines ≡ lines_of x fates → whole ≡ status_of fates → code ≡ code_after whole r → spent ≡ logs_of fates → PutsLines lines old new rose r → Reduced x old new rose code spent
reduction-told x fates lines old new rose (Ok y) code whole spent is e w c logs h = reduced_whole fates is (c ∙ w) (h ∙ ap (all_appended old) e) logs
reduction-told x fates lines old new rose (Err Failed) code whole spent is e w c logs h = reduced_front fates h.1.whole h.1.next h.1.rest h.1.kept is (h.1.in_order ∙ e) h.0 c h.1.text logs
reduction-told x fates lines old new rose (Err NoMemory) code whole spent is e w c logs h = reduced_first fates h.whole h.rest is (h.in_order ∙ e) c h.text logs

-- ---- what is to be reduced

-- the query of a set with itself
pub may-be-reduced : (s : Declarations) (ps : List Policy) (q : Query) → q.question ≡ Equivalent → q.first ≡ ps → q.against ≡ Some ps → IsReducible s ps → MayBeReduced s q
may-be-reduced s ps q asked first against h = record {
  question = asked;
  itself = against ∙ ap Some (sym first);
  declared = subst (λ (qs : List Policy). name_fault s qs ≡ None) (sym first) h.declared;
  typed = subst (λ (qs : List Policy). type_fault s qs ≡ None) (sym first) h.typed;
}

-- the reduction of a query is that of its set
pub reduction-of : (s : Declarations) (ps : List Policy) (q : Query) (budget : ℕ) (fates : List Fate) → q.first ≡ ps → IsReduction (asked_of s q budget) fates → IsReduction (to_reduce s ps budget) fates
reduction-of s ps q budget fates first h = subst (λ (qs : List Policy). IsReduction (to_reduce s qs budget) fates) first h

-- what is read may be reduced
pub reducible : (content : Content) (words : List (List ℕ)) (i : Asking) (aim : Aim) → ReadsAll content words i.schema i.question i.policies i.against aim → IsReducible i.schema i.policies
reducible content words i aim read = record {
  declared = first-none (name_fault i.schema) i.policies i.against read.reached.served.declared;
  typed = first-none (type_fault i.schema) i.policies i.against read.reached.served.typed;
}
