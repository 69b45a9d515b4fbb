-- Laws of what a checker holds of the steps so far.
use Rattle.std.proofs.Common.{◌≡◌, ◌+◌, ◌<◌, ◌≤◌, ℕ, suc, List, [], ◌∷◌, ◌++◌, drop, drop-cons, get_or, length, Bool, true, false, Option, Some, None, is_some, Result, Ok, Err, refl, sym, ap, ◌∙◌, subst, arith, add-one}
use Rattle.std.specs.List.{Contains, AllByRecursion, list_all}
use Rattle.std.proofs.lemmas.Bool.{true≢false}
use Rattle.std.proofs.lemmas.List.{length-append, drop_all}
use Rattle.sc_lists.proofs.ListLaws.{all_element}
use Rattle.sc_lists.specs.Members.{Has}
use Rattle.sc_lists.proofs.MemberLaws.{Contains-from_Has, Has-last}
use Rattle.sc_clauses.specs.Clauses.{Clause}
use Rattle.sc_clauses.specs.declared.step.Instance.{Instance}
use Rattle.sc_clauses.specs.declared.step.Learned as learned
use Rattle.sc_clauses.specs.declared.step.Step.{Step}
use Rattle.sc_clauses.specs.declared.step.Step.TheVariants.{Instance as Taken, Learned}
use Rattle.sc_world.specs.declared.world.World.{World}
use Rattle.sc_footprint.specs.Definitions.{defining}
use Rattle.sc_footprint.specs.Problems.{Posed, atoms, goal_literal}
use Rattle.sc_footprint.specs.Theories.{IsClauseOf}
use Rattle.sc_footprint.specs.Truths.{truths, IsTrueIn, IsWorldOf, Satisfies, IsUnsatisfiable}
use Rattle.th_defs.specs.Laws.{before, defining_is}
use Rattle.sc_checker.specs.declared.checking.Reason.{Reason}
use Rattle.sc_checker.specs.declared.checking.Verdict.TheVariants.{Refuted}
use Rattle.sc_checker.specs.Progress.{Progress, start, failed, counted, grown, taken, IsTaken, AfterStep, is_past_fault, is_taken, AfterSteps, verdict_at, verdict_of, IsChecked}
use Rattle.sc_refutations.specs.Refutations.{is_nil, is_listed}
use Rattle.sc_checker.specs.Verdicts.{IsOfInstance, IsAdded, of_learned}
use Rattle.sc_checker.proofs.ListedLaws.{AreDefined, all_hold, clause_listed, defining_listed, learned_listed, listed_more}
use Rattle.sc_checker.proofs.Soundness.{all-push, learned-holds}

-- ---- whether there is a fault

pub none_is : {X : Type 0} (o : Option X) → false ≡ is_some o → o ≡ None
none_is None e = refl
none_is (Some x) e = absurd (true≢false (sym e))

pub some_is : {X : Type 0} (o : Option X) → true ≡ is_some o → (x : X) × (o ≡ Some x)
some_is None e = absurd (true≢false e)
some_is (Some x) e = (x, refl)

-- ---- what a step adds is one thing

instance_once : (has : Instance → Type 0) (clause_of : Instance → Clause) (i : Instance) (q r : Result Clause Reason) → IsOfInstance has clause_of i q → IsOfInstance has clause_of i r → q ≡ r
instance_once has clause_of i (Ok c) (Ok d) a b = ap (λ (x : Clause). Ok x) (a.1 ∙ sym b.1)
instance_once has clause_of i (Ok c) (Err reason) a b = absurd (b.0 a.0)
instance_once has clause_of i (Err reason) (Ok d) a b = absurd (a.0 b.0)
instance_once has clause_of i (Err reason) (Err why) a b = ap (λ (x : Reason). Err x) (a.1 ∙ sym b.1)

pub added_once : (has : Instance → Type 0) (clause_of : Instance → Clause) (n : ℕ) (clauses : List Clause) (s : Step) (q r : Result Clause Reason) → IsAdded has clause_of n clauses s q → IsAdded has clause_of n clauses s r → q ≡ r
added_once has clause_of n clauses (Taken i) q r a b = instance_once has clause_of i q r a b
added_once has clause_of n clauses (Learned l) q r a b = a ∙ sym b

-- a learned clause whose literals and hints are handed on
pub learned_taken : (g h : Progress) (clause : Clause) (hints : List ℕ) (l : learned.Learned) → clause ≡ l.clause → hints ≡ l.hints
    → h ≡ taken (of_learned g.listed g.clauses (record { clause = clause; hints = hints })) g → h ≡ taken (of_learned g.listed g.clauses l) g
learned_taken g h clause hints l same same' is = is ∙ (λ i. taken (of_learned g.listed g.clauses (record { clause = same i; hints = same' i })) g)

module _ (has : Instance → Type 0) (clause_of : Instance → Clause) where
  -- ---- a step

  -- where a step was at fault, no step is looked at
  pub fault_stays : (g h : Progress) (s : Step) (f : ℕ × Reason) → g.fault ≡ Some f → AfterStep has clause_of g s h → h ≡ g
  fault_stays g h s f e (is_past_fault k is same) = same
  fault_stays g h s f e (is_taken none t) = absurd (let both : Some f ≡ None = sym e ∙ none in cc)

  pub step_taken : (g h : Progress) (s : Step) → g.fault ≡ None → AfterStep has clause_of g s h → IsTaken (IsAdded has clause_of g.listed g.clauses s) g h
  step_taken g h s e (is_past_fault k is same) = absurd (let both : Some k ≡ None = sym is ∙ e in cc)
  step_taken g h s e (is_taken none t) = t

  pub stays_at_fault : (g : Progress) (s : Step) → true ≡ is_some g.fault → AfterStep has clause_of g s g
  stays_at_fault g s h = let f = some_is g.fault h in is_past_fault f.0 f.1 refl

  pub instance_step : (g h : Progress) (s : Step) (i : Instance) → g.fault ≡ None → s ≡ Taken i → IsTaken (IsOfInstance has clause_of i) g h → AfterStep has clause_of g s h
  instance_step g h s i e same t =
      subst (λ (x : Step). AfterStep has clause_of g x h) (sym same) (is_taken e (record { outcome = t.outcome; is_so = t.is_so; leaves = t.leaves }))

  pub learned_step : (g h : Progress) (s : Step) (l : learned.Learned) → g.fault ≡ None → s ≡ Learned l → h ≡ taken (of_learned g.listed g.clauses l) g → AfterStep has clause_of g s h
  learned_step g h s l e same is =
      subst (λ (x : Step). AfterStep has clause_of g x h) (sym same) (is_taken e (record { outcome = of_learned g.listed g.clauses l; is_so = refl; leaves = is }))

  -- ---- the steps of a list, one after another

  pub steps_stay : (g h : Progress) (ss : List Step) (f : ℕ × Reason) → g.fault ≡ Some f → AfterSteps has clause_of g ss h → h ≡ g
  unfolding AfterSteps
  steps_stay g h [] f e a = a
  steps_stay g h (s ∷ ss) f e a = steps_stay g h ss f e (subst (λ (x : Progress). AfterSteps has clause_of x ss h) (fault_stays g a.0 s f e a.1) a.2)

  pub fault_past : (g : Progress) (ss : List Step) (f : ℕ × Reason) → g.fault ≡ Some f → AfterSteps has clause_of g ss g
  unfolding AfterSteps
  fault_past g [] f e = refl
  fault_past g (s ∷ ss) f e = (g, is_past_fault f e refl, fault_past g ss f e)

  pub steps_split : (g h : Progress) (ss ts : List Step) → AfterSteps has clause_of g (ss ++ ts) h → (k : Progress) × AfterSteps has clause_of g ss k × AfterSteps has clause_of k ts h
  unfolding AfterSteps
  steps_split g h [] ts a = (g, refl, a)
  steps_split g h (s ∷ ss) ts a = let later = steps_split a.0 h ss ts a.2 in (later.0, (a.0, a.1, later.1), later.2)

  -- what the rest leaves after a step, that step and the rest leave
  pub steps_more : (g h end : Progress) (ss : List Step) (k : ℕ) (s : Step) → k < length ss → s ≡ get_or ss k s → AfterStep has clause_of g s h
      → AfterSteps has clause_of h (drop (k + 1) ss) end → AfterSteps has clause_of g (drop k ss) end
  unfolding AfterSteps
  steps_more g h end ss k s within at step rest =
      let here : drop k ss ≡ s ∷ drop (k + 1) ss = rw add-one (drop-cons ss k s within ∙ ap (λ (x : Step). x ∷ drop (suc k) ss) (sym at)) in
      subst (λ (xs : List Step). AfterSteps has clause_of g xs end) (sym here) (h, step, rest)

  pub steps_over : (g : Progress) (ss : List Step) (k : ℕ) → length ss ≤ k → AfterSteps has clause_of g (drop k ss) g
  unfolding AfterSteps
  steps_over g ss k all = subst (λ (xs : List Step). AfterSteps has clause_of g xs g) (sym (drop_all k ss all)) refl

-- a step that is counted, and at fault
pub failed_taken : (g k h : Progress) (number : ℕ) (x reason : Reason) → h ≡ failed number x k → number ≡ g.steps + 1 → x ≡ reason → k ≡ counted g → h ≡ taken (Err reason) g
failed_taken g k h number x reason is count same before = is ∙ (λ i. failed (count i) (same i) (before i))

-- ---- what is so of the steps on a problem

one_at_least : (xs : List Clause) (c : Clause) → 0 < length (xs ++ c ∷ [])
one_at_least xs c = let long = length-append xs (c ∷ []) in omega (arith, long)

start_checked : (p : Posed) → ((c : Clause) → Contains (defining p) c → IsClauseOf p c) → AreDefined p → IsChecked p (start p)
start_checked p lawful defined = record {
  count = refl;
  fit = defining_listed p lawful;
  room = λ e. subst (λ (cs : List Clause). 0 < length cs) (sym (defining_is p)) (one_at_least (before p) (goal_literal p ∷ []));
  hold = λ w s. all_hold p w (λ c h. defined w c s h);
  last = λ e. absurd (true≢false (sym e));
}

abbrev start_at : ℕ → List Clause → Progress
start_at n clauses = record { listed = n; steps = 0; clauses = clauses; is_empty = false; fault = None }

pub started : (p : Posed) (n : ℕ) (clauses : List Clause) → n ≡ length (atoms p) → clauses ≡ defining p → ((c : Clause) → Contains (defining p) c → IsClauseOf p c) → AreDefined p → IsChecked p (start_at n clauses)
started p n clauses e f lawful defined =
    subst (λ (m : ℕ). IsChecked p (start_at m clauses)) (sym e)
    (subst (λ (ds : List Clause). IsChecked p (start_at (length (atoms p)) ds)) (sym f) (start_checked p lawful defined))

pub failed_checked : (p : Posed) (g : Progress) (number : ℕ) (reason : Reason) → IsChecked p g → IsChecked p (failed number reason g)
failed_checked p g number reason k = record { count = k.count; fit = k.fit; room = λ e. absurd cc; hold = k.hold; last = k.last }

pub nil_is : (c : Clause) → is_nil c ≡ true → c ≡ []
nil_is [] e = refl
nil_is (l ∷ c) e = absurd (true≢false (sym e))

last_there : (clauses : List Clause) (c : Clause) → is_nil c ≡ true → Contains (clauses ++ c ∷ []) []
last_there clauses c e = Contains-from_Has (clauses ++ c ∷ []) [] (subst (λ (d : Clause). Has (clauses ++ c ∷ []) d) (nil_is c e) (Has-last clauses c))

-- a clause of listed atoms that is true where those before it are
grown_checked : (p : Posed) (g : Progress) (c : Clause) → list_all (is_listed g.listed) c ≡ true → ((w : World) → Satisfies p w → AllByRecursion (IsTrueIn p w) g.clauses → IsTrueIn p w c) → IsChecked p g → g.fault ≡ None
    → IsChecked p (grown c (counted g))
grown_checked p g c listed holds k e = record {
  count = k.count;
  fit = listed_more g.listed g.clauses c k.fit listed;
  room = λ f. let more = length-append g.clauses (c ∷ []) in let enough = k.room e in omega (arith, more, enough);
  hold = λ w t. all-push (truths p w) g.clauses c (k.hold w t) (holds w t (k.hold w t));
  last = last_there g.clauses c;
}

-- the clause of an instance is one of the problem, and true in each well-formed world
pub instance_checked : (p : Posed) (g : Progress) (c : Clause) → IsClauseOf p c → ((w : World) → IsWorldOf p w → IsTrueIn p w c) → IsChecked p g → g.fault ≡ None → IsChecked p (grown c (counted g))
instance_checked p g c lawful sound k e =
    grown_checked p g c (subst (λ (n : ℕ). list_all (is_listed n) c ≡ true) (sym k.count) (clause_listed p c lawful)) (λ w s hold. sound w s.well_formed) k e

learned_checked_at : (p : Posed) (g : Progress) (l : learned.Learned) (r : Result Clause Reason) → IsChecked p g → g.fault ≡ None → of_learned g.listed g.clauses l ≡ r → IsChecked p (taken r g)
learned_checked_at p g l (Ok c) k e is =
    grown_checked p g c (learned_listed g.listed g.clauses l c is) (λ w s hold. learned-holds (truths p w) g.listed g.clauses l c hold is) k e
learned_checked_at p g l (Err reason) k e is = record { count = k.count; fit = k.fit; room = λ f. absurd cc; hold = k.hold; last = k.last }

pub learned_checked : (p : Posed) (g h : Progress) (l : learned.Learned) → IsChecked p g → g.fault ≡ None → h ≡ taken (of_learned g.listed g.clauses l) g → IsChecked p h
learned_checked p g h l k e is = subst (IsChecked p) (sym is) (learned_checked_at p g l (of_learned g.listed g.clauses l) k e refl)

-- ---- what a refutation tells

refuted_last : (o : Option (ℕ × Reason)) (steps : ℕ) (is_empty : Bool) → verdict_at o steps is_empty ≡ Refuted → is_empty ≡ true
refuted_last (Some f) steps is_empty e = absurd cc
refuted_last None steps true e = refl
refuted_last None steps false e = absurd cc

pub refuted_sound : (p : Posed) (g : Progress) → IsChecked p g → verdict_of g ≡ Refuted → IsUnsatisfiable p
refuted_sound p g k e w s = true≢false (sym (all_element (IsTrueIn p w) g.clauses [] (k.hold w s) (k.last (refuted_last g.fault g.steps g.is_empty e))))
