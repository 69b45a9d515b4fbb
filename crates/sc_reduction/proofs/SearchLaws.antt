-- What is found of the first environments.
use Rattle.std.proofs.Common.{◌≡◌, ◌+◌, ◌<◌, ◌≤◌, ℕ, Bool, true, false, not, inl, inr, List, [], ◌∷◌, ◌++◌, Option, Some, None, IsTrue, length, get_or, take, slice_get, refl, sym, ap, subst, ◌∙◌, arith}
use Rattle.std.specs.List.{AllByRecursion}
use Rattle.std.specs.Prelude.{IsSomeAnd}
use Rattle.std.proofs.lemmas.List.{take_more, take_all}
use Rattle.std.proofs.lemmas.Option.{slice_get-get_or}
use Rattle.sc_lists.proofs.ListLaws.{all_append}
use Rattle.sc_clauses.specs.declared.step.Step.{Step}
use Rattle.sc_schema.specs.declared.declarations.Env.{Env}
use Rattle.sc_schema.specs.Declarations.{environments}
use Rattle.sc_world.specs.declared.world.World.{World}
use Rattle.sc_reduction.specs.Marked.{first_open}
use Rattle.sc_reduction.specs.Trials.{Trial, AlwaysAlike, At, Finds, IsFinding, IsFirstOpen, IsQuiet, IsTooLarge, IsUndecided, IsWorldOf, TellsApart, decide_alike}
use Rattle.sc_reduction.specs.declared.comparing.Finding.{Finding}
use Rattle.sc_reduction.specs.declared.comparing.Finding.TheVariants.{Alike, Differs, OverLimit, Spent}
use Rattle.sc_reduction.specs.declared.fate.Fate.{Fate}
use Rattle.sc_reduction.specs.declared.fate.Fate.TheVariants.{Dropped, Kept, Unproved, TooLarge}

-- the environment at place n is the first that is open, and none of the first i has a world that is found
pub record OpensAt (t : Trial) (i n : ℕ) : Type 0 where
  pub before : AllByRecursion (AlwaysAlike t) (take n (environments t.schema))
  pub quiet : AllByRecursion (IsQuiet t) (take i (environments t.schema))

-- what is found of the first i environments; no world is
abbrev pub SoFar : Trial → ℕ → Fate → Type 0
SoFar t i Dropped = AllByRecursion (AlwaysAlike t) (take i (environments t.schema))
SoFar t i (Kept n w) = ⊥
SoFar t i (Unproved n log) = At t n (λ env. IsUndecided t env log) × OpensAt t i n
SoFar t i (TooLarge n) = At t n (IsTooLarge t) × OpensAt t i n

-- ---- one more environment

one_more : (P : Env → Type 0) (envs : List Env) (i : ℕ) (env : Env) → i < length envs → env ≡ get_or envs i env → AllByRecursion P (take i envs) → P env → AllByRecursion P (take (i + 1) envs)
one_more P envs i env within is h here =
    subst (AllByRecursion P) (sym (take_more envs i env within)) (all_append P (take i envs) (get_or envs i env ∷ []) h (subst P is here, tt))

pub all_before : (t : Trial) (envs : List Env) → AllByRecursion (AlwaysAlike t) envs → AllByRecursion (IsQuiet t) envs
all_before t [] h = tt
all_before t (env ∷ envs) h = (inl h.0, all_before t envs h.1)

at_place : (t : Trial) (P : Env → Type 0) (i : ℕ) (env : Env) → i < length (environments t.schema) → env ≡ get_or (environments t.schema) i env → P env → At t i P
at_place t P i env within is here =
    subst (λ o. IsSomeAnd o P) (sym (slice_get-get_or (environments t.schema) i env within)) (subst P is here)

module _ (t : Trial) (i : ℕ) (env : Env) (within : i < length (environments t.schema)) (is : env ≡ get_or (environments t.schema) i env) where
  -- one in which they always decide alike
  pub alike_more : (found : Fate) → AlwaysAlike t env → SoFar t i found → SoFar t (i + 1) found
  alike_more Dropped here h = one_more (AlwaysAlike t) (environments t.schema) i env within is h here
  alike_more (Kept n w) here h = absurd h
  alike_more (Unproved n log) here h = (h.0, record { before = h.1.before; quiet = one_more (IsQuiet t) (environments t.schema) i env within is h.1.quiet (inl here) })
  alike_more (TooLarge n) here h = (h.0, record { before = h.1.before; quiet = one_more (IsQuiet t) (environments t.schema) i env within is h.1.quiet (inl here) })

  opens_here : IsQuiet t env → AllByRecursion (AlwaysAlike t) (take i (environments t.schema)) → OpensAt t (i + 1) i
  opens_here here h = record { before = h; quiet = one_more (IsQuiet t) (environments t.schema) i env within is (all_before t (take i (environments t.schema)) h) here }

  -- one that is open
  pub spent_more : (found : Fate) (log : List Step) → IsUndecided t env log → SoFar t i found → SoFar t (i + 1) (first_open found (Unproved i log))
  spent_more Dropped log here h = (at_place t (λ e. IsUndecided t e log) i env within is here, opens_here (inr (inl (log, here))) h)
  spent_more (Kept n w) log here h = absurd h
  spent_more (Unproved n other) log here h =
      (h.0, record { before = h.1.before; quiet = one_more (IsQuiet t) (environments t.schema) i env within is h.1.quiet (inr (inl (log, here))) })
  spent_more (TooLarge n) log here h = (h.0, record { before = h.1.before; quiet = one_more (IsQuiet t) (environments t.schema) i env within is h.1.quiet (inr (inl (log, here))) })

  pub large_more : (found : Fate) → IsTooLarge t env → SoFar t i found → SoFar t (i + 1) (first_open found (TooLarge i))
  large_more Dropped here h = (at_place t (IsTooLarge t) i env within is here, opens_here (inr (inr here)) h)
  large_more (Kept n w) here h = absurd h
  large_more (Unproved n log) here h = (h.0, record { before = h.1.before; quiet = one_more (IsQuiet t) (environments t.schema) i env within is h.1.quiet (inr (inr here)) })
  large_more (TooLarge n) here h = (h.0, record { before = h.1.before; quiet = one_more (IsQuiet t) (environments t.schema) i env within is h.1.quiet (inr (inr here)) })

  -- one with a world that tells them apart
  pub world_found : (w : World) → TellsApart t env w → Finds t (Kept i w)
  world_found w here = at_place t (λ e. TellsApart t e w) i env within is here

-- ---- what is found of the next one

module _ (t : Trial) (i : ℕ) (envs : List Env) (env : Env) (f : Finding) (all : envs ≡ environments t.schema) (within : i < length envs) (is : env ≡ get_or envs i env) (here : IsFinding t env f) where
  in_all : i < length (environments t.schema)
  in_all = subst (λ (es : List Env). i < length es) all within

  of_all : env ≡ get_or (environments t.schema) i env
  of_all = subst (λ (es : List Env). env ≡ get_or es i env) all is

  pub after_alike : (found now : Fate) → f ≡ Alike → now ≡ found → SoFar t i found → SoFar t (i + 1) now
  after_alike found now e same h = subst (SoFar t (i + 1)) (sym same) (alike_more t i env in_all of_all found (subst (IsFinding t env) e here) h)

  pub after_spent : (found now next : Fate) (log : List Step) → f ≡ Spent log → now ≡ next → next ≡ first_open found (Unproved i log) → SoFar t i found → SoFar t (i + 1) now
  after_spent found now next log e same first h = subst (SoFar t (i + 1)) (sym (same ∙ first)) (spent_more t i env in_all of_all found log (subst (IsFinding t env) e here) h)

  pub after_large : (found now next : Fate) → f ≡ OverLimit → now ≡ next → next ≡ first_open found (TooLarge i) → SoFar t i found → SoFar t (i + 1) now
  after_large found now next e same first h = subst (SoFar t (i + 1)) (sym (same ∙ first)) (large_more t i env in_all of_all found (subst (IsFinding t env) e here) h)

  pub after_world : (w : World) → f ≡ Differs w → Finds t (Kept i w)
  after_world w e = world_found t i env in_all of_all w (subst (IsFinding t env) e here)

-- ---- all environments

pub none_so_far : (t : Trial) → SoFar t 0 Dropped
none_so_far t = tt

opens_at : (t : Trial) (i n : ℕ) → length (environments t.schema) ≤ i → OpensAt t i n → IsFirstOpen t n
opens_at t i n all h = record { before = h.before; quiet = subst (AllByRecursion (IsQuiet t)) (take_all i (environments t.schema) all) h.quiet }

pub all_found : (t : Trial) (i : ℕ) (found : Fate) → length (environments t.schema) ≤ i → SoFar t i found → Finds t found
all_found t i Dropped all h = subst (AllByRecursion (AlwaysAlike t)) (take_all i (environments t.schema) all) h
all_found t i (Kept n w) all h = absurd h
all_found t i (Unproved n log) all h = (h.0, opens_at t i n all h.1)
all_found t i (TooLarge n) all h = (h.0, opens_at t i n all h.1)

-- ---- a world from before

-- a well-formed world that tells the two apart now
pub kept_again : (t : Trial) (n : ℕ) (w : World) (b : Bool) → At t n (λ env. IsWorldOf t env w) → b ≡ not (decide_alike t w) → IsTrue b → Finds t (Kept n w)
kept_again t n w b world is told = by (slice_get (environments t.schema) n) world
  where
    differs : (c : Bool) → not c ≡ true → c ≡ false
    differs true e = absurd (let clash : false ≡ true = e in cc)
    differs false e = refl

    by : (o : Option Env) → IsSomeAnd o (λ env. IsWorldOf t env w) → IsSomeAnd o (λ env. TellsApart t env w)
    by None h = h
    by (Some env) h = record { well_formed = h; differs = differs (decide_alike t w) (sym is ∙ told) }
