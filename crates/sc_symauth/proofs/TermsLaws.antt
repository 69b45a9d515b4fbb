-- What compiled policies decide, and how they stand, are terms.
use Rattle.std.proofs.Common.{List, [], ◌∷◌, All, Bool, not, map, filter}
use Rattle.std.specs.List.{AllByRecursion}
use Rattle.std.proofs.lemmas.List.Elements.{All-from_recursion, All-filter, All-map}
use Rattle.sc_auth.specs.Decisions.{permits}
use Rattle.sc_names.specs.declared.uid.Uid.{Uid}
use Rattle.sc_schema.specs.declared.declarations.Env.{Env}
use Rattle.sc_schema.specs.Declarations.{Declarations}
use Rattle.sc_sorts.specs.declared.sort.Sort.TheVariants as sort
use Rattle.sc_terms.specs.Trees.{Tree}
use Rattle.sc_terms.specs.Folds.{not_term, and_term}
use Rattle.sc_terms.specs.Joined.{any_of}
use Rattle.sc_term_laws.specs.Judging.{IsTermOf}
use Rattle.sc_symauth.specs.Standings.{Compiled, satisfied, error, any_satisfied, allow, any_error}
use Rattle.sc_symauth.specs.Agreement.{AreTerms}

-- what constructors make of truth values
abbrev pub NotMade : Type 0
NotMade = (s : Declarations) (env : Env) (written : List Uid) (a : Tree) → IsTermOf s env written sort.Bool a → IsTermOf s env written sort.Bool (not_term a)

abbrev pub AndMade : Type 0
AndMade = (s : Declarations) (env : Env) (written : List Uid) (a b : Tree) → IsTermOf s env written sort.Bool a → IsTermOf s env written sort.Bool b → IsTermOf s env written sort.Bool (and_term a b)

abbrev pub AnyMade : Type 0
AnyMade = (s : Declarations) (env : Env) (written : List Uid) (ts : List Tree) → All (IsTermOf s env written sort.Bool) ts → IsTermOf s env written sort.Bool (any_of ts)

module _ (negation : NotMade) (both : AndMade) (any : AnyMade) (s : Declarations) (env : Env) (written : List Uid) where
  abbrev Is : Tree → Type 0
  Is = IsTermOf s env written sort.Bool

  abbrev Are : Compiled → Type 0
  Are = AreTerms s env written

  each : (f : Compiled → Tree) (cs : List Compiled) → ((c : Compiled) → Are c → Is (f c)) → AllByRecursion Are cs → AllByRecursion (λ (c : Compiled). Is (f c)) cs
  each f [] h k = tt
  each f (c ∷ cs) h k = (h c k.0, each f cs h k.1)

  any_satisfied_is : (test : Compiled → Bool) (cs : List Compiled) → AllByRecursion Are cs → Is (any_satisfied test cs)
  any_satisfied_is test cs h =
      any s env written (map (λ (c : Compiled). satisfied c.code) (filter test cs))
      (All-map Is (λ (c : Compiled). satisfied c.code) (filter test cs)
      (All-filter test (λ (c : Compiled). Is (satisfied c.code)) cs
      (All-from_recursion (λ (c : Compiled). Is (satisfied c.code)) cs (each (λ (c : Compiled). satisfied c.code) cs (λ c k. both s env written c.code.ok c.code.val k.ok k.val) h))))

  pub allow_is_term : (cs : List Compiled) → AllByRecursion Are cs → Is (allow cs)
  allow_is_term cs h =
      both s env written (any_satisfied (λ (c : Compiled). permits c.effect) cs) (not_term (any_satisfied (λ (c : Compiled). not (permits c.effect)) cs))
      (any_satisfied_is (λ (c : Compiled). permits c.effect) cs h)
      (negation s env written (any_satisfied (λ (c : Compiled). not (permits c.effect)) cs) (any_satisfied_is (λ (c : Compiled). not (permits c.effect)) cs h))

  pub any_error_is_term : (cs : List Compiled) → AllByRecursion Are cs → Is (any_error cs)
  any_error_is_term cs h =
      any s env written (map (λ (c : Compiled). error c.code) cs)
      (All-map Is (λ (c : Compiled). error c.code) cs
      (All-from_recursion (λ (c : Compiled). Is (error c.code)) cs (each (λ (c : Compiled). error c.code) cs (λ c k. negation s env written c.code.ok k.ok) h)))
