-- `has`: what is found along names.
use Rattle.std.proofs.Common.{◌≡◌, ◌&&◌, ◌||◌, ◌⊎◌, inl, inr, ℕ, List, [], ◌∷◌, ◌++◌, Bool, true, false, if◌then◌else◌, Option, Some, None, is_some, IsTrue, Result, Ok, IfOk, refl, sym, ap, ◌∙◌}
use Rattle.std.specs.Option.{option_map_or}
use Rattle.sc_ast.specs.declared.expr.Expr.{Expr}
use Rattle.sc_ast.specs.declared.expr.Expr.TheVariants as expr
use Rattle.sc_ast.specs.declared.place.Place.{Place}
use Rattle.sc_names.specs.declared.uid.Uid.{Uid}
use Rattle.sc_schema.specs.declared.declarations.Env.{Env}
use Rattle.sc_schema.specs.declared.ty.Ty.{Ty}
use Rattle.sc_schema.specs.Declarations.{Declarations}
use Rattle.sc_values.specs.declared.value.Value.{Value}
use Rattle.sc_values.specs.declared.value.Value.TheVariants as value
use Rattle.sc_values.specs.Records.{Fields, field}
use Rattle.sc_world.specs.declared.world.World.{World}
use Rattle.sc_world.specs.Conforms.{conforms}
use Rattle.sc_world.specs.WellFormed.{IsWellFormed}
use Rattle.sc_eval.specs.declared.error.EvalError.{EvalError}
use Rattle.sc_eval.specs.Outcomes.{Outcome, ◌>>=◌}
use Rattle.sc_eval.specs.Entities.{access, has, has_path}
use Rattle.sc_eval.specs.Eval.{eval}
use Rattle.sc_eval.specs.ConstructLaws.{eval_Access}
use Rattle.sc_typed.specs.declared.fault.TypeFault.{TypeFault}
use Rattle.sc_typing_rules.specs.declared.path.Path.{Path}
use Rattle.sc_typed.specs.Types.{Field, is_record, is_required, attributes, attribute}
use Rattle.sc_typed.specs.Capabilities.{Capabilities, nowhere, is_known}
use Rattle.sc_typing_rules.specs.Paths.{Subject, attribute_in, no_names, ended, held, maybe_held, has_always, named, longer, along}
use Rattle.sc_typed.proofs.OutcomeLaws.{found, weaker}
use Rattle.sc_soundness_laws.specs.Sound.{IsOf, AllHold}
use Rattle.sc_soundness_laws.proofs.ValueLaws.{Fits, true_fits, false_fits, bool_fits}
use Rattle.sc_soundness_laws.proofs.ObjectLaws.{IsObject, object_of, has_none, has_required, reads_declared}
use Rattle.sc_soundness_laws.proofs.HoldingLaws.{both-hold, known_holds, has-holds, holds-has}

module _ (s : Declarations) (env : Env) (literals : List Uid) (w : World) (well : IsWellFormed s env literals w) (known : Capabilities) (holding : AllHold w known) (place : Place) where
  -- what a path says of a value: whether it has the names, and what holds where it has them
  pub record IsFound (names : List (List ℕ)) (x : Value) (r : Path) : Type 0 where
    pub answer : Bool
    pub asked : has_path names w x ≡ Ok answer
    pub fits : Fits r.found answer
    pub given : answer ≡ true → AllHold w r.given

  -- the names so far are there: what they give holds, and true fits what they say
  record IsSoFar (p : Path) : Type 0 where
    fits : Fits p.found true
    given : AllHold w p.given

  -- a type that false fits is followed by such types
  abbrev FalseFits : Path → Type 0
  FalseFits p = Fits p.found false

  abbrev next_path : Bool → Path → Expr → Ty → List ℕ → Path
  next_path b p object type name = if b then held p type name else maybe_held p type name (named object name)

  longer_false : (b : Bool) (p : Path) (object : Expr) (type : Ty) (name : List ℕ) → FalseFits p → FalseFits (next_path b p object type name)
  longer_false true p object type name h = h
  longer_false false p object type name h = bool_fits false

  abbrev go_on : List ℕ → List (List ℕ) → Subject → Path → Field → Result Path TypeFault
  go_on name names o p f = along s place known (attribute_in place o name f) (longer known p o.object o.type name f) names

  next_false : (name : List ℕ) (names : List (List ℕ)) (o : Subject) (p : Path) (a : Option Field) → ((f : Field) → IfOk (go_on name names o p f) FalseFits) → IfOk (option_map_or (go_on name names o p) a (Ok (ended p o.type name names))) FalseFits
  next_false name names o p None k = false_fits
  next_false name names o p (Some f) k = k f

  along_false : (names : List (List ℕ)) (o : Subject) (p : Path) → FalseFits p → IfOk (along s place known o p names) FalseFits
  along_false [] o p h = h
  along_false (name ∷ names) o p h =
      found (attributes s o.type) _ _ _ FalseFits λ fields e.
      next_false name names o p (attribute name fields) λ f.
      along_false names (attribute_in place o name f) (longer known p o.object o.type name f) (longer_false (has_always o.type f || is_known (known ++ p.given) (named o.object name)) p o.object o.type name h)

  -- ---- one name more

  first_there : (name : List ℕ) (names : List (List ℕ)) (x y : Value) → has name w x ≡ Ok true → access name w x ≡ Ok y → has_path (name ∷ names) w x ≡ has_path names w y
  first_there name names x y there reads =
      ap (λ (r : Result Bool EvalError). r >>= λ p. if p then (access name w x >>= has_path names w) else Ok false) there
      ∙ ap (λ (o : Outcome). o >>= has_path names w) reads

  first_absent : (name : List ℕ) (names : List (List ℕ)) (x : Value) → has name w x ≡ Ok false → has_path (name ∷ names) w x ≡ Ok false
  first_absent name names x absent = ap (λ (r : Result Bool EvalError). r >>= λ p. if p then (access name w x >>= has_path names w) else Ok false) absent

  -- where the first name is there, the others are asked of what it reads
  after_first : (name : List ℕ) (names : List (List ℕ)) (x y : Value) (r : Path) → has name w x ≡ Ok true → access name w x ≡ Ok y → IsFound names y r → IsFound (name ∷ names) x r
  after_first name names x y r there reads h = record { answer = h.answer; asked = first_there name names x y there reads ∙ h.asked; fits = h.fits; given = h.given }

  -- where it isn't, neither is the whole
  absent_first : (name : List ℕ) (names : List (List ℕ)) (x : Value) (r : Path) → has name w x ≡ Ok false → Fits r.found false → IsFound (name ∷ names) x r
  absent_first name names x r absent h = record { answer = false; asked = first_absent name names x absent; fits = h; given = λ e. absurd (let apart : false ≡ true = e in cc) }

  clash : (Q : Type 0) (r : Result Bool EvalError) → r ≡ Ok true → r ≡ Ok false → Q
  clash Q r told apart = absurd (let e : ◌≡◌ {A = Result Bool EvalError} (Ok true) (Ok false) = sym told ∙ apart in cc)

  either : (b c : Bool) → (b || c) ≡ true → (b ≡ true) ⊎ (c ≡ true)
  either true c h = inl refl
  either false c h = inr h

  second : (b c : Bool) → (b && c) ≡ true → c ≡ true
  second true c h = h
  second false c h = absurd cc

  module _ (name : List ℕ) (names : List (List ℕ)) (o : Subject) (p : Path) (x : Value) (fields : List Field) (attrs : Fields) (at : eval o.object w ≡ Ok x) (far : IsSoFar p) (object : IsObject w fields x attrs) where
    abbrev always : Field → Bool
    always f = has_always o.type f || is_known (known ++ p.given) (named o.object name)

    -- what is always there is there
    always_there : (f : Field) → attribute name fields ≡ Some f → always f ≡ true → has name w x ≡ Ok true
    always_there f declared h = elim (either (has_always o.type f) (is_known (known ++ p.given) (named o.object name)) h) [
      | inl required ↦ has_required w fields x attrs object name f declared (second (is_record o.type) (is_required f) required)
      | inr capable ↦ holds-has w o.object name x at (known_holds w (known ++ p.given) (named o.object name) capable (both-hold w known p.given holding far.given))
    ]

    -- the names so far with one that is there
    so_far : (b : Bool) → has name w x ≡ Ok true → IsSoFar (next_path b p o.object o.type name)
    so_far true there = record { fits = far.fits; given = far.given }
    so_far false there = record { fits = bool_fits true; given = both-hold w p.given (named o.object name ∷ []) far.given (has-holds w o.object name x at there, tt) }

    -- where one that isn't always there is absent, false fits
    absent_fits : (f : Field) (b : Bool) → always f ≡ b → attribute name fields ≡ Some f → has name w x ≡ Ok false → FalseFits (next_path b p o.object o.type name)
    absent_fits f true e declared absent = clash _ (has name w x) (always_there f declared e) absent
    absent_fits f false e declared absent = bool_fits false

    -- what is found along the names after a declared one
    declared_sound : (f : Field) → attribute name fields ≡ Some f → (b : Bool) → has name w x ≡ Ok b
        → ((y : Value) → eval (expr.Access nowhere o.object name) w ≡ Ok y → IsOf w f.2 y → IsSoFar (longer known p o.object o.type name f) → IfOk (go_on name names o p f) (IsFound names y))
        → IfOk (go_on name names o p f) (IsFound (name ∷ names) x)
    declared_sound f declared true there later =
        let q = reads_declared w fields x attrs object name f declared there in
        let read : eval (expr.Access nowhere o.object name) w ≡ Ok q.0 = eval_Access nowhere o.object name w ∙ ap (λ (r : Outcome). r >>= access name w) at ∙ q.1 in
        weaker (IsFound names q.0) (IsFound (name ∷ names) x) (go_on name names o p f) (λ r h. after_first name names x q.0 r there q.1 h) (later q.0 read q.2 (so_far (always f) there))
    declared_sound f declared false absent later =
        weaker FalseFits (IsFound (name ∷ names) x) (go_on name names o p f) (λ r h. absent_first name names x r absent h)
        (along_false names (attribute_in place o name f) (longer known p o.object o.type name f) (absent_fits f (always f) refl declared absent))

    next_sound : (a : Option Field) → attribute name fields ≡ a
        → ((f : Field) (y : Value) → eval (expr.Access nowhere o.object name) w ≡ Ok y → IsOf w f.2 y → IsSoFar (longer known p o.object o.type name f) → IfOk (go_on name names o p f) (IsFound names y))
        → IfOk (option_map_or (go_on name names o p) a (Ok (ended p o.type name names))) (IsFound (name ∷ names) x)
    next_sound None declared later = absent_first name names x (ended p o.type name names) (has_none w fields x attrs object name declared) false_fits
    next_sound (Some f) declared later = declared_sound f declared (is_some (field name attrs)) (object.asks name) (later f)

  -- what is found along names that are asked of an expression's value
  along_sound : (names : List (List ℕ)) (o : Subject) (p : Path) (x : Value) → eval o.object w ≡ Ok x → IsOf w o.type x → IsSoFar p → IfOk (along s place known o p names) (IsFound names x)
  along_sound [] o p x at h far = record { answer = true; asked = refl; fits = far.fits; given = λ e. far.given }
  along_sound (name ∷ names) o p x at h far =
      found (attributes s o.type) _ _ _ (IsFound (name ∷ names) x) λ fields e.
      let q = object_of s env literals w well o.type fields x e h in
      next_sound name names o p x fields q.0 at far q.1 (attribute name fields) refl λ f y read typed so_far. along_sound names (attribute_in place o name f) (longer known p o.object o.type name f) y read typed so_far

  pub path_sound : (names : List (List ℕ)) (o : Subject) (x : Value) → eval o.object w ≡ Ok x → IsOf w o.type x → IfOk (along s place known o no_names names) (IsFound names x)
  path_sound names o x at h = along_sound names o no_names x at h (record { fits = true_fits; given = tt })

  pub path_answers : (names : List (List ℕ)) (o : Subject) (x : Value) → eval o.object w ≡ Ok x → IsOf w o.type x
      → IfOk (along s place known o no_names names) (λ (r : Path). (b : Bool) × (has_path names w x ≡ Ok b) × IsTrue (conforms r.found (value.Bool b)) × (b ≡ true → AllHold w r.given))
  path_answers names o x at h =
      weaker (IsFound names x) (λ (r : Path). (b : Bool) × (has_path names w x ≡ Ok b) × IsTrue (conforms r.found (value.Bool b)) × (b ≡ true → AllHold w r.given)) (along s place known o no_names names)
      (λ r k. (k.answer, k.asked, k.fits, k.given)) (path_sound names o x at h)
