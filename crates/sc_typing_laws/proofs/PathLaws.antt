-- `a has b.c.d` is typed as `a has b && a.b has c && a.b.c has d`.
use Rattle.std.proofs.Common.{◌≡◌, ◌&&◌, ◌||◌, ◌++◌, ℕ, List, [], ◌∷◌, Bool, true, false, if◌then◌else◌, Option, Some, None, unwrap_or, Result, Ok, Err, refl, sym, ap, subst, ◌∙◌, arith}
use Rattle.std.proofs.lemmas.List.{append-nil, append_assoc}
use Rattle.std.proofs.Math.Bool.{or-true}
use Rattle.std.specs.Option.{option_map_or}
use Rattle.sc_typing.proofs.WrittenOutLaws.{by_kind}
use Rattle.sc_ast.specs.declared.expr.Expr.{Expr, fold-roll-Expr}
use Rattle.sc_ast.specs.declared.expr.Expr.TheOpen as e
use Rattle.sc_ast.specs.declared.expr.Expr.TheVariants as expr
use Rattle.sc_ast.specs.declared.expr.Expr.TheVariants.{rolls-Access}
use Rattle.sc_ast.specs.declared.place.Place.{Place}
use Rattle.sc_eval.specs.Written.{and_has, has_each}
use Rattle.sc_schema.specs.declared.declarations.Env.{Env}
use Rattle.sc_schema.specs.declared.ty.Ty.{Ty}
use Rattle.sc_schema.specs.declared.ty.Ty.TheOpen as open_ty
use Rattle.sc_schema.specs.declared.ty.Ty.TheVariants as types
use Rattle.sc_schema.specs.declared.ty.Ty.TheVariants.{rolls-True, rolls-False, rolls-Bool}
use Rattle.sc_schema.specs.Declarations.{Declarations}
use Rattle.sc_typed.specs.contracts.capability.CapabilityEq.TheImpl.Laws.{laws-law}
use Rattle.sc_typed.specs.declared.capability.Capability.{Capability}
use Rattle.sc_typed.specs.declared.fault.TypeFault.{TypeFault}
use Rattle.sc_typed.specs.declared.fault.TypeRule.TheVariants.{NotObject}
use Rattle.sc_typed.specs.declared.outcome.Typed.{Typed}
use Rattle.sc_typed.specs.declared.typed_expr.HasStep.{HasStep}
use Rattle.sc_typed.specs.declared.typed_expr.TypedExpr.{TypedExpr, out-TypedExpr, out-roll-TypedExpr}
use Rattle.sc_typed.specs.declared.typed_expr.TypedExpr.TheOpen as open_typed
use Rattle.sc_typed.specs.declared.typed_expr.TypedExpr.TheVariants as typed
use Rattle.sc_typed.specs.declared.typed_expr.TypedExpr.TheVariants.{rolls-Access as rolls-typed}
use Rattle.sc_typed.specs.Capabilities.{Capabilities, nowhere, bare_step, bare, attribute_of, same, is_known}
use Rattle.sc_typed.specs.Outcomes.{Outcome, ◌>>=◌, made, gives, fails, or_fails, ty, as_object}
use Rattle.sc_typed.specs.TypedExprs.{place_in, place_of}
use Rattle.sc_typed.specs.Types.{Field, is_true, is_false, is_boolean, is_true_in, is_false_in, is_boolean_in, is_record, is_required, attributes, attribute}
use Rattle.sc_typed.proofs.CapabilityLaws.{either_known}
use Rattle.sc_typed.proofs.TypeOfLaws.{type_of_Has, type_of_And, type_of_Access}
use Rattle.sc_typing_rules.specs.declared.path.Path.{Path}
use Rattle.sc_typing_rules.specs.Paths.{Subject, attribute_in, step, no_names, ended, held, maybe_held, has_always, named, longer, along}
use Rattle.sc_typing_rules.specs.Rules.{and_type, conjunction, subject, path_of}
use Rattle.sc_typing.specs.Typing.{typing}
use Rattle.sc_typing.proofs.TypingLaws.{typing_And, typing_Has, typing_Access}
use Rattle.sc_typing_laws.specs.Paths.{asked, conjoined, and_skipped, and_asked, each_asked, TypesHasAlike, of_operand, at_operand, at_name, well_typed, IsShort}
use Rattle.sc_typing_laws.proofs.WeightLaws.{weight, bare_weight}
use Rattle.sc_typing_laws.proofs.KnownLaws.{Agree, agree_one, agree_all, typed_still}

-- ---- types of truth values

true_True : is_true types.True ≡ true
true_True = by_kind is_true_in types.True open_ty.True rolls-True

false_True : is_false types.True ≡ false
false_True = by_kind is_false_in types.True open_ty.True rolls-True

pub boolean_True : is_boolean types.True ≡ true
boolean_True = by_kind is_boolean_in types.True open_ty.True rolls-True

false_False : is_false types.False ≡ true
false_False = by_kind is_false_in types.False open_ty.False rolls-False

pub boolean_False : is_boolean types.False ≡ true
boolean_False = by_kind is_boolean_in types.False open_ty.False rolls-False

true_Bool : is_true types.Bool ≡ false
true_Bool = by_kind is_true_in types.Bool open_ty.Bool rolls-Bool

false_Bool : is_false types.Bool ≡ false
false_Bool = by_kind is_false_in types.Bool open_ty.Bool rolls-Bool

pub boolean_Bool : is_boolean types.Bool ≡ true
boolean_Bool = by_kind is_boolean_in types.Bool open_ty.Bool rolls-Bool

-- a truth value that may be true
record MayHold (t : Ty) : Type 0 where
  not_false : is_false t ≡ false
  boolean : is_boolean t ≡ true

always_holds : MayHold types.True
always_holds = record { not_false = false_True; boolean = boolean_True }

sometimes_holds : MayHold types.Bool
sometimes_holds = record { not_false = false_Bool; boolean = boolean_Bool }

-- ---- what is made of parts

ty_Has : (p : Place) (type : Ty) (x : TypedExpr) (steps : List HasStep) (skipped : List (List ℕ)) → ty (typed.Has p type x steps skipped) ≡ type
ty_Has p type x steps skipped = ap (λ (o : Option Ty). unwrap_or o types.Bool) (type_of_Has p type x steps skipped)

ty_And : (p : Place) (type : Ty) (x y : TypedExpr) → ty (typed.And p type x y) ≡ type
ty_And p type x y = ap (λ (o : Option Ty). unwrap_or o types.Bool) (type_of_And p type x y)

ty_Access : (p : Place) (type : Ty) (x : TypedExpr) (name : List ℕ) → ty (typed.Access p type x name) ≡ type
ty_Access p type x name = ap (λ (o : Option Ty). unwrap_or o types.Bool) (type_of_Access p type x name)

place_Access : (p : Place) (type : Ty) (x : TypedExpr) (name : List ℕ) → place_of (typed.Access p type x name) ≡ p
unfolding place_of
place_Access p type x name = ap (λ z. place_in (out-TypedExpr z)) (sym (rolls-typed p type x name)) ∙ ap place_in (out-roll-TypedExpr (open_typed.Access p type x name))

bare_Access : (p : Place) (a : Expr) (name : List ℕ) → bare (expr.Access p a name) ≡ expr.Access nowhere (bare a) name
unfolding bare
bare_Access p a name = ap bare (sym (rolls-Access p a name)) ∙ fold-roll-Expr Expr bare_step (e.Access p a name)

subject_is : (p : Place) (b : Expr) (a : Expr) (x : TypedExpr) (name : List ℕ) (type : Ty) → b ≡ bare (expr.Access p a name)
    → subject (expr.Access p a name) (typed.Access p type x name) ≡ record { object = b; at = p; type = type }
subject_is p b a x name type h =
    let o : bare (expr.Access p a name) ≡ b = sym h in
    let q = place_Access p type x name in
    let t = ty_Access p type x name in
    λ i. record { object = o i; at = q i; type = t i }

-- ---- `front && y`

-- a type, and what is given
record Joins (p : Place) (x y : TypedExpr) (g h : Capabilities) (type : Ty) (given : Capabilities) : Type 0 where
  typed_as : conjunction p (made x g) (made y h) ≡ gives (conjoined p x y) given
  of_type : ty (conjoined p x y) ≡ type

module _ (p : Place) (x y : TypedExpr) (g h : Capabilities) where
  never_joins : is_boolean (ty x) ≡ true → ty y ≡ types.False → Joins p x y g h types.False []
  never_joins b e =
      let c : is_boolean (ty y) ≡ true = ap is_boolean e ∙ boolean_False in
      let f : is_false (ty y) ≡ true = ap is_false e ∙ false_False in
      record { typed_as = rw (b, c, f) refl; of_type = ty_And p (and_type x y) x y ∙ rw f refl }

  always_joins : is_boolean (ty x) ≡ true → ty y ≡ types.True → Joins p x y g h (ty x) (g ++ h)
  always_joins b e =
      let c : is_boolean (ty y) ≡ true = ap is_boolean e ∙ boolean_True in
      let f : is_false (ty y) ≡ false = ap is_false e ∙ false_True in
      let t : is_true (ty y) ≡ true = ap is_true e ∙ true_True in
      record { typed_as = rw (b, c, f) refl; of_type = ty_And p (and_type x y) x y ∙ rw (f, t) refl }

  maybe_joins : is_boolean (ty x) ≡ true → ty y ≡ types.Bool → Joins p x y g h types.Bool (g ++ h)
  maybe_joins b e =
      let c : is_boolean (ty y) ≡ true = ap is_boolean e ∙ boolean_Bool in
      let f : is_false (ty y) ≡ false = ap is_false e ∙ false_Bool in
      let t : is_true (ty y) ≡ false = ap is_true e ∙ true_Bool in
      record { typed_as = rw (b, c, f) refl; of_type = ty_And p (and_type x y) x y ∙ rw (f, t) refl }

-- ---- what is known

known_itself : (known : Capabilities) (c : Capability) → is_known (known ++ c ∷ []) c ≡ true
unfolding is_known same
known_itself known c = sym (either_known known (c ∷ []) c) ∙ ap (λ b. is_known known c || (b || false)) (laws-law.refl c) ∙ or-true (is_known known c)

-- what is always there, or known to be there, may be read
may_read : (record_type required known : Bool) → ((record_type && required) || known) ≡ true → (required || known) ≡ true
may_read true required known h = h
may_read false true known h = refl
may_read false false known h = h

module _ (s : Declarations) (env : Env) (place : Place) where
  -- ---- one name

  abbrev by_test : TypedExpr → Subject → List ℕ → Bool → Outcome
  by_test z o name true = gives (asked place z (step name o.type types.True)) []
  by_test z o name false = gives (asked place z (step name o.type types.Bool)) (named o.object name ∷ [])

  abbrev by_field : Capabilities → TypedExpr → Subject → List ℕ → Option Field → Outcome
  by_field known z o name None = gives (asked place z (step name o.type types.False)) []
  by_field known z o name (Some f) = by_test z o name (has_always o.type f || is_known known (named o.object name))

  abbrev completed : TypedExpr → Path → Outcome
  completed z p = gives (typed.Has place p.found z p.steps p.skipped) p.given

  one_name : (z : Expr) (u : Typed) (known : Capabilities) (o : Subject) (name : List ℕ) → typing s env z known ≡ Ok u → subject z u.expr ≡ o
      → typing s env (expr.Has place z (name ∷ [])) known ≡ (as_object s o.at o.type >>= λ fields. by_field known u.expr o name (attribute name fields))
  one_name z u known o name at is =
      typing_Has s env place z (name ∷ []) known
      ∙ ap (λ (r : Outcome). r >>= λ x. path_of s known place (name ∷ []) z x.expr) at
      ∙ ap (λ (b : Subject). along s place known b no_names (name ∷ []) >>= completed u.expr) is
      ∙ of_fields (as_object s o.at o.type)
    where
      of_test : (b : Bool) → completed u.expr (if b then held no_names o.type name else maybe_held no_names o.type name (named o.object name)) ≡ by_test u.expr o name b
      of_test true = refl
      of_test false = refl

      of_field : (found : Option Field) → (option_map_or (λ (f : Field). along s place known (attribute_in place o name f) (longer known no_names o.object o.type name f) []) found (Ok (ended no_names o.type name [])) >>= completed u.expr)
          ≡ by_field known u.expr o name found
      of_field None = refl
      of_field (Some f) =
          ap (λ (k : Capabilities). completed u.expr (if has_always o.type f || is_known k (named o.object name) then held no_names o.type name else maybe_held no_names o.type name (named o.object name))) (append-nil known)
          ∙ of_test (has_always o.type f || is_known known (named o.object name))

      of_fields : (r : Result (List Field) TypeFault)
          → (r >>= (λ fields. option_map_or (λ (f : Field). along s place known (attribute_in place o name f) (longer known no_names o.object o.type name f) []) (attribute name fields) (Ok (ended no_names o.type name []))) >>= completed u.expr)
          ≡ (r >>= λ fields. by_field known u.expr o name (attribute name fields))
      of_fields (Err fault) = refl
      of_fields (Ok fields) = of_field (attribute name fields)

  -- an attribute that is always there, or is known to be, is read under what is known of it too
  read_next : (z : Expr) (u : Typed) (known more : Capabilities) (fields : List Field) (name : List ℕ) (f : Field) → typing s env z known ≡ Ok u → Agree (weight z) known more
      → attributes s (ty u.expr) ≡ Some fields → attribute name fields ≡ Some f → (is_required f || is_known more (attribute_of z name)) ≡ true
      → typing s env (expr.Access place z name) more ≡ gives (typed.Access place f.2 u.expr name) []
  read_next z u known more fields name f at agree declared found there =
      typing_Access s env place z name more ∙ rw (typed_still s env z known more u at agree, declared, found, there) refl

  -- ---- the names after one that is never there, and those after a fault

  all_fail : (names : List (List ℕ)) (front x : Expr) (known : Capabilities) (fault : TypeFault) → typing s env front known ≡ Err fault → typing s env (and_has place front x names) known ≡ Err fault
  all_fail [] front x known fault h = h
  all_fail (name ∷ names) front x known fault h =
      all_fail names (expr.And place front (expr.Has place x (name ∷ []))) (expr.Access place x name) known fault (typing_And s env place front (expr.Has place x (name ∷ [])) known ∙ rw h refl)

  all_skipped : (names : List (List ℕ)) (front x : Expr) (known : Capabilities) (z : TypedExpr) → typing s env front known ≡ gives z [] → is_false (ty z) ≡ true
      → typing s env (and_has place front x names) known ≡ gives (and_skipped place z x names) []
  all_skipped [] front x known z h f = h
  all_skipped (name ∷ names) front x known z h f =
      let rest : Expr = expr.Has place x (name ∷ []) in
      all_skipped names (expr.And place front rest) (expr.Access place x name) known (typed.And place types.False z (typed.Skipped rest))
      (typing_And s env place front rest known ∙ rw (h, f) refl) (ap is_false (ty_And place types.False z (typed.Skipped rest)) ∙ false_False)

  skipped_type : (names : List (List ℕ)) (x : Expr) (z : TypedExpr) → ty z ≡ types.False → ty (and_skipped place z x names) ≡ types.False
  skipped_type [] x z h = h
  skipped_type (name ∷ names) x z h =
      let rest : TypedExpr = typed.Skipped (expr.Has place x (name ∷ [])) in
      skipped_type names (expr.Access place x name) (typed.And place types.False z rest) (ty_And place types.False z rest)

  -- ---- along the names

  -- what the short form finds after a path, and what the long form gives after a front, which stands for the path, asked of `a.name`
  data Walked (front : TypedExpr) (p : Path) (a : Expr) (x : TypedExpr) (name : List ℕ) : Result Path TypeFault → Outcome → Type 0 where
    no_object : Walked front p a x name (fails NotObject place) (fails NotObject place)
    walked : (r : Path) (steps : List HasStep) (skipped : List (List ℕ)) → r.steps ≡ p.steps ++ steps → r.skipped ≡ skipped
        → ty (and_asked place front a x name steps skipped) ≡ r.found → Walked front p a x name (Ok r) (gives (and_asked place front a x name steps skipped) r.given)

  -- of a step more
  one_behind : (front : TypedExpr) (p q : Path) (a : Expr) (x : TypedExpr) (name : List ℕ) (first : HasStep) (r : Result Path TypeFault) (o : Outcome) → q.steps ≡ p.steps ++ first ∷ []
      → Walked (conjoined place front (asked place (typed.Access place first.object x name) first)) q (expr.Access place a name) (typed.Access place first.object x name) first.name r o
      → Walked front p a x name r o
  one_behind front p q a x name first _ _ h no_object = no_object
  one_behind front p q a x name first _ _ h (walked r steps skipped at skips is) = walked r (first ∷ steps) skipped (at ∙ ap (λ (l : List HasStep). l ++ steps) h ∙ append_assoc p.steps (first ∷ []) steps) skips is

  module _ (known : Capabilities) where
    -- a front and `a.name` are typed as the path says
    record IsAt (front : Expr) (z : TypedExpr) (p : Path) (a : Expr) (x : TypedExpr) (name : List ℕ) (type : Ty) (b : Expr) : Type 0 where
      front_typed : typing s env front known ≡ gives z p.given
      found : ty z ≡ p.found
      may_hold : MayHold p.found
      object_typed : typing s env (expr.Access place a name) (known ++ p.given) ≡ gives (typed.Access place type x name) []
      none_skipped : p.skipped ≡ []
      without_places : b ≡ bare (expr.Access place a name)

    abbrev Goes : List (List ℕ) → Type 0
    Goes names = (front : Expr) (z : TypedExpr) (p : Path) (a : Expr) (x : TypedExpr) (name : List ℕ) (type : Ty) (b : Expr) → IsAt front z p a x name type b
        → Walked z p a x name (along s place known (record { object = b; at = place; type = type }) p names) (typing s env (and_has place front (expr.Access place a name) names) known)

    -- a name more
    module _ (name_more : List ℕ) (names : List (List ℕ)) (later : Goes names) (front : Expr) (z : TypedExpr) (p : Path) (a : Expr) (x : TypedExpr) (name : List ℕ) (type : Ty) (b : Expr) (i : IsAt front z p a x name type b) where
      abbrev object : Expr
      object = expr.Access place a name

      abbrev object_typed : TypedExpr
      object_typed = typed.Access place type x name

      abbrev o : Subject
      o = record { object = b; at = place; type = type }

      abbrev so_far : Capabilities
      so_far = known ++ p.given

      abbrev longer_front : Expr
      longer_front = expr.And place front (expr.Has place object (name_more ∷ []))

      abbrev last : Ty → TypedExpr
      last found = asked place object_typed (step name_more type found)

      abbrev rest : Outcome
      rest = typing s env (and_has place longer_front (expr.Access place object name_more) names) known

      abbrev is_there : Field → Bool
      is_there f = has_always type f || is_known so_far (named b name_more)

      z_boolean : is_boolean (ty z) ≡ true
      z_boolean = ap is_boolean i.found ∙ i.may_hold.boolean

      -- the front with this name
      by_name : typing s env longer_front known ≡ (as_object s place type >>= (λ fields. by_field so_far object_typed o name_more (attribute name_more fields)) >>= λ v. conjunction place (made z p.given) v)
      by_name =
          let f : is_false (ty z) ≡ false = ap is_false i.found ∙ i.may_hold.not_false in
          let one = one_name object (made object_typed []) so_far o name_more i.object_typed (subject_is place b a x name type i.without_places) in
          typing_And s env place front (expr.Has place object (name_more ∷ [])) known ∙ rw (i.front_typed, f, one) refl

      abbrev conjoined_with : Option Field → Outcome
      conjoined_with found = by_field so_far object_typed o name_more found >>= λ v. conjunction place (made z p.given) v

      abbrev goes_on : Option Field → Result Path TypeFault
      goes_on found =
          option_map_or (λ (f : Field). along s place known (attribute_in place o name_more f) (longer known p b type name_more f) names) found (Ok (ended p type name_more names))

      abbrev Holds : Result Path TypeFault → Type 0
      Holds r = Walked z p a x name r rest

      -- an attribute that is declared
      module _ (fields : List Field) (declared : attributes s type ≡ Some fields) (f : Field) (at : attribute name_more fields ≡ Some f) where
        reads : (more : Capabilities) → Agree (weight object) so_far more → (is_required f || is_known more (attribute_of object name_more)) ≡ true
            → typing s env (expr.Access place object name_more) more ≡ gives (typed.Access place f.2 object_typed name_more) []
        reads more agree there =
            read_next object (made object_typed []) so_far more fields name_more f i.object_typed agree (ap (attributes s) (ty_Access place type x name) ∙ declared) at there

        next_bare : expr.Access nowhere b name_more ≡ bare (expr.Access place object name_more)
        next_bare = ap (λ y. expr.Access nowhere y name_more) i.without_places ∙ sym (bare_Access place object name_more)

        one_key : named b name_more ≡ attribute_of object name_more
        one_key = ap (λ y. named y name_more) i.without_places

        by_presence : (c : Bool) → is_there f ≡ c → typing s env longer_front known ≡ (by_test object_typed o name_more c >>= λ v. conjunction place (made z p.given) v)
            → Holds (along s place known (attribute_in place o name_more f) (if c then held p type name_more else maybe_held p type name_more (named b name_more)) names)
        by_presence true h front_is =
            let j = always_joins place z (last types.True) p.given [] z_boolean (ty_Has place types.True object_typed (step name_more type types.True ∷ []) []) in
            let there = may_read (is_record type) (is_required f) (is_known so_far (named b name_more)) h in
            one_behind z p (held p type name_more) a x name (step name_more type types.True) _ _ refl
            (later longer_front (conjoined place z (last types.True)) (held p type name_more) object object_typed name_more f.2 (expr.Access nowhere b name_more) (record {
              front_typed = front_is ∙ j.typed_as ∙ ap (λ (g : Capabilities). gives (conjoined place z (last types.True)) g) (append-nil p.given);
              found = j.of_type ∙ i.found;
              may_hold = i.may_hold;
              object_typed = reads so_far (agree_all (weight object) so_far) (ap (λ c. is_required f || is_known so_far c) (sym one_key) ∙ there);
              none_skipped = refl;
              without_places = next_bare;
            }))
        by_presence false h front_is =
            let c : Capability = named b name_more in
            let j = maybe_joins place z (last types.Bool) p.given (c ∷ []) z_boolean (ty_Has place types.Bool object_typed (step name_more type types.Bool ∷ []) []) in
            let heavy : weight b ≡ weight object = ap weight i.without_places ∙ bare_weight object in
            let agree : Agree (weight object) so_far (so_far ++ c ∷ []) = agree_one so_far c (weight object) (omega arith) in
            let there : is_known (so_far ++ c ∷ []) (attribute_of object name_more) ≡ true = subst (λ k. is_known (so_far ++ c ∷ []) k ≡ true) one_key (known_itself so_far c) in
            one_behind z p (maybe_held p type name_more c) a x name (step name_more type types.Bool) _ _ refl
            (later longer_front (conjoined place z (last types.Bool)) (maybe_held p type name_more c) object object_typed name_more f.2 (expr.Access nowhere b name_more) (record {
              front_typed = front_is ∙ j.typed_as;
              found = j.of_type;
              may_hold = sometimes_holds;
              object_typed =
                  subst (λ (k : Capabilities). typing s env (expr.Access place object name_more) k ≡ gives (typed.Access place f.2 object_typed name_more) []) (append_assoc known p.given (c ∷ []))
                  (reads (so_far ++ c ∷ []) agree (ap (λ t. is_required f || t) there ∙ or-true (is_required f)));
              none_skipped = refl;
              without_places = next_bare;
            }))

      of_found : (fields : List Field) → attributes s type ≡ Some fields → (found : Option Field) → attribute name_more fields ≡ found → typing s env longer_front known ≡ conjoined_with found → Holds (goes_on found)
      of_found fields declared None at front_is =
          let j = never_joins place z (last types.False) p.given [] z_boolean (ty_Has place types.False object_typed (step name_more type types.False ∷ []) []) in
          let front_typed : typing s env longer_front known ≡ gives (conjoined place z (last types.False)) [] = front_is ∙ j.typed_as in
          let y : Expr = expr.Access place object name_more in
          subst (Walked z p a x name (Ok (ended p type name_more names))) (sym (all_skipped names longer_front y known (conjoined place z (last types.False)) front_typed (ap is_false j.of_type ∙ false_False)))
          (walked (ended p type name_more names) (step name_more type types.False ∷ []) names refl refl (skipped_type names y (conjoined place z (last types.False)) j.of_type))
      of_found fields declared (Some f) at front_is = by_presence fields declared f at (is_there f) refl front_is

      of_declared : (o : Option (List Field)) → attributes s type ≡ o
          → typing s env longer_front known ≡ (or_fails NotObject place o >>= (λ fields. by_field so_far object_typed (record { object = b; at = place; type = type }) name_more (attribute name_more fields)) >>= λ v. conjunction place (made z p.given) v)
          → Holds (or_fails NotObject place o >>= λ fields. goes_on (attribute name_more fields))
      of_declared None declared front_is =
          subst (Walked z p a x name (fails NotObject place)) (sym (all_fail names longer_front (expr.Access place object name_more) known (record { rule = NotObject; at = place }) front_is)) no_object
      of_declared (Some fields) declared front_is = of_found fields declared (attribute name_more fields) refl front_is

      one_more : Walked z p a x name (along s place known o p (name_more ∷ names)) rest
      one_more = of_declared (attributes s type) refl by_name

    goes : (names : List (List ℕ)) → Goes names
    goes [] front z p a x name type b i = subst (Walked z p a x name (Ok p)) (sym i.front_typed) (walked p [] [] (sym (append-nil p.steps)) i.none_skipped i.found)
    goes (n ∷ names) front z p a x name type b i = one_more n names (goes names) front z p a x name type b i

  -- ---- the two forms

  module _ (a : Expr) (known : Capabilities) where
    abbrev Alike : Outcome → Outcome → Type 0
    Alike = TypesHasAlike s env place a known

    -- behind the first name
    alike_behind : (u : Typed) (q : Path) (first : HasStep) (r : Result Path TypeFault) (o : Outcome) → typing s env a known ≡ Ok u → q.steps ≡ first ∷ []
        → Walked (asked place u.expr first) q a u.expr first.name r o → Alike (r >>= completed u.expr) o
    alike_behind u q first _ _ typed_as h no_object = at_name u typed_as
    alike_behind u q first _ _ typed_as h (walked r steps skipped at skips is) =
        let all : first ∷ steps ≡ r.steps = sym (at ∙ ap (λ (l : List HasStep). l ++ steps) h) in
        let behind : skipped ≡ r.skipped = sym skips in
        subst (λ (o : Outcome). Alike o (gives (each_asked place a u.expr first steps skipped) r.given)) (λ i. gives (typed.Has place r.found u.expr (all i) (behind i)) r.given)
        (well_typed u r.found first steps skipped r.given typed_as is)

    module _ (name : List ℕ) (names : List (List ℕ)) (u : Typed) (u_typed : typing s env a known ≡ Ok u) where
      abbrev first_object : Subject
      first_object = subject a u.expr

      abbrev first_test : Expr
      first_test = expr.Has place a (name ∷ [])

      abbrev first_asked : Ty → TypedExpr
      first_asked found = asked place u.expr (step name (ty u.expr) found)

      abbrev long : Outcome
      long = typing s env (has_each place a name names) known

      first_type : (found : Ty) → ty (first_asked found) ≡ found
      first_type found = ty_Has place found u.expr (step name (ty u.expr) found ∷ []) []

      module _ (fields : List Field) (declared : attributes s (ty u.expr) ≡ Some fields) (f : Field) (at : attribute name fields ≡ Some f) where
        first_read : (more : Capabilities) → Agree (weight a) known more → (is_required f || is_known more (attribute_of a name)) ≡ true
            → typing s env (expr.Access place a name) more ≡ gives (typed.Access place f.2 u.expr name) []
        first_read more agree there = read_next a u known more fields name f u_typed agree declared at there

        first_present : (c : Bool) → (has_always (ty u.expr) f || is_known known (attribute_of a name)) ≡ c → typing s env first_test known ≡ by_test u.expr first_object name c
            → Alike (along s place known (attribute_in place first_object name f) (if c then held no_names (ty u.expr) name else maybe_held no_names (ty u.expr) name (attribute_of a name)) names >>= completed u.expr) long
        first_present true h front_is =
            let there = may_read (is_record (ty u.expr)) (is_required f) (is_known known (attribute_of a name)) h in
            alike_behind u (held no_names (ty u.expr) name) (step name (ty u.expr) types.True) _ _ u_typed refl
            (goes known names first_test (first_asked types.True) (held no_names (ty u.expr) name) a u.expr name f.2 (expr.Access nowhere (bare a) name) (record {
              front_typed = front_is;
              found = first_type types.True;
              may_hold = always_holds;
              object_typed = first_read (known ++ []) (λ c l. ap (λ (k : Capabilities). is_known k c) (sym (append-nil known))) (ap (λ (k : Capabilities). is_required f || is_known k (attribute_of a name)) (append-nil known) ∙ there);
              none_skipped = refl;
              without_places = sym (bare_Access place a name);
            }))
        first_present false h front_is =
            let c : Capability = attribute_of a name in
            let heavy : weight (bare a) ≡ weight a = bare_weight a in
            alike_behind u (maybe_held no_names (ty u.expr) name c) (step name (ty u.expr) types.Bool) _ _ u_typed refl
            (goes known names first_test (first_asked types.Bool) (maybe_held no_names (ty u.expr) name c) a u.expr name f.2 (expr.Access nowhere (bare a) name) (record {
              front_typed = front_is;
              found = first_type types.Bool;
              may_hold = sometimes_holds;
              object_typed = first_read (known ++ c ∷ []) (agree_one known c (weight a) (omega arith)) (ap (λ t. is_required f || t) (known_itself known c) ∙ or-true (is_required f));
              none_skipped = refl;
              without_places = sym (bare_Access place a name);
            }))

      first_found : (fields : List Field) → attributes s (ty u.expr) ≡ Some fields → (found : Option Field) → attribute name fields ≡ found → typing s env first_test known ≡ by_field known u.expr first_object name found
          → Alike
          (option_map_or (λ (f : Field). along s place known (attribute_in place first_object name f) (longer known no_names (bare a) (ty u.expr) name f) names) found (Ok (ended no_names (ty u.expr) name names)) >>= completed u.expr) long
      first_found fields declared None at front_is =
          let y : Expr = expr.Access place a name in
          subst (Alike _) (sym (all_skipped names first_test y known (first_asked types.False) front_is (ap is_false (first_type types.False) ∙ false_False)))
          (well_typed u types.False (step name (ty u.expr) types.False) [] names [] u_typed (skipped_type names y (first_asked types.False) (first_type types.False)))
      first_found fields declared (Some f) at front_is =
          subst
          (λ (k : Capabilities). Alike (along s place known (attribute_in place first_object name f) (if has_always (ty u.expr) f || is_known k (attribute_of a name) then held no_names (ty u.expr) name else maybe_held no_names (ty u.expr) name (attribute_of a name)) names >>= completed u.expr) long)
          (sym (append-nil known)) (first_present fields declared f at (has_always (ty u.expr) f || is_known known (attribute_of a name)) refl front_is)

      first_declared : (o : Option (List Field)) → attributes s (ty u.expr) ≡ o
          → typing s env first_test known ≡ (or_fails NotObject (place_of u.expr) o >>= λ fields. by_field known u.expr first_object name (attribute name fields))
          → Alike
          (or_fails NotObject (place_of u.expr) o
          >>= (λ fields. option_map_or (λ (f : Field). along s place known (attribute_in place first_object name f) (longer known no_names (bare a) (ty u.expr) name f) names) (attribute name fields) (Ok (ended no_names (ty u.expr) name names)))
          >>= completed u.expr) long
      first_declared None declared front_is =
          subst (Alike _) (sym (all_fail names first_test (expr.Access place a name) known (record { rule = NotObject; at = place_of u.expr }) front_is)) (at_operand u u_typed declared)
      first_declared (Some fields) declared front_is = first_found fields declared (attribute name fields) refl front_is

      of_typed : Alike (path_of s known place (name ∷ names) a u.expr) long
      of_typed = first_declared (attributes s (ty u.expr)) refl (one_name a u known first_object name u_typed refl)

    by_operand : (name : List ℕ) (names : List (List ℕ)) (o : Outcome) → typing s env a known ≡ o → Alike (o >>= λ x. path_of s known place (name ∷ names) a x.expr) (typing s env (has_each place a name names) known)
    by_operand name names (Err fault) h =
        subst (Alike _) (sym (all_fail names (expr.Has place a (name ∷ [])) (expr.Access place a name) known fault (typing_Has s env place a (name ∷ []) known ∙ rw h refl))) (of_operand fault h)
    by_operand name names (Ok u) h = of_typed name names u h

pub has_alike : (s : Declarations) (env : Env) (place : Place) (a : Expr) (name : List ℕ) (names : List (List ℕ)) (known : Capabilities) → IsShort s env place a name names known
has_alike s env place a name names known =
    subst (λ o. TypesHasAlike s env place a known o (typing s env (has_each place a name names) known)) (sym (typing_Has s env place a (name ∷ names) known)) (by_operand s env place a known name names (typing s env a known) refl)
