-- Policies that are compiled one after the other.
use Rattle.std.proofs.Common.{◌≡◌, ℕ, ◌+◌, ◌<◌, ◌≤◌, Bool, true, false, List, [], ◌∷◌, ◌++◌, length, drop, get_or, map, Option, Some, None, IsSome, IfSome, refl, sym, ap, subst, ◌∙◌, arith, append_assoc}
use Rattle.std.specs.Option.{option_map, option_and_then}
use Rattle.std.proofs.lemmas.List.{drop_more, drop_all, map-append, append-nil}
use Rattle.std.proofs.lemmas.List.Elements.{All-push}
use Rattle.sc_ast.specs.declared.policy.Effect.{Effect}
use Rattle.sc_sorts.specs.declared.node.Node.{Node}
use Rattle.sc_terms.specs.Trees.{Tree}
use Rattle.sc_terms.specs.Tables.{tree, Keeps}
use Rattle.sc_constructs.specs.Code.{Code}
use Rattle.sc_constructs.specs.Numbers.{StandsAs}
use Rattle.sc_constructs.specs.declared.opt.Opt.{Opt}
use Rattle.sc_symauth.specs.declared.compiled.CompiledPolicy.{CompiledPolicy}
use Rattle.sc_symauth.specs.Standings.{Compiled}
use Rattle.sc_goal.specs.Goals.{with_effect, all_by}
use Rattle.sc_goal.specs.Selections.{selected}
use Rattle.sc_constructs.specs.Numbers.{IsCode, code_at}
use Rattle.sc_symauth.specs.Numbers.{AreCodes, compiled_at}
use Rattle.sc_symauth.proofs.NumbersLaws.{codes_later, compiled_same}

-- ---- one

-- numbers that stand for a code are numbers of the table
pub is_code : (xs : List Node) (o : Opt) (m : Option Code) → IsSome m → IfSome m (λ (c : Code). StandsAs xs o c) → IsCode xs o
is_code xs o None some h = absurd (let clash : false ≡ true = some in cc)
is_code xs o (Some c) some h = record { ok = h.ok.within; val = h.val.within }

-- and the terms that they stand for are the code
pub code_is : (xs : List Node) (o : Opt) (m : Option Code) → IsSome m → IfSome m (λ (c : Code). StandsAs xs o c) → m ≡ Some (code_at xs o)
code_is xs o None some h = absurd (let clash : false ≡ true = some in cc)
code_is xs o (Some c) some h =
    let f : Tree → Tree → Option Code = λ (a b : Tree). Some (record { ok = a; val = b }) in
    ap (λ (a : Tree). f a c.val) (sym h.ok.is) ∙ ap (f (tree xs o.ok)) (sym h.val.is)

-- one, with its effect
pub with_effect_is : (xs : List Node) (effect : Effect) (o : Opt) (m : Option Code) → IsSome m → IfSome m (λ (c : Code). StandsAs xs o c)
    → with_effect effect m ≡ Some (compiled_at xs (record { effect = effect; code = o }))
with_effect_is xs effect o m some h = ap (with_effect effect) (code_is xs o m some h)

pub with_effect_some : (effect : Effect) (m : Option Code) → IsSome (with_effect effect m) → IsSome m
with_effect_some effect None h = h
with_effect_some effect (Some c) h = refl

-- ---- all of a list

module _ {X : Type 0} (f : X → Option Compiled) where
  -- what comes after what is compiled
  abbrev after : List Compiled → List X → Option (List Compiled)
  after cs xs = option_map (λ (ds : List Compiled). cs ++ ds) (all_by f xs)

  -- all but the rest are compiled
  pub record AreSoFar (all rest : List X) (table : List Node) (ps : List CompiledPolicy) : Type 0 where
    pub codes : AreCodes table ps
    pub whole : all_by f all ≡ after (map (compiled_at table) ps) rest

  none_before : (o : Option (List Compiled)) → o ≡ option_map (λ (ds : List Compiled). [] ++ ds) o
  none_before None = refl
  none_before (Some cs) = refl

  pub first_so_far : (all : List X) (table : List Node) → AreSoFar all all table []
  first_so_far all table = record { codes = λ i d within. absurd (omega (arith, within)); whole = none_before (all_by f all) }

  -- the next one is compiled, where all are
  head_some : (cs : List Compiled) (x : X) (xs : List X) → IsSome (after cs (x ∷ xs)) → IsSome (f x)
  head_some cs x xs h = by (f x) h
    where
      by : (o : Option Compiled) → IsSome (option_map (λ (ds : List Compiled). cs ++ ds) (option_and_then (λ (c : Compiled). option_map (λ (ds : List Compiled). c ∷ ds) (all_by f xs)) o)) → IsSome o
      by None k = k
      by (Some c) k = refl

  pub next_some : (all rest : List X) (table : List Node) (ps : List CompiledPolicy) (x : X) → IsSome (all_by f all) → AreSoFar all (x ∷ rest) table ps → IsSome (f x)
  next_some all rest table ps x some h =
      head_some (map (compiled_at table) ps) x rest (subst (λ (o : Option (List Compiled)). IsSome o) h.whole some)

  after_more : (cs : List Compiled) (c : Compiled) (x : X) (xs : List X) → f x ≡ Some c → after cs (x ∷ xs) ≡ after (cs ++ c ∷ []) xs
  after_more cs c x xs e =
      ap (λ (o : Option Compiled). option_map (λ (ds : List Compiled). cs ++ ds) (option_and_then (λ (c : Compiled). option_map (λ (ds : List Compiled). c ∷ ds) (all_by f xs)) o)) e ∙ by (all_by f xs)
    where
      by : (o : Option (List Compiled)) → option_map (λ (ds : List Compiled). cs ++ ds) (option_map (λ (ds : List Compiled). c ∷ ds) o) ≡ option_map (λ (ds : List Compiled). (cs ++ c ∷ []) ++ ds) o
      by None = refl
      by (Some ds) = ap Some (sym (append_assoc cs (c ∷ []) ds))

  -- one more is compiled
  pub more_so_far : (all rest : List X) (s t : List Node) (ps qs : List CompiledPolicy) (x : X) (effect : Effect) (m : Option Code) (o : Opt)
      → IsSome (all_by f all) → f x ≡ with_effect effect m → AreSoFar all (x ∷ rest) s ps → Keeps s t
      → IfSome m (λ (c : Code). StandsAs t o c) → qs ≡ ps ++ record { effect = effect; code = o } ∷ [] → AreSoFar all rest t qs
  more_so_far all rest s t ps qs x effect m o some is h k stands pushed =
      let p : CompiledPolicy = record { effect = effect; code = o } in
      let compiled : IsSome m = with_effect_some effect m (subst (λ (r : Option Compiled). IsSome r) is (next_some all rest s ps x some h)) in
      subst (AreSoFar all rest t) (sym pushed) (record {
        codes = All-push (λ (q : CompiledPolicy). IsCode t q.code) ps p (codes_later s t ps k h.codes) (is_code t o m compiled stands);
        whole =
            h.whole ∙ ap (λ (cs : List Compiled). after cs (x ∷ rest)) (sym (compiled_same s t ps k h.codes))
            ∙ after_more (map (compiled_at t) ps) (compiled_at t p) x rest (is ∙ with_effect_is t effect o m compiled stands)
            ∙ ap (λ (cs : List Compiled). after cs rest) (sym (map-append (compiled_at t) ps (p ∷ [])));
      })

  pub all_so_far : (all : List X) (table : List Node) (ps : List CompiledPolicy) → AreSoFar all [] table ps → all_by f all ≡ Some (map (compiled_at table) ps)
  all_so_far all table ps k = k.whole ∙ ap Some (append-nil (map (compiled_at table) ps))

-- ---- those of a list that are marked

-- what of the marked ones stands from place i on
abbrev pub marked_from : {X : Type 0} → ℕ → List Bool → List X → List X
marked_from i marks xs = selected (drop i marks) (drop i xs)

pub marked_next : {X : Type 0} (marks : List Bool) (xs : List X) (i : ℕ) (d : Bool) (x : X) → i < length marks → i < length xs → get_or marks i d ≡ true → x ≡ get_or xs i x
    → marked_from i marks xs ≡ x ∷ marked_from (i + 1) marks xs
marked_next {X} marks xs i d x in_marks in_all mark element =
    ap (λ (ms : List Bool). selected ms (drop i xs)) (drop_more marks i d in_marks ∙ ap (λ (b : Bool). b ∷ drop (i + 1) marks) mark)
    ∙ ap (λ (ys : List X). selected (true ∷ drop (i + 1) marks) ys) (drop_more xs i x in_all ∙ ap (λ (y : X). y ∷ drop (i + 1) xs) (sym element))

pub marked_past : {X : Type 0} (marks : List Bool) (xs : List X) (i : ℕ) (d : Bool) → i < length marks → i < length xs → get_or marks i d ≡ false → marked_from i marks xs ≡ marked_from (i + 1) marks xs
marked_past {X} marks xs i d in_marks in_all mark =
    let some : X = head_of xs (omega (arith, in_all)) in
    ap (λ (ms : List Bool). selected ms (drop i xs)) (drop_more marks i d in_marks ∙ ap (λ (b : Bool). b ∷ drop (i + 1) marks) mark)
    ∙ ap (λ (ys : List X). selected (false ∷ drop (i + 1) marks) ys) (drop_more xs i some in_all)
  where
    head_of : (ys : List X) → 0 < length ys → X
    head_of [] h = absurd (omega (arith, h))
    head_of (y ∷ ys) h = y

pub marked_end : {X : Type 0} (marks : List Bool) (xs : List X) (i : ℕ) → length marks ≤ i → marked_from i marks xs ≡ []
marked_end marks xs i h = ap (λ (ms : List Bool). selected ms (drop i xs)) (drop_all i marks h)

-- ---- the marked ones are compiled

module _ {X : Type 0} (f : X → Option Compiled) (marks : List Bool) (xs : List X) (i : ℕ) (in_marks : i < length marks) (in_all : i < length xs) where
  pub more_marked : (d : Bool) (s t : List Node) (ps qs : List CompiledPolicy) (x : X) (effect : Effect) (m : Option Code) (o : Opt) → get_or marks i d ≡ true → x ≡ get_or xs i x
      → IsSome (all_by f (selected marks xs)) → f x ≡ with_effect effect m → AreSoFar f (selected marks xs) (marked_from i marks xs) s ps → Keeps s t
      → IfSome m (λ (c : Code). StandsAs t o c) → qs ≡ ps ++ record { effect = effect; code = o } ∷ [] → AreSoFar f (selected marks xs) (marked_from (i + 1) marks xs) t qs
  more_marked d s t ps qs x effect m o mark element some is h k stands pushed =
      more_so_far f (selected marks xs) (marked_from (i + 1) marks xs) s t ps qs x effect m o some is
      (subst (λ (rest : List X). AreSoFar f (selected marks xs) rest s ps) (marked_next marks xs i d x in_marks in_all mark element) h) k stands pushed

  pub none_marked : (d : Bool) (s : List Node) (ps : List CompiledPolicy) → get_or marks i d ≡ false → AreSoFar f (selected marks xs) (marked_from i marks xs) s ps → AreSoFar f (selected marks xs) (marked_from (i + 1) marks xs) s ps
  none_marked d s ps mark h = subst (λ (rest : List X). AreSoFar f (selected marks xs) rest s ps) (marked_past marks xs i d in_marks in_all mark) h
