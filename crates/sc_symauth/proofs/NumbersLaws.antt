-- Compiled policies by the numbers of their terms.
use Rattle.std.proofs.Common.{◌≡◌, ℕ, zero, suc, ◌+◌, ◌<◌, Bool, true, false, not, cond, List, [], ◌∷◌, ◌++◌, length, take, get_or, map, filter, All, refl, sym, ap, subst, ◌∙◌, arith}
use Rattle.std.proofs.lemmas.List.{take_more, map-append, append-nil}
use Rattle.std.proofs.lemmas.List.Elements.{All-push, All-filter, All-map, filter_more}
use Rattle.sc_terms.proofs.TableLaws.{keeps_then, stands_later}
use Rattle.sc_ast.specs.declared.policy.Effect.{Effect}
use Rattle.sc_schema.specs.declared.declarations.Env.{Env}
use Rattle.sc_schema.specs.Declarations.{Declarations}
use Rattle.sc_symeval.specs.Codes.{code_of}
use Rattle.sc_auth.specs.Decisions.{permits}
use Rattle.sc_sorts.specs.declared.node.Node.{Node}
use Rattle.sc_terms.specs.Trees.{Tree}
use Rattle.sc_terms.specs.Tables.{tree, Keeps, StandsFor}
use Rattle.sc_terms.specs.Folds.{not_term, and_term}
use Rattle.sc_terms.specs.Joined.{any_of}
use Rattle.sc_constructs.specs.Code.{Code}
use Rattle.sc_constructs.proofs.NumbersLaws.{in_table, code_is, code_later, code_same, for_more}
use Rattle.sc_constructs.specs.declared.opt.Opt.{Opt}
use Rattle.sc_symauth.specs.declared.compiled.CompiledPolicy.{CompiledPolicy}
use Rattle.sc_symauth.specs.declared.typed.Typed.{Typed}
use Rattle.sc_symauth.specs.Standings.{Compiled, satisfied, any_satisfied, allow, any_error, error, with_effect, compiled_typed, all_compiled}
use Rattle.sc_constructs.specs.Numbers.{IsCode, StandsAs, StandForAll, code_at}
use Rattle.sc_symauth.specs.Numbers.{AreCodes, AreCompiled, compiled_at}

-- ---- in a later table

pub codes_later : (s t : List Node) (ps : List CompiledPolicy) → Keeps s t → AreCodes s ps → AreCodes t ps
codes_later s t ps k h = λ i d within. code_later s t (get_or ps i d).code k (h i d within)

pub compiled_same : (s t : List Node) (ps : List CompiledPolicy) → Keeps s t → AreCodes s ps → map (compiled_at t) ps ≡ map (compiled_at s) ps
compiled_same s t [] k h = refl
compiled_same s t (p ∷ ps) k h =
    let f : Code → List Compiled → List Compiled = λ (c : Code) (cs : List Compiled). record { effect = p.effect; code = c } ∷ cs in
    ap (λ (c : Code). f c (map (compiled_at t) ps)) (code_same s t p.code k (h zero p (omega arith)))
    ∙ ap (f (code_at s p.code)) (compiled_same s t ps k (λ i d within. h (suc i) d (omega arith)))

-- ---- terms that are made one after the other

module _ {X : Type 0} (h : Code → Tree) (g : X → Opt) where
  -- the terms of a list, of which each has a code
  abbrev made : List Node → List X → List Tree
  made s xs = map (λ (x : X). h (code_at s (g x))) xs

  made_more : (s : List Node) (xs : List X) (i : ℕ) (d : X) → i < length xs → made s (take (i + 1) xs) ≡ made s (take i xs) ++ h (code_at s (g (get_or xs i d))) ∷ []
  made_more s xs i d within = ap (made s) (take_more xs i d within) ∙ map-append (λ (x : X). h (code_at s (g x))) (take i xs) (get_or xs i d ∷ [])

  -- one more
  pub term_more : (s t u : List Node) (ns ms : List ℕ) (xs : List X) (i n : ℕ) (d : X) → i < length xs → All (λ (x : X). IsCode s (g x)) xs → Keeps s t
      → StandForAll t ns (made s (take i xs)) → Keeps t u → StandsFor u n (h (code_at t (g (get_or xs i d)))) → ms ≡ ns ++ n ∷ [] → StandForAll u ms (made s (take (i + 1) xs))
  term_more s t u ns ms xs i n d within codes k so_far j new pushed =
      let here : StandsFor u n (h (code_at s (g (get_or xs i d)))) = subst (λ (c : Code). StandsFor u n (h c)) (code_same s t (g (get_or xs i d)) k (codes i d within)) new in
      subst (λ (ts : List Tree). StandForAll u ms ts) (sym (made_more s xs i d within))
      (subst (λ (l : List ℕ). StandForAll u l (made s (take i xs) ++ h (code_at s (g (get_or xs i d))) ∷ [])) (sym pushed)
      (for_more t u ns (made s (take i xs)) n (h (code_at s (g (get_or xs i d)))) so_far j here))

-- ---- what a set decides

abbrev satisfied_in : (Effect → Bool) → List Compiled → List Tree
satisfied_in h ps = map (λ (p : Compiled). satisfied p.code) (filter (λ (p : Compiled). h p.effect) ps)

abbrev codes_in : (Effect → Bool) → List CompiledPolicy → List Opt
codes_in h ps = map (λ (p : CompiledPolicy). p.code) (filter (λ (p : CompiledPolicy). h p.effect) ps)

abbrev satisfied_at : List Node → Opt → Tree
satisfied_at s o = satisfied (code_at s o)

with_first : (h : Effect → Bool) (s : List Node) (p : CompiledPolicy) (ps : List CompiledPolicy) (b : Bool)
    → satisfied_in h (map (compiled_at s) ps) ≡ map (satisfied_at s) (codes_in h ps)
    → map (λ (q : Compiled). satisfied q.code) (cond b (compiled_at s p ∷ filter (λ (q : Compiled). h q.effect) (map (compiled_at s) ps)) (filter (λ (q : Compiled). h q.effect) (map (compiled_at s) ps)))
    ≡ map (satisfied_at s) (map (λ (q : CompiledPolicy). q.code) (cond b (p ∷ filter (λ (q : CompiledPolicy). h q.effect) ps) (filter (λ (q : CompiledPolicy). h q.effect) ps)))
with_first h s p ps true later = ap (λ (ts : List Tree). satisfied (code_at s p.code) ∷ ts) later
with_first h s p ps false later = later

satisfied_those : (h : Effect → Bool) (s : List Node) (ps : List CompiledPolicy) → satisfied_in h (map (compiled_at s) ps) ≡ map (satisfied_at s) (codes_in h ps)
satisfied_those h s [] = refl
satisfied_those h s (p ∷ ps) = with_first h s p ps (h p.effect) (satisfied_those h s ps)

-- whether one of the policies with an effect is satisfied
pub any_satisfied_is : (h : Effect → Bool) (s t u : List Node) (ps : List CompiledPolicy) (codes : List Opt) (ns ms : List ℕ) (n : ℕ)
    → codes ≡ codes_in h ps → StandForAll t ns (map (satisfied_at s) codes) → ms ≡ ns → StandsFor u n (any_of (map (tree t) ms))
    → StandsFor u n (any_satisfied (λ (p : Compiled). h p.effect) (map (compiled_at s) ps))
any_satisfied_is h s t u ps codes ns ms n e each same whole = record {
  within = whole.within;
  is = whole.is ∙ ap any_of (ap (map (tree t)) same ∙ each.are ∙ ap (map (satisfied_at s)) e ∙ sym (satisfied_those h s ps));
}

pub codes_are_codes : (h : Effect → Bool) (s : List Node) (ps : List CompiledPolicy) (codes : List Opt) → codes ≡ codes_in h ps → AreCodes s ps → All (λ (o : Opt). IsCode s o) codes
codes_are_codes h s ps codes e k =
    subst (All (λ (o : Opt). IsCode s o)) (sym e)
    (All-map (λ (o : Opt). IsCode s o) (λ (p : CompiledPolicy). p.code) (filter (λ (p : CompiledPolicy). h p.effect) ps)
    (All-filter (λ (p : CompiledPolicy). h p.effect) (λ (p : CompiledPolicy). IsCode s p.code) ps k))

-- one more of those that pass
pub codes_more : (h : Effect → Bool) (ps : List CompiledPolicy) (i : ℕ) (p : CompiledPolicy) (codes : List Opt) (b : Bool)
    → i < length ps → p ≡ get_or ps i p → b ≡ h p.effect → codes ≡ codes_in h (take i ps) → cond b (codes ++ p.code ∷ []) codes ≡ codes_in h (take (i + 1) ps)
codes_more h ps i p codes b within e is k =
    let test : CompiledPolicy → Bool = λ (q : CompiledPolicy). h q.effect in
    let code : CompiledPolicy → Opt = λ (q : CompiledPolicy). q.code in
    ap (λ (c : Bool). cond c (codes ++ p.code ∷ []) codes) is
    ∙ last (test p)
    ∙ ap (λ (os : List Opt). os ++ map code (cond (test p) (p ∷ []) [])) k
    ∙ sym (map-append code (filter test (take i ps)) (cond (test p) (p ∷ []) []))
    ∙ ap (λ (q : CompiledPolicy). map code (filter test (take i ps) ++ cond (test q) (q ∷ []) [])) e
    ∙ ap (map code) (sym (filter_more test ps i p within))
  where
    last : (c : Bool) → cond c (codes ++ p.code ∷ []) codes ≡ codes ++ map (λ (q : CompiledPolicy). q.code) (cond c (p ∷ []) [])
    last true = refl
    last false = sym (append-nil codes)

-- whether one of the policies has no value
pub any_error_is : (s t u : List Node) (ps : List CompiledPolicy) (ns ms : List ℕ) (n : ℕ)
    → StandForAll t ns (map (λ (p : CompiledPolicy). error (code_at s p.code)) ps) → ms ≡ ns → StandsFor u n (any_of (map (tree t) ms)) → StandsFor u n (any_error (map (compiled_at s) ps))
any_error_is s t u ps ns ms n each same whole = record { within = whole.within; is = whole.is ∙ ap any_of (ap (map (tree t)) same ∙ each.are ∙ errors ps) }
  where
    errors : (qs : List CompiledPolicy) → map (λ (p : CompiledPolicy). error (code_at s p.code)) qs ≡ map (λ (p : Compiled). error p.code) (map (compiled_at s) qs)
    errors [] = refl
    errors (q ∷ qs) = ap (λ (ts : List Tree). error (code_at s q.code) ∷ ts) (errors qs)

-- some permit is satisfied, and no forbid is
pub allow_is : (s t u v w : List Node) (ps : List CompiledPolicy) (a b c n : ℕ) → AreCodes s ps → Keeps s t → Keeps t u → Keeps u v
    → StandsFor t a (any_satisfied (λ (p : Compiled). permits p.effect) (map (compiled_at s) ps))
    → StandsFor u b (any_satisfied (λ (p : Compiled). not (permits p.effect)) (map (compiled_at t) ps))
    → StandsFor v c (not_term (tree u b)) → StandsFor w n (and_term (tree v a) (tree v c)) → StandsFor w n (allow (map (compiled_at s) ps))
allow_is s t u v w ps a b c n are k1 k2 k3 first second negated whole = record {
  within = whole.within;
  is =
      whole.is
      ∙ ap (λ (x : Tree). and_term x (tree v c)) (stands_later t v a (any_satisfied (λ (p : Compiled). permits p.effect) (map (compiled_at s) ps)) (keeps_then t u v k2 k3) first).is
      ∙ ap (and_term (any_satisfied (λ (p : Compiled). permits p.effect) (map (compiled_at s) ps)))
      (negated.is ∙ ap not_term (second.is ∙ ap (any_satisfied (λ (p : Compiled). not (permits p.effect))) (compiled_same s t ps k1 are)));
}

-- ---- policies that are compiled one after the other

abbrev compiled_in : Declarations → Env → List Typed → List Compiled
compiled_in s env ps = all_compiled s env ps

-- one more
pub compiled_more : (s : Declarations) (env : Env) (xs ys : List Node) (policies : List Typed) (i : ℕ) (p : Typed) (ps qs : List CompiledPolicy) (o : Opt)
    → i < length policies → p ≡ get_or policies i p → Keeps xs ys → AreCompiled xs ps (compiled_in s env (take i policies)) → StandsAs ys o (code_of s env p.condition)
    → qs ≡ ps ++ record { effect = p.effect; code = o } ∷ [] → AreCompiled ys qs (compiled_in s env (take (i + 1) policies))
compiled_more s env xs ys policies i p ps qs o within at kept so_far new pushed =
    let one : CompiledPolicy = record { effect = p.effect; code = o } in
    let whole : compiled_in s env (take (i + 1) policies) ≡ compiled_in s env (take i policies) ++ compiled_typed s env p ∷ [] =
    ap (compiled_in s env) (take_more policies i p within) ∙ map-append (compiled_typed s env) (take i policies) (get_or policies i p ∷ [])
    ∙ ap (λ (q : Typed). compiled_in s env (take i policies) ++ compiled_typed s env q ∷ []) (sym at)
    in
    let code : code_at ys o ≡ code_of s env p.condition = code_is ys o (code_of s env p.condition) new in
    subst (λ (rs : List CompiledPolicy). AreCompiled ys rs (compiled_in s env (take (i + 1) policies))) (sym pushed)
    (subst (AreCompiled ys (ps ++ one ∷ [])) (sym whole)
    (record {
      codes = All-push (λ (q : CompiledPolicy). IsCode ys q.code) ps one (codes_later xs ys ps kept so_far.codes) (in_table ys o _ new);
      are =
          map-append (compiled_at ys) ps (one ∷ [])
          ∙ ap (λ (cs : List Compiled). cs ++ compiled_at ys one ∷ []) (compiled_same xs ys ps kept so_far.codes ∙ so_far.are)
          ∙ ap (λ (c : Code). compiled_in s env (take i policies) ++ with_effect p.effect c ∷ []) code;
    }))

-- what the numbers of compiled policies decide is what the policies' codes decide
pub allow_of : (xs ys : List Node) (ps qs : List CompiledPolicy) (cs : List Compiled) (n : ℕ) → AreCompiled xs ps cs → qs ≡ ps → StandsFor ys n (allow (map (compiled_at xs) qs)) → StandsFor ys n (allow cs)
allow_of xs ys ps qs cs n h same k = record { within = k.within; is = k.is ∙ ap allow (ap (map (compiled_at xs)) same ∙ h.are) }

-- ---- one

pub satisfied_of : (xs ys : List Node) (o : Opt) (c : Code) (n : ℕ) → StandsAs xs o c → StandsFor ys n (satisfied (code_at xs o)) → StandsFor ys n (satisfied c)
satisfied_of xs ys o c n h k = subst (λ (d : Code). StandsFor ys n (satisfied d)) (code_is xs o c h) k

pub error_of : (xs ys : List Node) (o : Opt) (c : Code) (n : ℕ) → StandsAs xs o c → StandsFor ys n (error (code_at xs o)) → StandsFor ys n (error c)
error_of xs ys o c n h k = subst (λ (d : Code). StandsFor ys n (error d)) (code_is xs o c h) k
