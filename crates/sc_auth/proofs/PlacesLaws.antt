-- The places of policies that pass a test.
use Rattle.std.proofs.Common.{◌≡◌, ℕ, ◌+◌, ◌<◌, List, [], ◌∷◌, ◌++◌, length, take, get_or, map, Bool, true, false, ◌&&◌, ◌||◌, not, Ok, Err, is_err, if◌then◌else◌, refl, sym, ap, ◌∙◌, arith, add-zero, zero-add}
use Rattle.std.specs.List.{list_any}
use Rattle.std.proofs.lemmas.List.{take_more, length-map, length-take-le, map-append}
use Rattle.sc_ast.specs.declared.policy.Policy.{Policy}
use Rattle.sc_ast.specs.Conditions.{condition}
use Rattle.sc_values.specs.declared.value.Value.{out-Value}
use Rattle.sc_world.specs.declared.world.World.{World}
use Rattle.sc_eval.specs.Outcomes.{Outcome}
use Rattle.sc_eval.specs.Eval.{eval}
use Rattle.sc_auth.specs.declared.decision.Decision.{Decision}
use Rattle.sc_auth.specs.declared.standing.Standing.{Standing}
use Rattle.sc_auth.specs.declared.standing.Standing.TheVariants.{Satisfied, Unsatisfied}
use Rattle.sc_auth.specs.Decisions.{true_in, is_true, satisfied, errs, permits, is_permitting, is_forbidding, allows, decided, places_from, places}
use Rattle.sc_auth.specs.Standings.{standing_in, standing_of, listed, is_satisfied, has_erred, is_some}

on_if : (b : Bool) (n : ℕ) (xs ys : List ℕ) → (if b then n ∷ xs else xs) ++ ys ≡ (if b then n ∷ (xs ++ ys) else xs ++ ys)
on_if true n xs ys = refl
on_if false n xs ys = refl

one : (b : Bool) (n : ℕ) → (if b then n ∷ [] else []) ≡ listed b n
one true n = refl
one false n = refl

places_from-last : (n : ℕ) (test : Policy → Bool) (ps : List Policy) (p : Policy) → places_from n test (ps ++ p ∷ []) ≡ places_from n test ps ++ listed (test p) (n + length ps)
places_from-last n test [] p = one (test p) n ∙ ap (listed (test p)) (sym (add-zero n))
places_from-last n test (q ∷ ps) p =
    ap (λ ns. if test q then n ∷ ns else ns) (places_from-last (n + 1) test ps p ∙ ap (λ m. places_from (n + 1) test ps ++ listed (test p) m) (omega arith))
    ∙ sym (on_if (test q) n (places_from (n + 1) test ps) (listed (test p) (n + length (q ∷ ps))))

-- one more policy
pub places-more : (test : Policy → Bool) (ps : List Policy) (i : ℕ) (p : Policy) → i < length ps → p ≡ get_or ps i p → places test (take (i + 1) ps) ≡ places test (take i ps) ++ listed (test p) i
places-more test ps i p h e =
    ap (places test) (take_more ps i p h ∙ ap (λ q. take i ps ++ q ∷ []) (sym e))
    ∙ places_from-last 0 test (take i ps) p
    ∙ ap (λ n. places test (take i ps) ++ listed (test p) n) (zero-add (length (take i ps)) ∙ length-take-le i ps (omega arith))

-- ---- how a policy stands

sat : (b : Bool) → is_satisfied (if b then Satisfied else Unsatisfied) ≡ b
sat true = refl
sat false = refl

no_err : (b : Bool) → has_erred (if b then Satisfied else Unsatisfied) ≡ false
no_err true = refl
no_err false = refl

satisfied_in : (o : Outcome) → is_satisfied (standing_in o) ≡ is_true o
satisfied_in (Ok x) = sat (true_in (out-Value x))
satisfied_in (Err e) = refl

erred_in : (o : Outcome) → has_erred (standing_in o) ≡ is_err o
erred_in (Ok x) = no_err (true_in (out-Value x))
erred_in (Err e) = refl

pub is_satisfied-standing_of : (w : World) (p : Policy) → is_satisfied (standing_of w p) ≡ satisfied w p
is_satisfied-standing_of w p = satisfied_in (eval (condition p) w)

pub has_erred-standing_of : (w : World) (p : Policy) → has_erred (standing_of w p) ≡ errs w p
has_erred-standing_of w p = erred_in (eval (condition p) w)

-- ---- whether there are any

some_on : (b : Bool) (n : ℕ) (ns : List ℕ) (c : Bool) → is_some ns ≡ c → is_some (if b then n ∷ ns else ns) ≡ (b || c)
some_on true n ns c h = refl
some_on false n ns c h = h

pub is_some-places_from : (n : ℕ) (test : Policy → Bool) (ps : List Policy) → is_some (places_from n test ps) ≡ list_any test ps
is_some-places_from n test [] = refl
is_some-places_from n test (p ∷ ps) = some_on (test p) n (places_from (n + 1) test ps) (list_any test ps) (is_some-places_from (n + 1) test ps)

-- the decision, from the places of what is satisfied
pub decision_is : (w : World) (ps : List Policy) (d : Decision) (permits forbids : List ℕ) → permits ≡ places (is_permitting w) ps → forbids ≡ places (is_forbidding w) ps
    → d ≡ decided (is_some permits && not (is_some forbids)) → d ≡ decided (allows w ps)
decision_is w ps d permits forbids p f h =
    h ∙ ap (λ b. decided (b && not (is_some forbids))) (ap is_some p ∙ is_some-places_from 0 (is_permitting w) ps)
    ∙ ap (λ b. decided (list_any (is_permitting w) ps && not b)) (ap is_some f ∙ is_some-places_from 0 (is_forbidding w) ps)

-- ---- one more policy is counted

-- as many have been counted as stand before the next one
pub counted : (w : World) (ps : List Policy) (i : ℕ) (ss : List Standing) → i < length ps → ss ≡ map (standing_of w) (take i ps) → length ss ≡ i
counted w ps i ss within before =
    ap (λ (s : List Standing). length s) before ∙ length-map (take i ps) (standing_of w) ∙ length-take-le i ps (omega arith)

more : (test : Policy → Bool) (ps : List Policy) (i : ℕ) (p : Policy) (told : Bool) (old new : List ℕ) (n : ℕ) → i < length ps → p ≡ get_or ps i p → told ≡ test p → n ≡ i
    → old ≡ places test (take i ps) → new ≡ old ++ listed told n → new ≡ places test (take (i + 1) ps)
more test ps i p told old new n within is same placed before after =
    after ∙ ap (λ m. old ++ listed told m) placed ∙ ap (λ ns. ns ++ listed told i) before ∙ ap (λ b. places test (take i ps) ++ listed b i) same ∙ sym (places-more test ps i p within is)

pub permits_more : (w : World) (ps : List Policy) (i : ℕ) (p : Policy) (s : Standing) (old new : List ℕ) (n : ℕ) → i < length ps → p ≡ get_or ps i p → s ≡ standing_of w p → n ≡ i
    → old ≡ places (is_permitting w) (take i ps) → new ≡ old ++ listed (permits p.effect && is_satisfied s) n → new ≡ places (is_permitting w) (take (i + 1) ps)
permits_more w ps i p s old new n within is stands =
    more (is_permitting w) ps i p (permits p.effect && is_satisfied s) old new n within is (ap (λ b. permits p.effect && b) (ap is_satisfied stands ∙ is_satisfied-standing_of w p))

pub forbids_more : (w : World) (ps : List Policy) (i : ℕ) (p : Policy) (s : Standing) (old new : List ℕ) (n : ℕ) → i < length ps → p ≡ get_or ps i p → s ≡ standing_of w p → n ≡ i
    → old ≡ places (is_forbidding w) (take i ps) → new ≡ old ++ listed (not (permits p.effect) && is_satisfied s) n → new ≡ places (is_forbidding w) (take (i + 1) ps)
forbids_more w ps i p s old new n within is stands =
    more (is_forbidding w) ps i p (not (permits p.effect) && is_satisfied s) old new n within is (ap (λ b. not (permits p.effect) && b) (ap is_satisfied stands ∙ is_satisfied-standing_of w p))

pub erring_more : (w : World) (ps : List Policy) (i : ℕ) (p : Policy) (s : Standing) (old new : List ℕ) (n : ℕ) → i < length ps → p ≡ get_or ps i p → s ≡ standing_of w p → n ≡ i
    → old ≡ places (errs w) (take i ps) → new ≡ old ++ listed (has_erred s) n → new ≡ places (errs w) (take (i + 1) ps)
erring_more w ps i p s old new n within is stands =
    more (errs w) ps i p (has_erred s) old new n within is (ap has_erred stands ∙ has_erred-standing_of w p)

pub standings_more : (w : World) (ps : List Policy) (i : ℕ) (p : Policy) (s : Standing) (old new : List Standing) → i < length ps → p ≡ get_or ps i p → s ≡ standing_of w p
    → old ≡ map (standing_of w) (take i ps) → new ≡ old ++ s ∷ [] → new ≡ map (standing_of w) (take (i + 1) ps)
standings_more w ps i p s old new within is stands before after =
    after ∙ ap (λ ss. ss ++ s ∷ []) before ∙ ap (λ z. map (standing_of w) (take i ps) ++ z ∷ []) stands
    ∙ sym (ap (map (standing_of w)) (take_more ps i p within ∙ ap (λ q. take i ps ++ q ∷ []) (sym is)) ∙ map-append (standing_of w) (take i ps) (p ∷ []))
