-- What a pass leaves.
use Rattle.std.proofs.Common.{◌≡◌, ◌+◌, ◌<◌, ◌≤◌, ℕ, zero, suc, Bool, true, false, if◌then◌else◌, not, ◌||◌, List, [], ◌∷◌, ◌++◌, Option, Some, None, unwrap_or, length, get_or, map, replicate, set, take, slice_get, refl, sym, ap, subst, ◌∙◌, arith}
use Rattle.std.specs.Prelude.{IsSomeAnd}
use Rattle.std.specs.List.{AllByRecursion}
use Rattle.std.proofs.lemmas.List.{get_or_default, length-append, length-map, length-replicate, length-set, map-append, set-get_or, take_all, take_more_set}
use Rattle.std.proofs.Math.Bool.{beq, or-true}
use Rattle.sc_laws.proofs.BoolLaws.{or_false}
use Rattle.sc_lists.proofs.ListLaws.{all_append, all_always}
use Rattle.sc_goal.proofs.SelectionsLaws.{all_selected}
use Rattle.sc_goal.specs.Properties.{same}
use Rattle.sc_goal.specs.Selections.{selected}
use Rattle.sc_ast.specs.Literals.{literals}
use Rattle.sc_ast.specs.declared.policy.Policy.{Policy}
use Rattle.sc_auth.specs.Decisions.{allows}
use Rattle.sc_schema.specs.declared.declarations.Env.{Env}
use Rattle.sc_schema.specs.Declarations.{environments}
use Rattle.sc_world.specs.declared.world.World.{World}
use Rattle.sc_world.specs.WellFormed.{IsProperWorld, IsWellFormed}
use Rattle.sc_reduction.specs.Marked.{HasWorld}
use Rattle.sc_reduction.specs.Passes.{AreFates, AreSettled, IsFewer, IsPass, IsTried, marked}
use Rattle.sc_reduction.specs.Reductions.{Asked, DecidesAsAll, IsEquivalent, IsFate, IsReduction, kept, stays, without}
use Rattle.sc_reduction.specs.Lines.{IsPrintable}
use Rattle.sc_reduction.specs.Trials.{AlwaysAlike, Finds, TellsApart, Trial}
use Rattle.sc_reduction.specs.declared.fate.Fate.{Fate}
use Rattle.sc_reduction.specs.declared.fate.Fate.TheVariants.{Dropped, Kept, Unproved, TooLarge}
use Rattle.sc_reduction.specs.declared.passes.Pass.{Pass}

-- ---- how many are marked

-- a mark that is taken off is one less
unmarked_one : (marks : List Bool) (place : ℕ) (d : Bool) → place < length marks → get_or marks place d ≡ true → 1 + marked (set marks place false) ≡ marked marks
unmarked_one [] place d within is = absurd (omega (arith, within))
unmarked_one (true ∷ ms) zero d within is = omega arith
unmarked_one (false ∷ ms) zero d within is = absurd (let clash : false ≡ true = is in cc)
unmarked_one (true ∷ ms) (suc place) d within is = let later = unmarked_one ms place d (omega (arith, within)) is in omega (arith, later)
unmarked_one (false ∷ ms) (suc place) d within is = let later = unmarked_one ms place d (omega (arith, within)) is in omega (arith, later)

-- ---- the fates of a pass

fates_more : (r : Asked) (marks : List Bool) (first : ℕ) (fates : List Fate) (fate : Fate) → AreFates r marks first fates → IsFate r marks (first + length fates) fate → AreFates r marks first (fates ++ fate ∷ [])
fates_more r marks first [] fate h here = (subst (λ n. IsFate r marks n fate) (omega arith) here, tt)
fates_more r marks first (f ∷ fs) fate h here = (h.0, fates_more r marks (first + 1) fs fate h.1 (subst (λ n. IsFate r marks n fate) (omega arith) here))

fate_at : (r : Asked) (marks : List Bool) (first place : ℕ) (fates : List Fate) (fate : Fate) → AreFates r marks first fates → slice_get fates place ≡ Some fate → IsFate r marks (first + place) fate
fate_at r marks first place [] fate h e = absurd (let clash : None ≡ Some fate = e in cc)
fate_at r marks first zero (f ∷ fs) fate h e = subst (λ n. IsFate r marks n fate) (omega arith) (subst (IsFate r marks first) (ap (λ (o : Option Fate). unwrap_or o f) e) h.0)
fate_at r marks first (suc place) (f ∷ fs) fate h e = subst (λ n. IsFate r marks n fate) (omega arith) (fate_at r marks (first + 1) place fs fate h.1 e)

-- what the first policies, up to a place, come to
pub record PassSoFar (r : Asked) (start : List Bool) (place : ℕ) (marks : List Bool) (before fates : List Fate) (dropped : Bool) : Type 0 where
  pub one_each : length marks ≡ length r.policies
  pub equivalent : IsEquivalent r marks
  pub worlds_before : AllByRecursion (HasWorld r) before
  pub worlds : AllByRecursion (HasWorld r) fates
  pub fewer : IsFewer dropped start marks
  pub count : length fates ≡ place
  pub marks_are : map stays fates ≡ take place marks
  pub settled : dropped ≡ false → AreFates r marks 0 fates

pub pass_begins : (r : Asked) (marks : List Bool) (before : List Fate) → length marks ≡ length r.policies → IsEquivalent r marks → AllByRecursion (HasWorld r) before → PassSoFar r marks 0 marks before [] false
pass_begins r marks before one_each equivalent worlds = record {
  one_each = one_each;
  equivalent = equivalent;
  worlds_before = worlds;
  worlds = tt;
  fewer = omega arith;
  count = refl;
  marks_are = refl;
  settled = λ e. tt;
}

marks_more : (marks now : List Bool) (place : ℕ) (fates : List Fate) (fate : Fate) → place < length marks → map stays fates ≡ take place marks → now ≡ set marks place (stays fate) → map stays (fates ++ fate ∷ []) ≡ take (place + 1) now
marks_more marks now place fates fate within h is =
    map-append stays fates (fate ∷ []) ∙ ap (λ (ms : List Bool). ms ++ stays fate ∷ []) h ∙ sym (ap (take (place + 1)) is ∙ take_more_set marks place (stays fate) within)

-- one that stays, or that had left
stays_more : (r : Asked) (start : List Bool) (place : ℕ) (marks now : List Bool) (before after fates : List Fate) (fate : Fate) (dropped mark : Bool) → place < length marks → mark ≡ get_or marks place mark → stays fate ≡ mark
    → PassSoFar r start place marks before fates dropped → AllByRecursion (HasWorld r) after → IsTried r marks place now fate → PassSoFar r start (place + 1) now after (fates ++ fate ∷ []) dropped
stays_more r start place marks now before after fates fate dropped mark within is alike h worlds tried =
    let unchanged : now ≡ marks = tried.marks_are ∙ ap (set marks place) (alike ∙ is) ∙ set-get_or marks place mark in
    record {
      one_each = ap length unchanged ∙ h.one_each;
      equivalent = tried.equivalent;
      worlds_before = worlds;
      worlds = all_append (HasWorld r) fates (fate ∷ []) h.worlds (tried.world, tt);
      fewer = subst (IsFewer dropped start) (sym unchanged) h.fewer;
      count = length-append fates (fate ∷ []) ∙ ap (λ n. n + 1) h.count;
      marks_are = marks_more marks now place fates fate within h.marks_are tried.marks_are;
      settled = λ none. subst (λ ms. AreFates r ms 0 (fates ++ fate ∷ [])) (sym unchanged)
          (fates_more r marks 0 fates fate (h.settled none) (subst (λ n. IsFate r marks n fate) (omega (arith, h.count)) tried.fate_true));
    }

-- one that leaves
leaves_more : (r : Asked) (start : List Bool) (place : ℕ) (marks now : List Bool) (before after fates : List Fate) (fate : Fate) (dropped mark : Bool) → place < length marks → mark ≡ get_or marks place mark → mark ≡ true → stays fate ≡ false
    → PassSoFar r start place marks before fates dropped → AllByRecursion (HasWorld r) after → IsTried r marks place now fate → PassSoFar r start (place + 1) now after (fates ++ fate ∷ []) true
leaves_more r start place marks now before after fates fate dropped mark within is marked_here leaves h worlds tried =
    let one_less : 1 + marked (set marks place false) ≡ marked marks = unmarked_one marks place mark within (sym is ∙ marked_here) in
    let less : now ≡ set marks place false = tried.marks_are ∙ ap (set marks place) leaves in
    record {
      one_each = ap length less ∙ length-set marks place false ∙ h.one_each;
      equivalent = tried.equivalent;
      worlds_before = worlds;
      worlds = all_append (HasWorld r) fates (fate ∷ []) h.worlds (tried.world, tt);
      fewer = subst (IsFewer true start) (sym less) (at_most dropped (marked (set marks place false)) (marked marks) (marked start) one_less h.fewer);
      count = length-append fates (fate ∷ []) ∙ ap (λ n. n + 1) h.count;
      marks_are = marks_more marks now place fates fate within h.marks_are tried.marks_are;
      settled = λ none. absurd (let clash : true ≡ false = none in cc);
    }
  where
    at_most : (b : Bool) (less now start : ℕ) → 1 + less ≡ now → (if b then 1 else 0) + now ≤ start → 1 + less ≤ start
    at_most true less now start e h = omega (arith, e, h)
    at_most false less now start e h = omega (arith, e, h)

-- one more policy
pub pass_more : (r : Asked) (start : List Bool) (place : ℕ) (marks now : List Bool) (before after fates more : List Fate) (fate : Fate) (dropped mark stay : Bool) → place < length marks → mark ≡ get_or marks place mark → stay ≡ stays fate
    → more ≡ fates ++ fate ∷ [] → PassSoFar r start place marks before fates dropped → AllByRecursion (HasWorld r) after → IsTried r marks place now fate → PassSoFar r start (place + 1) now after more (dropped || not (beq stay mark))
pass_more r start place marks now before after fates more fate dropped mark stay within is e pushed h worlds tried =
    subst (λ fs. PassSoFar r start (place + 1) now after fs (dropped || not (beq stay mark))) (sym pushed) (by mark stay is e)
  where
    by : (mark stay : Bool) → mark ≡ get_or marks place mark → stay ≡ stays fate → PassSoFar r start (place + 1) now after (fates ++ fate ∷ []) (dropped || not (beq stay mark))
    by true true is e = subst (PassSoFar r start (place + 1) now after (fates ++ fate ∷ [])) (sym (or_false dropped)) (stays_more r start place marks now before after fates fate dropped true within is (sym e) h worlds tried)
    by false false is e = subst (PassSoFar r start (place + 1) now after (fates ++ fate ∷ [])) (sym (or_false dropped)) (stays_more r start place marks now before after fates fate dropped false within is (sym e) h worlds tried)
    by true false is e = subst (PassSoFar r start (place + 1) now after (fates ++ fate ∷ [])) (sym (or-true dropped)) (leaves_more r start place marks now before after fates fate dropped true within is refl (sym e) h worlds tried)
    by false true is e = absurd (let clash : true ≡ false = e ∙ tried.gone false (sym is) in cc)

-- ---- the end of a pass, and of all

pub pass_ends : (r : Asked) (start : List Bool) (place : ℕ) (p : Pass) (before : List Fate) → length p.kept.items ≤ place → PassSoFar r start place p.kept.items before p.fates.items p.dropped → IsPass r p
pass_ends r start place p before all h = record {
  one_each = h.one_each;
  equivalent = h.equivalent;
  worlds = h.worlds;
  settled = λ none. record { marks_are = sym (h.marks_are ∙ take_all place p.kept.items all); fates_true = h.settled none };
}

pub all_kept : (r : Asked) (marks : List Bool) → marks ≡ replicate (length r.policies) true → IsEquivalent r marks
all_kept r marks e =
    subst (IsEquivalent r) (sym e)
    (all_always (DecidesAsAll r (replicate (length r.policies) true)) (λ env w formed. ap (allows w) (all_selected r.policies)) (environments r.schema))

pub first_pass : (r : Asked) (p : Pass) (n : ℕ) → p.kept.items ≡ replicate n true → n ≡ length r.policies → p.fates.items ≡ [] → p.dropped ≡ true → IsPass r p
first_pass r p n marks all none begun = record {
  one_each = ap length marks ∙ length-replicate n true ∙ all;
  equivalent = all_kept r p.kept.items (marks ∙ ap (λ k. replicate k true) all);
  worlds = subst (AllByRecursion (HasWorld r)) (sym none) tt;
  settled = λ settled. absurd (let clash : true ≡ false = sym begun ∙ settled in cc);
}

pub is_reduction : (r : Asked) (p : Pass) → p.dropped ≡ false → IsPass r p → IsReduction r p.fates.items
is_reduction r p none h =
    let s = h.settled none in
    record {
      one_each = sym (length-map p.fates.items stays) ∙ ap length (sym s.marks_are) ∙ h.one_each;
      fates_true = λ place fate at. subst (λ ms. IsFate r ms place fate) s.marks_are (subst (λ n. IsFate r p.kept.items n fate) (omega arith) (fate_at r p.kept.items 0 place p.fates.items fate s.fates_true at));
      equivalent = subst (IsEquivalent r) s.marks_are h.equivalent;
    }

-- the worlds by which policies are kept are made of values
printable_in : (t : Trial) (o : Option Env) (w : World) → IsSomeAnd o (λ env. TellsApart t env w) → IsProperWorld w
printable_in t None w h = absurd h
printable_in t (Some env) w h = h.well_formed.proper

all_printable : (r : Asked) (marks : List Bool) (first : ℕ) (fates : List Fate) → AreFates r marks first fates → AllByRecursion IsPrintable fates
all_printable r marks first [] h = tt
all_printable r marks first (Dropped ∷ fs) h = (tt, all_printable r marks (first + 1) fs h.1)
all_printable r marks first (Kept n w ∷ fs) h = (printable_in (without r marks first) (slice_get (environments r.schema) n) w h.0, all_printable r marks (first + 1) fs h.1)
all_printable r marks first (Unproved n log ∷ fs) h = (tt, all_printable r marks (first + 1) fs h.1)
all_printable r marks first (TooLarge n ∷ fs) h = (tt, all_printable r marks (first + 1) fs h.1)

pub is_printable : (r : Asked) (p : Pass) → p.dropped ≡ false → IsPass r p → AllByRecursion IsPrintable p.fates.items
is_printable r p none h = all_printable r p.kept.items 0 p.fates.items (h.settled none).fates_true

-- ---- one policy

-- those that are marked decide as all do without it
pub still_equivalent : (r : Asked) (marks : List Bool) (place : ℕ) → IsEquivalent r marks → Finds (without r marks place) Dropped → IsEquivalent r (set marks place false)
still_equivalent r marks place h found = both (environments r.schema) h found
  where
    same_is : (a b : Bool) → same a b ≡ true → b ≡ a
    same_is true b e = e
    same_is false true e = absurd (let clash : false ≡ true = e in cc)
    same_is false false e = refl

    both : (envs : List Env) → AllByRecursion (DecidesAsAll r marks) envs → AllByRecursion (AlwaysAlike (without r marks place)) envs → AllByRecursion (DecidesAsAll r (set marks place false)) envs
    both [] h found = tt
    both (env ∷ envs) h found =
        (λ w formed. same_is (allows w (selected marks r.policies)) (allows w (selected (set marks place false) r.policies)) (found.0 w formed) ∙ h.0 w formed, both envs h.1 found.1)

-- what is found of those that are marked and those without the one
pub found_without : (r : Asked) (marks left right fewer seen : List Bool) (place : ℕ) (fate : Fate) → left ≡ marks → seen ≡ marks → right ≡ fewer → fewer ≡ set seen place false
    → Finds (record { schema = r.schema; policies = r.policies; left = left; right = right; budget = r.budget }) fate → Finds (without r marks place) fate
found_without r marks left right fewer seen place fate e f g is h =
    let other : right ≡ set marks place false = g ∙ is ∙ ap (λ ms. set ms place false) f in
    subst (λ ms. Finds (record { schema = r.schema; policies = r.policies; left = ms; right = set marks place false; budget = r.budget }) fate) e
    (subst (λ ms. Finds (record { schema = r.schema; policies = r.policies; left = left; right = ms; budget = r.budget }) fate) other h)

-- what is found of it has a world, where it is kept by one
pub found_world : (r : Asked) (marks : List Bool) (place : ℕ) (fate : Fate) → Finds (without r marks place) fate → HasWorld r fate
found_world r marks place Dropped h = tt
found_world r marks place (Kept n w) h = weaker (slice_get (environments r.schema) n) h
  where
    weaker : (o : Option Env) → IsSomeAnd o (λ env. TellsApart (without r marks place) env w) → IsSomeAnd o (λ env. IsWellFormed r.schema env (literals r.policies) w)
    weaker None k = k
    weaker (Some env) k = k.well_formed
found_world r marks place (Unproved n log) h = tt
found_world r marks place (TooLarge n) h = tt

fate_is : (r : Asked) (marks : List Bool) (place : ℕ) (fate : Fate) → Finds (without r marks place) fate → IsFate r marks place fate
fate_is r marks place Dropped h = tt
fate_is r marks place (Kept n w) h = h
fate_is r marks place (Unproved n log) h = h
fate_is r marks place (TooLarge n) h = h

-- one that had left
pub gone_tried : (r : Asked) (marks : List Bool) (place : ℕ) (m : Bool) → m ≡ get_or marks place m → m ≡ false → IsEquivalent r marks → IsTried r marks place marks Dropped
gone_tried r marks place m is gone h = record {
  marks_are = sym (ap (set marks place) (sym gone ∙ is) ∙ set-get_or marks place m);
  equivalent = h;
  gone = λ d e. refl;
  fate_true = tt;
  world = tt;
}

-- one that stays
pub stays_tried : (r : Asked) (marks : List Bool) (place : ℕ) (m : Bool) (fate : Fate) → place < length marks → m ≡ get_or marks place m → m ≡ true → stays fate ≡ true → IsEquivalent r marks → Finds (without r marks place) fate → IsTried r marks place marks fate
stays_tried r marks place m fate within is here stay h found = record {
  marks_are = sym (ap (set marks place) (stay ∙ sym here ∙ is) ∙ set-get_or marks place m);
  equivalent = h;
  gone = λ d e. absurd (let clash : true ≡ false = sym here ∙ is ∙ sym (get_or_default marks place d m within) ∙ e in cc);
  fate_true = fate_is r marks place fate found;
  world = found_world r marks place fate found;
}

-- one that leaves
pub leaves_tried : (r : Asked) (marks now : List Bool) (place : ℕ) (fate : Fate) → stays fate ≡ false → now ≡ set marks place false → IsEquivalent r marks → Finds (without r marks place) fate → IsTried r marks place now fate
leaves_tried r marks now place Dropped leaves is h found = record {
  marks_are = is;
  equivalent = subst (IsEquivalent r) (sym is) (still_equivalent r marks place h found);
  gone = λ d e. refl;
  fate_true = tt;
  world = tt;
}
leaves_tried r marks now place (Kept n w) leaves is h found = absurd (let clash : true ≡ false = leaves in cc)
leaves_tried r marks now place (Unproved n log) leaves is h found = absurd (let clash : true ≡ false = leaves in cc)
leaves_tried r marks now place (TooLarge n) leaves is h found = absurd (let clash : true ≡ false = leaves in cc)
