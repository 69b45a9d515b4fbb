-- How what is kept goes on while things are told in turn.
use Rattle.std.proofs.Common.{◌≡◌, ◌<◌, ◌≤◌, ◌+◌, ◌==◌, ◌&&◌, ◌||◌, ◌⊎◌, inl, inr, ⊎_elim, ℕ, zero, suc, Bool, true, false, not, List, [], ◌∷◌, ◌++◌, length, get_or, slice_get, Option, Some, None, unwrap_or, replicate, set, refl, sym, ap, ◌∙◌, subst, arith}
use Rattle.std.proofs.lemmas.Bool.{eqb-true, eqb-false}
use Rattle.std.specs.Option.{is_none}
use Rattle.std.specs.Bool.{MatchBool}
use Rattle.std.proofs.lemmas.List.{get_or-set_same, get_or-set_other, length-set, length-replicate}
use Rattle.std.specs.List.{AllByRecursion}
use Rattle.sc_lists.specs.Members.{Has}
use Rattle.sc_lists.proofs.MemberLaws.{Has-left, Has-last, Has-push, AllByRecursion-Has, Has-AllByRecursion}
use Rattle.sc_lists.proofs.ListLaws.{all_the_same}
use Rattle.sc_turns.specs.Turns.{parts_at, IsReady, IsNext, InTurn, begins, goes_on, AreThings, AreRanked}
use Rattle.sc_turns.specs.Turning.{among, is_told, IsWaiting, IsLeft, AreAll, IsTurning, IsKept}
use Rattle.sc_turns.specs.declared.turning.Turning.{Turning}

-- ---- tests

bool_cases : (b : Bool) → (b ≡ true) ⊎ (b ≡ false)
bool_cases true = inl refl
bool_cases false = inr refl

same_or_not : (p x : ℕ) → (p ≡ x) ⊎ (p ≡ x → ⊥)
same_or_not p x = ⊎_elim (λ e. inl (eqb-true p x e)) (λ e. inr (eqb-false p x e)) (bool_cases (p == x))

or_cases : (a b : Bool) → (a || b) ≡ true → (a ≡ true) ⊎ (b ≡ true)
or_cases true b h = inl refl
or_cases false b h = inr h

or_right : (a b : Bool) → b ≡ true → (a || b) ≡ true
or_right true b h = refl
or_right false b h = h

or_left : (a b : Bool) → a ≡ true → (a || b) ≡ true
or_left a b h = rw h refl

equal_test : (p : ℕ) → (p == p) ≡ true
equal_test p = ⊎_elim (λ e. e) (λ e. absurd (eqb-false p p e refl)) (bool_cases (p == p))

other_test : (p x : ℕ) → (p ≡ x → ⊥) → not (p == x) ≡ true
other_test p x apart = ⊎_elim (λ e. absurd (apart (eqb-true p x e))) (λ e. ap not e) (bool_cases (p == x))

but_cases : (p x : ℕ) (b : Bool) → (not (p == x) && b) ≡ true → (p ≡ x → ⊥) × (b ≡ true)
but_cases p x b h = by (p == x) refl h
  where
    by : (t : Bool) → (p == x) ≡ t → (not t && b) ≡ true → (p ≡ x → ⊥) × (b ≡ true)
    by true e h = absurd cc
    by false e h = (eqb-false p x e, h)

pub when_false : (P Q : Type 0) (b : Bool) → MatchBool b P Q → b ≡ false → Q
when_false P Q b h e = subst (λ (z : Bool). MatchBool z P Q) e h

-- ---- the parts of a thing

pub own_parts : (parts : List (List ℕ)) (x : ℕ) (own : List ℕ) → slice_get parts x ≡ Some own → parts_at parts x ≡ own
own_parts [] x own e = let f : true ≡ false = ap is_none e in absurd cc
own_parts (y ∷ ys) zero own e = ap (λ (o : Option (List ℕ)). unwrap_or o own) e
own_parts (y ∷ ys) (suc x) own e = own_parts ys x own e

pub no_parts : (parts : List (List ℕ)) (x : ℕ) → slice_get parts x ≡ None → x < length parts → ⊥
no_parts [] x e h = omega (arith, h)
no_parts (y ∷ ys) zero e h = let f : false ≡ true = ap is_none e in absurd cc
no_parts (y ∷ ys) (suc x) e h = no_parts ys x e (omega (arith, h))

-- ---- what was told has its parts told

told_stand : (parts : List (List ℕ)) (all : List ℕ) → InTurn parts all → (y p : ℕ) → Has all y → Has (parts_at parts y) p → Has all p
told_stand parts _ begins y p h m = absurd h
told_stand parts _ (goes_on told x t n) y p h m =
    ⊎_elim
    (λ before. Has-left told (x ∷ []) p (told_stand parts told t y p before m))
    (λ same. Has-left told (x ∷ []) p (AllByRecursion-Has (Has told) (parts_at parts x) p n.ready.stand (subst (λ z. Has (parts_at parts z) p) (sym same) m)))
    (Has-push told x y h)

-- ---- the beginning

pub starts : (parts : List (List ℕ)) (marks : List Bool) (waiting : List (List ℕ)) (ready : ℕ → Bool) (ahead : List ℕ)
    → AreThings parts → marks ≡ replicate (length parts) false → waiting ≡ replicate (length parts) []
    → ((p : ℕ) → ready p ≡ false) → AreAll (length parts) ahead → (told : List ℕ) → told ≡ [] → IsTurning parts told marks waiting ready ahead
starts parts marks waiting ready ahead things m w none all told nothing = subst (λ z. IsTurning parts z marks waiting ready ahead) (sym nothing) (record {
  things = things;
  turn = begins;
  as_marks = ap length m ∙ length-replicate (length parts) false;
  as_lists = ap length w ∙ length-replicate (length parts) [];
  marked = λ p h. absurd (differ p h);
  unmarked = λ p h k has. has;
  sound = λ p h. absurd (never p h);
  waits = λ q p h. absurd (subst (λ z. Has z p) (ap (λ z. get_or z q []) w ∙ all_the_same (length parts) q []) h);
  left = λ p h. (all.within p h, λ has. has);
  whole = λ p h. inr (inr (all.whole p h.0));
})
  where
    differ : (p : ℕ) → is_told marks p ≡ true → ⊥
    differ p h = let e : false ≡ true = sym (ap (λ z. get_or z p false) m ∙ all_the_same (length parts) p false) ∙ h in absurd cc

    never : (p : ℕ) → ready p ≡ true → ⊥
    never p h = let e : false ≡ true = sym (none p) ∙ h in absurd cc

pub one_more_place : (n : ℕ) (places new : List ℕ) → AreAll n places → new ≡ places ++ n ∷ [] → AreAll (n + 1) new
one_more_place n places new all e = record {
  within = λ p h. ⊎_elim (λ k. omega (arith, all.within p k)) (λ same. omega (arith, same)) (Has-push places n p (subst (λ z. Has z p) e h));
  whole = λ p h. subst (λ z. Has z p) (sym e) (at p h (same_or_not p n));
}
  where
    at : (p : ℕ) → p < n + 1 → (p ≡ n) ⊎ (p ≡ n → ⊥) → Has (places ++ n ∷ []) p
    at p h (inl same) = subst (Has (places ++ n ∷ [])) (sym same) (Has-last places n)
    at p h (inr apart) = Has-left places (n ∷ []) p (all.whole p (omega (arith, h, apart)))

-- ---- a thing that is looked at

module _ (parts : List (List ℕ)) (told : List ℕ) (marks : List Bool) (waiting : List (List ℕ)) (ready : ℕ → Bool) (ahead : List ℕ) (x : ℕ)
    (is : IsTurning parts told marks waiting ready (ahead ++ x ∷ [])) where
  x_left : IsLeft parts told x
  x_left = is.left x (Has-last ahead x)

  pub may_be_told : (new : ℕ → Bool) → AllByRecursion (λ p. is_told marks p ≡ true) (parts_at parts x)
      → ((p : ℕ) → new p ≡ ((p == x) || ready p)) → IsTurning parts told marks waiting new ahead
  may_be_told new stand more = record {
    things = is.things;
    turn = is.turn;
    as_marks = is.as_marks;
    as_lists = is.as_lists;
    marked = is.marked;
    unmarked = is.unmarked;
    sound = sound;
    waits = is.waits;
    left = λ p h. is.left p (Has-left ahead (x ∷ []) p h);
    whole = λ p h. ⊎_elim (λ r. inl (more p ∙ or_right (p == x) (ready p) r)) (λ rest. ⊎_elim (λ w. inr (inl w)) (λ a. last p (Has-push ahead x p a)) rest) (is.whole p h);
  }
    where
      own : IsReady parts told x
      own = record { within = x_left.0; new = x_left.1; stand = Has-AllByRecursion (Has told) (parts_at parts x) (λ p h. is.marked p (AllByRecursion-Has (λ p. is_told marks p ≡ true) (parts_at parts x) p stand h)) }

      sound : (p : ℕ) → new p ≡ true → IsReady parts told p
      sound p h = ⊎_elim (λ e. subst (IsReady parts told) (sym (eqb-true p x e)) own) (λ r. is.sound p r) (or_cases (p == x) (ready p) (sym (more p) ∙ h))

      last : (p : ℕ) → Has ahead p ⊎ (x ≡ p) → (new p ≡ true) ⊎ IsWaiting waiting told p ⊎ Has ahead p
      last p (inl a) = inr (inr a)
      last p (inr e) = inl (more p ∙ or_left (p == x) (ready p) (subst (λ z. (p == z) ≡ true) (sym e) (equal_test p)))

  pub has_to_wait : (q : ℕ) (new : List (List ℕ)) → Has (parts_at parts x) q → is_told marks q ≡ false
      → new ≡ set waiting q (get_or waiting q [] ++ x ∷ []) → IsTurning parts told marks new ready ahead
  has_to_wait q new part untold more = record {
    things = is.things;
    turn = is.turn;
    as_marks = is.as_marks;
    as_lists = ap length more ∙ length-set waiting q _ ∙ is.as_lists;
    marked = is.marked;
    unmarked = is.unmarked;
    sound = is.sound;
    waits = λ r p h. waits r p (same_or_not r q) h;
    left = λ p h. is.left p (Has-left ahead (x ∷ []) p h);
    whole = λ p h. ⊎_elim inl (λ rest. ⊎_elim (λ w. inr (inl (still p w))) (λ a. last p (Has-push ahead x p a)) rest) (is.whole p h);
  }
    where
      within : q < length waiting
      within = subst (λ n. q < n) (sym is.as_lists) (is.things x q part)

      here : get_or new q [] ≡ get_or waiting q [] ++ x ∷ []
      here = ap (λ z. get_or z q []) more ∙ get_or-set_same waiting q _ [] within

      there : (r : ℕ) → (r ≡ q → ⊥) → get_or new r [] ≡ get_or waiting r []
      there r apart = ap (λ z. get_or z r []) more ∙ get_or-set_other waiting q r _ [] apart

      kept : (r p : ℕ) → Has (get_or waiting r []) p → (r ≡ q) ⊎ (r ≡ q → ⊥) → Has (get_or new r []) p
      kept r p h (inl e) = subst (λ z. Has (get_or new z []) p) (sym e) (subst (λ z. Has z p) (sym here) (Has-left (get_or waiting q []) (x ∷ []) p (subst (λ z. Has (get_or waiting z []) p) e h)))
      kept r p h (inr apart) = subst (λ z. Has z p) (sym (there r apart)) h

      still : (p : ℕ) → IsWaiting waiting told p → IsWaiting new told p
      still p w = (w.0, kept w.0 p w.1 (same_or_not w.0 q), w.2)

      waits : (r p : ℕ) → (r ≡ q) ⊎ (r ≡ q → ⊥) → Has (get_or new r []) p → (p < length parts) × Has (parts_at parts p) r
      waits r p (inl e) h =
          ⊎_elim (λ k. let old = is.waits q p k in (old.0, subst (λ z. Has (parts_at parts p) z) (sym e) old.1))
          (λ same. (subst (λ z. z < length parts) same x_left.0, subst (λ z. Has (parts_at parts z) r) same (subst (λ z. Has (parts_at parts x) z) (sym e) part)))
          (Has-push (get_or waiting q []) x p (subst (λ z. Has z p) here (subst (λ z. Has (get_or new z []) p) e h)))
      waits r p (inr apart) h = is.waits r p (subst (λ z. Has z p) (there r apart) h)

      last : (p : ℕ) → Has ahead p ⊎ (x ≡ p) → (ready p ≡ true) ⊎ IsWaiting new told p ⊎ Has ahead p
      last p (inl a) = inr (inr a)
      last p (inr e) = inr (inl (q, subst (λ z. Has (get_or new q []) z) e (subst (λ z. Has z x) (sym here) (Has-last (get_or waiting q []) x)), is.unmarked q (is.things x q part) untold))

-- ---- the least thing that may be told is

module _ (parts : List (List ℕ)) (told : List ℕ) (marks : List Bool) (waiting : List (List ℕ)) (ready : ℕ → Bool) (x : ℕ)
    (is : IsTurning parts told marks waiting ready []) (ripe : ready x ≡ true) (least : (p : ℕ) → ready p ≡ true → x ≤ p) where
  own : IsReady parts told x
  own = is.sound x ripe

  no_part : Has (parts_at parts x) x → ⊥
  no_part h = own.new (AllByRecursion-Has (Has told) (parts_at parts x) x own.stand h)

  may : (y : ℕ) → IsReady parts told y → x ≤ y
  may y r =
      ⊎_elim (λ h. least y h)
      (λ rest. ⊎_elim (λ (w : IsWaiting waiting told y). absurd (w.2 (AllByRecursion-Has (Has told) (parts_at parts y) w.0 r.stand (is.waits w.0 y w.1).1))) (λ h. absurd h) rest)
      (is.whole y (r.within, r.new))

  next : IsNext parts told x
  next = record { ready = own; least = may }

  pub goes_on_with : (new_told : List ℕ) (new_marks : List Bool) (new_waiting : List (List ℕ)) (new_ready : ℕ → Bool) (ahead : List ℕ)
      → new_told ≡ told ++ x ∷ [] → new_marks ≡ set marks x true → new_waiting ≡ set waiting x [] → ahead ≡ get_or waiting x []
      → ((p : ℕ) → new_ready p ≡ (not (p == x) && ready p)) → IsTurning parts new_told new_marks new_waiting new_ready ahead
  goes_on_with new_told new_marks new_waiting new_ready ahead as_told as_marked as_waiting as_ahead as_ready = record {
    things = is.things;
    turn = subst (InTurn parts) (sym as_told) (goes_on told x is.turn next);
    as_marks = ap length as_marked ∙ length-set marks x true ∙ is.as_marks;
    as_lists = ap length as_waiting ∙ length-set waiting x [] ∙ is.as_lists;
    marked = λ p h. marked p (same_or_not p x) h;
    unmarked = λ p within h has. unmarked p within (same_or_not p x) h has;
    sound = λ p h. let k = but_cases p x (ready p) (sym (as_ready p) ∙ h) in sound p k.0 (is.sound p k.1);
    waits = λ q p h. waits q p (same_or_not q x) h;
    left = λ p h. left p (subst (λ z. Has z p) as_ahead h);
    whole = λ p h. whole p (before p h);
  }
    where
      in_marks : x < length marks
      in_marks = subst (λ n. x < n) (sym is.as_marks) own.within

      in_lists : x < length waiting
      in_lists = subst (λ n. x < n) (sym is.as_lists) own.within

      old : (p : ℕ) → Has told p → Has new_told p
      old p h = subst (λ z. Has z p) (sym as_told) (Has-left told (x ∷ []) p h)

      split : (p : ℕ) → Has new_told p → Has told p ⊎ (x ≡ p)
      split p h = Has-push told x p (subst (λ z. Has z p) as_told h)

      there : (p : ℕ) → (p ≡ x → ⊥) → is_told new_marks p ≡ is_told marks p
      there p apart = ap (λ z. get_or z p false) as_marked ∙ get_or-set_other marks x p true false apart

      here : is_told new_marks x ≡ true
      here = ap (λ z. get_or z x false) as_marked ∙ get_or-set_same marks x true false in_marks

      marked : (p : ℕ) → (p ≡ x) ⊎ (p ≡ x → ⊥) → is_told new_marks p ≡ true → Has new_told p
      marked p (inl e) h = subst (Has new_told) (sym e) (subst (λ z. Has z x) (sym as_told) (Has-last told x))
      marked p (inr apart) h = old p (is.marked p (sym (there p apart) ∙ h))

      unmarked : (p : ℕ) → p < length parts → (p ≡ x) ⊎ (p ≡ x → ⊥) → is_told new_marks p ≡ false → Has new_told p → ⊥
      unmarked p within (inl e) h has = let f : true ≡ false = sym (ap (is_told new_marks) e ∙ here) ∙ h in absurd cc
      unmarked p within (inr apart) h has = ⊎_elim (λ k. is.unmarked p within (sym (there p apart) ∙ h) k) (λ same. apart (sym same)) (split p has)

      sound : (p : ℕ) → (p ≡ x → ⊥) → IsReady parts told p → IsReady parts new_told p
      sound p apart r = record {
        within = r.within;
        new = λ h. ⊎_elim (λ k. r.new k) (λ same. apart (sym same)) (split p h);
        stand = Has-AllByRecursion (Has new_told) (parts_at parts p) (λ q h. old q (AllByRecursion-Has (Has told) (parts_at parts p) q r.stand h));
      }

      waits : (q p : ℕ) → (q ≡ x) ⊎ (q ≡ x → ⊥) → Has (get_or new_waiting q []) p → (p < length parts) × Has (parts_at parts p) q
      waits q p (inl e) h =
          absurd (subst (λ z. Has z p) (ap (λ z. get_or z x []) as_waiting ∙ get_or-set_same waiting x [] [] in_lists) (subst (λ z. Has (get_or new_waiting z []) p) e h))
      waits q p (inr apart) h = is.waits q p (subst (λ z. Has z p) (ap (λ z. get_or z q []) as_waiting ∙ get_or-set_other waiting x q [] [] apart) h)

      left : (p : ℕ) → Has (get_or waiting x []) p → IsLeft parts new_told p
      left p h =
          let k = is.waits x p h in
          (k.0, λ has. ⊎_elim (λ t. own.new (told_stand parts told is.turn p x t k.1)) (λ same. no_part (subst (λ z. Has (parts_at parts z) x) (sym same) k.1)) (split p has))

      before : (p : ℕ) → IsLeft parts new_told p → IsLeft parts told p × (p ≡ x → ⊥)
      before p h = ((h.0, λ t. h.1 (old p t)), λ e. h.1 (subst (Has new_told) (sym e) (subst (λ z. Has z x) (sym as_told) (Has-last told x))))

      moved : (p : ℕ) (w : IsWaiting waiting told p) → (w.0 ≡ x) ⊎ (w.0 ≡ x → ⊥) → IsWaiting new_waiting new_told p ⊎ Has ahead p
      moved p w (inl e) = inr (subst (λ z. Has z p) (sym as_ahead) (subst (λ z. Has (get_or waiting z []) p) e w.1))
      moved p w (inr apart) =
          inl (
            w.0,
            subst (λ z. Has z p) (sym (ap (λ z. get_or z w.0 []) as_waiting ∙ get_or-set_other waiting x w.0 [] [] apart)) w.1,
            λ h. ⊎_elim (λ k. w.2 k) (λ same. apart (sym same)) (split w.0 h),
          )

      whole : (p : ℕ) → IsLeft parts told p × (p ≡ x → ⊥) → (new_ready p ≡ true) ⊎ IsWaiting new_waiting new_told p ⊎ Has ahead p
      whole p h =
          ⊎_elim (λ r. inl (as_ready p ∙ ap (λ z. z && ready p) (other_test p x h.1) ∙ r))
          (λ rest. ⊎_elim (λ w. inr (moved p w (same_or_not w.0 x))) (λ a. absurd a) rest)
          (is.whole p h.0)

-- ---- a set that has the same places
pub with_ready : (parts : List (List ℕ)) (told : List ℕ) (marks : List Bool) (waiting : List (List ℕ)) (ready new : ℕ → Bool) (ahead : List ℕ)
    → IsTurning parts told marks waiting ready ahead → ((p : ℕ) → ready p ≡ false) → ((p : ℕ) → new p ≡ false)
    → IsTurning parts told marks waiting new ahead
with_ready parts told marks waiting ready new ahead is none still = record {
  things = is.things;
  turn = is.turn;
  as_marks = is.as_marks;
  as_lists = is.as_lists;
  marked = is.marked;
  unmarked = is.unmarked;
  sound = λ p h. let f : false ≡ true = sym (still p) ∙ h in absurd cc;
  waits = is.waits;
  left = is.left;
  whole = λ p h. ⊎_elim (λ r. let f : false ≡ true = sym (none p) ∙ r in absurd cc) inr (is.whole p h);
}

-- ---- the end

rise : (parts : List (List ℕ)) (told : List ℕ) (marks : List Bool) (waiting : List (List ℕ)) (ready : ℕ → Bool) (rank : ℕ → ℕ)
    → IsTurning parts told marks waiting ready [] → ((p : ℕ) → ready p ≡ false) → AreRanked parts rank
    → (k x : ℕ) → rank x < k → x < length parts → (b : Bool) → is_told marks x ≡ b → Has told x
rise parts told marks waiting ready rank is none ranked zero x low within b e = absurd (omega (arith, low))
rise parts told marks waiting ready rank is none ranked (suc k) x low within true e = is.marked x e
rise parts told marks waiting ready rank is none ranked (suc k) x low within false e =
    let untold : Has told x → ⊥ = is.unmarked x within e in
    ⊎_elim (λ r. let f : false ≡ true = sym (none x) ∙ r in absurd cc)
    (λ rest. ⊎_elim (λ (w : IsWaiting waiting told x).
    let at = is.waits w.0 x w.1 in
    absurd (w.2 (rise parts told marks waiting ready rank is none ranked k w.0 (omega (arith, low, ranked x w.0 at.1)) (is.things x w.0 at.1) (is_told marks w.0) refl)))
    (λ h. absurd h) rest)
    (is.whole x (within, untold))

pub all_told : (parts : List (List ℕ)) (told : List ℕ) (marks : List Bool) (waiting : List (List ℕ)) (ready : ℕ → Bool) (ahead : List ℕ)
    → IsTurning parts told marks waiting ready ahead → ahead ≡ [] → ((p : ℕ) → ready p ≡ false)
    → (rank : ℕ → ℕ) → AreRanked parts rank → (x : ℕ) → x < length parts → Has told x
all_told parts told marks waiting ready ahead is e none rank ranked x within =
    rise parts told marks waiting ready rank (subst (IsTurning parts told marks waiting ready) e is) none ranked (suc (rank x)) x (omega arith) within (is_told marks x) refl

pub whole_told : (parts : List (List ℕ)) (state : Turning) → IsKept state → state.parts ≡ parts → state.ahead.items ≡ [] → ((p : ℕ) → among state.ready p ≡ false)
    → (rank : ℕ → ℕ) → AreRanked parts rank → (x : ℕ) → x < length parts → Has state.told x
whole_told parts state kept same e none =
    subst (λ ps. (rank : ℕ → ℕ) → AreRanked ps rank → (x : ℕ) → x < length ps → Has state.told x) same
    (all_told state.parts state.told state.marks.items state.waiting.items (among state.ready) state.ahead.items kept e none)
