-- Numbers put after others, each once.
use Rattle.std.proofs.Common.{◌≡◌, ℕ, ◌+◌, ◌<◌, ◌≤◌, Bool, true, false, cond, ◌||◌, ◌⊎◌, inl, inr, ⊎_elim, List, [], ◌∷◌, ◌++◌, filter, take, length, nat_eq, refl, sym, ap, ◌∙◌, subst, arith}
use Rattle.std.proofs.Common.{length-append, append_assoc, append-nil}
use Rattle.std.proofs.lemmas.List.{take-append-le}
use Rattle.std.proofs.lemmas.Bool.Decides.{nat_tests}
use Rattle.std.specs.List.{AllByRecursion, IsDistinct, list_any}
use Rattle.sc_laws.proofs.BoolLaws.{or_first, or_second}
use Rattle.sc_lists.proofs.ListLaws.{all_append, IsDistinct-filter}
use Rattle.sc_lists.proofs.MemberLaws.{Has-left, Has-last, Has-push}
use Rattle.sc_laws.proofs.NumberLaws.{nat_eq_true}
use Rattle.sc_lists.specs.Members.{Has}
use Rattle.sc_closure_rules.proofs.MemberLaws.{within_push}
use Rattle.sc_closure.specs.Following.{put_one, put_new}

Has-any : (ns : List ℕ) (m : ℕ) → list_any (nat_eq m) ns ≡ true → Has ns m
Has-any [] m h = cc
Has-any (n ∷ ns) m h = by (nat_eq m n) refl (λ k. Has-any ns m k) h
  where
    by : (b : Bool) → nat_eq m n ≡ b → (list_any (nat_eq m) ns ≡ true → Has ns m) → (b || list_any (nat_eq m) ns) ≡ true → Has (n ∷ ns) m
    by true e f k = inl (sym (nat_eq_true m n e))
    by false e f k = inr (f k)

any_Has : (ns : List ℕ) (m : ℕ) → Has ns m → list_any (nat_eq m) ns ≡ true
any_Has [] m h = absurd h
any_Has (n ∷ ns) m (inl e) = let same : nat_eq m n ≡ true = grind (arith, nat_tests) in rw same refl
any_Has (n ∷ ns) m (inr h) = by (nat_eq m n) (any_Has ns m h)
  where
    by : (b : Bool) → list_any (nat_eq m) ns ≡ true → (b || list_any (nat_eq m) ns) ≡ true
    by true e = refl
    by false e = e

module _ (ns : List ℕ) (m : ℕ) where
  one_old : (n : ℕ) → Has ns n → Has (put_one ns m) n
  unfolding put_one
  one_old n h = by (list_any (nat_eq m) ns)
    where
      by : (b : Bool) → Has (cond b ns (ns ++ m ∷ [])) n
      by true = h
      by false = Has-left ns (m ∷ []) n h

  one_there : Has (put_one ns m) m
  unfolding put_one
  one_there = by (list_any (nat_eq m) ns) refl
    where
      by : (b : Bool) → list_any (nat_eq m) ns ≡ b → Has (cond b ns (ns ++ m ∷ [])) m
      by true e = Has-any ns m e
      by false e = Has-last ns m

  pub one_only : (n : ℕ) → Has (put_one ns m) n → Has ns n ⊎ (m ≡ n)
  unfolding put_one
  one_only n h = by (list_any (nat_eq m) ns) h
    where
      by : (b : Bool) → Has (cond b ns (ns ++ m ∷ [])) n → Has ns n ⊎ (m ≡ n)
      by true k = inl k
      by false k = Has-push ns m n k

  one_within : (l : ℕ) → AllByRecursion (λ n. n < l) ns → m < l → AllByRecursion (λ n. n < l) (put_one ns m)
  unfolding put_one
  one_within l h k = by (list_any (nat_eq m) ns)
    where
      by : (b : Bool) → AllByRecursion (λ n. n < l) (cond b ns (ns ++ m ∷ []))
      by true = h
      by false = within_push l m ns h k

  one_take : (i : ℕ) → i ≤ length ns → take i (put_one ns m) ≡ take i ns
  unfolding put_one
  one_take i h = by (list_any (nat_eq m) ns)
    where
      by : (b : Bool) → take i (cond b ns (ns ++ m ∷ [])) ≡ take i ns
      by true = refl
      by false = take-append-le i ns (m ∷ []) h

  one_longer : length ns ≤ length (put_one ns m)
  unfolding put_one
  one_longer = by (list_any (nat_eq m) ns)
    where
      by : (b : Bool) → length ns ≤ length (cond b ns (ns ++ m ∷ []))
      by true = omega arith
      by false = omega (arith, length-append ns (m ∷ []))

pub put_old : (ns ms : List ℕ) (n : ℕ) → Has ns n → Has (put_new ns ms) n
put_old ns [] n h = h
put_old ns (m ∷ ms) n h = put_old (put_one ns m) ms n (one_old ns m n h)

pub put_there : (ns ms : List ℕ) (n : ℕ) → Has ms n → Has (put_new ns ms) n
put_there ns [] n h = absurd h
put_there ns (m ∷ ms) n (inl e) = put_old (put_one ns m) ms n (subst (λ (k : ℕ). Has (put_one ns m) k) e (one_there ns m))
put_there ns (m ∷ ms) n (inr h) = put_there (put_one ns m) ms n h

pub put_only : (ns ms : List ℕ) (n : ℕ) → Has (put_new ns ms) n → Has ns n ⊎ Has ms n
put_only ns [] n h = inl h
put_only ns (m ∷ ms) n h = ⊎_elim (λ i. ⊎_elim inl (λ e. inr (inl e)) (one_only ns m n i)) (λ j. inr (inr j)) (put_only (put_one ns m) ms n h)

pub put_within : (l : ℕ) (ns ms : List ℕ) → AllByRecursion (λ n. n < l) ns → AllByRecursion (λ n. n < l) ms → AllByRecursion (λ n. n < l) (put_new ns ms)
put_within l ns [] h k = h
put_within l ns (m ∷ ms) h k = put_within l (put_one ns m) ms (one_within ns m l h k.0) k.1

-- the first numbers stay in place
pub put_take : (ns ms : List ℕ) (i : ℕ) → i ≤ length ns → take i (put_new ns ms) ≡ take i ns
put_take ns [] i h = refl
put_take ns (m ∷ ms) i h = put_take (put_one ns m) ms i (omega (arith, one_longer ns m)) ∙ one_take ns m i h

pub put_longer : (ns ms : List ℕ) → length ns ≤ length (put_new ns ms)
put_longer ns [] = omega arith
put_longer ns (m ∷ ms) = omega (arith, put_longer (put_one ns m) ms, one_longer ns m)

-- ---- numbers of which none comes twice are put as they are

tells : (m n : ℕ) → nat_eq m n ≡ false → nat_eq n m ≡ false
tells m n h = grind (arith, nat_tests)

apart_push : (acc : List ℕ) (m n : ℕ) → list_any (nat_eq n) acc ≡ false → nat_eq m n ≡ false → list_any (nat_eq n) (acc ++ m ∷ []) ≡ false
apart_push [] m n h k = rw (tells m n k) refl
apart_push (x ∷ xs) m n h k = by (nat_eq n x) (λ e. apart_push xs m n e k) h
  where
    by : (b : Bool) → (list_any (nat_eq n) xs ≡ false → list_any (nat_eq n) (xs ++ m ∷ []) ≡ false) → (b || list_any (nat_eq n) xs) ≡ false → (b || list_any (nat_eq n) (xs ++ m ∷ [])) ≡ false
    by true f e = cc
    by false f e = f e

all_apart : (acc : List ℕ) (m : ℕ) (ns : List ℕ) → AllByRecursion (λ n. list_any (nat_eq n) acc ≡ false) ns → AllByRecursion (λ n. nat_eq m n ≡ false) ns
    → AllByRecursion (λ n. list_any (nat_eq n) (acc ++ m ∷ []) ≡ false) ns
all_apart acc m [] h k = tt
all_apart acc m (n ∷ ns) h k = (apart_push acc m n h.0 k.0, all_apart acc m ns h.1 k.1)

put_distinct : (ns acc : List ℕ) → AllByRecursion (λ n. list_any (nat_eq n) acc ≡ false) ns → IsDistinct nat_eq ns → put_new acc ns ≡ acc ++ ns
unfolding put_one IsDistinct
put_distinct [] acc h k = sym (append-nil acc)
put_distinct (m ∷ ms) acc h k =
    rw h.0 (put_distinct ms (acc ++ m ∷ []) (all_apart acc m ms h.1 k.0) k.1 ∙ append_assoc acc (m ∷ []) ms)

none_before : (ns : List ℕ) → AllByRecursion (λ n. list_any (nat_eq n) [] ≡ false) ns
none_before [] = tt
none_before (n ∷ ns) = (refl, none_before ns)

-- what passes a test has been put
pub all_listed : (p : ℕ → Bool) (ns rest atoms : List ℕ) → rest ≡ [] → IsDistinct nat_eq ns → put_new atoms (filter p rest) ≡ put_new [] (filter p ns) → atoms ≡ filter p ns
all_listed p ns rest atoms e h f =
    let done : put_new atoms (filter p rest) ≡ atoms = ap (λ (l : List ℕ). put_new atoms (filter p l)) e in
    sym done ∙ f ∙ put_distinct (filter p ns) [] (none_before (filter p ns)) (IsDistinct-filter p ns h)

-- ---- each number stays there once

push_distinct : (ns : List ℕ) (m : ℕ) → IsDistinct nat_eq ns → list_any (nat_eq m) ns ≡ false → IsDistinct nat_eq (ns ++ m ∷ [])
unfolding IsDistinct
push_distinct [] m h e = (tt, tt)
push_distinct (x ∷ xs) m h e =
    let first = or_first (nat_eq m x) (list_any (nat_eq m) xs) e in
    let rest = or_second (nat_eq m x) (list_any (nat_eq m) xs) e in
    (all_append (λ y. nat_eq x y ≡ false) xs (m ∷ []) h.0 (tells m x first, tt), push_distinct xs m h.1 rest)

one_distinct : (ns : List ℕ) (m : ℕ) → IsDistinct nat_eq ns → IsDistinct nat_eq (put_one ns m)
unfolding put_one
one_distinct ns m h = by (list_any (nat_eq m) ns) refl
  where
    by : (b : Bool) → list_any (nat_eq m) ns ≡ b → IsDistinct nat_eq (cond b ns (ns ++ m ∷ []))
    by true e = h
    by false e = push_distinct ns m h e

pub put_once : (ns ms : List ℕ) → IsDistinct nat_eq ns → IsDistinct nat_eq (put_new ns ms)
put_once ns [] h = h
put_once ns (m ∷ ms) h = put_once (put_one ns m) ms (one_distinct ns m h)

pub put_first : (ms : List ℕ) → IsDistinct nat_eq (put_new [] ms)
unfolding IsDistinct
put_first ms = put_once [] ms tt

-- no more than both together
one_fewer : (ns : List ℕ) (m : ℕ) → length (put_one ns m) ≤ length ns + 1
unfolding put_one
one_fewer ns m = by (list_any (nat_eq m) ns)
  where
    by : (b : Bool) → length (cond b ns (ns ++ m ∷ [])) ≤ length ns + 1
    by true = omega arith
    by false = omega (arith, length-append ns (m ∷ []))

pub put_fewer : (ns ms : List ℕ) → length (put_new ns ms) ≤ length ns + length ms
put_fewer ns [] = omega arith
put_fewer ns (m ∷ ms) = omega (arith, put_fewer (put_one ns m) ms, one_fewer ns m)

-- ---- a number that comes several times at once

one_again : (ns : List ℕ) (m : ℕ) → Has ns m → put_one ns m ≡ ns
unfolding put_one
one_again ns m h = rw (any_Has ns m h) refl

pub behind_next : (ks rest later : List ℕ) (first n : ℕ) → rest ≡ first ∷ later → first ≡ n → put_new (put_one ks n) later ≡ put_new (put_one ks n) rest
behind_next ks rest later first n e f = rw (e, f) (ap (λ (js : List ℕ). put_new js later) (sym (one_again (put_one ks n) n (one_there ks n))))

pub behind_all : (ks ns rest later left : List ℕ) (n : ℕ) → rest ≡ n ∷ later → ns ≡ put_one ks n → ((js : List ℕ) → put_new (put_one js n) left ≡ put_new (put_one js n) later) → put_new ns left ≡ put_new ks rest
behind_all ks ns rest later left n e f g = rw (e, f) (g ks)
