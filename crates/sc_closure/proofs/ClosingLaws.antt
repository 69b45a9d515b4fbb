-- Laws of numbers on their way to the closed terms.
use Rattle.std.proofs.Common.{◌≡◌, ℕ, zero, suc, ◌+◌, ◌<◌, ◌≤◌, ◌⊎◌, inl, inr, ⊎_elim, List, [], ◌∷◌, ◌++◌, take, get_or, length, slice_get, Some, None, refl, sym, ◌∙◌, subst, arith}
use Rattle.std.proofs.lemmas.Option.{slice_get_within, get_or_from_slice_get}
use Rattle.std.specs.List.{AllByRecursion}
use Rattle.sc_lists.proofs.MemberLaws.{Has-left, Has-right, Has-append, Has-last, Has-push, Has-map, map-Has, Has-at, Has-from_Contains, Contains-from_Has}
use Rattle.sc_lists.specs.Members.{Has}
use Rattle.sc_schema.specs.declared.declarations.Env.{Env}
use Rattle.sc_schema.specs.Declarations.{Declarations}
use Rattle.sc_sorts.specs.declared.node.Node.{Node}
use Rattle.sc_terms.specs.Trees.{Tree}
use Rattle.sc_terms.specs.Tables.{tree, Keeps}
use Rattle.sc_closure_rules.specs.Making.{stood}
use Rattle.sc_closure_rules.proofs.MakingLaws.{stood_later}
use Rattle.sc_closure_rules.proofs.MemberLaws.{take_sub, take_whole, take_next, within_later, within_Has}
use Rattle.sc_closure_rules.specs.Closure.{follow, half, follow_pair, Role, roles, meet, Closed, of_true, of_goal, of_principal, of_resource, next, pair}
use Rattle.sc_closure.specs.Following.{put_new, seeds, TakesIn, IsClosing, StandsForClosed}
use Rattle.sc_closure_rules.proofs.RoleLaws.{half_has, has_half}
use Rattle.sc_closure.proofs.PuttingLaws.{put_old, put_there, put_only, put_within, put_take}

lift : (xs : List Node) (ns ms : List ℕ) (x : Tree) → ((n : ℕ) → Has ns n → Has ms n) → Has (stood xs ns) x → Has (stood xs ms) x
lift xs ns ms x f h = let k = map-Has (tree xs) ns x h in subst (λ (t : Tree). Has (stood xs ms) t) k.2 (Has-map (tree xs) ms k.0 (f k.0 k.1))

-- what is read at a place
pub place_read : (ns : List ℕ) (i n : ℕ) → Some n ≡ slice_get ns i → (i < length ns) × (get_or ns i n ≡ n)
place_read ns i n h = (slice_get_within ns i n (sym h), get_or_from_slice_get ns i n n (sym h))

pub nothing_read : (ns : List ℕ) (i : ℕ) → None ≡ slice_get ns i → length ns ≤ i
nothing_read [] i h = omega arith
nothing_read (m ∷ ms) zero h = cc
nothing_read (m ∷ ms) (suc i) h = omega (arith, nothing_read ms i h)

module _ (d : Declarations) (env : Env) (goal : Tree) (xs : List Node) (ns : List ℕ) (rs : Role → Type 0) (i n : ℕ) (c : IsClosing d env goal xs ns rs i) (read : Some n ≡ slice_get ns i) where
  pub number_below : n < length xs
  number_below = let r = place_read ns i n read in within_Has (length xs) ns c.within n (Has-at ns i n r.0 r.1)

  pub number_closed : Closed d env goal (tree xs n)
  number_closed = let r = place_read ns i n read in c.sound (tree xs n) (Has-map (tree xs) ns n (Has-at ns i n r.0 r.1))

-- one number more has been followed: what goes with it, and what goes with two roles of which one is its
module _ (d : Declarations) (env : Env) (goal : Tree) (xs ys : List Node) (ns ms : List ℕ) (rs ss : Role → Type 0) (first second : List Tree) (i n : ℕ) (c : IsClosing d env goal xs ns rs i) (e : Keeps xs ys)
    (read : Some n ≡ slice_get ns i) (k : AllByRecursion (λ m. m < length ys) ms) (g : stood ys ms ≡ first ++ second) (follows : first ≡ follow d (tree xs n)) (takes : TakesIn rs ss (roles (tree xs n)) second) where
  h : i < length ns
  h = (place_read ns i n read).0

  f : get_or ns i n ≡ n
  f = (place_read ns i n read).1

  front_is : take (i + 1) ns ≡ take i ns ++ n ∷ []
  front_is = take_next ns i n h f

  here : Has ns n
  here = Has-at ns i n h f

  below : (m : ℕ) → Has ns m → m < length xs
  below = within_Has (length xs) ns c.within

  reached : (m : ℕ) → Has ns m → Closed d env goal (tree xs m)
  reached m p = c.sound (tree xs m) (Has-map (tree xs) ns m p)

  old_or_last : (m : ℕ) → Has (take (i + 1) ns) m → Has (take i ns) m ⊎ (n ≡ m)
  old_or_last m p = Has-push (take i ns) n m (subst (λ (l : List ℕ). Has l m) front_is p)

  old_in_front : (m : ℕ) → Has (take i ns) m → Has (take (i + 1) ns) m
  old_in_front m p = subst (λ (l : List ℕ). Has l m) (sym front_is) (Has-left (take i ns) (n ∷ []) m p)

  last_in_front : Has (take (i + 1) ns) n
  last_in_front = subst (λ (l : List ℕ). Has l n) (sym front_is) (Has-last (take i ns) n)

  stays : stood ys ns ≡ stood xs ns
  stays = stood_later xs ys e ns c.within

  kept : (x : Tree) → Has (stood xs ns) x → Has (stood ys (put_new ns ms)) x
  kept x p = lift ys ns (put_new ns ms) x (put_old ns ms) (subst (λ (l : List Tree). Has l x) (sym stays) p)

  put : (x : Tree) → Has (first ++ second) x → Has (stood ys (put_new ns ms)) x
  put x p = lift ys ms (put_new ns ms) x (put_there ns ms) (subst (λ (l : List Tree). Has l x) (sym g) p)

  put_followed : (x : Tree) → Has (follow d (tree xs n)) x → Has (stood ys (put_new ns ms)) x
  put_followed x p = put x (Has-left first second x (subst (λ (l : List Tree). Has l x) (sym follows) p))

  put_met : (x : Tree) → Has second x → Has (stood ys (put_new ns ms)) x
  put_met x p = put x (Has-right first second x p)

  -- the first numbers stand for what they stood for
  front_stays : take (i + 1) (put_new ns ms) ≡ take (i + 1) ns
  front_stays = put_take ns ms (i + 1) (omega (arith, h))

  front : (m : ℕ) → Has (take (i + 1) (put_new ns ms)) m → Has (take (i + 1) ns) m
  front m p = subst (λ (l : List ℕ). Has l m) front_stays p

  back : (m : ℕ) → Has (take (i + 1) ns) m → Has (take (i + 1) (put_new ns ms)) m
  back m p = subst (λ (l : List ℕ). Has l m) (sym front_stays) p

  same : (m : ℕ) → Has (take (i + 1) ns) m → tree ys m ≡ tree xs m
  same m p = e.same m (below m (take_sub (i + 1) ns m p))

  -- by its number, a term of the front
  found : (x : Tree) → Has (stood ys (take (i + 1) (put_new ns ms))) x → (m : ℕ) × Has (take (i + 1) ns) m × (tree xs m ≡ x)
  found x p =
      let q = map-Has (tree ys) (take (i + 1) (put_new ns ms)) x p in
      let o = front q.0 q.1 in
      (q.0, o, sym (same q.0 o) ∙ q.2)

  in_front : (m : ℕ) → Has (take (i + 1) ns) m → Has (stood ys (take (i + 1) (put_new ns ms))) (tree xs m)
  in_front m p = subst (λ (t : Tree). Has (stood ys (take (i + 1) (put_new ns ms))) t) (same m p) (Has-map (tree ys) (take (i + 1) (put_new ns ms)) m (back m p))

  -- roles
  role_of_old : (p : Role) → rs p → (x : Tree) × Has (stood ys (take (i + 1) (put_new ns ms))) x × Has (roles x) p
  role_of_old p q =
      let o = c.roles_are p q in
      let m = map-Has (tree xs) (take i ns) o.0 o.1 in
      (o.0, subst (λ (t : Tree). Has (stood ys (take (i + 1) (put_new ns ms))) t) m.2 (in_front m.0 (old_in_front m.0 m.1)), o.2)

  roles_are : (p : Role) → ss p → (x : Tree) × Has (stood ys (take (i + 1) (put_new ns ms))) x × Has (roles x) p
  roles_are p q = ⊎_elim (role_of_old p) (λ o. (tree xs n, in_front n last_in_front, o)) (takes.only p q)

  role_at : (m : ℕ) (p : Role) → Has (take (i + 1) ns) m → Has (roles (tree xs m)) p → ss p
  role_at m p q r =
      ⊎_elim (λ o. takes.old p (c.roles_all (tree xs m) p (Has-map (tree xs) (take i ns) m o) r)) (λ o. takes.taken p (subst (λ (l : ℕ). Has (roles (tree xs l)) p) (sym o) r))
      (old_or_last m q)

  roles_all : (x : Tree) (p : Role) → Has (stood ys (take (i + 1) (put_new ns ms))) x → Has (roles x) p → ss p
  roles_all x p q r = let o = found x q in role_at o.0 p o.1 (subst (λ (t : Tree). Has (roles t) p) (sym o.2) r)

  -- what is put is closed
  role_closed : (p : Role) → ss p → (x : Tree) × Closed d env goal x × Has (roles x) p
  role_closed p q =
      let o = roles_are p q in
      let m = found o.0 o.1 in
      (o.0, subst (Closed d env goal) m.2 (reached m.0 (take_sub (i + 1) ns m.0 m.1)), o.2)

  met_sound : (x : Tree) → Has second x → Closed d env goal x
  met_sound x p =
      let q = takes.sound x p in
      let a = role_closed q.0 q.2 in
      let b = role_closed q.1 q.3 in
      pair a.0 b.0 x a.1 b.1 (Contains-from_Has (follow_pair a.0 b.0) x (Has-left (half a.0 b.0) (half b.0 a.0) x (has_half a.0 b.0 x q.0 q.1 a.2 b.2 q.4)))

  sound_new : (x : Tree) → Has (stood ys ms) x → Closed d env goal x
  sound_new x p =
      ⊎_elim (λ q. next (tree xs n) x (reached n here) (Contains-from_Has (follow d (tree xs n)) x (subst (λ (l : List Tree). Has l x) follows q))) (met_sound x)
      (Has-append first second x (subst (λ (l : List Tree). Has l x) g p))

  sound : (x : Tree) → Has (stood ys (put_new ns ms)) x → Closed d env goal x
  sound x p =
      let q = map-Has (tree ys) (put_new ns ms) x p in
      subst (Closed d env goal) q.2
      (⊎_elim (λ o. subst (Closed d env goal) (sym (e.same q.0 (below q.0 o))) (reached q.0 o)) (λ o. sound_new (tree ys q.0) (Has-map (tree ys) ms q.0 o)) (put_only ns ms q.0 q.1))

  followed_at : (m : ℕ) (y : Tree) → Has (take (i + 1) ns) m → Has (follow d (tree xs m)) y → Has (stood ys (put_new ns ms)) y
  followed_at m y p q =
      ⊎_elim (λ o. kept y (c.followed (tree xs m) y (Has-map (tree xs) (take i ns) m o) q)) (λ o. put_followed y (subst (λ (l : ℕ). Has (follow d (tree xs l)) y) (sym o) q))
      (old_or_last m p)

  followed : (x y : Tree) → Has (stood ys (take (i + 1) (put_new ns ms))) x → Has (follow d x) y → Has (stood ys (put_new ns ms)) y
  followed x y p q = let r = found x p in followed_at r.0 y r.1 (subst (λ (t : Tree). Has (follow d t) y) (sym r.2) q)

  met : (p q : Role) (z : Tree) → ss p → ss q → Has (meet p q) z → Has (stood ys (put_new ns ms)) z
  met p q z a b m = ⊎_elim (λ o. kept z (c.met o.0 o.1 z o.2 o.3 o.4)) (put_met z) (takes.whole p q z a b m)

  pub closing_step : IsClosing d env goal ys (put_new ns ms) ss (i + 1)
  closing_step = record {
    within = put_within (length ys) ns ms (within_later (length xs) (length ys) e.longer ns c.within) k;
    started = λ x p. kept x (c.started x p);
    sound = sound;
    followed = followed;
    roles_are = roles_are;
    roles_all = roles_all;
    met = met;
  }

-- nothing has been followed yet
module _ (d : Declarations) (env : Env) (goal : Tree) (xs : List Node) (ms : List ℕ) (h : AllByRecursion (λ n. n < length xs) ms) (e : stood xs ms ≡ seeds d env goal) where
  seeded : (x : Tree) → Has (seeds d env goal) x → Closed d env goal x
  seeded x (inl p) = subst (Closed d env goal) p of_true
  seeded x (inr (inl p)) = subst (Closed d env goal) p of_goal
  seeded x (inr (inr (inl p))) = subst (Closed d env goal) p of_principal
  seeded x (inr (inr (inr (inl p)))) = subst (Closed d env goal) p of_resource
  seeded x (inr (inr (inr (inr p)))) = absurd p

  begun : (n : ℕ) → Has (put_new [] ms) n → Has ms n
  begun n p = ⊎_elim (λ q. absurd q) (λ q. q) (put_only [] ms n p)

  pub closing_start : (rs : Role → Type 0) → ((p : Role) → rs p → ⊥) → IsClosing d env goal xs (put_new [] ms) rs 0
  closing_start rs none = record {
    within = put_within (length xs) [] ms tt h;
    started = λ x p. lift xs ms (put_new [] ms) x (put_there [] ms) (subst (λ (l : List Tree). Has l x) (sym e) p);
    sound = λ x p. seeded x (subst (λ (l : List Tree). Has l x) e (lift xs (put_new [] ms) ms x begun p));
    followed = λ x y p q. absurd p;
    roles_are = λ p q. absurd (none p q);
    roles_all = λ x p q r. absurd q;
    met = λ p q z a b m. absurd (none p a);
  }

-- all have been followed
module _ (d : Declarations) (env : Env) (goal : Tree) (xs : List Node) (ns : List ℕ) (rs : Role → Type 0) (i : ℕ) (c : IsClosing d env goal xs ns rs i) (h : length ns ≤ i) where
  there : (x : Tree) → Has (stood xs ns) x → Has (stood xs (take i ns)) x
  there x p = subst (λ (ms : List ℕ). Has (stood xs ms) x) (sym (take_whole ns i h)) p

  half_there : (x y z : Tree) → Has (stood xs ns) x → Has (stood xs ns) y → Has (half x y) z → Has (stood xs ns) z
  half_there x y z a b m =
      let r = half_has x y z m in
      c.met r.0 r.1 z (c.roles_all x r.0 (there x a) r.2) (c.roles_all y r.1 (there y b) r.3) r.4

  whole : {x : Tree} → Closed d env goal x → Has (stood xs ns) x
  whole of_true = c.started _ (inl refl)
  whole of_goal = c.started _ (inr (inl refl))
  whole of_principal = c.started _ (inr (inr (inl refl)))
  whole of_resource = c.started _ (inr (inr (inr (inl refl))))
  whole (next x y k l) = c.followed x y (there x (whole k)) (Has-from_Contains (follow d x) y l)
  whole (pair x y z k l m) =
      ⊎_elim (half_there x y z (whole k) (whole l)) (half_there y x z (whole l) (whole k)) (Has-append (half x y) (half y x) z (Has-from_Contains (follow_pair x y) z m))

  pub closing_end : StandsForClosed d env goal xs ns
  closing_end = record { within = c.within; sound = c.sound; whole = λ x k. whole k }
