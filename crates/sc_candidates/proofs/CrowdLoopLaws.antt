-- What goes with candidates, sets, flows and ancestors, crowd by crowd and number by number, while the table grows.
use Rattle.std.proofs.Common.{◌≡◌, ℕ, ◌+◌, ◌<◌, ◌≤◌, Bool, false, List, [], ◌∷◌, ◌++◌, map, flat_map, take, get_or, length, refl, sym, ap, ◌∙◌, arith}
use Rattle.std.proofs.lemmas.List.Folds.{flat_map-map}
use Rattle.std.specs.List.{AllByRecursion}
use Rattle.sc_lists.proofs.ListLaws.{all_weaker}
use Rattle.sc_sorts.specs.declared.node.Node.{Node}
use Rattle.sc_terms.specs.Order.{tree_eq}
use Rattle.sc_terms.specs.Trees.{Tree}
use Rattle.sc_terms.specs.Tables.{tree, Keeps}
use Rattle.sc_rule_laws.specs.Terms.{member}
use Rattle.sc_closure_rules.specs.Making.{Puts, stood}
use Rattle.sc_closure_rules.proofs.MakingLaws.{stood_later, puts_nothing, puts_then, puts_same}
use Rattle.sc_closure_rules.proofs.MemberLaws.{within_later}
use Rattle.sc_closure_rules.proofs.LoopLaws.{all_next, all_end}
use Rattle.sc_closure_rules.specs.Closure.{memberships, are_linked}
use Rattle.sc_candidates.specs.declared.crowds.Crowd.{Crowd}
use Rattle.sc_candidates.specs.Values.{where_so}
use Rattle.sc_candidates.specs.Crowds.{IsCrowdWithin, IsCrowd, AreCrowds, met_crowd, crowd_told, set_of, flow_of}
use Rattle.sc_candidates.specs.Ancestors.{up_of, entity_of, both_told, ups_of}
use Rattle.sc_candidates.specs.Equations.{Equates, equations_with}
use Rattle.sc_candidates.proofs.EquationLaws.{equates_all, equates_same, equates_then, equates_more}
use Rattle.sc_candidates.proofs.DividedLaws.{item_at}

-- ---- a crowd stays while the table grows

pub crowd_within_later : (l m : ℕ) (c : Crowd) → l ≤ m → IsCrowdWithin l c → IsCrowdWithin m c
crowd_within_later l m c e h = (omega (arith, e, h.0), within_later l m e c.members h.1, within_later l m e c.targets h.2)

pub crowds_within_later : (l m : ℕ) (cs : List Crowd) → l ≤ m → AllByRecursion (IsCrowdWithin l) cs → AllByRecursion (IsCrowdWithin m) cs
crowds_within_later l m cs e h = all_weaker (IsCrowdWithin l) (IsCrowdWithin m) (λ c k. crowd_within_later l m c e k) cs h

module _ (xs ys : List Node) (e : Keeps xs ys) (c : Crowd) (h : IsCrowdWithin (length xs) c) where
  abbrev set_stays : tree ys c.set ≡ tree xs c.set
  set_stays = e.same c.set h.0

  abbrev members_stay : stood ys c.members ≡ stood xs c.members
  members_stay = stood_later xs ys e c.members h.1

  abbrev targets_stay : stood ys c.targets ≡ stood xs c.targets
  targets_stay = stood_later xs ys e c.targets h.2

  crowd_stays : (n s : ℕ) → n < length xs → s < length xs → crowd_told ys (tree ys n) (tree ys s) c ≡ crowd_told xs (tree xs n) (tree xs s) c
  crowd_stays n s n_in s_in =
      let x_stays = e.same n n_in in
      let s_stays = e.same s s_in in
      λ i. where_so (tree_eq (set_stays i) (s_stays i)) (equations_with (members_stay i) (x_stays i) ++ map (member (x_stays i)) (targets_stay i))

  set_of_stays : (t : ℕ) → t < length xs → set_of ys (tree ys t) c ≡ set_of xs (tree xs t) c
  set_of_stays t t_in = let t_stays = e.same t t_in in λ i. where_so (are_linked (set_stays i) (t_stays i)) (memberships (members_stay i) (t_stays i))

  flow_of_stays : (s t : ℕ) → s < length xs → t < length xs → flow_of ys (tree ys s) (tree ys t) c ≡ flow_of xs (tree xs s) (tree xs t) c
  flow_of_stays s t s_in t_in =
      let s_stays = e.same s s_in in
      let t_stays = e.same t t_in in
      λ i. where_so (tree_eq (set_stays i) (s_stays i)) (memberships (members_stay i) (t_stays i))

  ups_stay : (a : ℕ) → a < length xs → ups_of ys (tree ys a) c ≡ ups_of xs (tree xs a) c
  ups_stay a a_in = let a_stays = e.same a a_in in λ i. flat_map (λ x. up_of x (set_stays i) (a_stays i)) (members_stay i)

-- ---- a candidate's own crowd

pub own_told : (s0 s1 s2 : List Node) (ls ms ns : List ℕ) (c : Crowd) (n : ℕ) → IsCrowd s0 c → n < length s0 → Equates s0 s1 ls ms (equations_with (stood s0 c.members) (tree s0 n)) (tree s0 n)
    → Puts s1 s2 ms ns (map (member (tree s1 n)) (stood s1 c.targets)) → Equates s0 s2 ls ns (met_crowd s0 (tree s0 n) c) (tree s0 n)
own_told s0 s1 s2 ls ms ns c n h n_in p q =
    let kept = p.puts.kept in
    let x_stays = kept.same n n_in in
    let targets = stood_later s0 s1 kept c.targets h.within.2 in
    equates_then s0 s1 s2 ls ms ns (equations_with (stood s0 c.members) (tree s0 n)) (map (member (tree s0 n)) (stood s0 c.targets)) (tree s0 n) p
    (equates_all s1 s2 ms ns (map (member (tree s0 n)) (stood s0 c.targets)) (tree s0 n)
    (puts_same s1 s2 ms ns (map (member (tree s1 n)) (stood s1 c.targets)) (map (member (tree s0 n)) (stood s0 c.targets)) (λ i. map (member (x_stays i)) (targets i)) q))

-- the crowd of another set tells nothing
pub other_told : (xs : List Node) (ls : List ℕ) (x s : Tree) (c : Crowd) (b : Bool) → b ≡ tree_eq (tree xs c.set) s → b ≡ false → Equates xs xs ls ls (crowd_told xs x s c) x
other_told xs ls x s c b is e =
    equates_same xs xs ls ls [] (crowd_told xs x s c) x x (ap (λ (t : Bool). where_so t (met_crowd xs x c)) (sym e ∙ is)) refl (equates_all xs xs ls ls [] x (puts_nothing xs ls))

-- ---- crowds, one after the other

module _ (cs : List Crowd) (s0 s1 s2 : List Node) (ls ms ns : List ℕ) (i : ℕ) (c : Crowd) (below : i < length cs) (at : c ≡ get_or cs i c) where
  pub crowds_next : (n s : ℕ) → AreCrowds s0 cs → n < length s0 → s < length s0 → Equates s0 s1 ls ms (flat_map (crowd_told s0 (tree s0 n) (tree s0 s)) (take i cs)) (tree s0 n)
      → Equates s1 s2 ms ns (crowd_told s1 (tree s1 n) (tree s1 s) c) (tree s1 n) → Equates s0 s2 ls ns (flat_map (crowd_told s0 (tree s0 n) (tree s0 s)) (take (i + 1) cs)) (tree s0 n)
  crowds_next n s are n_in s_in p q =
      let kept = p.puts.kept in
      let here = item_at (IsCrowd s0) cs are i c below at in
      equates_more (crowd_told s0 (tree s0 n) (tree s0 s)) cs s0 s1 ls ms i (tree s0 n) p s2 ns c below at
      (equates_same s1 s2 ms ns (crowd_told s1 (tree s1 n) (tree s1 s) c) (crowd_told s0 (tree s0 n) (tree s0 s) c) (tree s1 n) (tree s0 n) (crowd_stays s0 s1 kept c here.within n s n_in s_in) (kept.same n n_in) q)

  module _ (within : AllByRecursion (IsCrowdWithin (length s0)) cs) where
    here : IsCrowdWithin (length s0) c
    here = item_at (IsCrowdWithin (length s0)) cs within i c below at

    pub sets_next : (t : ℕ) → t < length s0 → Puts s0 s1 ls ms (flat_map (set_of s0 (tree s0 t)) (take i cs)) → Puts s1 s2 ms ns (set_of s1 (tree s1 t) c) → Puts s0 s2 ls ns (flat_map (set_of s0 (tree s0 t)) (take (i + 1) cs))
    sets_next t t_in p q =
        all_next (set_of s0 (tree s0 t)) cs s0 s1 ls ms i p s2 ns c below at (puts_same s1 s2 ms ns (set_of s1 (tree s1 t) c) (set_of s0 (tree s0 t) c) (set_of_stays s0 s1 p.kept c here t t_in) q)

    pub flows_next : (s t : ℕ) → s < length s0 → t < length s0 → Puts s0 s1 ls ms (flat_map (flow_of s0 (tree s0 s) (tree s0 t)) (take i cs)) → Puts s1 s2 ms ns (flow_of s1 (tree s1 s) (tree s1 t) c)
        → Puts s0 s2 ls ns (flat_map (flow_of s0 (tree s0 s) (tree s0 t)) (take (i + 1) cs))
    flows_next s t s_in t_in p q =
        all_next (flow_of s0 (tree s0 s) (tree s0 t)) cs s0 s1 ls ms i p s2 ns c below at
        (puts_same s1 s2 ms ns (flow_of s1 (tree s1 s) (tree s1 t) c) (flow_of s0 (tree s0 s) (tree s0 t) c) (flow_of_stays s0 s1 p.kept c here s t s_in t_in) q)

    pub ups_next : (a : ℕ) → a < length s0 → Puts s0 s1 ls ms (flat_map (ups_of s0 (tree s0 a)) (take i cs)) → Puts s1 s2 ms ns (ups_of s1 (tree s1 a) c) → Puts s0 s2 ls ns (flat_map (ups_of s0 (tree s0 a)) (take (i + 1) cs))
    ups_next a a_in p q =
        all_next (ups_of s0 (tree s0 a)) cs s0 s1 ls ms i p s2 ns c below at (puts_same s1 s2 ms ns (ups_of s1 (tree s1 a) c) (ups_of s0 (tree s0 a) c) (ups_stay s0 s1 p.kept c here a a_in) q)

-- ---- numbers, one after the other

-- for each of some numbers, and for each of the terms that they stand for
pub all_stood : (g : Tree → List Tree) (xs : List Node) (ns : List ℕ) → flat_map (λ (n : ℕ). g (tree xs n)) ns ≡ flat_map g (stood xs ns)
all_stood g xs ns = sym (flat_map-map g (tree xs) ns)

module _ (g : List Node → Tree → List Tree) (us : List ℕ) (s0 s1 : List Node) (ls ms : List ℕ) (i : ℕ) where
  pub terms_next : (s2 : List Node) (ns : List ℕ) (u : ℕ) → Puts s0 s1 ls ms (flat_map (λ (n : ℕ). g s0 (tree s0 n)) (take i us)) → i < length us → u ≡ get_or us i u → g s1 (tree s1 u) ≡ g s0 (tree s0 u)
      → Puts s1 s2 ms ns (g s1 (tree s1 u)) → Puts s0 s2 ls ns (flat_map (λ (n : ℕ). g s0 (tree s0 n)) (take (i + 1) us))
  terms_next s2 ns u p below at same q = all_next (λ (n : ℕ). g s0 (tree s0 n)) us s0 s1 ls ms i p s2 ns u below at (puts_same s1 s2 ms ns (g s1 (tree s1 u)) (g s0 (tree s0 u)) same q)

  pub terms_end : Puts s0 s1 ls ms (flat_map (λ (n : ℕ). g s0 (tree s0 n)) (take i us)) → length us ≤ i → Puts s0 s1 ls ms (flat_map (g s0) (stood s0 us))
  terms_end p h =
      puts_same s0 s1 ls ms (flat_map (λ (n : ℕ). g s0 (tree s0 n)) us) (flat_map (g s0) (stood s0 us)) (all_stood (g s0) s0 us) (all_end (λ (n : ℕ). g s0 (tree s0 n)) us s0 s1 ls ms i p h)

-- ---- two that are told one after the other

pub both_put : (s0 s1 s2 : List Node) (ls ms ns : List ℕ) (a b : ℕ) → a < length s0 → b < length s0 → Puts s0 s1 ls ms (entity_of (tree s0 a) (tree s0 b)) → Puts s1 s2 ms ns (entity_of (tree s1 b) (tree s1 a))
    → Puts s0 s2 ls ns (both_told (tree s0 a) (tree s0 b))
both_put s0 s1 s2 ls ms ns a b a_in b_in p q =
    let a_stays = p.kept.same a a_in in
    let b_stays = p.kept.same b b_in in
    puts_then s0 s1 s2 ls ms ns (entity_of (tree s0 a) (tree s0 b)) (entity_of (tree s0 b) (tree s0 a)) p
    (puts_same s1 s2 ms ns (entity_of (tree s1 b) (tree s1 a)) (entity_of (tree s0 b) (tree s0 a)) (λ i. entity_of (b_stays i) (a_stays i)) q)

crowds_stay : (s0 s1 : List Node) (cs : List Crowd) (a : ℕ) → Keeps s0 s1 → a < length s0 → AllByRecursion (IsCrowdWithin (length s0)) cs → flat_map (ups_of s1 (tree s1 a)) cs ≡ flat_map (ups_of s0 (tree s0 a)) cs
crowds_stay s0 s1 [] a e h k = refl
crowds_stay s0 s1 (c ∷ cs) a e h k = let one = ups_stay s0 s1 e c k.0 a h in let all = crowds_stay s0 s1 cs a e h k.1 in λ i. one i ++ all i

pub entity_put : (s0 s1 s2 : List Node) (ls ms ns above : List ℕ) (cs : List Crowd) (a : ℕ) → a < length s0 → AllByRecursion (IsCrowdWithin (length s0)) cs
    → Puts s0 s1 ls ms (flat_map (both_told (tree s0 a)) (stood s0 above)) → Puts s1 s2 ms ns (flat_map (ups_of s1 (tree s1 a)) cs)
    → Puts s0 s2 ls ns (flat_map (both_told (tree s0 a)) (stood s0 above) ++ flat_map (ups_of s0 (tree s0 a)) cs)
entity_put s0 s1 s2 ls ms ns above cs a a_in within p q =
    puts_then s0 s1 s2 ls ms ns (flat_map (both_told (tree s0 a)) (stood s0 above)) (flat_map (ups_of s0 (tree s0 a)) cs) p
    (puts_same s1 s2 ms ns (flat_map (ups_of s1 (tree s1 a)) cs) (flat_map (ups_of s0 (tree s0 a)) cs) (crowds_stay s0 s1 cs a p.kept a_in within) q)
