-- Roles that are taken in one after the other, by numbers, while the table grows.
use Rattle.std.proofs.Common.{◌≡◌, ◌<◌, ℕ, Bool, true, false, inl, inr, ⊎_elim, List, [], ◌∷◌, ◌++◌, flat_map, length, Option, Some, None, is_some, refl, sym, ap, ◌∙◌, subst}
use Rattle.std.proofs.Common.{append_assoc, append-nil}
use Rattle.std.proofs.lemmas.List.{map-append}
use Rattle.std.specs.List.{AllByRecursion}
use Rattle.sc_schema.specs.Declarations.{Declarations}
use Rattle.sc_sorts.specs.declared.sort.Sort.{Sort, Sort-F, out-Sort}
use Rattle.sc_sorts.specs.declared.sort.Sort.TheOpen as s
use Rattle.sc_sorts.specs.declared.node.BinaryOp.TheVariants as binary
use Rattle.sc_sorts.specs.declared.node.ManyOp.TheVariants as manys
use Rattle.sc_sorts.specs.declared.node.Node.{Node}
use Rattle.sc_sorts.specs.declared.node.Node.TheVariants as node
use Rattle.sc_sorts.specs.declared.node.UnaryOp.TheVariants as unary
use Rattle.sc_terms.proofs.TableLaws.{keeps_itself, keeps_then}
use Rattle.sc_terms.specs.Trees.{Tree}
use Rattle.sc_terms.specs.TreeSorts.{tree_sort}
use Rattle.sc_terms.specs.Tables.{tree, node_tree, PartsAreBelow}
use Rattle.sc_rule_laws.specs.Terms.{written}
use Rattle.sc_closure_rules.specs.Making.{Puts, stood}
use Rattle.sc_closure_rules.proofs.MakingLaws.{stood_later}
use Rattle.sc_closure_rules.proofs.MemberLaws.{within_later, within_append}
use Rattle.sc_closure_rules.specs.Closure.{Role, pattern, unless_written, roles, roles_by, roles_in, follow}
use Rattle.sc_closure.specs.declared.roles.Roles.{Roles}
use Rattle.sc_closure.specs.declared.taking.Part.{Part}
use Rattle.sc_closure.specs.declared.taking.Place.{Place}
use Rattle.sc_closure.specs.Following.{pattern_in, Held, AreRoles, IsPartOf, IsPartWithin, Takes, TakesIn, Follows, set_node, is_written, flow_role, common_role, part_in, place_in as place_of, roles_at, roles_by_part}
use Rattle.sc_closure.proofs.HeldLaws.{held_later, held_before}
use Rattle.sc_closure.proofs.TakingLaws.{takes_none, takes_known, takes_then}

-- ---- none, and what is held already

pub takes_nothing : (xs : List Node) (r : Roles) (ls : List ℕ) → AreRoles xs r → Takes xs xs r r [] ls ls
takes_nothing xs r ls are = record { kept = keeps_itself xs; more = []; is = sym (append-nil ls); within = tt; are = are; takes = takes_none (Held xs r) }

pub takes_here : (xs : List Node) (r : Roles) (p : Role) (ls : List ℕ) → AreRoles xs r → Held xs r p → Takes xs xs r r (p ∷ []) ls ls
takes_here xs r p ls are there = record { kept = keeps_itself xs; more = []; is = sym (append-nil ls); within = tt; are = are; takes = takes_known (Held xs r) p there }

-- ---- some, and then more

module _ (a b c : List Node) (r s t : Roles) (ps qs : List Role) (ls ms ns : List ℕ) (x : Takes a b r s ps ls ms) (y : Takes b c s t qs ms ns) where
  stays : stood c x.more ≡ stood b x.more
  stays = stood_later b c y.kept x.more x.within

  together : stood c (x.more ++ y.more) ≡ stood b x.more ++ stood c y.more
  together = map-append (tree c) x.more y.more ∙ ap (λ (l : List Tree). l ++ stood c y.more) stays

  -- roles are taken in one after the other
  pub takes_both : Takes a c r t (ps ++ qs) ls ns
  takes_both = record {
    kept = keeps_then a b c x.kept y.kept;
    more = x.more ++ y.more;
    is = y.is ∙ ap (λ (l : List ℕ). l ++ y.more) x.is ∙ append_assoc ls x.more y.more;
    within = within_append (length c) x.more y.more (within_later (length b) (length c) y.kept.longer x.more x.within) y.within;
    are = y.are;
    takes = subst (TakesIn (Held a r) (Held c t) (ps ++ qs)) (sym together) (takes_then (Held a r) (Held b s) (Held c t) ps qs (stood b x.more) (stood c y.more) x.takes y.takes);
  }

-- the same of equal lists of roles
pub takes_same : (a b : List Node) (r s : Roles) (ps qs : List Role) (ls ms : List ℕ) → ps ≡ qs → Takes a b r s ps ls ms → Takes a b r s qs ls ms
takes_same a b r s ps qs ls ms e x = subst (λ (l : List Role). Takes a b r s l ls ms) e x

-- ---- what a term is by its row

-- a node is a set term
written_at : (xs : List Node) (x : Node) → set_node x ≡ is_some (written (node_tree xs x))
written_at xs (node.Many (manys.Set k) ps) = refl
written_at xs _ = refl

pub written_told : (xs : List Node) (t : Tree) (x : Node) (b : Bool) → t ≡ node_tree xs x → b ≡ set_node x → b ≡ is_some (written t)
written_told xs t x b stands is = is ∙ written_at xs x ∙ ap (λ u. is_some (written u)) (sym stands)

none_of : (o : Option (List Tree)) (p : Role) → is_some o ≡ true → [] ≡ unless_written o p
none_of (Some ts) p h = refl
none_of None p h = cc

one_of : (o : Option (List Tree)) (p : Role) → is_some o ≡ false → p ∷ [] ≡ unless_written o p
one_of (Some ts) p h = cc
one_of None p h = refl

-- what is asked of a set that is a set term has no role, and what is asked of another has one
pub takes_unasked : (xs : List Node) (r : Roles) (s : ℕ) (p : Role) (ls : List ℕ) (b : Bool) → AreRoles xs r → b ≡ is_written (tree xs s) → b ≡ true → Takes xs xs r r (unless_written (written (tree xs s)) p) ls ls
takes_unasked xs r s p ls b are is h = takes_same xs xs r r [] (unless_written (written (tree xs s)) p) ls ls (none_of (written (tree xs s)) p (sym is ∙ h)) (takes_nothing xs r ls are)

pub takes_asked : (xs ys : List Node) (r q : Roles) (s : ℕ) (p : Role) (ls ms : List ℕ) (b : Bool) → b ≡ is_written (tree xs s) → b ≡ false → Takes xs ys r q (p ∷ []) ls ms → Takes xs ys r q (unless_written (written (tree xs s)) p) ls ms
takes_asked xs ys r q s p ls ms b is h x = takes_same xs ys r q (p ∷ []) (unless_written (written (tree xs s)) p) ls ms (one_of (written (tree xs s)) p (sym is ∙ h)) x

-- the same of what is asked of two sets
none_in : (o : Option (List Tree)) (ps : List Role) → is_some o ≡ true → [] ≡ flat_map (λ r. unless_written o r) ps
none_in o [] h = refl
none_in (Some ts) (p ∷ ps) h = none_in (Some ts) ps h
none_in None (p ∷ ps) h = cc

all_in : (o : Option (List Tree)) (ps : List Role) → is_some o ≡ false → ps ≡ flat_map (λ r. unless_written o r) ps
all_in o [] h = refl
all_in (Some ts) (p ∷ ps) h = cc
all_in None (p ∷ ps) h = ap (λ (l : List Role). p ∷ l) (all_in None ps h)

pub takes_uncommon : (xs : List Node) (r : Roles) (s t : ℕ) (ls : List ℕ) (b : Bool) → AreRoles xs r → b ≡ is_written (tree xs t) → b ≡ true → Takes xs xs r r (common_role (tree xs s) (tree xs t)) ls ls
takes_uncommon xs r s t ls b are is h =
    takes_same xs xs r r [] (common_role (tree xs s) (tree xs t)) ls ls (none_in (written (tree xs t)) (flow_role (tree xs s) (tree xs t)) (sym is ∙ h)) (takes_nothing xs r ls are)

pub takes_common : (xs ys : List Node) (r q : Roles) (s t : ℕ) (ls ms : List ℕ) (b : Bool) → b ≡ is_written (tree xs t) → b ≡ false → Takes xs ys r q (flow_role (tree xs s) (tree xs t)) ls ms → Takes xs ys r q (common_role (tree xs s) (tree xs t)) ls ms
takes_common xs ys r q s t ls ms b is h x =
    takes_same xs ys r q (flow_role (tree xs s) (tree xs t)) (common_role (tree xs s) (tree xs t)) ls ms (all_in (written (tree xs t)) (flow_role (tree xs s) (tree xs t)) (sym is ∙ h)) x

part_is_at : (xs : List Node) (n : ℕ) (x : Node) → tree xs n ≡ node_tree xs x → PartsAreBelow (length xs) x → IsPartOf xs n (part_in x)
part_is_at xs n (node.Two binary.Member a s) e h = record { within = h; are = ap roles_in e }
part_is_at xs n (node.Two binary.Subset s t) e h = record { within = h; are = ap roles_in e }
part_is_at xs n (node.Two binary.Common s t) e h = record { within = h; are = ap roles_in e }
part_is_at xs n (node.One (unary.Ancestors own) a) e h = record { within = record { own = own; entity = tree xs a; is = e }; are = refl }
part_is_at xs n (node.One (unary.Like p) a) e h = record { within = tt; are = ap roles_in e ∙ ap (λ (t : Tree). pattern (pattern_in t) ∷ []) (sym e) }
part_is_at xs n _ e h = record { within = tt; are = ap roles_in e }

pub part_is : (xs : List Node) (n : ℕ) (x : Node) (p : Part) → tree xs n ≡ node_tree xs x → PartsAreBelow (length xs) x → p ≡ part_in x → IsPartOf xs n p
part_is xs n x p e h is = subst (IsPartOf xs n) (sym is) (part_is_at xs n x e h)

pub takes_part : (a b : List Node) (r s : Roles) (n : ℕ) (p q : Part) (ls ms : List ℕ) → IsPartOf a n p → p ≡ q → Takes a b r s (roles_by_part a n q) ls ms → Takes a b r s (roles_in (tree a n)) ls ms
takes_part a b r s n p q ls ms is e x = takes_same a b r s (roles_by_part a n q) (roles_in (tree a n)) ls ms (sym (is.are ∙ ap (roles_by_part a n) e)) x

pub part_within : (a : List Node) (n : ℕ) (p q : Part) → IsPartOf a n p → p ≡ q → IsPartWithin a n q
part_within a n p q is e = subst (IsPartWithin a n) e is.within

-- ---- what a term is by its sort

roles_place : (k : Sort-F Sort) (x : Tree) → roles_at x (place_of k) ≡ roles_by k x
roles_place s.String x = refl
roles_place (s.Entity name us) x = refl
roles_place (s.Set member) x = refl
roles_place _ x = refl

pub takes_place : (a b : List Node) (r s : Roles) (n : ℕ) (k : Sort) (p q : Place) (ls ms : List ℕ) → p ≡ q → p ≡ place_of (out-Sort k) → k ≡ tree_sort (tree a n) → Takes a b r s (roles_at (tree a n) q) ls ms
    → Takes a b r s (roles_by (out-Sort (tree_sort (tree a n))) (tree a n)) ls ms
takes_place a b r s n k p q ls ms e is sorted x =
    takes_same a b r s (roles_at (tree a n) q) (roles_by (out-Sort (tree_sort (tree a n))) (tree a n)) ls ms
    (ap (roles_at (tree a n)) (sym e ∙ is ∙ ap (λ (j : Sort). place_of (out-Sort j)) sorted) ∙ roles_place (out-Sort (tree_sort (tree a n))) (tree a n)) x

-- by its sort and by its row
pub takes_roles : (a b c : List Node) (r s t : Roles) (n : ℕ) (ls ms ns : List ℕ) → n < length a → Takes a b r s (roles_by (out-Sort (tree_sort (tree a n))) (tree a n)) ls ms → Takes b c s t (roles_in (tree b n)) ms ns
    → Takes a c r t (roles (tree a n)) ls ns
takes_roles a b c r s t n ls ms ns within x y =
    takes_both a b c r s t (roles_by (out-Sort (tree_sort (tree a n))) (tree a n)) (roles_in (tree a n)) ls ms ns x (subst (λ (z : Tree). Takes b c s t (roles_in z) ms ns) (x.kept.same n within) y)

-- what goes with a term, and then with its roles and those so far
pub follows_all : (d : Declarations) (a b c : List Node) (r s : Roles) (n : ℕ) (ms ns : List ℕ) → n < length a → AreRoles a r → Puts a b [] ms (follow d (tree a n)) → Takes b c r s (roles (tree b n)) ms ns
    → Follows d a c r s n ns
follows_all d a b c r s n ms ns within are p x =
    let takes = subst (λ (z : Tree). TakesIn (Held b r) (Held c s) (roles z) (stood c x.more)) (p.kept.same n within) x.takes in
    record {
      within = subst (AllByRecursion (λ m. m < length c)) (sym (x.is ∙ ap (λ (l : List ℕ). l ++ x.more) p.is))
          (within_append (length c) p.more x.more (within_later (length b) (length c) x.kept.longer p.more p.within) x.within);
      are = x.are;
      first = follow d (tree a n);
      second = stood c x.more;
      stands = ap (stood c) (x.is ∙ ap (λ (l : List ℕ). l ++ x.more) p.is) ∙ map-append (tree c) p.more x.more
          ∙ ap (λ (l : List Tree). l ++ stood c x.more) (stood_later b c x.kept p.more p.within ∙ p.stands);
      follows = refl;
      takes = record {
        old = λ q h. takes.old q (held_later a b p.kept r are q h);
        taken = takes.taken;
        only = λ q h. ⊎_elim (λ i. inl (held_before a b p.kept r are q i)) inr (takes.only q h);
        sound = takes.sound;
        whole = λ q u z h k m. ⊎_elim (λ i. inl (i.0, i.1, held_before a b p.kept r are i.0 i.2, held_before a b p.kept r are i.1 i.3, i.4)) inr (takes.whole q u z h k m);
      };
    }
