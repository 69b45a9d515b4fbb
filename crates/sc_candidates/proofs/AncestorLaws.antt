-- What goes with the ancestors of entities, step by step.
use Rattle.std.proofs.Common.{◌≡◌, ℕ, ◌==◌, ◌&&◌, Bool, true, false, List, [], ◌∷◌, flat_map, length, Option, Some, None, IfSome, option_map, refl, sym, ap, ◌∙◌, subst}
use Rattle.std.proofs.lemmas.List.Concat.{flat_map_single}
use Rattle.std.specs.Bool.{then_some}
use Rattle.sc_sorts.specs.declared.sort.Sort.{Sort}
use Rattle.sc_sorts.specs.declared.node.Node.{Node}
use Rattle.sc_sorts.specs.declared.node.UnaryOp.TheVariants as unary
use Rattle.sc_terms.specs.Trees.{Tree, one}
use Rattle.sc_terms.specs.Tables.{tree, Keeps, StandsFor}
use Rattle.sc_rule_laws.specs.Terms.{member, choices_in}
use Rattle.sc_closure_rules.specs.Making.{Puts, stood}
use Rattle.sc_closure_rules.proofs.MakingLaws.{puts_later, puts_nothing, puts_same}
use Rattle.sc_closure_rules.specs.Closure.{memberships, members_by, is_under, ancestors_of, ancestors_up}
use Rattle.sc_candidates.specs.Ancestors.{up_of, entity_of, entity_in, own_in, own_of, is_of, may_hold, held_by, held_entity, held_told, unlisted, if_held, up_entity, up_told}

-- ---- entities by their numbers

-- an entity of ancestors, if it may be among others
pub held_some : (f : ℕ → Tree) (o q : Option ℕ) (n : ℕ) (a : Tree) (t : Option Tree) (b : Bool) → option_map f o ≡ t → o ≡ Some n → b ≡ may_hold a (f n) → q ≡ then_some b n → option_map f q ≡ held_by a t
held_some f o q n a t b is at e r = ap (option_map f) r ∙ by b ∙ ap (λ (c : Bool). then_some c (f n)) e ∙ ap (held_by a) (sym (ap (option_map f) at) ∙ is)
  where
    by : (c : Bool) → option_map f (then_some c n) ≡ then_some c (f n)
    by true = refl
    by false = refl

pub held_none : (f : ℕ → Tree) (o : Option ℕ) (a : Tree) (t : Option Tree) → option_map f o ≡ t → o ≡ None → None ≡ held_by a t
held_none f o a t is at = ap (held_by a) (sym (ap (option_map f) at) ∙ is)

-- and if it is of a sort that lists none
pub unlisted_some : (f : ℕ → Tree) (o q : Option ℕ) (n : ℕ) (t : Option Tree) (b : Bool) → option_map f o ≡ t → o ≡ Some n → b ≡ (length (choices_in (f n)) == 0) → q ≡ then_some b n → option_map f q ≡ unlisted t
unlisted_some f o q n t b is at e r = ap (option_map f) r ∙ by b ∙ ap (λ (c : Bool). then_some c (f n)) e ∙ ap unlisted (sym (ap (option_map f) at) ∙ is)
  where
    by : (c : Bool) → option_map f (then_some c n) ≡ then_some c (f n)
    by true = refl
    by false = refl

pub unlisted_none : (f : ℕ → Tree) (o : Option ℕ) (t : Option Tree) → option_map f o ≡ t → o ≡ None → None ≡ unlisted t
unlisted_none f o t is at = ap unlisted (sym (ap (option_map f) at) ∙ is)

pub then_within : (P : ℕ → Type 0) (q : Option ℕ) (n : ℕ) (b : Bool) → q ≡ then_some b n → P n → IfSome q P
then_within P q n b e h = subst (λ (o : Option ℕ). IfSome o P) (sym e) (by b)
  where
    by : (c : Bool) → IfSome (then_some c n) P
    by true = h
    by false = tt

pub read_some : (P : ℕ → Type 0) (o : Option ℕ) (n : ℕ) → IfSome o P → o ≡ Some n → P n
read_some P o n h e = subst (λ (q : Option ℕ). IfSome q P) e h

-- the entity to which candidates go up, where there is one below
pub up_some : (f : ℕ → Tree) (o q : Option ℕ) (n : ℕ) (t u : Option Tree) → option_map f o ≡ t → o ≡ Some n → option_map f q ≡ u → option_map f q ≡ if_held t u
up_some f o q n t u is at e = e ∙ ap (λ (r : Option Tree). if_held r u) (sym (ap (option_map f) at) ∙ is)

pub up_none : (f : ℕ → Tree) (o : Option ℕ) (t u : Option Tree) → option_map f o ≡ t → o ≡ None → None ≡ if_held t u
up_none f o t u is at = ap (λ (r : Option Tree). if_held r u) (sym (ap (option_map f) at) ∙ is)

-- ---- what is told by them

no_more : (u : Option Tree) → if_held u None ≡ None
no_more (Some t) = refl
no_more None = refl

abbrev nothing_of : Tree → List Tree
nothing_of x = []

none_told : (ts : List Tree) → flat_map nothing_of ts ≡ []
none_told [] = refl
none_told (t ∷ ts) = none_told ts

up_by : (ts : List Tree) (k : Sort) (f e : Tree) (b c : Bool) → flat_map (λ x. members_by (b && c) x (ancestors_of k e)) ts ≡ up_told ts (ancestors_of k f) (if_held (then_some b f) (then_some c e))
up_by ts k f e true true = flat_map_single (λ x. member x (ancestors_of k e)) ts
up_by ts k f e true false = none_told ts
up_by ts k f e false c = none_told ts

up_from : (ts : List Tree) (s : Tree) (own : Sort) (e : Tree) → flat_map (λ x. ancestors_up x s own e) ts ≡ up_told ts s (up_entity s (ancestors_of own e))
up_from ts (one (unary.Ancestors k) f) own e = up_by ts k f e (is_under f own) (length (choices_in e) == 0)
up_from ts _ own e = none_told ts

ups_told : (ts : List Tree) (s a : Tree) → flat_map (λ x. up_of x s a) ts ≡ up_told ts s (up_entity s a)
ups_told ts s (one (unary.Ancestors own) e) = up_from ts s own e
ups_told ts s a = none_told ts ∙ sym (ap (up_told ts s) (no_more (held_entity a s)))

-- those of entities that go up, where there is an entity to which they go, and where there is none
pub puts_up : (old new : List Node) (ns ms : List ℕ) (o : Option ℕ) (e below above : ℕ) (ts : List Tree) → option_map (tree old) o ≡ up_entity (tree old below) (tree old above) → o ≡ Some e
    → Puts old new ns ms (memberships ts (ancestors_of (own_of (tree old below)) (tree old e))) → Puts old new ns ms (flat_map (λ x. up_of x (tree old below) (tree old above)) ts)
puts_up old new ns ms o e below above ts is at p =
    let found : Some (tree old e) ≡ up_entity (tree old below) (tree old above) = sym (ap (option_map (tree old)) at) ∙ is in
    puts_same old new ns ms (memberships ts (ancestors_of (own_of (tree old below)) (tree old e))) (flat_map (λ x. up_of x (tree old below) (tree old above)) ts)
    (ap (up_told ts (tree old below)) found ∙ sym (ups_told ts (tree old below) (tree old above))) p

pub puts_no_up : (xs : List Node) (ns : List ℕ) (o : Option ℕ) (below above : ℕ) (ts : List Tree) → option_map (tree xs) o ≡ up_entity (tree xs below) (tree xs above) → o ≡ None
    → Puts xs xs ns ns (flat_map (λ x. up_of x (tree xs below) (tree xs above)) ts)
puts_no_up xs ns o below above ts is at =
    let found : None ≡ up_entity (tree xs below) (tree xs above) = sym (ap (option_map (tree xs)) at) ∙ is in
    puts_same xs xs ns ns [] (flat_map (λ x. up_of x (tree xs below) (tree xs above)) ts) (ap (up_told ts (tree xs below)) found ∙ sym (ups_told ts (tree xs below) (tree xs above))) (puts_nothing xs ns)

-- and the entities themselves
nothing_held : (a : Tree) (o : Option Tree) → own_in a ≡ None → held_by a o ≡ None
nothing_held a (Some f) e = ap (λ (k : Option Sort). then_some (is_of k f) f) e
nothing_held a None e = refl

held_at : (own : Sort) (e f : Tree) (b : Bool) → members_by b f (ancestors_of own e) ≡ held_told (ancestors_of own e) (then_some b f)
held_at own e f true = refl
held_at own e f false = refl

held_from : (own : Sort) (e b : Tree) → entity_of (ancestors_of own e) b ≡ held_told (ancestors_of own e) (held_entity (ancestors_of own e) b)
held_from own e (one (unary.Ancestors k) f) = held_at own e f (is_under f own)
held_from own e _ = refl

entity_told_is : (a b : Tree) → entity_of a b ≡ held_told a (held_entity a b)
entity_told_is (one (unary.Ancestors own) e) b = held_from own e b
entity_told_is a b = sym (ap (held_told a) (nothing_held a (entity_in b) refl))

pub puts_entity : (old new : List Node) (ns ms : List ℕ) (o : Option ℕ) (e below above : ℕ) → option_map (tree old) o ≡ held_entity (tree old above) (tree old below) → o ≡ Some e
    → Puts old new ns ms (member (tree old e) (tree old above) ∷ []) → Puts old new ns ms (entity_of (tree old above) (tree old below))
puts_entity old new ns ms o e below above is at p =
    let found : Some (tree old e) ≡ held_entity (tree old above) (tree old below) = sym (ap (option_map (tree old)) at) ∙ is in
    puts_same old new ns ms (member (tree old e) (tree old above) ∷ []) (entity_of (tree old above) (tree old below))
    (ap (held_told (tree old above)) found ∙ sym (entity_told_is (tree old above) (tree old below))) p

pub puts_no_entity : (xs : List Node) (ns : List ℕ) (o : Option ℕ) (below above : ℕ) → option_map (tree xs) o ≡ held_entity (tree xs above) (tree xs below) → o ≡ None
    → Puts xs xs ns ns (entity_of (tree xs above) (tree xs below))
puts_no_entity xs ns o below above is at =
    let found : None ≡ held_entity (tree xs above) (tree xs below) = sym (ap (option_map (tree xs)) at) ∙ is in
    puts_same xs xs ns ns [] (entity_of (tree xs above) (tree xs below)) (ap (held_told (tree xs above)) found ∙ sym (entity_told_is (tree xs above) (tree xs below))) (puts_nothing xs ns)

-- those of which each is among an entity's ancestors, whose number is made first
pub puts_among : (old mid new : List Node) (ns ms members : List ℕ) (n : ℕ) (a : Tree) → stood mid members ≡ stood old members → Keeps old mid → StandsFor mid n a
    → Puts mid new ns ms (memberships (stood mid members) (tree mid n)) → Puts old new ns ms (memberships (stood old members) a)
puts_among old mid new ns ms members n a same kept stands p =
    puts_later old mid new ns ms (memberships (stood old members) a) kept
    (puts_same mid new ns ms (memberships (stood mid members) (tree mid n)) (memberships (stood old members) a) (λ i. memberships (same i) (stands.is i)) p)
