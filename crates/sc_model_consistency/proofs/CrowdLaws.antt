-- What a counting rule says of strings: of each the other sign of each pattern that is asked, and that two are equal.
use Rattle.std.proofs.Common.{◌≡◌, ◌⊎◌, Bool, true, false, not, inl, inr, List, [], ◌∷◌, map, Option, Some, None, cond, refl, sym, ap, ◌∙◌, subst}
use Rattle.std.specs.List.{flat_map}
use Rattle.sc_laws.proofs.BoolLaws.{never}
use Rattle.sc_lists.proofs.MemberLaws.{Has-left, Has-right, Has-append, Has-flat_map, flat_map-Has, map-Has}
use Rattle.sc_laws.proofs.OptionLaws.{same_some}
use Rattle.sc_lists.specs.Members.{Has}
use Rattle.sc_sorts.specs.declared.node.UnaryOp.TheVariants.{Like}
use Rattle.sc_terms.specs.Folds.{truth_term, equal_term, like_term}
use Rattle.sc_terms.specs.Order.{tree_eq}
use Rattle.sc_terms.specs.Trees.{Tree, one}
use Rattle.sc_terms.proofs.OrderLaws.{tree_eq-exact, tree_eq-itself}
use Rattle.sc_rule_laws.specs.Signed.{Signed, so}
use Rattle.sc_rule_laws.specs.Strings.{Pattern, Signs, HasSign, HasSigns, other_sign, other_signs, some_equal, crowd, asked_of}

-- ---- a sign that is asked of a pattern

abbrev pub Asks : List Pattern → Signs → Pattern → Bool → Type 0
Asks [] v q s = ⊥
Asks (r ∷ qs) [] q s = ⊥
Asks (r ∷ qs) (o ∷ v) q s = ((r ≡ q) × (o ≡ Some s)) ⊎ Asks qs v q s

-- a text that has each has them all
pub all_signs : (qs : List Pattern) (v : Signs) (text : List _) → ((q : Pattern) (s : Bool) → Asks qs v q s → HasSign q (Some s) text) → HasSigns qs v text
unfolding HasSigns
all_signs [] v text h = tt
all_signs (q ∷ qs) [] text h = tt
all_signs (q ∷ qs) (None ∷ v) text h = (tt, all_signs qs v text (λ r s i. h r s (inr i)))
all_signs (q ∷ qs) (Some s ∷ v) text h = (h q s (inl (refl, refl)), all_signs qs v text (λ r z i. h r z (inr i)))

-- ---- signs by a function of patterns

pub sign_of : (f : Pattern → Option Bool) (qs : List Pattern) (q : Pattern) (text : List _) → HasSigns qs (map f qs) text → Has qs q → HasSign q (f q) text
unfolding HasSigns
sign_of f [] q text h i = absurd i
sign_of f (r ∷ qs) q text h (inl e) = subst (λ (z : Pattern). HasSign z (f z) text) e h.0
sign_of f (r ∷ qs) q text h (inr i) = sign_of f qs q text h.1 i

pub asks_value : (f : Pattern → Option Bool) (qs : List Pattern) (q : Pattern) (s : Bool) → Asks qs (map f qs) q s → f q ≡ Some s
asks_value f [] q s h = absurd h
asks_value f (r ∷ qs) q s (inl e) = subst (λ (z : Pattern). f z ≡ Some s) e.0 e.1
asks_value f (r ∷ qs) q s (inr h) = asks_value f qs q s h

-- ---- the first sign that is asked of a pattern

abbrev asking : Pattern → Tree
asking q = one (Like q) (truth_term true)

abbrev is_pattern : Pattern → Pattern → Bool
is_pattern q r = tree_eq (asking q) (asking r)

pattern_is : (q r : Pattern) → is_pattern q r ≡ true → q ≡ r
pattern_is q r e = same_some (ap asked_of (tree_eq-exact (asking q) (asking r) e))

pattern_itself : (q r : Pattern) → q ≡ r → is_pattern q r ≡ true
pattern_itself q r e = subst (λ (z : Pattern). is_pattern q z ≡ true) e (tree_eq-itself (asking q))

abbrev pub sign_for : List Pattern → Signs → Pattern → Option Bool
sign_for [] v r = None
sign_for (q ∷ qs) [] r = None
sign_for (q ∷ qs) (None ∷ v) r = sign_for qs v r
sign_for (q ∷ qs) (Some s ∷ v) r = cond (is_pattern q r) (Some s) (sign_for qs v r)

pub sign_asks : (qs : List Pattern) (v : Signs) (r : Pattern) (s : Bool) → sign_for qs v r ≡ Some s → Asks qs v r s
sign_asks [] v r s e = absurd cc
sign_asks (q ∷ qs) [] r s e = absurd cc
sign_asks (q ∷ qs) (None ∷ v) r s e = inr (sign_asks qs v r s e)
sign_asks (q ∷ qs) (Some z ∷ v) r s e = by (is_pattern q r) refl e (sign_asks qs v r s)
  where
    by : (b : Bool) → is_pattern q r ≡ b → cond b (Some z) (sign_for qs v r) ≡ Some s → (sign_for qs v r ≡ Some s → Asks qs v r s)
        → ((q ≡ r) × (Some z ≡ Some s)) ⊎ Asks qs v r s
    by true f e rest = inl (pattern_is q r f, e)
    by false f e rest = inr (rest e)

pub asks_sign : (qs : List Pattern) (v : Signs) (r : Pattern) (s : Bool) → Asks qs v r s → (z : Bool) × (sign_for qs v r ≡ Some z)
asks_sign [] v r s h = absurd h
asks_sign (q ∷ qs) [] r s h = absurd h
asks_sign (q ∷ qs) (None ∷ v) r s (inl e) = let none : None ≡ Some s = e.1 in absurd cc
asks_sign (q ∷ qs) (None ∷ v) r s (inr h) = asks_sign qs v r s h
asks_sign (q ∷ qs) (Some z ∷ v) r s h = by (is_pattern q r) refl h (asks_sign qs v r s)
  where
    by : (b : Bool) → is_pattern q r ≡ b → ((q ≡ r) × (Some z ≡ Some s)) ⊎ Asks qs v r s
        → (Asks qs v r s → (y : Bool) × (sign_for qs v r ≡ Some y)) → (y : Bool) × (cond b (Some z) (sign_for qs v r) ≡ Some y)
    by true f h rest = (z, refl)
    by false f (inl e) rest = never _ (sym (pattern_itself q r e.0) ∙ f)
    by false f (inr h) rest = rest h

-- ---- what the rule says

other_here : (q : Pattern) (t : Tree) (s : Bool) → Has (other_sign t q (Some s)) (not s, like_term t q)
other_here q t true = inl refl
other_here q t false = inl refl

other_there : (qs : List Pattern) (v : Signs) (t : Tree) (q : Pattern) (s : Bool) → Asks qs v q s → Has (other_signs qs v t) (not s, like_term t q)
other_there [] v t q s h = absurd h
other_there (r ∷ qs) [] t q s h = absurd h
other_there (r ∷ qs) (o ∷ v) t q s (inl e) =
    Has-left (other_sign t r o) (other_signs qs v t) (not s, like_term t q)
    (subst (λ (z : Option Bool). Has (other_sign t r z) (not s, like_term t q)) (sym e.1)
    (subst (λ (z : Pattern). Has (other_sign t z (Some s)) (not s, like_term t q)) (sym e.0) (other_here q t s)))
other_there (r ∷ qs) (o ∷ v) t q s (inr h) = Has-right (other_sign t r o) (other_signs qs v t) (not s, like_term t q) (other_there qs v t q s h)

other_found : (qs : List Pattern) (v : Signs) (t : Tree) (x : Signed) → Has (other_signs qs v t) x
    → (q : Pattern) × (s : Bool) × Asks qs v q s × ((not s, like_term t q) ≡ x)
other_found [] v t x h = absurd h
other_found (r ∷ qs) [] t x h = absurd h
other_found (r ∷ qs) (None ∷ v) t x h = let f = other_found qs v t x h in (f.0, f.1, inr f.2, f.3)
other_found (r ∷ qs) (Some true ∷ v) t x (inl e) = (r, true, inl (refl, refl), e)
other_found (r ∷ qs) (Some true ∷ v) t x (inr h) = let f = other_found qs v t x h in (f.0, f.1, inr f.2, f.3)
other_found (r ∷ qs) (Some false ∷ v) t x (inl e) = (r, false, inl (refl, refl), e)
other_found (r ∷ qs) (Some false ∷ v) t x (inr h) = let f = other_found qs v t x h in (f.0, f.1, inr f.2, f.3)

pub crowd_other : (qs : List Pattern) (v : Signs) (ts : List Tree) (t : Tree) (q : Pattern) (s : Bool) → Has ts t → Asks qs v q s
    → Has (crowd qs v ts) (not s, like_term t q)
crowd_other qs v ts t q s i h =
    Has-left (flat_map (other_signs qs v) ts) (some_equal ts) (not s, like_term t q)
    (Has-flat_map (other_signs qs v) ts t (not s, like_term t q) i (other_there qs v t q s h))

pub crowd_equal : (qs : List Pattern) (v : Signs) (ts : List Tree) (x : Signed) → Has (some_equal ts) x → Has (crowd qs v ts) x
crowd_equal qs v ts x h = Has-right (flat_map (other_signs qs v) ts) (some_equal ts) x h

-- what is so of all that it says
pub crowd_all : (P : Signed → Type 0) (qs : List Pattern) (v : Signs) (ts : List Tree)
    → ((t : Tree) (q : Pattern) (s : Bool) → Has ts t → Asks qs v q s → P (not s, like_term t q)) → ((x : Signed) → Has (some_equal ts) x → P x)
    → (x : Signed) → Has (crowd qs v ts) x → P x
crowd_all P qs v ts other equal x h = by (Has-append (flat_map (other_signs qs v) ts) (some_equal ts) x h)
  where
    by : Has (flat_map (other_signs qs v) ts) x ⊎ Has (some_equal ts) x → P x
    by (inl i) =
        let f = flat_map-Has (other_signs qs v) ts x i in
        let g = other_found qs v f.0 x f.2 in
        subst P g.3 (other f.0 g.0 g.1 f.1 g.2)
    by (inr i) = equal x i

pub equal_all : (P : Signed → Type 0) (ts : List Tree) → ((t u : Tree) → Has ts t → Has ts u → P (so (equal_term t u)))
    → (x : Signed) → Has (some_equal ts) x → P x
equal_all P [] h x i = absurd i
equal_all P (t ∷ ts) h x i =
    by (Has-append (map (λ (u : Tree). so (equal_term t u)) ts) (some_equal ts) x i) (equal_all P ts (λ u w k l. h u w (inr k) (inr l)) x)
  where
    by : Has (map (λ (u : Tree). so (equal_term t u)) ts) x ⊎ Has (some_equal ts) x → (Has (some_equal ts) x → P x) → P x
    by (inl j) rest = let f = map-Has (λ (u : Tree). so (equal_term t u)) ts x j in subst P f.2 (h t f.0 (inl refl) (inr f.1))
    by (inr j) rest = rest j
