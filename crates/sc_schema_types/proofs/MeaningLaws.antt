-- What common types stand for, as they are taken in an order in which each names earlier ones alone.
use Rattle.std.proofs.Common.{◌≡◌, ◌<◌, ◌⊎◌, ℕ, List, [], ◌∷◌, ◌++◌, length, take, get_or, Bool, true, false, cond, Option, Some, None, option_map, unwrap_or, Contains, refl, sym, ap, ◌∙◌, inl, inr, subst, arith, append_assoc, append-nil}
use Rattle.std.proofs.Math.Path.{fun_ext}
use Rattle.std.specs.BTreeMap.{is_at}
use Rattle.std.specs.List.{All, fold}
use Rattle.std.proofs.lemmas.List.{take_at, get_or_at, length-append}
use Rattle.std.proofs.lemmas.List.Elements.{All-contains, Contains-append_left, Contains-push_cases}
use Rattle.sc_lists.proofs.ListLaws.{contains_nothing}
use Rattle.sc_names.specs.Uids.{text_cmp}
use Rattle.sc_schema.specs.declared.ty.Ty.{Ty}
use Rattle.sc_schema.specs.declared.ty.Ty.TheVariants as ty
use Rattle.sc_schema.specs.declared.resolved_type.ResolvedType.{ResolvedType}
use Rattle.sc_schema_types.specs.References.{Names, Bodies, Graph, references, names_in}
use Rattle.sc_schema_types.specs.Orders.{LeadsBack}
use Rattle.sc_schema_types.specs.Expansions.{Kinds, Meaning, expanded}
use Rattle.sc_schema_types.specs.Tables.{changed, with_body, meaning_by}
use Rattle.sc_schema_types.proofs.AgreeLaws.{Agree, same_expanded}
use Rattle.sc_schema_types.proofs.TextsLaws.{at_same, same_at, has_or_not}

-- ---- what stands where in an order

leads_back_at : (graph : Graph) (front : Names) (x : List ℕ) (rest : Names) → LeadsBack graph (front ++ x ∷ rest) → All (Contains front) (graph x)
leads_back_at graph front x rest h =
    let inside : length front < length (front ++ x ∷ rest) = omega (arith, length-append front (x ∷ rest)) in
    let before : take (length front) (front ++ x ∷ rest) ≡ front = take_at front (x ∷ rest) (length front) refl in
    let here : get_or (front ++ x ∷ rest) (length front) [] ≡ x = get_or_at front x rest [] (length front) refl in
    subst (λ (y : List ℕ). All (Contains front) (graph y)) here
    (subst (λ (names : Names). All (Contains names) (graph (get_or (front ++ x ∷ rest) (length front) []))) before (h (length front) inside))

-- each name leads to some of them
pub record AreClosed (graph : Graph) (names : Names) : Type 0 where
  pub closed : (q : List ℕ) → Contains names q → All (Contains names) (graph q)

wider : (names : Names) (x : List ℕ) (qs : Names) → All (Contains names) qs → All (Contains (names ++ x ∷ [])) qs
wider names x qs h k d within = Contains-append_left names (x ∷ []) (get_or qs k d) (h k d within)

closed_push : (graph : Graph) (front : Names) (x : List ℕ) → AreClosed graph front → All (Contains front) (graph x) → AreClosed graph (front ++ x ∷ [])
closed_push graph front x h new = record { closed = λ q has. pick q (Contains-push_cases front x q has) } where
  pick : (q : List ℕ) → Contains front q ⊎ (x ≡ q) → All (Contains (front ++ x ∷ [])) (graph q)
  pick q (inl has) = wider front x (graph q) (h.closed q has)
  pick q (inr is) = subst (λ (y : List ℕ). All (Contains (front ++ x ∷ [])) (graph y)) is (wider front x (graph x) new)

-- ---- one common type after the other

pub names_of_body : (bodies : Bodies) (q : List ℕ) (body : ResolvedType) → bodies q ≡ Some body → references bodies q ≡ names_in body
names_of_body bodies q body is = ap (λ (o : Option ResolvedType). unwrap_or (option_map names_in o) []) is

-- what those of these names that have bodies stand for
pub record AreMeant (k : Kinds) (bodies : Bodies) (m : Meaning) (names : Names) : Type 0 where
  pub meant : (q : List ℕ) (body : ResolvedType) → Contains names q → bodies q ≡ Some body → m q ≡ expanded k m body

-- a name that isn't among these keeps what the others stand for
pub others_same : (m : Meaning) (names : Names) (x : List ℕ) (u : Ty) → (Contains names x → ⊥) → Agree (changed m x u) m names
others_same m names x u new = record { same = λ q has. pick q has (is_at (text_cmp x) q) refl } where
  pick : (q : List ℕ) → Contains names q → (b : Bool) → is_at (text_cmp x) q ≡ b → cond b u (m q) ≡ m q
  pick q has true at = absurd (new (subst (Contains names) (sym (at_same x q at)) has))
  pick q has false at = refl

changed_here : (m : Meaning) (x : List ℕ) (u : Ty) → changed m x u x ≡ u
changed_here m x u = ap (λ (b : Bool). cond b u (m x)) (same_at x x refl)

changed_nothing : (m : Meaning) (x : List ℕ) (u : Ty) → m x ≡ u → changed m x u ≡ m
changed_nothing m x u is = fun_ext (λ q. pick q (is_at (text_cmp x) q) refl) where
  pick : (q : List ℕ) (b : Bool) → is_at (text_cmp x) q ≡ b → cond b u (m q) ≡ m q
  pick q true at = sym is ∙ ap m (at_same x q at)
  pick q false at = refl

module _ (k : Kinds) (bodies : Bodies) (m : Meaning) (front : Names) (x : List ℕ) (closed : AreClosed (references bodies) front) (leads : All (Contains front) (references bodies x)) (h : AreMeant k bodies m front) where
  abbrev next : Meaning
  next = with_body bodies (expanded k) m x

  without_body : bodies x ≡ None → next ≡ m
  without_body none = ap (λ (o : Option ResolvedType). unwrap_or (option_map (λ b. changed m x (expanded k m b)) o) m) none

  with_this_body : (body : ResolvedType) → bodies x ≡ Some body → next ≡ changed m x (expanded k m body)
  with_this_body body some = ap (λ (o : Option ResolvedType). unwrap_or (option_map (λ b. changed m x (expanded k m b)) o) m) some

  abbrev Goal : Meaning → Type 0
  Goal n = AreMeant k bodies n (front ++ x ∷ [])

  goal_none : bodies x ≡ None → Goal m
  goal_none none = record { meant = λ q body has some. pick q body (Contains-push_cases front x q has) some } where
    pick : (q : List ℕ) (body : ResolvedType) → Contains front q ⊎ (x ≡ q) → bodies q ≡ Some body → m q ≡ expanded k m body
    pick q body (inl has) some = h.meant q body has some
    pick q body (inr is) some = absurd (let no : Some body ≡ None = sym some ∙ ap bodies (sym is) ∙ none in cc)

  goal_again : (body : ResolvedType) → bodies x ≡ Some body → Contains front x → Goal m
  goal_again body some again = record { meant = λ q b has is. pick q b (Contains-push_cases front x q has) is } where
    pick : (q : List ℕ) (b : ResolvedType) → Contains front q ⊎ (x ≡ q) → bodies q ≡ Some b → m q ≡ expanded k m b
    pick q b (inl has) is = h.meant q b has is
    pick q b (inr same) is = h.meant q b (subst (Contains front) same again) is

  abbrev put : ResolvedType → Meaning
  put body = changed m x (expanded k m body)

  module _ (body : ResolvedType) (some : bodies x ≡ Some body) (new : Contains front x → ⊥) where
    agree : Agree (put body) m front
    agree = others_same m front x (expanded k m body) new

    inside : (q : List ℕ) (b : ResolvedType) → All (Contains front) (references bodies q) → bodies q ≡ Some b → expanded k (put body) b ≡ expanded k m b
    inside q b all is =
        same_expanded k (put body) m b
        (record { same = λ r has. agree.same r (All-contains (Contains front) (names_in b) r (subst (All (Contains front)) (names_of_body bodies q b is) all) has) })

    here : (q : List ℕ) (b : ResolvedType) → Contains front q ⊎ (x ≡ q) → bodies q ≡ Some b → put body q ≡ expanded k (put body) b
    here q b (inl has) is = agree.same q has ∙ h.meant q b has is ∙ sym (inside q b (closed.closed q has) is)
    here q b (inr same) is =
        let found : bodies x ≡ Some b = ap bodies same ∙ is in
        let one : Some body ≡ Some b = sym some ∙ found in
        let same_body : body ≡ b = cc in
        ap (put body) (sym same) ∙ changed_here m x (expanded k m body) ∙ ap (expanded k m) same_body ∙ sym (inside x b leads found)

    goal_new : Goal (put body)
    goal_new = record { meant = λ q b has is. here q b (Contains-push_cases front x q has) is }

  goal_some : (body : ResolvedType) → bodies x ≡ Some body → Contains front x ⊎ (Contains front x → ⊥) → Goal (put body)
  goal_some body some (inl again) = subst Goal (sym (changed_nothing m x (expanded k m body) (h.meant x body again some))) (goal_again body some again)
  goal_some body some (inr new) = goal_new body some new

  goal_by : (o : Option ResolvedType) → bodies x ≡ o → Goal next
  goal_by None none = subst Goal (sym (without_body none)) (goal_none none)
  goal_by (Some body) some = subst Goal (sym (with_this_body body some)) (goal_some body some (has_or_not front x))

  pub meant_push : AreMeant k bodies next (front ++ x ∷ [])
  meant_push = goal_by (bodies x) refl

-- ---- and all of them

meant_rest : (k : Kinds) (bodies : Bodies) (front rest : Names) (m : Meaning) → LeadsBack (references bodies) (front ++ rest) → AreClosed (references bodies) front → AreMeant k bodies m front
    → AreMeant k bodies (fold (with_body bodies (expanded k)) m rest) (front ++ rest)
meant_rest k bodies front [] m order closed h = subst (AreMeant k bodies m) (sym (append-nil front)) h
meant_rest k bodies front (x ∷ rest) m order closed h =
    let leads : All (Contains front) (references bodies x) = leads_back_at (references bodies) front x rest order in
    let joined : (front ++ x ∷ []) ++ rest ≡ front ++ x ∷ rest = append_assoc front (x ∷ []) rest in
    subst (AreMeant k bodies (fold (with_body bodies (expanded k)) (with_body bodies (expanded k) m x) rest)) joined
    (meant_rest k bodies (front ++ x ∷ []) rest (with_body bodies (expanded k) m x) (subst (LeadsBack (references bodies)) (sym joined) order)
    (closed_push (references bodies) front x closed leads) (meant_push k bodies m front x closed leads h))

pub meant_by_order : (k : Kinds) (bodies : Bodies) (order : Names) → LeadsBack (references bodies) order → AreMeant k bodies (meaning_by k bodies order) order
meant_by_order k bodies order h =
    meant_rest k bodies [] order (λ _. ty.Bool) h (record { closed = λ q has. absurd (contains_nothing q has) }) (record { meant = λ q body has is. absurd (contains_nothing q has) })
