-- Strings are named by texts that have their signs: equal ones by one text, and others by different ones.
use Rattle.std.proofs.Common.{◌≡◌, ◌≤◌, ◌⊎◌, ℕ, suc, Bool, true, false, inl, inr, arith, cond, List, [], ◌∷◌, ◌++◌, map, length, Option, Some, None, refl, sym, ap, ◌∙◌, subst}
use Rattle.std.specs.Cmp.{both_ways}
use Rattle.std.specs.List.{AllByRecursion, list_any}
use Rattle.std.specs.Str.{bytes_eq, chars}
use Rattle.std.proofs.lemmas.Slice.Eq.{bytes_eq-Decides}
use Rattle.sc_laws.proofs.BoolLaws.{same_truth}
use Rattle.sc_lists.proofs.MemberLaws.{Has-left, Has-last, Has-push, Has-map, Has-flat_map, flat_map-Has}
use Rattle.sc_laws.proofs.OptionLaws.{same_some}
use Rattle.sc_lists.proofs.TextLaws.{bytes_eq_true}
use Rattle.sc_lists.specs.Members.{Has}
use Rattle.sc_pattern.specs.Language.{is_match}
use Rattle.sc_pattern.proofs.TestLaws.{is_match_decides}
use Rattle.sc_schema.specs.declared.declarations.Env.{Env}
use Rattle.sc_schema.specs.Declarations.{Declarations}
use Rattle.sc_languages.specs.Strings.{Obeys, AreDistinct}
use Rattle.sc_sorts.specs.declared.node.Literal.TheVariants as literals
use Rattle.sc_terms.specs.Trees.{Tree}
use Rattle.sc_terms.specs.Folds.{literal_term, equal_term, like_term}
use Rattle.sc_rule_laws.specs.Signed.{so, unless}
use Rattle.sc_rule_laws.specs.Strings.{Pattern}
use Rattle.sc_rule_laws.proofs.MemberLaws.{any_first, has_any}
use Rattle.sc_model_laws.specs.Assignments.{Assignment, lit}
use Rattle.sc_model_laws.specs.Consistent.{IsConsistent, of_st1}
use Rattle.sc_model_laws.specs.Names.{Name, Named, Texts, literal_text, or_fresh, are_equal, signs_of, name_in, unused, entry_by, literal_entries, next_name, named}
use Rattle.sc_model_laws.specs.Texts.{ArePatterns, AreApart, IsString, AreOthers, AreTextsFor, AreTextsOf}
use Rattle.sc_model_laws.proofs.ClosedLaws.{strings_equation}
use Rattle.sc_model_laws.proofs.CrowdLaws.{asked_closed, texts_suffice}
use Rattle.sc_model_laws.proofs.EqualityLaws.{AreEquated}
use Rattle.sc_model_laws.proofs.EquationTerms.{lit_truth}
use Rattle.sc_model_laws.proofs.HoldLaws.{third}

abbrev Entry : Type 0
Entry = Tree × Name

map_same : {X Y : Type 0} (f g : X → Y) (xs : List X) → ((x : X) → Has xs x → f x ≡ g x) → map f xs ≡ map g xs
map_same f g [] h = refl
map_same f g (x ∷ xs) h =
    let first : f x ≡ g x = h x (inl refl) in
    let rest : map f xs ≡ map g xs = map_same f g xs (λ y k. h y (inr k)) in
    λ i. first i ∷ rest i

-- what a text obeys is whether it matches
obeys_at : (qs : List Pattern) (f : Pattern → Bool) (text : List ℕ) → Obeys qs (map f qs) text → (q : Pattern) → Has qs q → is_match q text ≡ f q
obeys_at [] f text h q k = absurd k
obeys_at (p ∷ qs) f text h q (inl is) = subst (λ (r : Pattern). is_match r text ≡ f r) is (same_truth (is_match p text) (f p) (is_match_decides p text) h.0)
obeys_at (p ∷ qs) f text h q (inr later) = obeys_at qs f text h.1 q later

-- ---- names that are found

module _ (same : Tree → Tree → Bool) where
  abbrev Found : Named → Tree → Name → Type 0
  Found es x n = (e : Entry) × Has es e × (same x e.0 ≡ true) × (e.1 ≡ n)

  found_by : (e : Entry) (es : Named) (x : Tree) (n : Name) (b : Bool) → same x e.0 ≡ b → cond b (Some e.1) (name_in same es x) ≡ Some n → (name_in same es x ≡ Some n → Found es x n) → Found (e ∷ es) x n
  found_by e es x n true f h more = (e, inl refl, f, same_some h)
  found_by e es x n false f h more = let r = more h in (r.0, inr r.1, r.2, r.3)

  pub name_found : (es : Named) (x : Tree) (n : Name) → name_in same es x ≡ Some n → Found es x n
  unfolding name_in
  name_found [] x n h = absurd cc
  name_found (e ∷ es) x n h = found_by e es x n (same x e.0) refl h (name_found es x n)

  none_by : (e : Entry) (es : Named) (x : Tree) (b : Bool) → same x e.0 ≡ b → cond b (Some e.1) (name_in same es x) ≡ None → (same x e.0 ≡ false) × (name_in same es x ≡ None)
  none_by e es x true f h = absurd cc
  none_by e es x false f h = (f, h)

  pub name_none : (es : Named) (x : Tree) → name_in same es x ≡ None → (e : Entry) → Has es e → same x e.0 ≡ false
  unfolding name_in
  name_none [] x h e k = absurd k
  name_none (f ∷ es) x h e (inl is) = ap (λ (g : Entry). same x g.0) (sym is) ∙ (none_by f es x (same x f.0) refl h).0
  name_none (f ∷ es) x h e (inr later) = name_none es x (none_by f es x (same x f.0) refl h).1 e later

  pub name_some : (es : Named) (x : Tree) (e : Entry) → Has es e → same x e.0 ≡ true → (n : Name) × (name_in same es x ≡ Some n)
  name_some es x e h t = by (name_in same es x) refl where
    by : (o : Option Name) → name_in same es x ≡ o → (n : Name) × (name_in same es x ≡ Some n)
    by (Some n) f = (n, f)
    by None f = let both : true ≡ false = sym t ∙ name_none es x f e h in absurd cc

-- ---- a text that is no name

abbrev IsUsed : Named → Name → Type 0
IsUsed es t = (e : Entry) × Has es e × (e.1 ≡ t)

abbrev used : Name → Entry → Bool
used t e = bytes_eq e.1 t

abbrev IsUnused : Named → List Name → Name → Type 0
IsUnused es ts t = Has ts t × (IsUsed es t → ⊥)

used_told : (es : Named) (t : Name) → list_any (used t) es ≡ true → IsUsed es t
used_told es t h = let any = any_first (used t) es h in (any.found, any.there, bytes_eq_true any.found.1 t any.passes)

told_used : (es : Named) (t : Name) → IsUsed es t → list_any (used t) es ≡ true
told_used es t u = has_any (used t) es u.0 u.1 ((bytes_eq-Decides u.0.1 t).1 u.2)

unused_by : (es : Named) (t : Name) (ts : List Name) (b : Bool) → list_any (used t) es ≡ b
    → IsUnused es ts (unused es ts) ⊎ ((u : Name) → Has ts u → IsUsed es u)
    → IsUnused es (t ∷ ts) (cond b (unused es ts) t) ⊎ ((u : Name) → Has (t ∷ ts) u → IsUsed es u)
unused_by es t ts true e (inl free) = inl (inr free.0, free.1)
unused_by es t ts true e (inr all) = inr (λ u h. elim h [
  | inl is ↦ subst (IsUsed es) is (used_told es t e)
  | inr later ↦ all u later
])
unused_by es t ts false e more = inl (inl refl, λ u. let both : true ≡ false = sym (told_used es t u) ∙ e in absurd cc)

pub unused_found : (es : Named) (ts : List Name) → IsUnused es ts (unused es ts) ⊎ ((u : Name) → Has ts u → IsUsed es u)
unfolding unused
unused_found es [] = inr (λ u h. absurd h)
unused_found es (t ∷ ts) = unused_by es t ts (list_any (used t) es) refl (unused_found es ts)

-- ---- entries of literals

entry_is : (x : Tree) (o : Option Name) (e : Entry) → Has (entry_by x o) e → (o ≡ Some e.1) × (x ≡ e.0)
entry_is x None e h = absurd h
entry_is x (Some n) e (inl k) = (ap (λ (g : Entry). Some g.1) k, ap (λ (g : Entry). g.0) k)
entry_is x (Some n) e (inr k) = absurd k

pub literal_entry : (xs : List Tree) (e : Entry) → Has (literal_entries xs) e → Has xs e.0 × (literal_text e.0 ≡ Some e.1)
literal_entry xs e h =
    let x = flat_map-Has (λ x. entry_by x (literal_text x)) xs e h in
    let told = entry_is x.0 (literal_text x.0) e x.2 in
    (subst (Has xs) told.1 x.1, ap literal_text (sym told.1) ∙ told.0)

-- ---- equal strings have the same signs, and a literal has those of its text

module _ (d : Declarations) (env : Env) (goal : Tree) (m : Assignment) (is : IsConsistent d env goal m) (qs : List Pattern) (patterns : ArePatterns d env goal qs) where
  likes_kept : (x y : Tree) (q : Pattern) → IsString d env goal x → IsString d env goal y → Has qs q → lit m (equal_term x y) ≡ true → lit m (like_term x q) ≡ true → lit m (like_term y q) ≡ true
  likes_kept x y q s t h e l =
      third m false false true (equal_term x y) (like_term x q) (like_term y q)
      (is.rules (unless (equal_term x y) ∷ unless (like_term x q) ∷ so (like_term y q) ∷ []) (of_st1 (q ∷ []) x y 0 s.0 t.0)
      (strings_equation d env goal x y s.1 t.1 s.0 t.0, (asked_closed d env goal qs patterns x q s h, (asked_closed d env goal qs patterns y q t h, tt)))) e l

  pub likes_agree : (x y : Tree) (q : Pattern) → IsString d env goal x → IsString d env goal y → Has qs q → lit m (equal_term x y) ≡ true → lit m (equal_term y x) ≡ true
      → lit m (like_term x q) ≡ lit m (like_term y q)
  likes_agree x y q s t h e f = both_ways (lit m (like_term x q)) (lit m (like_term y q)) (likes_kept x y q s t h e) (likes_kept y x q t s h f)

  literal_likes : (t : Name) (q : Pattern) → is_match q (chars t) ≡ lit m (like_term (literal_term (literals.String t)) q)
  unfolding like_term
  literal_likes t q = sym (lit_truth m (is_match q (chars t)))

  -- ---- equality of strings

  module _ (equal : AreEquated d env goal m) (texts : Texts) (texts_are : AreTextsOf d env goal m qs texts) where
    -- strings with names
    pub record AreNames (es : Named) : Type 0 where
      pub strings : (e : Entry) → Has es e → IsString d env goal e.0
      pub one : (e f : Entry) → Has es e → Has es f → lit m (equal_term e.0 f.0) ≡ true → e.1 ≡ f.1
      pub alone : (e f : Entry) → Has es e → Has es f → e.1 ≡ f.1 → lit m (equal_term e.0 f.0) ≡ true
      pub likes : (e : Entry) → Has es e → (q : Pattern) → Has qs q → is_match q (chars e.1) ≡ lit m (like_term e.0 q)

    -- a name that a further string may have
    record Fits (es : Named) (x : Tree) (n : Name) : Type 0 where
      one_name : (e : Entry) → Has es e → lit m (equal_term x e.0) ≡ true → n ≡ e.1
      one_string : (e : Entry) → Has es e → n ≡ e.1 → lit m (equal_term x e.0) ≡ true
      own_likes : (q : Pattern) → Has qs q → is_match q (chars n) ≡ lit m (like_term x q)

    module _ (es : Named) (names : AreNames es) (x : Tree) (s : IsString d env goal x) where
      pushed : (n : Name) → Fits es x n → AreNames (es ++ (x, n) ∷ [])
      pushed n fits = record {
        strings = λ e h. elim (Has-push es (x, n) e h) [
          | inl k ↦ names.strings e k
          | inr k ↦ subst (λ (g : Entry). IsString d env goal g.0) k s
        ];
        one = λ e f h i t. elim (Has-push es (x, n) e h) [
          | inl k ↦ elim (Has-push es (x, n) f i) [
            | inl l ↦ names.one e f k l t
            | inr l ↦ (let back = equal.turned e.0 x (names.strings e k) s (ap (λ (g : Entry). lit m (equal_term e.0 g.0)) l ∙ t) in sym (fits.one_name e k back) ∙ ap (λ (g : Entry). g.1) l)
          ]
          | inr k ↦ elim (Has-push es (x, n) f i) [
            | inl l ↦ ap (λ (g : Entry). g.1) (sym k) ∙ fits.one_name f l (ap (λ (g : Entry). lit m (equal_term g.0 f.0)) k ∙ t)
            | inr l ↦ ap (λ (g : Entry). g.1) (sym k ∙ l)
          ]
        ];
        alone = λ e f h i t. elim (Has-push es (x, n) e h) [
          | inl k ↦ elim (Has-push es (x, n) f i) [
            | inl l ↦ names.alone e f k l t
            | inr l ↦ (let back = fits.one_string e k (ap (λ (g : Entry). g.1) l ∙ sym t) in ap (λ (g : Entry). lit m (equal_term e.0 g.0)) (sym l) ∙ equal.turned x e.0 s (names.strings e k) back)
          ]
          | inr k ↦ elim (Has-push es (x, n) f i) [
            | inl l ↦ ap (λ (g : Entry). lit m (equal_term g.0 f.0)) (sym k) ∙ fits.one_string f l (ap (λ (g : Entry). g.1) k ∙ t)
            | inr l ↦ ap (λ (g : Entry). lit m (equal_term g.0 f.0)) (sym k) ∙ ap (λ (g : Entry). lit m (equal_term x g.0)) (sym l) ∙ equal.itself x s
          ]
        ];
        likes = λ e h q k. elim (Has-push es (x, n) e h) [
          | inl l ↦ names.likes e l q k
          | inr l ↦ subst (λ (g : Entry). is_match q (chars g.1) ≡ lit m (like_term g.0 q)) l (fits.own_likes q k)
        ];
      }

      -- the name of an equal string
      by_equal : (n : Name) → name_in (are_equal m) es x ≡ Some n → Fits es x n
      by_equal n h =
          let e = name_found (are_equal m) es x n h in
          let string = names.strings e.0 e.1 in
          record {
            one_name = λ f k t.
                sym e.3 ∙ names.one e.0 f e.1 k (equal.through e.0.0 x f.0 string s (names.strings f k) (equal.turned x e.0.0 s string e.2) t);
            one_string = λ f k t. equal.through x e.0.0 f.0 s string (names.strings f k) e.2 (names.alone e.0 f e.1 k (e.3 ∙ t));
            own_likes = λ q k.
                ap (λ (t : Name). is_match q (chars t)) (sym e.3) ∙ names.likes e.0 e.1 q k
                ∙ likes_agree e.0.0 x q string s k (equal.turned x e.0.0 s string e.2) e.2;
          }

      -- ---- if all texts were used

      abbrev Holders : List Name → Type 0
      Holders us = (u : Name) → Has us u → IsUsed es u

      tail_of : (u : Name) (us : List Name) → Holders (u ∷ us) → Holders us
      tail_of u us h t k = h t (inr k)

      abbrev holders : (us : List Name) → Holders us → List Tree
      holders [] h = []
      holders (u ∷ us) h = (h u (inl refl)).0.0 ∷ holders us (tail_of u us h)

      length-holders : (us : List Name) (h : Holders us) → length (holders us h) ≡ length us
      length-holders [] h = refl
      length-holders (u ∷ us) h = ap suc (length-holders us (tail_of u us h))

      all_holders : (P : Tree → Type 0) → (us : List Name) (h : Holders us) → ((e : Entry) → Has es e → Has us e.1 → P e.0) → AllByRecursion P (holders us h)
      all_holders P [] h f = tt
      all_holders P (u ∷ us) h f =
          let first = h u (inl refl) in
          (f first.0 first.1 (inl (sym first.2)), all_holders P us (tail_of u us h) (λ e k i. f e k (inr i)))

      unequal : (t u : Tree) → (lit m (equal_term t u) ≡ true → ⊥) → lit m (equal_term t u) ≡ false
      unequal t u n = by (lit m (equal_term t u)) refl where
        by : (b : Bool) → lit m (equal_term t u) ≡ b → lit m (equal_term t u) ≡ false
        by true e = absurd (n e)
        by false e = e

      holders_apart : (us : List Name) (h : Holders us) → AreDistinct (map chars us) → AreApart m (holders us h)
      holders_apart [] h a = tt
      holders_apart (u ∷ us) h a =
          let first = h u (inl refl) in (
            all_holders (λ z. lit m (equal_term first.0.0 z) ≡ false) us (tail_of u us h) (λ e k i. unequal first.0.0 e.0 (λ t.
                let one : u ≡ e.1 = sym first.2 ∙ names.one first.0 e first.1 k t in
                a.0 (Has-map chars us u (subst (Has us) (sym one) i)))),
            holders_apart us (tail_of u us h) a.1,
          )

      crowded : name_in (are_equal m) es x ≡ None → Holders (texts (signs_of m qs x)) → ⊥
      crowded none all =
          let are : AreTextsFor d env goal m qs (signs_of m qs x) (texts (signs_of m qs x)) = texts_are x s in
          let us : List Name = texts (signs_of m qs x) in
          let ts : List Tree = x ∷ holders (texts (signs_of m qs x)) all in
          let others : AreOthers d env goal m qs (signs_of m qs x) (x ∷ holders (texts (signs_of m qs x)) all) = record {
            strings = (s, all_holders (IsString d env goal) us all (λ e k i. names.strings e k));
            signed = (
              refl,
              all_holders (λ t. signs_of m qs t ≡ signs_of m qs x) us all (λ e k i.
                  map_same (λ q. lit m (like_term e.0 q)) (λ q. lit m (like_term x q)) qs (λ q j.
                  sym (names.likes e k q j) ∙ obeys_at qs (λ q. lit m (like_term x q)) (chars e.1) (are.found.obey (chars e.1) (Has-map chars us e.1 i)) q j)),
            );
            apart = (all_holders (λ t. lit m (equal_term x t) ≡ false) us all (λ e k i. name_none (are_equal m) es x none e k), holders_apart us all are.found.distinct);
          } in
          let most : length ts ≤ length us = texts_suffice d env goal qs patterns m is x us ts are others in
          let size : length ts ≡ suc (length us) = ap suc (length-holders us all) in
          omega (arith, most, size)

      -- a text that is no name yet
      by_unused : name_in (are_equal m) es x ≡ None → Fits es x (unused es (texts (signs_of m qs x)))
      by_unused none = elim (unused_found es (texts (signs_of m qs x))) [
        | inr all ↦ absurd (crowded none all)
        | inl free ↦ record {
          one_name = λ e k t. let both : true ≡ false = sym t ∙ name_none (are_equal m) es x none e k in absurd cc;
          one_string = λ e k t. absurd (free.1 (e, k, sym t));
          own_likes = λ q k.
              obeys_at qs (λ q. lit m (like_term x q)) (chars (unused es (texts (signs_of m qs x))))
              ((texts_are x s).found.obey (chars (unused es (texts (signs_of m qs x)))) (Has-map chars (texts (signs_of m qs x)) (unused es (texts (signs_of m qs x))) free.0)) q k;
        }
      ]

      next_fits : Fits es x (next_name m qs texts es x)
      next_fits = by (name_in (are_equal m) es x) refl where
        by : (o : Option Name) → name_in (are_equal m) es x ≡ o → Fits es x (or_fresh o (unused es (texts (signs_of m qs x))))
        by (Some n) h = by_equal n h
        by None h = by_unused h

      pub next_named : AreNames (es ++ (x, next_name m qs texts es x) ∷ [])
      next_named = pushed (next_name m qs texts es x) next_fits

    -- ---- all strings

    pub all_named : (es : Named) (xs : List Tree) → AreNames es → ((x : Tree) → Has xs x → IsString d env goal x) → AreNames (named m qs texts es xs)
    unfolding named
    all_named es [] names h = names
    all_named es (x ∷ xs) names h =
        all_named (es ++ (x, next_name m qs texts es x) ∷ []) xs (next_named es names x (h x (inl refl))) (λ y k. h y (inr k))

    pub named_kept : (es : Named) (xs : List Tree) (e : Entry) → Has es e → Has (named m qs texts es xs) e
    unfolding named
    named_kept es [] e h = h
    named_kept es (x ∷ xs) e h = named_kept (es ++ (x, next_name m qs texts es x) ∷ []) xs e (Has-left es ((x, next_name m qs texts es x) ∷ []) e h)

    pub named_each : (es : Named) (xs : List Tree) (x : Tree) → Has xs x → (n : Name) × Has (named m qs texts es xs) (x, n)
    unfolding named
    named_each es [] x h = absurd h
    named_each es (y ∷ xs) x (inl e) = (
      next_name m qs texts es y,
      named_kept (es ++ (y, next_name m qs texts es y) ∷ []) xs (x, next_name m qs texts es y)
          (subst (λ (z : Tree). Has (es ++ (y, next_name m qs texts es y) ∷ []) (z, next_name m qs texts es y)) e (Has-last es (y, next_name m qs texts es y))),
    )
    named_each es (y ∷ xs) x (inr k) = named_each (es ++ (y, next_name m qs texts es y) ∷ []) xs x k

    -- ---- literals

    module _ (text_is : (x : Tree) (n : Name) → literal_text x ≡ Some n → x ≡ literal_term (literals.String n))
        (one_text : (x y : Tree) (n o : Name) → IsString d env goal x → IsString d env goal y → literal_text x ≡ Some n → literal_text y ≡ Some o → lit m (equal_term x y) ≡ true → n ≡ o)
        (xs : List Tree) (all : (x : Tree) → Has xs x → IsString d env goal x) where
      pub literals_named : AreNames (literal_entries xs)
      literals_named = record {
        strings = λ e h. all e.0 (literal_entry xs e h).0;
        one = λ e f h k t. let a = literal_entry xs e h in let b = literal_entry xs f k in one_text e.0 f.0 e.1 f.1 (all e.0 a.0) (all f.0 b.0) a.1 b.1 t;
        alone = λ e f h k t.
            let a = literal_entry xs e h in
            let b = literal_entry xs f k in
            let one : e.0 ≡ f.0 = text_is e.0 e.1 a.1 ∙ ap (λ (n : Name). literal_term (literals.String n)) t ∙ sym (text_is f.0 f.1 b.1) in
            ap (λ (z : Tree). lit m (equal_term e.0 z)) (sym one) ∙ equal.itself e.0 (all e.0 a.0);
        likes = λ e h q k. let a = literal_entry xs e h in literal_likes e.1 q ∙ ap (λ (z : Tree). lit m (like_term z q)) (sym (text_is e.0 e.1 a.1));
      }

      pub literal_entered : (x : Tree) (n : Name) → Has xs x → literal_text x ≡ Some n → Has (literal_entries xs) (x, n)
      literal_entered x n h e =
          Has-flat_map (λ x. entry_by x (literal_text x)) xs x (x, n) h (subst (λ (o : Option Name). Has (entry_by x o) (x, n)) (sym e) (inl refl))
