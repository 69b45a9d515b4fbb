-- Equal entities of a sort have one id, others have others, and a literal has the id that it says.
use Rattle.std.proofs.Common.{◌≡◌, ◌↔◌, ◌<◌, ◌+◌, ◌^◌, ◌&&◌, ◌++◌, inl, inr, ℕ, Bool, true, false, cond, arith, List, [], ◌∷◌, length, Option, Some, None, refl, sym, ap, ◌∙◌, subst}
use Rattle.std.proofs.lemmas.List.{length-append}
use Rattle.std.proofs.lemmas.Slice.Eq.{bytes_eq-Decides}
use Rattle.std.specs.Cmp.Derive.{both_true}
use Rattle.std.specs.Str.{bytes_eq}
use Rattle.sc_laws.proofs.BoolLaws.{and_first, and_second}
use Rattle.sc_lists.proofs.MemberLaws.{Has-left, Has-last, Has-push, Has-flat_map, flat_map-Has}
use Rattle.sc_laws.proofs.OptionLaws.{same_some}
use Rattle.sc_lists.specs.Members.{Has}
use Rattle.sc_names.specs.declared.uid.Uid.{Uid}
use Rattle.sc_sorts.specs.OrderLaws.{sort_eq_decides}
use Rattle.sc_terms.specs.Trees.{Tree}
use Rattle.sc_terms.specs.TreeSorts.{tree_sort}
use Rattle.sc_rule_laws.specs.Terms.{one_sort}
use Rattle.sc_rule_laws.proofs.MemberLaws.{has_any}
use Rattle.sc_model_laws.specs.Assignments.{Assignment}
use Rattle.sc_model_laws.specs.Names.{Name, Named, or_fresh, entry_by, literal_id, name_in, are_equal}
use Rattle.sc_model_names.specs.Ids.{is_same, is_id, least_id, id_entries, next_id, identified}
use Rattle.sc_model_names.proofs.NumberLaws.{least_free}

abbrev Entry : Type 0
Entry = Tree × Name

-- ---- the name that is found among some

module _ (same : Tree → Tree → Bool) where
  abbrev IsFound : Named → Tree → Name → Type 0
  IsFound es x n = (e : Entry) × Has es e × (same x e.0 ≡ true) × (e.1 ≡ n)

  name_found : (es : Named) (x : Tree) (n : Name) → name_in same es x ≡ Some n → IsFound es x n
  unfolding name_in
  name_found [] x n h = absurd cc
  name_found (e ∷ es) x n h = by (same x e.0) refl (name_found es x n) h where
    by : (b : Bool) → same x e.0 ≡ b → (name_in same es x ≡ Some n → IsFound es x n) → cond b (Some e.1) (name_in same es x) ≡ Some n → IsFound (e ∷ es) x n
    by true t rest k = (e, inl refl, t, same_some k)
    by false t rest k = let later = rest k in (later.0, inr later.1, later.2, later.3)

  name_some : (es : Named) (x : Tree) (e : Entry) → Has es e → same x e.0 ≡ true → (n : Name) × (name_in same es x ≡ Some n)
  unfolding name_in
  name_some [] x e h t = absurd h
  name_some (f ∷ es) x e h t = by (same x f.0) refl (λ k. name_some es x e k t) h where
    by : (b : Bool) → same x f.0 ≡ b → (Has es e → (n : Name) × (name_in same es x ≡ Some n)) → Has (f ∷ es) e → (n : Name) × (cond b (Some f.1) (name_in same es x) ≡ Some n)
    by true u rest k = (f.1, refl)
    by false u rest (inl is) = absurd (let both : true ≡ false = sym t ∙ ap (λ (g : Entry). same x g.0) (sym is) ∙ u in cc)
    by false u rest (inr later) = rest later

  name_none : (es : Named) (x : Tree) → name_in same es x ≡ None → (e : Entry) → Has es e → same x e.0 ≡ true → ⊥
  name_none es x none e h t = let some = name_some es x e h t in let both : None ≡ Some some.0 = sym none ∙ some.1 in absurd cc

-- ---- ids

-- `uid` tells classes of equal terms of a sort apart
module _ (m : Assignment) (Is : Tree → Type 0) (uid : Tree → Uid)
    (kernel : (x y : Tree) → Is x → Is y → tree_sort x ≡ tree_sort y → (uid x ≡ uid y) ↔ (are_equal m x y ≡ true)) where
  same_told : (x y : Tree) → Is x → Is y → is_same m x y ≡ true → (tree_sort x ≡ tree_sort y) × (uid x ≡ uid y)
  same_told x y s t h =
      let sorts = (sort_eq_decides (tree_sort x) (tree_sort y)).0 (and_first (one_sort x y) (are_equal m x y) h) in
      (sorts, (kernel x y s t sorts).1 (and_second (one_sort x y) (are_equal m x y) h))

  told_same : (x y : Tree) → Is x → Is y → tree_sort x ≡ tree_sort y → uid x ≡ uid y → is_same m x y ≡ true
  told_same x y s t sorts u = both_true ((sort_eq_decides (tree_sort x) (tree_sort y)).1 sorts) ((kernel x y s t sorts).0 u)

  -- entities with ids
  record AreIds (es : Named) : Type 0 where
    entities : (e : Entry) → Has es e → Is e.0
    one : (e f : Entry) → Has es e → Has es f → tree_sort e.0 ≡ tree_sort f.0 → uid e.0 ≡ uid f.0 → e.1 ≡ f.1
    alone : (e f : Entry) → Has es e → Has es f → tree_sort e.0 ≡ tree_sort f.0 → e.1 ≡ f.1 → uid e.0 ≡ uid f.0

  -- an id that a further entity may have
  record Fits (es : Named) (x : Tree) (n : Name) : Type 0 where
    one_id : (e : Entry) → Has es e → tree_sort x ≡ tree_sort e.0 → uid x ≡ uid e.0 → n ≡ e.1
    one_entity : (e : Entry) → Has es e → tree_sort x ≡ tree_sort e.0 → n ≡ e.1 → uid x ≡ uid e.0

  module _ (es : Named) (are : AreIds es) (x : Tree) (is : Is x) where
    pushed : (n : Name) → Fits es x n → AreIds (es ++ (x, n) ∷ [])
    pushed n fits = record {
      entities = λ e h. elim (Has-push es (x, n) e h) [
        | inl k ↦ are.entities e k
        | inr k ↦ subst (λ (g : Entry). Is g.0) k is
      ];
      one = λ e f h i. elim (Has-push es (x, n) e h) [
        | inl k ↦ elim (Has-push es (x, n) f i) [
          | inl l ↦ are.one e f k l
          | inr l ↦ subst (λ (g : Entry). tree_sort e.0 ≡ tree_sort g.0 → uid e.0 ≡ uid g.0 → e.1 ≡ g.1) l (λ s u. sym (fits.one_id e k (sym s) (sym u)))
        ]
        | inr k ↦ elim (Has-push es (x, n) f i) [
          | inl l ↦ subst (λ (g : Entry). tree_sort g.0 ≡ tree_sort f.0 → uid g.0 ≡ uid f.0 → g.1 ≡ f.1) k (λ s u. fits.one_id f l s u)
          | inr l ↦ λ s u. ap (λ (g : Entry). g.1) (sym k ∙ l)
        ]
      ];
      alone = λ e f h i. elim (Has-push es (x, n) e h) [
        | inl k ↦ elim (Has-push es (x, n) f i) [
          | inl l ↦ are.alone e f k l
          | inr l ↦ subst (λ (g : Entry). tree_sort e.0 ≡ tree_sort g.0 → e.1 ≡ g.1 → uid e.0 ≡ uid g.0) l (λ s u. sym (fits.one_entity e k (sym s) (sym u)))
        ]
        | inr k ↦ elim (Has-push es (x, n) f i) [
          | inl l ↦ subst (λ (g : Entry). tree_sort g.0 ≡ tree_sort f.0 → g.1 ≡ f.1 → uid g.0 ≡ uid f.0) k (λ s u. fits.one_entity f l s u)
          | inr l ↦ λ s u. ap (λ (g : Entry). uid g.0) (sym k ∙ l)
        ]
      ];
    }

    -- the id of an equal entity
    by_equal : (n : Name) → name_in (is_same m) es x ≡ Some n → Fits es x n
    by_equal n h =
        let e = name_found (is_same m) es x n h in
        let told = same_told x e.0.0 is (are.entities e.0 e.1) e.2 in
        record {
          one_id = λ f k s u. sym e.3 ∙ are.one e.0 f e.1 k (sym told.0 ∙ s) (sym told.1 ∙ u);
          one_entity = λ f k s g. told.1 ∙ are.alone e.0 f e.1 k (sym told.0 ∙ s) (e.3 ∙ g);
        }

    -- a number that is no id of the sort
    by_number : length es < 2 ^ 63 → name_in (is_same m) es x ≡ None → Fits es x (least_id es x 0 es)
    by_number small none = record {
      one_id = λ e k s u. absurd (name_none (is_same m) es x none e k (told_same x e.0 is (are.entities e k) s u));
      one_entity = λ e k s g.
          let taken : is_id es x (least_id es x 0 es) ≡ true =
          has_any (λ (f : Entry). one_sort x f.0 && bytes_eq f.1 (least_id es x 0 es)) es e k
          (both_true ((sort_eq_decides (tree_sort x) (tree_sort e.0)).1 s) ((bytes_eq-Decides e.1 (least_id es x 0 es)).1 (sym g))) in
          let both : true ≡ false = sym taken ∙ least_free es x small in
          absurd cc;
    }

    next_fits : length es < 2 ^ 63 → Fits es x (next_id m es x)
    next_fits small = by (name_in (is_same m) es x) refl where
      by : (o : Option Name) → name_in (is_same m) es x ≡ o → Fits es x (or_fresh o (least_id es x 0 es))
      by (Some n) h = by_equal n h
      by None h = by_number small h

  -- ---- one entity after the other

  all_identified : (es : Named) (xs : List Tree) → length es + length xs < 2 ^ 63 → AreIds es → ((x : Tree) → Has xs x → Is x) → AreIds (identified m es xs)
  unfolding identified
  all_identified es [] small are h = are
  all_identified es (x ∷ xs) small are h =
      let size : length (es ++ (x, next_id m es x) ∷ []) ≡ length es + 1 = length-append es ((x, next_id m es x) ∷ []) in
      all_identified (es ++ (x, next_id m es x) ∷ []) xs (omega (arith, size, small)) (pushed es are x (h x (inl refl)) (next_id m es x) (next_fits es are x (h x (inl refl)) (omega (arith, small)))) (λ y k. h y (inr k))

  identified_kept : (es : Named) (xs : List Tree) (e : Entry) → Has es e → Has (identified m es xs) e
  unfolding identified
  identified_kept es [] e h = h
  identified_kept es (x ∷ xs) e h = identified_kept (es ++ (x, next_id m es x) ∷ []) xs e (Has-left es ((x, next_id m es x) ∷ []) e h)

  identified_each : (es : Named) (xs : List Tree) (x : Tree) → Has xs x → (n : Name) × Has (identified m es xs) (x, n)
  unfolding identified
  identified_each es [] x h = absurd h
  identified_each es (y ∷ xs) x (inl e) = (
    next_id m es y,
    identified_kept (es ++ (y, next_id m es y) ∷ []) xs (x, next_id m es y)
        (subst (λ (z : Tree). Has (es ++ (y, next_id m es y) ∷ []) (z, next_id m es y)) e (Has-last es (y, next_id m es y))),
  )
  identified_each es (y ∷ xs) x (inr k) = identified_each (es ++ (y, next_id m es y) ∷ []) xs x k

  -- ---- literals

  entry_is : (x : Tree) (o : Option Name) (e : Entry) → Has (entry_by x o) e → (o ≡ Some e.1) × (x ≡ e.0)
  entry_is x None e h = absurd h
  entry_is x (Some n) e (inl k) = (ap (λ (g : Entry). Some g.1) k, ap (λ (g : Entry). g.0) k)
  entry_is x (Some n) e (inr k) = absurd k

  id_entry : (xs : List Tree) (e : Entry) → Has (id_entries xs) e → Has xs e.0 × (literal_id e.0 ≡ Some e.1)
  unfolding id_entries
  id_entry xs e h =
      let x = flat_map-Has (λ x. entry_by x (literal_id x)) xs e h in
      let told = entry_is x.0 (literal_id x.0) e x.2 in
      (subst (Has xs) told.1 x.1, ap literal_id (sym told.1) ∙ told.0)

  id_entered : (xs : List Tree) (x : Tree) (n : Name) → Has xs x → literal_id x ≡ Some n → Has (id_entries xs) (x, n)
  unfolding id_entries
  id_entered xs x n h e =
      Has-flat_map (λ x. entry_by x (literal_id x)) xs x (x, n) h (subst (λ (o : Option Name). Has (entry_by x o) (x, n)) (sym e) (inl refl))

  length-by : (x : Tree) (o : Option Name) (es : Named) (n : ℕ) → length es < n + 1 → length (entry_by x o ++ es) < n + 2
  length-by x None es n h = omega (arith, h)
  length-by x (Some i) es n h = omega (arith, h)

  few_entries : (xs : List Tree) → length (id_entries xs) < length xs + 1
  unfolding id_entries
  few_entries [] = omega arith
  few_entries (x ∷ xs) = let more : length (entry_by x (literal_id x) ++ id_entries xs) < length xs + 2 = length-by x (literal_id x) (id_entries xs) (length xs) (few_entries xs) in omega (arith, more)

  module _ (typed : (x y : Tree) → Is x → Is y → tree_sort x ≡ tree_sort y → (uid x).type_name ≡ (uid y).type_name)
      (said : (x : Tree) (n : Name) → Is x → literal_id x ≡ Some n → (uid x).id ≡ n)
      (xs : List Tree) (all : (x : Tree) → Has xs x → Is x) (small : length xs + length xs < 2 ^ 63) where
    literals_are : AreIds (id_entries xs)
    literals_are = record {
      entities = λ e h. all e.0 (id_entry xs e h).0;
      one = λ e f h k s u.
          let a = id_entry xs e h in
          let b = id_entry xs f k in
          sym (said e.0 e.1 (all e.0 a.0) a.1) ∙ ap (λ (v : Uid). v.id) u ∙ said f.0 f.1 (all f.0 b.0) b.1;
      alone = λ e f h k s t.
          let a = id_entry xs e h in
          let b = id_entry xs f k in
          let types = typed e.0 f.0 (all e.0 a.0) (all f.0 b.0) s in
          let ids : (uid e.0).id ≡ (uid f.0).id = said e.0 e.1 (all e.0 a.0) a.1 ∙ t ∙ sym (said f.0 f.1 (all f.0 b.0) b.1) in
          λ i. record { type_name = types i; id = ids i };
    }

    abbrev ids : Named
    ids = identified m (id_entries xs) xs

    ids_are : AreIds (identified m (id_entries xs) xs)
    ids_are = let few = few_entries xs in all_identified (id_entries xs) xs (omega (arith, few, small)) literals_are all

    abbrev pub id_at : Tree → Name
    id_at x = or_fresh (name_in (is_same m) (identified m (id_entries xs) xs) x) []

    record IsIdentified (x : Tree) : Type 0 where
      entry : Entry
      there : Has (identified m (id_entries xs) xs) entry
      sorts : tree_sort x ≡ tree_sort entry.0
      equal : uid x ≡ uid entry.0
      is_id : or_fresh (name_in (is_same m) (identified m (id_entries xs) xs) x) [] ≡ entry.1

    entity_identified : (x : Tree) → Has xs x → IsIdentified x
    entity_identified x h =
        let own = identified_each (id_entries xs) xs x h in
        let some = name_some (is_same m) (identified m (id_entries xs) xs) x (x, own.0) own.1 (told_same x x (all x h) (all x h) refl refl) in
        let found = name_found (is_same m) (identified m (id_entries xs) xs) x some.0 some.1 in
        let told = same_told x found.0.0 (all x h) (ids_are.entities found.0 found.1) found.2 in
        record {
          entry = found.0;
          there = found.1;
          sorts = told.0;
          equal = told.1;
          is_id = ap (λ (o : Option Name). or_fresh o []) some.1 ∙ sym found.3;
        }

    pub ids_told : (x y : Tree) → Has xs x → Has xs y → tree_sort x ≡ tree_sort y
        → (or_fresh (name_in (is_same m) (identified m (id_entries xs) xs) x) [] ≡ or_fresh (name_in (is_same m) (identified m (id_entries xs) xs) y) []) ↔ (uid x ≡ uid y)
    ids_told x y h k s =
        let a = entity_identified x h in
        let b = entity_identified y k in
        let between : tree_sort a.entry.0 ≡ tree_sort b.entry.0 = sym a.sorts ∙ s ∙ b.sorts in (
          λ e. a.equal ∙ ids_are.alone a.entry b.entry a.there b.there between (sym a.is_id ∙ e ∙ b.is_id) ∙ sym b.equal,
          λ u. a.is_id ∙ ids_are.one a.entry b.entry a.there b.there between (sym a.equal ∙ u ∙ b.equal) ∙ sym b.is_id,
        )

    pub literal_told : (x : Tree) (n : Name) → Has xs x → literal_id x ≡ Some n → or_fresh (name_in (is_same m) (identified m (id_entries xs) xs) x) [] ≡ n
    literal_told x n h e =
        let a = entity_identified x h in
        let own = identified_kept (id_entries xs) xs (x, n) (id_entered xs x n h e) in
        a.is_id ∙ ids_are.one a.entry (x, n) a.there own (sym a.sorts) (sym a.equal)
