-- A store that is filled from a list: what each step keeps, and what is stored at the end.
use Rattle.std.proofs.Common.{◌≡◌, ◌↔◌, ◌<◌, ◌≤◌, ◌+◌, ◌++◌, ℕ, zero, suc, List, [], ◌∷◌, length, get_or, Option, Some, None, IsSome, IsTrue, is_some, Bool, true, false, cond, Contains, inl, inr, refl, ap, sym, subst, ◌∙◌, arith}
use Rattle.std.specs.BTreeMap.{insert_entry, is_at}
use Rattle.std.specs.Prelude.{flat_map, unwrap_or}
use Rattle.std.specs.List.{AllByRecursion}
use Rattle.std.specs.List.Sorted.{IsStrictlySortedBy}
use Rattle.std.specs.Map.{lookup, keys_of}
use Rattle.std.specs.Ordering.{match_ordering, ordering_reverse, is_eq}
use Rattle.std.specs.declared.cmp.Ordering.{Ordering}
use Rattle.std.specs.declared.cmp.Ordering.TheVariants.{Less, Equal, Greater}
use Rattle.std.proofs.lemmas.Bool.{cases_lt}
use Rattle.std.proofs.lemmas.Cmp.{tied_itself}
use Rattle.std.proofs.lemmas.List.Elements.{Contains-append_left, Contains-append_right}
use Rattle.sc_laws.proofs.OptionLaws.{some_of}
use Rattle.sc_lists.proofs.OrderingLaws.{is_eq_true}
use Rattle.sc_lists.proofs.ListLaws.{all_weaker, all_of_elements, all_append, all_element, contains_rest, contains_first, contains_joined}
use Rattle.sc_names.specs.declared.uid.Uid.{Uid}
use Rattle.sc_names.specs.Uids.{uid_cmp}
use Rattle.sc_names.proofs.UidLaws.{uid_cmp_total, uid_cmp_level}
use Rattle.sc_schema.specs.Declarations.{Declarations, action_uids}
use Rattle.sc_values.specs.Proper.{IsUidText}
use Rattle.sc_world.specs.declared.entity.EntityData.{EntityData}
use Rattle.sc_world.specs.Defaults.{default_data}
use Rattle.sc_world.specs.declared.world.Request.{Request}
use Rattle.sc_world.specs.Filling.{first_uids, IsStep, known, added, IsFilled}
use Rattle.sc_world.specs.Given.{data_with, AreAsGiven, IsNamedWith, of_schema, of_request, of_policy, of_given, of_entity}
use Rattle.sc_world.specs.Named.{request_uids, uids_in_data, uids_in_entry}
use Rattle.sc_world.specs.Stores.{Entities, IsMap, stored, with_entity}
use Rattle.sc_world.specs.WellFormed.{Entry, IsStored}
use Rattle.sc_world.proofs.StoreLaws.{stored-with_entity, stored-kept}

-- ---- lists

stands_in : {X : Type 0} (xs : List X) (k : ℕ) (d : X) → k < length xs → Contains xs (get_or xs k d)
stands_in [] k d within = absurd (omega arith)
stands_in (x ∷ xs) zero d within = contains_first x xs
stands_in (x ∷ xs) (suc k) d within = contains_rest x xs _ (stands_in xs k d (omega arith))

before_end : {X : Type 0} (xs ys : List X) (k : ℕ) (d : X) → k < length xs → get_or (xs ++ ys) k d ≡ get_or xs k d
before_end [] ys k d within = absurd (omega arith)
before_end (x ∷ xs) ys zero d within = refl
before_end (x ∷ xs) ys (suc k) d within = before_end xs ys k d (omega arith)

same_place : {X : Type 0} (xs : List X) (k : ℕ) (c d : X) → k < length xs → get_or xs k c ≡ get_or xs k d
same_place [] k c d within = absurd (omega arith)
same_place (x ∷ xs) zero c d within = refl
same_place (x ∷ xs) (suc k) c d within = same_place xs k c d (omega arith)

-- ---- one more entity

put_at : (P : Entry → Type 0) (o : Ordering) (x : Entry) (es : Entities) (u : Uid) (e : EntityData) → uid_cmp u x.0 ≡ o → P (u, e) → P x → AllByRecursion P es → AllByRecursion P (insert_entry uid_cmp es u e)
    → AllByRecursion P (match_ordering o ((u, e) ∷ x ∷ es) ((x.0, e) ∷ es) (x ∷ insert_entry uid_cmp es u e))
put_at P Less x es u e is n h hs rest = (n, (h, hs))
put_at P Equal x es u e is n h hs rest = (subst (λ (k : Uid). P (k, e)) (uid_cmp_level u x.0 is) n, hs)
put_at P Greater x es u e is n h hs rest = (h, rest)

put : (P : Entry → Type 0) (u : Uid) (e : EntityData) (es : Entities) → P (u, e) → AllByRecursion P es → AllByRecursion P (insert_entry uid_cmp es u e)
put P u e [] n h = (n, tt)
put P u e (x ∷ es) n h = put_at P (uid_cmp u x.0) x es u e refl n h.0 h.1 (put P u e es n h.1)

-- what holds of each entry and of the new one holds of each afterwards
pub each-with_entity : (P : Entry → Type 0) (u : Uid) (e : EntityData) (es : Entities) → P (u, e) → AllByRecursion P es → AllByRecursion P (with_entity u e es)
unfolding with_entity
each-with_entity P u e es n h = put P u e es n h

look_at : (P : Entry → Type 0) (u : Uid) (e : EntityData) (x : Entry) (b : Bool) (rest : Option EntityData) → is_eq (uid_cmp u x.0) ≡ b → P x → (rest ≡ Some e → P (u, e)) → cond b (Some x.1) rest ≡ Some e → P (u, e)
look_at P u e x true rest tied h others is =
    let same : u ≡ x.0 = uid_cmp_level u x.0 (is_eq_true (uid_cmp u x.0) tied) in
    let one : x.1 ≡ e = cc in
    let entry : ◌≡◌ {A = Entry} x (u, e) = λ i. (sym same i, one i) in
    subst P entry h
look_at P u e x false rest tied h others is = others is

look : (P : Entry → Type 0) (u : Uid) (e : EntityData) (es : Entities) → AllByRecursion P es → lookup (is_at (uid_cmp u)) es ≡ Some e → P (u, e)
look P u e [] h is = absurd cc
look P u e (x ∷ es) h is = look_at P u e x (is_eq (uid_cmp u x.0)) _ refl h.0 (look P u e es h.1) is

-- what holds of each entry holds of what is stored of an entity
pub of_stored : (P : Entry → Type 0) (u : Uid) (e : EntityData) (es : Entities) → AllByRecursion P es → stored u es ≡ Some e → P (u, e)
unfolding stored
of_stored P u e es h is = look P u e es h is

pub of_key : (P : Uid → Type 0) (u : Uid) (es : Entities) → AllByRecursion (λ (x : Entry). P x.0) es → IsStored es u → P u
of_key P u es h is = let found = some_of (stored u es) is in of_stored (λ (x : Entry). P x.0) u found.0 es h found.1

found_here : (b : Bool) (x : EntityData) (o : Option EntityData) → b ≡ true → IsSome (cond b (Some x) o)
found_here true x o h = refl
found_here false x o h = absurd cc

found_later : (b : Bool) (x : EntityData) (o : Option EntityData) → IsSome o → IsSome (cond b (Some x) o)
found_later true x o h = refl
found_later false x o h = h

-- each entry is stored
pub each_stored : (es : Entities) → AllByRecursion (λ (x : Entry). IsStored es x.0) es
unfolding stored
each_stored [] = tt
each_stored (x ∷ es) = (
  found_here _ x.1 _ (ap is_eq (tied_itself uid_cmp_total x.0)),
  all_weaker (λ (y : Entry). IsStored es y.0) (λ (y : Entry). IsStored (x ∷ es) y.0) (λ y h. found_later _ x.1 _ h) es (each_stored es),
)

-- what is stored of an entity of a map is its entry there
found_at : (u : Uid) (x : Entry) (es : Entities) (b : Bool) → is_eq (uid_cmp u x.0) ≡ b → u ≡ x.0 → cond b (Some x.1) (stored u es) ≡ Some x.1
found_at u x es true tied is = refl
found_at u x es false tied is = let both : false ≡ true = sym tied ∙ ap (λ (v : Uid). is_eq (uid_cmp v x.0)) is ∙ ap is_eq (tied_itself uid_cmp_total x.0) in absurd cc

passed_by : (u : Uid) (x : Entry) (o : Option EntityData) → uid_cmp x.0 u ≡ Less → cond (is_eq (uid_cmp u x.0)) (Some x.1) o ≡ o
passed_by u x o less =
    let turned : uid_cmp u x.0 ≡ Greater = uid_cmp_total.antisymm u x.0 ∙ ap ordering_reverse less in
    ap (λ (c : Ordering). cond (is_eq c) (Some x.1) o) turned

later_found : (x : Entry) (es rest : Entities) → AllByRecursion (λ y. uid_cmp x.0 y ≡ Less) (keys_of rest) → AllByRecursion (λ (y : Entry). stored y.0 es ≡ Some y.1) rest → AllByRecursion (λ (y : Entry). stored y.0 (x ∷ es) ≡ Some y.1) rest
unfolding stored
later_found x es [] above h = tt
later_found x es (y ∷ rest) above h = (passed_by y.0 x _ above.0 ∙ h.0, later_found x es rest above.1 h.1)

pub each_found : (es : Entities) → IsMap es → AllByRecursion (λ (x : Entry). stored x.0 es ≡ Some x.1) es
unfolding stored IsStrictlySortedBy
each_found [] ascending = tt
each_found (x ∷ es) ascending = (
  found_at x.0 x es (is_eq (uid_cmp x.0 x.0)) refl refl,
  later_found x es es ascending.0 (each_found es ascending.1),
)

-- ---- one step

-- the entity at a place of the list
at_place : (uids items : List Uid) (at : ℕ) (u d : Uid) → items ≡ uids → u ≡ get_or items at u → at < length uids → u ≡ get_or uids at d
at_place uids items at u d same is within = is ∙ ap (λ (us : List Uid). get_or us at u) same ∙ same_place uids at u d within

pub known-at : (s : Declarations) (uids items : List Uid) (es : Entities) (at : ℕ) (u : Uid) → items ≡ uids → u ≡ get_or items at u → at < length uids → IsStored es u → (d : Uid) → IsStep s uids es (get_or uids at d) uids es
known-at s uids items es at u same is within here d = subst (λ (v : Uid). IsStep s uids es v uids es) (at_place uids items at u d same is within) (known here)

pub added-at : (s : Declarations) (uids items more : List Uid) (es fs : Entities) (at : ℕ) (u v : Uid) (b : Bool) → items ≡ uids → u ≡ get_or items at u → at < length uids → (IsTrue b ↔ IsStored es u) → b ≡ false → v ≡ u → IsUidText v
    → more ≡ uids ++ uids_in_data (default_data s v) → fs ≡ with_entity v (default_data s v) es → (d : Uid) → IsStep s uids es (get_or uids at d) more fs
added-at s uids items more es fs at u v b same is within test fails copy text uids_are store_is d =
    let there : v ≡ get_or uids at d = copy ∙ at_place uids items at u d same is within in
    let new : ¬ IsStored es v = λ h. (let both : false ≡ true = sym fails ∙ test.1 (subst (IsStored es) copy h) in cc) in
    rw (uids_are, store_is) (subst (λ (w : Uid). IsStep s uids es w (uids ++ uids_in_data (default_data s v)) (with_entity v (default_data s v) es)) there (added new text))

-- ---- filling

none_given : (given : Entities) (u : Uid) (o : Option EntityData) → stored u given ≡ o → ¬ IsStored given u → stored u given ≡ None
none_given given u None is new = is
none_given given u (Some e) is new = absurd (new (ap is_some is))

pub all_rows : {X Y : Type 0} (P : Y → Type 0) (f : X → List Y) (xs : List X) → AllByRecursion (λ x. AllByRecursion P (f x)) xs → AllByRecursion P (flat_map f xs)
all_rows P f [] h = tt
all_rows P f (x ∷ xs) h = all_append P (f x) (flat_map f xs) h.0 (all_rows P f xs h.1)

module _ (s : Declarations) (given : Entities) (r : Request) (literals : List Uid) where
  abbrev Named : Uid → Type 0
  Named = IsNamedWith s given r literals

  abbrev first : List Uid
  first = first_uids s given r literals

  abbrev IsSoFar : List Uid → ℕ → Entities → Type 0
  IsSoFar uids done es = IsFilled s given r literals uids done es

  -- what is given is its own data
  as_given : IsMap given → AreAsGiven s given given
  as_given ascending =
      all_weaker (λ (x : Entry). stored x.0 given ≡ Some x.1) (λ (x : Entry). x.1 ≡ data_with s given x.0)
      (λ x is. ap (λ (o : Option EntityData). unwrap_or o (default_data s x.0)) (sym is)) given (each_found given ascending)

  entry_named : (x : Entry) → IsStored given x.0 → x.1 ≡ data_with s given x.0 → AllByRecursion Named (uids_in_entry x)
  entry_named x here is =
      all_of_elements Named (uids_in_entry x) (λ v has. of_entity x.0 (of_given here) (subst (λ (e : EntityData). Contains (uids_in_data e) v) is has))

  given_named : IsMap given → AllByRecursion (λ (x : Entry). AllByRecursion Named (uids_in_entry x)) given
  given_named ascending =
      all_of_elements (λ (x : Entry). AllByRecursion Named (uids_in_entry x)) given (λ x has.
      entry_named x (all_element (λ (y : Entry). IsStored given y.0) given x (each_stored given) has)
      (all_element (λ (y : Entry). y.1 ≡ data_with s given y.0) given x (as_given ascending) has))

  first_named : IsMap given → AllByRecursion Named first
  first_named ascending =
      all_append Named (action_uids s) (request_uids r ++ (literals ++ flat_map uids_in_entry given)) (all_of_elements Named (action_uids s) (λ u has. of_schema has))
      (all_append Named (request_uids r) (literals ++ flat_map uids_in_entry given) (all_of_elements Named (request_uids r) (λ u has. of_request has))
      (all_append Named literals (flat_map uids_in_entry given) (all_of_elements Named literals (λ u has. of_policy has)) (all_rows Named uids_in_entry given (given_named ascending))))

  in_first : (u : Uid) → Contains (flat_map uids_in_entry given) u → Contains first u
  in_first u has =
      Contains-append_right (action_uids s) (request_uids r ++ (literals ++ flat_map uids_in_entry given)) u
      (Contains-append_right (request_uids r) (literals ++ flat_map uids_in_entry given) u (Contains-append_right literals (flat_map uids_in_entry given) u has))

  pub filled-none : (uids : List Uid) (es : Entities) → uids ≡ first → es ≡ given → IsMap given → IsSoFar uids 0 es
  filled-none uids es all same ascending =
      rw (all, same) (record {
        begins = all_of_elements (Contains first) first (λ u has. has);
        kept = each_stored given;
        listed = first_named ascending;
        named = all_weaker (λ (x : Entry). IsStored given x.0) (λ (x : Entry). Named x.0) (λ x here. of_given here) given (each_stored given);
        texts = λ h. h;
        as_given = as_given ascending;
        so_far = λ k d below. absurd (omega arith);
        closed = all_of_elements (λ (x : Entry). AllByRecursion (Contains first) (uids_in_entry x)) given (λ x among.
            all_of_elements (Contains first) (uids_in_entry x) (λ u has. in_first u (contains_joined uids_in_entry given x u among has)));
      })

  passed : (P : Uid → Type 0) (uids : List Uid) (done : ℕ) → done < length uids → ((d : Uid) → P (get_or uids done d)) → ((k : ℕ) (d : Uid) → k < done → P (get_or uids k d)) → (k : ℕ) (d : Uid) → k < done + 1 → P (get_or uids k d)
  passed P uids done within now before k d below = elim (cases_lt k done) [
    | inl less ↦ before k d less
    | inr most ↦ let is : done ≡ k = omega arith in subst (λ (n : ℕ). P (get_or uids n d)) is (now d)
  ]

  filled-known : (uids : List Uid) (es : Entities) (done : ℕ) → done < length uids → ((d : Uid) → IsStored es (get_or uids done d)) → IsSoFar uids done es → IsSoFar uids (done + 1) es
  filled-known uids es done within is h =
      record {
        begins = h.begins;
        kept = h.kept;
        listed = h.listed;
        named = h.named;
        texts = h.texts;
        as_given = h.as_given;
        so_far = passed (IsStored es) uids done within is h.so_far;
        closed = h.closed;
      }

  -- an entity that isn't stored isn't given, so it is as it is by default
  default_with : (es : Entities) (u : Uid) → AllByRecursion (λ (x : Entry). IsStored es x.0) given → ¬ IsStored es u → default_data s u ≡ data_with s given u
  default_with es u kept new =
      ap (λ (o : Option EntityData). unwrap_or o (default_data s u)) (sym (none_given given u (stored u given) refl (λ here. new (of_key (IsStored es) u given kept here))))

  filled-added : (uids : List Uid) (es : Entities) (done : ℕ) (u : Uid) → done < length uids → ((d : Uid) → get_or uids done d ≡ u) → ¬ IsStored es u → IsUidText u → IsSoFar uids done es
      → IsSoFar (uids ++ uids_in_data (default_data s u)) (done + 1) (with_entity u (default_data s u) es)
  filled-added uids es done u within is new text h =
      let entity = default_data s u in
      let more = uids_in_data entity in
      let stands : Contains uids u = subst (Contains uids) (is u) (stands_in uids done u within) in
      let longer = λ (v : Uid) (has : Contains uids v). Contains-append_left uids more v has in
      let named = all_element Named uids u h.listed stands in
      let by_default = default_with es u h.kept new in
      let now = stored-with_entity u entity es in
      let old = λ (k : ℕ) (d : Uid) (below : k < length uids). before_end uids more k d below in
      record {
        begins = all_weaker (Contains uids) (Contains (uids ++ more)) longer first h.begins;
        kept = all_weaker (λ (x : Entry). IsStored es x.0) (λ (x : Entry). IsStored (with_entity u entity es) x.0) (λ x here. stored-kept x.0 u entity es here) given h.kept;
        listed = all_append Named uids more h.listed (all_of_elements Named more (λ v has. of_entity u named (subst (λ (e : EntityData). Contains (uids_in_data e) v) by_default has)));
        named = each-with_entity (λ (x : Entry). Named x.0) u entity es named h.named;
        texts = λ texts. each-with_entity (λ (x : Entry). IsUidText x.0) u entity es text (h.texts texts);
        as_given = each-with_entity (λ (x : Entry). x.1 ≡ data_with s given x.0) u entity es by_default h.as_given;
        so_far = λ k d below. elim (cases_lt k done) [
          | inl less ↦ subst (IsStored (with_entity u entity es)) (sym (old k d (omega arith))) (stored-kept (get_or uids k d) u entity es (h.so_far k d less))
          | inr most ↦
              let at : k ≡ done = omega arith in
              let same : get_or (uids ++ more) k d ≡ u = old k d (omega arith) ∙ ap (λ (n : ℕ). get_or uids n d) at ∙ is d in
              subst (IsStored (with_entity u entity es)) (sym same) now
        ];
        closed = each-with_entity (λ (x : Entry). AllByRecursion (Contains (uids ++ more)) (uids_in_entry x)) u entity es
            (all_of_elements (Contains (uids ++ more)) more (λ v has. Contains-append_right uids more v has))
            (all_weaker (λ (x : Entry). AllByRecursion (Contains uids) (uids_in_entry x)) (λ (x : Entry). AllByRecursion (Contains (uids ++ more)) (uids_in_entry x))
            (λ x all. all_weaker (Contains uids) (Contains (uids ++ more)) longer (uids_in_entry x) all) es h.closed);
      }

  step : (uids : List Uid) (es : Entities) (u : Uid) (more : List Uid) (fs : Entities) (done : ℕ) → IsStep s uids es u more fs → done < length uids → ((d : Uid) → get_or uids done d ≡ u) → IsSoFar uids done es → IsSoFar more (done + 1) fs
  step uids es u more fs done (known is) within at h = filled-known uids es done within (λ d. subst (IsStored es) (sym (at d)) is) h
  step uids es u more fs done (added new text) within at h = filled-added uids es done u within at new text h

  pub filled-step : (uids more : List Uid) (es fs : Entities) (done : ℕ) → done < length uids → ((d : Uid) → IsStep s uids es (get_or uids done d) more fs) → IsSoFar uids done es → IsSoFar more (done + 1) fs
  filled-step [] more es fs done within steps h = absurd (omega arith)
  filled-step (v ∷ uids) more es fs done within steps h =
      step (v ∷ uids) es (get_or (v ∷ uids) done v) more fs done (steps v) within (λ d. same_place (v ∷ uids) done d v within) h

  -- ---- the end

  all_stored : (uids : List Uid) (es : Entities) (done : ℕ) → length uids ≤ done → IsSoFar uids done es → (u : Uid) → Contains uids u → IsStored es u
  all_stored uids es done over h u has = subst (IsStored es) has.2 (h.so_far has.0 u (omega (arith, has.1, over)))

  all_of_first : (uids : List Uid) (es : Entities) (done : ℕ) → length uids ≤ done → IsSoFar uids done es → (u : Uid) → Contains first u → IsStored es u
  all_of_first uids es done over h u has = all_stored uids es done over h u (all_element (Contains uids) first u h.begins has)

  -- what a stored entity names stands in the list
  names_listed : (uids : List Uid) (es : Entities) (done : ℕ) → IsSoFar uids done es → (u v : Uid) → IsStored es u → Contains (uids_in_data (data_with s given u)) v → Contains uids v
  names_listed uids es done h u v here has =
      let found = some_of (stored u es) here in
      let told : found.0 ≡ data_with s given u = of_stored (λ (x : Entry). x.1 ≡ data_with s given x.0) u found.0 es h.as_given found.1 in
      let all = of_stored (λ (x : Entry). AllByRecursion (Contains uids) (uids_in_entry x)) u found.0 es h.closed found.1 in
      all_element (Contains uids) (uids_in_data found.0) v all (subst (λ (e : EntityData). Contains (uids_in_data e) v) (sym told) has)

  named_stored : (uids : List Uid) (es : Entities) (done : ℕ) → length uids ≤ done → IsSoFar uids done es → (u : Uid) → Named u → IsStored es u
  named_stored uids es done over h u (of_schema has) =
      all_of_first uids es done over h u (Contains-append_left (action_uids s) (request_uids r ++ (literals ++ flat_map uids_in_entry given)) u has)
  named_stored uids es done over h u (of_request has) =
      all_of_first uids es done over h u (Contains-append_right (action_uids s) (request_uids r ++ (literals ++ flat_map uids_in_entry given)) u
      (Contains-append_left (request_uids r) (literals ++ flat_map uids_in_entry given) u has))
  named_stored uids es done over h u (of_policy has) =
      all_of_first uids es done over h u (Contains-append_right (action_uids s) (request_uids r ++ (literals ++ flat_map uids_in_entry given)) u
      (Contains-append_right (request_uids r) (literals ++ flat_map uids_in_entry given) u (Contains-append_left literals (flat_map uids_in_entry given) u has)))
  named_stored uids es done over h u (of_given here) = of_key (IsStored es) u given h.kept here
  named_stored uids es done over h v (of_entity u before has) = all_stored uids es done over h v (names_listed uids es done h u v (named_stored uids es done over h u before) has)

  pub filled-end : (uids : List Uid) (es : Entities) (done : ℕ) → length uids ≤ done → IsSoFar uids done es → (u : Uid) → IsStored es u ↔ Named u
  filled-end uids es done over h u = (λ is. of_key Named u es h.named is, named_stored uids es done over h u)
