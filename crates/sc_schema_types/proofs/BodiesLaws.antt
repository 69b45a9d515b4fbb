-- The bodies of common types, as they are put into a table.
use Rattle.std.proofs.Common.{◌≡◌, ◌<◌, ◌+◌, ℕ, List, [], ◌∷◌, ◌++◌, length, take, get_or, Bool, true, false, cond, Option, Some, None, option_map, refl, sym, ap, ◌∙◌, append-nil}
use Rattle.std.specs.BTreeMap.{is_at}
use Rattle.std.specs.Borrow.{Bor}
use Rattle.std.specs.List.{flat_map}
use Rattle.std.specs.Map.{lookup}
use Rattle.std.specs.Option.{is_some, option_or}
use Rattle.std.specs.Str.{bytes_eq}
use Rattle.std.proofs.lemmas.Grind.{flat_map-append}
use Rattle.std.proofs.lemmas.List.{take_more}
use Rattle.sc_lists.proofs.TextLaws.{bytes_eq_true}
use Rattle.sc_names.specs.Uids.{text_cmp}
use Rattle.sc_schema.specs.declared.resolved_common_type.ResolvedCommonType.{ResolvedCommonType}
use Rattle.sc_schema.specs.declared.resolved_namespace.ResolvedNamespace.{ResolvedNamespace}
use Rattle.sc_schema.specs.declared.resolved_type.ResolvedType.{ResolvedType}
use Rattle.sc_schema_types.specs.References.{body_among}
use Rattle.sc_schema_types.specs.Tables.{body_in}
use Rattle.sc_schema_types.proofs.TextsLaws.{is_at-bytes}

abbrev Found : Type 0
Found = Option ResolvedType

abbrev pub Entries : Type 0
Entries = List (List ℕ × Bor ResolvedType)

pub or_none : (o : Found) → o ≡ option_or o None
or_none None = refl
or_none (Some x) = refl

or_assoc : (o p q : Found) → option_or (option_or o p) q ≡ option_or o (option_or p q)
or_assoc None p q = refl
or_assoc (Some x) p q = refl

none_found : (o : Option (Bor ResolvedType)) → false ≡ is_some o → option_map (λ (x : Bor ResolvedType). x.now) o ≡ None
none_found None h = refl
none_found (Some x) h = cc

-- ---- the bodies among common types

body_one : (b : Bool) (c : ResolvedCommonType) → option_map (λ (d : ResolvedCommonType). d.body) (cond b (Some c) None) ≡ cond b (Some c.body) None
body_one true c = refl
body_one false c = refl

pub body_among_one : (c : ResolvedCommonType) (q : List ℕ) → body_among (c ∷ []) q ≡ cond (bytes_eq q c.name) (Some c.body) None
unfolding body_among
body_among_one c q = body_one (bytes_eq q c.name) c

first_of : (b : Bool) (c : ResolvedCommonType) (o : Option ResolvedCommonType) (p : Found)
    → option_or (option_map (λ (d : ResolvedCommonType). d.body) (cond b (Some c) o)) p ≡ cond b (Some c.body) (option_or (option_map (λ (d : ResolvedCommonType). d.body) o) p)
first_of true c o p = refl
first_of false c o p = refl

pub body_first : (b : Bool) (c : ResolvedCommonType) (o : Option ResolvedCommonType)
    → option_map (λ (d : ResolvedCommonType). d.body) (cond b (Some c) o) ≡ cond b (Some c.body) (option_map (λ (d : ResolvedCommonType). d.body) o)
body_first true c o = refl
body_first false c o = refl

pub body_among-append : (xs ys : List ResolvedCommonType) (q : List ℕ) → body_among (xs ++ ys) q ≡ option_or (body_among xs q) (body_among ys q)
unfolding body_among
body_among-append [] ys q = refl
body_among-append (c ∷ xs) ys q =
    body_first (bytes_eq q c.name) c _ ∙ ap (cond (bytes_eq q c.name) (Some c.body)) (body_among-append xs ys q) ∙ sym (first_of (bytes_eq q c.name) c _ _)

-- ---- one body is put

seen_inside : (b : Bool) (v : Bor ResolvedType) (o : Option (Bor ResolvedType))
    → option_map (λ (x : Bor ResolvedType). x.now) (cond b (Some v) o) ≡ cond b (Some v.now) (option_map (λ (x : Bor ResolvedType). x.now) o)
seen_inside true v o = refl
seen_inside false v o = refl

put_new_at : (b d : Bool) (body : ResolvedType) (o : Found) → b ≡ d → (d ≡ true → o ≡ None) → cond b (Some body) o ≡ option_or o (cond d (Some body) None)
put_new_at b true body o same none = ap (λ (z : Bool). cond z (Some body) o) same ∙ sym (ap (λ (p : Found). option_or p (Some body)) (none refl))
put_new_at b false body o same none = ap (λ (z : Bool). cond z (Some body) o) same ∙ or_none o

-- a name that isn't there yet
pub put_new : (old new : Entries) (c : ResolvedCommonType) (key : List ℕ) (v : Bor ResolvedType) → key ≡ c.name → v.now ≡ c.body
    → false ≡ is_some (lookup (is_at (text_cmp c.name)) old)
    → ((q : List ℕ) → lookup (is_at (text_cmp q)) new ≡ cond (is_at (text_cmp key) q) (Some v) (lookup (is_at (text_cmp q)) old))
    → (q : List ℕ) → body_in new q ≡ option_or (body_in old q) (body_among (c ∷ []) q)
put_new old new c key v same body absent updates q =
    ap (option_map (λ (x : Bor ResolvedType). x.now)) (updates q)
    ∙ seen_inside (is_at (text_cmp key) q) v (lookup (is_at (text_cmp q)) old)
    ∙ ap (λ (t : ResolvedType). cond (is_at (text_cmp key) q) (Some t) (body_in old q)) body
    ∙ put_new_at (is_at (text_cmp key) q) (bytes_eq q c.name) c.body (body_in old q)
    (ap (λ (n : List ℕ). is_at (text_cmp n) q) same ∙ is_at-bytes c.name q)
    (λ h. ap (body_in old) (bytes_eq_true q c.name h) ∙ none_found _ absent)
    ∙ ap (option_or (body_in old q)) (sym (body_among_one c q))

put_there_at : (o p : Found) → (is_some o ≡ false → p ≡ None) → o ≡ option_or o p
put_there_at None p h = sym (h refl)
put_there_at (Some x) p h = refl

not_here : (b : Bool) (t : ResolvedType) → (b ≡ true → true ≡ false) → cond b (Some t) None ≡ None
not_here true t h = let no : true ≡ false = h refl in cc
not_here false t h = refl

is_some-seen : (o : Option (Bor ResolvedType)) → is_some (option_map (λ (x : Bor ResolvedType). x.now) o) ≡ is_some o
is_some-seen None = refl
is_some-seen (Some x) = refl

-- a name that is there
pub put_there : (old : Entries) (c : ResolvedCommonType) → true ≡ is_some (lookup (is_at (text_cmp c.name)) old) → (q : List ℕ) → body_in old q ≡ option_or (body_in old q) (body_among (c ∷ []) q)
put_there old c there q =
    put_there_at (body_in old q) (body_among (c ∷ []) q) (λ h. body_among_one c q
    ∙ not_here (bytes_eq q c.name) c.body (λ same. there ∙ (ap (λ (n : List ℕ). is_some (lookup (is_at (text_cmp n)) old)) (sym (bytes_eq_true q c.name same)) ∙ (sym (is_some-seen (lookup (is_at (text_cmp q)) old)) ∙ h))))

-- ---- and one after the other

pub more_types : (types : List ResolvedCommonType) (i : ℕ) (c : ResolvedCommonType) (q : List ℕ) (first now new : Found) → i < length types → c ≡ get_or types i c
    → now ≡ option_or first (body_among (take i types) q) → new ≡ option_or now (body_among (c ∷ []) q) → new ≡ option_or first (body_among (take (i + 1) types) q)
more_types types i c q first now new within is so_far put =
    let one_more : take i types ++ c ∷ [] ≡ take (i + 1) types = ap (λ (d : ResolvedCommonType). take i types ++ d ∷ []) is ∙ sym (take_more types i c within) in
    put
    ∙ ap (λ (o : Found). option_or o (body_among (c ∷ []) q)) so_far
    ∙ or_assoc first (body_among (take i types) q) (body_among (c ∷ []) q)
    ∙ ap (option_or first) (sym (body_among-append (take i types) (c ∷ []) q))
    ∙ ap (λ (ts : List ResolvedCommonType). option_or first (body_among ts q)) one_more

abbrev types_of : List ResolvedNamespace → List ResolvedCommonType
types_of = flat_map (λ (n : ResolvedNamespace). n.common_types)

pub more_namespaces : (namespaces : List ResolvedNamespace) (i : ℕ) (n : ResolvedNamespace) (types : List ResolvedCommonType) (q : List ℕ) (now new : Found) → i < length namespaces → n ≡ get_or namespaces i n → types ≡ n.common_types
    → now ≡ body_among (types_of (take i namespaces)) q → new ≡ option_or now (body_among types q) → new ≡ body_among (types_of (take (i + 1) namespaces)) q
more_namespaces namespaces i n types q now new within is same so_far put =
    let one_more : take i namespaces ++ n ∷ [] ≡ take (i + 1) namespaces = ap (λ (m : ResolvedNamespace). take i namespaces ++ m ∷ []) is ∙ sym (take_more namespaces i n within) in
    let apart : types_of (take i namespaces ++ n ∷ []) ≡ types_of (take i namespaces) ++ n.common_types =
    flat_map-append (λ (m : ResolvedNamespace). m.common_types) (take i namespaces) (n ∷ []) ∙ ap (λ (ts : List ResolvedCommonType). types_of (take i namespaces) ++ ts) (append-nil n.common_types) in
    put
    ∙ ap (λ (o : Found). option_or o (body_among types q)) so_far
    ∙ ap (λ (ts : List ResolvedCommonType). option_or (body_among (types_of (take i namespaces)) q) (body_among ts q)) same
    ∙ sym (body_among-append (types_of (take i namespaces)) n.common_types q)
    ∙ ap (λ (ts : List ResolvedCommonType). body_among ts q) (sym apart ∙ ap types_of one_more)
