-- Sets and records that are written, by the numbers of their members.
use Rattle.std.proofs.Common.{◌≡◌, ◌+◌, ◌<◌, ℕ, zero, suc, arith, List, [], ◌∷◌, ◌++◌, All, fold, length, map, take, get_or, refl, ap, sym, subst, ◌∙◌}
use Rattle.std.specs.BTreeMap.{insert_entry}
use Rattle.std.specs.Ordering.{match_ordering}
use Rattle.std.specs.declared.cmp.Ordering.{Ordering}
use Rattle.std.specs.declared.cmp.Ordering.TheVariants.{Less, Equal, Greater}
use Rattle.std.proofs.lemmas.List.{take_more, map-append}
use Rattle.sc_names.specs.Uids.{text_cmp}
use Rattle.sc_sorts.specs.declared.sort.Sort.{Sort}
use Rattle.sc_typed.specs.declared.typed_expr.TypedExpr.{TypedExpr}
use Rattle.sc_sorts.specs.declared.node.ManyOp.TheVariants as manys
use Rattle.sc_sorts.specs.declared.node.Node.{Node}
use Rattle.sc_terms.specs.Trees.{Labelled, many, parts_of}
use Rattle.sc_terms.specs.Tables.{Places, tree, node_parts, at_numbers, AreBelow, Keeps, StandsFor}
use Rattle.sc_terms.specs.Folds.{set_term}
use Rattle.sc_terms.proofs.TableLaws.{stands_later}
use Rattle.sc_terms.specs.Joined.{all_of}
use Rattle.sc_constructs.specs.declared.opt.Opt.{Opt}
use Rattle.sc_constructs.specs.declared.setting.Setting.{Setting}
use Rattle.sc_constructs.specs.Code.{CodeField, vals, first_sort, set_code, with_part, in_order, record_code}
use Rattle.sc_constructs.specs.Numbers.{AreCodes, AreFields, StandsAs, StandAs, StandAsFields, OptField, codes_at, field_at}
use Rattle.sc_constructs.proofs.NumbersLaws as numbers
use Rattle.sc_symeval.specs.Settings.{code_in, codes_in, field_in}
use Rattle.sc_symeval.specs.Parts.{with_number, numbers_in_order}
use Rattle.sc_terms.proofs.DefaultLaws.{parts_listed}

-- ---- one member more

pub member_more : (c : Setting) (xs ys : List Node) (members : List TypedExpr) (i : ℕ) (x : TypedExpr) (os all : List Opt) (o : Opt) → x ≡ get_or members i x
    → i < length members → Keeps xs ys → StandAs xs os (codes_in c (take i members)) → StandsAs ys o (code_in c x) → all ≡ os ++ o ∷ []
    → StandAs ys all (codes_in c (take (i + 1) members))
member_more c xs ys members i x os all o here within kept so_far new pushed =
    let whole : codes_in c (take (i + 1) members) ≡ codes_in c (take i members) ++ code_in c (get_or members i x) ∷ [] =
    ap (codes_in c) (take_more members i x within) ∙ map-append (code_in c) (take i members) (get_or members i x ∷ [])
    in
    let one : StandsAs ys o (code_in c (get_or members i x)) = subst (λ (z : TypedExpr). StandsAs ys o (code_in c z)) here new in
    subst (λ (ls : List Opt). StandAs ys ls (codes_in c (take (i + 1) members))) (sym pushed)
    (subst (StandAs ys (os ++ o ∷ [])) (sym whole) (numbers.code_more xs ys os _ o _ so_far kept one))

abbrev AnyField : Type 0
AnyField = List ℕ × TypedExpr

abbrev fields_in : Setting → List AnyField → List CodeField
fields_in c fs = map (field_in c) fs

pub field_more : (c : Setting) (xs ys : List Node) (fields : List AnyField) (i : ℕ) (x : AnyField) (os all : List OptField) (name : List ℕ) (o : Opt) → x ≡ get_or fields i x
    → i < length fields → Keeps xs ys → StandAsFields xs os (fields_in c (take i fields)) → name ≡ x.0 → StandsAs ys o (code_in c x.1)
    → all ≡ os ++ (name, o) ∷ [] → StandAsFields ys all (fields_in c (take (i + 1) fields))
field_more c xs ys fields i x os all name o here within kept so_far named new pushed =
    let whole : fields_in c (take (i + 1) fields) ≡ fields_in c (take i fields) ++ field_in c (get_or fields i x) ∷ [] =
    ap (fields_in c) (take_more fields i x within) ∙ map-append (field_in c) (take i fields) (get_or fields i x ∷ [])
    in
    let more : StandAsFields ys (os ++ (name, o) ∷ []) (fields_in c (take i fields) ++ (name, code_in c x.1) ∷ []) =
    numbers.field_more xs ys os _ name o _ so_far kept new
    in
    let one : field_in c (get_or fields i x) ≡ (name, code_in c x.1) = ap (field_in c) (sym here) ∙ ap (λ (n : List ℕ). (n, code_in c x.1)) (sym named) in
    let at : fields_in c (take (i + 1) fields) ≡ fields_in c (take i fields) ++ (name, code_in c x.1) ∷ [] =
    whole ∙ ap (λ (f : CodeField). fields_in c (take i fields) ++ f ∷ []) one
    in
    subst (λ (ls : List OptField). StandAsFields ys ls (fields_in c (take (i + 1) fields))) (sym pushed) (subst (StandAsFields ys (os ++ (name, o) ∷ [])) (sym at) more)

-- ---- numbers that are handed on

pub values_within : (xs : List Node) (os : List Opt) (ns : List ℕ) → AreCodes xs os → ns ≡ map (λ (o : Opt). o.val) os → All (λ (n : ℕ). n < length xs) ns
values_within xs os ns h is = subst (All (λ (n : ℕ). n < length xs)) (sym is) (numbers.vals_within xs os h)

pub conditions_within : (xs ys : List Node) (os : List Opt) (ns : List ℕ) → AreCodes xs os → Keeps xs ys → ns ≡ map (λ (o : Opt). o.ok) os → All (λ (n : ℕ). n < length ys) ns
conditions_within xs ys os ns h kept is = subst (All (λ (n : ℕ). n < length ys)) (sym is) (numbers.oks_within ys os (numbers.codes_later xs ys os kept h))

pub field_conditions_within : (xs : List Node) (fs : List OptField) (ns : List ℕ) → AreFields xs fs → ns ≡ map (λ (f : OptField). f.1.ok) fs → All (λ (n : ℕ). n < length xs) ns
field_conditions_within xs fs ns h is = subst (All (λ (n : ℕ). n < length xs)) (sym is) (numbers.field_oks_within xs fs h)

-- ---- `[a, b]`

pub set_stands : (xs ys zs : List Node) (os : List Opt) (values conditions : List ℕ) (k : Sort) (n m : ℕ) → AreCodes xs os
    → values ≡ map (λ (o : Opt). o.val) os → k ≡ first_sort (map (tree xs) values) → Keeps xs ys → StandsFor ys n (set_term k (map (tree xs) values))
    → conditions ≡ map (λ (o : Opt). o.ok) os → Keeps ys zs → StandsFor zs m (all_of (map (tree ys) conditions))
    → StandsAs zs (record { ok = m; val = n }) (set_code (codes_at xs os))
set_stands xs ys zs os values conditions k n m codes values_are sort_is kept set conditions_are more all =
    let members : map (tree xs) values ≡ vals (codes_at xs os) = ap (map (tree xs)) values_are ∙ numbers.vals_are xs os in
    let sort : k ≡ first_sort (vals (codes_at xs os)) = sort_is ∙ ap first_sort members in
    let oks = ap (map (tree ys)) conditions_are ∙ numbers.trees_later xs ys kept _ (numbers.oks_within xs os codes) ∙ numbers.oks_are xs os in
    record {
      ok = record { within = all.within; is = all.is ∙ ap all_of oks };
      val = stands_later ys zs n _ more (record { within = set.within; is = set.is ∙ λ i. set_term (sort i) (members i) });
    }

-- the same where the numbers went through slices
pub set_of_stands : (xs ys zs : List Node) (os : List Opt) (values firsts members conditions tests : List ℕ) (k : Sort) (n m : ℕ) → AreCodes xs os
    → values ≡ map (λ (o : Opt). o.val) os → firsts ≡ values → k ≡ first_sort (map (tree xs) firsts) → members ≡ values → Keeps xs ys
    → StandsFor ys n (set_term k (map (tree xs) members)) → conditions ≡ map (λ (o : Opt). o.ok) os → tests ≡ conditions → Keeps ys zs
    → StandsFor zs m (all_of (map (tree ys) tests)) → StandsAs zs (record { ok = m; val = n }) (set_code (codes_at xs os))
set_of_stands xs ys zs os values firsts members conditions tests k n m codes values_are first_same sort_is members_same kept set conditions_are tests_same more all =
    set_stands xs ys zs os values conditions k n m codes values_are (sort_is ∙ ap (λ (ns : List ℕ). first_sort (map (tree xs) ns)) first_same) kept
    (subst (λ (ns : List ℕ). StandsFor ys n (set_term k (map (tree xs) ns))) members_same set) conditions_are more
    (subst (λ (ns : List ℕ). StandsFor zs m (all_of (map (tree ys) ns))) tests_same all)

-- ---- `{a: x, b: y}`

-- a number put under a name is its term put there
inserted : (xs : List Node) (ps : Places) (name : List ℕ) (n : ℕ) → at_numbers xs (insert_entry text_cmp ps name n) ≡ insert_entry text_cmp (at_numbers xs ps) name (tree xs n)
inserted xs [] name n = refl
inserted xs (p ∷ ps) name n = put (text_cmp name p.0) (inserted xs ps name n)
  where
    put : (r : Ordering) → at_numbers xs (insert_entry text_cmp ps name n) ≡ insert_entry text_cmp (at_numbers xs ps) name (tree xs n)
        → at_numbers xs (match_ordering r ((name, n) ∷ p ∷ ps) ((p.0, n) ∷ ps) (p ∷ insert_entry text_cmp ps name n))
        ≡ match_ordering r ((name, tree xs n) ∷ at_numbers xs (p ∷ ps)) ((p.0, tree xs n) ∷ at_numbers xs ps) ((p.0, tree xs p.1) ∷ insert_entry text_cmp (at_numbers xs ps) name (tree xs n))
    put Less h = refl
    put Equal h = refl
    put Greater h = ap (λ (ls : List Labelled). (p.0, tree xs p.1) ∷ ls) h

in_order_are : (xs : List Node) (fs : List OptField) (ps : Places) → at_numbers xs (fold with_number ps fs) ≡ fold with_part (at_numbers xs ps) (map (field_at xs) fs)
in_order_are xs [] ps = refl
in_order_are xs (f ∷ fs) ps =
    in_order_are xs fs (with_number ps f) ∙ ap (λ (ls : List Labelled). fold with_part ls (map (field_at xs) fs)) (inserted xs ps f.0 f.1.val)

-- the parts of a node as a list

-- a number below a bound, put among such numbers
put_below : (k : ℕ) (ps : Places) (name : List ℕ) (n : ℕ) → n < k → AreBelow k ps → AreBelow k (insert_entry text_cmp ps name n)
put_below k [] name n new h = (new, tt)
put_below k (p ∷ ps) name n new h = put (text_cmp name p.0) (put_below k ps name n new h.1)
  where
    put : (r : Ordering) → AreBelow k (insert_entry text_cmp ps name n) → AreBelow k (match_ordering r ((name, n) ∷ p ∷ ps) ((p.0, n) ∷ ps) (p ∷ insert_entry text_cmp ps name n))
    put Less rest = (new, h)
    put Equal rest = (new, h.1)
    put Greater rest = (h.0, rest)

all_below : (xs : List Node) (fs : List OptField) (ps : Places) → AreFields xs fs → AreBelow (length xs) ps → AreBelow (length xs) (fold with_number ps fs)
all_below xs [] ps fields h = h
all_below xs (f ∷ fs) ps fields h =
    all_below xs fs (with_number ps f) (λ i d within. fields (suc i) d (omega arith)) (put_below (length xs) ps f.0 f.1.val (fields zero f (omega arith)).val h)

-- numbers that are put in order are those of the fields
pub parts_within : (xs ys : List Node) (fs : List OptField) (ps : Places) → AreFields xs fs → Keeps xs ys → ps ≡ numbers_in_order fs → AreBelow (length ys) ps
parts_within xs ys fs ps fields kept is = subst (AreBelow (length ys)) (sym is) (all_below ys fs [] (numbers.fields_later xs ys fs kept fields) tt)

pub record_stands : (xs ys zs : List Node) (fs : List OptField) (conditions : List ℕ) (ps : Places) (n m : ℕ) → AreFields xs fs
    → conditions ≡ map (λ (f : OptField). f.1.ok) fs → Keeps xs ys → StandsFor ys m (all_of (map (tree xs) conditions))
    → ps ≡ numbers_in_order fs → Keeps ys zs → StandsFor zs n (many manys.Record (node_parts ys ps))
    → StandsAs zs (record { ok = m; val = n }) (record_code (map (field_at xs) fs))
record_stands xs ys zs fs conditions ps n m fields conditions_are kept all parts_are more whole =
    let oks = ap (map (tree xs)) conditions_are ∙ numbers.field_oks_are xs fs in
    let listed : at_numbers ys ps ≡ in_order (map (field_at xs) fs) =
    ap (at_numbers ys) parts_are ∙ in_order_are ys fs [] ∙ ap in_order (numbers.fields_same xs ys fs kept fields)
    in
    record {
      ok = stands_later ys zs m _ more (record { within = all.within; is = all.is ∙ ap all_of oks });
      val = record { within = whole.within; is = whole.is ∙ ap (many manys.Record) (parts_listed ys ps ∙ ap parts_of listed) };
    }

-- the same where the numbers of conditions went through a slice
pub record_of_stands : (xs ys zs : List Node) (fs : List OptField) (conditions tests : List ℕ) (ps : Places) (n m : ℕ) → AreFields xs fs
    → conditions ≡ map (λ (f : OptField). f.1.ok) fs → tests ≡ conditions → Keeps xs ys → StandsFor ys m (all_of (map (tree xs) tests))
    → ps ≡ numbers_in_order fs → Keeps ys zs → StandsFor zs n (many manys.Record (node_parts ys ps))
    → StandsAs zs (record { ok = m; val = n }) (record_code (map (field_at xs) fs))
record_of_stands xs ys zs fs conditions tests ps n m fields conditions_are tests_same kept all =
    record_stands xs ys zs fs conditions ps n m fields conditions_are kept (subst (λ (ns : List ℕ). StandsFor ys m (all_of (map (tree xs) ns))) tests_same all)
