-- Numbers that stand for what expressions are compiled to, in a table that grows.
use Rattle.std.proofs.Common.{◌≡◌, ◌+◌, ◌<◌, ℕ, zero, suc, List, [], ◌∷◌, ◌++◌, All, length, map, get_or, refl, ap, ◌∙◌, arith}
use Rattle.std.proofs.lemmas.List.{map-append}
use Rattle.std.proofs.lemmas.List.Elements.{All-push, All-map}
use Rattle.sc_terms.proofs.TableLaws.{stands_later}
use Rattle.sc_schema.specs.declared.declarations.Env.{Env}
use Rattle.sc_schema.specs.Declarations.{Declarations}
use Rattle.sc_sorts.specs.declared.node.Node.{Node}
use Rattle.sc_terms.specs.Trees.{Tree}
use Rattle.sc_terms.specs.Tables.{tree, Keeps, StandsFor}
use Rattle.sc_constructs.specs.declared.opt.Opt.{Opt}
use Rattle.sc_constructs.specs.declared.setting.Variables.{Variables}
use Rattle.sc_constructs.specs.Code.{Code, CodeField, code, oks, vals, field_codes}
use Rattle.sc_constructs.specs.Numbers.{IsCode, AreCodes, AreFields, StandsAs, StandAs, StandAsFields, StandForAll, HasVariables, OptField, code_at, codes_at, field_at}

pub as_later : (xs ys : List Node) (o : Opt) (c : Code) → Keeps xs ys → StandsAs xs o c → StandsAs ys o c
as_later xs ys o c kept h = record { ok = stands_later xs ys o.ok c.ok kept h.ok; val = stands_later xs ys o.val c.val kept h.val }

-- numbers that stand for a code are numbers of the table
pub in_table : (xs : List Node) (o : Opt) (c : Code) → StandsAs xs o c → IsCode xs o
in_table xs o c h = record { ok = h.ok.within; val = h.val.within }

-- and the terms that they stand for are the code
pub code_is : (xs : List Node) (o : Opt) (c : Code) → StandsAs xs o c → code_at xs o ≡ c
code_is xs o c h = let p = h.ok.is in let q = h.val.is in λ i. code (p i) (q i)

pub ready_later : (xs ys : List Node) (s : Declarations) (env : Env) (v : Variables) → Keeps xs ys → HasVariables xs s env v → HasVariables ys s env v
ready_later xs ys s env v kept h = record {
  principal = stands_later xs ys v.principal _ kept h.principal;
  resource = stands_later xs ys v.resource _ kept h.resource;
  context = stands_later xs ys v.context _ kept h.context;
}

-- ---- many

pub code_later : (xs ys : List Node) (o : Opt) → Keeps xs ys → IsCode xs o → IsCode ys o
code_later xs ys o kept h = record { ok = (let m = h.ok in let l = kept.longer in omega arith); val = (let m = h.val in let l = kept.longer in omega arith) }

pub code_same : (xs ys : List Node) (o : Opt) → Keeps xs ys → IsCode xs o → code_at ys o ≡ code_at xs o
code_same xs ys o kept h = let p = kept.same o.ok h.ok in let q = kept.same o.val h.val in λ i. code (p i) (q i)

pub codes_later : (xs ys : List Node) (os : List Opt) → Keeps xs ys → AreCodes xs os → AreCodes ys os
codes_later xs ys os kept h = λ i d within. code_later xs ys (get_or os i d) kept (h i d within)

pub codes_same : (xs ys : List Node) (os : List Opt) → Keeps xs ys → AreCodes xs os → codes_at ys os ≡ codes_at xs os
codes_same xs ys [] kept h = refl
codes_same xs ys (o ∷ os) kept h =
    let first : code_at ys o ≡ code_at xs o = code_same xs ys o kept (h zero o (omega arith)) in
    let rest : codes_at ys os ≡ codes_at xs os = codes_same xs ys os kept (λ i d within. h (suc i) d (omega arith)) in
    λ i. first i ∷ rest i

-- one more
pub code_more : (xs ys : List Node) (os : List Opt) (cs : List Code) (o : Opt) (c : Code) → StandAs xs os cs → Keeps xs ys → StandsAs ys o c → StandAs ys (os ++ o ∷ []) (cs ++ c ∷ [])
code_more xs ys os cs o c h kept new = record {
  within = All-push (IsCode ys) os o (codes_later xs ys os kept h.within) (in_table ys o c new);
  are =
      map-append (code_at ys) os (o ∷ [])
      ∙ ap (λ (ds : List Code). ds ++ code_at ys o ∷ []) (codes_same xs ys os kept h.within ∙ h.are)
      ∙ ap (λ (d : Code). cs ++ d ∷ []) (code_is ys o c new);
}

pub fields_later : (xs ys : List Node) (fs : List OptField) → Keeps xs ys → AreFields xs fs → AreFields ys fs
fields_later xs ys fs kept h = λ i d within. code_later xs ys (get_or fs i d).1 kept (h i d within)

pub fields_same : (xs ys : List Node) (fs : List OptField) → Keeps xs ys → AreFields xs fs → map (field_at ys) fs ≡ map (field_at xs) fs
fields_same xs ys [] kept h = refl
fields_same xs ys (f ∷ fs) kept h =
    let first : code_at ys f.1 ≡ code_at xs f.1 = code_same xs ys f.1 kept (h zero f (omega arith)) in
    let rest : map (field_at ys) fs ≡ map (field_at xs) fs = fields_same xs ys fs kept (λ i d within. h (suc i) d (omega arith)) in
    λ i. (f.0, first i) ∷ rest i

pub field_more : (xs ys : List Node) (os : List OptField) (fs : List CodeField) (name : List ℕ) (o : Opt) (c : Code) → StandAsFields xs os fs → Keeps xs ys → StandsAs ys o c
    → StandAsFields ys (os ++ (name, o) ∷ []) (fs ++ (name, c) ∷ [])
field_more xs ys os fs name o c h kept new = record {
  within = All-push (λ (f : OptField). IsCode ys f.1) os (name, o) (fields_later xs ys os kept h.within) (in_table ys o c new);
  are =
      map-append (field_at ys) os ((name, o) ∷ [])
      ∙ ap (λ (gs : List CodeField). gs ++ field_at ys (name, o) ∷ []) (fields_same xs ys os kept h.within ∙ h.are)
      ∙ ap (λ (d : Code). fs ++ (name, d) ∷ []) (code_is ys o c new);
}

-- ---- the terms of many

pub trees_later : (xs ys : List Node) → Keeps xs ys → (ns : List ℕ) → All (λ (n : ℕ). n < length xs) ns → map (tree ys) ns ≡ map (tree xs) ns
trees_later xs ys kept [] h = refl
trees_later xs ys kept (n ∷ ns) h =
    let first : tree ys n ≡ tree xs n = kept.same n (h zero n (omega arith)) in
    let rest : map (tree ys) ns ≡ map (tree xs) ns = trees_later xs ys kept ns (λ i d within. h (suc i) d (omega arith)) in
    λ i. first i ∷ rest i

pub oks_within : (xs : List Node) (os : List Opt) → AreCodes xs os → All (λ (n : ℕ). n < length xs) (map (λ (o : Opt). o.ok) os)
oks_within xs os h = All-map (λ (n : ℕ). n < length xs) (λ (o : Opt). o.ok) os (λ i d within. (h i d within).ok)

pub vals_within : (xs : List Node) (os : List Opt) → AreCodes xs os → All (λ (n : ℕ). n < length xs) (map (λ (o : Opt). o.val) os)
vals_within xs os h = All-map (λ (n : ℕ). n < length xs) (λ (o : Opt). o.val) os (λ i d within. (h i d within).val)

pub oks_are : (xs : List Node) (os : List Opt) → map (tree xs) (map (λ (o : Opt). o.ok) os) ≡ oks (codes_at xs os)
oks_are xs [] = refl
oks_are xs (o ∷ os) = ap (λ (ts : List Tree). tree xs o.ok ∷ ts) (oks_are xs os)

pub vals_are : (xs : List Node) (os : List Opt) → map (tree xs) (map (λ (o : Opt). o.val) os) ≡ vals (codes_at xs os)
vals_are xs [] = refl
vals_are xs (o ∷ os) = ap (λ (ts : List Tree). tree xs o.val ∷ ts) (vals_are xs os)

pub field_oks_within : (xs : List Node) (fs : List OptField) → AreFields xs fs → All (λ (n : ℕ). n < length xs) (map (λ (f : OptField). f.1.ok) fs)
field_oks_within xs fs h = All-map (λ (n : ℕ). n < length xs) (λ (f : OptField). f.1.ok) fs (λ i d within. (h i d within).ok)

pub field_oks_are : (xs : List Node) (fs : List OptField) → map (tree xs) (map (λ (f : OptField). f.1.ok) fs) ≡ oks (field_codes (map (field_at xs) fs))
field_oks_are xs [] = refl
field_oks_are xs (f ∷ fs) = ap (λ (ts : List Tree). tree xs f.1.ok ∷ ts) (field_oks_are xs fs)

pub for_more : (xs ys : List Node) (ns : List ℕ) (ts : List Tree) (n : ℕ) (t : Tree) → StandForAll xs ns ts → Keeps xs ys → StandsFor ys n t → StandForAll ys (ns ++ n ∷ []) (ts ++ t ∷ [])
for_more xs ys ns ts n t h kept new = record {
  within = All-push (λ (m : ℕ). m < length ys) ns n (λ i d within. later (get_or ns i d) (h.within i d within)) new.within;
  are = map-append (tree ys) ns (n ∷ []) ∙ ap (λ (us : List Tree). us ++ tree ys n ∷ []) (trees_later xs ys kept ns h.within ∙ h.are) ∙ ap (λ (u : Tree). ts ++ u ∷ []) new.is;
}
  where
    later : (m : ℕ) → m < length xs → m < length ys
    later m within = let l = kept.longer in omega (arith, within)
