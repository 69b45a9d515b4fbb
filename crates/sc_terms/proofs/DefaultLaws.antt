-- The default of a sort, by those of the sorts inside it.
use Rattle.std.proofs.Common.{◌≡◌, ℕ, List, [], ◌∷◌, map, false, pos, ◌++◌, ◌<◌, length, refl, sym, ap, ◌∙◌, subst}
use Rattle.std.proofs.lemmas.List.{map-append}
use Rattle.sc_lists.proofs.ListLaws.{all_append}
use Rattle.sc_ip.specs.declared.ip.Ip.TheVariants.{V4}
use Rattle.sc_names.specs.declared.uid.Uid.{Uid}
use Rattle.sc_sorts.specs.declared.sort.Sort.{Sort, Sort-F, roll-Sort, map-Sort, fold-Sort, ind-Sort, fold-roll-Sort}
use Rattle.sc_sorts.specs.declared.sort.Sort.TheVariants as sort
use Rattle.sc_sorts.specs.declared.sort.Sort.TheVariants.{rolls-Bool, rolls-Long, rolls-String, rolls-Decimal, rolls-Ip, rolls-Entity, rolls-Set, rolls-Record, rolls-Option}
use Rattle.sc_sorts.specs.declared.sort.Sort.TheOpen as s
use Rattle.sc_sorts.specs.Defaults.{default_uid}
use Rattle.sc_sorts.specs.declared.node.Leaf.TheVariants as leafs
use Rattle.sc_sorts.specs.declared.node.Literal.TheVariants as literal
use Rattle.sc_sorts.specs.declared.node.ManyOp.TheVariants as manys
use Rattle.sc_sorts.specs.declared.node.Node.{Node}
use Rattle.sc_terms.specs.Trees.{Tree, leaf, many, no_part, part, parts_of, Labelled}
use Rattle.sc_terms.specs.Tables.{Places, tree, node_parts, at_numbers, AreBelow, Keeps, StandsFor}
use Rattle.sc_terms.proofs.TableLaws.{places_rise}
use Rattle.sc_terms.specs.Folds.{Seen, seen_step, sorts_seen, default_step, default_term, default_parts, truth_term, literal_term}

seen : Sort → Seen
seen = fold-Sort Seen seen_step

-- ---- the sort that is seen is the sort itself

abbrev Known : Type 0
Known = (a : Sort) × ((seen a).0 ≡ a)

abbrev forget : List ℕ × Known → List ℕ × Sort
forget e = (e.0, e.1.0)

abbrev with_seen : List ℕ × Sort → List ℕ × Seen
with_seen f = (f.0, seen f.1)

abbrev sort_seen : List ℕ × Seen → List ℕ × Sort
sort_seen f = (f.0, f.1.0)

fields_known : (es : List (List ℕ × Known)) → map sort_seen (map with_seen (map forget es)) ≡ map forget es
fields_known [] = refl
fields_known (e ∷ es) = let first : (seen e.1.0).0 ≡ e.1.0 = e.1.1 in let rest = fields_known es in λ i. (e.0, first i) ∷ rest i

abbrev KnownLevel : Sort-F Sort → Type 0
KnownLevel x = sorts_seen (map-Sort Sort Seen seen x) ≡ x

inner : (y : Sort-F Known) → KnownLevel (map-Sort Known Sort (λ e. e.0) y)
inner s.Bool = refl
inner s.Long = refl
inner s.String = refl
inner s.Decimal = refl
inner s.Ip = refl
inner (s.Entity name choices) = refl
inner (s.Set a) = ap s.Set a.1
inner (s.Record es) = ap s.Record (fields_known es)
inner (s.Option a) = ap s.Option a.1

from_level : (x : Sort-F Sort) → KnownLevel x → (seen (roll-Sort x)).0 ≡ roll-Sort x
unfolding seen
from_level x h = ap (λ (z : Seen). z.0) (fold-roll-Sort Seen seen_step x) ∙ ap roll-Sort h

seen_sort : (x : Sort) → (seen x).0 ≡ x
seen_sort = ind-Sort (λ (x : Sort). (seen x).0 ≡ x) (λ x y e. from_level x (subst KnownLevel e (inner y)))

-- ---- the default of each sort

default_roll : (y : Sort-F Sort) → default_term (roll-Sort y) ≡ default_step (map-Sort Sort Seen seen y)
unfolding seen default_term
default_roll y = ap (λ (z : Seen). z.1) (fold-roll-Sort Seen seen_step y)

pub default_Bool : default_term sort.Bool ≡ truth_term false
default_Bool = ap default_term (sym rolls-Bool) ∙ default_roll s.Bool

pub default_Long : default_term sort.Long ≡ literal_term (literal.Long (pos 0))
default_Long = ap default_term (sym rolls-Long) ∙ default_roll s.Long

pub default_String : default_term sort.String ≡ literal_term (literal.String [])
default_String = ap default_term (sym rolls-String) ∙ default_roll s.String

pub default_Decimal : default_term sort.Decimal ≡ literal_term (literal.Decimal (pos 0))
default_Decimal = ap default_term (sym rolls-Decimal) ∙ default_roll s.Decimal

pub default_Ip : default_term sort.Ip ≡ literal_term (literal.Ip (V4 0 32))
default_Ip = ap default_term (sym rolls-Ip) ∙ default_roll s.Ip

pub default_Entity : (name : List ℕ) (choices : List Uid) → default_term (sort.Entity name choices) ≡ literal_term (literal.Entity (default_uid name choices) choices)
default_Entity name choices = ap default_term (sym (rolls-Entity name choices)) ∙ default_roll (s.Entity name choices)

pub default_Set : (member : Sort) → default_term (sort.Set member) ≡ many (manys.Set member) no_part
default_Set member = ap default_term (sym (rolls-Set member)) ∙ default_roll (s.Set member) ∙ ap (λ (z : Sort). many (manys.Set z) no_part) (seen_sort member)

pub default_Option : (held : Sort) → default_term (sort.Option held) ≡ leaf (leafs.None held)
default_Option held = ap default_term (sym (rolls-Option held)) ∙ default_roll (s.Option held) ∙ ap (λ (z : Sort). leaf (leafs.None z)) (seen_sort held)

abbrev default_seen : List ℕ × Seen → Labelled
default_seen f = (f.0, f.1.1)

abbrev pub with_default : List ℕ × Sort → Labelled
with_default f = (f.0, default_term f.1)

fields_default : (fields : List (List ℕ × Sort)) → map default_seen (map with_seen fields) ≡ map with_default fields
unfolding seen default_term
fields_default [] = refl
fields_default (f ∷ fs) = ap (λ (ys : List Labelled). with_default f ∷ ys) (fields_default fs)

pub default_Record : (fields : List (List ℕ × Sort)) → default_term (sort.Record fields) ≡ default_parts fields
default_Record fields =
    ap default_term (sym (rolls-Record fields))
    ∙ default_roll (s.Record fields)
    ∙ ap (λ (ys : List Labelled). many manys.Record (parts_of ys)) (fields_default fields)

-- ---- the default of a record, field after field

pub parts_listed : (xs : List Node) (ps : Places) → node_parts xs ps ≡ parts_of (at_numbers xs ps)
parts_listed xs [] = refl
parts_listed xs (p ∷ ps) = ap (part p.0 (tree xs p.1)) (parts_listed xs ps)

listed_stays : (xs ys : List Node) (ps : Places) → Keeps xs ys → AreBelow (length xs) ps → at_numbers ys ps ≡ at_numbers xs ps
listed_stays xs ys [] k h = refl
listed_stays xs ys (p ∷ ps) k h = let first = k.same p.1 h.0 in let rest = listed_stays xs ys ps k h.1 in λ i. (p.0, first i) ∷ rest i

-- a default that came in is put to the others
pub put_is : (xs ys : List Node) (ps new : Places) (name : List ℕ) (n : ℕ) (x : Sort) → Keeps xs ys → AreBelow (length xs) ps → StandsFor ys n (default_term x) → new ≡ ps ++ (name, n) ∷ []
    → at_numbers ys new ≡ at_numbers xs ps ++ (name, default_term x) ∷ []
put_is xs ys ps new name n x k h t e =
    ap (at_numbers ys) e
    ∙ map-append (λ (p : List ℕ × ℕ). (p.0, tree ys p.1)) ps ((name, n) ∷ [])
    ∙ ap (λ (zs : List Labelled). zs ++ (name, tree ys n) ∷ []) (listed_stays xs ys ps k h)
    ∙ ap (λ (z : Tree). at_numbers xs ps ++ (name, z) ∷ []) t.is

pub put_below : (xs ys : List Node) (ps new : Places) (name : List ℕ) (n : ℕ) (x : Sort) → Keeps xs ys → AreBelow (length xs) ps → StandsFor ys n (default_term x) → new ≡ ps ++ (name, n) ∷ []
    → AreBelow (length ys) new
put_below xs ys ps new name n x k h t e = subst (AreBelow (length ys)) (sym e) (all_append (λ (p : List ℕ × ℕ). p.1 < length ys) ps ((name, n) ∷ []) (places_rise (length xs) (length ys) ps k.longer h) (t.within, tt))

-- the record of all of them
pub record_is : (xs ys : List Node) (n : ℕ) (ps : Places) (fields : List (List ℕ × Sort)) → at_numbers xs ps ≡ map with_default fields → StandsFor ys n (many manys.Record (node_parts xs ps))
    → StandsFor ys n (default_parts fields)
record_is xs ys n ps fields e t = record { within = t.within; is = t.is ∙ ap (many manys.Record) (parts_listed xs ps ∙ ap parts_of e) }
