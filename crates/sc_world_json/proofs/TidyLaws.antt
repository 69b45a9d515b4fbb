-- JSON whose texts are UTF-8 and whose objects have each name once, in order: it is read back from its text.
use Rattle.std.proofs.Common.{◌≡◌, ◌≤◌, ℕ, suc, max, ℤ, pos, negsuc, List, [], ◌∷◌, ◌++◌, Bool, true, false, Option, Some, Less, Greater, IsUtf8, FitsSigned, w64, codes, decimal, option_map, option_and_then, append-nil, lit<, refl, sym, ap, ap₂, ◌∙◌, subst, arith}
use Rattle.std.specs.Prelude.{⊤}
use Rattle.std.specs.List.{AllByRecursion}
use Rattle.std.specs.List.Sorted.{IsStrictlySortedBy}
use Rattle.std.specs.Ordering.{ordering_reverse}
use Rattle.std.proofs.lemmas.Cmp.{nat_list_cmp_total}
use Rattle.std.proofs.lemmas.Fmt.{IsAscii-decimal}
use Rattle.std.proofs.lemmas.Str.{IsUtf8-append, IsUtf8-from_ascii}
use Rattle.std.proofs.lemmas.Str.Ascii.{IsAscii-cons}
use Rattle.json.specs.Json as json
use Rattle.json.specs.Lex.{tokens}
use Rattle.json.specs.Token.{Token}
use Rattle.json.specs.Print.{quoted}
use Rattle.json.specs.Tree as tree
use Rattle.json.specs.Tree.{json_tokens}
use Rattle.json.proofs.Printed.Tokens.{tokens-print}
use Rattle.json.proofs.Printed.Trees.{ArePrintable-json_tokens, value-json_tokens}
use Rattle.json.proofs.Printed.Utf8.{IsUtf8-are_ascii, IsUtf8-quoted, IsUtf8-boolean}
use Rattle.serde_json.specs.Data.{Num, Data, null, boolean, number, string, array, object, Items, no_items, item, Members, no_members, member, put, depth, items_depth, members_depth}
use Rattle.serde_json.specs.Find.{of_integer}
use Rattle.serde_json.specs.Read.{number_of, of_json, of_items, of_members, max_depth}
use Rattle.serde_json.specs.Written.{number_text, outline, items_outline, members_outline, comma_if, compact_text, items_text, members_text}
use Rattle.serde_json.proofs.Texts.{print-outline}
use Rattle.sc_names.specs.Uids.{text_cmp}
use Rattle.sc_json.specs.Trees.{HasTree, keys}
use Rattle.sc_world_json.proofs.WholeLaws.{IsWholeNumber, IsWhole, AreWhole, HaveWhole, number_of-integer, numbers}

abbrev mutual
  pub IsTidy : Data → Type 0
  IsTidy null = ⊤
  IsTidy (boolean b) = ⊤
  IsTidy (number n) = ⊤
  IsTidy (string s) = IsUtf8 s
  IsTidy (array ds) = AreTidy ds
  IsTidy (object ms) = IsStrictlySortedBy text_cmp (keys ms) × HaveTidy ms

  pub AreTidy : Items → Type 0
  AreTidy no_items = ⊤
  AreTidy (item d ds) = IsTidy d × AreTidy ds

  pub HaveTidy : Members → Type 0
  HaveTidy no_members = ⊤
  HaveTidy (member key d ms) = IsUtf8 key × IsTidy d × HaveTidy ms

-- ---- the text is UTF-8

integer_utf8 : (z : ℤ) → FitsSigned w64 z → IsUtf8 (number_text (of_integer z))
integer_utf8 (pos n) h = IsUtf8-from_ascii (decimal n) (IsAscii-decimal n (omega arith))
integer_utf8 (negsuc n) h = IsUtf8-from_ascii (45 ∷ decimal (suc n)) (IsAscii-cons 45 (decimal (suc n)) (lit< tt) (IsAscii-decimal (suc n) (omega arith)))

number_utf8 : (n : Num) → IsWholeNumber n → IsUtf8 (number_text n)
number_utf8 n h = subst (λ m. IsUtf8 (number_text m)) (sym h.is) (integer_utf8 h.integer h.in_range)

comma_utf8 : (later : Bool) → IsUtf8 (comma_if later)
comma_utf8 true = IsUtf8-are_ascii (44 ∷ []) refl
comma_utf8 false = IsUtf8-are_ascii [] refl

mutual
  utf8 : (d : Data) → IsWhole d → IsTidy d → IsUtf8 (compact_text d)
  utf8 null h t = IsUtf8-are_ascii (codes "null") refl
  utf8 (boolean b) h t = IsUtf8-boolean b
  utf8 (number n) h t = number_utf8 n h
  utf8 (string s) h t = IsUtf8-quoted s t
  utf8 (array ds) h t = IsUtf8-append (91 ∷ []) (items_text false ds) (IsUtf8-are_ascii (91 ∷ []) refl) (utf8-items false ds h t)
  utf8 (object ms) h t = IsUtf8-append (123 ∷ []) (members_text false ms) (IsUtf8-are_ascii (123 ∷ []) refl) (utf8-members false ms h t.1)

  utf8-items : (later : Bool) (ds : Items) → AreWhole ds → AreTidy ds → IsUtf8 (items_text later ds)
  utf8-items later no_items h t = IsUtf8-are_ascii (93 ∷ []) refl
  utf8-items later (item d ds) h t =
      IsUtf8-append (comma_if later) (compact_text d ++ items_text true ds) (comma_utf8 later)
      (IsUtf8-append (compact_text d) (items_text true ds) (utf8 d h.0 t.0) (utf8-items true ds h.1 t.1))

  utf8-members : (later : Bool) (ms : Members) → HaveWhole ms → HaveTidy ms → IsUtf8 (members_text later ms)
  utf8-members later no_members h t = IsUtf8-are_ascii (125 ∷ []) refl
  utf8-members later (member key d ms) h t =
      IsUtf8-append (comma_if later) (quoted key ++ 58 ∷ (compact_text d ++ members_text true ms)) (comma_utf8 later)
      (IsUtf8-append (quoted key) (58 ∷ (compact_text d ++ members_text true ms)) (IsUtf8-quoted key t.0)
      (IsUtf8-append (58 ∷ []) (compact_text d ++ members_text true ms) (IsUtf8-are_ascii (58 ∷ []) refl)
      (IsUtf8-append (compact_text d) (members_text true ms) (utf8 d h.0 t.1) (utf8-members true ms h.1 t.2))))

-- ---- the outline: it nests as deep, and reads as the data

number_read : (n : Num) → IsWholeNumber n → number_of (number_text n) ≡ Some n
number_read n h = ap (λ m. number_of (number_text m)) h.is ∙ (number_of-integer h.integer h.in_range ∙ ap Some (sym h.is))

mutual
  depth-outline : (d : Data) → tree.depth (outline d) ≡ depth d
  depth-outline null = refl
  depth-outline (boolean b) = refl
  depth-outline (number n) = refl
  depth-outline (string s) = refl
  depth-outline (array ds) = ap suc (depth-items ds)
  depth-outline (object ms) = ap suc (depth-members ms)

  depth-items : (ds : Items) → tree.items_depth (items_outline ds) ≡ items_depth ds
  depth-items no_items = refl
  depth-items (item d ds) = ap₂ max (depth-outline d) (depth-items ds)

  depth-members : (ms : Members) → tree.members_depth (members_outline ms) ≡ members_depth ms
  depth-members no_members = refl
  depth-members (member key d ms) = ap₂ max (depth-outline d) (depth-members ms)

-- the members of the first, and then those of the second
abbrev joined : Members → Members → Members
joined no_members ms = ms
joined (member key d found) ms = member key d (joined found ms)

joined-none : (found : Members) → joined found no_members ≡ found
joined-none no_members = refl
joined-none (member key d found) = ap (member key d) (joined-none found)

joined-one : (found : Members) (key : List ℕ) (d : Data) (ms : Members) → joined (joined found (member key d no_members)) ms ≡ joined found (member key d ms)
joined-one no_members key d ms = refl
joined-one (member l e found) key d ms = ap (member l e) (joined-one found key d ms)

below_later : (name : List ℕ) (found : Members) (key : List ℕ) (d : Data) (ms : Members) → AllByRecursion (λ y. text_cmp name y ≡ Less) (keys (joined found (member key d ms))) → text_cmp name key ≡ Less
below_later name no_members key d ms h = h.0
below_later name (member l e found) key d ms h = below_later name found key d ms h.1

-- a name above those before it goes last
put_last : (found : Members) (key : List ℕ) (d : Data) (ms : Members) → IsStrictlySortedBy text_cmp (keys (joined found (member key d ms))) → put key d found ≡ joined found (member key d no_members)
unfolding IsStrictlySortedBy
put_last no_members key d ms h = refl
put_last (member l e found) key d ms h =
    let above : text_cmp key l ≡ Greater = nat_list_cmp_total.antisymm key l ∙ ap ordering_reverse (below_later l found key d ms h.0) in
    rw above (ap (member l e) (put_last found key d ms h.1))

mutual
  reads : (d : Data) → IsWhole d → IsTidy d → of_json (outline d) ≡ Some d
  reads null h t = refl
  reads (boolean b) h t = refl
  reads (number n) h t = ap (option_map number) (number_read n h)
  reads (string s) h t = refl
  reads (array ds) h t = ap (option_map array) (reads-items ds h t)
  reads (object ms) h t = ap (option_map object) (reads-members ms no_members h t.1 t.0)

  reads-items : (ds : Items) → AreWhole ds → AreTidy ds → of_items (items_outline ds) ≡ Some ds
  reads-items no_items h t = refl
  reads-items (item d ds) h t = rw (reads d h.0 t.0, reads-items ds h.1 t.1) refl

  reads-members : (ms found : Members) → HaveWhole ms → HaveTidy ms → IsStrictlySortedBy text_cmp (keys (joined found ms)) → of_members (members_outline ms) found ≡ Some (joined found ms)
  reads-members no_members found h t sorted = ap Some (sym (joined-none found))
  reads-members (member key d ms) found h t sorted =
      let next : put key d found ≡ joined found (member key d no_members) = put_last found key d ms sorted in
      let later = subst (λ (ns : Members). IsStrictlySortedBy text_cmp (keys ns)) (sym (joined-one found key d ms)) sorted in
      rw (reads d h.0 t.1, next) (reads-members ms (joined found (member key d no_members)) h.1 t.2 later ∙ ap Some (joined-one found key d ms))

-- ---- the text is that of the tree

abbrev whole : Option (json.Json × List Token) → Option Data
whole first = option_and_then of_json (option_and_then (λ p. json.if_last p.0 p.1) first)

tokens_read : (d : Data) (ts : List Token) → ts ≡ json_tokens (outline d) → of_json (outline d) ≡ Some d → depth d ≤ max_depth → whole (json.value max_depth ts) ≡ Some d
tokens_read d ts same is nests =
    let first = ap (json.value max_depth) (same ∙ sym (append-nil (json_tokens (outline d)))) ∙ value-json_tokens (outline d) max_depth [] (omega (arith, depth-outline d)) in
    ap whole first ∙ is

pub tree_of_text : (d : Data) → IsWhole d → IsTidy d → depth d ≤ max_depth → HasTree (compact_text d) d
tree_of_text d h t nests =
    let same : tokens (compact_text d) ≡ json_tokens (outline d) =
    ap tokens (sym (print-outline d)) ∙ tokens-print (json_tokens (outline d)) (ArePrintable-json_tokens (outline d) (numbers d h)) in
    record { text = utf8 d h t; tree = tokens_read d (tokens (compact_text d)) same (reads d h t) nests }
