-- JSON whose numbers are whole: it has no float, and its text determines it.
use Rattle.std.proofs.Common.{◌≡◌, ◌+◌, ℤ, pos, negsuc, List, [], ◌++◌, false, Option, Some, None, unwrap_or, FitsSigned, w64, refl, sym, ap, ap₂, ◌∙◌, subst, arith}
use Rattle.std.specs.Prelude.{⊤}
use Rattle.std.proofs.lemmas.Bool.{or_from}
use Rattle.json.specs.Json as json
use Rattle.json.specs.Lex.{tokens}
use Rattle.json.specs.Token.{Token}
use Rattle.json.specs.Print.{print, IsNumber}
use Rattle.json.specs.Tree.{json_tokens, depth, HasNumbers, ItemsHaveNumbers, MembersHaveNumbers}
use Rattle.json.proofs.Printed.Decimals.{IsNumber-decimal, IsNumber-signed_decimal}
use Rattle.json.proofs.Printed.Tokens.{tokens-print}
use Rattle.json.proofs.Printed.Trees.{ArePrintable-json_tokens, value-json_tokens}
use Rattle.serde_json.specs.Data.{Num, unsigned, Data, null, boolean, number, string, array, object, Items, no_items, item, Members, no_members, member}
use Rattle.serde_json.specs.Find.{of_integer, is_float}
use Rattle.serde_json.specs.Read.{number_of}
use Rattle.serde_json.specs.Written.{number_text, outline, items_outline, members_outline, has_float, items_have_float, members_have_float, compact_text}
use Rattle.serde_json.proofs.Numbers.{number_of-decimal, number_of-negative}
use Rattle.serde_json.proofs.Texts.{print-outline}

-- a whole number of 64 bits
pub record IsWholeNumber (n : Num) : Type 0 where
  pub integer : ℤ
  pub in_range : FitsSigned w64 integer
  pub is : n ≡ of_integer integer

-- each number is whole
abbrev mutual
  pub IsWhole : Data → Type 0
  IsWhole null = ⊤
  IsWhole (boolean b) = ⊤
  IsWhole (number n) = IsWholeNumber n
  IsWhole (string s) = ⊤
  IsWhole (array ds) = AreWhole ds
  IsWhole (object ms) = HaveWhole ms

  pub AreWhole : Items → Type 0
  AreWhole no_items = ⊤
  AreWhole (item d ds) = IsWhole d × AreWhole ds

  pub HaveWhole : Members → Type 0
  HaveWhole no_members = ⊤
  HaveWhole (member k d ms) = IsWhole d × HaveWhole ms

-- ---- no float

pub no_float-integer : (z : ℤ) → is_float (of_integer z) ≡ false
no_float-integer (pos n) = refl
no_float-integer (negsuc n) = refl

mutual
  pub no_float : (d : Data) → IsWhole d → has_float d ≡ false
  no_float null h = refl
  no_float (boolean b) h = refl
  no_float (number n) h = ap is_float h.is ∙ no_float-integer h.integer
  no_float (string s) h = refl
  no_float (array ds) h = no_float-items ds h
  no_float (object ms) h = no_float-members ms h

  no_float-items : (ds : Items) → AreWhole ds → items_have_float ds ≡ false
  no_float-items no_items h = refl
  no_float-items (item d ds) h = or_from _ _ (no_float d h.0) (no_float-items ds h.1)

  no_float-members : (ms : Members) → HaveWhole ms → members_have_float ms ≡ false
  no_float-members no_members h = refl
  no_float-members (member k d ms) h = or_from _ _ (no_float d h.0) (no_float-members ms h.1)

-- ---- what is printed is a number, and it reads back

pub number_of-integer : (z : ℤ) → FitsSigned w64 z → number_of (number_text (of_integer z)) ≡ Some (of_integer z)
number_of-integer (pos n) h = number_of-decimal n (omega arith)
number_of-integer (negsuc n) h = number_of-negative n (omega arith)

IsNumber-integer : (z : ℤ) → FitsSigned w64 z → IsNumber (number_text (of_integer z))
IsNumber-integer (pos n) h = IsNumber-decimal n (omega arith)
IsNumber-integer (negsuc n) h = IsNumber-signed_decimal (negsuc n) (omega arith)

mutual
  pub numbers : (d : Data) → IsWhole d → HasNumbers (outline d)
  numbers null h = tt
  numbers (boolean b) h = tt
  numbers (number n) h = subst (λ m. IsNumber (number_text m)) (sym h.is) (IsNumber-integer h.integer h.in_range)
  numbers (string s) h = tt
  numbers (array ds) h = numbers-items ds h
  numbers (object ms) h = numbers-members ms h

  numbers-items : (ds : Items) → AreWhole ds → ItemsHaveNumbers (items_outline ds)
  numbers-items no_items h = tt
  numbers-items (item d ds) h = (numbers d h.0, numbers-items ds h.1)

  numbers-members : (ms : Members) → HaveWhole ms → MembersHaveNumbers (members_outline ms)
  numbers-members no_members h = tt
  numbers-members (member k d ms) h = (numbers d h.0, numbers-members ms h.1)

-- the data of JSON, with each number read
abbrev mutual
  data_of : json.Json → Data
  data_of json.null = null
  data_of (json.boolean b) = boolean b
  data_of (json.number s) = number (unwrap_or (number_of s) (unsigned 0))
  data_of (json.string s) = string s
  data_of (json.array js) = array (items_data_of js)
  data_of (json.object ms) = object (members_data_of ms)

  items_data_of : json.Items → Items
  items_data_of json.no_items = no_items
  items_data_of (json.item j js) = item (data_of j) (items_data_of js)

  members_data_of : json.Members → Members
  members_data_of json.no_members = no_members
  members_data_of (json.member k j ms) = member k (data_of j) (members_data_of ms)

number_back : (n : Num) → IsWholeNumber n → unwrap_or (number_of (number_text n)) (unsigned 0) ≡ n
number_back n h =
    ap (λ m. unwrap_or (number_of (number_text m)) (unsigned 0)) h.is
    ∙ ap (λ o. unwrap_or o (unsigned 0)) (number_of-integer h.integer h.in_range) ∙ sym h.is

mutual
  data_of-outline : (d : Data) → IsWhole d → data_of (outline d) ≡ d
  data_of-outline null h = refl
  data_of-outline (boolean b) h = refl
  data_of-outline (number n) h = ap number (number_back n h)
  data_of-outline (string s) h = refl
  data_of-outline (array ds) h = ap array (items_data_of-outline ds h)
  data_of-outline (object ms) h = ap object (members_data_of-outline ms h)

  items_data_of-outline : (ds : Items) → AreWhole ds → items_data_of (items_outline ds) ≡ ds
  items_data_of-outline no_items h = refl
  items_data_of-outline (item d ds) h = ap₂ item (data_of-outline d h.0) (items_data_of-outline ds h.1)

  members_data_of-outline : (ms : Members) → HaveWhole ms → members_data_of (members_outline ms) ≡ ms
  members_data_of-outline no_members h = refl
  members_data_of-outline (member k d ms) h = ap₂ (member k) (data_of-outline d h.0) (members_data_of-outline ms h.1)

abbrev first_or : json.Json → Option (json.Json × List Token) → json.Json
first_or j None = j
first_or j (Some p) = p.0

json-same : (i j : json.Json) → HasNumbers i → HasNumbers j → print (json_tokens i) ≡ print (json_tokens j) → i ≡ j
json-same i j p q e =
    let ts : json_tokens i ≡ json_tokens j = sym (tokens-print _ (ArePrintable-json_tokens i p)) ∙ (ap tokens e ∙ tokens-print _ (ArePrintable-json_tokens j q)) in
    let n = depth i + depth j in
    ap (first_or i) (sym (value-json_tokens i n [] (omega arith)) ∙ (ap (λ t. json.value n (t ++ [])) ts ∙ value-json_tokens j n [] (omega arith)))

-- two of one text are one
pub text-determines : (d e : Data) → IsWhole d → IsWhole e → compact_text d ≡ compact_text e → d ≡ e
text-determines d e p q same =
    let outlines : outline d ≡ outline e = json-same _ _ (numbers d p) (numbers e q) (print-outline d ∙ (same ∙ sym (print-outline e))) in
    sym (data_of-outline d p) ∙ ap data_of outlines ∙ data_of-outline e q
