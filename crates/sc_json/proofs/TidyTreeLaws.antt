-- In the tree of a text in UTF-8 the names of an object's members ascend by their bytes, each once, and they and the
-- strings are UTF-8.
use Rattle.std.proofs.Common.{◌≡◌, ℕ, List, [], ◌∷◌, ◌++◌, Option, Some, None, Ordering, Less, Equal, Greater, IsUtf8, refl, sym, ap, subst}
use Rattle.std.specs.Prelude.{⊤, option_map, option_and_then}
use Rattle.std.specs.Ordering.{nat_cmp, match_ordering}
use Rattle.std.specs.Cmp.Lexicographic.{slice_cmp}
use Rattle.std.specs.List.{AllByRecursion}
use Rattle.std.specs.List.Sorted.{IsStrictlySortedBy}
use Rattle.std.specs.BTreeSet.{insert_key}
use Rattle.std.proofs.lemmas.Cmp.{nat_list_cmp_total}
use Rattle.json.specs.Token.{Token}
use Rattle.json.specs.Lex.{tokens}
use Rattle.json.specs.Json as json
use Rattle.json.specs.Tree.{json_tokens, items_tokens, members_tokens}
use Rattle.json.proofs.Unique.Spelling.{value-json_tokens_back}
use Rattle.serde_json.specs.Data.{Data, number, array, object, item, Members, no_members, member, put}
use Rattle.serde_json.specs.Read.{number_of, of_json, of_items, of_members, max_depth}
use Rattle.sc_lists.proofs.OrderedLaws.{ascending-insert_key}
use Rattle.sc_names.specs.Uids.{text_cmp}
use Rattle.sc_json.specs.Trees.{HasTree, keys, IsTidyObject, IsTidy, AreTidyItems, AreTidyMembers}
use Rattle.sc_json.proofs.TokensLaws.{HaveTexts, tokens_texts}

-- ---- one more member

object-none : IsTidyObject no_members
unfolding IsStrictlySortedBy
object-none = record { ascending = tt; texts = tt }

keys-put : (key : List ℕ) (value : Data) (members : Members) → keys (put key value members) ≡ insert_key text_cmp (keys members) key
keys-put key value no_members = refl
keys-put key value (member other old members) = at (slice_cmp nat_cmp key other) (keys-put key value members) where
  at : (o : Ordering) → keys (put key value members) ≡ insert_key text_cmp (keys members) key
      → keys (match_ordering o (member key value (member other old members)) (member other value members) (member other old (put key value members)))
      ≡ match_ordering o (key ∷ other ∷ keys members) (other ∷ keys members) (other ∷ insert_key text_cmp (keys members) key)
  at Less h = refl
  at Equal h = refl
  at Greater h = ap (λ (names : List (List ℕ)). other ∷ names) h

texts-put : (key : List ℕ) (value : Data) (members : Members) → IsUtf8 key → AllByRecursion IsUtf8 (keys members) → AllByRecursion IsUtf8 (keys (put key value members))
texts-put key value no_members t h = (t, tt)
texts-put key value (member other old members) t h = at (slice_cmp nat_cmp key other) (texts-put key value members t h.1) where
  at : (o : Ordering) → AllByRecursion IsUtf8 (keys (put key value members))
      → AllByRecursion IsUtf8 (keys (match_ordering o (member key value (member other old members)) (member other value members) (member other old (put key value members))))
  at Less k = (t, h)
  at Equal k = h
  at Greater k = (h.0, k)

tidy-put : (key : List ℕ) (value : Data) (members : Members) → IsTidy value → AreTidyMembers members → AreTidyMembers (put key value members)
tidy-put key value no_members v h = (v, tt)
tidy-put key value (member other old members) v h = at (slice_cmp nat_cmp key other) (tidy-put key value members v h.1) where
  at : (o : Ordering) → AreTidyMembers (put key value members)
      → AreTidyMembers (match_ordering o (member key value (member other old members)) (member other value members) (member other old (put key value members)))
  at Less k = (v, h)
  at Equal k = (v, h.1)
  at Greater k = (h.0, k)

object-put : (key : List ℕ) (value : Data) (members : Members) → IsUtf8 key → IsTidyObject members → IsTidyObject (put key value members)
object-put key value members t h = record {
  ascending = subst (IsStrictlySortedBy text_cmp) (sym (keys-put key value members)) (ascending-insert_key nat_list_cmp_total (keys members) key h.ascending);
  texts = texts-put key value members t h.texts;
}

-- ---- from tokens to a tree

front : (xs ys : List Token) → HaveTexts (xs ++ ys) → HaveTexts xs × HaveTexts ys
front [] ys h = (tt, h)
front (x ∷ xs) ys h = let rest = front xs ys h.1 in ((h.0, rest.0), rest.1)

abbrev IfTidy : {X : Type 0} → (X → Type 0) → Option X → Type 0
IfTidy P None = ⊤
IfTidy P (Some x) = P x

mapped : {X Y : Type 0} (P : X → Type 0) (Q : Y → Type 0) (f : X → Y) → ((x : X) → P x → Q (f x)) → (o : Option X) → IfTidy P o → IfTidy Q (option_map f o)
mapped P Q f g None h = tt
mapped P Q f g (Some x) h = g x h

chained : {X Y : Type 0} (P : X → Type 0) (Q : Y → Type 0) (f : X → Option Y) → ((x : X) → P x → IfTidy Q (f x)) → (o : Option X) → IfTidy P o → IfTidy Q (option_and_then f o)
chained P Q f g None h = tt
chained P Q f g (Some x) h = g x h

anything : {X : Type 0} (o : Option X) → IfTidy (λ _. ⊤) o
anything None = tt
anything (Some x) = tt

abbrev AreTidyAll : Members → Type 0
AreTidyAll members = IsTidyObject members × AreTidyMembers members

mutual
  tidy-json : (j : json.Json) → HaveTexts (json_tokens j) → IfTidy IsTidy (of_json j)
  tidy-json json.null t = tt
  tidy-json (json.boolean b) t = tt
  tidy-json (json.number s) t = mapped (λ _. ⊤) IsTidy number (λ _ _. tt) (number_of s) (anything (number_of s))
  tidy-json (json.string s) t = t.0
  tidy-json (json.array js) t = mapped AreTidyItems IsTidy array (λ _ h. h) (of_items js) (tidy-items js t.1)
  tidy-json (json.object ms) t = mapped AreTidyAll IsTidy object (λ _ h. h) (of_members ms no_members) (tidy-members ms no_members t.1 (object-none, tt))

  tidy-items : (js : json.Items) → HaveTexts (items_tokens js) → IfTidy AreTidyItems (of_items js)
  tidy-items json.no_items t = tt
  tidy-items (json.item j js) t =
      let parts = front (json_tokens j) (items_tokens js) t in
      chained IsTidy AreTidyItems (λ d. option_map (item d) (of_items js)) (λ d v. mapped AreTidyItems AreTidyItems (item d) (λ _ h. (v, h)) (of_items js) (tidy-items js parts.1)) (of_json j) (tidy-json j parts.0)

  tidy-members : (ms : json.Members) (found : Members) → HaveTexts (members_tokens ms) → AreTidyAll found → IfTidy AreTidyAll (of_members ms found)
  tidy-members json.no_members found t h = h
  tidy-members (json.member key j ms) found t h =
      let parts = front (json_tokens j) (members_tokens ms) t.1 in
      chained IsTidy AreTidyAll (λ d. of_members ms (put key d found)) (λ d v. tidy-members ms (put key d found) parts.1 (object-put key d found t.0 h.0, tidy-put key d found v h.1)) (of_json j) (tidy-json j parts.0)

-- the whole of the tokens is a value's
last : (ts : List Token) → HaveTexts ts → (o : Option (json.Json × List Token)) → ((j : json.Json) (r : List Token) → o ≡ Some (j, r) → ts ≡ json_tokens j ++ r)
    → IfTidy (λ j. HaveTexts (json_tokens j)) (option_and_then (λ p. json.if_last p.0 p.1) o)
last ts t None h = tt
last ts t (Some (j, [])) h = (front (json_tokens j) [] (subst HaveTexts (h j [] refl) t)).0
last ts t (Some (j, u ∷ r)) h = tt

pub tree_tidy : (bytes : List ℕ) (d : Data) → HasTree bytes d → IsTidy d
tree_tidy bytes d h =
    subst (IfTidy IsTidy) h.tree
    (chained (λ j. HaveTexts (json_tokens j)) IsTidy of_json (λ j t. tidy-json j t) _
    (last (tokens bytes) (tokens_texts bytes h.text) (json.value max_depth (tokens bytes)) (λ j r. value-json_tokens_back max_depth (tokens bytes) r j)))
