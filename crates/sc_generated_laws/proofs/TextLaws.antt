-- A generated text spells its policies.
use Rattle.std.proofs.Common.{◌≡◌, ℕ, zero, suc, ◌+◌, ◌/◌, ◌%◌, ◌<◌, ◌≤◌, List, [], ◌∷◌, ◌++◌, codes, length, map, nat_le, nat_lt, slice_get, true, Some, refl, sym, ◌∙◌, ap, subst, arith, append_assoc, append-nil, length-append, reverse}
use Rattle.std.specs.Char.{is_ascii_digit}
use Rattle.std.specs.Fmt.{decimal}
use Rattle.std.specs.List.{flat_map, list_all}
use Rattle.std.specs.Str.Parse.{digits_value}
use Rattle.std.proofs.lemmas.Bool.Decides.{nat_tests}
use Rattle.std.proofs.lemmas.List.{length-reverse}
use Rattle.std.proofs.lemmas.Fmt.{decimal_is_IsNumeral}
use Rattle.sc_ast.specs.declared.policy.Policy.{Policy}
use Rattle.sc_lexer.specs.Pieces.{pieces_of, string_of}
use Rattle.sc_lexemes.specs.declared.lexeme.Lexeme.{Lexeme}
use Rattle.sc_lexemes.specs.Shapes.{part_of}
use Rattle.sc_lexemes.specs.Tables.{is_long}
use Rattle.sc_parser.specs.GrammarFiles.{Policies, policies_end, policies_more}
use Rattle.sc_parser.specs.Limits.{all_limits}
use Rattle.sc_parser.specs.Spelling.{Spells}
use Rattle.sc_generated.specs.Generated.{drawn, draws, forward, backward, opening, line}
use Rattle.sc_generated_laws.specs.Items.{Item, spelled, lexemes_of, AreItems, no_items}
use Rattle.sc_generated_laws.specs.Lines.{group_text, policy_of}
use Rattle.sc_generated_laws.specs.Texts.{addend, bound, group_number, line_items, items, place_in, policies_in}
use Rattle.sc_generated_laws.proofs.ItemLaws.{are_digits}
use Rattle.sc_generated_laws.proofs.LineLaws.{items_are}
use Rattle.sc_generated_laws.proofs.PolicyLaws.{Stands, none, more, ending, line_spelled, behind_line}
use Rattle.sc_generated_laws.proofs.ReadingLaws.{items_lexed}

-- ---- numbers

digits_are : (n : ℕ) → n < 1000 → list_all is_ascii_digit (decimal n) ≡ true
digits_are n h = are_digits (decimal n) (decimal_is_IsNumeral n (omega arith)).0.1

some_digits : (n : ℕ) → n < 1000 → 0 < length (decimal n)
some_digits n h = (decimal_is_IsNumeral n (omega arith)).0.0

within : (n : ℕ) → n < 1000 → nat_le n 9223372036854775807 ≡ true
within n h = grind (arith, nat_tests)

long_is : (n : ℕ) → n < 1000 → is_long (digits_value 10 (decimal n)) ≡ true
long_is n h = ap is_long (decimal_is_IsNumeral n (omega arith)).1 ∙ within n h

addend_small : (x : ℕ) → x % 1000 < 1000
addend_small x = omega arith

bound_small : (x : ℕ) → x / 1000 % 1000 < 1000
bound_small x = omega arith

group_small : (x : ℕ) → x / 1000000 % 7 < 1000
group_small x = omega arith

-- ---- tokens

items_more : (x : ℕ) (xs : List ℕ) → items (x ∷ xs) ≡ line_items x ++ items xs
unfolding items
items_more x xs = refl

all_items : (xs : List ℕ) → AreItems (items xs)
unfolding items
all_items [] = no_items
all_items (x ∷ xs) =
    items_are (addend x) (bound x) (group_number x) (some_digits (x % 1000) (addend_small x)) (digits_are (x % 1000) (addend_small x)) (some_digits (x / 1000 % 1000) (bound_small x)) (digits_are (x / 1000 % 1000) (bound_small x))
    (digits_are (x / 1000000 % 7) (group_small x)) (items xs) (all_items xs)

-- texts behind one another
joined : (o a e b f c g rest : List ℕ) → (o ++ a ++ e ++ b ++ (f ++ c ++ g)) ++ rest ≡ o ++ (a ++ (e ++ (b ++ (f ++ (c ++ (g ++ rest))))))
joined o a e b f c g rest =
    append_assoc (o ++ a ++ e ++ b) (f ++ c ++ g) rest ∙ append_assoc (o ++ a ++ e) b ((f ++ c ++ g) ++ rest) ∙ append_assoc (o ++ a) e (b ++ ((f ++ c ++ g) ++ rest))
    ∙ append_assoc o a (e ++ (b ++ ((f ++ c ++ g) ++ rest)))
    ∙ ap (λ (t : List ℕ). o ++ (a ++ (e ++ (b ++ t)))) (append_assoc (f ++ c) g rest ∙ append_assoc f c (g ++ rest))

line_text : (x : ℕ) (behind : List Item) → spelled (line_items x ++ behind) ≡ line x ++ spelled behind
unfolding line opening
line_text x behind =
    let a = addend x in
    let b = bound x in
    let c = group_number x in
    let between = codes " && principal in Group::\"g" in
    let rest = codes " };\n" ++ spelled behind in
    ap (λ (t : List ℕ). codes "permit(principal, action, resource) when { context.n + " ++ (a ++ (codes " > " ++ (b ++ (between ++ t))))) (append_assoc c (34 ∷ []) rest)
    ∙ sym (joined (codes "permit(principal, action, resource) when { context.n + ") a (codes " > ") b between c (codes "\" };\n") (spelled behind))

text_is : (xs : List ℕ) → spelled (items xs) ≡ flat_map line xs
unfolding items
text_is [] = refl
text_is (x ∷ xs) = line_text x (items xs) ∙ ap (λ (t : List ℕ). line x ++ t) (text_is xs)

-- ---- policies

at_front : (front : List Lexeme) (l : Lexeme) (ls : List Lexeme) → slice_get (front ++ (l ∷ ls)) (length front) ≡ Some l
at_front [] l ls = refl
at_front (k ∷ front) l ls = at_front front l ls

stands_behind : (front ls : List Lexeme) → Stands (front ++ ls) (length front) ls
stands_behind front [] = none
stands_behind front (l ∷ ls) =
    let size : length (front ++ (l ∷ [])) ≡ length front + 1 = length-append front (l ∷ []) in
    more (at_front front l ls)
    (subst (λ (ts : List Lexeme). Stands ts (length front + 1) ls) (append_assoc front (l ∷ []) ls)
    (subst (λ (n : ℕ). Stands ((front ++ (l ∷ [])) ++ ls) n ls) size (stands_behind (front ++ (l ∷ [])) ls)))

few : (n : ℕ) → n < 10000 → nat_lt n 10000 ≡ true
few n h = grind (arith, nat_tests)

lines_spelled : (ts : List Lexeme) (whole : ℕ) (xs : List ℕ) (i : ℕ) (ps : List Policy) → Stands ts i (lexemes_of whole (items xs)) → i + length (lexemes_of whole (items xs)) ≡ length ts → length ps + length xs ≤ 10000
    → Policies all_limits ts i ps (ps ++ policies_in whole xs) (length ts)
unfolding items policies_in
lines_spelled ts whole [] i ps h e few_policies =
    let end : i ≡ length ts = omega arith in
    subst (λ (n : ℕ). Policies all_limits ts i ps (ps ++ []) n) end (subst (λ (qs : List Policy). Policies all_limits ts i ps qs i) (sym (append-nil ps)) policies_end)
lines_spelled ts whole (x ∷ xs) i ps h e few_policies =
    let at = place_in (lexemes_of whole (items (x ∷ xs))) in
    let id = string_of (group_text (group_number x)) in
    let parts = map part_of (pieces_of (group_text (group_number x))) in
    let behind = lexemes_of whole (items xs) in
    let p = policy_of at (addend x) (bound x) id in
    let one = line_spelled at (addend x) (bound x) id parts behind (long_is (x % 1000) (addend_small x)) (long_is (x / 1000 % 1000) (bound_small x)) h in
    let many : length (ps ++ (p ∷ [])) ≡ length ps + 1 = length-append ps (p ∷ []) in
    let rest = lines_spelled ts whole xs (ending i).at (ps ++ (p ∷ [])) (behind_line at (addend x) (bound x) id parts behind h) (omega arith) (omega arith) in
    subst (λ (qs : List Policy). Policies all_limits ts i ps qs (length ts)) (append_assoc ps (p ∷ []) (policies_in whole xs))
    (policies_more (λ k. few (length ps) (omega arith)) one rest)

-- as many numbers as are drawn
length-draws : (n i : ℕ) → length (draws n i) ≡ i
unfolding draws
length-draws n zero = refl
length-draws n (suc i) = omega (arith, length-append (draws n i) (drawn n (suc i) ∷ []), length-draws n i)

text_spelled : (xs : List ℕ) → length xs ≤ 10000 → Spells (flat_map line xs) (policies_in (length (flat_map line xs)) xs)
text_spelled xs h =
    let bytes = flat_map line xs in
    let ts = lexemes_of (length bytes) (items xs) in
    record {
      lexemes = ts;
      are = items_lexed bytes (items xs) (sym (text_is xs)) (all_items xs);
      file = lines_spelled ts (length bytes) xs 0 [] (stands_behind [] ts) (omega arith) (omega arith);
    }

pub forward_spelled : (n : ℕ) → n ≤ 10000 → Spells (forward n) (policies_in (length (forward n)) (draws n n))
forward_spelled n h = text_spelled (draws n n) (omega (arith, length-draws n n))

pub backward_spelled : (n : ℕ) → n ≤ 10000 → Spells (backward n) (policies_in (length (backward n)) (reverse (draws n n)))
backward_spelled n h = text_spelled (reverse (draws n n)) (omega (arith, length-reverse (draws n n), length-draws n n))
