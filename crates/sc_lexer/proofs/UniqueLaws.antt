-- A file is read in one way.
use Rattle.std.proofs.Common.{◌≡◌, ◌≢◌, ℕ, ◌-◌, ◌≤◌, List, [], ◌∷◌, ◌++◌, length, take, drop, Bool, true, false, not, refl, sym, ◌∙◌, ap, subst, append_assoc, arith, Result, Ok, Err, Some, None}
use Rattle.std.specs.Prelude.{codes, IfOk, IfErr}
use Rattle.std.specs.Char.{IsScalar, encode_utf8, is_whitespace}
use Rattle.std.specs.Str.{bytes_eq}
use Rattle.std.specs.List.{list_all}
use Rattle.std.proofs.lemmas.Bool.Decides.{nat_tests}
use Rattle.std.proofs.lemmas.List.{take_at, drop_at}
use Rattle.std.proofs.lemmas.Str.{encode_same, char_from_byte, utf8_valid_len-IsValidUpTo}
use Rattle.sc_laws.proofs.BoolLaws.{and_second, and_first}
use Rattle.sc_lists.specs.declared.fault.Fault.{Fault}
use Rattle.sc_lists.specs.declared.fault.Fault.TheVariants.{Told, NoMemory}
use Rattle.sc_lists.specs.Told.{Gives}
use Rattle.sc_lexer.specs.declared.piece.Escape.{Escape}
use Rattle.sc_lexer.specs.declared.token.Kind.{Kind}
use Rattle.sc_lexer.specs.declared.token.Token.{Token}
use Rattle.sc_lexer.specs.declared.token.LexFault.{LexFault}
use Rattle.sc_lexer.specs.declared.token.LexFault.TheVariants.{BadUtf8, BadToken, BadEscape}
use Rattle.sc_lexer.specs.Blanks.{ends_line, stays_in_line, EndsLine, Skips, none, space, comment}
use Rattle.sc_lexer.specs.Tokens.{kind_of, BeginsWith, BeginsNoToken}
use Rattle.sc_lexer.specs.Escapes.{IsEscape, IsSpelled, ends, plain, escape, IsBadEscape, escape_of}
use Rattle.sc_lexer.specs.Reading.{Reads, ends as no_more, no_token, bad_escape, some_token, token_of, before, Lexes, ill_formed, text, LexFails}
use Rattle.sc_lexer.proofs.FrontLaws.{kind-nil}
use Rattle.sc_lexer.proofs.SpellingLaws.{IsMeant-escape, some_same}

-- lists cut at one place

pub cut_front : (a b c d : List ℕ) → a ++ b ≡ c ++ d → length a ≡ length c → a ≡ c
cut_front a b c d e l = sym (take_at a b (length a) refl) ∙ ap (take (length a)) e ∙ take_at c d (length a) (sym l)

pub cut_back : (a b c d : List ℕ) → a ++ b ≡ c ++ d → length a ≡ length c → b ≡ d
cut_back a b c d e l = sym (drop_at a b (length a) refl) ∙ ap (drop (length a)) e ∙ drop_at c d (length a) (sym l)

-- blanks

white_scalar : (c : ℕ) → is_whitespace c ≡ true → IsScalar c
white_scalar c h = grind (arith, nat_tests)

line_end : (c : ℕ) → ends_line c ≡ true → stays_in_line c ≡ true → ⊥
line_end c h k = let both : not true ≡ true = rw h at k in cc

-- a line's end tells the line
after_line : (line rest other after : List ℕ) → line ++ rest ≡ other ++ after → list_all stays_in_line line ≡ true → EndsLine rest → list_all stays_in_line other ≡ true → EndsLine after → rest ≡ after
after_line [] rest [] after e h k i j = e
after_line [] [] (c ∷ other) after e h k i j = cc
after_line [] (d ∷ rest) (c ∷ other) after e h k i j =
    let same : d ≡ c = cc in
    absurd (line_end d k (subst (λ (x : ℕ). stays_in_line x ≡ true) (sym same) (and_first (stays_in_line c) (list_all stays_in_line other) i)))
after_line (c ∷ line) rest [] [] e h k i j = cc
after_line (c ∷ line) rest [] (d ∷ after) e h k i j =
    let same : c ≡ d = cc in
    absurd (line_end c (subst (λ (x : ℕ). ends_line x ≡ true) (sym same) j) (and_first (stays_in_line c) (list_all stays_in_line line) h))
after_line (c ∷ line) rest (d ∷ other) after e h k i j =
    let left : line ++ rest ≡ other ++ after = cc in
    after_line line rest other after left (and_second (stays_in_line c) (list_all stays_in_line line) h) k (and_second (stays_in_line d) (list_all stays_in_line other) i) j

no_slash : (c : ℕ) (r s : List ℕ) → is_whitespace c ≡ true → encode_utf8 c ++ r ≡ 47 ∷ 47 ∷ s → ⊥
no_slash c r s w e =
    let first : c ≡ 47 = char_from_byte (47 ∷ 47 ∷ s) r c (sym e) (omega arith) (omega arith) in
    let both : false ≡ true = subst (λ (x : ℕ). is_whitespace x ≡ true) first w in
    cc

pub Skips_same : {a b l m : List ℕ} → Skips a l → Skips b m → a ≡ b → l ≡ m
Skips_same (none x s c) (none y s' c') e = e
Skips_same (none x s c) (space d r m w k) e = absurd (s.space d r (white_scalar d w) w e)
Skips_same (none x s c) (comment line r m i j k) e = absurd (c.slashes (line ++ r) e)
Skips_same (space c r l w k) (none y s' c') e = absurd (s'.space c r (white_scalar c w) w (sym e))
Skips_same (space c r l w k) (space d q m v h) e = Skips_same k h (encode_same c d r q e).1
Skips_same (space c r l w k) (comment line q m i j h) e = absurd (no_slash c r (line ++ q) w e)
Skips_same (comment line r l i j k) (none y s' c') e = absurd (c'.slashes (line ++ r) (sym e))
Skips_same (comment line r l i j k) (space d q m w h) e = absurd (no_slash d q (line ++ r) w (sym e))
Skips_same (comment line r l i j k) (comment other q m i' j' h) e =
    let both : line ++ r ≡ other ++ q = cc in
    Skips_same k h (after_line line r other q both i j i' j')

-- tokens

-- two readings of the token in front agree
record IsSameFront (t r u s : List ℕ) (k j : Kind) : Type 0 where
  pub text : t ≡ u
  pub rest : r ≡ s
  pub kind : k ≡ j

same_kind : (t u : List ℕ) (k j : Kind) → kind_of t ≡ Some k → kind_of u ≡ Some j → t ≡ u → k ≡ j
same_kind t u k j h i e = let both : Some k ≡ Some j = sym h ∙ ap kind_of e ∙ i in cc

BeginsWith_same : {a b t r u s : List ℕ} {k j : Kind} → BeginsWith a t r k → BeginsWith b u s j → a ≡ b → IsSameFront t r u s k j
BeginsWith_same {a} {b} {t} {r} {u} {s} {k} {j} f g e =
    let least : length t ≤ length u = g.longest t r k (sym e ∙ f.parts) f.is in
    let most : length u ≤ length t = f.longest u s j (e ∙ g.parts) g.is in
    let both : t ++ r ≡ u ++ s = sym f.parts ∙ e ∙ g.parts in
    let size : length t ≡ length u = omega arith in
    let front : t ≡ u = cut_front t r u s both size in
    record { text = front; rest = cut_back t r u s both size; kind = same_kind t u k j f.is g.is front }

some_text : (t : List ℕ) (k : Kind) → kind_of t ≡ Some k → t ≢ []
some_text t k h e = let both : None ≡ Some k = sym kind-nil ∙ ap kind_of (sym e) ∙ h in cc

no_text : (t r : List ℕ) → [] ≡ t ++ r → t ≡ []
no_text [] r e = refl
no_text (c ∷ t) r e = cc

begins_some : {a t r : List ℕ} {k : Kind} → BeginsWith a t r k → a ≡ [] → ⊥
begins_some {a} {t} {r} {k} f e = some_text t k f.is (no_text t r (sym e ∙ f.parts))

begins_none : {a b t r : List ℕ} {k : Kind} → BeginsNoToken a → BeginsWith b t r k → a ≡ b → ⊥
begins_none {a} {b} {t} {r} {k} n f e = let both : None ≡ Some k = sym (n t r (e ∙ f.parts)) ∙ f.is in cc

-- escapes

IsEscape_same : {like : Bool} (e r f s : List ℕ) → IsEscape like e → IsEscape like f → e ++ r ≡ f ++ s → length e ≡ length f
IsEscape_same e r f s h k same =
    let a = IsMeant-escape e h in
    let b = IsMeant-escape f k in
    let both : Some (record { piece = a.piece; len = length e }) ≡ Some (record { piece = b.piece; len = length f }) = sym (a.read r) ∙ ap escape_of same ∙ b.read s in
    let read : record { piece = a.piece; len = length e } ≡ record { piece = b.piece; len = length f } = some_same both in
    ap (λ (x : Escape). x.len) read

-- a backslash that begins no escape is no part of a spelling
spelled_whole : {like : Bool} (front back t : List ℕ) → IsSpelled like front → IsSpelled like t → t ≡ front ++ (92 ∷ back) → ((e rest : List ℕ) → back ≡ e ++ rest → IsEscape like e → ⊥) → ⊥
spelled_whole front back t ends ends e bad = cc
spelled_whole front back t ends (plain d s h k) e bad = h cc
spelled_whole front back t ends (escape f s h k) e bad = let after : back ≡ f ++ s = cc in bad f s after h
spelled_whole front back t (plain c r h k) ends e bad = cc
spelled_whole front back t (plain c r h k) (plain d s h' k') e bad = let after : s ≡ r ++ (92 ∷ back) = cc in spelled_whole r back s k k' after bad
spelled_whole front back t (plain c r h k) (escape f s h' k') e bad = h cc
spelled_whole front back t (escape f r h k) ends e bad = cc
spelled_whole front back t (escape f r h k) (plain d s h' k') e bad = h' cc
spelled_whole front back t (escape f r h k) (escape g s h' k') e bad =
    let after : g ++ s ≡ (f ++ r) ++ (92 ∷ back) = cc in
    let both : g ++ s ≡ f ++ (r ++ (92 ∷ back)) = after ∙ append_assoc f r (92 ∷ back) in
    spelled_whole r back s k k' (cut_back g s f (r ++ (92 ∷ back)) both (IsEscape_same g s f (r ++ (92 ∷ back)) h' h both)) bad

spelled_same : {like : Bool} (front back other after : List ℕ) → IsSpelled like front → IsSpelled like other → front ++ (92 ∷ back) ≡ other ++ (92 ∷ after)
    → ((e rest : List ℕ) → back ≡ e ++ rest → IsEscape like e → ⊥) → ((e rest : List ℕ) → after ≡ e ++ rest → IsEscape like e → ⊥) → back ≡ after
spelled_same front back other after ends ends e bad worse = cc
spelled_same front back other after ends (plain d s h k) e bad worse = absurd (h cc)
spelled_same front back other after ends (escape f s h k) e bad worse =
    let all : back ≡ (f ++ s) ++ (92 ∷ after) = cc in absurd (bad f (s ++ (92 ∷ after)) (all ∙ append_assoc f s (92 ∷ after)) h)
spelled_same front back other after (plain c r h k) ends e bad worse = absurd (h cc)
spelled_same front back other after (plain c r h k) (plain d s h' k') e bad worse = let left : r ++ (92 ∷ back) ≡ s ++ (92 ∷ after) = cc in spelled_same r back s after k k' left bad worse
spelled_same front back other after (plain c r h k) (escape f s h' k') e bad worse = absurd (h cc)
spelled_same front back other after (escape f r h k) ends e bad worse =
    let all : after ≡ (f ++ r) ++ (92 ∷ back) = cc in absurd (worse f (r ++ (92 ∷ back)) (all ∙ append_assoc f r (92 ∷ back)) h)
spelled_same front back other after (escape f r h k) (plain d s h' k') e bad worse = absurd (h' cc)
spelled_same front back other after (escape f r h k) (escape g s h' k') e bad worse =
    let all : (f ++ r) ++ (92 ∷ back) ≡ (g ++ s) ++ (92 ∷ after) = cc in
    let both : f ++ (r ++ (92 ∷ back)) ≡ g ++ (s ++ (92 ∷ after)) = sym (append_assoc f r (92 ∷ back)) ∙ all ∙ append_assoc g s (92 ∷ after) in
    let left = cut_back f (r ++ (92 ∷ back)) g (s ++ (92 ∷ after)) both (IsEscape_same f (r ++ (92 ∷ back)) g (s ++ (92 ∷ after)) h h' both) in
    spelled_same r back s after k k' left bad worse

-- readings

-- a string with a bad escape isn't spelled
spelled_bad : {like : Bool} (t u front back : List ℕ) → IsSpelled like t → IsBadEscape like u front back → t ≡ u → ⊥
spelled_bad t u front back h b e = spelled_whole front back t b.spelled h (e ∙ b.parts) b.bad

bad_same : {like : Bool} (t u front back other after : List ℕ) → IsBadEscape like t front back → IsBadEscape like u other after → t ≡ u → back ≡ after
bad_same t u front back other after b c e = spelled_same front back other after b.spelled c.spelled (sym b.parts ∙ e ∙ c.parts) b.bad c.bad

bad_place : (whole : ℕ) (back rest after others : List ℕ) → back ≡ after → rest ≡ others → whole - length (92 ∷ (back ++ rest)) ≡ whole - length (92 ∷ (after ++ others))
bad_place whole back rest after others e f = rw (e, f) refl

token_same : (whole : ℕ) (t r u s : List ℕ) (k j : Kind) → IsSameFront t r u s k j → token_of whole k t r ≡ token_of whole j u s
token_same whole t r u s k j h = rw (h.text, h.rest, h.kind) refl

Reads_same : {whole : ℕ} {like : Bool} {a b : List ℕ} {r s : Result (List Token) LexFault} → Reads whole like a r → Reads whole like b s → a ≡ b → r ≡ s
Reads_same (no_more l a x) (no_more m b y) e = refl
Reads_same (no_more l a x) (no_token m b left y some lacks) e = absurd (some (sym (Skips_same x y e)))
Reads_same (no_more l a x) (bad_escape m b left t rest front back y begins bad) e = absurd (begins_some begins (sym (Skips_same x y e)))
Reads_same (no_more l a x) (some_token m b left t rest kind others y begins has reads) e = absurd (begins_some begins (sym (Skips_same x y e)))
Reads_same (no_token l a left x some lacks) (no_more m b y) e = absurd (some (Skips_same x y e))
Reads_same {whole} (no_token l a left x some lacks) (no_token m b gone y more lack) e = ap (λ (bs : List ℕ). Err (BadToken (whole - length bs))) (Skips_same x y e)
Reads_same (no_token l a left x some lacks) (bad_escape m b gone t rest front back y begins bad) e = absurd (begins_none lacks begins (Skips_same x y e))
Reads_same (no_token l a left x some lacks) (some_token m b gone t rest kind others y begins has reads) e = absurd (begins_none lacks begins (Skips_same x y e))
Reads_same (bad_escape l a left t rest front back x begins bad) (no_more m b y) e = absurd (begins_some begins (Skips_same x y e))
Reads_same (bad_escape l a left t rest front back x begins bad) (no_token m b gone y more lack) e = absurd (begins_none lack begins (sym (Skips_same x y e)))
Reads_same {whole} (bad_escape l a left t rest front back x begins bad) (bad_escape m b gone u others other after y starts worse) e =
    let both = BeginsWith_same begins starts (Skips_same x y e) in
    ap (λ (n : ℕ). Err (BadEscape n)) (bad_place whole back rest after others (bad_same t u front back other after bad worse both.text) both.rest)
Reads_same (bad_escape l a left t rest front back x begins bad) (some_token m b gone u after kind others y starts has reads) e =
    let both = BeginsWith_same starts begins (sym (Skips_same x y e)) in
    absurd (spelled_bad u t front back (has both.kind) bad both.text)
Reads_same (some_token l a left t rest kind others x begins has reads) (no_more m b y) e = absurd (begins_some begins (Skips_same x y e))
Reads_same (some_token l a left t rest kind others x begins has reads) (no_token m b gone y more lack) e = absurd (begins_none lack begins (sym (Skips_same x y e)))
Reads_same (some_token l a left t rest kind others x begins has reads) (bad_escape m b gone u after front back y starts bad) e =
    let both = BeginsWith_same begins starts (Skips_same x y e) in
    absurd (spelled_bad t u front back (has both.kind) bad both.text)
Reads_same {whole} (some_token l a left t rest kind others x begins has reads) (some_token m b gone u after sort more y starts hold goes) e =
    let both = BeginsWith_same begins starts (Skips_same x y e) in
    let moved = subst (λ bs. Reads whole (bytes_eq bs (codes "like")) after more) (sym both.text) goes in
    rw (token_same whole t rest u after kind sort both) (ap (before (token_of whole sort u after)) (Reads_same reads moved both.rest))

-- files

pub Lexes_same : (bytes : List ℕ) (r s : Result (List Token) LexFault) → Lexes bytes r → Lexes bytes s → r ≡ s
Lexes_same bytes r s (ill_formed at bad v) (ill_formed other worse w) = ap (λ (n : ℕ). Err (BadUtf8 n)) (sym (utf8_valid_len-IsValidUpTo bytes at v) ∙ utf8_valid_len-IsValidUpTo bytes other w)
Lexes_same bytes r s (ill_formed at bad v) (text read u h) = absurd (bad u)
Lexes_same bytes r s (text read u h) (ill_formed at bad v) = absurd (bad u)
Lexes_same bytes r s (text read u h) (text other v k) = Reads_same h k refl

-- the answer is the one reading
pub Gives_read : (bytes : List ℕ) (result : Result (List Token) (Fault LexFault)) → IfOk result (λ list. Lexes bytes (Ok list)) → IfErr result (LexFails bytes) → (told : Result (List Token) LexFault) → Lexes bytes told → Gives result told
Gives_read bytes (Ok list) ok err told h = Lexes_same bytes told (Ok list) h ok
Gives_read bytes (Err (Told fault)) ok err told h = Lexes_same bytes told (Err fault) h err
Gives_read bytes (Err NoMemory) ok err told h = tt
