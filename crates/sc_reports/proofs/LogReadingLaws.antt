-- A log is read in pieces, and what is held follows.
use Rattle.std.proofs.Common.{◌≡◌, ◌↔◌, ◌≤◌, ◌<◌, ◌+◌, ◌++◌, ◌∙◌, ℕ, List, [], ◌∷◌, Option, Some, None, IfSome, length, refl, sym, ap, subst, arith, length-append, unwrap_or}
use Rattle.sc_outside.specs.Pieces.{Left, behind}
use Rattle.sc_checker.specs.Streams.{Checker, Checking, After, ended, unread, HasVerdict, IsAcceptedText}
use Rattle.sc_checker.specs.declared.checking.Verdict.{Verdict}
use Rattle.sc_checker.specs.declared.checking.Verdict.TheVariants.{Refuted}
use Rattle.sc_checker.proofs.StreamLaws.{after_joined, nothing_is, nothing_read}
use Rattle.sc_footprint.specs.Problems.{Posed}
use Rattle.sc_inputs.specs.Refusals.{Content, Refusal, RefusesLog, log_limit, log_long, log_unread}
use Rattle.sc_solver.specs.Theories.{HasRule, rule_clause}
use Rattle.sc_solver.specs.declared.rules.Rules.{Rules as AllRules}
use Rattle.sc_reports.specs.LogReading.{ComesTo, HasRead, HasReadAll, Held, IsOnTheWay, LeadsOn, RefusesPiece, SameProblem, piece_long, piece_unread}
use Rattle.sc_reports.specs.Claims.{IsChecked}

-- what is left behind a piece is told where what was left is
record Split (piece rest : List ℕ) (left : Left) : Type 0 where
  pub more : List ℕ
  pub is_left : left ≡ Some (Some more)
  pub parts : rest ≡ piece ++ more

text_in : Left → List ℕ
text_in left = unwrap_or (unwrap_or left None) []

split : (piece rest : List ℕ) (left : Left) → Some (Some rest) ≡ behind piece left → Split piece rest left
unfolding text_in
split piece rest None e = absurd cc
split piece rest (Some None) e = absurd cc
split piece rest (Some (Some more)) e = record { more = more; is_left = refl; parts = ap text_in e }

-- a piece that is fed leads on
held-on : (now later : Held) (piece more : List ℕ) → SameProblem now later → ComesTo now piece later [] → ComesTo now (piece ++ more) later more
held-on None None piece more same fed = λ end h. tt
held-on None (Some d) piece more same fed = absurd same
held-on (Some c) None piece more same fed = absurd same
held-on (Some c) (Some d) piece more same fed = λ end h.
    after_joined (HasRule c.problem) (rule_clause c.problem) c.state d.state end piece more
    (fed d.state (nothing_read (HasRule d.problem) (rule_clause d.problem) d.state [] refl))
    (subst (λ (p : Posed). After (HasRule p) (rule_clause p) d.state more end) same h)

pub comes-on : (before now later : Held) (text piece more : List ℕ) → SameProblem now later → ComesTo now piece later [] → ComesTo before text now (piece ++ more) → ComesTo before text later more
comes-on before now later text piece more same fed h = λ end k. h end (held-on now later piece more same fed end k)

room-less : (room after_room count size more limit : ℕ) → room ≡ after_room + count → room + size ≡ limit + (count + more) → after_room + size ≡ limit + more
room-less room after_room count size more limit e f = omega (arith, e, f)

-- with a piece that is read and fed
pub leads-on : (before now later : Held) (text piece : List ℕ) (room after_room : ℕ) (left next : Left) → LeadsOn before now text room left → left ≡ behind piece next → room ≡ after_room + length piece
    → SameProblem now later → ComesTo now piece later [] → LeadsOn before later text after_room next
leads-on before now later text piece room after_room left next x front fits same fed =
    let s = split piece x.rest next (sym x.is_left ∙ front) in
    let size : length x.rest ≡ length piece + length s.more = ap length s.parts ∙ length-append piece s.more in
    record {
      rest = s.more;
      is_left = s.is_left;
      follows = comes-on before now later text piece s.more same fed (subst (λ (rest : List ℕ). ComesTo before text now rest) s.parts x.follows);
      counted = room-less room after_room (length piece) (length text) (length s.more) log_limit fits (x.counted ∙ ap (λ n. log_limit + n) size);
    }

-- at the end all is read, and the text isn't too long
pub read-whole : (before now : Held) (text : List ℕ) (room : ℕ) (left : Left) → LeadsOn before now text room left → IfSome left (λ told. IfSome told (λ rest. length rest ≡ 0)) → HasRead before now text
read-whole before now text room left x end =
    let none : length x.rest ≡ 0 = subst (λ (l : Left). IfSome l (λ told. IfSome told (λ rest. length rest ≡ 0))) x.is_left end in
    record { short = short-text room (length text) (length x.rest) log_limit x.counted none; reached = subst (λ (rest : List ℕ). ComesTo before text now rest) (no-text x.rest none) x.follows }
  where
    short-text : (room size rest limit : ℕ) → room + size ≡ limit + rest → rest ≡ 0 → size ≤ limit
    short-text room size rest limit e f = omega (arith, e, f)

    no-text : (rest : List ℕ) → length rest ≡ 0 → rest ≡ []
    no-text [] e = refl
    no-text (r ∷ rest) e = absurd (omega (arith, e))

-- a text of which more is left than may be is too long
pub too-long : (before now : Held) (text : List ℕ) (room : ℕ) (left : Left) → LeadsOn before now text room left → IfSome left (λ told. IfSome told (λ rest. room < length rest)) → log_limit < length text
too-long before now text room left x far =
    let beyond : room < length x.rest = subst (λ (l : Left). IfSome l (λ told. IfSome told (λ rest. room < length rest))) x.is_left far in
    let counted = x.counted in
    omega (arith, beyond, counted)

-- ---- wherever what is left is told

pub same-still : (held : Held) → SameProblem held held
same-still None = tt
same-still (Some c) = refl

pub same-on : (before now later : Held) → SameProblem before now → SameProblem now later → SameProblem before later
same-on None None None h k = tt
same-on None None (Some e) h k = absurd k
same-on None (Some d) later h k = absurd h
same-on (Some c) None later h k = absurd h
same-on (Some c) (Some d) None h k = absurd k
same-on (Some c) (Some d) (Some e) h k = k ∙ h

-- where a log begins, all of it is left
pub way-begins : (start : Left) (held : Held) → IsOnTheWay start held held log_limit start
way-begins None held = tt
way-begins (Some None) held = tt
way-begins (Some (Some text)) held = record { rest = text; is_left = refl; follows = λ end h. h; counted = refl }

pub way-on : (start : Left) (before now later : Held) (piece : List ℕ) (room after_room : ℕ) (left next : Left) → IsOnTheWay start before now room left → left ≡ behind piece next → room ≡ after_room + length piece
    → SameProblem now later → ComesTo now piece later [] → IsOnTheWay start before later after_room next
way-on None before now later piece room after_room left next way front fits same fed = tt
way-on (Some None) before now later piece room after_room left next way front fits same fed = tt
way-on (Some (Some text)) before now later piece room after_room left next way front fits same fed = leads-on before now later text piece room after_room left next way front fits same fed

pub way-ends : (start : Left) (before now : Held) (room : ℕ) (left : Left) → IsOnTheWay start before now room left → IfSome left (λ told. IfSome told (λ rest. length rest ≡ 0)) → HasReadAll start before now
way-ends None before now room left way end = tt
way-ends (Some None) before now room left way end = tt
way-ends (Some (Some text)) before now room left way end = read-whole before now text room left way end

pub way-long : (start : Left) (before now : Held) (room : ℕ) (left : Left) → IsOnTheWay start before now room left → IfSome left (λ told. IfSome told (λ rest. room < length rest)) → IfSome start (λ told. IfSome told (λ text. log_limit < length text))
way-long None before now room left way far = tt
way-long (Some None) before now room left way far = tt
way-long (Some (Some text)) before now room left way far = too-long before now text room left way far

-- a refusal on the way is one of the whole
pub way-fails : (start : Left) (before now : Held) (room : ℕ) (left : Left) (risen rose : Type 0) → (risen → rose) → IsOnTheWay start before now room left → (a : Refusal) → RefusesPiece left room risen a → RefusesPiece start log_limit rose a
way-fails start before now room left risen rose since way _ (piece_unread h) = piece_unread (since h)
way-fails start before now room left risen rose since way _ (piece_long far) = piece_long (way-long start before now room left way far)

-- a piece that is longer than may be is of a log of which more is left
pub piece-far : (left next : Left) (piece : List ℕ) (room : ℕ) → left ≡ behind piece next → room < length piece → IfSome left (λ told. IfSome told (λ rest. room < length rest))
piece-far left next piece room e h = subst (λ (l : Left). IfSome l (λ told. IfSome told (λ rest. room < length rest))) (sym e) (behind-far next)
  where
    longer : (size more limit : ℕ) → limit < size → limit < size + more
    longer size more limit far = omega (arith, far)

    behind-far : (l : Left) → IfSome (behind piece l) (λ told. IfSome told (λ rest. room < length rest))
    behind-far None = tt
    behind-far (Some None) = tt
    behind-far (Some (Some rest)) = subst (λ (n : ℕ). room < n) (sym (length-append piece rest)) (longer (length piece) (length rest) room h)

-- ---- the log of a file

pub log-fails : (content : Content) (name : List ℕ) (left : Left) (risen : Type 0) (failed : List ℕ → Type 0) → (risen → failed name) → left ≡ Some (content name) → (a : Refusal) → RefusesPiece left log_limit risen a → RefusesLog content name failed a
log-fails content name left risen failed since e _ (piece_unread h) = log_unread (since h)
log-fails content name left risen failed since e _ (piece_long far) = log_long (subst (λ (l : Left). IfSome l (λ told. IfSome told (λ rest. log_limit < length rest))) e far)

pub fed-same : (held : Held) (old new : Checker AllRules) → held ≡ Some old → new.problem ≡ old.problem → SameProblem held (Some new)
fed-same held old new is kept = subst (λ (h : Held). SameProblem h (Some new)) (sym is) kept

-- a checker that has taken a piece holds what comes after it
pub fed-comes : (held : Held) (old new : Checker AllRules) (piece : List ℕ) → held ≡ Some old → After (HasRule old.problem) (rule_clause old.problem) old.state piece new.state → ComesTo held piece (Some new) []
fed-comes held old new piece is fed = subst (λ (h : Held). ComesTo h piece (Some new) []) (sym is)
    (λ end h. subst (After (HasRule old.problem) (rule_clause old.problem) old.state piece) (sym (nothing_is (HasRule new.problem) (rule_clause new.problem) new.state end h)) fed)

-- the laws of streams, by the rules of a problem
abbrev Agreeing : Posed → Type 0
Agreeing p = (bytes : List ℕ) (c : Checking) (v : Verdict) → After (HasRule p) (rule_clause p) (unread p) bytes c → (ended c ≡ v) ↔ HasVerdict (HasRule p) (rule_clause p) p bytes v

abbrev Accepting : Posed → Type 0
Accepting p = (bytes : List ℕ) (c : Checking) → After (HasRule p) (rule_clause p) (unread p) bytes c → (ended c ≡ Refuted) ↔ IsAcceptedText (HasRule p) (rule_clause p) p bytes

-- where a text is read to its end, the checker has checked it
pub read-checked : (content : Option (List ℕ)) (p : Posed) (old new : Checker AllRules) (v : Verdict) → Agreeing p → Accepting p → old.problem ≡ p → old.state ≡ unread p → IfSome content (HasRead (Some old) (Some new)) → v ≡ ended new.state
    → IfSome content (λ text. IsChecked p text v)
read-checked None p old new v agrees accepts problem first h is = tt
read-checked (Some text) p old new v agrees accepts problem first h is =
    let all : After (HasRule p) (rule_clause p) (unread p) text new.state
    = subst (λ (c : Checking). After (HasRule p) (rule_clause p) c text new.state) first
    (subst (λ (q : Posed). After (HasRule q) (rule_clause q) old.state text new.state) problem
    (h.reached new.state (nothing_read (HasRule new.problem) (rule_clause new.problem) new.state [] refl))) in
    record { verdict = (agrees text new.state v all).0 (sym is); accepted = λ e. (accepts text new.state all).0 (sym is ∙ e) }
