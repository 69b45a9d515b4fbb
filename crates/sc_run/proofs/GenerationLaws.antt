-- What is asked of generated policies may be asked, and no world tells them from the same in reverse order.
use Rattle.std.proofs.Common.{◌≡◌, ◌∙◌, ◌≤◌, ℕ, List, [], Bool, true, false, Option, Some, None, Result, Ok, Err, length, reverse, take, refl, sym, ap, ap₂, subst, arith}
use Rattle.std.specs.Option.{option_or}
use Rattle.std.proofs.lemmas.Bool.{true≢false}
use Rattle.sc_ast.specs.declared.policy.Policy.{Policy}
use Rattle.sc_auth.specs.Decisions.{allows}
use Rattle.sc_generated.specs.Generated.{backward, draws, forward, schema_text}
use Rattle.sc_generated_laws.specs.Texts.{policies_in}
use Rattle.sc_generated_typing_laws.specs.Schema.{declared}
use Rattle.sc_goal.specs.Properties.{has, same}
use Rattle.sc_inputs.specs.Refusals.{against_side, first_fault, on, policies_side}
use Rattle.sc_inputs.specs.declared.inputs.Asking.{Asking}
use Rattle.sc_clauses.specs.declared.step.Step.{Step}
use Rattle.sc_outside.specs.Counts.{Rose}
use Rattle.sc_outside.specs.Writes.{Written, appended}
use Rattle.sc_outside.specs.declared.faults.SinkFault.{SinkFault}
use Rattle.sc_outside.specs.declared.faults.SinkFault.TheVariants.{Failed}
use Rattle.sc_parser.specs.Spelling.{Spells}
use Rattle.sc_question.specs.declared.question.Question.{Question}
use Rattle.sc_question.specs.declared.question.Question.TheVariants.{Equivalent}
use Rattle.sc_reports.specs.Analyses.{MayBeAsked, asked}
use Rattle.sc_reports.specs.Progress.{Reported}
use Rattle.sc_reports.specs.Reports.{Asked}
use Rattle.sc_schema.specs.Declarations.{Declarations}
use Rattle.sc_schema_json.specs.Spelling as schema_file
use Rattle.sc_typing.specs.Checking.{type_fault}
use Rattle.sc_typing.specs.Names.{name_fault}
use Rattle.sc_world.specs.declared.world.World.{World}
use Rattle.sc_run.specs.Generates.{IsGenerated, Summed, summary, summary_cut, summed}
use Rattle.sc_run.proofs.SpellingLaws.{one_set}
use Rattle.sc_run.proofs.StatusLaws.{NeverViolated}

-- ---- the laws of other crates on which these rest

abbrev ForwardSpelled : Type 0
ForwardSpelled = (n : ℕ) → n ≤ 10000 → Spells (forward n) (policies_in (length (forward n)) (draws n n))

abbrev BackwardSpelled : Type 0
BackwardSpelled = (n : ℕ) → n ≤ 10000 → Spells (backward n) (policies_in (length (backward n)) (reverse (draws n n)))

abbrev Alike : Type 0
Alike = (w : World) (m n : ℕ) (xs : List ℕ) → allows w (policies_in m xs) ≡ allows w (policies_in n (reverse xs))

-- ---- the policies in order and in reverse

abbrev in_order : ℕ → List Policy
in_order size = policies_in (length (forward size)) (draws size size)

abbrev in_reverse : ℕ → List Policy
in_reverse size = policies_in (length (backward size)) (reverse (draws size size))

within : (size : ℕ) → size ≤ 1000 → size ≤ 10000
within size most = omega (arith, most)

-- what is asked is what the texts spell
pub is_generated : ForwardSpelled → BackwardSpelled → schema_file.Spells schema_text declared → (size : ℕ) → size ≤ 1000 → (s : Declarations) (ps qs : List Policy) → s ≡ declared → ps ≡ in_order size → qs ≡ in_reverse size
    → IsGenerated size (asked s Equivalent ps (Some qs) 1000000)
is_generated first second schema size most s ps qs e f h = record {
  schema = subst (schema_file.Spells schema_text) (sym e) schema;
  question = refl;
  first = subst (Spells (forward size)) (sym f) (first size (within size most));
  second = subst (Spells (backward size)) (sym h) (second size (within size most));
  budget = refl;
}

-- two sets without a fault
both_none : {F : Type 0} (fault : List Policy → Option F) (ps qs : List Policy) → fault ps ≡ None → fault qs ≡ None → first_fault fault ps (Some qs) ≡ None
both_none {F} fault ps qs e f = ap₂ (λ (a b : Option F). option_or (on policies_side a) (on against_side b)) e f

abbrev Named : Type 0
Named = (whole : ℕ) (xs : List ℕ) → name_fault declared (policies_in whole xs) ≡ None

abbrev Typed : Type 0
Typed = (whole : ℕ) (xs : List ℕ) → type_fault declared (policies_in whole xs) ≡ None

-- these may be asked about
asked_generated : Named → Typed → (size : ℕ)
    → MayBeAsked (record { schema = declared; question = Equivalent; policies = in_order size; against = Some (in_reverse size) })
asked_generated named typed size = record {
  served = record {
    declared = both_none (name_fault declared) (in_order size) (in_reverse size) (named _ _) (named _ _);
    typed = both_none (type_fault declared) (in_order size) (in_reverse size) (typed _ _) (typed _ _);
  };
  sets = refl;
}

pub may_be_asked : Named → Typed → (size : ℕ) → (s : Declarations) (ps qs : List Policy) → s ≡ declared → ps ≡ in_order size → qs ≡ in_reverse size
    → MayBeAsked (record { schema = s; question = Equivalent; policies = ps; against = Some qs })
may_be_asked named typed size s ps qs e f h =
    let asking : Declarations → List Policy → List Policy → Asking = λ t us vs. record { schema = t; question = Equivalent; policies = us; against = Some vs } in
    let there : asking s ps qs ≡ asking declared (in_order size) (in_reverse size) = λ i. asking (e i) (f i) (h i) in
    subst MayBeAsked (sym there) (asked_generated named typed size)

-- ---- how it is written

-- the summary is written whole, no write failed, and then the report as it comes
pub after_summary : (size : ℕ) (q : Asked) (old mid new : Written) (line : List ℕ) (before mid_count now : ℕ) (code : ℕ) (spent : List (List Step)) → line ≡ summary size → IsGenerated size q → mid ≡ appended old line → before ≡ mid_count
    → Reported q mid new (Rose mid_count now) code spent → Summed size old new (Rose before now) code spent
after_summary size q old mid new line before mid_count now code spent is generated text still report =
    summed q generated
    (subst (λ (o : Written). Reported q o new (Rose before now) code spent) (text ∙ ap (appended old) is)
    (subst (λ (k : ℕ). Reported q mid new (Rose k now) code spent) (sym still) report))

-- or a front of it is
pub cut_summary : (size : ℕ) (old new : Written) (line : List ℕ) (rose : Type 0) (code : ℕ) (spent : List (List Step)) → line ≡ summary size → ((n : ℕ) × (n ≤ length line) × (new ≡ appended old (take n line)))
    → rose → code ≡ 21 → spent ≡ [] → Summed size old new rose code spent
cut_summary size old new line rose code spent is h risen c none = summary_cut h.0 risen c (h.2 ∙ ap (λ (text : List ℕ). appended old (take h.0 text)) is) none

-- a write that came through didn't fail
pub not_failed : {r : Result Unit SinkFault} {x : Unit} → r ≡ Ok x → r ≡ Err Failed → ⊥
not_failed {x = x} e f = let same : Ok x ≡ Err Failed = sym e ∙ f in absurd cc

-- ---- no counterexample

same_self : (b : Bool) → same b b ≡ true
same_self true = refl
same_self false = refl

pub never_violated : ForwardSpelled → BackwardSpelled → Alike → NeverViolated
never_violated first second alike size q env w most is violates =
    let ps : q.first ≡ in_order size = one_set is.first (first size (within size most)) in
    let qs : q.second ≡ in_reverse size = one_set is.second (second size (within size most)) in
    let equal : allows w q.first ≡ allows w q.second = ap (allows w) ps ∙ alike w _ _ (draws size size) ∙ sym (ap (allows w) qs) in
    let holds : has q.question q.first q.second w ≡ true =
    ap (λ (x : Question). has x q.first q.second w) is.question ∙ ap (λ (b : Bool). same b (allows w q.second)) equal ∙ same_self (allows w q.second) in
    true≢false (sym holds ∙ violates.lacks)
