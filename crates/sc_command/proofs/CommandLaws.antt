-- Words are one command at most.
use Rattle.std.proofs.Common.{◌≡◌, ◌∙◌, ℕ, List, [], Option, Some, unwrap_or, true, false, refl, sym, ap, subst}
use Rattle.std.specs.Prelude.{codes}
use Rattle.std.specs.Str.{bytes_eq}
use Rattle.std.specs.Str.Parse.{digits_value}
use Rattle.std.proofs.lemmas.Bool.{true≢false}
use Rattle.clap.specs.Words.{Row, Text, subcommand_of}
use Rattle.sc_question.proofs.NameLaws.{one_name}
use Rattle.sc_command.specs.CommandLine.{Analyse, Asked, Check, Command, Commands, Generate, HasBudget, HasPlace, IsAnalyse, IsAsked, IsCheck, IsGenerate, IsLog, IsNumber, IsReduce, IsReplay, Log, Reads, Reduce, Replay, Values, analyse, check_log, generate, reduce, replay, tool, values_of, write_log}

one_value : {X : Type 0} (x y : X) → Some x ≡ Some y → x ≡ y
one_value x y e = ap (λ o. unwrap_or o x) e

one_number : {low high : ℕ} (s t : Text) (m n : ℕ) → Some s ≡ Some t → IsNumber low high s m → IsNumber low high t n → m ≡ n
one_number s t m n e h k = sym h.value ∙ ap (digits_value 10) (one_value s t e) ∙ k.value

one_budget : (given : Values) (m n : ℕ) → HasBudget given m → HasBudget given n → m ≡ n
one_budget given m n h k = one_number h.text k.text m n (sym h.given_text ∙ k.given_text) h.spelled k.spelled

one_place : (given : Values) (m n : ℕ) → HasPlace given m → HasPlace given n → m ≡ n
one_place given m n h k = one_number h.text k.text m n (sym h.given_text ∙ k.given_text) h.spelled k.spelled

one_asked : (given : Values) (a b : Asked) → IsAsked given a → IsAsked given b → a ≡ b
one_asked given a b h k =
    let schema = one_value a.schema b.schema (sym h.schema_given ∙ k.schema_given) in
    let policies = one_value a.policies b.policies (sym h.policies_given ∙ k.policies_given) in
    let against = sym h.against_given ∙ k.against_given in
    let question = one_name a.question b.question (one_value _ _ (sym h.query_given ∙ k.query_given)) in
    λ i. record { schema = schema i; policies = policies i; against = against i; question = question i }

one_analyse : (given : Values) (a b : Analyse) → IsAnalyse given a → IsAnalyse given b → a ≡ b
one_analyse given a b h k =
    let asked = one_asked given a.asked b.asked h.asked_given k.asked_given in
    let budget = one_budget given a.budget b.budget h.budget_given k.budget_given in
    λ i. record { asked = asked i; budget = budget i }

one_log : (given : Values) (l m : Log) → IsLog given l → IsLog given m → l ≡ m
one_log given l m h k =
    let asked = one_asked given l.asked m.asked h.asked_given k.asked_given in
    let budget = one_budget given l.budget m.budget h.budget_given k.budget_given in
    let environment = one_place given l.environment m.environment h.place_given k.place_given in
    λ i. record { asked = asked i; budget = budget i; environment = environment i }

one_check : (given : Values) (c d : Check) → IsCheck given c → IsCheck given d → c ≡ d
one_check given c d h k =
    let asked = one_asked given c.asked d.asked h.asked_given k.asked_given in
    let environment = one_place given c.environment d.environment h.place_given k.place_given in
    let log = one_value c.log d.log (sym h.log_given ∙ k.log_given) in
    λ i. record { asked = asked i; environment = environment i; log = log i }

one_replay : (given : Values) (a b : Replay) → IsReplay given a → IsReplay given b → a ≡ b
one_replay given a b h k =
    let schema = one_value a.schema b.schema (sym h.schema_given ∙ k.schema_given) in
    let policies = one_value a.policies b.policies (sym h.policies_given ∙ k.policies_given) in
    let world = one_value a.world b.world (sym h.world_given ∙ k.world_given) in
    λ i. record { schema = schema i; policies = policies i; world = world i }

one_reduce : (given : Values) (r s : Reduce) → IsReduce given r → IsReduce given s → r ≡ s
one_reduce given r s h k =
    let schema = one_value r.asked.schema s.asked.schema (sym h.schema_given ∙ k.schema_given) in
    let policies = one_value r.asked.policies s.asked.policies (sym h.policies_given ∙ k.policies_given) in
    let against = h.no_second_set ∙ sym k.no_second_set in
    let question = h.question_is ∙ sym k.question_is in
    let budget = one_budget given r.budget s.budget h.budget_given k.budget_given in
    λ i. record { asked = record { schema = schema i; policies = policies i; against = against i; question = question i }; budget = budget i }

one_generate : (given : Values) (f g : Generate) → IsGenerate given f → IsGenerate given g → f ≡ g
one_generate given f g h k =
    let a = h.size_given in
    let b = k.size_given in
    let size = one_number a.text b.text f.size g.size (sym a.given_text ∙ b.given_text) a.spelled b.spelled in
    λ i. record { size = size i }

abbrev Entered : Type 0
Entered = Option (Text × List Row)

-- the rows of one subcommand
one_list : (entered : Entered) (name : Text) (r s : List Row) → entered ≡ Some (name, r) → entered ≡ Some (name, s) → r ≡ s
one_list entered name r s e f = ap (λ (o : Entered). (unwrap_or o (name, r)).1) (sym e ∙ f)

-- two names aren't both entered
other_name : (entered : Entered) (name other : Text) (r s : List Row) → bytes_eq name name ≡ true → bytes_eq other name ≡ false → entered ≡ Some (name, r) → entered ≡ Some (other, s) → ⊥
other_name entered name other r s same differs e f =
    true≢false (sym same ∙ ap (λ (o : Entered). bytes_eq (unwrap_or o ([], [])).0 name) (sym e ∙ f) ∙ differs)

-- a name that isn't this word
not_named : (entered : Entered) (word name other : Text) (r s : List Row) → entered ≡ Some (name, r) → bytes_eq name word ≡ true → bytes_eq other word ≡ false → entered ≡ Some (other, s) → ⊥
not_named entered word name other r s e named differs f =
    true≢false (sym named ∙ ap (λ (o : Entered). bytes_eq (unwrap_or o ([], [])).0 word) (sym e ∙ f) ∙ differs)

never : (entered : Entered) (name other : Text) (r s : List Row) (c d : Command) → bytes_eq name name ≡ true → bytes_eq other name ≡ false → entered ≡ Some (name, r) → entered ≡ Some (other, s) → c ≡ d
never entered name other r s c d same differs e f = absurd (other_name entered name other r s same differs e f)

one_read : (entered : Entered) (c d : Command) → Reads entered c → Reads entered d → c ≡ d
one_read entered (analyse a) (analyse b) h k =
    let same = one_list entered (codes "analyse") h.0 k.0 h.1 k.1 in
    ap analyse (one_analyse (values_of k.0) a b (subst (λ (rows : List Row). IsAnalyse (values_of rows) a) same h.2) k.2)
one_read entered (replay r) (replay s) h k =
    let same = one_list entered (codes "replay") h.0 k.0 h.1 k.1 in
    ap replay (one_replay (values_of k.0) r s (subst (λ (rows : List Row). IsReplay (values_of rows) r) same h.2) k.2)
one_read entered (write_log l) (write_log m) h k =
    let same = one_list entered (codes "log") h.0 k.0 h.1 k.1 in
    ap write_log (one_log (values_of k.0) l m (subst (λ (rows : List Row). IsLog (values_of rows) l) same h.2) k.2)
one_read entered (check_log c) (check_log d) h k =
    let same = one_list entered (codes "check") h.0 k.0 h.1 k.1 in
    ap check_log (one_check (values_of k.0) c d (subst (λ (rows : List Row). IsCheck (values_of rows) c) same h.2) k.2)
one_read entered (reduce x) (reduce y) h k =
    let same = one_list entered (codes "reduce") h.0 k.0 h.1 k.1 in
    ap reduce (one_reduce (values_of k.0) x y (subst (λ (rows : List Row). IsReduce (values_of rows) x) same h.2) k.2)
one_read entered (generate f) (generate g) h k =
    let same = one_list entered (codes "generate") h.0 k.0 h.1 k.1 in
    ap generate (one_generate (values_of k.0) f g (subst (λ (rows : List Row). IsGenerate (values_of rows) f) same h.2) k.2)
one_read entered (analyse a) (replay s) h k = never entered (codes "analyse") (codes "replay") h.0 k.0 _ _ refl refl h.1 k.1
one_read entered (analyse a) (write_log m) h k = never entered (codes "analyse") (codes "log") h.0 k.0 _ _ refl refl h.1 k.1
one_read entered (analyse a) (check_log d) h k = never entered (codes "analyse") (codes "check") h.0 k.0 _ _ refl refl h.1 k.1
one_read entered (replay r) (analyse b) h k = never entered (codes "replay") (codes "analyse") h.0 k.0 _ _ refl refl h.1 k.1
one_read entered (replay r) (write_log m) h k = never entered (codes "replay") (codes "log") h.0 k.0 _ _ refl refl h.1 k.1
one_read entered (replay r) (check_log d) h k = never entered (codes "replay") (codes "check") h.0 k.0 _ _ refl refl h.1 k.1
one_read entered (write_log l) (analyse b) h k = never entered (codes "log") (codes "analyse") h.0 k.0 _ _ refl refl h.1 k.1
one_read entered (write_log l) (replay s) h k = never entered (codes "log") (codes "replay") h.0 k.0 _ _ refl refl h.1 k.1
one_read entered (write_log l) (check_log d) h k = never entered (codes "log") (codes "check") h.0 k.0 _ _ refl refl h.1 k.1
one_read entered (check_log c) (analyse b) h k = never entered (codes "check") (codes "analyse") h.0 k.0 _ _ refl refl h.1 k.1
one_read entered (check_log c) (replay s) h k = never entered (codes "check") (codes "replay") h.0 k.0 _ _ refl refl h.1 k.1
one_read entered (check_log c) (write_log m) h k = never entered (codes "check") (codes "log") h.0 k.0 _ _ refl refl h.1 k.1
one_read entered (analyse a) (reduce y) h k = never entered (codes "analyse") (codes "reduce") h.0 k.0 _ _ refl refl h.1 k.1
one_read entered (replay r) (reduce y) h k = never entered (codes "replay") (codes "reduce") h.0 k.0 _ _ refl refl h.1 k.1
one_read entered (write_log l) (reduce y) h k = never entered (codes "log") (codes "reduce") h.0 k.0 _ _ refl refl h.1 k.1
one_read entered (check_log c) (reduce y) h k = never entered (codes "check") (codes "reduce") h.0 k.0 _ _ refl refl h.1 k.1
one_read entered (reduce x) (analyse b) h k = never entered (codes "reduce") (codes "analyse") h.0 k.0 _ _ refl refl h.1 k.1
one_read entered (reduce x) (replay s) h k = never entered (codes "reduce") (codes "replay") h.0 k.0 _ _ refl refl h.1 k.1
one_read entered (reduce x) (write_log m) h k = never entered (codes "reduce") (codes "log") h.0 k.0 _ _ refl refl h.1 k.1
one_read entered (reduce x) (check_log d) h k = never entered (codes "reduce") (codes "check") h.0 k.0 _ _ refl refl h.1 k.1
one_read entered (analyse a) (generate g) h k = never entered (codes "analyse") (codes "generate") h.0 k.0 _ _ refl refl h.1 k.1
one_read entered (replay r) (generate g) h k = never entered (codes "replay") (codes "generate") h.0 k.0 _ _ refl refl h.1 k.1
one_read entered (write_log l) (generate g) h k = never entered (codes "log") (codes "generate") h.0 k.0 _ _ refl refl h.1 k.1
one_read entered (check_log c) (generate g) h k = never entered (codes "check") (codes "generate") h.0 k.0 _ _ refl refl h.1 k.1
one_read entered (reduce x) (generate g) h k = never entered (codes "reduce") (codes "generate") h.0 k.0 _ _ refl refl h.1 k.1
one_read entered (generate f) (analyse b) h k = never entered (codes "generate") (codes "analyse") h.0 k.0 _ _ refl refl h.1 k.1
one_read entered (generate f) (replay s) h k = never entered (codes "generate") (codes "replay") h.0 k.0 _ _ refl refl h.1 k.1
one_read entered (generate f) (write_log m) h k = never entered (codes "generate") (codes "log") h.0 k.0 _ _ refl refl h.1 k.1
one_read entered (generate f) (check_log d) h k = never entered (codes "generate") (codes "check") h.0 k.0 _ _ refl refl h.1 k.1
one_read entered (generate f) (reduce y) h k = never entered (codes "generate") (codes "reduce") h.0 k.0 _ _ refl refl h.1 k.1

-- the words name `reduce`, and its options were given no such command
pub no_reduce : (entered : Entered) (name : Text) (rows : List Row) → entered ≡ Some (name, rows) → bytes_eq name (codes "reduce") ≡ true → ((r : Reduce) → IsReduce (values_of rows) r → ⊥) → (c : Command) → Reads entered c → ⊥
no_reduce entered name rows e named none (reduce r) h =
    none r (subst (λ (given : List Row). IsReduce (values_of given) r) (ap (λ (o : Entered). (unwrap_or o (name, rows)).1) (sym h.1 ∙ e)) h.2)
no_reduce entered name rows e named none (analyse a) h = not_named entered (codes "reduce") name (codes "analyse") rows h.0 e named refl h.1
no_reduce entered name rows e named none (replay r) h = not_named entered (codes "reduce") name (codes "replay") rows h.0 e named refl h.1
no_reduce entered name rows e named none (write_log l) h = not_named entered (codes "reduce") name (codes "log") rows h.0 e named refl h.1
no_reduce entered name rows e named none (check_log c) h = not_named entered (codes "reduce") name (codes "check") rows h.0 e named refl h.1
no_reduce entered name rows e named none (generate g) h = not_named entered (codes "reduce") name (codes "generate") rows h.0 e named refl h.1

-- the words name `generate`, and its option was given no such command
pub no_generate : (entered : Entered) (name : Text) (rows : List Row) → entered ≡ Some (name, rows) → bytes_eq name (codes "generate") ≡ true → ((g : Generate) → IsGenerate (values_of rows) g → ⊥) → (c : Command) → Reads entered c → ⊥
no_generate entered name rows e named none (generate g) h =
    none g (subst (λ (given : List Row). IsGenerate (values_of given) g) (ap (λ (o : Entered). (unwrap_or o (name, rows)).1) (sym h.1 ∙ e)) h.2)
no_generate entered name rows e named none (analyse a) h = not_named entered (codes "generate") name (codes "analyse") rows h.0 e named refl h.1
no_generate entered name rows e named none (replay r) h = not_named entered (codes "generate") name (codes "replay") rows h.0 e named refl h.1
no_generate entered name rows e named none (write_log l) h = not_named entered (codes "generate") name (codes "log") rows h.0 e named refl h.1
no_generate entered name rows e named none (check_log c) h = not_named entered (codes "generate") name (codes "check") rows h.0 e named refl h.1
no_generate entered name rows e named none (reduce r) h = not_named entered (codes "generate") name (codes "reduce") rows h.0 e named refl h.1

pub one_command : (words : List Text) (c d : Command) → Commands words c → Commands words d → c ≡ d
one_command words c d h k = one_read (subcommand_of tool words) c d h.reads k.reads
