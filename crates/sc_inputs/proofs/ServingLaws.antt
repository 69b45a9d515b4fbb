-- Words are one command at most.
use Rattle.std.proofs.Common.{◌≡◌, ◌≤◌, ◌∙◌, ℕ, List, [], Bool, true, false, Option, None, is_some, ap, refl, sym}
use Rattle.sc_question.specs.declared.question.Question.{Question}
use Rattle.sc_question.specs.declared.question.Question.TheVariants.{AlwaysDenies}
use Rattle.std.proofs.lemmas.Bool.{true≢false}
use Rattle.sc_command.specs.CommandLine.{Asked, Command as AnyCommand, Commands, analyse, check_log, generate, reduce, replay, write_log}
use Rattle.sc_command.proofs.CommandLaws.{one_command}
use Rattle.sc_inputs.specs.Serving.{Aim, Command, Generates, HasSets, MayWork, Serves, Task, as_command, asking, checking, command_for, logging, reducing, replaying, reporting}

abbrev schema_of : AnyCommand → List ℕ
schema_of (analyse a) = a.asked.schema
schema_of (replay r) = r.schema
schema_of (write_log l) = l.asked.schema
schema_of (check_log c) = c.asked.schema
schema_of (reduce r) = r.asked.schema
schema_of (generate g) = []

abbrev policies_of : AnyCommand → List ℕ
policies_of (analyse a) = a.asked.policies
policies_of (replay r) = r.policies
policies_of (write_log l) = l.asked.policies
policies_of (check_log c) = c.asked.policies
policies_of (reduce r) = r.asked.policies
policies_of (generate g) = []

abbrev task_for : Asked → Aim → Task
task_for a aim = asking a.question a.against aim

abbrev task_of : AnyCommand → Task
task_of (analyse a) = task_for a.asked (reporting a.budget)
task_of (replay r) = replaying r.world
task_of (write_log l) = task_for l.asked (logging l.budget l.environment)
task_of (check_log c) = task_for c.asked (checking c.environment c.log)
task_of (reduce r) = task_for r.asked (reducing r.budget)
task_of (generate g) = replaying []

schema-of : (schema policies : List ℕ) (t : Task) → schema_of (command_for schema policies t) ≡ schema
schema-of schema policies (asking question against (reporting budget)) = refl
schema-of schema policies (asking question against (logging budget place)) = refl
schema-of schema policies (asking question against (checking place log)) = refl
schema-of schema policies (asking question against (reducing budget)) = refl
schema-of schema policies (replaying world) = refl

policies-of : (schema policies : List ℕ) (t : Task) → policies_of (command_for schema policies t) ≡ policies
policies-of schema policies (asking question against (reporting budget)) = refl
policies-of schema policies (asking question against (logging budget place)) = refl
policies-of schema policies (asking question against (checking place log)) = refl
policies-of schema policies (asking question against (reducing budget)) = refl
policies-of schema policies (replaying world) = refl

task-of : (schema policies : List ℕ) (t : Task) → task_of (command_for schema policies t) ≡ t
task-of schema policies (asking question against (reporting budget)) = refl
task-of schema policies (asking question against (logging budget place)) = refl
task-of schema policies (asking question against (checking place log)) = refl
task-of schema policies (asking question against (reducing budget)) = refl
task-of schema policies (replaying world) = refl

pub same_schema : (words : List (List ℕ)) (c d : Command) → Serves words c → Serves words d → c.schema ≡ d.schema
same_schema words c d h k =
    sym (schema-of c.schema c.policies c.task) ∙ ap schema_of (one_command words (as_command c) (as_command d) h k) ∙ schema-of d.schema d.policies d.task

pub same_policies : (words : List (List ℕ)) (c d : Command) → Serves words c → Serves words d → c.policies ≡ d.policies
same_policies words c d h k =
    sym (policies-of c.schema c.policies c.task) ∙ ap policies_of (one_command words (as_command c) (as_command d) h k) ∙ policies-of d.schema d.policies d.task

pub same_task : (words : List (List ℕ)) (c d : Command) → Serves words c → Serves words d → c.task ≡ d.task
same_task words c d h k =
    sym (task-of c.schema c.policies c.task) ∙ ap task_of (one_command words (as_command c) (as_command d) h k) ∙ task-of d.schema d.policies d.task

-- ---- policies that are generated

abbrev size_of : AnyCommand → ℕ
size_of (generate g) = g.size
size_of _ = 0

-- words ask for one number of policies
pub one_size : (words : List (List ℕ)) (m n : ℕ) → Generates words m → Generates words n → m ≡ n
one_size words m n h k = ap size_of (one_command words (generate (record { size = m })) (generate (record { size = n })) h k)

-- and for no more than there may be
pub size_within : (words : List (List ℕ)) (n : ℕ) → Generates words n → n ≤ 1000
size_within words n h = h.reads.2.size_given.spelled.most

abbrev is_generating : AnyCommand → Bool
is_generating (generate g) = true
is_generating _ = false

on-files : (schema policies : List ℕ) (t : Task) → is_generating (command_for schema policies t) ≡ false
on-files schema policies (asking question against (reporting budget)) = refl
on-files schema policies (asking question against (logging budget place)) = refl
on-files schema policies (asking question against (checking place log)) = refl
on-files schema policies (asking question against (reducing budget)) = refl
on-files schema policies (replaying world) = refl

-- a command on files generates none
pub not_generated : (words : List (List ℕ)) (c : Command) (n : ℕ) → Serves words c → Generates words n → ⊥
not_generated words c n h k =
    true≢false (sym (ap is_generating (one_command words (as_command c) (generate (record { size = n })) h k)) ∙ on-files c.schema c.policies c.task)

-- ---- tasks

abbrev world_of : Task → List ℕ
world_of (asking question against aim) = []
world_of (replaying world) = world

abbrev asks : Task → Bool
asks (asking question against aim) = true
asks (replaying world) = false

pub not_both_tasks : (t : Task) (question : Question) (against : Option (List ℕ)) (aim : Aim) (name : List ℕ) → t ≡ asking question against aim → t ≡ replaying name → ⊥
not_both_tasks t question against aim name e f = true≢false (ap asks (sym e ∙ f))

pub one_world_file : (t : Task) (a b : List ℕ) → t ≡ replaying a → t ≡ replaying b → a ≡ b
one_world_file t a b e f = ap world_of (sym e ∙ f)

units-of-task : (words : List (List ℕ)) (schema policies : List ℕ) (t : Task) → Commands words (command_for schema policies t) → MayWork t
units-of-task words schema policies (asking question against (reporting budget)) h = h.reads.2.budget_given.spelled.least
units-of-task words schema policies (asking question against (logging budget place)) h = h.reads.2.budget_given.spelled.least
units-of-task words schema policies (asking question against (checking place log)) h = tt
units-of-task words schema policies (asking question against (reducing budget)) h = h.reads.2.budget_given.spelled.least
units-of-task words schema policies (replaying world) h = tt

-- a budget that words give is one unit at least
pub units_of : (words : List (List ℕ)) (c : Command) → Serves words c → MayWork c.task
units_of words c h = units-of-task words c.schema c.policies c.task h

sets-of-task : (words : List (List ℕ)) (schema policies : List ℕ) (t : Task) → Commands words (command_for schema policies t) → HasSets t
sets-of-task words schema policies (asking question against (reporting budget)) h = h.reads.2.asked_given.second_set
sets-of-task words schema policies (asking question against (logging budget place)) h = h.reads.2.asked_given.second_set
sets-of-task words schema policies (asking question against (checking place log)) h = h.reads.2.asked_given.second_set
sets-of-task words schema policies (asking question against (reducing budget)) h = ap is_some h.reads.2.no_second_set
sets-of-task words schema policies (replaying world) h = tt

-- words name a second file exactly where their question takes two sets, unless the first is to be reduced
pub sets_of : (words : List (List ℕ)) (c : Command) → Serves words c → HasSets c.task
sets_of words c h = sets-of-task words c.schema c.policies c.task h

-- ---- what a question is asked of

abbrev question_of : Task → Question
question_of (asking question against aim) = question
question_of (replaying world) = AlwaysDenies

abbrev name_of : Task → Option (List ℕ)
name_of (asking question against aim) = against
name_of (replaying world) = None

abbrev aim_of : Task → Aim
aim_of (asking question against aim) = aim
aim_of (replaying world) = reporting 0

-- two readings of one task as a question are one
pub one_question : (t : Task) (p q : Question) (m n : Option (List ℕ)) (a b : Aim) → t ≡ asking p m a → t ≡ asking q n b → (p ≡ q) × (m ≡ n) × (a ≡ b)
one_question t p q m n a b e f = (sym (ap question_of e) ∙ ap question_of f, sym (ap name_of e) ∙ ap name_of f, sym (ap aim_of e) ∙ ap aim_of f)
