-- Why reading the files of a command ends, and what it gives.
use Rattle.std.proofs.Common.{◌≡◌, ℕ, List, Option, Some, None, Result, Ok, Err, IfOk, IfErr, OnOk, is_some, refl, sym, subst, ◌∙◌}
use Rattle.std.proofs.Math.Path.{fun_ext}
use Rattle.sc_lists.specs.declared.fault.Fault.{Fault}
use Rattle.sc_lists.specs.declared.fault.Fault.TheVariants.{Told, NoMemory}
use Rattle.sc_ast.specs.declared.policy.Policy.{Policy}
use Rattle.sc_parser.specs.Spelling.{Spells}
use Rattle.sc_question.specs.declared.question.Question.{Question}
use Rattle.sc_schema.specs.Declarations.{Declarations}
use Rattle.sc_world.specs.declared.world.World.{World}
use Rattle.sc_world_json.specs.Reading.{SpellsWorld}
use Rattle.sc_typing.specs.Names.{name_fault}
use Rattle.sc_inputs.specs.Serving.{Aim, Command, Serves, HasSets, MayWork, asking, checking, logging, reducing, replaying, reporting}
use Rattle.sc_inputs.proofs.ServingLaws.{units_of, sets_of}
use Rattle.sc_inputs.specs.Readings.{FailsWith, Checks, IsNoSchema, IsNoPolicies, IsNoWorld, ReadsRest, ReadsInputs, IsRead, RefusesSets, by_first, by_against, ReadsAll, ReadsAsking, RefusesAsking, by_files, by_place, by_question, RefusesScene, by_policies, by_world, by_names}
use Rattle.sc_inputs.specs.Refusals as spec
use Rattle.sc_inputs.specs.Refusals.{Content, File, Side, policies_side, against_side, IsRefusal, no_command, of_schema, of_policies, of_against, of_world, of_log, of_names, of_place, of_question, IsContent, ReadsSchema, HasPolicies, HasAgainst, HasWorld, HasEnvironment, AreServed, RefusesFile, unread, long, RefusesSchema, schema_unread, schema_faulty, RefusesPolicies, policies_unread, policies_faulty, RefusesLog, log_long, log_unread, RefusesWorld, world_unread, world_faulty, schema_file, policy_file, world_file}
use Rattle.sc_inputs.specs.View.{refusal_view}
use Rattle.sc_inputs.specs.declared.inputs.Asking.{Asking}
use Rattle.sc_inputs.specs.declared.inputs.Inputs.{Inputs}
use Rattle.sc_inputs.specs.declared.inputs.Inputs.TheVariants.{Asked, Checked, Generated, Logged, Reduced, Replayed}
use Rattle.sc_inputs.specs.declared.refusal.Refusal.{Refusal}

-- ---- one file

-- what is so of each refusal is so of what a call was refused with
pub fails_so : (P Q : spec.Refusal → Type 0) → ((a : spec.Refusal) → P a → Q a) → (f : Fault Refusal) → FailsWith P f → FailsWith Q f
fails_so P Q so (Told r) h = so (refusal_view r) h
fails_so P Q so NoMemory h = tt

pub schema_so : (content : Content) (c : Command) (failed : List ℕ → Type 0) (bytes : List ℕ) → IsContent content c.schema bytes → (a : spec.Refusal) → IsNoSchema bytes a → RefusesSchema content c failed a
schema_so content c failed bytes told a h = subst (RefusesSchema content c failed) (sym h.1) (schema_faulty h.0 bytes told h.2)

pub policies_so : (content : Content) (name : List ℕ) (side : Side) (failed : List ℕ → Type 0) (bytes : List ℕ) → IsContent content name bytes → (a : spec.Refusal) → IsNoPolicies bytes side a → RefusesPolicies content name side failed a
policies_so content name side failed bytes told a h = subst (RefusesPolicies content name side failed) (sym h.1) (policies_faulty h.0 bytes told h.2)

pub world_so : (content : Content) (name : List ℕ) (failed : List ℕ → Type 0) (bytes : List ℕ) → IsContent content name bytes → (a : spec.Refusal) → IsNoWorld bytes a → RefusesWorld content name failed a
world_so content name failed bytes told a h = subst (RefusesWorld content name failed) (sym h.1) (world_faulty h.0 bytes told h.2)

-- ---- a call that failed later failed

module _ {risen failed : List ℕ → Type 0} (since : (file : List ℕ) → risen file → failed file) where
  pub file_rises : (content : Content) (name : List ℕ) (file : File) (a : spec.Refusal) → RefusesFile content name risen file a → RefusesFile content name failed file a
  file_rises content name file _ (unread h) = unread (since name h)
  file_rises content name file _ (long h) = long h

  pub schema_rises : (content : Content) (c : Command) (a : spec.Refusal) → RefusesSchema content c risen a → RefusesSchema content c failed a
  schema_rises content c _ (schema_unread a h) = schema_unread a (file_rises content c.schema schema_file a h)
  schema_rises content c _ (schema_faulty f bytes told h) = schema_faulty f bytes told h

  pub policies_rise : (content : Content) (name : List ℕ) (side : Side) (a : spec.Refusal) → RefusesPolicies content name side risen a → RefusesPolicies content name side failed a
  policies_rise content name side _ (policies_unread a h) = policies_unread a (file_rises content name (policy_file side) a h)
  policies_rise content name side _ (policies_faulty f bytes told h) = policies_faulty f bytes told h

  pub sets_rise : (content : Content) (policies : List ℕ) (against : Option (List ℕ)) (a : spec.Refusal) → RefusesSets content policies against risen a → RefusesSets content policies against failed a
  sets_rise content policies against _ (by_first a h) = by_first a (policies_rise content policies policies_side a h)
  sets_rise content policies against _ (by_against a first name has is h) = by_against a first name has is (policies_rise content name against_side a h)

  pub asking_rises : (content : Content) (policies : List ℕ) (against : Option (List ℕ)) (aim : Aim) (s : Declarations) (a : spec.Refusal) → RefusesAsking content policies against aim risen s a → RefusesAsking content policies against aim failed s a
  asking_rises content policies against aim s _ (by_files a h) = by_files a (sets_rise content policies against a h)
  asking_rises content policies against aim s _ (by_question a first second has others h) = by_question a first second has others h
  asking_rises content policies against aim s _ (by_place a first second has others served h) = by_place a first second has others served h

  pub log_rises : (content : Content) (name : List ℕ) (a : spec.Refusal) → RefusesLog content name risen a → RefusesLog content name failed a
  log_rises content name _ (log_unread h) = log_unread (since name h)
  log_rises content name _ (log_long h) = log_long h

  pub world_rises : (content : Content) (name : List ℕ) (a : spec.Refusal) → RefusesWorld content name risen a → RefusesWorld content name failed a
  world_rises content name _ (world_unread a h) = world_unread a (file_rises content name world_file a h)
  world_rises content name _ (world_faulty f bytes told h) = world_faulty f bytes told h

  pub scene_rises : (content : Content) (policies name : List ℕ) (s : Declarations) (a : spec.Refusal) → RefusesScene content policies name risen s a → RefusesScene content policies name failed s a
  scene_rises content policies name s _ (by_policies a h) = by_policies a (policies_rise content policies policies_side a h)
  scene_rises content policies name s _ (by_world a ps has h) = by_world a ps has (world_rises content name a h)
  scene_rises content policies name s _ (by_names f ps w has holds is) = by_names f ps w has holds is

  pub refusal_rises : (content : Content) (words : List (List ℕ)) (a : spec.Refusal) → IsRefusal content words risen a → IsRefusal content words failed a
  refusal_rises content words _ (no_command none) = no_command none
  refusal_rises content words _ (of_schema a c h i) = of_schema a c h (schema_rises content c a i)
  refusal_rises content words _ (of_policies a c s h reads i) = of_policies a c s h reads (policies_rise content c.policies policies_side a i)
  refusal_rises content words _ (of_against a c s question name aim first h task reads has i) = of_against a c s question name aim first h task reads has (policies_rise content name against_side a i)
  refusal_rises content words _ (of_world a s ps name reaches i) = of_world a s ps name reaches (world_rises content name a i)
  refusal_rises content words _ (of_names f s ps name w reaches has is) = of_names f s ps name w reaches has is
  refusal_rises content words _ (of_question a s question first against aim reaches h) = of_question a s question first against aim reaches h
  refusal_rises content words _ (of_place a s question first against aim reaches served h) = of_place a s question first against aim reaches served h
  refusal_rises content words _ (of_log a s question first against place name reaches h) = of_log a s question first against place name reaches (log_rises content name a h)

-- ---- what reading a file gives, call by call

pub has_policies : (content : Content) (name bytes : List ℕ) → IsContent content name bytes → (r : Result (List Policy) (Fault Refusal)) → IfOk r (λ ps. Spells bytes ps) → IfOk r (λ ps. HasPolicies content name ps)
has_policies content name bytes is (Ok ps) h = record { bytes = bytes; told = is; spelled = h }
has_policies content name bytes is (Err f) h = tt

pub has_world : (content : Content) (name bytes : List ℕ) → IsContent content name bytes → (r : Result World (Fault Refusal)) → IfOk r (SpellsWorld bytes) → IfOk r (HasWorld content name)
has_world content name bytes is (Ok w) h = record { bytes = bytes; told = is; spelled = h }
has_world content name bytes is (Err f) h = tt

pub result_fails : {T : Type 0} (P Q : spec.Refusal → Type 0) → ((a : spec.Refusal) → P a → Q a) → (r : Result T (Fault Refusal)) → IfErr r (FailsWith P) → IfErr r (FailsWith Q)
result_fails P Q so (Ok x) h = tt
result_fails P Q so (Err f) h = fails_so P Q so f h

pub policies_fail : (content : Content) (name bytes : List ℕ) (side : Side) (failed : List ℕ → Type 0) → IsContent content name bytes → (r : Result (List Policy) (Fault Refusal)) → IfErr r (FailsWith (IsNoPolicies bytes side))
    → IfErr r (FailsWith (RefusesPolicies content name side failed))
policies_fail content name bytes side failed is r h = result_fails (IsNoPolicies bytes side) (RefusesPolicies content name side failed) (policies_so content name side failed bytes is) r h

-- ---- the policy sets of a question

-- the files were read in another state, which holds the same
pub policies_later : (content mid : Content) (name : List ℕ) (ps : List Policy) → ((file : List ℕ) → mid file ≡ content file) → HasPolicies mid name ps → HasPolicies content name ps
policies_later content mid name ps same h = subst (λ (told : Content). HasPolicies told name ps) (fun_ext same) h

pub against_later : (content mid : Content) (name : Option (List ℕ)) (o : Option (List Policy)) → ((file : List ℕ) → mid file ≡ content file) → HasAgainst mid name o → HasAgainst content name o
against_later content mid name o same h = subst (λ (told : Content). HasAgainst told name o) (fun_ext same) h

pub sets_later : (content mid : Content) (policies : List ℕ) (against : Option (List ℕ)) (risen failed : List ℕ → Type 0) (ps : List Policy) → ((file : List ℕ) → mid file ≡ content file) → ((file : List ℕ) → risen file → failed file) → HasPolicies content policies ps
    → (f : Fault Refusal) → ((file : List ℕ) (qs : List Policy) → HasPolicies mid file qs → FailsWith (RefusesSets mid file against risen) f) → FailsWith (RefusesSets content policies against failed) f
sets_later content mid policies against risen failed ps same since has f h =
    let there = subst (λ (told : Content). HasPolicies told policies ps) (sym (fun_ext same)) has in
    let here = subst (λ (told : Content). FailsWith (RefusesSets told policies against risen) f) (fun_ext same) (h policies ps there) in
    fails_so (RefusesSets content policies against risen) (RefusesSets content policies against failed) (sets_rise since content policies against) f here

-- ---- the policies and the world of a replay

pub names_so : (content : Content) (policies name : List ℕ) (failed : List ℕ → Type 0) (s : Declarations) (ps : List Policy) (w : World) → HasPolicies content policies ps → HasWorld content name w
    → (r : Result (Unit {0}) (Fault Refusal)) → Checks (name_fault s ps) (spec.unknown_name policies_side) r → IfErr r (FailsWith (RefusesScene content policies name failed s))
names_so content policies name failed s ps w has holds (Ok x) h = tt
names_so content policies name failed s ps w has holds (Err (Told r)) h = subst (RefusesScene content policies name failed s) (sym h.2) (by_names h.0 ps w has holds h.1)
names_so content policies name failed s ps w has holds (Err NoMemory) h = tt

pub names_none : (s : Declarations) (ps : List Policy) (r : Result (Unit {0}) (Fault Refusal)) → Checks (name_fault s ps) (spec.unknown_name policies_side) r → OnOk r (name_fault s ps ≡ None)
names_none s ps (Ok x) h = h
names_none s ps (Err f) h = tt

-- the files were read in another state, which holds the same
pub scene_later : (content mid : Content) (policies name : List ℕ) (risen failed : List ℕ → Type 0) (s : Declarations) (ps : List Policy) → ((file : List ℕ) → mid file ≡ content file) → ((file : List ℕ) → risen file → failed file) → HasPolicies content policies ps
    → (f : Fault Refusal) → ((file : List ℕ) → HasPolicies mid file ps → FailsWith (RefusesScene mid file name risen s) f) → FailsWith (RefusesScene content policies name failed s) f
scene_later content mid policies name risen failed s ps same since has f h =
    let there = subst (λ (told : Content). HasPolicies told policies ps) (sym (fun_ext same)) has in
    let here = subst (λ (told : Content). FailsWith (RefusesScene told policies name risen s) f) (fun_ext same) (h policies there) in
    fails_so (RefusesScene content policies name risen s) (RefusesScene content policies name failed s) (scene_rises since content policies name s) f here

pub world_later : (content mid : Content) (name : List ℕ) (w : World) → ((file : List ℕ) → mid file ≡ content file) → HasWorld mid name w → HasWorld content name w
world_later content mid name w same h = subst (λ (told : Content). HasWorld told name w) (fun_ext same) h

-- ---- a command, where the schema is read

sets_refused : (content : Content) (words : List (List ℕ)) (c : Command) (question : Question) (name : Option (List ℕ)) (aim : Aim) (failed : List ℕ → Type 0) (s : Declarations) → c.task ≡ asking question name aim → Serves words c → ReadsSchema content c s
    → (a : spec.Refusal) → RefusesSets content c.policies name failed a → IsRefusal content words failed a
sets_refused content words c question name aim failed s task serves reads _ (by_first a h) = of_policies a c s serves reads h
sets_refused content words c question name aim failed s task serves reads _ (by_against a first other has is h) =
    of_against a c s question other aim first serves (subst (λ (o : Option (List ℕ)). c.task ≡ asking question o aim) is task) reads has h

pub asking_refused : (content : Content) (words : List (List ℕ)) (c : Command) (question : Question) (name : Option (List ℕ)) (aim : Aim) (failed : List ℕ → Type 0) (s : Declarations) → c.task ≡ asking question name aim → Serves words c → ReadsSchema content c s
    → (a : spec.Refusal) → RefusesAsking content c.policies name aim failed s a → IsRefusal content words failed a
asking_refused content words c question name aim failed s task serves reads _ (by_files a h) = sets_refused content words c question name aim failed s task serves reads a h
asking_refused content words c question name aim failed s task serves reads _ (by_question a first second has others h) =
    of_question a s question first second aim (record { command = c; commands = serves; name = name; task = task; schema = reads; policies = has; others = others }) h
asking_refused content words c question name aim failed s task serves reads _ (by_place a first second has others served h) =
    of_place a s question first second aim (record { command = c; commands = serves; name = name; task = task; schema = reads; policies = has; others = others }) served h

pub scene_refused : (content : Content) (words : List (List ℕ)) (c : Command) (name : List ℕ) (failed : List ℕ → Type 0) (s : Declarations) → c.task ≡ replaying name → Serves words c → ReadsSchema content c s
    → (a : spec.Refusal) → RefusesScene content c.policies name failed s a → IsRefusal content words failed a
scene_refused content words c name failed s task serves reads _ (by_policies a h) = of_policies a c s serves reads h
scene_refused content words c name failed s task serves reads _ (by_world a ps has h) =
    of_world a s ps name (record { command = c; commands = serves; task = task; schema = reads; policies = has }) h
scene_refused content words c name failed s task serves reads _ (by_names f ps w has holds is) =
    of_names f s ps name w (record { command = c; commands = serves; task = task; schema = reads; policies = has }) holds is

-- ---- a command

-- what is read after the schema file
pub rest_later : (content mid : Content) (c : Command) (s : Declarations) (i : Inputs) → ((file : List ℕ) → mid file ≡ content file) → ReadsRest mid c s i → ReadsRest content c s i
rest_later content mid c s i same h = subst (λ (told : Content). ReadsRest told c s i) (fun_ext same) h

pub inputs_later : (content mid : Content) (c : Command) (s : Declarations) → ((file : List ℕ) → mid file ≡ content file) → ReadsSchema content c s
    → (r : Result Inputs (Fault Refusal)) → IfOk r (ReadsRest mid c s) → IfOk r (ReadsInputs content c)
inputs_later content mid c s same reads (Ok i) h = record { declared = s; schema = reads; rest = rest_later content mid c s i same h }
inputs_later content mid c s same reads (Err f) h = tt

pub rest_fails : (content mid : Content) (c : Command) (risen failed : List ℕ → Type 0) (s : Declarations) → ((file : List ℕ) → mid file ≡ content file) → ((file : List ℕ) → risen file → failed file) → ReadsSchema content c s
    → (r : Result Inputs (Fault Refusal)) → IfErr r (λ fault. (words : List (List ℕ)) → Serves words c → ReadsSchema mid c s → FailsWith (IsRefusal mid words risen) fault)
    → IfErr r (λ fault. (words : List (List ℕ)) → Serves words c → FailsWith (IsRefusal content words failed) fault)
rest_fails content mid c risen failed s same since reads (Ok i) h = tt
rest_fails content mid c risen failed s same since reads (Err f) h =
    λ words serves.
    let there = subst (λ (told : Content). ReadsSchema told c s) (sym (fun_ext same)) reads in
    let here = subst (λ (told : Content). FailsWith (IsRefusal told words risen) f) (fun_ext same) (h words serves there) in
    fails_so (IsRefusal content words risen) (IsRefusal content words failed) (refusal_rises since content words) f here

-- ---- the words of a command

pub schema_at : (content : Content) (c : Command) (s d : Declarations) → s ≡ d → ReadsSchema content c d → ReadsSchema content c s
schema_at content c s d e h = subst (ReadsSchema content c) (sym e) h

some-where-read : (content : Content) (name : Option (List ℕ)) (o : Option (List Policy)) → HasAgainst content name o → is_some name ≡ is_some o
some-where-read content None None h = refl
some-where-read content None (Some ps) h = absurd h
some-where-read content (Some n) None h = absurd h
some-where-read content (Some n) (Some ps) h = refl

asked-read : (content : Content) (words : List (List ℕ)) (c : Command) (s : Declarations) (aim : Aim) (i : Asking) → Serves words c → ReadsSchema content c s → ReadsAsking content c s aim i → ReadsAll content words i.schema i.question i.policies i.against aim
asked-read content words c s aim i serves reads h = record {
  reached = record {
    reaches = record {
      command = c;
      commands = serves;
      name = h.name;
      task = h.task;
      schema = schema_at content c i.schema s h.schema reads;
      policies = h.policies_read;
      others = h.others_read;
    };
    served = subst (λ d. AreServed d i.policies i.against) (sym h.schema) h.served;
    environment = subst (λ d. HasEnvironment d aim) (sym h.schema) h.environment;
  };
  units = subst MayWork h.task (units_of words c serves);
  sets = sym (some-where-read content h.name i.against h.others_read) ∙ subst HasSets h.task (sets_of words c serves);
}

words-read-one : (content : Content) (words : List (List ℕ)) (c : Command) (s : Declarations) (i : Inputs) → Serves words c → ReadsSchema content c s → ReadsRest content c s i → IsRead content words i
words-read-one content words c s (Asked i) serves reads h = asked-read content words c s (reporting i.budget) i.asking serves reads h
words-read-one content words c s (Logged i) serves reads h = asked-read content words c s (logging i.analysis.budget i.environment) i.analysis.asking serves reads h
words-read-one content words c s (Checked i) serves reads h = asked-read content words c s (checking i.environment i.log.now) i.asking serves reads h
words-read-one content words c s (Reduced i) serves reads h = asked-read content words c s (reducing i.budget) i.asking serves reads h
words-read-one content words c s (Generated size) serves reads h = absurd h
words-read-one content words c s (Replayed x) serves reads h = record {
  name = h.0;
  reaches = record { command = c; commands = serves; task = h.1; schema = schema_at content c x.schema s h.2.schema reads; policies = h.2.policies_read };
  spelled = h.2.world;
  declared = subst (λ d. name_fault d x.policies ≡ None) (sym h.2.schema) h.2.names;
}

pub words_read : (content : Content) (words : List (List ℕ)) (c : Command) → Serves words c → (r : Result Inputs (Fault Refusal)) → IfOk r (ReadsInputs content c) → IfOk r (IsRead content words)
words_read content words c serves (Ok i) h = words-read-one content words c h.declared i serves h.schema h.rest
words_read content words c serves (Err f) h = tt

pub words_fail : (content : Content) (words : List (List ℕ)) (c : Command) (failed : List ℕ → Type 0) → Serves words c → (r : Result Inputs (Fault Refusal))
    → IfErr r (λ fault. (words : List (List ℕ)) → Serves words c → FailsWith (IsRefusal content words failed) fault) → IfErr r (FailsWith (IsRefusal content words failed))
words_fail content words c failed serves (Ok i) h = tt
words_fail content words c failed serves (Err f) h = h words serves
