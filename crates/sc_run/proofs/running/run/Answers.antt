use Rattle.sc_run.proofs.StatusLaws.{all-well, all-hold, well-formed, some-fails, some-left, set-is-reduced, generated-held, generated-is-open, generated-status, logged, is-broken, no-command, is-faulty-schema, is-faulty, is-faulty-world, is-untyped, write-rose, is-too-long, is-misplaced, is-rejected, log-is-accepted, log-is-written, is-unread}
use Rattle.sc_run.proofs.DeterminedLaws.{complete, complete-replay, unusable, schema-is-long, schema-is-faulty, policies-are-long, against-is-long, against-is-faulty, policies-are-faulty, world-is-long, world-is-faulty, names-are-unknown, policies-are-untyped, place-is-missing, log-is-long, right-log, wrong-log}
use Rattle.sc_run.proofs.GenerationLaws.{never_violated}
use Rattle.sc_run.proofs.running.run.Goals as goal

pub returns : goal.returns
returns g c = record {
  ends = c.ends.ensures.ends;
  holds = all-well _ _ c.break_laws.ensures.nowhere c.reading_laws.ensures.stored c.ends.ensures.ends;
  always = λ x e. all-hold _ _ c.break_laws.ensures.nowhere c.reading_laws.ensures.stored c.ends.ensures.ends x e;
  well_formed = λ x e. well-formed _ _ c.break_laws.ensures.nowhere c.reading_laws.ensures.stored c.ends.ensures.ends x e;
  written = λ x e. log-is-written _ _ c.break_laws.ensures.nowhere c.reading_laws.ensures.stored c.ends.ensures.ends x e;
  accepted = λ x e. log-is-accepted _ _ c.break_laws.ensures.nowhere c.reading_laws.ensures.stored c.ends.ensures.ends x e;
  rejected = is-rejected _ _ c.ends.ensures.ends;
  right = λ x f h. right-log _ _ c.spelling_laws.ensures c.verdict_law.ensures c.ends.ensures.ends x f h;
  wrong = λ x f h. wrong-log _ _ c.spelling_laws.ensures c.ends.ensures.ends x f h;
  counterexample = some-fails _ _ (never_violated c.generated_laws.ensures.forward c.generated_laws.ensures.backward c.generated_decision_laws.ensures) c.ends.ensures.ends;
  undecided = some-left _ _ c.ends.ensures.ends;
  reduced = λ x e. set-is-reduced _ _ c.ends.ensures.ends x e;
  generated = λ x e. generated-held _ _ c.ends.ensures.ends x e;
  generated_open = λ x e. generated-is-open _ _ c.ends.ensures.ends x e;
  generated_status = λ x. generated-status _ _ (never_violated c.generated_laws.ensures.forward c.generated_laws.ensures.backward c.generated_decision_laws.ensures) c.ends.ensures.ends x;
  spent = logged _ _ c.ends.ensures.ends;
  replayed = is-broken _ _ c.ends.ensures.ends;
  complete = λ x f h. complete _ _ c.spelling_laws.ensures c.ends.ensures.ends x f h;
  complete_replay = λ x f h. complete-replay _ _ c.spelling_laws.ensures c.reading_laws.ensures.settled c.ends.ensures.ends x f h;
  unusable = λ x. unusable _ _ c.ends.ensures.ends x;
  usage = no-command _ _ c.ends.ensures.ends;
  schema_is_long = λ x f. schema-is-long _ _ c.ends.ensures.ends x f;
  schema_is_faulty = λ x f. schema-is-faulty _ _ c.ends.ensures.ends x f;
  policies_are_long = λ x f. policies-are-long _ _ c.spelling_laws.ensures c.ends.ensures.ends x f;
  policies_are_faulty = λ x f. policies-are-faulty _ _ c.spelling_laws.ensures c.ends.ensures.ends x f;
  against_is_long = λ x f. against-is-long _ _ c.spelling_laws.ensures c.ends.ensures.ends x f;
  against_is_faulty = λ x f. against-is-faulty _ _ c.spelling_laws.ensures c.ends.ensures.ends x f;
  world_is_long = λ x f. world-is-long _ _ c.spelling_laws.ensures c.ends.ensures.ends x f;
  world_is_faulty = λ x f. world-is-faulty _ _ c.spelling_laws.ensures c.ends.ensures.ends x f;
  names_are_unknown = λ x f. names-are-unknown _ _ c.spelling_laws.ensures c.reading_laws.ensures.settled c.ends.ensures.ends x f;
  policies_are_untyped = λ x f. policies-are-untyped _ _ c.spelling_laws.ensures c.ends.ensures.ends x f;
  place_is_missing = λ x f. place-is-missing _ _ c.spelling_laws.ensures c.ends.ensures.ends x f;
  log_is_long = λ x f. log-is-long _ _ c.spelling_laws.ensures c.ends.ensures.ends x f;
  read_told = c.ends.ensures.read_told;
  write_told = c.ends.ensures.write_told;
  policy_fault = is-faulty _ _ c.ends.ensures.ends;
  schema_fault = is-faulty-schema _ _ c.ends.ensures.ends;
  untyped = is-untyped _ _ c.ends.ensures.ends;
  misplaced = is-misplaced _ _ c.ends.ensures.ends;
  world_fault = is-faulty-world _ _ c.ends.ensures.ends;
  read_fault = is-unread _ _ c.ends.ensures.ends;
  write_fault = write-rose _ _ c.ends.ensures.ends;
  too_long = is-too-long _ _ c.ends.ensures.ends;
}
