-- Where in a file a fault stands: a JSON pointer (RFC 6901).
use Rattle.std.specs.Prelude.{ℕ, List}
use Rattle.sc_json.specs.Pointers.{below}
use Rattle.sc_schema_syntax.specs.declared.fault.SchemaFault.{SchemaFault}
use Rattle.sc_schema_syntax.specs.declared.fault.SchemaFault.TheVariants.{NotJson, BadShape, BadName, UnknownType, UnknownAction, TypeCycle, ActionCycle, NotRecord, TypeTooLarge, TooManyEnvironments}

-- the fault of a value, as one of the value whose member it is
abbrev pub under : List ℕ → SchemaFault → SchemaFault
under key NotJson = NotJson
under key (BadShape path) = BadShape (below key path)
under key (BadName path) = BadName (below key path)
under key (UnknownType path) = UnknownType (below key path)
under key (UnknownAction path) = UnknownAction (below key path)
under key (TypeCycle name) = TypeCycle name
under key (ActionCycle uid) = ActionCycle uid
under key (NotRecord path) = NotRecord (below key path)
under key (TypeTooLarge path) = TypeTooLarge (below key path)
under key TooManyEnvironments = TooManyEnvironments
