-- A file spells just one schema or has just one fault, and not both.
use Rattle.std.proofs.Common.{ℕ, List}
use Rattle.sc_json.proofs.TreesLaws.{one_value, one_fault, not_both, either}
use Rattle.sc_schema_syntax.specs.declared.fault.SchemaFault.TheVariants.{NotJson}
use Rattle.sc_schema_syntax.specs.Faults.{first_fault}
use Rattle.sc_schema_syntax.specs.Written.{schema_of}
use Rattle.sc_schema_syntax.specs.Syntax.{IsSettled}

pub settled : (bytes : List ℕ) → IsSettled bytes
settled bytes =
    record {
      one_schema = one_value first_fault schema_of bytes;
      one_fault = one_fault NotJson first_fault bytes;
      not_both = not_both NotJson first_fault schema_of bytes;
      either = either NotJson first_fault schema_of bytes;
    }
