-- What private clauses speak of: the fields of a record by the numbers of their values.
use Rattle.std.specs.Prelude.{List, [], fold}
use Rattle.std.specs.BTreeMap.{insert_entry}
use Rattle.sc_names.specs.Uids.{text_cmp}
use Rattle.sc_terms.specs.Tables.{Places}
use Rattle.sc_constructs.specs.Numbers.{OptField}

-- in the order of names; of two fields of one name the last stays
abbrev pub with_number : Places → OptField → Places
with_number parts f = insert_entry text_cmp parts f.0 f.1.val

abbrev pub numbers_in_order : List OptField → Places
numbers_in_order fs = fold with_number [] fs
