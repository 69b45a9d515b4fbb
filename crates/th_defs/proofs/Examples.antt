-- Places of clauses and literals at small cases.
use Rattle.std.proofs.Common.{◌≡◌, true, false, [], get_or, refl}
use Rattle.sc_term_definitions.specs.Functions.{rows}
use Rattle.th_defs.specs.Items.{later_bit}

-- row 5 of three inputs is 101
row_five : get_or (get_or (rows 3) 5 []) 1 false ≡ false
unfolding rows
row_five = refl

row_five_first : get_or (get_or (rows 3) 5 []) 0 false ≡ true
unfolding rows
row_five_first = refl

-- of the clauses on short addresses the fourth is on bit 33 of the address
later : later_bit 3 ≡ 162
later = refl
