mod ClauseLaws
mod BitLaws
mod ScriptLaws
mod Examples
mod SumLaws
