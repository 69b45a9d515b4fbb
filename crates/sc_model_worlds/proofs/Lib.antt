mod FoldLaws
mod OrderLaws
mod ValueLaws
mod SaidLaws
mod GivenLaws
mod RequestLaws
mod TellingLaws
