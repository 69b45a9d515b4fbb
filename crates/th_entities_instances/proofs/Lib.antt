mod AlikeLaws
mod PlaceLaws
mod GivenLaws
mod RowLaws
mod AbsentLaws
mod TagLaws
mod EntityLaws
mod DeclaredLaws
