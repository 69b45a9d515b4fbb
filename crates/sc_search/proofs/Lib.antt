mod DueLaws
mod GivenLaws
mod SearchLaws
mod CopyLaws
