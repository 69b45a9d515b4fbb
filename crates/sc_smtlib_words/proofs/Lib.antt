mod FrontLaws
mod WordLaws
mod CharacterLaws
