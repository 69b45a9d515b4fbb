mod TurningLaws
pub mod OneOrderLaws
