pub mod Stops
pub mod BodyLines
pub mod HeadingLines
pub mod Placements
pub mod DueCycles
pub mod CyclesDue
pub mod LawfulForms
pub mod UnprintedKinds
