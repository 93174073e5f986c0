-- The definitions: what a source is assembled to, and that printed text is a source.
pub mod Layout
pub mod Assembly
pub mod PrintedSource
-- What the contracts of private functions speak of; no clause of a public call does.
pub mod Shown
pub mod LabelsOf
pub mod PassesOf
pub mod StatementsOf
pub mod Reaches
