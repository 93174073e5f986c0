-- The definitions: what a text of a script says, and what is kept of its inputs.
pub mod Inputs
pub mod Grammar
-- What the contracts of private functions speak of; no clause of a public call does.
pub mod Shown
