pub mod JudgedMachines
pub mod RunTexts
