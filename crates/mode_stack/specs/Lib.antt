pub mod ModeStep
pub mod Modes
