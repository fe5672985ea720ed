pub mod SwitchStep
pub mod Switches
pub mod StateView
pub mod PendingSwitches
pub mod AcceptedLevel
pub mod Calls
