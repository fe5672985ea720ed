pub mod Fit
pub mod Stimuli
pub mod Core
pub mod Stopping
-- only contracts of private functions cite these
pub mod Idle
pub mod Held
pub mod Goes
pub mod Balls
pub mod RareActions
