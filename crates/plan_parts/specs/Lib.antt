pub mod Effects
pub mod Devices
pub mod SaveEntries
pub mod DeviceEntries
pub mod CoilEntries
pub mod ShotEntries
pub mod BallEntries
pub mod VariableEntries
pub mod Parts
-- what the fields of the program's values hold, and the walk over the rows
pub mod View
pub mod Lists
pub mod RowViews
-- only contracts of private functions cite these
pub mod Gives
-- for proofs only: what parts do with switches and coils, what they give, and what holds of their balls, of their names
-- and of all else
pub mod Doing
pub mod PartKinds
pub mod PartBalls
pub mod PartNames
pub mod PartBounds
