pub mod Queue
pub mod Calls
pub mod Handlers
pub mod PlanOrder
pub mod Alarms
-- only contracts of private functions cite these
pub mod OrderedLists
