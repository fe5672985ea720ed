pub mod LineText
pub mod Pages
-- only contracts of private functions cite these
pub mod LineTails
