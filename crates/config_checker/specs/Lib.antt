pub mod CertificateText
pub mod CertificateOf
pub mod FaultView
pub mod Checking
pub mod View
pub mod Refused
pub mod OfConfig
pub mod ReadAgain
pub mod ReportText
-- only contracts of private functions cite these, and proofs
pub mod CertificateRead
pub mod Certified
