pub mod Entry
pub mod Numbers
pub mod Unique
pub mod CertificateBytes
