pub mod Certificate
pub mod Fits
pub mod RoundTrip
