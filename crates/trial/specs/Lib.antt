pub mod Divisors
pub mod Table
pub mod Primes
pub mod Walk
pub mod Runs
pub mod Beside
