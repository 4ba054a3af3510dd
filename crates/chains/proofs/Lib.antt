-- The proofs of `Theorems`, in the order of the argument: lists of sheets, and the values that their composite has; what has to hold of each pair that the
-- brackets compose, and what follows of the sheets; that it holds where the calls have written something; which question has failed where one is refused.
pub mod Lists
pub mod Pairs
pub mod Calls
pub mod Numbers
pub mod Theorems
pub mod Three
