pub mod CandidateSum
