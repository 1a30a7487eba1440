-- The ledger machine (a term of document 01) and the buyer's third demand and what is claimed of it. The proofs stand in proofs/.
pub mod Ledger
pub mod Demand3
-- what is read into calls
pub mod ReadRuns
pub mod Demand3Reads
-- the desk on tokens in place of bytes
pub mod Tokens
-- the tokens and the history
pub mod HistoryTokens
pub mod EntryRow
