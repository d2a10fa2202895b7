pub mod Ledger
pub mod Demand3
pub mod LedgerLaws
pub mod ListLaws
pub mod Premises
