pub mod Annals
pub mod Event
pub mod Holding
pub mod Refusals
pub mod Serial
pub mod Transactions
