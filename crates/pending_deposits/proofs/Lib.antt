pub mod DepositStep
