pub mod ConsolidationStep
