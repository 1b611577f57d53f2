-- Laws that a mistake in a definition makes false: see must-fail/. Nothing here has to be believed.
pub mod Back
pub mod NormalTree
pub mod ReadsBack
pub mod SymbolReadsBack
pub mod Entries
pub mod NoDoubles
pub mod Limits
pub mod AnySpelling
pub mod Count
pub mod Decision
pub mod LowBytes
pub mod NormalForm
pub mod Examples
pub mod Starred
pub mod ManyArguments
