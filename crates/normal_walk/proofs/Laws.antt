-- Laws that a mistake in a definition makes false: see must-fail/. Nothing here has to be believed.
pub mod Examples
pub mod Digits
pub mod Leaves
pub mod Fewer
pub mod Fuel
pub mod Steps
pub mod NormalSpelling
pub mod Complete
pub mod SymbolComplete
pub mod Sound
pub mod SymbolSound
pub mod Equal
pub mod Sizes
