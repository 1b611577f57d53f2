-- Laws that a mistake in a definition makes false: see must-fail/. Nothing here has to be believed.
pub mod Productions
pub mod Equal
