pub mod Before
pub mod Behind
pub mod Entered
pub mod Rest
