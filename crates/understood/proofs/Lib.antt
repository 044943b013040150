pub mod Knowings
