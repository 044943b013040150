pub mod Understood
