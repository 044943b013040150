pub mod Agrees
pub mod Lists
pub mod Stacks
pub mod Settle
pub mod Parts
pub mod Opens
