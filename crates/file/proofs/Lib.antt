pub mod Counted
pub mod Firsts
pub mod Opens
pub mod Parts
pub mod Tables
pub mod Sound
