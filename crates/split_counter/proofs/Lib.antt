mod DigitLaws
mod Groups
mod Spelling
mod Zeros
